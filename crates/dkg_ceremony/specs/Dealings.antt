-- What the check of a dealing answers.
use Rattle.std.specs.Prelude.{ℕ, ◌+◌, ◌==◌, not, List, [], ◌∷◌, length, Option, Some, None, is_some, Result, Ok, Err, Bool, true, false, if◌then◌else◌}
use Rattle.dkg_ceremony.specs.declared.round.RoundParts.{RoundParts as Round}
use Rattle.dkg_ceremony.specs.declared.output.Output.{Output}
use Rattle.dkg_ceremony.specs.declared.ceremony.DealingError.{DealingError}
use Rattle.dkg_ceremony.specs.declared.ceremony.DealingError.TheVariants.{UnexpectedDealer, InvalidCommitmentDegree, MismatchedReshareCommitment, InvalidDealerShare}
use Rattle.dkg_values.specs.Rising.{index_of}
use Rattle.dkg_ceremony.specs.Thresholds.{quorum_of}
use Rattle.dkg_ceremony.specs.Polynomials.{value_at}

-- whether a number is the value of a polynomial at the point of an index
abbrev pub fits_at : Option ℕ → List ℕ → ℕ → Bool
fits_at None poly value = false
fits_at (Some index) poly value = value == value_at poly (index + 1)

-- whether the constant coefficient is the previous polynomial at the dealer's point
abbrev pub reshares : Option Output → ℕ → List ℕ → Bool
reshares None dealer public = true
reshares (Some o) dealer [] = false
reshares (Some o) dealer (c ∷ cs) = fits_at (index_of dealer o.players) o.sharing.poly c

-- what the check of a dealing answers to a player, of a dealer's two halves
unfoldable pub dealing_of : Round → (me dealer : ℕ) → List ℕ → ℕ → Result (Unit {0}) DealingError
dealing_of round me dealer public private =
    if not (is_some (index_of dealer round.dealers)) then Err UnexpectedDealer
    else if not (length public == quorum_of (length round.players)) then Err InvalidCommitmentDegree
    else if not (reshares round.previous dealer public) then Err MismatchedReshareCommitment
    else if not (fits_at (index_of me round.players) public private) then Err InvalidDealerShare
    else Ok tt
