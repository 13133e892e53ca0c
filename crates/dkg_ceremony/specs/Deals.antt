-- What a dealer deals in a round.
use Rattle.std.specs.Prelude.{◌≡◌, ℕ, ◌+◌, ◌%◌, ◌==◌, not, Bool, true, false, List, [], ◌∷◌, ◌++◌, length, map, max, take, Option, Some, None, Result, Ok, Err, if◌then◌else◌}
use Rattle.std.specs.Int.{w16, w32, w64, to_be_bytes, from_be_bytes}
use Rattle.std.specs.List.{range_with_len}
use Rattle.sha2.specs.Sha256.{sha256}
use Rattle.dkg_values.specs.Rising.{index_of}
use Rattle.dkg_ceremony.specs.declared.round.RoundParts.{RoundParts as Round}
use Rattle.dkg_ceremony.specs.declared.output.Output.{Output}
use Rattle.dkg_ceremony.specs.declared.deal.DealError.{DealError}
use Rattle.dkg_ceremony.specs.declared.deal.DealError.TheVariants.{ShareRefused, NoMemory}
use Rattle.dkg_ceremony.specs.Polynomials.{prime, value_at}
use Rattle.dkg_ceremony.specs.Thresholds.{quorum_of}
use Rattle.dkg_ceremony.specs.Dealings.{fits_at}

-- A seed that is drawn anew: the digest of the life's random word and the epoch.
unfoldable pub fresh_seed : (word epoch : ℕ) → List ℕ
fresh_seed word epoch = sha256 (to_be_bytes w64 word ++ to_be_bytes w64 epoch)

-- a coefficient that is drawn from the seed
unfoldable pub coefficient_of : List ℕ → ℕ → ℕ
coefficient_of seed index = from_be_bytes w16 (take 2 (sha256 (seed ++ to_be_bytes w32 index))) % prime

-- a coefficient of the public half: the constant one is what is dealt again, where there is such a share
abbrev pub dealt_at : Option ℕ → List ℕ → ℕ → ℕ
dealt_at None seed index = coefficient_of seed index
dealt_at (Some share) seed index = if index == 0 then share else coefficient_of seed index

abbrev pub dealt_poly : Option ℕ → List ℕ → ℕ → List ℕ
dealt_poly share seed count = map (dealt_at share seed) (range_with_len 0 count)

-- the private half of each player, the first of whom stands at the index
abbrev pub halves_from : List ℕ → (index : ℕ) → List ℕ → List (ℕ × ℕ)
halves_from poly index [] = []
halves_from poly index (player ∷ players) = (player, value_at poly (index + 1)) ∷ halves_from poly (index + 1) players

-- Whether the share is the dealer's of the previous output. A new key needs none.
abbrev pub is_share_of : Option Output → (dealer : ℕ) → Option ℕ → Bool
is_share_of None dealer share = true
is_share_of (Some o) dealer None = false
is_share_of (Some o) dealer (Some share) = fits_at (index_of dealer o.players) o.sharing.poly share

-- what is dealt again
abbrev pub again_of : Option Output → Option ℕ → Option ℕ
again_of None share = None
again_of (Some o) share = share

-- How many coefficients are dealt: a quorum of the players. A round without players, which no ceremony draws up, has one.
abbrev pub dealt_length : ℕ → ℕ
dealt_length players = max (quorum_of players) 1

abbrev pub both_halves : List ℕ → List ℕ → List ℕ × List (ℕ × ℕ)
both_halves poly players = (poly, halves_from poly 0 players)

-- the public half and each player's private half, or why there are none
unfoldable pub deal_of : Round → (signer : ℕ) → Option ℕ → List ℕ → Result (List ℕ × List (ℕ × ℕ)) DealError
deal_of round signer share seed =
    if not (is_share_of round.previous signer share) then Err ShareRefused
    else Ok (both_halves (dealt_poly (again_of round.previous share) seed (dealt_length (length round.players))) round.players)

-- What a call answered is the answer, unless memory ran out.
abbrev pub AnswersDeal : Result (List ℕ × List (ℕ × ℕ)) DealError → Result (List ℕ × List (ℕ × ℕ)) DealError → Type 0
AnswersDeal answer (Ok dealt) = answer ≡ Ok dealt
AnswersDeal answer (Err NoMemory) = Unit {0}
AnswersDeal answer (Err e) = answer ≡ Err e
