-- What a ceremony promises of a round that is finished.
use Rattle.std.specs.Prelude.{◌≡◌, ℕ, true, false, Option, Some, IfSome, option_map, Ok}
use Rattle.dkg_values.specs.Rising.{lookup}
use Rattle.dkg_ceremony.specs.declared.output.Output.{Output}
use Rattle.dkg_ceremony.specs.declared.round.RoundParts.{RoundParts as Round}
use Rattle.dkg_ceremony.specs.Finishes.{DealingMap}
use Rattle.dkg_ceremony.specs.Outcomes.{LogMap}
use Rattle.dkg_core.specs.Fixed.{Fixed, has, stand_in}
use Rattle.dkg_core.specs.Setup.{is_lost}

-- A player that lacks no dealing finishes, with the round's outcome. Where all its dealings are valid, its share fits the output.
pub record IsFinishing {Dir : Type 0} (c : Fixed Dir) : Type 0 where
  pub finishes : (round : Round) (dealings : DealingMap) (logs : LogMap) → is_lost c round dealings logs ≡ false
      → (found : Option (Output × ℕ)) × (c.rules.finish_of round c.me dealings logs ≡ Ok found) × (option_map (λ f. f.0) found ≡ c.rules.outcome_of round logs)
  pub fits : (round : Round) (dealings : DealingMap) (logs : LogMap) (output : Output) (share : ℕ) → has round.players c.me ≡ true
      → ((dealer : ℕ) → IfSome (lookup dealer dealings) (λ d. c.rules.dealing_of round c.me dealer d.0 d.1 ≡ Ok tt))
      → c.rules.finish_of round c.me dealings logs ≡ Ok (Some (output, share)) → c.rules.partial_public_of output c.me ≡ Some (c.rules.share_public_of share)

-- THE STAND-IN'S RULES promise it.
abbrev pub StandInsFinish : Type 0 → Type 0
StandInsFinish Dir = (c : Fixed Dir) → c.rules ≡ stand_in → IsFinishing c
