-- Where no log lacks a dealing, a player's outcome lacks none.
use Rattle.std.proofs.Common.{◌≡◌, ℕ, Bool, true, false, cond, eqb, not, ◌&&◌, List, [], ◌∷◌, Option, Some, Result, Ok, Err, IsOk, refl, subst}
use Rattle.std.specs.Prelude.{IfErr}
use Rattle.std.specs.List.{AllByRecursion}
use Rattle.std.specs.Option.{option_map_or}
use Rattle.std.proofs.lemmas.Bool.{eqb-true}
use Rattle.dkg_values.specs.Rising.{lookup}
use Rattle.dkg_ceremony.specs.declared.dealer_log.DealerLog.{DealerLog}
use Rattle.dkg_ceremony.specs.declared.finish.FinishError.{FinishError}
use Rattle.dkg_ceremony.specs.declared.output.Output.{Output}
use Rattle.dkg_ceremony.specs.Finishes.{DealingMap, IsMissing, has_public}
use Rattle.dkg_ceremony.specs.Outcomes.{LogMap}

-- a dealer's log is one of those that pass a test
none_at : (test : ℕ → DealerLog → Bool) (logs : LogMap) → AllByRecursion (λ p. test p.0 p.1 ≡ false) logs → (dealer : ℕ) → option_map_or (λ log. test dealer log) (lookup dealer logs) false ≡ false
none_at test [] all dealer = refl
none_at test (p ∷ logs) all dealer = elim (eqb p.0 dealer) as (λ (b : Bool). eqb p.0 dealer ≡ b → option_map_or (λ log. test dealer log) (cond b (Some p.1) (lookup dealer logs)) false ≡ false) [
  | true ↦ λ is. subst (λ (d : ℕ). test d p.1 ≡ false) (eqb-true p.0 dealer is) all.0
  | false ↦ λ is. none_at test logs all.1 dealer
] refl

pub none_missing : (bears : ℕ → DealerLog → Bool) (dealings : DealingMap) (logs : LogMap) (selected : Option (List ℕ)) (found : Result (Option (Output × ℕ)) FinishError)
    → AllByRecursion (λ p. (bears p.0 p.1 && not (has_public p.1.public (lookup p.0 dealings))) ≡ false) logs → IfErr found (IsMissing bears dealings logs selected) → IsOk found
none_missing bears dealings logs selected (Ok f) all missing = refl
none_missing bears dealings logs selected (Err e) all missing =
    let none = none_at (λ dealer log. bears dealer log && not (has_public log.public (lookup dealer dealings))) logs all missing.dealer in
    let some = missing.lacks in
    absurd (cc)
