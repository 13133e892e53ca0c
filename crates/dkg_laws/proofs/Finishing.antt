-- The stand-in's rules promise what is asked of a round that is finished.
use Rattle.std.proofs.Common.{◌≡◌, ℕ, Bool, true, false, [], ◌∷◌, Option, Some, refl, sym, ◌∙◌, ap, subst, arith}
use Rattle.std.specs.Prelude.{◌==◌, ◌&&◌, ◌||◌, IfErr, IfOk, IfSome, Result, Ok, Err, if◌then◌else◌, not, option_map}
use Rattle.std.specs.List.{list_any}
use Rattle.std.specs.Option.{option_map_or}
use Rattle.std.proofs.lemmas.Bool.Decides.{nat_tests}
use Rattle.dkg_values.specs.IndexLaws.{Contains-index_of}
use Rattle.dkg_values.specs.Rising.{lookup}
use Rattle.dkg_ceremony.specs.declared.dealer_log.DealerLog.{DealerLog}
use Rattle.dkg_ceremony.specs.declared.finish.FinishError.{FinishError}
use Rattle.dkg_ceremony.specs.declared.output.Output.{Output}
use Rattle.dkg_ceremony.specs.declared.round.RoundParts.{RoundParts as Round}
use Rattle.dkg_ceremony.specs.Dealings.{dealing_of}
use Rattle.dkg_ceremony.specs.Finishes.{DealingMap, IsMissing, has_public, finish_of}
use Rattle.dkg_ceremony.specs.Outcomes.{LogMap, selected_of, outcome_of}
use Rattle.dkg_ceremony.specs.PartialPublics.{partial_public_of, share_public_of}
use Rattle.dkg_ceremony.specs.ShareLaws as shares
use Rattle.dkg_ceremony.specs.ValidLogs.{bears_ack_of}
use Rattle.dkg_core.specs.Fixed.{Fixed, Rules, has, stand_in}
use Rattle.dkg_core.specs.Finishing.{IsFinishing, StandInsFinish}

-- WHAT IS FOUND IS AMONG THEM

same_key : (n m : ℕ) → (n == m) ≡ true → n ≡ m
same_key n m e = grind (arith, nat_tests)

or_second : (a t : Bool) → t ≡ true → (a || t) ≡ true
or_second true t e = refl
or_second false t e = e

or_first : (a t : Bool) → a ≡ true → (a || t) ≡ true
or_first a t e = ap (λ (x : Bool). x || t) e

module _ (test : ℕ → DealerLog → Bool) where
  -- a test that passes of the log that is found of a dealer passes of some log
  found_any : (dealer : ℕ) (logs : LogMap) → option_map_or (test dealer) (lookup dealer logs) false ≡ true → list_any (λ (log : ℕ × DealerLog). test log.0 log.1) logs ≡ true
  found_any dealer [] e = absurd (let no : ◌≡◌ {A = Bool} false true = e in cc)
  found_any dealer (log ∷ logs) e = either (log.0 == dealer) refl (found_any dealer logs) e
    where
      either : (t : Bool) → (log.0 == dealer) ≡ t
          → (option_map_or (test dealer) (lookup dealer logs) false ≡ true → list_any (λ (log : ℕ × DealerLog). test log.0 log.1) logs ≡ true)
          → option_map_or (test dealer) (if t then Some log.1 else lookup dealer logs) false ≡ true
          → list_any (λ (log : ℕ × DealerLog). test log.0 log.1) (log ∷ logs) ≡ true
      either true is more passes =
          or_first (test log.0 log.1) (list_any (λ (log : ℕ × DealerLog). test log.0 log.1) logs) (ap (λ (d : ℕ). test d log.1) (same_key log.0 dealer is) ∙ passes)
      either false is more passes = or_second (test log.0 log.1) (list_any (λ (log : ℕ × DealerLog). test log.0 log.1) logs) (more passes)

-- THE STAND-IN

-- a log bears the player's acknowledgement of a dealing that isn't there
abbrev lacks : Round → (me : ℕ) → DealingMap → ℕ → DealerLog → Bool
lacks round me dealings dealer log = bears_ack_of round dealer log me && not (has_public log.public (lookup dealer dealings))

apart : (t : Bool) → t ≡ true → t ≡ false → ⊥
apart t is other = cc

module _ (round : Round) (me : ℕ) (dealings : DealingMap) (logs : LogMap) (whole : list_any (λ (log : ℕ × DealerLog). lacks round me dealings log.0 log.1) logs ≡ false) where
  abbrev Found : Result (Option (Output × ℕ)) FinishError → Type 0
  Found answer = (found : Option (Output × ℕ)) × (answer ≡ Ok found) × (option_map (λ f. f.0) found ≡ outcome_of round logs)

  by_answer : (answer : Result (Option (Output × ℕ)) FinishError) → IfOk answer (λ found. option_map (λ f. f.0) found ≡ outcome_of round logs)
      → IfErr answer (IsMissing (λ dealer log. bears_ack_of round dealer log me) dealings logs (selected_of round logs)) → Found answer
  by_answer (Ok found) agrees missing = (found, refl, agrees)
  by_answer (Err e) agrees missing =
      absurd (apart (list_any (λ (log : ℕ × DealerLog). lacks round me dealings log.0 log.1) logs) (found_any (lacks round me dealings) missing.dealer logs missing.lacks) whole)

  finishes : Found (finish_of round me dealings logs)
  finishes = by_answer (finish_of round me dealings logs) (shares.finish_agrees round me dealings logs) (shares.missing_lacks round me dealings logs)

fits : (round : Round) (me : ℕ) (dealings : DealingMap) (logs : LogMap) (output : Output) (share : ℕ) → has round.players me ≡ true
    → ((dealer : ℕ) → IfSome (lookup dealer dealings) (λ d. dealing_of round me dealer d.0 d.1 ≡ Ok tt)) → finish_of round me dealings logs ≡ Ok (Some (output, share))
    → partial_public_of output me ≡ Some (share_public_of share)
fits round me dealings logs output share plays valid found =
    subst (λ (answer : Result (Option (Output × ℕ)) FinishError). IfOk answer (shares.FitsOutput me)) found
    (shares.shares_fit round me dealings logs (Contains-index_of me round.players plays) valid)

-- .. of a life
module _ {Dir : Type 0} (c : Fixed Dir) where
  abbrev with_rules : Rules → Fixed Dir
  with_rules rules = record c { rules = rules }

  of_stand_in : IsFinishing (with_rules stand_in)
  of_stand_in = record {
    finishes = λ round dealings logs whole. finishes round c.me dealings logs whole;
    fits = λ round dealings logs output share plays valid found. fits round c.me dealings logs output share plays valid found;
  }

pub stand_ins_finish : {Dir : Type 0} → StandInsFinish Dir
stand_ins_finish c is = subst (λ (rules : Rules). IsFinishing (with_rules c rules)) (sym is) (of_stand_in c)
