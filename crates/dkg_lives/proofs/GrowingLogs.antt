-- What is recorded of dealers' logs are first ones, and all of them up to the tip: so it stays when the next block of the chain is looked at.
use Rattle.std.proofs.Common.{◌≡◌, ◌<◌, ◌≤◌, ◌+◌, ◌==◌, ◌⊎◌, inl, inr, ℕ, Bool, true, false, Option, Some, None, arith, refl, sym, ◌∙◌, ap, subst}
use Rattle.std.specs.Prelude.{IsSome}
use Rattle.std.proofs.lemmas.Bool.Decides.{nat_tests}
use Rattle.std.proofs.lemmas.Bool.{cases_lt}
use Rattle.dkg_ceremony.specs.declared.dealer_log.DealerLog.{DealerLog}
use Rattle.dkg_store.specs.declared.recorded_log.RecordedLog.{RecordedLog}
use Rattle.dkg_core.specs.Logs.{recorded_log}
use Rattle.dkg_laws.specs.LogsRecorded.{first_of_both}
use Rattle.dkg_lives.proofs.FirstLogs.{IsFirst, NoneIn, first_of}

some_is : {A : Type 0} {x y : A} → ◌≡◌ {A = Option A} (Some x) (Some y) → x ≡ y
some_is e = cc

none_some : {A : Type 0} {x : A} → ◌≡◌ {A = Option A} None (Some x) → ⊥
none_some e = cc

-- `Early` is what a log that is noted without a height has of the height where it stands.
module _ (brings : ℕ → Option (ℕ × DealerLog)) (Early : ℕ → Type 0) where
  abbrev pub IsAtIts : Option ℕ → ℕ → Type 0
  IsAtIts (Some noted) height = noted ≡ height
  IsAtIts None height = Early height

  -- each is a first log, at its height,
  abbrev pub AreSound : (ℕ → Option RecordedLog) → Type 0
  AreSound recorded = (dealer : ℕ) (noted : RecordedLog) → recorded dealer ≡ Some noted → (height : ℕ) × IsFirst brings dealer height noted.log × IsAtIts noted.height height

  -- .. and each first log that a height brings is there
  abbrev pub HasThose : (ℕ → Option RecordedLog) → (height : ℕ) → Type 0
  HasThose recorded height = (dealer : ℕ) (log : DealerLog) → IsFirst brings dealer height log → IsSome (recorded dealer)

  -- those of all heights below this one
  abbrev pub HasBelow : (ℕ → Option RecordedLog) → (bound : ℕ) → Type 0
  HasBelow recorded bound = (height : ℕ) → height < bound → HasThose recorded height

  -- THE NEXT HEIGHT is looked at: what it brings is recorded, unless one of the dealer is, and nothing else changes.
  pub record IsLookedAt (recorded now : ℕ → Option RecordedLog) (height : ℕ) : Type 0 where
    pub brought : (dealer : ℕ) (log : DealerLog) → brings height ≡ Some (dealer, log) → now dealer ≡ Some (first_of_both (recorded dealer) (recorded_log height log))
    pub others : (dealer : ℕ) → ((log : DealerLog) → brings height ≡ Some (dealer, log) → ⊥) → now dealer ≡ recorded dealer

  module _ (recorded now : ℕ → Option RecordedLog) (height : ℕ) (looked : IsLookedAt recorded now height) where
    -- one of this dealer is brought, or none is
    either : (dealer : ℕ) → ((log : DealerLog) × (brings height ≡ Some (dealer, log))) ⊎ ((log : DealerLog) → brings height ≡ Some (dealer, log) → ⊥)
    either dealer = by_item (brings height) refl
      where
        same_number : (x y : ℕ) → (x == y) ≡ true → x ≡ y
        same_number x y e = grind (arith, nat_tests)

        not_same : (x : ℕ) → (x == x) ≡ false → ⊥
        not_same x e = grind (arith, nat_tests)

        by_item : (o : Option (ℕ × DealerLog)) → brings height ≡ o → ((log : DealerLog) × (brings height ≡ Some (dealer, log))) ⊎ ((log : DealerLog) → brings height ≡ Some (dealer, log) → ⊥)
        by_item None is = inr (λ log there. none_some (sym is ∙ there))
        by_item (Some (who, its)) is = by_test (who == dealer) refl
          where
            by_test : (t : Bool) → (who == dealer) ≡ t → ((log : DealerLog) × (brings height ≡ Some (dealer, log))) ⊎ ((log : DealerLog) → brings height ≡ Some (dealer, log) → ⊥)
            by_test true same = inl (its, is ∙ ap (λ (d : ℕ). Some (d, its)) (same_number who dealer same))
            by_test false apart = inr (λ log there. not_same dealer (subst (λ (d : ℕ). (d == dealer) ≡ false) (ap (λ (p : ℕ × DealerLog). p.0) (some_is (sym is ∙ there))) apart))

    still_there : (dealer : ℕ) → IsSome (recorded dealer) → IsSome (now dealer)
    still_there dealer some = by_case (either dealer)
      where
        by_case : ((log : DealerLog) × (brings height ≡ Some (dealer, log))) ⊎ ((log : DealerLog) → brings height ≡ Some (dealer, log) → ⊥) → IsSome (now dealer)
        by_case (inl (log, is)) = subst (λ (o : Option RecordedLog). IsSome o) (sym (looked.brought dealer log is)) refl
        by_case (inr none) = subst (λ (o : Option RecordedLog). IsSome o) (sym (looked.others dealer none)) some

    -- what was there at a height stays
    pub those_stay : (at : ℕ) → HasThose recorded at → HasThose now at
    those_stay at has dealer log first = still_there dealer (has dealer log first)

    -- .. and what this height brings is there
    pub those_here : HasThose now height
    those_here dealer log first = subst (λ (o : Option RecordedLog). IsSome o) (sym (looked.brought dealer log first.here)) refl

    pub below_next : HasBelow recorded height → HasBelow now (height + 1)
    below_next has at low = by_order (cases_lt at height)
      where
        by_order : (at < height) ⊎ (height ≤ at) → HasThose now at
        by_order (inl below) = those_stay at (has at below)
        by_order (inr above) = let here : height ≡ at = omega (arith, low, above) in subst (HasThose now) here those_here

    -- a log that is new is the first of its dealer, where all below are there
    pub sound_next : HasBelow recorded height → AreSound recorded → AreSound now
    sound_next has sound dealer noted is = by_case (either dealer)
      where
        by_before : (log : DealerLog) → brings height ≡ Some (dealer, log) → (o : Option RecordedLog) → recorded dealer ≡ o → first_of_both o (recorded_log height log) ≡ noted
            → (at : ℕ) × IsFirst brings dealer at noted.log × IsAtIts noted.height at
        by_before log brought (Some before) was same = sound dealer noted (was ∙ ap (λ (r : RecordedLog). Some r) same)
        by_before log brought None was same = (
          height,
          subst (λ (r : RecordedLog). IsFirst brings dealer height r.log) same (record { here = brought; first = none_before }),
          subst (λ (r : RecordedLog). IsAtIts r.height height) same refl,
        )
          where
            none_before : NoneIn brings dealer 0 height
            none_before at other low below there =
                let first = first_of brings dealer at other there in
                let some : IsSome (recorded dealer) = has first.0 (let under = first.2 in omega (arith, under, below)) dealer first.1 first.3 in
                let no : false ≡ true = subst (λ (o : Option RecordedLog). IsSome o) was some in
                cc

        by_case : ((log : DealerLog) × (brings height ≡ Some (dealer, log))) ⊎ ((log : DealerLog) → brings height ≡ Some (dealer, log) → ⊥) → (at : ℕ) × IsFirst brings dealer at noted.log × IsAtIts noted.height at
        by_case (inl (log, brought)) = by_before log brought (recorded dealer) refl (some_is (sym (looked.brought dealer log brought) ∙ is))
        by_case (inr none) = sound dealer noted (sym (looked.others dealer none) ∙ is)
