-- What holds at and above a minimum.
use Rattle.std.proofs.Common.{◌≡◌, ℕ, ◌≤◌, List, [], ◌∷◌, fold, Option, Some, None, IsSome, refl, sym, ◌∙◌, ap, subst}
use Rattle.std.specs.List.{AllByRecursion}
use Rattle.std.specs.FinMap.{get, empty}
use Rattle.dkg_journal.specs.Names.{Files}
use Rattle.dkg_journal.specs.Records.{SectionEntry, entries}
use Rattle.dkg_secrets.specs.Secrets.{Secrets}
use Rattle.dkg_store.specs.Pairs.{Pairs, Dealing, recorded_dealing, with_half, with_dealing, recovered, HasHalf, IsWhole, AreAtOrAbove, HoldsDealings}
use Rattle.dkg_store.proofs.Pairs.{half_there, fold_stays, step}

-- the dealing of a record, if it is one, is recovered
abbrev pub IsThere : Pairs → Option Dealing → Type 0
IsThere m None = Unit {0}
IsThere m (Some d) = IsSome (get m d.key)

there_now : (s : Secrets) (m : Pairs) (o : Option Dealing) → HasHalf s o → IsThere (with_dealing s m o) o
there_now s m None has = tt
there_now s m (Some d) has = half_there m d (get s.privates d.key) has

there_still : (s : Secrets) (es : List SectionEntry) (m : Pairs) (o : Option Dealing) → IsThere m o → IsThere (fold (step s) m es) o
there_still s es m None there = tt
there_still s es m (Some d) there = fold_stays s d.key es m there

-- where each record has its private half, all are recovered
pub all_there : (s : Secrets) (es : List SectionEntry) (m : Pairs) → IsWhole es s → AllByRecursion (λ e. IsThere (fold (step s) m es) (recorded_dealing e)) es
all_there s [] m whole = tt
all_there s (e ∷ es) m whole = (there_still s es (step s m e) (recorded_dealing e) (there_now s m (recorded_dealing e) whole.0), all_there s es (step s m e) whole.1)

module _ (min : ℕ) (pairs : Pairs) (above : AreAtOrAbove min pairs) (s t : Secrets) (halves : (k : ℕ × ℕ) → min ≤ k.0 → get t.privates k ≡ get s.privates k) where
  half_still : (o : Option Dealing) → IsThere pairs o → HasHalf s o → HasHalf t o
  half_still None there has = tt
  half_still (Some d) there has = subst IsSome (sym (halves d.key (above d.key there))) has

  whole_still : (es : List SectionEntry) → AllByRecursion (λ e. IsThere pairs (recorded_dealing e)) es → IsWhole es s → IsWhole es t
  whole_still [] there whole = tt
  whole_still (e ∷ es) there whole = (half_still (recorded_dealing e) there.0 whole.0, whole_still es there.1 whole.1)

  same_one : (m : Pairs) (o : Option Dealing) → IsThere pairs o → with_dealing t m o ≡ with_dealing s m o
  same_one m None there = refl
  same_one m (Some d) there = ap (with_half m d) (halves d.key (above d.key there))

  same_fold : (es : List SectionEntry) (m : Pairs) → AllByRecursion (λ e. IsThere pairs (recorded_dealing e)) es → fold (step t) m es ≡ fold (step s) m es
  same_fold [] m there = refl
  same_fold (e ∷ es) m there = ap (λ (n : Pairs). fold (step t) n es) (same_one m (recorded_dealing e) there.0) ∙ same_fold es (step s m e) there.1

  there_in : (es : List SectionEntry) → IsWhole es s → recovered es s ≡ pairs → AllByRecursion (λ e. IsThere pairs (recorded_dealing e)) es
  there_in es whole gives = subst (λ (m : Pairs). AllByRecursion (λ e. IsThere m (recorded_dealing e)) es) gives (all_there s es empty whole)

  -- Where the private halves at and above the minimum are the same, and no dealing is below it, what holds does.
  pub above_holds : (image : Files → Type 0) → HoldsDealings pairs image s → HoldsDealings pairs image t
  above_holds image holds = record {
    whole = λ c here. whole_still (entries c) (there_in (entries c) (holds.whole c here) (holds.gives c here)) (holds.whole c here);
    gives = λ c here. same_fold (entries c) empty (there_in (entries c) (holds.whole c here) (holds.gives c here)) ∙ holds.gives c here;
  }
