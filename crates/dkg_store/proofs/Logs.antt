-- Recorded logs of one epoch by dealer, whatever their heights or up to the tip's: their keys rise.
use Rattle.std.proofs.Common.{◌≡◌, ℕ, Bool, true, false, cond, List, [], ◌∷◌, filter, refl, sym, ap, subst}
use Rattle.std.specs.List.{AllByRecursion}
use Rattle.std.specs.List.Sorted.{IsStrictlySortedBy, IsStrictlyIncreasing}
use Rattle.std.specs.Ordering.{nat_cmp}
use Rattle.std.specs.Prelude.{Option}
use Rattle.std.specs.declared.cmp.Ordering.TheVariants.{Less}
use Rattle.std.proofs.lemmas.Map.Keys.{IsStrictlyIncreasing-from_sorted}
use Rattle.dkg_values.specs.Rising.{keys_of}
use Rattle.dkg_store.specs.Noted.{Notes}
use Rattle.dkg_store.specs.Recorded.{at_epoch, bare_logs, is_reached, reached_logs}
use Rattle.dkg_store.specs.declared.recorded_log.RecordedLog.{RecordedLog}
use Rattle.dkg_store.proofs.Epochs.{sorted_epoch}

module _ {V : Type 0} (test : ℕ × V → Bool) where
  abbrev IsAbove : ℕ → List ℕ → Type 0
  IsAbove k ks = AllByRecursion (λ y. nat_cmp k y ≡ Less) ks

  still_above : (k : ℕ) (ps : List (ℕ × V)) → IsAbove k (keys_of ps) → IsAbove k (keys_of (filter test ps))
  still_above k [] all = tt
  still_above k (p ∷ ps) all = elim (test p) as (λ b. IsAbove k (keys_of (cond b (p ∷ filter test ps) (filter test ps)))) [
    | true ↦ (all.0, still_above k ps all.1)
    | false ↦ still_above k ps all.1
  ]

  -- some of what rises rise
  still_sorted : (ps : List (ℕ × V)) → IsStrictlySortedBy nat_cmp (keys_of ps) → IsStrictlySortedBy nat_cmp (keys_of (filter test ps))
  unfolding IsStrictlySortedBy
  still_sorted [] sorted = tt
  still_sorted (p ∷ ps) sorted = elim (test p) as (λ b. IsStrictlySortedBy nat_cmp (keys_of (cond b (p ∷ filter test ps) (filter test ps)))) [
    | true ↦ (still_above p.0 ps sorted.0, still_sorted ps sorted.1)
    | false ↦ still_sorted ps sorted.1
  ]

same_keys : (rs : List (ℕ × RecordedLog)) → keys_of (bare_logs rs) ≡ keys_of rs
same_keys [] = refl
same_keys (r ∷ rs) = ap (λ (ks : List ℕ). r.0 ∷ ks) (same_keys rs)

bare_sorted : (rs : List (ℕ × RecordedLog)) → IsStrictlySortedBy nat_cmp (keys_of rs) → IsStrictlyIncreasing (keys_of (bare_logs rs))
bare_sorted rs sorted = IsStrictlyIncreasing-from_sorted (keys_of (bare_logs rs)) (subst (IsStrictlySortedBy nat_cmp) (sym (same_keys rs)) sorted)

pub bare_rising : (epoch : ℕ) (m : Notes RecordedLog) → IsStrictlyIncreasing (keys_of (bare_logs (at_epoch epoch m)))
bare_rising epoch m = bare_sorted (at_epoch epoch m) (sorted_epoch epoch m)

pub reached_rising : (midpoint : ℕ) (tip : Option ℕ) (epoch : ℕ) (m : Notes RecordedLog) → IsStrictlyIncreasing (keys_of (reached_logs midpoint tip (at_epoch epoch m)))
reached_rising midpoint tip epoch m =
    let test : ℕ × RecordedLog → Bool = λ p. is_reached midpoint tip p.1 in
    bare_sorted (filter test (at_epoch epoch m)) (still_sorted test (at_epoch epoch m) (sorted_epoch epoch m))
