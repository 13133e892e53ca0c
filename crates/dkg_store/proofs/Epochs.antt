-- What is recorded of one epoch has its keys rising.
use Rattle.std.proofs.Common.{◌≡◌, ℕ, ◌^◌, ◌==◌, nat_lt, arith, Bool, true, false, cond, List, [], ◌∷◌, map, filter, refl, sym, ◌∙◌, ap, subst}
use Rattle.std.specs.Prelude.{T, ◌&&◌}
use Rattle.std.specs.List.{AllByRecursion}
use Rattle.std.specs.List.Sorted.{IsStrictlySortedBy, IsStrictlyIncreasing}
use Rattle.std.specs.Ordering.{is_lt, nat_cmp, ordering_then}
use Rattle.std.specs.Cmp.{nat_cmp_total}
use Rattle.std.specs.declared.cmp.Ordering.{Ordering}
use Rattle.std.specs.declared.cmp.Ordering.TheVariants.{Less, Equal, Greater}
use Rattle.std.specs.FinMap.{entries, entries_sorted}
use Rattle.std.specs.FinMap.Entries.{is_sorted, below_all, is_sorted-where_key}
use Rattle.std.proofs.lemmas.Bool.Decides.{nat_tests}
use Rattle.std.proofs.lemmas.Cmp.{tied_itself}
use Rattle.std.proofs.lemmas.Map.Keys.{IsStrictlyIncreasing-from_sorted}
use Rattle.dkg_values.specs.Rising.{keys_of}
use Rattle.dkg_secrets.specs.Keys.{key_cmp}
use Rattle.dkg_store.specs.Noted.{Notes}
use Rattle.dkg_store.specs.Recorded.{at_epoch}

is_true : (b : Bool) → T b → b ≡ true
is_true true t = refl
is_true false t = absurd t

both_true : (a b : Bool) → (a && b) ≡ true → (a ≡ true) × (b ≡ true)
both_true true b e = (refl, e)
both_true false b e = absurd cc

less : (r : Ordering) → is_lt r ≡ true → r ≡ Less
less Less e = refl
less Equal e = absurd cc
less Greater e = absurd cc

-- of one epoch the other half of a key decides
in_one : (a b : ℕ × ℕ) (epoch : ℕ) → a.0 ≡ epoch → b.0 ≡ epoch → is_lt (key_cmp a b) ≡ true → nat_cmp a.1 b.1 ≡ Less
in_one a b epoch p q e =
    let tied : nat_cmp a.0 b.0 ≡ Equal = subst (λ (x : ℕ). nat_cmp a.0 x ≡ Equal) (p ∙ sym q) (tied_itself nat_cmp_total a.0) in
    less (nat_cmp a.1 b.1) (sym (ap (λ (r : Ordering). is_lt (ordering_then r (nat_cmp a.1 b.1))) tied) ∙ e)

abbrev within : ℕ → ℕ × ℕ → Bool
within epoch k = (k.0 == epoch) && nat_lt k.1 (2 ^ 32)

is_within : (epoch : ℕ) (k : ℕ × ℕ) → within epoch k ≡ true → k.0 ≡ epoch
is_within epoch k e = grind (arith, nat_tests)

module _ {V : Type 0} (epoch : ℕ) where
  abbrev IsOfEpoch : (ℕ × ℕ) × V → Type 0
  IsOfEpoch e = e.0.0 ≡ epoch

  abbrev keyed : (ℕ × ℕ) × V → ℕ × V
  keyed e = (e.0.1, e.1)

  below : (k : ℕ × ℕ) (es : List ((ℕ × ℕ) × V)) → k.0 ≡ epoch → AllByRecursion IsOfEpoch es → below_all key_cmp k es ≡ true → AllByRecursion (λ y. nat_cmp k.1 y ≡ Less) (keys_of (map keyed es))
  below k [] of all e = tt
  below k (x ∷ xs) of all e =
      let both = both_true (is_lt (key_cmp k x.0)) (below_all key_cmp k xs) e in
      (in_one k x.0 epoch of all.0 both.0, below k xs of all.1 both.1)

  sorted : (es : List ((ℕ × ℕ) × V)) → AllByRecursion IsOfEpoch es → is_sorted key_cmp es ≡ true → IsStrictlySortedBy nat_cmp (keys_of (map keyed es))
  unfolding IsStrictlySortedBy
  sorted [] all e = tt
  sorted (x ∷ xs) all e =
      let both = both_true (below_all key_cmp x.0 xs) (is_sorted key_cmp xs) e in
      (below x.0 xs all.0 all.1 both.0, sorted xs all.1 both.1)

  all_of : (es : List ((ℕ × ℕ) × V)) → AllByRecursion IsOfEpoch (filter (λ e. within epoch e.0) es)
  all_of [] = tt
  all_of (x ∷ xs) = elim (within epoch x.0) as (λ b. within epoch x.0 ≡ b → AllByRecursion IsOfEpoch (cond b (x ∷ filter (λ e. within epoch e.0) xs) (filter (λ e. within epoch e.0) xs))) [
    | true ↦ λ t. (is_within epoch x.0 t, all_of xs)
    | false ↦ λ t. all_of xs
  ] refl

  pub sorted_epoch : (m : Notes V) → IsStrictlySortedBy nat_cmp (keys_of (at_epoch epoch m))
  sorted_epoch m = sorted (filter (λ e. within epoch e.0) (entries m)) (all_of (entries m)) (is_true _ (is_sorted-where_key key_cmp (within epoch) (entries m) (entries_sorted m)))

  pub rising : (m : Notes V) → IsStrictlyIncreasing (keys_of (at_epoch epoch m))
  rising m = IsStrictlyIncreasing-from_sorted (keys_of (at_epoch epoch m)) (sorted_epoch m)
