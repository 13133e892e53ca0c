-- What lies in a range of keys.
use Rattle.std.proofs.Common.{◌≡◌, ℕ, ◌+◌, ◌==◌, nat_lt, Bool, List, [], ◌∷◌, cond, refl, ap, ◌∙◌, arith}
use Rattle.std.specs.Prelude.{◌&&◌, filter}
use Rattle.std.specs.Ordering.{nat_cmp}
use Rattle.std.specs.BTreeMap.Range.{range_contains}
use Rattle.std.specs.declared.ops.Bound.TheVariants.{Included, Excluded, Unbounded}
use Rattle.std.proofs.lemmas.Bool.Decides.{nat_tests}
use Rattle.dkg_secrets.specs.Keys.{key_cmp}

pub filter_alike : {X : Type 0} (p q : X → Bool) → ((x : X) → p x ≡ q x) → (xs : List X) → filter p xs ≡ filter q xs
filter_alike p q same [] = refl
filter_alike p q same (x ∷ xs) = ap (λ b. cond b (x ∷ filter p xs) (filter p xs)) (same x) ∙ ap (λ ys. cond (q x) (x ∷ ys) ys) (filter_alike p q same xs)

pub in_epoch_below : (top all epoch : ℕ) (k : ℕ × ℕ) → all ≡ top + 1 → range_contains key_cmp (Included (epoch, 0)) (Included (epoch, top)) k ≡ ((k.0 == epoch) && nat_lt k.1 all)
in_epoch_below top all epoch k is = grind (arith, nat_tests)

pub number_below : (min k : ℕ) → range_contains nat_cmp Unbounded (Excluded min) k ≡ nat_lt k min
number_below min k = grind (arith, nat_tests)

pub pair_below : (min : ℕ) (k : ℕ × ℕ) → range_contains key_cmp Unbounded (Excluded (min, 0)) k ≡ nat_lt k.0 min
pair_below min k = grind (arith, nat_tests)
