-- Pairs sorted by key keep the order of those of one key, so that dropping repeats leaves the first.
use Rattle.std.proofs.Common.{◌≡◌, ℕ, zero, suc, ◌+◌, ◌<◌, Bool, true, false, cond, eqb, List, [], ◌∷◌, length, get_or, Option, Some, None, refl, sym, ap, subst, ◌∙◌, arith}
use Rattle.std.specs.List.{filter, dedup, dedup_from}
use Rattle.std.specs.List.Sorted.{IsStrictlyIncreasing, IsSorted, IsSortedByKey, IsStableByKey, IsPermutation, ties}
use Rattle.std.specs.Ordering.{nat_cmp, is_lt}
use Rattle.std.proofs.lemmas.Bool.{eqb-true}
use Rattle.std.proofs.lemmas.Bool.Decides.{nat_tests}
use Rattle.std.proofs.lemmas.List.{length-map}
use Rattle.std.proofs.lemmas.List.Sorted.{length_permutation}
use Rattle.std.proofs.lemmas.Map.Keys.{IsStrictlyIncreasing-dedup}
use Rattle.dkg_values.specs.Rising.{keys_of, lookup, map_of}
use Rattle.dkg_values.specs.RisingLaws.{same_test, map_of-only}

-- whether two pairs have one key
abbrev pub one_key : {V : Type 0} → ℕ × V → ℕ × V → Bool
one_key p q = eqb p.0 q.0

abbrev pub key_of : {V : Type 0} → ℕ × V → ℕ
key_of p = p.0

-- ---- dropping repeats

keys_choice : {V : Type 0} (b : Bool) (xs ys : List (ℕ × V)) → keys_of (cond b xs ys) ≡ cond b (keys_of xs) (keys_of ys)
keys_choice true xs ys = refl
keys_choice false xs ys = refl

keys_from : {V : Type 0} (p : ℕ × V) (ps : List (ℕ × V)) → keys_of (dedup_from one_key p ps) ≡ dedup_from eqb p.0 (keys_of ps)
keys_from p [] = refl
keys_from p (q ∷ qs) =
    keys_choice (eqb q.0 p.0) (dedup_from one_key p qs) (p ∷ dedup_from one_key q qs)
    ∙ ap (λ (ks : List ℕ). cond (eqb q.0 p.0) ks (p.0 ∷ keys_of (dedup_from one_key q qs))) (keys_from p qs)
    ∙ ap (λ (ks : List ℕ). cond (eqb q.0 p.0) (dedup_from eqb p.0 (keys_of qs)) (p.0 ∷ ks)) (keys_from q qs)

pub dedup_keys : {V : Type 0} (ps : List (ℕ × V)) → keys_of (dedup one_key ps) ≡ dedup eqb (keys_of ps)
dedup_keys [] = refl
dedup_keys (p ∷ ps) = keys_from p ps

lookup_step : {V : Type 0} (b : Bool) (k : ℕ) (p q : ℕ × V) (qs : List (ℕ × V)) → eqb q.0 p.0 ≡ b → lookup k (dedup_from one_key p qs) ≡ lookup k (p ∷ qs) → lookup k (dedup_from one_key q qs) ≡ lookup k (q ∷ qs)
    → lookup k (cond b (dedup_from one_key p qs) (p ∷ dedup_from one_key q qs)) ≡ lookup k (p ∷ q ∷ qs)
lookup_step true k p q qs e here next = here ∙ same_test p.0 q.0 k (Some p.1) (Some q.1) (lookup k qs) (sym (eqb-true q.0 p.0 e))
lookup_step {V} false k p q qs e here next = ap (λ (o : Option V). cond (eqb p.0 k) (Some p.1) o) next

lookup_from : {V : Type 0} (k : ℕ) (p : ℕ × V) (ps : List (ℕ × V)) → lookup k (dedup_from one_key p ps) ≡ lookup k (p ∷ ps)
lookup_from k p [] = refl
lookup_from {V} k p (q ∷ qs) = lookup_step (eqb q.0 p.0) k p q qs refl (lookup_from k p qs) (lookup_from k q qs)

pub dedup_lookup : {V : Type 0} (k : ℕ) (ps : List (ℕ × V)) → lookup k (dedup one_key ps) ≡ lookup k ps
dedup_lookup k [] = refl
dedup_lookup k (p ∷ ps) = lookup_from k p ps

-- ---- a sort by key

key_from : {V : Type 0} (ps : List (ℕ × V)) (k : ℕ) (p : ℕ × V) (d : ℕ) → k < length ps → get_or (keys_of ps) k d ≡ (get_or ps k p).0
key_from [] k p d lt = absurd (omega arith)
key_from (q ∷ qs) zero p d lt = refl
key_from (q ∷ qs) (suc k) p d lt = key_from qs k p d (omega arith)

sorted_keys : {V : Type 0} (ps : List (ℕ × V)) → IsSortedByKey key_of nat_cmp ps → IsSorted nat_cmp (keys_of ps)
sorted_keys [] up k d le lt = absurd (omega arith)
sorted_keys {V} (p ∷ ps) up k d le lt =
    let long : k + 1 < length (p ∷ ps) = omega (arith, length-map (p ∷ ps) (λ (q : ℕ × V). q.0)) in
    let u = up k p le long in
    rw (key_from (p ∷ ps) (k + 1) p d long, key_from (p ∷ ps) k p d (omega arith)) u

-- the value of the first pair
first_value : {V : Type 0} → List (ℕ × V) → Option V
first_value [] = None
first_value (p ∷ ps) = Some p.1

abbrev below : {V : Type 0} → ℕ × V → ℕ × V → Bool
below x y = is_lt (nat_cmp x.0 y.0)

ties_are : {V : Type 0} (x y : ℕ × V) → ties below x y ≡ eqb y.0 x.0
ties_are x y = grind (arith, nat_tests)

filter_step : {V : Type 0} (b c : Bool) (p : ℕ × V) (rest : List (ℕ × V)) (o : Option V) → b ≡ c → first_value rest ≡ o → first_value (cond b (p ∷ rest) rest) ≡ cond c (Some p.1) o
unfolding first_value
filter_step true true p rest o e h = refl
filter_step true false p rest o e h = absurd cc
filter_step false true p rest o e h = absurd cc
filter_step false false p rest o e h = h

first_is : {V : Type 0} (k : ℕ) (v : V) (ps : List (ℕ × V)) → first_value (filter (ties below (k, v)) ps) ≡ lookup k ps
unfolding first_value
first_is k v [] = refl
first_is k v (p ∷ ps) = filter_step (ties below (k, v) p) (eqb p.0 k) p (filter (ties below (k, v)) ps) (lookup k ps) (ties_are (k, v) p) (first_is k v ps)

stable_lookup : {V : Type 0} (xs ys : List (ℕ × V)) → IsPermutation xs ys → IsStableByKey key_of nat_cmp xs ys → (k : ℕ) → lookup k ys ≡ lookup k xs
stable_lookup [] [] moved stable k = refl
stable_lookup [] (y ∷ ys) moved stable k = absurd (omega (arith, length_permutation _ _ moved))
stable_lookup (x ∷ xs) ys moved stable k =
    sym (first_is k x.1 ys) ∙ ap first_value (stable (k, x.1)) ∙ first_is k x.1 (x ∷ xs)

-- what the sort and the dropping leave
pub record Firsts {V : Type 0} (old new : List (ℕ × V)) : Type 0 where
  pub rising : IsStrictlyIncreasing (keys_of new)
  pub found : (k : ℕ) → lookup k new ≡ lookup k old
  pub is : new ≡ map_of old

pub firsts : {V : Type 0} (old mid new : List (ℕ × V)) → IsPermutation old mid → IsStableByKey key_of nat_cmp old mid → IsSortedByKey key_of nat_cmp mid → new ≡ dedup one_key mid → Firsts old new
firsts {V} old mid new moved stable sorted is =
    let up : IsStrictlyIncreasing (keys_of (dedup one_key mid)) = rw (dedup_keys mid) (IsStrictlyIncreasing-dedup (keys_of mid) (sorted_keys mid sorted)) in
    let same : (k : ℕ) → lookup k (dedup one_key mid) ≡ lookup k old = λ k. dedup_lookup k mid ∙ stable_lookup old mid moved stable k in
    let made : Firsts old (dedup one_key mid) = record { rising = up; found = same; is = map_of-only (dedup one_key mid) old up same } in
    subst (λ (l : List (ℕ × V)). Firsts old l) (sym is) made
