-- Lists in the order of their keys, by the numbers of the keys.
use Rattle.std.proofs.Common.{◌≡◌, ℕ, Bool, true, false, cond, List, [], ◌∷◌, ◌++◌, Some, None, refl, ◌∙◌, ap, arith}
use Rattle.std.specs.Prelude.{T, ◌&&◌}
use Rattle.std.specs.Ordering.{nat_cmp, is_eq, is_lt}
use Rattle.std.specs.declared.cmp.Ordering.{Ordering}
use Rattle.std.specs.FinMap.Entries.{find, is_sorted, below_all}
use Rattle.std.proofs.lemmas.Bool.Decides.{nat_tests}

pub both_true : (a b : Bool) → T (a && b) → (a ≡ true) × T b
both_true true b h = (refl, h)
both_true false b h = absurd h

pub both_are : (a b : Bool) → (a && b) ≡ true → (a ≡ true) × (b ≡ true)
both_are true b is = (refl, is)
both_are false b is = absurd (let h : ◌≡◌ {A = Bool} false true = is in cc)

is_T : (a : Bool) → T a → a ≡ true
is_T true h = refl
is_T false h = absurd h

less_apart : (a b : ℕ) → is_lt (nat_cmp a b) ≡ true → is_eq (nat_cmp a b) ≡ false
less_apart a b is = grind (arith, nat_tests)

less_back : (a b : ℕ) → is_lt (nat_cmp a b) ≡ true → is_eq (nat_cmp b a) ≡ false
less_back a b is = grind (arith, nat_tests)

-- by their numbers
abbrev pub by_number : {K : Type 0} → (K → ℕ) → K → K → Ordering
by_number number a b = nat_cmp (number a) (number b)

module _ {K X : Type 0} (number : K → ℕ) where
  -- a key below all is not among them
  pub below_none : (q : K) (es : List (K × X)) → below_all (by_number number) q es ≡ true → find (by_number number) q es ≡ None
  below_none q [] below = refl
  below_none q (e ∷ es) below =
      let parts = both_are (is_lt (by_number number q e.0)) (below_all (by_number number) q es) below in
      ap (λ (b : Bool). cond b (Some e.1) (find (by_number number) q es)) (less_apart (number q) (number e.0) parts.0) ∙ below_none q es parts.1

  below_middle : (x : K) (es : List (K × X)) (k : K) (v : X) (fs : List (K × X)) → below_all (by_number number) x (es ++ (k, v) ∷ fs) ≡ true → is_lt (by_number number x k) ≡ true
  below_middle x [] k v fs below = (both_are (is_lt (by_number number x k)) (below_all (by_number number) x fs) below).0
  below_middle x (e ∷ es) k v fs below = below_middle x es k v fs (both_are (is_lt (by_number number x e.0)) (below_all (by_number number) x (es ++ (k, v) ∷ fs)) below).1

  -- .. and none stands before it
  pub not_before : (es : List (K × X)) (k : K) (v : X) (fs : List (K × X)) → T (is_sorted (by_number number) (es ++ (k, v) ∷ fs)) → find (by_number number) k es ≡ None
  not_before [] k v fs sorted = refl
  not_before (e ∷ es) k v fs sorted =
      let parts = both_true (below_all (by_number number) e.0 (es ++ (k, v) ∷ fs)) (is_sorted (by_number number) (es ++ (k, v) ∷ fs)) sorted in
      ap (λ (b : Bool). cond b (Some e.1) (find (by_number number) k es)) (less_back (number e.0) (number k) (below_middle e.0 es k v fs parts.0)) ∙ not_before es k v fs parts.1

  pub find_middle : (es : List (K × X)) (k : K) (v : X) (fs : List (K × X)) → T (is_sorted (by_number number) (es ++ (k, v) ∷ fs)) → find (by_number number) k (es ++ (k, v) ∷ fs) ≡ Some v
  find_middle [] k v fs sorted = ap (λ (b : Bool). cond b (Some v) (find (by_number number) k fs)) (itself (number k))
    where
      itself : (n : ℕ) → is_eq (nat_cmp n n) ≡ true
      itself n = grind (arith, nat_tests)
  find_middle (e ∷ es) k v fs sorted =
      let parts = both_true (below_all (by_number number) e.0 (es ++ (k, v) ∷ fs)) (is_sorted (by_number number) (es ++ (k, v) ∷ fs)) sorted in
      ap (λ (b : Bool). cond b (Some e.1) (find (by_number number) k (es ++ (k, v) ∷ fs))) (less_back (number e.0) (number k) (below_middle e.0 es k v fs parts.0)) ∙ find_middle es k v fs parts.1
