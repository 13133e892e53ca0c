-- Lists that rise are told apart by their members, and rising pairs by what is found in them.
use Rattle.std.proofs.Common.{◌≡◌, ℕ, zero, suc, ◌+◌, ◌<◌, ◌≤◌, Bool, true, false, cond, eqb, ◌||◌, List, [], ◌∷◌, length, get_or, inl, inr, refl, sym, ap, subst, ◌∙◌, arith, Option, Some, None}
use Rattle.std.specs.Prelude.{Contains}
use Rattle.std.specs.List.{position_from}
use Rattle.std.specs.List.Sorted.{IsStrictlyIncreasing}
use Rattle.std.proofs.lemmas.Bool.{eqb-true, eq-eqb, lt-ltb, le-ltb, cases_lt}
use Rattle.std.proofs.lemmas.Bool.Decides.{nat_tests}
use Rattle.std.proofs.lemmas.Cmp.{nat_eq_equiv}
use Rattle.std.proofs.lemmas.Map.Views.{list_any-from_Contains, Contains-from_any}
use Rattle.dkg_values.specs.Rising.{Rises, has_key, with_key, set_of, with_pair, map_of, lookup, keys_of, index_of, IsSetOf}

-- ---- two ways to say that keys rise

rises_shift : (x : ℕ) (xs : List ℕ) → IsStrictlyIncreasing (x ∷ xs) → IsStrictlyIncreasing xs
rises_shift x xs up k lt =
    let next : suc k + 1 ≡ suc (k + 1) = omega arith in
    subst (λ (j : ℕ). get_or xs k 0 < get_or (x ∷ xs) j 0) next (up (suc k) (omega arith))

rises_from-at : (least : ℕ) (xs : List ℕ) → ((0 < length xs) → least ≤ get_or xs 0 0) → IsStrictlyIncreasing xs → Rises least xs
rises_from-at least [] first up = tt
rises_from-at least (x ∷ xs) first up = (first (omega arith), rises_from-at (x + 1) xs (λ some. omega (arith, up 0 (omega arith))) (rises_shift x xs up))

pub rises_from : (xs : List ℕ) → IsStrictlyIncreasing xs → Rises 0 xs
rises_from xs up = rises_from-at 0 xs (λ _. omega arith) up

pub rises_least : (least : ℕ) (xs : List ℕ) → Rises least xs → 0 < length xs → least ≤ get_or xs 0 0
rises_least least [] r some = absurd (omega arith)
rises_least least (x ∷ xs) r some = r.0

pub rises_to : (least : ℕ) (xs : List ℕ) → Rises least xs → IsStrictlyIncreasing xs
rises_to least [] r k lt = absurd (omega arith)
rises_to least (x ∷ xs) r zero lt = omega (arith, rises_least (x + 1) xs r.1 (omega arith))
rises_to least (x ∷ xs) r (suc k) lt =
    let next : suc (k + 1) ≡ suc k + 1 = omega arith in
    subst (λ (j : ℕ). get_or xs k 0 < get_or (x ∷ xs) j 0) next (rises_to (x + 1) xs r.1 k (omega arith))

rises_above : (least : ℕ) (xs : List ℕ) (i : ℕ) → Rises least xs → i < length xs → least ≤ get_or xs i 0
rises_above least [] i r lt = absurd (omega arith)
rises_above least (x ∷ xs) zero r lt = r.0
rises_above least (x ∷ xs) (suc i) r lt = omega (arith, r.0, rises_above (x + 1) xs i r.1 (omega arith))

pub apart : (x y : ℕ) → (x ≡ y → ⊥) → eqb x y ≡ false
apart x y h = elim (cases_lt x y) [ inl lt ↦ grind (arith, nat_tests) | inr ge ↦ elim (cases_lt y x) [ inl gt ↦ grind (arith, nat_tests) | inr le ↦ absurd (h (omega arith)) ] ]

rises_far-at : (least : ℕ) (xs : List ℕ) (i j : ℕ) → Rises least xs → i ≤ j → j < length xs → get_or xs i 0 ≤ get_or xs j 0
rises_far-at least [] i j r le lt = absurd (omega arith)
rises_far-at least (x ∷ xs) zero zero r le lt = omega arith
rises_far-at least (x ∷ xs) zero (suc j) r le lt = omega (arith, rises_above (x + 1) xs j r.1 (omega arith))
rises_far-at least (x ∷ xs) (suc i) zero r le lt = absurd (omega arith)
rises_far-at least (x ∷ xs) (suc i) (suc j) r le lt = rises_far-at (x + 1) xs i j r.1 (omega arith) (omega arith)

-- a later index has no lower key
pub rises_far : (xs : List ℕ) (i j : ℕ) → IsStrictlyIncreasing xs → i ≤ j → j < length xs → get_or xs i 0 ≤ get_or xs j 0
rises_far xs i j up le lt = rises_far-at 0 xs i j (rises_from xs up) le lt

pub rises_less : (least more : ℕ) (xs : List ℕ) → least ≤ more → Rises more xs → Rises least xs
rises_less least more [] le r = tt
rises_less least more (x ∷ xs) le r = (omega (arith, r.0), r.1)

-- ---- members

below_none : (least x : ℕ) (xs : List ℕ) → x < least → Rises least xs → has_key x xs ≡ false
below_none least x [] lt r = refl
below_none least x (y ∷ ys) lt r =
    let other : eqb x y ≡ false = grind (arith, nat_tests, r.0) in
    rw (other, below_none (y + 1) x ys (omega (arith, r.0)) r.1) refl

eqb-refl : (x : ℕ) → eqb x x ≡ true
eqb-refl x = eq-eqb x x refl

-- of two lists that rise, neither begins below the other
begins : (x y : ℕ) (xs ys : List ℕ) → Rises (y + 1) ys → x < y → has_key x (x ∷ xs) ≡ has_key x (y ∷ ys) → ⊥
begins x y xs ys r lt same =
    let yes : has_key x (x ∷ xs) ≡ true = rw (eqb-refl x) refl in
    let no : has_key x (y ∷ ys) ≡ false = below_none y x (y ∷ ys) lt (omega arith, r) in
    let clash : true ≡ false = sym yes ∙ same ∙ no in
    cc

or_false : (b c : Bool) → b ≡ false → (b || c) ≡ c
or_false true c h = absurd cc
or_false false c h = refl

tails : (x : ℕ) (xs ys : List ℕ) → Rises (x + 1) xs → Rises (x + 1) ys → ((z : ℕ) → has_key z (x ∷ xs) ≡ has_key z (x ∷ ys)) → (z : ℕ) → has_key z xs ≡ has_key z ys
tails x xs ys r s same z =
    elim (cases_lt z (x + 1)) [
      | inl lt ↦ below_none (x + 1) z xs lt r ∙ sym (below_none (x + 1) z ys lt s)
      | inr le ↦
          let other : eqb z x ≡ false = grind (arith, nat_tests) in
          sym (or_false (eqb z x) (has_key z xs) other) ∙ same z ∙ or_false (eqb z x) (has_key z ys) other
    ]

-- lists that rise and have the same members are one
pub same_members : (least other : ℕ) (xs ys : List ℕ) → Rises least xs → Rises other ys → ((z : ℕ) → has_key z xs ≡ has_key z ys) → xs ≡ ys
same_members least other [] [] r s same = refl
same_members least other [] (y ∷ ys) r s same = let e : false ≡ true = same y ∙ rw (eqb-refl y) refl in absurd cc
same_members least other (x ∷ xs) [] r s same = let e : true ≡ false = sym (rw (eqb-refl x) refl) ∙ same x in absurd cc
same_members least other (x ∷ xs) (y ∷ ys) r s same =
    elim (cases_lt x y) [
      | inl lt ↦ absurd (begins x y xs ys s.1 lt (same x))
      | inr le ↦ elim (cases_lt y x) [
        | inl gt ↦ absurd (begins y x ys xs r.1 gt (sym (same y)))
        | inr ge ↦
            let e : y ≡ x = omega arith in
            let rest : Rises (x + 1) ys = subst (λ (k : ℕ). Rises (k + 1) ys) e s.1 in
            let alike : (z : ℕ) → has_key z (x ∷ xs) ≡ has_key z (x ∷ ys) = λ z. same z ∙ ap (λ (k : ℕ). has_key z (k ∷ ys)) e in
            let t = same_members (x + 1) (x + 1) xs ys r.1 rest (tails x xs ys r.1 rest alike) in
            ap (λ (k : ℕ). k ∷ xs) (sym e) ∙ ap (λ (l : List ℕ). y ∷ l) t
      ]
    ]

-- ---- the set of a list

pub with_key-rises : (least x : ℕ) (xs : List ℕ) → least ≤ x → Rises least xs → Rises least (with_key x xs)
with_key-rises least x [] le r = (le, tt)
with_key-rises least x (y ∷ ys) le r =
    elim (cases_lt x y) [
      | inl lt ↦ rw (lt-ltb x y lt) (le, (omega arith, r.1))
      | inr ge ↦ elim (cases_lt y x) [
        | inl gt ↦
            let other : eqb x y ≡ false = grind (arith, nat_tests) in
            rw (le-ltb x y ge, other) (r.0, with_key-rises (y + 1) x ys (omega arith) r.1)
        | inr eq ↦
            let one : eqb x y ≡ true = eq-eqb x y (omega arith) in
            rw (le-ltb x y ge, one) r
      ]
    ]

pub set_of-rises : (xs : List ℕ) → Rises 0 (set_of xs)
set_of-rises [] = tt
set_of-rises (x ∷ xs) = with_key-rises 0 x (set_of xs) (omega arith) (set_of-rises xs)

or_swap : (a b c : Bool) → (a || (b || c)) ≡ (b || (a || c))
or_swap true true c = refl
or_swap true false c = refl
or_swap false true c = refl
or_swap false false c = refl

or_same : (a c : Bool) → (a || c) ≡ (a || (a || c))
or_same true c = refl
or_same false c = refl

pub with_key-has : (z x : ℕ) (xs : List ℕ) → has_key z (with_key x xs) ≡ (eqb z x || has_key z xs)
with_key-has z x [] = refl
with_key-has z x (y ∷ ys) =
    elim (cases_lt x y) [
      | inl lt ↦ rw (lt-ltb x y lt) refl
      | inr ge ↦ elim (cases_lt y x) [
        | inl gt ↦
            let other : eqb x y ≡ false = grind (arith, nat_tests) in
            rw (le-ltb x y ge, other) (ap (λ (b : Bool). eqb z y || b) (with_key-has z x ys) ∙ or_swap (eqb z y) (eqb z x) (has_key z ys))
        | inr eq ↦
            let e : x ≡ y = omega arith in
            rw (le-ltb x y ge, eq-eqb x y e) (or_same (eqb z y) (has_key z ys) ∙ ap (λ (k : ℕ). eqb z k || (eqb z y || has_key z ys)) (sym e))
      ]
    ]

pub set_of-has : (z : ℕ) (xs : List ℕ) → has_key z (set_of xs) ≡ has_key z xs
set_of-has z [] = refl
set_of-has z (x ∷ xs) = with_key-has z x (set_of xs) ∙ ap (λ (b : Bool). eqb z x || b) (set_of-has z xs)

-- ---- members by index

pub has_key-from : (xs : List ℕ) (x : ℕ) → Contains xs x → has_key x xs ≡ true
has_key-from xs x c = list_any-from_Contains {eq = eqb} nat_eq_equiv x xs c

pub has_key-to : (xs : List ℕ) (x : ℕ) → has_key x xs ≡ true → Contains xs x
has_key-to xs x h = Contains-from_any {eq = eqb} (λ x y e. eqb-true x y e) x xs h

alike : (b c : Bool) → (b ≡ true → c ≡ true) → (c ≡ true → b ≡ true) → b ≡ c
alike true true f g = refl
alike true false f g = sym (f refl)
alike false true f g = g refl
alike false false f g = refl

-- the set of the members of a list is `set_of` it
pub set_of-only : (keys xs : List ℕ) → IsSetOf (λ x. Contains xs x) keys → keys ≡ set_of xs
set_of-only keys xs s =
    same_members 0 0 keys (set_of xs) (rises_from keys s.rising) (set_of-rises xs)
    (λ z. alike (has_key z keys) (has_key z xs) (λ h. has_key-from xs z (s.only z (has_key-to keys z h))) (λ h. has_key-from keys z (s.has z (has_key-to xs z h))) ∙ sym (set_of-has z xs))

pub set_of-is : (xs : List ℕ) → IsSetOf (λ x. Contains xs x) (set_of xs)
set_of-is xs = record {
  rising = rises_to 0 (set_of xs) (set_of-rises xs);
  has = λ x c. has_key-to (set_of xs) x (set_of-has x xs ∙ has_key-from xs x c);
  only = λ x c. has_key-to xs x (sym (set_of-has x xs) ∙ has_key-from (set_of xs) x c);
}

-- a set is the set of itself
pub set_of-set : (xs : List ℕ) → IsStrictlyIncreasing xs → set_of xs ≡ xs
set_of-set xs up = same_members 0 0 (set_of xs) xs (set_of-rises xs) (rises_from xs up) (λ z. set_of-has z xs)

-- ---- indexes

index_from-at : (least j : ℕ) (xs : List ℕ) (i x : ℕ) → Rises least xs → i < length xs → get_or xs i 0 ≡ x → position_from (λ y. eqb y x) j xs ≡ Some (j + i)
index_from-at least j [] i x r lt e = absurd (omega arith)
index_from-at least j (y ∷ ys) zero x r lt e = rw (eq-eqb y x e) (ap (λ (k : ℕ). Some k) (omega arith))
index_from-at least j (y ∷ ys) (suc i) x r lt e =
    let above = rises_above (y + 1) ys i r.1 (omega arith) in
    let other : eqb y x ≡ false = grind (arith, nat_tests, above, e) in
    rw other (index_from-at (y + 1) (j + 1) ys i x r.1 (omega arith) e ∙ ap (λ (k : ℕ). Some k) (omega arith))

-- the key at an index is found there
pub index_of_key_at : (xs : List ℕ) (i x : ℕ) → IsStrictlyIncreasing xs → i < length xs → get_or xs i 0 ≡ x → index_of x xs ≡ Some i
index_of_key_at xs i x up lt e = index_from-at 0 0 xs i x (rises_from xs up) lt e ∙ ap (λ (k : ℕ). Some k) (omega arith)

no_index-at : (j : ℕ) (xs : List ℕ) (x : ℕ) → ((k : ℕ) → k < length xs → get_or xs k 0 ≡ x → ⊥) → position_from (λ y. eqb y x) j xs ≡ None
no_index-at j [] x h = refl
no_index-at j (y ∷ ys) x h =
    let other : eqb y x ≡ false = apart y x (h 0 (omega arith)) in
    rw other (no_index-at (j + 1) ys x (λ k lt. h (suc k) (omega arith)))

-- a key that stands nowhere is not found
pub no_index : (xs : List ℕ) (x : ℕ) → ((k : ℕ) → k < length xs → get_or xs k 0 ≡ x → ⊥) → index_of x xs ≡ None
no_index xs x h = no_index-at 0 xs x h

-- ---- the map of a list

head_keys : {V : Type 0} (least : ℕ) (p : ℕ × V) (ps : List (ℕ × V)) → least ≤ p.0 → Rises least (keys_of ps) → Rises least (keys_of (with_pair p ps))
head_keys least p [] le r = (le, tt)
head_keys least p (q ∷ qs) le r =
    elim (cases_lt p.0 q.0) [
      | inl lt ↦ rw (lt-ltb p.0 q.0 lt) (le, (omega arith, r.1))
      | inr ge ↦ elim (cases_lt q.0 p.0) [
        | inl gt ↦
            let other : eqb p.0 q.0 ≡ false = grind (arith, nat_tests) in
            rw (le-ltb p.0 q.0 ge, other) (r.0, head_keys (q.0 + 1) p qs (omega arith) r.1)
        | inr eq ↦
            let e : q.0 ≡ p.0 = omega arith in
            rw (le-ltb p.0 q.0 ge, eq-eqb p.0 q.0 (sym e)) (le, subst (λ (k : ℕ). Rises (k + 1) (keys_of qs)) e r.1)
      ]
    ]

pub map_of-rises : {V : Type 0} (ps : List (ℕ × V)) → Rises 0 (keys_of (map_of ps))
map_of-rises [] = tt
map_of-rises (p ∷ ps) = head_keys 0 p (map_of ps) (omega arith) (map_of-rises ps)

lookup-below : {V : Type 0} (least k : ℕ) (ps : List (ℕ × V)) → k < least → Rises least (keys_of ps) → lookup k ps ≡ None
lookup-below least k [] lt r = refl
lookup-below least k (p ∷ ps) lt r =
    let other : eqb p.0 k ≡ false = grind (arith, nat_tests, r.0) in
    rw (other, lookup-below (p.0 + 1) k ps (omega (arith, r.0)) r.1) refl

swap_tests : {A : Type 0} (x y z : ℕ) (a b : A) (o : A) → eqb x y ≡ false → cond (eqb y z) b (cond (eqb x z) a o) ≡ cond (eqb x z) a (cond (eqb y z) b o)
swap_tests x y z a b o h = grind (arith, nat_tests)

pub same_test : {A : Type 0} (x y z : ℕ) (a b o : A) → x ≡ y → cond (eqb x z) a o ≡ cond (eqb x z) a (cond (eqb y z) b o)
same_test x y z a b o h = grind (arith, nat_tests)

with_pair-lookup : {V : Type 0} (k : ℕ) (p : ℕ × V) (ps : List (ℕ × V)) → lookup k (with_pair p ps) ≡ cond (eqb p.0 k) (Some p.1) (lookup k ps)
with_pair-lookup k p [] = refl
with_pair-lookup {V} k p (q ∷ qs) =
    elim (cases_lt p.0 q.0) [
      | inl lt ↦ rw (lt-ltb p.0 q.0 lt) refl
      | inr ge ↦ elim (cases_lt q.0 p.0) [
        | inl gt ↦
            let other : eqb p.0 q.0 ≡ false = grind (arith, nat_tests) in
            rw (le-ltb p.0 q.0 ge, other) (ap (λ (o : Option V). cond (eqb q.0 k) (Some q.1) o) (with_pair-lookup k p qs) ∙ swap_tests p.0 q.0 k (Some p.1) (Some q.1) (lookup k qs) other)
        | inr eq ↦
            let e : p.0 ≡ q.0 = omega arith in
            rw (le-ltb p.0 q.0 ge, eq-eqb p.0 q.0 e) (same_test p.0 q.0 k (Some p.1) (Some q.1) (lookup k qs) e)
      ]
    ]

-- the map of a list finds what the list does
pub map_of-lookup : {V : Type 0} (k : ℕ) (ps : List (ℕ × V)) → lookup k (map_of ps) ≡ lookup k ps
map_of-lookup k [] = refl
map_of-lookup {V} k (p ∷ ps) = with_pair-lookup k p (map_of ps) ∙ ap (λ (o : Option V). cond (eqb p.0 k) (Some p.1) o) (map_of-lookup k ps)

lookup-here : {V : Type 0} (p : ℕ × V) (ps : List (ℕ × V)) → lookup p.0 (p ∷ ps) ≡ Some p.1
lookup-here p ps = rw (eqb-refl p.0) refl

starts : {V : Type 0} (p q : ℕ × V) (ps qs : List (ℕ × V)) → Rises (q.0 + 1) (keys_of qs) → p.0 < q.0 → lookup p.0 (p ∷ ps) ≡ lookup p.0 (q ∷ qs) → ⊥
starts {V} p q ps qs r lt same =
    let none : lookup p.0 (q ∷ qs) ≡ None = lookup-below q.0 p.0 (q ∷ qs) lt (omega arith, r) in
    let clash : Some p.1 ≡ None = sym (lookup-here p ps) ∙ same ∙ none in
    cc

skip_false : {A : Type 0} (b : Bool) (x y : A) → b ≡ false → cond b x y ≡ y
skip_false true x y h = absurd cc
skip_false false x y h = refl

rests : {V : Type 0} (x : ℕ) (v w : V) (ps qs : List (ℕ × V)) → Rises (x + 1) (keys_of ps) → Rises (x + 1) (keys_of qs) → ((k : ℕ) → lookup k ((x, v) ∷ ps) ≡ lookup k ((x, w) ∷ qs)) → (k : ℕ) → lookup k ps ≡ lookup k qs
rests x v w ps qs r s same k =
    elim (cases_lt k (x + 1)) [
      | inl lt ↦ lookup-below (x + 1) k ps lt r ∙ sym (lookup-below (x + 1) k qs lt s)
      | inr le ↦
          let other : eqb x k ≡ false = grind (arith, nat_tests) in
          sym (skip_false (eqb x k) (Some v) (lookup k ps) other) ∙ same k ∙ skip_false (eqb x k) (Some w) (lookup k qs) other
    ]

some_is : {V : Type 0} (v w : V) → Some v ≡ Some w → v ≡ w
some_is v w e = cc

-- pairs whose keys rise, and in which the same is found, are one
pub same_lookups : {V : Type 0} (least other : ℕ) (ps qs : List (ℕ × V)) → Rises least (keys_of ps) → Rises other (keys_of qs) → ((k : ℕ) → lookup k ps ≡ lookup k qs) → ps ≡ qs
same_lookups least other [] [] r s same = refl
same_lookups {V} least other [] (q ∷ qs) r s same = let e : None ≡ Some q.1 = same q.0 ∙ lookup-here q qs in absurd cc
same_lookups {V} least other (p ∷ ps) [] r s same = let e : Some p.1 ≡ None = sym (lookup-here p ps) ∙ same p.0 in absurd cc
same_lookups {V} least other (p ∷ ps) (q ∷ qs) r s same =
    elim (cases_lt p.0 q.0) [
      | inl lt ↦ absurd (starts p q ps qs s.1 lt (same p.0))
      | inr le ↦ elim (cases_lt q.0 p.0) [
        | inl gt ↦ absurd (starts q p qs ps r.1 gt (sym (same q.0)))
        | inr ge ↦
            let e : q.0 ≡ p.0 = omega arith in
            let rest : Rises (p.0 + 1) (keys_of qs) = subst (λ (k : ℕ). Rises (k + 1) (keys_of qs)) e s.1 in
            let alike : (k : ℕ) → lookup k ((p.0, p.1) ∷ ps) ≡ lookup k ((p.0, q.1) ∷ qs) = λ k. same k ∙ ap (λ (x : ℕ). lookup k ((x, q.1) ∷ qs)) e in
            let t = same_lookups (p.0 + 1) (p.0 + 1) ps qs r.1 rest (rests p.0 p.1 q.1 ps qs r.1 rest alike) in
            let v : p.1 ≡ q.1 = some_is p.1 q.1 (sym (lookup-here (p.0, p.1) ps) ∙ alike p.0 ∙ lookup-here (p.0, q.1) qs) in
            let pairs : p ≡ q = ap (λ (x : ℕ). (x, p.1)) (sym e) ∙ ap (λ (y : V). (q.0, y)) v in
            ap (λ (x : ℕ × V). x ∷ ps) pairs ∙ ap (λ (l : List (ℕ × V)). q ∷ l) t
      ]
    ]

-- pairs whose keys rise and in which the same is found as in a list are its map
pub map_of-only : {V : Type 0} (ps qs : List (ℕ × V)) → IsStrictlyIncreasing (keys_of ps) → ((k : ℕ) → lookup k ps ≡ lookup k qs) → ps ≡ map_of qs
map_of-only ps qs up same = same_lookups 0 0 ps (map_of qs) (rises_from (keys_of ps) up) (map_of-rises qs) (λ k. same k ∙ sym (map_of-lookup k qs))

-- a map is the map of itself
pub map_of-map : {V : Type 0} (ps : List (ℕ × V)) → IsStrictlyIncreasing (keys_of ps) → map_of ps ≡ ps
map_of-map ps up = sym (map_of-only ps ps up (λ k. refl))
