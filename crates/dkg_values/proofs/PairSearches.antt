-- What a binary search by key finds among pairs whose keys rise.
use Rattle.std.proofs.Common.{◌≡◌, ℕ, ◌+◌, ◌<◌, false, eqb, List, [], ◌∷◌, length, get_or, Result, Ok, Err, Some, None, refl, sym, ap, subst, ◌∙◌, arith, inl, inr}
use Rattle.std.specs.List.Sorted.{IsStrictlyIncreasing, IsBinarySearchResult, IsSortedBy}
use Rattle.std.specs.Ordering.{nat_cmp, is_lt}
use Rattle.std.specs.declared.cmp.Ordering.TheVariants.{Less, Equal, Greater}
use Rattle.std.proofs.lemmas.Bool.{cases_lt, eq-eqb}
use Rattle.std.proofs.lemmas.Bool.Decides.{nat_tests}
use Rattle.std.proofs.lemmas.Cmp.{nat_cmp_total}
use Rattle.std.proofs.lemmas.List.{length-map}
use Rattle.std.proofs.lemmas.List.Recursion.{found_at, found_nowhere}
use Rattle.std.proofs.lemmas.List.Sorted.{searchable_from_sorted}
use Rattle.std.proofs.lemmas.Map.Keys.{below_from_sorted, sorted_from_strictly_increasing}
use Rattle.dkg_values.specs.Rising.{keys_of, lookup}
use Rattle.dkg_values.specs.RisingLaws.{apart}
use Rattle.dkg_values.proofs.Keys.{key_at}

abbrev found_by : {V : Type 0} → ℕ → List (ℕ × V) → Result ℕ ℕ → Type 0
found_by x pairs r = IsBinarySearchResult (λ p. nat_cmp p.0 x) pairs r

rises_far : {V : Type 0} (pairs : List (ℕ × V)) (k i : ℕ) (d : ℕ × V) → IsStrictlyIncreasing (keys_of pairs) → k < i → i < length pairs → (get_or pairs k d).0 < (get_or pairs i d).0
rises_far {V} pairs k i d up lt long =
    let b = below_from_sorted (keys_of pairs) k i 0 (sorted_from_strictly_increasing (keys_of pairs) up) lt (omega (arith, length-map pairs (λ (p : ℕ × V). p.0))) in
    omega (arith, b, key_at pairs k d (omega arith), key_at pairs i d long)

equal : (a b : ℕ) → nat_cmp a b ≡ Equal → a ≡ b
equal a b e = grind (arith, nat_tests)

ordered : {V : Type 0} (pairs : List (ℕ × V)) → IsStrictlyIncreasing (keys_of pairs) → IsSortedBy (λ p q. is_lt (nat_cmp p.0 q.0)) pairs
ordered pairs up k d le lt =
    let far = rises_far pairs k (k + 1) d up (omega arith) lt in
    grind (arith, nat_tests, far)

pub pair_found : {V : Type 0} (pairs : List (ℕ × V)) (x i : ℕ) (r : Result ℕ ℕ) (item : ℕ × V) → IsStrictlyIncreasing (keys_of pairs) → r ≡ Ok i → found_by x pairs r → i < length pairs → item ≡ get_or pairs i item → Some item.1 ≡ lookup x pairs
pair_found {V} pairs x i r item up ok h lt is =
    let at = subst (λ (q : Result ℕ ℕ). found_by x pairs q) ok h in
    let key : (get_or pairs i item).0 ≡ x = equal (get_or pairs i item).0 x (at item) in
    let before : (k : ℕ) → k < i → eqb (get_or pairs k item).0 x ≡ false = λ k less. apart (get_or pairs k item).0 x (λ e. omega (arith, rises_far pairs k i item up less lt, key, e)) in
    let found = found_at (lookup x) (λ (p : ℕ × V). eqb p.0 x) (λ (p : ℕ × V). Some p.1) None refl (λ p ps. refl) pairs i item lt before (eq-eqb (get_or pairs i item).0 x key) in
    sym (found ∙ ap (λ (p : ℕ × V). Some p.1) (sym is))

less_not : (a b : ℕ) → a ≡ b → nat_cmp a b ≡ Less → ⊥
less_not a b e h = grind (arith, nat_tests)

greater_not : (a b : ℕ) → a ≡ b → nat_cmp a b ≡ Greater → ⊥
greater_not a b e h = grind (arith, nat_tests)

none : {V : Type 0} (pairs : List (ℕ × V)) (x : ℕ) → ((k : ℕ) (d : ℕ × V) → k < length pairs → (get_or pairs k d).0 ≡ x → ⊥) → lookup x pairs ≡ None
none [] x h = refl
none {V} (p ∷ ps) x h = found_nowhere (lookup x) (λ (q : ℕ × V). eqb q.0 x) (λ (q : ℕ × V). Some q.1) None refl (λ q qs. refl) (p ∷ ps) p (λ k lt. apart (get_or (p ∷ ps) k p).0 x (h k p lt))

pub pair_missed : {V : Type 0} (pairs : List (ℕ × V)) (x i : ℕ) (r : Result ℕ ℕ) → IsStrictlyIncreasing (keys_of pairs) → r ≡ Err i → found_by x pairs r → None ≡ lookup x pairs
pair_missed {V} pairs x i r up err h =
    let point = (subst (λ (q : Result ℕ ℕ). found_by x pairs q) err h) (searchable_from_sorted nat_cmp_total (λ (p : ℕ × V). p.0) pairs x (ordered pairs up)) in
    sym (none pairs x (λ k d lt e. elim (cases_lt k i) [ inl low ↦ less_not (get_or pairs k d).0 x e (point.0 k d (omega arith) low) | inr high ↦ greater_not (get_or pairs k d).0 x e (point.1 k d high lt) ]))
