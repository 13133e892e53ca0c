-- What a binary search finds among keys that rise.
use Rattle.std.proofs.Common.{◌≡◌, ℕ, ◌<◌, ◌≤◌, List, length, get_or, Result, Ok, Err, Some, None, sym, subst, arith, inl, inr}
use Rattle.std.specs.List.Sorted.{IsStrictlyIncreasing, IsBinarySearchResult}
use Rattle.std.specs.Ordering.{nat_cmp}
use Rattle.std.specs.Result.{MatchResult}
use Rattle.std.proofs.lemmas.Bool.{cases_lt}
use Rattle.std.proofs.lemmas.List.Sorted.{searched}
use Rattle.dkg_values.specs.Rising.{index_of}
use Rattle.dkg_values.specs.RisingLaws.{rises_far, index_of_key_at, no_index}

-- what `searched` says of the two answers
abbrev Told : List ℕ → ℕ → Result ℕ ℕ → Type 0
Told keys x r = MatchResult r (λ i. (i < length keys) × (get_or keys i 0 ≡ x)) (λ i. (i ≤ length keys) × ((k : ℕ) → k < i → get_or keys k 0 < x) × ((k : ℕ) → i ≤ k → k < length keys → x < get_or keys k 0))

told : (xs keys : List ℕ) (x : ℕ) (r : Result ℕ ℕ) → xs ≡ keys → IsStrictlyIncreasing keys → IsBinarySearchResult (λ y. nat_cmp y x) xs r → Told keys x r
told xs keys x r is up h = searched keys x r (subst (λ (l : List ℕ). IsBinarySearchResult (λ y. nat_cmp y x) l r) is h) (λ i j. rises_far keys i j up)

pub found_index : (xs keys : List ℕ) (x i : ℕ) (r : Result ℕ ℕ) → xs ≡ keys → IsStrictlyIncreasing keys → r ≡ Ok i → IsBinarySearchResult (λ y. nat_cmp y x) xs r → Some i ≡ index_of x keys
found_index xs keys x i r is up ok h =
    let t = subst (λ (q : Result ℕ ℕ). Told keys x q) ok (told xs keys x r is up h) in
    sym (index_of_key_at keys i x up t.0 t.1)

pub found_none : (xs keys : List ℕ) (x i : ℕ) (r : Result ℕ ℕ) → xs ≡ keys → IsStrictlyIncreasing keys → r ≡ Err i → IsBinarySearchResult (λ y. nat_cmp y x) xs r → None ≡ index_of x keys
found_none xs keys x i r is up err h =
    let t = subst (λ (q : Result ℕ ℕ). Told keys x q) err (told xs keys x r is up h) in
    sym (no_index keys x (λ k lt e. elim (cases_lt k i) [ inl below ↦ omega (arith, t.1 k below) | inr above ↦ omega (arith, t.2 k above lt) ]))
