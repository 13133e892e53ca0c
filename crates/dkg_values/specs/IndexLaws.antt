-- A key has an index among those that contain it, and no other has.
use Rattle.std.proofs.Common.{◌≡◌, ℕ, zero, suc, ◌+◌, ◌<◌, true, false, cond, eqb, List, [], ◌∷◌, length, get_or, Some, is_some, inl, inr, refl, arith}
use Rattle.std.specs.Prelude.{◌↔◌, IsTrue, Contains}
use Rattle.std.specs.List.{position_from}
use Rattle.std.proofs.lemmas.Bool.{eq-eqb, eqb-true, cases_Bool}
use Rattle.dkg_values.specs.Rising.{index_of}

found_from : (key i : ℕ) (keys : List ℕ) (k : ℕ) → k < length keys → get_or keys k key ≡ key → is_some (position_from (λ x. eqb x key) i keys) ≡ true
found_from key i [] k lt is = absurd (omega arith)
found_from key i (x ∷ xs) zero lt is = rw (eq-eqb x key is) refl
found_from key i (x ∷ xs) (suc k) lt is =
    elim (eqb x key) as (λ b. is_some (cond b (Some i) (position_from (λ x. eqb x key) (i + 1) xs)) ≡ true) [ true ↦ refl | false ↦ found_from key (i + 1) xs k (omega arith) is ]

pub index_of-Contains : (key : ℕ) (keys : List ℕ) → Contains keys key → is_some (index_of key keys) ≡ true
index_of-Contains key keys c = found_from key 0 keys c.0 c.1 c.2

there_from : (key i : ℕ) (keys : List ℕ) → is_some (position_from (λ x. eqb x key) i keys) ≡ true → Contains keys key
there_from key i [] is = absurd cc
there_from key i (x ∷ xs) is =
    elim (cases_Bool (eqb x key)) [
      | inl e ↦ (0, omega arith, eqb-true x key e)
      | inr e ↦ let c = there_from key (i + 1) xs (rw e at is) in (suc c.0, omega (arith, c.1), c.2)
    ]

pub Contains-index_of : (key : ℕ) (keys : List ℕ) → is_some (index_of key keys) ≡ true → Contains keys key
Contains-index_of key keys is = there_from key 0 keys is

pub has_index : (key : ℕ) (keys : List ℕ) → IsTrue (is_some (index_of key keys)) ↔ Contains keys key
has_index key keys = (Contains-index_of key keys, index_of-Contains key keys)
