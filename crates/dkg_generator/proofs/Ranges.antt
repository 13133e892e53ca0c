-- Lists over numbers in a row, and one number more.
use Rattle.std.proofs.Common.{◌≡◌, ℕ, zero, suc, ◌+◌, List, [], ◌∷◌, ◌++◌, refl, sym, ap, ◌∙◌, append_assoc, add-one, arith, map}
use Rattle.std.specs.List.{flat_map, range_with_len}
use Rattle.std.proofs.lemmas.List.{append-nil}
use Rattle.std.proofs.lemmas.List.FromFn.{map-range_with_len_more}

flat_step : {A : Type 0} (f : ℕ → List A) → (a n j : ℕ) → a + n ≡ j → flat_map f (range_with_len a (suc n)) ≡ flat_map f (range_with_len a n) ++ f j
flat_step f a zero j e = append-nil (f a) ∙ ap f (let same : a ≡ j = omega arith in same)
flat_step f a (suc n) j e = ap (λ xs. f a ++ xs) (flat_step f (a + 1) n j (omega arith)) ∙ sym (append_assoc (f a) (flat_map f (range_with_len (a + 1) n)) (f j))

pub flat_more : {A : Type 0} (f : ℕ → List A) → (a n j : ℕ) → a + n ≡ j → flat_map f (range_with_len a (n + 1)) ≡ flat_map f (range_with_len a n) ++ f j
flat_more f a n j e = rw add-one (flat_step f a n j e)

pub map_more : {A : Type 0} (f : ℕ → A) → (done : List A) (a n j : ℕ) → a + n ≡ j → (done ++ map f (range_with_len a n)) ++ f j ∷ [] ≡ done ++ map f (range_with_len a (n + 1))
map_more f done a n j e = append_assoc done (map f (range_with_len a n)) (f j ∷ []) ∙ ap (λ xs. done ++ xs) (sym (map-range_with_len_more f a n j e))

-- one, and what follows it
pub flat_more_after : {A : Type 0} (f : ℕ → List A) → (done : List A) (x : A) (more : List A) (a n j : ℕ) → a + n ≡ j → f j ≡ x ∷ more
    → ((done ++ flat_map f (range_with_len a n)) ++ x ∷ []) ++ more ≡ done ++ flat_map f (range_with_len a (n + 1))
flat_more_after f done x more a n j e is =
    append_assoc (done ++ flat_map f (range_with_len a n)) (x ∷ []) more
    ∙ append_assoc done (flat_map f (range_with_len a n)) (x ∷ more)
    ∙ ap (λ xs. done ++ (flat_map f (range_with_len a n) ++ xs)) (sym is)
    ∙ ap (λ xs. done ++ xs) (sym (flat_more f a n j e))
