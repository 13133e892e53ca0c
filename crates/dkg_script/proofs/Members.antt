-- What is in a list, and what a search finds there.
use Rattle.std.proofs.Common.{ℕ, zero, suc, ◌⊎◌, inl, inr, List, [], ◌∷◌, ◌++◌, ◌≡◌, refl, sym, ap, subst, ◌∙◌, Option, Some, None, Bool, true, false, take}
use Rattle.std.specs.Prelude.{cond, find, filter_map, flat_map, unwrap_or, ◌==◌}
use Rattle.std.specs.List.{AllByRecursion, cons_option}
use Rattle.std.proofs.lemmas.Bool.{eq-eqb, eqb-true}

abbrev pub IsIn : {A : Type 0} → A → List A → Type 0
IsIn a [] = ⊥
IsIn a (x ∷ xs) = (a ≡ x) ⊎ IsIn a xs

-- ALL of them

pub of_all : {A : Type 0} (P : A → Type 0) (xs : List A) (a : A) → AllByRecursion P xs → IsIn a xs → P a
of_all P [] a all is = absurd is
of_all P (x ∷ xs) a all (inl same) = subst P (sym same) all.0
of_all P (x ∷ xs) a all (inr later) = of_all P xs a all.1 later

pub all_of : {A : Type 0} (P : A → Type 0) (xs : List A) → ((a : A) → IsIn a xs → P a) → AllByRecursion P xs
all_of P [] each = tt
all_of P (x ∷ xs) each = (each x (inl refl), all_of P xs (λ a is. each a (inr is)))

-- IN what lists are made of

pub in_either : {A : Type 0} (a : A) (xs ys : List A) → IsIn a (xs ++ ys) → IsIn a xs ⊎ IsIn a ys
in_either a [] ys is = inr is
in_either a (x ∷ xs) ys (inl same) = inl (inl same)
in_either a (x ∷ xs) ys (inr later) = elim (in_either a xs ys later) [ inl first ↦ inl (inr first) | inr second ↦ inr second ]

pub in_first : {A : Type 0} (a : A) (xs ys : List A) → IsIn a xs → IsIn a (xs ++ ys)
in_first a [] ys is = absurd is
in_first a (x ∷ xs) ys (inl same) = inl same
in_first a (x ∷ xs) ys (inr later) = inr (in_first a xs ys later)

pub in_second : {A : Type 0} (a : A) (xs ys : List A) → IsIn a ys → IsIn a (xs ++ ys)
in_second a [] ys is = is
in_second a (x ∷ xs) ys is = inr (in_second a xs ys is)

pub in_taken : {A : Type 0} (a : A) (n : ℕ) (xs : List A) → IsIn a (take n xs) → IsIn a xs
in_taken a zero [] is = is
in_taken a (suc n) [] is = is
in_taken a zero (x ∷ xs) is = absurd is
in_taken a (suc n) (x ∷ xs) (inl same) = inl same
in_taken a (suc n) (x ∷ xs) (inr later) = inr (in_taken a n xs later)

some_value : {A : Type 0} (a b : A) → Some a ≡ Some b → a ≡ b
some_value {A} a b e = ap (λ (o : Option A). unwrap_or o a) e

none_there : {A : Type 0} (a : A) → None ≡ Some a → ⊥
none_there a e = cc

pub in_mapped : {A B : Type 0} (f : A → Option B) (b : B) (xs : List A) → IsIn b (filter_map f xs) → (a : A) × IsIn a xs × (f a ≡ Some b)
in_mapped {A} {B} f b [] is = absurd is
in_mapped {A} {B} f b (x ∷ xs) is = by_case (in_mapped f b xs) (f x) refl is
  where
    later : (a : A) × IsIn a xs × (f a ≡ Some b) → (a : A) × IsIn a (x ∷ xs) × (f a ≡ Some b)
    later found = (found.0, inr found.1, found.2)

    by_case : (IsIn b (filter_map f xs) → (a : A) × IsIn a xs × (f a ≡ Some b)) → (o : Option B) → f x ≡ o → IsIn b (cons_option o (filter_map f xs)) → (a : A) × IsIn a (x ∷ xs) × (f a ≡ Some b)
    by_case rest None e is = later (rest is)
    by_case rest (Some y) e (inl same) = (x, inl refl, e ∙ ap (λ (z : B). Some z) (sym same))
    by_case rest (Some y) e (inr more) = later (rest more)

pub map_in : {A B : Type 0} (f : A → Option B) (a : A) (b : B) (xs : List A) → IsIn a xs → f a ≡ Some b → IsIn b (filter_map f xs)
map_in f a b [] is e = absurd is
map_in {A} {B} f a b (x ∷ xs) (inl same) e = subst (λ (o : Option B). IsIn b (cons_option o (filter_map f xs))) (sym e ∙ ap f same) (inl refl)
map_in {A} {B} f a b (x ∷ xs) (inr later) e = by_case (f x) (map_in f a b xs later e)
  where
    by_case : (o : Option B) → IsIn b (filter_map f xs) → IsIn b (cons_option o (filter_map f xs))
    by_case None is = is
    by_case (Some y) is = inr is

pub in_joined : {A B : Type 0} (f : A → List B) (b : B) (xs : List A) → IsIn b (flat_map f xs) → (a : A) × IsIn a xs × IsIn b (f a)
in_joined f b [] is = absurd is
in_joined {A} {B} f b (x ∷ xs) is = elim (in_either b (f x) (flat_map f xs) is) [ inl here ↦ (x, inl refl, here) | inr later ↦ more (in_joined f b xs later) ]
  where
    more : (a : A) × IsIn a xs × IsIn b (f a) → (a : A) × IsIn a (x ∷ xs) × IsIn b (f a)
    more found = (found.0, inr found.1, found.2)

pub joined_in : {A B : Type 0} (f : A → List B) (a : A) (b : B) (xs : List A) → IsIn a xs → IsIn b (f a) → IsIn b (flat_map f xs)
joined_in f a b [] is its = absurd is
joined_in f a b (x ∷ xs) (inl same) its = in_first b (f x) (flat_map f xs) (subst (λ y. IsIn b (f y)) same its)
joined_in f a b (x ∷ xs) (inr later) its = in_second b (f x) (flat_map f xs) (joined_in f a b xs later its)

-- FOUND by a number, where the number names one

module _ {A : Type 0} (key : A → ℕ) where
  -- what is found is there, and has the number
  pub found_there : (k : ℕ) (a : A) (xs : List A) → find (λ x. key x == k) xs ≡ Some a → IsIn a xs × (key a ≡ k)
  found_there k a [] e = absurd (none_there a e)
  found_there k a (x ∷ xs) e = by_case (found_there k a xs) (key x == k) refl e
    where
      later : IsIn a xs × (key a ≡ k) → IsIn a (x ∷ xs) × (key a ≡ k)
      later is = (inr is.0, is.1)

      by_case : (find (λ x. key x == k) xs ≡ Some a → IsIn a xs × (key a ≡ k)) → (b : Bool) → (key x == k) ≡ b → cond b (Some x) (find (λ x. key x == k) xs) ≡ Some a → IsIn a (x ∷ xs) × (key a ≡ k)
      by_case rest true is e = let same : x ≡ a = some_value x a e in (inl (sym same), ap key (sym same) ∙ eqb-true (key x) k is)
      by_case rest false is e = later (rest e)

  -- what is there isn't missed
  is_found : (a : A) (xs : List A) → IsIn a xs → find (λ x. key x == key a) xs ≡ None → ⊥
  is_found a [] is none = absurd is
  is_found a (x ∷ xs) is none = by_case (is_found a xs) (key x == key a) refl none is
    where
      some_is_none : (y : A) → Some y ≡ None → ⊥
      some_is_none y e = cc

      differ : false ≡ true → ⊥
      differ e = cc

      by_case : (IsIn a xs → find (λ y. key y == key a) xs ≡ None → ⊥) → (b : Bool) → (key x == key a) ≡ b → cond b (Some x) (find (λ y. key y == key a) xs) ≡ None → (a ≡ x) ⊎ IsIn a xs → ⊥
      by_case rest true eq none is = some_is_none x none
      by_case rest false eq none (inl same) = differ (sym eq ∙ eq-eqb (key x) (key a) (ap key (sym same)))
      by_case rest false eq none (inr later) = rest later none

  module _ (xs ys : List A) (within : (a : A) → IsIn a xs → IsIn a ys) (named : AllByRecursion (λ a. find (λ x. key x == key a) ys ≡ Some a) ys) where
    its : (a : A) → IsIn a ys → find (λ x. key x == key a) ys ≡ Some a
    its a is = of_all (λ a. find (λ x. key x == key a) ys ≡ Some a) ys a named is

    -- .. so what is found among some of them is found among all
    pub found_within : (k : ℕ) (a : A) → find (λ x. key x == k) xs ≡ Some a → find (λ x. key x == k) ys ≡ Some a
    found_within k a e =
        let there : IsIn a xs × (key a ≡ k) = found_there k a xs e in
        subst (λ (n : ℕ). find (λ x. key x == n) ys ≡ Some a) there.1 (its a (within a there.0))

    -- .. and among some of them, too, it names each
    pub named_within : AllByRecursion (λ a. find (λ x. key x == key a) xs ≡ Some a) xs
    named_within = all_of (λ a. find (λ x. key x == key a) xs ≡ Some a) xs (λ a is. by_case a is (find (λ x. key x == key a) xs) refl)
      where
        by_case : (a : A) → IsIn a xs → (o : Option A) → find (λ x. key x == key a) xs ≡ o → find (λ x. key x == key a) xs ≡ Some a
        by_case a is None e = absurd (is_found a xs is e)
        by_case a is (Some b) e = e ∙ sym (found_within (key a) b e) ∙ its a (within a is)
