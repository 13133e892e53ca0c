-- Entries whose sections rise: what they are follows from those of each section.
use Rattle.std.proofs.Common.{◌≡◌, ◌≢◌, inl, inr, ℕ, ◌<◌, ◌≤◌, ◌==◌, Bool, true, false, cond, nat_lt, List, [], ◌∷◌, ◌++◌, fold, length, drop, get_or, refl, sym, ◌∙◌, ap, arith, append_assoc}
use Rattle.std.specs.Prelude.{filter}
use Rattle.std.proofs.lemmas.List.{append-nil}
use Rattle.std.proofs.lemmas.Bool.{cases_eq, cases_lt}
use Rattle.std.proofs.lemmas.Bool.Decides.{nat_tests}
use Rattle.dkg_journal.specs.Records.{SectionEntry, placed}

abbrev pub of_section : ℕ → List SectionEntry → List SectionEntry
of_section k es = filter (λ e. e.0 == k) es

-- sections rise, from this one on
abbrev pub Above : ℕ → List SectionEntry → Type 0
Above n [] = Unit {0}
Above n (e ∷ es) = (n ≤ e.0) × Above e.0 es

pub same_section : (k : ℕ) → (k == k) ≡ true
same_section k = grind (arith, nat_tests)

pub other_section : (a k : ℕ) → a ≢ k → (a == k) ≡ false
other_section a k ne = grind (arith, nat_tests)

pub none_of : (k n : ℕ) (es : List SectionEntry) → Above n es → k < n → of_section k es ≡ []
none_of k n [] above low = refl
none_of k n (e ∷ es) above low =
    let apart : (e.0 == k) ≡ false = other_section e.0 k (λ is. absurd (omega (arith, is, above.0, low))) in
    ap (λ (b : Bool). cond b (e ∷ of_section k es) (of_section k es)) apart ∙ none_of k e.0 es above.1 (omega (arith, above.0, low))

pub head_of : (k : ℕ) (e : SectionEntry) (es : List SectionEntry) → e.0 ≡ k → of_section k (e ∷ es) ≡ e ∷ of_section k es
head_of k e es is = ap (λ (b : Bool). cond b (e ∷ of_section k es) (of_section k es)) (ap (λ (n : ℕ). n == k) is ∙ same_section k)

no_head : (e : SectionEntry) (es : List SectionEntry) → e ∷ es ≢ []
no_head e es is = absurd (omega (arith, ap length is))

-- lists whose sections rise and are the same are the same
pub unique : (ys zs : List SectionEntry) (m n : ℕ) → Above m ys → Above n zs → ((k : ℕ) → of_section k ys ≡ of_section k zs) → ys ≡ zs
unique [] [] m n up vp same = refl
unique [] (z ∷ zs) m n up vp same = absurd (no_head z (of_section z.0 zs) (sym (head_of z.0 z zs refl) ∙ sym (same z.0)))
unique (y ∷ ys) [] m n up vp same = absurd (no_head y (of_section y.0 ys) (sym (head_of y.0 y ys refl) ∙ same y.0))
unique (y ∷ ys) (z ∷ zs) m n up vp same = elim (cases_lt y.0 z.0) [
  | inl low ↦ absurd (no_head y (of_section y.0 ys) (sym (head_of y.0 y ys refl) ∙ same y.0 ∙ none_of y.0 z.0 (z ∷ zs) (omega arith, vp.1) low))
  | inr high ↦ elim (cases_lt z.0 y.0) [
    | inl low ↦ absurd (no_head z (of_section z.0 zs) (sym (head_of z.0 z zs refl) ∙ sym (same z.0) ∙ none_of z.0 y.0 (y ∷ ys) (omega arith, up.1) low))
    | inr at_most ↦
        let at : z.0 ≡ y.0 = omega (arith, high, at_most) in
        let both : y ∷ of_section y.0 ys ≡ z ∷ of_section y.0 zs = sym (head_of y.0 y ys refl) ∙ same y.0 ∙ head_of y.0 z zs at in
        let first : y ≡ z = ap (λ (l : List SectionEntry). get_or l 0 y) both in
        λ i. first i ∷ unique ys zs y.0 z.0 up.1 vp.1 (rest first) i
  ]
]
  where
    tails : (y z : SectionEntry) (ys zs : List SectionEntry) (k : ℕ) → y ≡ z → of_section k (y ∷ ys) ≡ of_section k (z ∷ zs) → of_section k ys ≡ of_section k zs
    tails y z ys zs k first is = elim (y.0 == k) as (λ (b : Bool). cond b (y ∷ of_section k ys) (of_section k ys) ≡ cond b (z ∷ of_section k zs) (of_section k zs) → of_section k ys ≡ of_section k zs) [
      | true ↦ λ e. ap (drop 1) e
      | false ↦ λ e. e
    ] (is ∙ ap (λ (x : SectionEntry). cond (x.0 == k) (z ∷ of_section k zs) (of_section k zs)) (sym first))

    rest : y ≡ z → (k : ℕ) → of_section k ys ≡ of_section k zs
    rest first k = tails y z ys zs k first (same k)

pub placed_above : (es : List SectionEntry) (e : SectionEntry) (n : ℕ) → Above n es → n ≤ e.0 → Above n (placed es e)
placed_above [] e n above low = (low, tt)
placed_above (x ∷ xs) e n above low = elim (nat_lt e.0 x.0) as (λ (b : Bool). nat_lt e.0 x.0 ≡ b → Above n (cond b (e ∷ x ∷ xs) (x ∷ placed xs e))) [
  | true ↦ λ t. (low, (under e.0 x.0 t, above.1))
  | false ↦ λ t. (above.0, placed_above xs e x.0 above.1 (over e.0 x.0 t))
] refl
  where
    under : (a b : ℕ) → nat_lt a b ≡ true → a ≤ b
    under a b t = grind (arith, nat_tests)

    over : (a b : ℕ) → nat_lt a b ≡ false → b ≤ a
    over a b t = grind (arith, nat_tests)

pub of_both : (k : ℕ) (xs ys : List SectionEntry) → of_section k (xs ++ ys) ≡ of_section k xs ++ of_section k ys
of_both k [] ys = refl
of_both k (x ∷ xs) ys = elim (x.0 == k) as (λ (b : Bool). cond b (x ∷ of_section k (xs ++ ys)) (of_section k (xs ++ ys)) ≡ cond b (x ∷ of_section k xs) (of_section k xs) ++ of_section k ys) [
  | true ↦ ap (λ (l : List SectionEntry). x ∷ l) (of_both k xs ys)
  | false ↦ of_both k xs ys
]

pub placed_section : (k : ℕ) (es : List SectionEntry) (e : SectionEntry) (n : ℕ) → Above n es → of_section k (placed es e) ≡ of_section k (es ++ e ∷ [])
placed_section k [] e n above = refl
placed_section k (x ∷ xs) e n above = elim (nat_lt e.0 x.0) as (λ (b : Bool). nat_lt e.0 x.0 ≡ b → of_section k (cond b (e ∷ x ∷ xs) (x ∷ placed xs e)) ≡ of_section k ((x ∷ xs) ++ e ∷ [])) [
  | true ↦ λ t. elim (cases_eq e.0 k) [
    | inl is ↦
        let none : of_section k (x ∷ xs) ≡ [] = none_of k x.0 (x ∷ xs) (omega arith, above.1) (under e.0 x.0 k t is) in
        head_of k e (x ∷ xs) is ∙ ap (λ (l : List SectionEntry). e ∷ l) none ∙ sym (of_both k (x ∷ xs) (e ∷ []) ∙ ap (λ (l : List SectionEntry). l ++ of_section k (e ∷ [])) none ∙ head_of k e [] is)
    | inr ne ↦
        let gone : (es : List SectionEntry) → of_section k (e ∷ es) ≡ of_section k es = λ es. ap (λ (b : Bool). cond b (e ∷ of_section k es) (of_section k es)) (other_section e.0 k ne) in
        gone (x ∷ xs) ∙ sym (of_both k (x ∷ xs) (e ∷ []) ∙ ap (λ (l : List SectionEntry). of_section k (x ∷ xs) ++ l) (gone []) ∙ append-nil (of_section k (x ∷ xs)))
  ]
  | false ↦ λ t. ap (λ (l : List SectionEntry). cond (x.0 == k) (x ∷ l) l) (placed_section k xs e x.0 above.1)
] refl
  where
    under : (a b k : ℕ) → nat_lt a b ≡ true → a ≡ k → k < b
    under a b k t is = grind (arith, nat_tests)

pub fold_above : (es acc : List SectionEntry) → Above 0 acc → Above 0 (fold placed acc es)
fold_above [] acc above = above
fold_above (e ∷ es) acc above = fold_above es (placed acc e) (placed_above acc e 0 above (omega arith))

pub fold_section : (k : ℕ) (es acc : List SectionEntry) → Above 0 acc → of_section k (fold placed acc es) ≡ of_section k (acc ++ es)
fold_section k [] acc above = ap (of_section k) (sym (append-nil acc))
fold_section k (e ∷ es) acc above =
    fold_section k es (placed acc e) (placed_above acc e 0 above (omega arith))
    ∙ of_both k (placed acc e) es ∙ ap (λ (l : List SectionEntry). l ++ of_section k es) (placed_section k acc e 0 above)
    ∙ sym (of_both k (acc ++ e ∷ []) es) ∙ ap (of_section k) (append_assoc acc (e ∷ []) es)
