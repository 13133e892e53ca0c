-- The digits of a number and one more.
use Rattle.std.proofs.Common.{◌≡◌, ℕ, zero, suc, ◌+◌, ◌/◌, ◌%◌, ◌^◌, ◌<◌, ◌≤◌, ◌⊎◌, List, [], ◌∷◌, ◌++◌, length, replicate, decimal, refl, sym, ap, inl, inr, ◌∙◌, append_assoc, length-append, arith}
use Rattle.std.proofs.lemmas.Bool.{cases_lt}
use Rattle.std.proofs.lemmas.Fmt.{decimal_digit, decimal_step}
use Rattle.std.proofs.lemmas.List.{same_from_push}

pub one_more_behind : (k a : ℕ) → replicate (suc k) a ≡ replicate k a ++ a ∷ []
one_more_behind zero a = refl
one_more_behind (suc k) a = ap (λ (l : List ℕ). a ∷ l) (one_more_behind k a)

-- equal digits behind others, the last one parted off
parted : (pre : List ℕ) (c k a : ℕ) → pre ++ c ∷ replicate (suc k) a ≡ (pre ++ c ∷ replicate k a) ++ a ∷ []
parted pre c k a = ap (λ (l : List ℕ). pre ++ c ∷ l) (one_more_behind k a) ∙ sym (append_assoc pre (c ∷ replicate k a) (a ∷ []))

-- a number whose last digit is no nine
last_counted : (n c : ℕ) (pre : List ℕ) → n + 1 < 2 ^ 64 → decimal n ≡ pre ++ c ∷ [] → c ≤ 56 → (n < 10) ⊎ (10 ≤ n) → decimal (n + 1) ≡ pre ++ (c + 1) ∷ []
last_counted n c pre small is high (inl one) =
    let parts = same_from_push [] pre (48 + n) c (sym (decimal_digit n one) ∙ is) in
    let digit : 48 + (n + 1) ≡ c + 1 = omega (arith, parts.1) in
    decimal_digit (n + 1) (omega (arith, parts.1)) ∙ (ap (λ (x : ℕ). x ∷ []) digit ∙ ap (λ (p : List ℕ). p ++ (c + 1) ∷ []) parts.0)
last_counted n c pre small is high (inr more) =
    let parts = same_from_push (decimal (n / 10)) pre (48 + n % 10) c (sym (decimal_step n more (omega arith)) ∙ is) in
    let low : n % 10 ≤ 8 = omega (arith, parts.1) in
    let front : (n + 1) / 10 ≡ n / 10 = omega arith in
    let digit : 48 + (n + 1) % 10 ≡ c + 1 = omega (arith, parts.1) in
    decimal_step (n + 1) (omega arith) small
    ∙ (ap (λ (q : ℕ). decimal q ++ (48 + (n + 1) % 10) ∷ []) front
    ∙ (ap (λ (x : ℕ). decimal (n / 10) ++ x ∷ []) digit ∙ ap (λ (p : List ℕ). p ++ (c + 1) ∷ []) parts.0))

-- a number whose last digit is a nine, by the number before that digit
nine_counted : (k n c : ℕ) (pre : List ℕ) → n + 1 < 2 ^ 64 → decimal n ≡ (pre ++ c ∷ replicate k 57) ++ 57 ∷ []
    → ((m : ℕ) → m + 1 < 2 ^ 64 → decimal m ≡ pre ++ c ∷ replicate k 57 → decimal (m + 1) ≡ pre ++ (c + 1) ∷ replicate k 48) → (n < 10) ⊎ (10 ≤ n)
    → decimal (n + 1) ≡ pre ++ (c + 1) ∷ replicate (suc k) 48
nine_counted k n c pre small nines more (inl one) =
    let parts = same_from_push [] (pre ++ c ∷ replicate k 57) (48 + n) 57 (sym (decimal_digit n one) ∙ nines) in
    absurd (omega (arith, ap length parts.0, length-append pre (c ∷ replicate k 57)))
nine_counted k n c pre small nines more (inr large) =
    let parts = same_from_push (decimal (n / 10)) (pre ++ c ∷ replicate k 57) (48 + n % 10) 57 (sym (decimal_step n large (omega arith)) ∙ nines) in
    let nine : n % 10 ≡ 9 = omega (arith, parts.1) in
    let front : (n + 1) / 10 ≡ n / 10 + 1 = omega arith in
    let digit : 48 + (n + 1) % 10 ≡ 48 = omega arith in
    let on : decimal (n / 10 + 1) ≡ pre ++ (c + 1) ∷ replicate k 48 = more (n / 10) (omega arith) parts.0 in
    decimal_step (n + 1) (omega arith) small
    ∙ (ap (λ (q : ℕ). decimal q ++ (48 + (n + 1) % 10) ∷ []) front
    ∙ (ap (λ (x : ℕ). decimal (n / 10 + 1) ++ x ∷ []) digit ∙ (ap (λ (p : List ℕ). p ++ 48 ∷ []) on ∙ sym (parted pre (c + 1) k 48))))

-- a number that ends in nines behind another digit
pub counted_on : (k n c : ℕ) (pre : List ℕ) → n + 1 < 2 ^ 64 → decimal n ≡ pre ++ c ∷ replicate k 57 → c ≤ 56 → decimal (n + 1) ≡ pre ++ (c + 1) ∷ replicate k 48
counted_on zero n c pre small is high = last_counted n c pre small is high (cases_lt n 10)
counted_on (suc k) n c pre small is high =
    nine_counted k n c pre small (is ∙ parted pre c k 57) (λ (m : ℕ) one before. counted_on k m c pre one before high) (cases_lt n 10)

-- a list, parted before its last element
pub last_of : (xs : List ℕ) → (xs ≡ []) ⊎ ((ys : List ℕ) × (y : ℕ) × (xs ≡ ys ++ y ∷ []))
last_of [] = inl refl
last_of (x ∷ xs) = behind (last_of xs)
  where
    behind : (xs ≡ []) ⊎ ((ys : List ℕ) × (y : ℕ) × (xs ≡ ys ++ y ∷ [])) → (x ∷ xs ≡ []) ⊎ ((ys : List ℕ) × (y : ℕ) × (x ∷ xs ≡ ys ++ y ∷ []))
    behind (inl none) = inr ([], x, ap (λ (l : List ℕ). x ∷ l) none)
    behind (inr (ys, y, is)) = inr (x ∷ ys, y, ap (λ (l : List ℕ). x ∷ l) is)
