-- Digits that are read one after another.
use Rattle.std.proofs.Common.{◌≡◌, ℕ, ◌+◌, ◌-◌, ◌*◌, ◌<◌, ◌≤◌, ◌^◌, List, length, get_or, take, ap, subst, ◌∙◌, arith}
use Rattle.std.specs.Int.{IsInRange}
use Rattle.std.specs.Str.Parse.{AllDigits, digits_value}
use Rattle.std.proofs.lemmas.Int.Digits.{digits_more, digits_value_more}
use Rattle.std.proofs.lemmas.List.{take_all}
use Rattle.std.proofs.lemmas.Str.{digit_value_digit}
use Rattle.std.proofs.lemmas.Str.Parse.{digits_value-take-le}
use Rattle.dkg_text.specs.Fields.{SpellsNumber}

-- the number of the digits up to a place and the digit there
pub one_more : (text : List ℕ) (i n : ℕ) → i < length text → n ≡ digits_value 10 (take i text) → IsInRange 48 57 (get_or text i 0) → n * 10 + (get_or text i 0 - 48) ≡ digits_value 10 (take (i + 1) text)
one_more text i n inside is digit = omega (arith, digits_value_more 10 text i inside, is, digit_value_digit (get_or text i 0) digit, digit.0)

-- .. which are all digits
pub all_more : (text : List ℕ) (i : ℕ) → i < length text → AllDigits 10 (take i text) → IsInRange 48 57 (get_or text i 0) → AllDigits 10 (take (i + 1) text)
all_more text i inside all digit = digits_more 10 text i inside all (omega (arith, digit_value_digit (get_or text i 0) digit, digit.0, digit.1))

-- where it is too large
pub too_large : (text : List ℕ) (i n : ℕ) → i < length text → n ≡ digits_value 10 (take i text) → IsInRange 48 57 (get_or text i 0) → 2 ^ 64 ≤ n * 10 + (get_or text i 0 - 48) → SpellsNumber text → ⊥
too_large text i n inside is digit over number =
    absurd (omega (arith, one_more text i n inside is digit, digits_value-take-le 10 text (i + 1) (omega arith), over, number.1))

-- where all is read
pub all_read : (text : List ℕ) (i n : ℕ) → length text ≤ i → 0 < length text → n < 2 ^ 64 → AllDigits 10 (take i text) → n ≡ digits_value 10 (take i text) → SpellsNumber text × (n ≡ digits_value 10 text)
all_read text i n past some small all is =
    let whole = take_all i text past in
    let value = is ∙ ap (digits_value 10) whole in
    (((some, subst (AllDigits 10) whole all), subst (λ (m : ℕ). m < 2 ^ 64) value small), value)
