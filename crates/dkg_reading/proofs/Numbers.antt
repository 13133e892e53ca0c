-- The digits of a number, and the number of digits.
use Rattle.std.proofs.Common.{◌≡◌, ℕ, zero, suc, ◌+◌, ◌<◌, ◌^◌, List, [], ◌∷◌, length, get_or, map, decimal, refl, sym, ◌∙◌, ap, arith, Option, Some, None}
use Rattle.std.specs.Prelude.{MatchOption, IfSome}
use Rattle.std.proofs.lemmas.Fmt.{decimal-digits_of, decimal-digits_value, decimal_is_IsNumeral}
use Rattle.std.proofs.lemmas.Int.Digits.{first_digits_of}
use Rattle.std.proofs.lemmas.Str.Parse.{IsNumeralModel, numerals_by_value, tells_digits, digit_at}
use Rattle.std.specs.Int.Digits.{digits_of}
use Rattle.std.specs.Str.Parse.{AllDigits, digits_value}
use Rattle.dkg_text.specs.Fields.{IsPlain, SpellsNumber}

pub model : IsNumeralModel (AllDigits 10) (digits_value 10)
model = numerals_by_value (AllDigits 10) tells_digits

pub spelled : (text : List ℕ) (n : ℕ) → IsPlain text → SpellsNumber text → n ≡ digits_value 10 text → text ≡ decimal n
spelled text n plain number same =
    rw same (sym (decimal-digits_value model text number.0.1 plain.0 plain.2 number.1))

-- the first digit of a map of digits
first_of_map : (xs : List ℕ) → 0 < get_or xs 0 0 → get_or (map (λ d. 48 + d) xs) 0 0 ≡ 48 → length (map (λ d. 48 + d) xs) ≡ 1
first_of_map [] above is = absurd (omega (arith, above))
first_of_map (x ∷ xs) above is = absurd (omega (arith, above, is))

zero_text : decimal 0 ≡ 48 ∷ []
zero_text = decimal-digits_value model (48 ∷ []) ((tells_digits).more 48 [] (omega arith, omega arith) (tells_digits).empty) (omega arith) (λ _. refl) (omega arith)

leading : (n : ℕ) → n < 2 ^ 64 → get_or (decimal n) 0 0 ≡ 48 → length (decimal n) ≡ 1
leading zero small is = ap length zero_text
leading (suc m) small is =
    let positive : 0 < suc m = omega arith in
    let same = decimal-digits_of (suc m) positive small in
    rw same (first_of_map (digits_of 10 (suc m)) (first_digits_of 10 (suc m) (omega arith) positive) (rw same at is))

plain_of : (n : ℕ) → n < 2 ^ 64 → IsPlain (decimal n)
plain_of n small =
    let numeral = decimal_is_IsNumeral n small in
    let range = digit_at (decimal n) 0 numeral.0.1 numeral.0.0 in
    (numeral.0.0, (λ is. omega (arith, range.0, is)), leading n small)

pub plain : (text : List ℕ) (n : ℕ) → n < 2 ^ 64 → text ≡ decimal n → IsPlain text
plain text n small is = rw is (plain_of n small)

pub spells : (text : List ℕ) (n : ℕ) → n < 2 ^ 64 → text ≡ decimal n → SpellsNumber text × (digits_value 10 text ≡ n)
spells text n small is =
    let numeral = decimal_is_IsNumeral n small in
    rw is ((numeral.0, (rw numeral.1 small)), numeral.1)

-- what is parsed of a text without a sign or a leading zero
abbrev pub Parses : List ℕ → Option ℕ → Type 0
Parses text r = MatchOption r (SpellsNumber text → ⊥) (λ n. SpellsNumber text × (n ≡ digits_value 10 text))

pub found : (text : List ℕ) (r : Option ℕ) → IsPlain text → Parses text r → IfSome r (λ n. text ≡ decimal n)
found text None plain parses = tt
found text (Some n) plain parses = spelled text n plain parses.0 parses.1

pub only : (text : List ℕ) (r : Option ℕ) → Parses text r → (n : ℕ) → n < 2 ^ 64 → text ≡ decimal n → r ≡ Some n
only text None parses n small is = absurd (parses (spells text n small is).0)
only text (Some m) parses n small is = ap Some (parses.1 ∙ (spells text n small is).1)
