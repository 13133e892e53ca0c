-- How the fields of a line are spelled.
use Rattle.std.specs.Prelude.{◌≡◌, ◌≢◌, ℕ, ◌<◌, ◌≤◌, ◌^◌, ◌⊎◌, List, [], ◌∷◌, ◌++◌, All, decimal, length, slice_index}
use Rattle.std.specs.Str.Parse.{IsNumeral, digits_value}
use Rattle.hex.specs.Hex.{encode_lower}

-- neither empty nor with a sign or a leading zero
abbrev pub IsPlain : List ℕ → Type 0
IsPlain text = (0 < length text) × (slice_index text 0 ≢ 43) × (slice_index text 0 ≡ 48 → length text ≡ 1)

-- digits of a number below 2^64
abbrev pub SpellsNumber : List ℕ → Type 0
SpellsNumber text = IsNumeral 10 text × (digits_value 10 text < 2 ^ 64)

-- the parts round the first such byte
pub record IsCutAt (at : ℕ) (text before after : List ℕ) : Type 0 where
  pub whole : text ≡ before ++ at ∷ after
  pub first : All (λ b. b ≢ at) before

abbrev pub IsLowerDigit : ℕ → Type 0
IsLowerDigit c = ((48 ≤ c) × (c ≤ 57)) ⊎ ((97 ≤ c) × (c ≤ 102))

abbrev pub IsLower : List ℕ → Type 0
IsLower text = All IsLowerDigit text

-- bytes as pairs of lower-case digits, and no bytes as a dash
abbrev pub hex_text : List ℕ → List ℕ
hex_text [] = 45 ∷ []
hex_text (b ∷ bs) = encode_lower (b ∷ bs)

-- a field that is a word, a number or bytes, behind one space
abbrev pub word_field : List ℕ → List ℕ
word_field word = 32 ∷ word

abbrev pub number_field : ℕ → List ℕ
number_field n = 32 ∷ decimal n

abbrev pub bytes_field : List ℕ → List ℕ
bytes_field bytes = 32 ∷ hex_text bytes
