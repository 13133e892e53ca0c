-- The parts of a text: its lines, and a line's fields.
use Rattle.std.specs.Prelude.{◌≡◌, ℕ, ◌+◌, ◌==◌, suc, if◌then◌else◌, List, [], ◌∷◌, ◌++◌, take, Option, Some, None, unwrap_or}
use Rattle.dkg_reading.specs.Rows.{decimal_of}

-- what stands before the first such byte, or all of a text that has none
abbrev pub until : (at : ℕ) → List ℕ → List ℕ
until at [] = []
until at (b ∷ bs) = if b == at then [] else b ∷ until at bs

-- what stands behind the first such byte
abbrev pub behind_byte : (at : ℕ) → List ℕ → Option (List ℕ)
behind_byte at [] = None
behind_byte at (b ∷ bs) = if b == at then Some bs else behind_byte at bs

-- a text parted at the first such byte, and one without any
abbrev pub IsParted : (at : ℕ) (text before after : List ℕ) → Type 0
IsParted at text before after = (until at text ≡ before) × (behind_byte at text ≡ Some after)

abbrev pub IsWholeLine : (at : ℕ) (text : List ℕ) → Type 0
IsWholeLine at text = (until at text ≡ text) × (behind_byte at text ≡ None)

-- FIELDS

-- a line's name: its first field
abbrev pub name_in : List ℕ → List ℕ
name_in line = until 32 line

-- the number that a field spells, and 0 where it spells none
abbrev pub number_or_zero : List ℕ → ℕ
number_or_zero field = unwrap_or (decimal_of field) 0

abbrev pub leading_number : Option (List ℕ) → ℕ
leading_number (Some fields) = number_or_zero (until 32 fields)
leading_number None = 0

-- the number behind a line's name
abbrev pub first_number : List ℕ → ℕ
first_number line = leading_number (behind_byte 32 line)

abbrev pub second_of : Option (List ℕ) → ℕ
second_of (Some fields) = first_number fields
second_of None = 0

-- the number behind that
abbrev pub second_number : List ℕ → ℕ
second_number line = second_of (behind_byte 32 line)

-- LINES

-- how many line feeds a text has
abbrev pub line_feeds : List ℕ → ℕ
line_feeds [] = 0
line_feeds (b ∷ bs) = if b == 10 then suc (line_feeds bs) else line_feeds bs

-- the number of the line that begins at a place, from 1
abbrev pub line_number : List ℕ → (place : ℕ) → ℕ
line_number text place = 1 + line_feeds (take place text)

-- What something is behind all lines of a text that are ended, where `line` stands in front of the text.
unfoldable pub over_lines : {A : Type 0} → (after : A → List ℕ → A) → A → (line text : List ℕ) → A
over_lines after state line [] = state
over_lines after state line (b ∷ bs) = if b == 10 then over_lines after (after state line) [] bs else over_lines after state (line ++ b ∷ []) bs
