-- How a line of a script is shown.
use Rattle.std.specs.Prelude.{ℕ, ◌+◌, ◌/◌, ◌%◌, ◌&&◌, nat_le, nat_lt, Bool, if◌then◌else◌, List, [], ◌∷◌, ◌++◌, length, take, codes}
use Rattle.std.specs.List.{flat_map}

-- a digit of base 16, in lower case
abbrev pub nibble : ℕ → ℕ
nibble n = if nat_lt n 10 then 48 + n else 87 + n

-- a printable character of ASCII
abbrev pub is_printable : ℕ → Bool
is_printable byte = nat_le 32 byte && nat_le byte 126

-- a byte as it is, or by its two digits
abbrev pub escaped : ℕ → List ℕ
escaped byte = if is_printable byte then byte ∷ [] else 92 ∷ 120 ∷ nibble (byte / 16) ∷ nibble (byte % 16) ∷ []

-- a line of 30 bytes at most whole, and of a longer one the first 28 and two dots
abbrev pub shown : List ℕ → List ℕ
shown line = if nat_le (length line) 30 then flat_map escaped line else flat_map escaped (take 28 line) ++ codes ".."
