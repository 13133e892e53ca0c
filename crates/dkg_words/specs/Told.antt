-- Which line of a text is told.
use Rattle.std.specs.Prelude.{ℕ, List, [], ◌∷◌, ◌++◌, drop, codes, decimal}
use Rattle.dkg_words.specs.Lines.{line_number, until}
use Rattle.dkg_words.specs.Shown.{shown}

-- a line between quotes
abbrev pub quoted : List ℕ → List ℕ
quoted line = codes ": '" ++ shown line ++ codes "'"

-- what the first line of a text's rest says
abbrev pub subject : List ℕ → List ℕ
subject [] = codes ": the text ends"
subject (b ∷ bs) = quoted (until 10 (b ∷ bs))

-- the number of the line that begins at a place, and what it says
abbrev pub line_told : List ℕ → (place : ℕ) → List ℕ
line_told text place = codes "line " ++ decimal (line_number text place) ++ subject (drop place text)
