-- What is plain to see of a line.
use Rattle.std.specs.Option.{option_map_or}
use Rattle.std.specs.Prelude.{ℕ, ◌==◌, ◌&&◌, ◌-◌, slice_get, Bool, true, false, if◌then◌else◌, List, [], ◌∷◌, length, codes}

-- whether a space stands at the begin or the end, or behind another, where `was` says that one stands before
abbrev pub loose : (was : Bool) → List ℕ → Bool
loose was [] = was
loose was (b ∷ bs) = if was && (b == 32) then true else loose (b == 32) bs

abbrev pub has_loose_space : List ℕ → Bool
has_loose_space line = loose true line

-- whether a line ends in a carriage return
abbrev pub is_returned : List ℕ → Bool
is_returned line = option_map_or (λ b. b == 13) (slice_get line (length line - 1)) false

-- what is said of a line in brackets
abbrev pub note : List ℕ → List ℕ
note line =
    if length line == 0 then codes " (the line is empty)"
    else (if is_returned line then codes " (the line ends in a carriage return)"
    else (if has_loose_space line then codes " (fields are parted by one space)" else []))
