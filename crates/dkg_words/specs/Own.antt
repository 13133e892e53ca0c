-- The warning of a message that has this node's own key.
use Rattle.std.specs.Prelude.{ℕ, List, [], ◌++◌, Option, Some, None, codes, decimal, option_map}
use Rattle.memchr.specs.Find.{first_of, matches}
use Rattle.dkg_words.specs.Before.{counted_up}
use Rattle.dkg_words.specs.Lines.{behind_byte, first_number, until}
use Rattle.dkg_words.specs.Told.{line_told}

abbrev pub own_key_of : Option (List ℕ) → ℕ
own_key_of (Some lines) = first_number (until 10 lines)
own_key_of None = 0

-- this node's key: the number behind the name of the second line
abbrev pub own_key : List ℕ → ℕ
own_key text = own_key_of (behind_byte 10 text)

-- how a line of a message of a key begins, with the line feed before it
abbrev pub own_message : (key : ℕ) → List ℕ
own_message key = codes "\npeer " ++ decimal key ++ codes " "

-- the place behind the first one at which some words stand
abbrev pub place_behind_first : (text words : List ℕ) → Option ℕ
place_behind_first text words = option_map counted_up (first_of (matches text words 0))

-- where the first line of a message with this node's own key begins
abbrev pub own_place : List ℕ → Option ℕ
own_place text = place_behind_first text (own_message (own_key text))

abbrev pub own_told : List ℕ → Option ℕ → List ℕ
own_told text (Some place) = codes "warning: " ++ line_told text place ++ codes ": a message of this node's own key: the promise doesn't cover this run\n"
own_told text None = []

abbrev pub own_text : List ℕ → List ℕ
own_text text = own_told text (own_place text)
