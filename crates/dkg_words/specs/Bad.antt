-- What is said of a text that is no script.
use Rattle.std.specs.Prelude.{ℕ, ◌&&◌, ◌||◌, nat_lt, not, is_some, Bool, true, false, if◌then◌else◌, List, [], ◌∷◌, ◌++◌, take, drop, Option, Some, None, codes}
use Rattle.std.specs.Str.{bytes_eq}
use Rattle.std.specs.Option.{option_map_or}
use Rattle.dkg_reading.specs.Rows.{decimal_of}
use Rattle.dkg_words.specs.declared.before.Before.{Before}
use Rattle.dkg_words.specs.declared.names.Name.{Name}
use Rattle.dkg_words.specs.declared.names.Name.TheVariants.{Block}
use Rattle.dkg_words.specs.Before.{before}
use Rattle.dkg_words.specs.Forms.{form, payload_form}
use Rattle.dkg_words.specs.Lines.{behind_byte, name_in, until}
use Rattle.dkg_words.specs.Names.{is_probing, name_by}
use Rattle.dkg_words.specs.Notes.{note}
use Rattle.dkg_words.specs.Stages.{allows, stage_after, stage_words}
use Rattle.dkg_words.specs.Told.{line_told}

-- A PAYLOAD

abbrev pub is_number : List ℕ → Bool
is_number field = is_some (decimal_of field)

-- whether a field names one of so many blocks, or none
abbrev pub is_parent_field : (blocks : ℕ) → List ℕ → Bool
is_parent_field blocks field = bytes_eq field (codes "-") || option_map_or (λ n. nat_lt n blocks) (decimal_of field) false

abbrev pub payload_alone : (blocks : ℕ) (height parent view payload : List ℕ) → Bool
payload_alone blocks height parent view payload =
    is_number (until 32 height) && is_parent_field blocks (until 32 parent) && is_number (until 32 view) && not (is_some (behind_byte 32 payload))

abbrev pub with_payload : (blocks : ℕ) (height parent view : List ℕ) → Option (List ℕ) → Bool
with_payload blocks height parent view (Some payload) = payload_alone blocks height parent view payload
with_payload blocks height parent view None = false

abbrev pub with_view : (blocks : ℕ) (height parent : List ℕ) → Option (List ℕ) → Bool
with_view blocks height parent (Some view) = with_payload blocks height parent view (behind_byte 32 view)
with_view blocks height parent None = false

abbrev pub with_parent : (blocks : ℕ) (height : List ℕ) → Option (List ℕ) → Bool
with_parent blocks height (Some parent) = with_view blocks height parent (behind_byte 32 parent)
with_parent blocks height None = false

abbrev pub with_height : (blocks : ℕ) → Option (List ℕ) → Bool
with_height blocks (Some height) = with_parent blocks height (behind_byte 32 height)
with_height blocks None = false

-- whether the fields before a block's payload are right, and one stands there
abbrev pub is_bad_payload : (blocks : ℕ) → (line : List ℕ) → Bool
is_bad_payload blocks line = with_height blocks (behind_byte 32 line)

-- WHAT IS WANTED

-- what may follow the lines before
abbrev pub next_wanted : Before → List ℕ
next_wanted so_far = stage_words (stage_after so_far.last) so_far.oneshot

abbrev pub needs_probe : (word : List ℕ) → List ℕ
needs_probe word = codes " (" ++ word ++ codes " needs a probe line)"

-- where that an event needs a `probe` line is why it may not stand there
abbrev pub probe_note : Before → Name → (line : List ℕ) → List ℕ
probe_note so_far name line = if so_far.probe || not (is_probing name) then [] else needs_probe (until 32 line)

abbrev pub is_block : Name → Bool
is_block Block = true
is_block _ = false

-- Where no line of this name may stand: what may. Else the form of such a line, or of a block's payload.
abbrev pub name_wanted : Before → Name → (line : List ℕ) → List ℕ
name_wanted so_far name line =
    if allows so_far name
    then (if is_block name && is_bad_payload so_far.blocks line then payload_form so_far else form so_far name)
    else next_wanted so_far ++ probe_note so_far name line

abbrev pub wanted_of : Before → Option Name → (line : List ℕ) → List ℕ
wanted_of so_far (Some name) line = name_wanted so_far name line
wanted_of so_far None line = next_wanted so_far

abbrev pub line_wanted : Before → (line : List ℕ) → List ℕ
line_wanted so_far line = wanted_of so_far (name_by (name_in line)) line ++ note line

-- a line that is ended, or one that isn't
abbrev pub some_wanted : Before → (rest : List ℕ) → List ℕ
some_wanted so_far rest = if is_some (behind_byte 10 rest) then line_wanted so_far (until 10 rest) else codes "a line feed at its end"

-- of a text's rest, which may be nothing
abbrev pub wanted : Before → (rest : List ℕ) → List ℕ
wanted so_far [] = next_wanted so_far
wanted so_far (b ∷ bs) = some_wanted so_far (b ∷ bs)

-- THE LINE

abbrev pub bad_text : (text : List ℕ) (place : ℕ) → List ℕ
bad_text text place = line_told text place ++ codes ": expected " ++ wanted (before (take place text)) (drop place text) ++ 10 ∷ []
