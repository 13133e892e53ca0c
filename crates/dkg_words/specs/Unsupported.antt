-- What is said of a script of a form that isn't run yet: its first line that isn't run, and what of it.
use Rattle.std.specs.Prelude.{ℕ, ◌+◌, ◌-◌, ◌^◌, min, if◌then◌else◌, List, [], ◌∷◌, ◌++◌, length, codes, Option, Some, None}
use Rattle.std.specs.Prelude.{option_and_then}
use Rattle.dkg_words.specs.declared.names.Name.{Name}
use Rattle.dkg_words.specs.declared.names.Name.TheVariants as name
use Rattle.dkg_words.specs.declared.unsupported.Named.{Named}
use Rattle.dkg_words.specs.declared.unsupported.Why.{Why}
use Rattle.dkg_words.specs.declared.unsupported.Why.TheVariants.{Oneshot, Addresses, Probe, Sync, Event}
use Rattle.dkg_words.specs.Before.{counted_up}
use Rattle.dkg_words.specs.Lines.{name_in, over_lines}
use Rattle.dkg_words.specs.Names.{is_event_name, name_by}
use Rattle.dkg_words.specs.Told.{line_told}

-- what isn't run yet
abbrev pub why_words : Why → List ℕ
why_words Oneshot = codes "one-shot mode"
why_words Addresses = codes "addresses"
why_words Probe = codes "a probe"
why_words Sync = codes "a state sync"
why_words Event = codes "this event"

-- BY ITS NAME

-- Why no line of a name is run: of the events a message, a block, a request for a log or its release, and the messages of a final block's request are.
abbrev pub why_named : Name → Option Why
why_named name.Oneshot = Some Oneshot
why_named name.Address = Some Addresses
why_named name.Probe = Some Probe
why_named name.Sync = Some Sync
why_named name.Peer = None
why_named name.Final = None
why_named name.Next = None
why_named name.Release = None
why_named name.Info = None
why_named name.Feed = None
why_named name.Over = None
why_named name.Cancel = None
why_named name.Work = None
why_named its = if is_event_name its then Some Event else None

abbrev pub why_line : (line : List ℕ) → Option Why
why_line line = option_and_then why_named (name_by (name_in line))

-- what is found behind a line that begins at a place
abbrev pub found_after : (found : Option (ℕ × Why)) → (at : ℕ) → Option Why → Option (ℕ × Why)
found_after (Some found) at why = Some found
found_after None at (Some why) = Some (at, why)
found_after None at None = None

abbrev pub named_after : Named → (line : List ℕ) → Named
named_after named line = record { at = counted_up (min (named.at + length line) (2 ^ 64 - 1)); found = found_after named.found named.at (why_line line) }

-- where the first such line of a text begins, and why it isn't run
abbrev pub named_place : (text : List ℕ) → Option (ℕ × Why)
named_place text = (over_lines named_after (record { at = 0; found = None }) [] text).found

-- WHICH LINE IS TOLD

-- where there is none, the script's directories hold addresses
abbrev pub named_or : Option (ℕ × Why) → ℕ × Why
named_or (Some its) = its
named_or None = (0, Addresses)

unfoldable pub unsupported_of : (text : List ℕ) → ℕ × Why
unsupported_of text = named_or (named_place text)

abbrev pub told_of : (text : List ℕ) → ℕ × Why → List ℕ
told_of text its = line_told text its.0 ++ codes ": not run yet: " ++ why_words its.1 ++ 10 ∷ []

abbrev pub unsupported_text : (text : List ℕ) → List ℕ
unsupported_text text = told_of text (unsupported_of text)
