-- What the lines before a place say of what may follow.
use Rattle.std.specs.Prelude.{ℕ, ◌+◌, ◌-◌, ◌^◌, ◌==◌, ◌||◌, min, max, Bool, true, false, if◌then◌else◌, List, [], ◌∷◌, Option, Some, None}
use Rattle.dkg_words.specs.declared.before.Before.{Before}
use Rattle.dkg_words.specs.declared.names.Name.{Name}
use Rattle.dkg_words.specs.declared.names.Name.TheVariants.{Block, Life, Limit, Mode, Oneshot, Probe}
use Rattle.dkg_words.specs.Lines.{first_number, name_in, over_lines, second_number}
use Rattle.dkg_words.specs.Names.{is_event_name, name_by}

-- a count and one more (at its last value it stays there)
abbrev pub counted_up : ℕ → ℕ
counted_up count = min (count + 1) (2 ^ 64 - 1)

abbrev pub spaces_from : ℕ → List ℕ → ℕ
spaces_from count [] = count
spaces_from count (b ∷ bs) = spaces_from (if b == 32 then counted_up count else count) bs

-- how many spaces a line has
abbrev pub spaces : List ℕ → ℕ
spaces line = spaces_from 0 line

abbrev pub blocks_after : ℕ → Option Name → ℕ
blocks_after blocks (Some Block) = counted_up blocks
blocks_after blocks _ = blocks

abbrev pub events_after : ℕ → Option Name → ℕ
events_after events (Some Life) = 0
events_after events (Some name) = if is_event_name name then counted_up events else events
events_after events None = events

-- in one-shot mode the number of participants, and at least 1
abbrev pub limit_after : ℕ → Option Name → (line : List ℕ) → ℕ
limit_after limit (Some Limit) line = first_number line
limit_after limit (Some Oneshot) line = max (spaces line) 1
limit_after limit _ line = limit

abbrev pub version_after : ℕ → Option Name → (line : List ℕ) → ℕ
version_after version (Some Mode) line = second_number line
version_after version _ line = version

abbrev pub is_oneshot_name : Option Name → Bool
is_oneshot_name (Some Oneshot) = true
is_oneshot_name _ = false

abbrev pub is_probe : Option Name → Bool
is_probe (Some Probe) = true
is_probe _ = false

abbrev pub nothing : Before
nothing = record { last = None; above = 0; blocks = 0; events = 0; limit = 0; version = 0; oneshot = false; probe = false }

abbrev pub named_line : Before → Option Name → (line : List ℕ) → Before
named_line before name line =
    record {
      last = name;
      above = first_number line;
      blocks = blocks_after before.blocks name;
      events = events_after before.events name;
      limit = limit_after before.limit name line;
      version = version_after before.version name line;
      oneshot = before.oneshot || is_oneshot_name name;
      probe = before.probe || is_probe name;
    }

abbrev pub with_line : Before → (line : List ℕ) → Before
with_line before line = named_line before (name_by (name_in line)) line

-- the lines of a text
abbrev pub before : List ℕ → Before
before text = over_lines with_line nothing [] text
