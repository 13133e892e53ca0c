-- What the crates above say of a journal: it is open, a section's file is there, and which calls an append makes.
use Rattle.std.specs.Prelude.{List, ℕ, Bool, is_some}
use Rattle.dkg_journal.specs.Names.{Files}
use Rattle.dkg_journal.specs.Records.{SectionEntry}
use Rattle.dkg_journal.specs.Places.{place_at}
use Rattle.dkg_journal.specs.Steps.{IsOpenAt, append_calls_at}
use Rattle.dkg_journal.specs.declared.disk.Op.{Op}
use Rattle.dkg_journal.specs.declared.journal.Journal.{Journal}

-- The journal knows where each of its files ends, and nothing of those files is loose.
abbrev pub IsOpen : Journal → Files → (Files → Type 0) → Type 0
IsOpen journal files image = IsOpenAt journal.places files image

-- whether a section's file is there already
abbrev pub has_file : Journal → ℕ → Bool
has_file journal section = is_some (place_at journal.places section)

-- the changing calls of an append
abbrev pub append_calls : Journal → SectionEntry → List Op
append_calls journal e = append_calls_at (place_at journal.places e.0) e
