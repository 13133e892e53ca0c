-- Entries with the places of their gates.
use Rattle.std.specs.Prelude.{◌≡◌, ℕ, ◌+◌, ◌==◌, if◌then◌else◌, List, [], ◌∷◌, ◌++◌, map, length}
use Rattle.dkg_journal.specs.Names.{Files}
use Rattle.dkg_journal.specs.Opening.{first_break}
use Rattle.dkg_journal.specs.Records.{SectionEntry, RecordsFront, entries}
use Rattle.dkg_journal.specs.declared.opening.JournalEntry.{JournalEntry}

-- an entry whose body has the place of its gate in front
abbrev pub gated : JournalEntry → SectionEntry
gated e = (e.section, e.place ∷ e.body)

-- the entries of a section's records with these bodies, the first of which has its gate at this place
abbrev pub gated_from : ℕ → ℕ → List (List ℕ) → List SectionEntry
gated_from section place [] = []
gated_from section place (b ∷ bs) = (section, place ∷ b) ∷ gated_from section (place + (5 + length b)) bs

-- entries behind those of a section, whose file would go on at this place
abbrev pub gated_behind : ℕ → ℕ → List SectionEntry → List SectionEntry
gated_behind section place [] = []
gated_behind section place (e ∷ es) = let at = if e.0 == section then place else 0 in (e.0, at ∷ e.1) ∷ gated_behind e.0 (at + (5 + length e.1)) es

-- Entries, sections rising, every one with the place of its gate in the segment of its section.
abbrev pub gated_of : List SectionEntry → List SectionEntry
gated_of es = gated_behind 0 0 es

abbrev pub gated_entries : Files → List SectionEntry
gated_entries files = gated_of (entries files)

-- An opening finds the same in both: the record that is not whole, and the entries.
pub record OpensAlike (old new : Files) : Type 0 where
  pub same_broken : first_break new ≡ first_break old
  pub same_entries : entries new ≡ entries old

-- The bytes are whole records with these entries up to this place, each with the place of its gate, and a rest. Others stood before.
pub record FrontGated (section : ℕ) (bytes rest : List ℕ) (before es : List JournalEntry) (place : ℕ) : Type 0 where
  pub bs : List (List ℕ)
  pub front : RecordsFront 0 bs place bytes rest
  pub gates : map gated es ≡ map gated before ++ gated_from section 0 bs
