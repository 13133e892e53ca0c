-- What was found in a journal's files.
use Rattle.std.specs.Prelude.{◌≡◌, ℕ, List, ◌++◌, map, flat_map, length, Option, Some, None}
use Rattle.std.specs.Ordering.{nat_cmp}
use Rattle.std.specs.FinMap as map_of
use Rattle.std.specs.FinMap.{find, get}
use Rattle.dkg_journal.specs.Names.{Files}
use Rattle.dkg_journal.specs.Records.{Whole, bodies}
use Rattle.dkg_journal.specs.Gated.{gated, gated_from}
use Rattle.dkg_journal.specs.Places.{Places, place_at}
use Rattle.dkg_journal.specs.Segments.{segments}
use Rattle.dkg_journal.specs.Opening.{first_break, broken_rows, mends, open_calls}
use Rattle.dkg_values.specs.declared.name.Name.TheVariants.{Flat}
use Rattle.dkg_journal.specs.declared.disk.Op.{Op}
use Rattle.dkg_journal.specs.declared.opening.JournalEntry.{JournalEntry}

-- the place behind a segment's whole records, if there is a segment
abbrev pub EndsAtPlace : Option ℕ → Option (List ℕ) → Type 0
EndsAtPlace None file = file ≡ None
EndsAtPlace (Some place) file = (bs : List (List ℕ)) × (bytes : List ℕ) × (file ≡ Some bytes) × Whole 0 bs place bytes

-- the entries of a segment, with the places of their gates
abbrev pub gated_row : ℕ × List ℕ → List (ℕ × List ℕ)
gated_row row = gated_from row.0 0 (bodies 0 (length row.1) row.1)

-- Behind these calls: of these segments the entries were listed, the places behind them are known, and so are the calls that mend them.
pub record Takes (before : List Op) (rows : List (ℕ × List ℕ)) (waiting : List JournalEntry) (places : Places) (mending : List Op) : Type 0 where
  pub listed : map gated waiting ≡ flat_map gated_row rows
  pub ends : (section : ℕ) → EndsAtPlace (place_at places section) (find nat_cmp section rows)
  pub mended : mending ≡ before ++ mends rows
  pub unbroken : broken_rows rows ≡ None

-- the flat file is whole, if it is there
abbrev pub IsWholeFlat : Option (List ℕ) → Type 0
IsWholeFlat None = Unit {0}
IsWholeFlat (Some file) = (bs : List (List ℕ)) × (place : ℕ) × Whole 8 bs place file

-- .. of the segments of a disk's files
pub record FindsSegments (files : Files) (waiting : List JournalEntry) (places : Places) (calls : List Op) : Type 0 where
  pub listed : map gated waiting ≡ flat_map gated_row (map_of.entries (segments files))
  pub ends : (section : ℕ) → EndsAtPlace (place_at places section) (get (segments files) section)
  pub made : calls ≡ open_calls files
  pub unbroken : first_break files ≡ None
  pub flat : IsWholeFlat (get files Flat)
