-- The segments of a journal by section, as a disk has them, or as a flat file is parted into them.
use Rattle.std.specs.Prelude.{ℕ, List, [], ◌∷◌, ◌++◌, fold, length, drop, Option, Some, None}
use Rattle.std.specs.Ordering.{nat_cmp}
use Rattle.std.specs.FinMap as map_of
use Rattle.std.specs.FinMap.{FinMap}
use Rattle.dkg_journal.specs.Names.{Files}
use Rattle.dkg_journal.specs.Records.{read64, bodies, record_of}
use Rattle.dkg_values.specs.declared.name.Name.{Name}
use Rattle.dkg_values.specs.declared.name.Name.TheVariants.{Flat, Segment}

-- the bytes of segments by section
abbrev pub Segments : Type 0
Segments = FinMap nat_cmp (List ℕ)

-- of files by name those that are segments
abbrev pub segment_rows : List (Name × List ℕ) → List (ℕ × List ℕ)
segment_rows [] = []
segment_rows ((Segment section, file) ∷ rows) = (section, file) ∷ segment_rows rows
segment_rows ((_, file) ∷ rows) = segment_rows rows

-- what there is of a segment
abbrev pub piece : Option (List ℕ) → List ℕ
piece None = []
piece (Some bytes) = bytes

-- with one more record, whose body has its section in front
abbrev pub with_record : Segments → List ℕ → Segments
with_record m b = map_of.insert m (read64 b) (piece (map_of.get m (read64 b)) ++ record_of (drop 8 b))

-- the records of a flat file, each in the segment of its section
abbrev pub parted : List (List ℕ) → Segments
parted bs = fold with_record map_of.empty bs

abbrev pub segments_with : Option (List ℕ) → Files → Segments
segments_with (Some file) f = parted (bodies 8 (length file) file)
segments_with None f = map_of.from_entries (segment_rows (map_of.entries f))

-- the segments of a disk's files: where the flat file is there, those that it is parted into
abbrev pub segments : Files → Segments
segments f = segments_with (map_of.get f Flat) f
