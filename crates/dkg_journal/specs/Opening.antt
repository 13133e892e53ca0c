-- What opening a journal finds in its files, and the calls that mend them.
use Rattle.std.specs.Prelude.{◌≡◌, ℕ, List, [], ◌∷◌, ◌++◌, map, filter, flat_map, length, not, Bool, false, is_some, Option, Some, None}
use Rattle.std.specs.FinMap as map_of
use Rattle.std.specs.FinMap.{get, keys}
use Rattle.dkg_journal.specs.Names.{Files}
use Rattle.dkg_journal.specs.Records.{left_over, broken_at}
use Rattle.dkg_journal.specs.Segments.{Segments, segment_rows, segments}
use Rattle.dkg_values.specs.declared.name.Name.{Name}
use Rattle.dkg_values.specs.declared.name.Name.TheVariants.{Flat, Segment}
use Rattle.dkg_journal.specs.declared.disk.Op.{Op}
use Rattle.dkg_journal.specs.declared.disk.Op.TheVariants.{Install, Remove}

-- the place in the file of this name, or what comes behind
abbrev pub first_place : Name → Option ℕ → Option (Name × ℕ) → Option (Name × ℕ)
first_place name None later = later
first_place name (Some place) later = Some (name, place)

-- the first record in these segments that isn't whole
abbrev pub broken_rows : List (ℕ × List ℕ) → Option (Name × ℕ)
broken_rows [] = None
broken_rows (row ∷ rows) = first_place (Segment row.0) (broken_at 0 row.1) (broken_rows rows)

abbrev pub broken_with : Option (List ℕ) → Files → Option (Name × ℕ)
broken_with (Some file) f = first_place Flat (broken_at 8 file) None
broken_with None f = broken_rows (segment_rows (map_of.entries f))

-- The file and the place of the first record that isn't whole: in the flat file, or where that isn't there in the segments, rising.
abbrev pub first_break : Files → Option (Name × ℕ)
first_break f = broken_with (get f Flat) f

-- in whatever a crash now leaves, each record is whole
pub record AreUnbroken (image : Files → Type 0) : Type 0 where
  pub each : (c : Files) → image c → first_break c ≡ None

-- a file that ends without a gate gets a closed one
abbrev pub mend_at : ℕ → List ℕ → List ℕ → List Op
mend_at section file [] = Install (Segment section) (file ++ 0 ∷ []) ∷ []
mend_at section file (gate ∷ rest) = []

abbrev pub mend_of : ℕ × List ℕ → List Op
mend_of row = mend_at row.0 row.1 (left_over 0 (length row.1) row.1)

abbrev pub mends : List (ℕ × List ℕ) → List Op
mends rows = flat_map mend_of rows

-- a segment whose section has no record in the flat file
abbrev pub is_unnamed : Segments → Name → Bool
is_unnamed m (Segment section) = not (is_some (get m section))
is_unnamed m _ = false

abbrev pub removes : List Name → List Op
removes names = map (λ name. Remove name) names

abbrev pub open_calls_with : Option (List ℕ) → Files → List Op
open_calls_with (Some file) f = removes (filter (is_unnamed (segments f)) (keys f)) ++ (mends (map_of.entries (segments f)) ++ Remove Flat ∷ [])
open_calls_with None f = mends (map_of.entries (segments f))

-- The changing calls of an opening. Where the flat file is there, the segments that it doesn't name are removed, those that it names are
-- installed, and then it is removed. Else each segment that ends without a gate gets one.
abbrev pub open_calls : Files → List Op
open_calls f = open_calls_with (get f Flat) f
