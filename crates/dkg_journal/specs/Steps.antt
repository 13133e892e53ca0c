-- A journal's files on a disk, and what a crash makes of their entries.
use Rattle.std.specs.Prelude.{◌≡◌, ◌≢◌, ◌⊎◌, ℕ, ◌+◌, List, [], ◌∷◌, ◌++◌, Option, Some, None, Result, OnOk}
use Rattle.std.specs.FinMap.{get}
use Rattle.dkg_journal.specs.Names.{Files}
use Rattle.dkg_journal.specs.Disk.{SameElse, HasFile, ImagesFollow}
use Rattle.dkg_journal.specs.Records.{SectionEntry, entries, placed, IsShut, behind_gate}
use Rattle.dkg_journal.specs.Places.{Places, place_at}
use Rattle.dkg_values.specs.declared.name.Name.{Name}
use Rattle.dkg_values.specs.declared.name.Name.TheVariants.{Plan, Flat, Segment}
use Rattle.dkg_journal.specs.declared.disk.Op.{Op}
use Rattle.dkg_journal.specs.declared.disk.Op.TheVariants.{WriteAt, Sync, Install}

-- the file of this name is this, and nothing of it is loose
pub record Firm (name : Name) (bytes : List ℕ) (files : Files) (image : Files → Type 0) : Type 0 where
  pub there : get files name ≡ Some bytes
  pub only : (c : Files) → image c → get c name ≡ Some bytes

-- whole records, and at this place a gate that isn't open; or there is no file
abbrev pub IsSegmentAt : Option ℕ → Option (List ℕ) → Type 0
IsSegmentAt None file = file ≡ None
IsSegmentAt (Some place) file = (bs : List (List ℕ)) × (bytes : List ℕ) × (file ≡ Some bytes) × IsShut 0 bs place bytes

-- There is no flat file, and each segment ends where its place says. Nothing of the journal's files is loose.
pub record IsOpenAt (places : Places) (files : Files) (image : Files → Type 0) : Type 0 where
  pub no_flat : get files Flat ≡ None
  pub each : (section : ℕ) → IsSegmentAt (place_at places section) (get files (Segment section))
  pub only : (c : Files) → image c → (q : Name) → q ≢ Plan → get c q ≡ get files q

-- .. as far as an append to one section goes
pub record IsNextAppend (section : ℕ) (place : Option ℕ) (files : Files) (image : Files → Type 0) : Type 0 where
  pub no_flat : (c : Files) → image c → get c Flat ≡ None
  pub at : IsSegmentAt place (get files (Segment section))
  pub only : (c : Files) → image c → get c (Segment section) ≡ get files (Segment section)

-- whole records, and a closed gate at this place, all of it on the disk
pub record SegmentAt (section place : ℕ) (files : Files) (image : Files → Type 0) : Type 0 where
  pub bs : List (List ℕ)
  pub bytes : List ℕ
  pub firm : Firm (Segment section) bytes files image
  pub shut : IsShut 0 bs place bytes

-- only the file of this name may change, to one that has P
abbrev pub Into : Name → (List ℕ → Type 0) → Files → Files → Type 0
Into name P old new = SameElse name old new × HasFile new name P

-- the journal's files may change, and the entries are the same
pub record Keeps (old new : Files) : Type 0 where
  pub plan : get new Plan ≡ get old Plan
  pub same : entries new ≡ entries old

-- only the file of this name may change, and the entries are the same
pub record KeepsBut (name : Name) (old new : Files) : Type 0 where
  pub others : SameElse name old new
  pub same : entries new ≡ entries old

-- only the segment of an entry's section may change, and there is that entry more
pub record AddsEntry (e : SectionEntry) (old new : Files) : Type 0 where
  pub others : SameElse (Segment e.0) old new
  pub added : entries new ≡ placed (entries old) e

-- .. or there isn't
pub record MayAdd (e : SectionEntry) (old new : Files) : Type 0 where
  pub others : SameElse (Segment e.0) old new
  pub either : (entries new ≡ entries old) ⊎ (entries new ≡ placed (entries old) e)

-- An append that gave this answer: each image has the entries from before, with the new one or without, and at Ok with it.
pub record Grows {T E : Type 0} (e : SectionEntry) (result : Result T E) (old new : Files → Type 0) : Type 0 where
  pub may : ImagesFollow (MayAdd e) old new
  pub added : OnOk result (ImagesFollow (AddsEntry e) old new)

abbrev pub place_or_start : Option ℕ → ℕ
place_or_start None = 0
place_or_start (Some place) = place

abbrev pub make_segment : ℕ → Op
make_segment section = Install (Segment section) (0 ∷ [])

-- the changing calls of an append where the file is there
abbrev pub record_calls : ℕ → SectionEntry → List Op
record_calls place e = WriteAt (Segment e.0) (place + 1) (behind_gate e.1) ∷ Sync (Segment e.0) ∷ WriteAt (Segment e.0) place (1 ∷ []) ∷ Sync (Segment e.0) ∷ []

abbrev pub make_calls : ℕ → Option ℕ → List Op
make_calls section (Some place) = []
make_calls section None = make_segment section ∷ []

abbrev pub append_calls_at : Option ℕ → SectionEntry → List Op
append_calls_at place e = make_calls e.0 place ++ record_calls (place_or_start place) e
