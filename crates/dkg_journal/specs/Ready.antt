-- The calls of an append, made up before the first of them.
use Rattle.std.specs.Prelude.{◌≡◌, ◌+◌, ◌<◌, ◌≤◌, ◌^◌, ℕ, [], ◌∷◌, length, Option, IsTrue}
use Rattle.dkg_journal.specs.Records.{SectionEntry, behind_gate}
use Rattle.dkg_journal.specs.Places.{place_at, has_room}
use Rattle.dkg_journal.specs.Steps.{place_or_start, make_segment}
use Rattle.dkg_values.specs.declared.name.Name.TheVariants.{Segment}
use Rattle.dkg_journal.specs.declared.disk.Op.TheVariants.{WriteAt}
use Rattle.dkg_journal.specs.declared.journal.Journal.{Journal}
use Rattle.dkg_journal.specs.declared.journal.Prepared.{Prepared}

-- .. of an entry whose section's file ends at this place
pub record IsPrepared (calls : Prepared) (place : Option ℕ) (e : SectionEntry) : Type 0 where
  pub make : calls.make ≡ make_segment e.0
  pub write : calls.write ≡ WriteAt (Segment e.0) (place_or_start place + 1) (behind_gate e.1)
  pub gate : calls.gate ≡ WriteAt (Segment e.0) (place_or_start place) (1 ∷ [])
  pub short : length e.1 < 2 ^ 32

-- .. and the journal has room for where it will end
pub record CanAppend (calls : Prepared) (journal : Journal) (e : SectionEntry) : Type 0 where
  pub prepared : IsPrepared calls (place_at journal.places e.0) e
  pub low : place_or_start (place_at journal.places e.0) ≤ 2 ^ 62
  pub room : IsTrue (has_room journal.places e.0)
