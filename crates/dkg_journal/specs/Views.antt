-- A listed entry without its place.
use Rattle.std.specs.Prelude.{List, map}
use Rattle.dkg_journal.specs.Records.{SectionEntry}
use Rattle.dkg_journal.specs.declared.opening.JournalEntry.{JournalEntry}

abbrev pub view : JournalEntry → SectionEntry
view e = (e.section, e.body)

abbrev pub views : List JournalEntry → List SectionEntry
views es = map view es
