-- The records for which a store is not opened.
use Rattle.std.specs.Prelude.{◌≡◌, ◌⊎◌, ℕ, List, [], ◌∷◌, map, Option, Some, None, true}
use Rattle.std.specs.List.{AllByRecursion}
use Rattle.dkg_values.specs.declared.name.Name.{Name}
use Rattle.dkg_journal.specs.Names.{Files}
use Rattle.dkg_journal.specs.Opening.{AreUnbroken, first_break}
use Rattle.dkg_journal.specs.Gated.{gated, gated_entries}
use Rattle.dkg_journal.specs.Records.{SectionEntry, entries}
use Rattle.dkg_journal.specs.declared.opening.JournalEntry.{JournalEntry}
use Rattle.dkg_store.specs.Events.{is_event_body, no_event_at}

-- the body of each entry is an event within the limit
abbrev pub AreEvents : ℕ → List SectionEntry → Type 0
AreEvents limit es = AllByRecursion (λ e. is_event_body limit e.1 ≡ true) es

-- there is an entry, and the first is an event
abbrev pub BeginsWithEvent : ℕ → List SectionEntry → Type 0
BeginsWithEvent limit [] = ⊥
BeginsWithEvent limit (e ∷ es) = is_event_body limit e.1 ≡ true

-- These are the entries of the files, each with the place of its gate, and the one at this place is the first that is no event.
pub record HasNoEvent (limit : ℕ) (files : Files) (name : Name) (place : ℕ) : Type 0 where
  pub read : List JournalEntry
  pub are : map gated read ≡ gated_entries files
  pub first : no_event_at limit read ≡ Some (name, place)

-- A record that is not whole stands there. Or all are whole, and a body is no event within the limit.
pub record IsCorruptAt (limit : ℕ) (files : Files) (name : Name) (place : ℕ) : Type 0 where
  pub so : (first_break files ≡ Some (name, place)) ⊎ ((first_break files ≡ None) × HasNoEvent limit files name place)

-- where the first body stands that is no event within the limit, if there is one
abbrev pub IsAlien : ℕ → Files → Option (Name × ℕ) → Type 0
IsAlien limit files None = AreEvents limit (entries files)
IsAlien limit files (Some place) = IsCorruptAt limit files place.0 place.1

-- In whatever a crash now leaves, each record is whole, and its body is an event within the limit.
pub record AreFit (limit : ℕ) (image : Files → Type 0) : Type 0 where
  pub whole : AreUnbroken image
  pub events : (c : Files) → image c → AreEvents limit (entries c)
