-- What an opening of a journal answers of its records, and what a second one finds.
use Rattle.std.specs.Prelude.{◌≡◌, ◌⊎◌, ℕ, Some, None, Result, IsErrOf, OnOk}
use Rattle.dkg_journal.specs.Disk.{ImagesFollow, IsUnchanged}
use Rattle.dkg_journal.specs.Gated.{OpensAlike}
use Rattle.dkg_journal.specs.Names.{Files}
use Rattle.dkg_journal.specs.Opening.{AreUnbroken, first_break}
use Rattle.dkg_journal.specs.Steps.{Keeps}
use Rattle.dkg_values.specs.declared.name.Name.{Name}
use Rattle.dkg_journal.specs.declared.call.JournalError.{JournalError}
use Rattle.dkg_journal.specs.declared.call.JournalError.TheVariants.{Disk, Corrupt, NoMemory}

-- A record that is not whole is the one cause of Corrupt, and no Ok passes over one.
pub record Judges {T : Type 0} (result : Result T JournalError) (files : Files) : Type 0 where
  pub corrupt_there : (name : Name) (place : ℕ) → IsErrOf result (Corrupt name place) → first_break files ≡ Some (name, place)
  pub whole : OnOk result (first_break files ≡ None)
  pub corrupt : (name : Name) (place : ℕ) → first_break files ≡ Some (name, place) → IsErrOf result (Corrupt name place) ⊎ (IsErrOf result Disk ⊎ IsErrOf result NoMemory)

-- Another opening finds the same: at Ok, and at Corrupt, which comes before any change.
pub record Repeats {D T : Type 0} (Tells : Type 0) (files : D → Files) (image : D → Files → Type 0) (result : Result T JournalError) (old new : D) : Type 0 where
  pub alike : OnOk result (Tells → OpensAlike (files old) (files new))
  pub unread : (name : Name) (place : ℕ) → IsErrOf result (Corrupt name place) → IsUnchanged files image old new

-- Each image has the entries from before. Each record of whatever a crash leaves is whole, but where one was not and nothing was changed.
pub record KeepsAll (old new : Files → Type 0) : Type 0 where
  pub keeps : ImagesFollow Keeps old new
  pub sound : AreUnbroken old → AreUnbroken new
