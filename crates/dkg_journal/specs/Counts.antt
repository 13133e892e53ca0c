-- What a call of a disk counted, and by which cause it ended.
use Rattle.std.specs.Prelude.{◌≤◌, ℕ, Result, IsErrOf}
use Rattle.dkg_journal.specs.Burn.{Burn}
use Rattle.dkg_journal.specs.Disk.{Lands, Rose}
use Rattle.dkg_journal.specs.Fuse.{Fused}
use Rattle.dkg_journal.specs.Names.{Files}
use Rattle.dkg_journal.specs.declared.call.JournalError.{JournalError}
use Rattle.dkg_journal.specs.declared.call.JournalError.TheVariants.{Disk, Cut, NoMemory}

-- Neither count of the disk fell, and the answer is Disk only where that of its faults rose.
pub record Counts {D T : Type 0} (faults wants : D → ℕ) (result : Result T JournalError) (old new : D) : Type 0 where
  pub later : faults old ≤ faults new
  pub later_wants : wants old ≤ wants new
  pub disk : IsErrOf result Disk → Rose (faults old) (faults new)

-- .. of a call that makes changing calls: it is cut where the fuse says, and then the disk reads as one of the images of that moment.
pub record Caused {D T : Type 0} (Tells : Type 0) (files : D → Files) (image : D → Files → Type 0) (faults wants : D → ℕ) (result : Result T JournalError) (old new : D) (before now : Burn) : Type 0 where
  pub counts : Counts faults wants result old new
  pub fused : Fused Cut NoMemory result before now
  pub lands : IsErrOf result Cut → Tells → Lands (files new) (image new)
