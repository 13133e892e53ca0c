-- Which calls of a memory device fail, and what a memory disk reads as.
use Rattle.std.specs.Prelude.{◌≡◌, ◌↔◌, ℕ, List, Result, IsErrOf, Contains}
use Rattle.dkg_journal.specs.Names.{Files}
use Rattle.dkg_journal.specs.Fuse.{counted}
use Rattle.dkg_journal.specs.Table.{contents, RowsImage}
use Rattle.dkg_journal.specs.declared.memory.MemoryDisk.{MemoryDisk}

-- The call was counted, and it fails exactly where its number is one of these.
pub record FailsByNumber {T E : Type 0} (failed : E) (numbers : List ℕ) (before now : ℕ) (result : Result T E) : Type 0 where
  pub number : now ≡ counted before
  pub exact : IsErrOf result failed ↔ Contains numbers (counted before)

abbrev pub files_of : MemoryDisk → Files
files_of d = contents d.disk.files

abbrev pub images_of : MemoryDisk → Files → Type 0
images_of d = RowsImage d.disk.files
