-- What a desk's record says, and where a disk stands beside its desk.
use Rattle.std.specs.Prelude.{◌≡◌, ℕ, ◌-◌, ◌^◌, List, Option, Some, None, Result, Ok, Err}
use Rattle.std.specs.FinMap.{get}
use Rattle.dkg_values.specs.Codec.{whole}
use Rattle.dkg_values.specs.Uint.{uint_at}
use Rattle.dkg_values.specs.declared.codec.CodecError.{CodecError}
use Rattle.dkg_values.specs.declared.name.Name.TheVariants.{Plan}
use Rattle.dkg_journal.specs.Names.{Files}
use Rattle.dkg_journal.specs.Disk.{Lands}
use Rattle.dkg_sign.specs.Desks.{Desk}
use Rattle.dkg_sign.specs.declared.error.DeskError.{DeskError}
use Rattle.dkg_sign.specs.declared.error.DeskError.TheVariants.{Corrupt}

abbrev pub epoch_read : Result ℕ CodecError → Result (Option ℕ) DeskError
epoch_read (Ok epoch) = Ok (Some epoch)
epoch_read (Err e) = Err (Corrupt 0)

abbrev pub epoch_in : Option (List ℕ) → Result (Option ℕ) DeskError
epoch_in None = Ok None
epoch_in (Some bytes) = epoch_read (whole (uint_at (2 ^ 64 - 1) bytes))

-- The epoch in the record, none where there is no record, and Corrupt where it is not one whole epoch.
abbrev pub recorded : Files → Result (Option ℕ) DeskError
recorded files = epoch_in (get files Plan)

-- The disk is as the desk's last call left it: its record has the desk's current epoch, and nothing is loose.
pub record IsAsLeft (desk : Desk) (files : Files) (image : Files → Type 0) : Type 0 where
  pub says : recorded files ≡ Ok desk.current
  pub settled : Lands files image
