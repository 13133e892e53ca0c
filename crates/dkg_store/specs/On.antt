-- What a call did to both devices.
use Rattle.std.specs.Prelude.{◌≡◌, List}
use Rattle.dkg_journal.specs.DeviceCall.{DeviceCall}
use Rattle.dkg_journal.specs.Disk.{Lands}
use Rattle.dkg_journal.specs.Fuse.{Ran}
use Rattle.dkg_journal.specs.Names.{Files}
use Rattle.dkg_journal.specs.declared.disk.Op.{Op}
use Rattle.dkg_store.specs.Both.{EitherOp, MadeBoth}
use Rattle.dkg_secrets.specs.declared.secrets.SecretOp.{SecretOp}
use Rattle.dkg_store.specs.declared.devices.Devices.{Devices}

abbrev pub RanOn : {D X : Type 0} → (D → D → List (DeviceCall Op) → Type 0) → (X → X → List (DeviceCall SecretOp) → Type 0) → Devices D X → Devices D X → List EitherOp → Type 0
RanOn disk secrets old new calls = Ran (MadeBoth disk secrets) (old.disk.now, old.secrets.now) (new.disk.now, new.secrets.now) old.fuse new.fuse calls

-- the devices are the caller's own still
pub record SameLoans {D X : Type 0} (old new : Devices D X) : Type 0 where
  pub disk : new.disk.ghost_name ≡ old.disk.ghost_name
  pub secrets : new.secrets.ghost_name ≡ old.secrets.ghost_name

-- where nothing of the disk was loose, nothing is
abbrev pub StaysFirm : {D : Type 0} → (D → Files) → (D → Files → Type 0) → D → D → Type 0
StaysFirm files image old new = Lands (files old) (image old) → Lands (files new) (image new)
