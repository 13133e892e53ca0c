-- What lives make of the devices, beside what their acts do.
use Rattle.std.specs.Prelude.{ℕ, ◌≡◌, ◌≤◌, ⊤, Bool, IsTrue, List}
use Rattle.dkg_journal.specs.DeviceCall.{DeviceCall}
use Rattle.dkg_journal.specs.Disk.{Rose}
use Rattle.dkg_journal.specs.Names.{Files}
use Rattle.dkg_journal.specs.declared.disk.Op.{Op}
use Rattle.dkg_infos.specs.declared.entry.Entry.{Entry}
use Rattle.dkg_infos.specs.declared.fault.Fault.{Fault}
use Rattle.dkg_store.specs.Acts.{World, at, moment}
use Rattle.dkg_secrets.specs.Secrets.{Secrets}
use Rattle.dkg_store.specs.declared.devices.Devices.{Devices}
use Rattle.dkg_secrets.specs.declared.secrets.SecretOp.{SecretOp}
use Rattle.dkg_life.specs.Ends.{IsCausedBy}
use Rattle.dkg_life.specs.declared.stop.Stop.{Stop}
use Rattle.dkg_lives.specs.Causes.{HasDeviceCause, StopHasCause}
use Rattle.dkg_lives.specs.Stopped.{Stopped}

-- where these devices stand, with this image of the disk
abbrev pub world_of : {D X : Type 0} → (X → Secrets) → Devices D X → List Entry → Files → World
world_of held devices out files = at (moment out (held devices.secrets.now) devices.fuse) files

-- The same devices are lent still, and no count fell. Where the disk tells, both stopped between two calls just with these picks.
pub record Went {D X : Type 0} (tells : Bool) (made_disk : D → D → List (DeviceCall Op) → Type 0) (made_secrets : X → X → List (DeviceCall SecretOp) → Type 0)
    (disk_faults : D → ℕ) (secret_faults : X → ℕ) (old new : Devices D X) (picks : List ℕ) : Type 0 where
  pub same_disk : new.disk.ghost_name ≡ old.disk.ghost_name
  pub same_secrets : new.secrets.ghost_name ≡ old.secrets.ghost_name
  pub later_disk : disk_faults old.disk.now ≤ disk_faults new.disk.now
  pub later_secrets : secret_faults old.secrets.now ≤ secret_faults new.secrets.now
  pub stopped : IsTrue tells → Stopped made_disk made_secrets (old.disk.now, old.secrets.now) (new.disk.now, new.secrets.now) picks

-- A device that the fault blames has a count that rose.
abbrev pub Blames : {D X : Type 0} → (D → ℕ) → (X → ℕ) → (old new : Devices D X) → Fault → Type 0
Blames disk_faults secret_faults old new fault =
    HasDeviceCause fault (Rose (disk_faults old.disk.now) (disk_faults new.disk.now)) (Rose (secret_faults old.secrets.now) (secret_faults new.secrets.now))

-- .. that the stop blames
abbrev pub StopBlames : {D X : Type 0} → (D → ℕ) → (X → ℕ) → (old new : Devices D X) → Stop → Type 0
StopBlames disk_faults secret_faults old new stop =
    StopHasCause stop (Rose (disk_faults old.disk.now) (disk_faults new.disk.now)) (Rose (secret_faults old.secrets.now) (secret_faults new.secrets.now))

-- .. in a step, which blames a record of a disk that tells none alone
abbrev pub StepBlames : {D X : Type 0} → (tells : Bool) → (D → ℕ) → (X → ℕ) → (old new : Devices D X) → Stop → Type 0
StepBlames tells disk_faults secret_faults old new stop =
    IsCausedBy tells stop (Rose (disk_faults old.disk.now) (disk_faults new.disk.now)) (Rose (secret_faults old.secrets.now) (secret_faults new.secrets.now)) ⊤
