-- What a stop blames of a part of a call that touches both devices, it blames of all of it.
use Rattle.std.proofs.Common.{arith, Result, Ok, Err}
use Rattle.std.specs.Prelude.{ℕ, Bool, List, IfErr}
use Rattle.dkg_journal.specs.DeviceCall.{DeviceCall}
use Rattle.dkg_journal.specs.Disk.{Rose}
use Rattle.dkg_journal.specs.Fuse.{Reached}
use Rattle.dkg_journal.specs.declared.disk.Op.{Op}
use Rattle.dkg_secrets.specs.declared.secrets.SecretOp.{SecretOp}
use Rattle.dkg_store.specs.declared.devices.Devices.{Devices}
use Rattle.dkg_store.proofs.Counts.{reached_behind}
use Rattle.dkg_infos.specs.declared.fault.Fault.TheVariants as fault
use Rattle.dkg_life.specs.declared.stop.Stop.{Stop}
use Rattle.dkg_life.specs.declared.stop.Stop.TheVariants.{Fault as Faulted, Cut, Failed}
use Rattle.dkg_life.specs.Ends.{IsCaused}
use Rattle.dkg_life.specs.Moved.{Moved}
use Rattle.dkg_life.proofs.Caused.{rose_around}

module _ {disk secrets reached disk_around secrets_around reached_around : Type 0} (of_disk : disk → disk_around) (of_secrets : secrets → secrets_around) (of_reached : reached → reached_around) where
  pub caused_more : (stop : Stop) → IsCaused stop disk secrets reached → IsCaused stop disk_around secrets_around reached_around
  caused_more (Faulted fault.NoMemory) is = tt
  caused_more (Faulted fault.Disk) is = of_disk is
  caused_more (Faulted fault.Secrets) is = of_secrets is
  caused_more (Faulted (fault.Corrupt x y)) is = absurd is
  caused_more (Faulted (fault.InvalidConfig x)) is = tt
  caused_more (Faulted (fault.StateSyncEpochs x y)) is = tt
  caused_more (Faulted fault.StateSyncMaterial) is = tt
  caused_more (Faulted (fault.ConflictingBlock x)) is = tt
  caused_more (Faulted (fault.DetachedBlock x)) is = tt
  caused_more (Faulted (fault.SkippedHeight x y)) is = tt
  caused_more (Faulted (fault.OutOfWindow x)) is = tt
  caused_more (Faulted fault.HeightRange) is = tt
  caused_more (Faulted (fault.MissingEpochInfo x)) is = tt
  caused_more (Faulted (fault.WrongEpoch x y)) is = tt
  caused_more (Faulted (fault.InvalidParticipants x)) is = tt
  caused_more (Faulted (fault.DirectoryMismatch x)) is = tt
  caused_more (Faulted (fault.LocalState x)) is = tt
  caused_more (Faulted fault.FinalBlockMissing) is = tt
  caused_more (Faulted fault.FloorBlockMissing) is = tt
  caused_more Cut is = of_reached is
  caused_more Failed is = absurd is

module _ {D X : Type 0} (tells : Bool) (disk : D → D → List (DeviceCall Op) → Type 0) (secrets : X → X → List (DeviceCall SecretOp) → Type 0) (disk_faults : D → ℕ) (secret_faults : X → ℕ)
    (old mid new : Devices D X) (first : Moved tells disk secrets disk_faults secret_faults old mid) (second : Moved tells disk secrets disk_faults secret_faults mid new)
  where
    -- its second part
    pub caused_behind : (stop : Stop) → IsCaused stop (Rose (disk_faults mid.disk.now) (disk_faults new.disk.now)) (Rose (secret_faults mid.secrets.now) (secret_faults new.secrets.now)) (Reached mid.fuse new.fuse)
        → IsCaused stop (Rose (disk_faults old.disk.now) (disk_faults new.disk.now)) (Rose (secret_faults old.secrets.now) (secret_faults new.secrets.now)) (Reached old.fuse new.fuse)
    caused_behind stop is =
        caused_more (λ x. rose_around _ _ _ _ first.later_disk second.later_disk (omega arith) x) (λ x. rose_around _ _ _ _ first.later_secrets second.later_secrets (omega arith) x)
        (λ x. reached_behind _ _ _ first.counts x) stop is

    pub blamed_behind : {T : Type 0} (r : Result T Stop)
        → IfErr r (λ stop. IsCaused stop (Rose (disk_faults mid.disk.now) (disk_faults new.disk.now)) (Rose (secret_faults mid.secrets.now) (secret_faults new.secrets.now)) (Reached mid.fuse new.fuse))
        → IfErr r (λ stop. IsCaused stop (Rose (disk_faults old.disk.now) (disk_faults new.disk.now)) (Rose (secret_faults old.secrets.now) (secret_faults new.secrets.now)) (Reached old.fuse new.fuse))
    blamed_behind (Ok x) is = tt
    blamed_behind (Err stop) is = caused_behind stop is
