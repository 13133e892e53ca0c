-- Which calls the devices had in a call of the store.
use Rattle.std.proofs.Common.{ℕ, Bool, List, Option}
use Rattle.std.specs.Prelude.{IsTrue}
use Rattle.dkg_journal.specs.DeviceCall.{DeviceCall}
use Rattle.dkg_journal.specs.declared.disk.Op.{Op}
use Rattle.dkg_store.specs.Both.{EitherOp}
use Rattle.dkg_store.specs.Called.{Called}
use Rattle.dkg_store.specs.declared.devices.Devices.{Devices}
use Rattle.dkg_secrets.specs.declared.secrets.SecretOp.{SecretOp}
use Rattle.dkg_life.specs.Moved.{Moved}

-- What is known of them on a disk that tells.
pub moved_called : {D X : Type 0} (tells : Bool) (disk : D → D → List (DeviceCall Op) → Type 0) (secrets : X → X → List (DeviceCall SecretOp) → Type 0) (disk_faults : D → ℕ) (secret_faults : X → ℕ) {old new : Devices D X}
    {known : Type 0} {ends : Option Bool} {calls : List EitherOp} → (IsTrue tells → known) → Called known disk secrets disk_faults secret_faults ends calls old new → Moved tells disk secrets disk_faults secret_faults old new
moved_called tells disk secrets disk_faults secret_faults told_known called = record {
  counts = called.counts;
  ran = λ told. let ran = called.ran (told_known told) in (ran.first, ran.all);
  same_disk = called.same_disk;
  same_secrets = called.same_secrets;
  later_disk = called.later_disk;
  later_secrets = called.later_secrets;
}
