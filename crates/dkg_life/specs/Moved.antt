-- What became of the devices and of the journal, beside what the acts did.
use Rattle.std.specs.Prelude.{ℕ, ◌≡◌, ◌≤◌, nat_le, Bool, IsTrue, List}
use Rattle.std.specs.FinMap.{get, retain_keys}
use Rattle.dkg_journal.specs.DeviceCall.{DeviceCall}
use Rattle.dkg_journal.specs.Fuse.{RanAll}
use Rattle.dkg_journal.specs.Records.{entries}
use Rattle.dkg_journal.specs.declared.disk.Op.{Op}
use Rattle.dkg_store.specs.Both.{EitherOp, MadeBoth}
use Rattle.dkg_secrets.specs.declared.secrets.SecretOp.{SecretOp}
use Rattle.dkg_journal.specs.Names.{Files}
use Rattle.dkg_journal.specs.Disk.{ImagesFollow, Lands}
use Rattle.dkg_journal.specs.Journals.{IsOpen}
use Rattle.dkg_journal.specs.declared.journal.Journal.{Journal}
use Rattle.dkg_store.specs.Corrupt.{AreFit}
use Rattle.dkg_store.specs.Counts.{CountsOn}
use Rattle.dkg_store.specs.Named.{SamePlan}
use Rattle.dkg_store.specs.Pairs.{IsWhole, Pairs, HoldsDealings, recovered}
use Rattle.dkg_secrets.specs.Secrets.{Secrets}
use Rattle.dkg_store.specs.declared.devices.Devices.{Devices}

-- The same devices are lent still, no count fell, and the fuse goes on. Their calls are just those that it counted.
pub record Moved {D X : Type 0} (tells : Bool) (made_disk : D → D → List (DeviceCall Op) → Type 0) (made_secrets : X → X → List (DeviceCall SecretOp) → Type 0)
    (disk_faults : D → ℕ) (secret_faults : X → ℕ) (old new : Devices D X) : Type 0 where
  pub counts : CountsOn old.fuse new.fuse
  pub ran : IsTrue tells → (calls : List EitherOp) × RanAll (MadeBoth made_disk made_secrets) (old.disk.now, old.secrets.now) (new.disk.now, new.secrets.now) old.fuse new.fuse calls
  pub same_disk : new.disk.ghost_name ≡ old.disk.ghost_name
  pub same_secrets : new.secrets.ghost_name ≡ old.secrets.ghost_name
  pub later_disk : disk_faults old.disk.now ≤ disk_faults new.disk.now
  pub later_secrets : secret_faults old.secrets.now ≤ secret_faults new.secrets.now

-- A journal is open, and nothing of its disk is loose.
pub record IsFirm (journal : Journal) (files : Files) (image : Files → Type 0) : Type 0 where
  pub open_on : IsOpen journal files image
  pub lands : Lands files image

-- WHERE SOMETHING WAS LOOSE: the acts say nothing of it, and these hold all the same.

-- No record that a crash leaves is out of its grammar, or past this limit, where none was; and the plan is as it was.
pub record StaysSound (most : ℕ) (image next : Files → Type 0) : Type 0 where
  pub fit : AreFit most image → AreFit most next
  pub plan : ImagesFollow SamePlan image next

-- .. and whatever a crash gave back, it gives back: for calls that record nothing
pub record StaysWhole (image next : Files → Type 0) (held held_now : Secrets) : Type 0 where
  pub sound : (most : ℕ) → StaysSound most image next
  pub holds : (pairs : Pairs) → HoldsDealings pairs image held → HoldsDealings pairs next held_now

-- What was whole is whole, and gives back the same dealings of this epoch and later ones; and the plan is the same.
pub record StaysGiven (min : ℕ) (old new : Files) (held held_now : Secrets) : Type 0 where
  pub plan : SamePlan old new
  pub whole : IsWhole (entries old) held → IsWhole (entries new) held_now
  pub pairs : IsWhole (entries old) held
      → retain_keys (recovered (entries new) held_now) (λ k. nat_le min k.0) ≡ retain_keys (recovered (entries old) held) (λ k. nat_le min k.0)

-- .. so does each image, of one from before: for an opening, which prunes below this epoch
pub record StaysAbove (min : ℕ) (image next : Files → Type 0) (held held_now : Secrets) : Type 0 where
  pub fit : (most : ℕ) → AreFit most image → AreFit most next
  pub each : (c : Files) → next c → (d : Files) × image d × StaysGiven min d c held held_now

-- Of this epoch and later ones whatever a crash leaves gives back what these do.
pub record GivesFrom (min : ℕ) (pairs : Pairs) (image : Files → Type 0) (held : Secrets) : Type 0 where
  pub each : (c : Files) → image c → (key : ℕ × ℕ) → min ≤ key.0 → get (recovered (entries c) held) key ≡ get pairs key

-- .. and goes on giving it back
abbrev pub StaysFrom : (min : ℕ) → (image next : Files → Type 0) → (held held_now : Secrets) → Type 0
StaysFrom min image next held held_now = (pairs : Pairs) → GivesFrom min pairs image held → GivesFrom min pairs next held_now
