-- What a call is over: both devices before it and behind it.
use Rattle.std.specs.Prelude.{ℕ, ◌≡◌, Bool, IsTrue, List}
use Rattle.dkg_journal.specs.DeviceCall.{DeviceCall}
use Rattle.dkg_journal.specs.Disk.{Rose}
use Rattle.dkg_journal.specs.Names.{Files}
use Rattle.dkg_journal.specs.declared.disk.Op.{Op}
use Rattle.dkg_secrets.specs.Secrets.{Secrets}
use Rattle.dkg_secrets.specs.declared.secrets.SecretOp.{SecretOp}
use Rattle.dkg_lives.specs.Stopped.{Stopped}

-- How both devices stand: what a read of the disk gives, what a crash may leave of it, and what the secret store holds.
pub record DevicesStanding : Type 1 where
  pub files : Files
  pub image : Files → Type 0
  pub held : Secrets

abbrev pub standing : Files → (image : Files → Type 0) → (held : Secrets) → DevicesStanding
standing files image held = record { files = files; image = image; held = held }

-- How both devices stood before a call and stand now, and what is told of what came between.
pub record DevicesAround : Type 1 where
  -- the disk tells what it holds, and both devices do
  pub disk_tells : Type 0
  pub tells : Type 0
  pub before : DevicesStanding
  pub now : DevicesStanding
  -- the device failed: its count rose
  pub disk_rose : Type 0
  pub secrets_rose : Type 0
  -- both devices stopped between two of their calls with just these picks, in this order
  pub stopped : (picks : List ℕ) → Type 0
  -- both devices are the same
  pub same : Type 0

-- .. of a disk and a secret store, by what their types tell of them
abbrev pub over : {D X : Type 0} → (disk_tells : Bool) → (files : D → Files) → (image : D → Files → Type 0) → (disk_faults : D → ℕ)
    → (disk_made : D → D → List (DeviceCall Op) → Type 0) → (secrets_tell : Bool) → (held : X → Secrets) → (secret_faults : X → ℕ)
    → (secrets_made : X → X → List (DeviceCall SecretOp) → Type 0) → (old new : D × X) → DevicesAround
over disk_tells files image disk_faults disk_made secrets_tell held secret_faults secrets_made old new = record {
  disk_tells = IsTrue disk_tells;
  tells = IsTrue disk_tells × IsTrue secrets_tell;
  before = standing (files old.0) (image old.0) (held old.1);
  now = standing (files new.0) (image new.0) (held new.1);
  disk_rose = Rose (disk_faults old.0) (disk_faults new.0);
  secrets_rose = Rose (secret_faults old.1) (secret_faults new.1);
  stopped = Stopped disk_made secrets_made old new;
  same = (new.0 ≡ old.0) × (new.1 ≡ old.1);
}
