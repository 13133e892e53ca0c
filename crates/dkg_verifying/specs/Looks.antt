-- What a call leaves as it was that only looks at the devices.
use Rattle.std.specs.Prelude.{ℕ, ◌≡◌, Bool, IsTrue, List}
use Rattle.dkg_secrets.specs.Secrets.{Secrets}
use Rattle.dkg_store.specs.declared.devices.Devices.{Devices}
use Rattle.dkg_life.specs.Rules.{SameProvided}

-- What it was lent of a life is the same, and so is what lies on the disk and what the secret store holds. A provider that tells says what it said.
pub record OnlyLooks {L D X Dir : Type 0} (was now : L) (holds : X → Secrets) (old new : Devices D X) (tells : Bool) (participants participants_now : ℕ → List ℕ)
    (directory directory_now : ℕ → List ℕ → Dir) : Type 0 where
  pub same : now ≡ was
  pub disk : new.disk.now ≡ old.disk.now
  pub held : holds new.secrets.now ≡ holds old.secrets.now
  pub provider : IsTrue tells → SameProvided participants participants_now directory directory_now
