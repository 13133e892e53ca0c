-- The changing calls of both devices, in one order.
use Rattle.std.specs.Prelude.{ℕ, List, [], ◌∷◌, ◌++◌, map, ◌⊎◌}
use Rattle.dkg_journal.specs.DeviceCall.{DeviceCall, CallMade, CutIn, Crashes}
use Rattle.dkg_journal.specs.Disk.{Rose}
use Rattle.dkg_values.specs.declared.name.Name.{Name}
use Rattle.dkg_journal.specs.Pruning.{prune_calls}
use Rattle.dkg_journal.specs.Records.{SectionEntry}
use Rattle.dkg_journal.specs.Journals.{append_calls}
use Rattle.dkg_journal.specs.declared.disk.Op.{Op}
use Rattle.dkg_journal.specs.declared.journal.Journal.{Journal}
use Rattle.dkg_secrets.specs.declared.secrets.SecretOp.{SecretOp}
use Rattle.dkg_secrets.specs.declared.secrets.SecretOp.TheVariants.{Prune}

pub data EitherOp : Type 0 where
  on_disk : Op → EitherOp
  on_secrets : SecretOp → EitherOp

-- what the disk sees of them (a crash is one of both)
abbrev pub disk_calls : List (DeviceCall EitherOp) → List (DeviceCall Op)
disk_calls [] = []
disk_calls (CallMade (on_disk op) ∷ calls) = CallMade op ∷ disk_calls calls
disk_calls (CallMade (on_secrets op) ∷ calls) = disk_calls calls
disk_calls (CutIn (on_disk op) pick ∷ calls) = CutIn op pick ∷ disk_calls calls
disk_calls (CutIn (on_secrets op) pick ∷ calls) = disk_calls calls
disk_calls (Crashes pick ∷ calls) = Crashes pick ∷ disk_calls calls

-- .. and the secret store
abbrev pub secret_calls : List (DeviceCall EitherOp) → List (DeviceCall SecretOp)
secret_calls [] = []
secret_calls (CallMade (on_disk op) ∷ calls) = secret_calls calls
secret_calls (CallMade (on_secrets op) ∷ calls) = CallMade op ∷ secret_calls calls
secret_calls (CutIn (on_disk op) pick ∷ calls) = secret_calls calls
secret_calls (CutIn (on_secrets op) pick ∷ calls) = CutIn op pick ∷ secret_calls calls
secret_calls (Crashes pick ∷ calls) = Crashes pick ∷ secret_calls calls

-- each device had its own of these, and no others
pub record MadeBoth {D X : Type 0} (disk : D → D → List (DeviceCall Op) → Type 0) (secrets : X → X → List (DeviceCall SecretOp) → Type 0) (old new : D × X) (calls : List (DeviceCall EitherOp)) : Type 0 where
  pub on_the_disk : disk old.0 new.0 (disk_calls calls)
  pub on_the_secrets : secrets old.1 new.1 (secret_calls calls)

-- the calls of a put and of an append behind it
abbrev pub put_then_append : SecretOp → Journal → SectionEntry → List EitherOp
put_then_append op journal e = on_secrets op ∷ map on_disk (append_calls journal e)

-- the calls of a prune: of the journal, and then of the secrets
abbrev pub prune_both : ℕ → List Name → List EitherOp
prune_both min names = map on_disk (prune_calls min names) ++ on_secrets (Prune min) ∷ []

-- one of the devices wanted memory itself
pub record IsWanted (disk disk_now secrets secrets_now : ℕ) : Type 0 where
  pub so : Rose disk disk_now ⊎ Rose secrets secrets_now

-- The code itself wanted memory, and all is as before; or a device did.
pub record IsWant (Untouched : Type 0) (disk disk_now secrets secrets_now : ℕ) : Type 0 where
  pub so : Untouched ⊎ IsWanted disk disk_now secrets secrets_now
