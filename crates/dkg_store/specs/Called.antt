-- What became of both devices in a call, beside its acts: which calls they had, and what ended it.
use Rattle.std.specs.Prelude.{◌≡◌, ◌≤◌, ℕ, Bool, true, false, List, [], Option, Some, None, Result, Ok, Err, IfSome, if◌then◌else◌}
use Rattle.dkg_journal.specs.DeviceCall.{DeviceCall}
use Rattle.dkg_journal.specs.Fuse.{RanAll, Reached}
use Rattle.dkg_journal.specs.declared.disk.Op.{Op}
use Rattle.dkg_values.specs.declared.name.Name.{Name}
use Rattle.dkg_store.specs.Both.{EitherOp, MadeBoth}
use Rattle.dkg_store.specs.Counts.{CountsOn}
use Rattle.dkg_store.specs.On.{RanOn}
use Rattle.dkg_store.specs.declared.call.StoreError.{StoreError}
use Rattle.dkg_store.specs.declared.call.StoreError.TheVariants.{Disk, Secrets, Corrupt, LocalState, StateSyncEpochs, StateSyncMaterial, Cut, NoMemory}
use Rattle.dkg_store.specs.declared.devices.Devices.{Devices}
use Rattle.dkg_secrets.specs.declared.secrets.SecretOp.{SecretOp}

-- How a call ended: in a change or without one, or it was stopped.
abbrev pub made_in : {T E : Type 0} → Bool → Result T E → Option Bool
made_in made (Ok end) = Some made
made_in made (Err error) = None

-- what is new where it ended in a change, and else what was
abbrev pub if_made : {M : Type 0} → Option Bool → M → M → M
if_made (Some true) new old = new
if_made (Some false) new old = old
if_made None new old = old

abbrev pub AllRanOn : {D X : Type 0} → (D → D → List (DeviceCall Op) → Type 0) → (X → X → List (DeviceCall SecretOp) → Type 0) → Devices D X → Devices D X → List EitherOp → Type 0
AllRanOn disk secrets old new calls = RanAll (MadeBoth disk secrets) (old.disk.now, old.secrets.now) (new.disk.now, new.secrets.now) old.fuse new.fuse calls

-- The same devices are lent still, no count of failures fell, and the fuse counted on. They had the first of these calls and no others; all of them where the call
-- ended in a change, none where it ended without one, and then the fuse cut none.
pub record Called {D X : Type 0} (known : Type 0) (made_disk : D → D → List (DeviceCall Op) → Type 0) (made_secrets : X → X → List (DeviceCall SecretOp) → Type 0)
    (disk_faults : D → ℕ) (secret_faults : X → ℕ) (ends : Option Bool) (calls : List EitherOp) (old new : Devices D X) : Type 0 where
  pub same_disk : new.disk.ghost_name ≡ old.disk.ghost_name
  pub same_secrets : new.secrets.ghost_name ≡ old.secrets.ghost_name
  pub later_disk : disk_faults old.disk.now ≤ disk_faults new.disk.now
  pub later_secrets : secret_faults old.secrets.now ≤ secret_faults new.secrets.now
  pub counts : CountsOn old.fuse new.fuse
  pub ran : known → RanOn made_disk made_secrets old new calls
  pub all : known → IfSome ends (λ made. AllRanOn made_disk made_secrets old new (if made then calls else []))
  pub not_cut : IfSome ends (λ made. Reached old.fuse new.fuse → ⊥)

-- What an error that ends a call is due to: a failure of the disk or of the secret store, a cut, want of memory, or a record that is not in its
-- grammar. No other error ends it.
abbrev pub ErrorIsDueWith : (record_at : Name → ℕ → Type 0) → StoreError → (disk secrets cut want : Type 0) → Type 0
ErrorIsDueWith record_at Disk disk secrets cut want = disk
ErrorIsDueWith record_at Secrets disk secrets cut want = secrets
ErrorIsDueWith record_at Cut disk secrets cut want = cut
ErrorIsDueWith record_at NoMemory disk secrets cut want = want
ErrorIsDueWith record_at (Corrupt name place) disk secrets cut want = record_at name place
ErrorIsDueWith record_at (LocalState cause) disk secrets cut want = ⊥
ErrorIsDueWith record_at (StateSyncEpochs info floor) disk secrets cut want = ⊥
ErrorIsDueWith record_at StateSyncMaterial disk secrets cut want = ⊥

-- .. where no record is read
abbrev pub ErrorIsDue : StoreError → (disk secrets cut want : Type 0) → Type 0
ErrorIsDue error disk secrets cut want = ErrorIsDueWith (λ name place. ⊥) error disk secrets cut want
