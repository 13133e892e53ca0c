-- What the calls of a disk do to its files, and what a crash inside one may leave.
use Rattle.std.specs.Prelude.{◌≡◌, ◌≢◌, ◌<◌, ◌⊎◌, ℕ, ◌+◌, ◌^◌, ◌≤◌, List, ◌++◌, length, take, drop, Option, Some, None, Result, IsErrOf}
use Rattle.std.specs.FinMap.{get, insert, remove}
use Rattle.dkg_journal.specs.Names.{Files}
use Rattle.dkg_values.specs.declared.name.Name.{Name}
use Rattle.dkg_journal.specs.declared.disk.DiskError.{DiskError}
use Rattle.dkg_journal.specs.declared.disk.DiskError.TheVariants.{Failed, NoMemory}
use Rattle.dkg_journal.specs.declared.disk.Op.{Op}
use Rattle.dkg_journal.specs.declared.disk.Op.TheVariants.{WriteAt, Sync, Barrier, Install, Remove}

-- the bytes with these at this place
abbrev pub written : ℕ → List ℕ → List ℕ → List ℕ
written place bytes old = take place old ++ bytes ++ drop (place + length bytes) old

-- after a write of n bytes that isn't synced: any bytes in the range, and from the old end on if it goes past it, the same elsewhere
pub record Torn (at n : ℕ) (old new : List ℕ) : Type 0 where
  pub before : take at new ≡ take at old
  pub after : at + n ≤ length old → drop (at + n) new ≡ drop (at + n) old
  pub no_shorter : length old ≤ length new

-- the files under other names are the same
abbrev pub SameElse : Name → Files → Files → Type 0
SameElse name old new = (q : Name) → q ≢ name → get new q ≡ get old q

-- the file is there, and is so
pub record HasFile (files : Files) (name : Name) (P : List ℕ → Type 0) : Type 0 where
  pub bytes : List ℕ
  pub there : get files name ≡ Some bytes
  pub so : P bytes

-- what a crash inside the call makes of an image from before it
abbrev pub Inside : Op → Files → Files → Type 0
Inside (WriteAt name place bytes) old new = SameElse name old new × ((file : List ℕ) → get old name ≡ Some file → HasFile new name (Torn place (length bytes) file))
Inside (Sync name) old new = new ≡ old
Inside Barrier old new = new ≡ old
Inside (Install name bytes) old new = SameElse name old new × ((get new name ≡ get old name) ⊎ (get new name ≡ Some bytes))
Inside (Remove name) old new = SameElse name old new × ((get new name ≡ get old name) ⊎ (get new name ≡ None))

-- each new image is an old image after a step
pub record ImagesFollow (step : Files → Files → Type 0) (old new : Files → Type 0) : Type 0 where
  pub each : (c : Files) → new c → (d : Files) × old d × step d c

-- A write wants a file that is there, and a place in it or at its end.
abbrev pub Allowed : Files → Op → Type 0
Allowed f (WriteAt name place bytes) = HasFile f name (λ file. place ≤ length file)
Allowed f (Sync name) = Unit {0}
Allowed f Barrier = Unit {0}
Allowed f (Install name bytes) = Unit {0}
Allowed f (Remove name) = Unit {0}

abbrev pub after_write : Option (List ℕ) → Name → ℕ → List ℕ → Files → Files
after_write None name place bytes f = f
after_write (Some file) name place bytes f = insert f name (written place bytes file)

-- what a read gives after the call has returned Ok
abbrev pub files_after : Op → Files → Files
files_after (WriteAt name place bytes) f = after_write (get f name) name place bytes f
files_after (Sync name) f = f
files_after Barrier f = f
files_after (Install name bytes) f = insert f name bytes
files_after (Remove name) f = remove f name

-- what a crash leaves then, of the names that it made sure of
abbrev pub Durable : Op → Files → Files → Type 0
Durable (WriteAt name place bytes) f c = Unit {0}
Durable (Sync name) f c = get c name ≡ get f name
Durable Barrier f c = c ≡ f
Durable (Install name bytes) f c = get c name ≡ Some bytes
Durable (Remove name) f c = get c name ≡ None

-- the call has returned Ok
pub record Did (op : Op) (old new : Files) (image : Files → Type 0) : Type 0 where
  pub reads : new ≡ files_after op old
  pub durable : (c : Files) → image c → Durable op old c

-- a crash leaves what a read gives, and nothing else
pub record Lands (new : Files) (image : Files → Type 0) : Type 0 where
  pub only : (c : Files) → image c → c ≡ new

pub record IsUnchanged {D : Type 0} (files : D → Files) (image : D → Files → Type 0) (old new : D) : Type 0 where
  pub same_files : files new ≡ files old
  pub same_images : (c : Files) → image new c → image old c

-- the count rose, or stands at its last value
abbrev pub Rose : ℕ → ℕ → Type 0
Rose before now = (before < now) ⊎ (before + 1 ≡ 2 ^ 64)

pub record HasCause {T : Type 0} (before now : ℕ) (result : Result T DiskError) : Type 0 where
  pub later : before ≤ now
  pub failed : IsErrOf result Failed → Rose before now

-- The call answers want of memory only where the device counted one.
pub record HasWant {T : Type 0} (before now : ℕ) (result : Result T DiskError) : Type 0 where
  pub later : before ≤ now
  pub wanted : IsErrOf result NoMemory → Rose before now
