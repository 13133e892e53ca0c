-- How a call of the actor ends, beside the ends of a course.
use Rattle.std.specs.Prelude.{ℕ, ⊤, Bool, IfErr, IsSome, IsTrue, Option, Some, None, Result, Ok, Err}
use Rattle.dkg_journal.specs.Disk.{Rose}
use Rattle.dkg_journal.specs.Fuse.{Reached}
use Rattle.dkg_infos.specs.declared.fault.Fault.{Fault}
use Rattle.dkg_infos.specs.declared.fault.Fault.TheVariants as fault
use Rattle.dkg_store.specs.Acts.{Cause, Ended, went, stopped, broken, by_cut, by_disk, by_secrets, by_want}
use Rattle.dkg_store.specs.declared.call.StoreError.{StoreError}
use Rattle.dkg_store.specs.declared.call.StoreError.TheVariants as store
use Rattle.dkg_store.specs.declared.devices.Devices.{Devices}
use Rattle.dkg_life.specs.declared.stop.Stop.{Stop}
use Rattle.dkg_life.specs.declared.stop.Stop.TheVariants.{Fault as Faulted, Cut, Failed}

-- what an error of a store that acts stop by is to the step (a cut is none: it ends acts anywhere)
abbrev pub fault_of_store : StoreError → Fault
fault_of_store store.Disk = fault.Disk
fault_of_store store.Secrets = fault.Secrets
fault_of_store (store.Corrupt name place) = fault.Corrupt name place
fault_of_store (store.LocalState cause) = fault.LocalState cause
fault_of_store (store.StateSyncEpochs info floor) = fault.StateSyncEpochs info floor
fault_of_store store.StateSyncMaterial = fault.StateSyncMaterial
fault_of_store store.Cut = fault.Disk
fault_of_store store.NoMemory = fault.NoMemory

-- .. and any error
abbrev pub stop_of : StoreError → Stop
stop_of store.Cut = Cut
stop_of store.Disk = Faulted fault.Disk
stop_of store.Secrets = Faulted fault.Secrets
stop_of (store.Corrupt name place) = Faulted (fault.Corrupt name place)
stop_of (store.LocalState cause) = Faulted (fault.LocalState cause)
stop_of (store.StateSyncEpochs info floor) = Faulted (fault.StateSyncEpochs info floor)
stop_of store.StateSyncMaterial = Faulted fault.StateSyncMaterial
stop_of store.NoMemory = Faulted fault.NoMemory

-- A device, a record that is not in its grammar (of which a course knows nothing) and want of memory end a course anywhere. Any other fault is one
-- that it stops by.
abbrev pub cause_in : Fault → Option Cause
cause_in fault.NoMemory = Some by_want
cause_in fault.Disk = Some by_disk
cause_in fault.Secrets = Some by_secrets
cause_in (fault.Corrupt name place) = Some by_disk
cause_in its = None

abbrev pub by_cause : {S : Type 0} → Option Cause → Fault → Ended Fault S
by_cause (Some cause) its = broken cause
by_cause None its = stopped its

abbrev pub by_fault : {S : Type 0} → Fault → Ended Fault S
by_fault its = by_cause (cause_in its) its

-- So does a cut. (A failed actor's call is no course: its clause is apart.)
abbrev pub by_stop : {S : Type 0} → Stop → Ended Fault S
by_stop Cut = broken by_cut
by_stop Failed = broken by_want
by_stop (Faulted its) = by_fault its

abbrev pub ends : {T S : Type 0} → (T → S) → Result T Stop → Ended Fault S
ends view (Ok end) = went (view end)
ends view (Err stop) = by_stop stop

-- .. of a call that answers no value
abbrev pub ends_in : {S : Type 0} → S → Result (Unit {0}) Stop → Ended Fault S
ends_in end result = ends (λ done. end) result

-- A device is blamed only where its count rose, a cut is the fuse's, and a record is blamed only where one is read. What else a fault blames, its course says.
abbrev pub IsCaused : Stop → (disk_rose secrets_rose reached : Type 0) → Type 0
IsCaused Cut disk_rose secrets_rose reached = reached
IsCaused Failed disk_rose secrets_rose reached = ⊥
IsCaused (Faulted fault.Disk) disk_rose secrets_rose reached = disk_rose
IsCaused (Faulted fault.Secrets) disk_rose secrets_rose reached = secrets_rose
IsCaused (Faulted (fault.Corrupt name place)) disk_rose secrets_rose reached = ⊥
IsCaused stop disk_rose secrets_rose reached = ⊤

-- .. where records are read: of a disk that tells none is blamed behind an opening
abbrev pub IsCausedBy : (tells : Bool) → Stop → (disk_rose secrets_rose reached : Type 0) → Type 0
IsCausedBy tells (Faulted (fault.Corrupt name place)) disk_rose secrets_rose reached = IsTrue tells → ⊥
IsCausedBy tells stop disk_rose secrets_rose reached = IsCaused stop disk_rose secrets_rose reached

-- .. of a step, which Failed may end, too
abbrev pub IsCausedInStep : (tells : Bool) → Stop → (disk_rose secrets_rose reached : Type 0) → Type 0
IsCausedInStep tells Failed disk_rose secrets_rose reached = ⊤
IsCausedInStep tells stop disk_rose secrets_rose reached = IsCausedBy tells stop disk_rose secrets_rose reached

-- An error of a call over these devices is caused by them.
abbrev pub StopsOver : {T D X : Type 0} → (disk_faults : D → ℕ) → (secret_faults : X → ℕ) → (old new : Devices D X) → Result T Stop → Type 0
StopsOver disk_faults secret_faults old new result = IfErr result (λ stop.
    IsCaused stop (Rose (disk_faults old.disk.now) (disk_faults new.disk.now)) (Rose (secret_faults old.secrets.now) (secret_faults new.secrets.now)) (Reached old.fuse new.fuse))

-- .. where records are read
abbrev pub StopsReading : {T D X : Type 0} → (tells : Bool) → (disk_faults : D → ℕ) → (secret_faults : X → ℕ) → (old new : Devices D X) → Result T Stop → Type 0
StopsReading tells disk_faults secret_faults old new result = IfErr result (λ stop.
    IsCausedBy tells stop (Rose (disk_faults old.disk.now) (disk_faults new.disk.now)) (Rose (secret_faults old.secrets.now) (secret_faults new.secrets.now)) (Reached old.fuse new.fuse))

-- It comes from outside: no course stops by it.
abbrev pub IsOutside : Stop → Type 0
IsOutside Cut = ⊤
IsOutside Failed = ⊤
IsOutside (Faulted its) = IsSome (cause_in its)
