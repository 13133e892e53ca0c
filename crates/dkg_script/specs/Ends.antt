-- How the entries of a run end, by what ended it, and which faults it can tell.
use Rattle.std.specs.Prelude.{List, [], ◌∷◌, ◌++◌, ◌≡◌, ◌≢◌, ◌<◌, ◌⊎◌, Bool, true, false, ⊤, IsFalse, Option, Some, None, Result, Ok, Err}
use Rattle.std.specs.List.{list_any}
use Rattle.dkg_infos.specs.declared.entry.Entry.{Entry}
use Rattle.dkg_infos.specs.declared.entry.Entry.TheVariants as entry
use Rattle.dkg_infos.specs.declared.fault.Fault.{Fault}
use Rattle.dkg_infos.specs.declared.fault.Fault.TheVariants.{NoMemory, Disk, Secrets, Corrupt, HeightRange, MissingEpochInfo, WrongEpoch, InvalidParticipants, LocalState, ConflictingBlock, DetachedBlock, SkippedHeight, OutOfWindow, InvalidConfig}
use Rattle.dkg_infos.specs.declared.fault.LocalCause.{LocalCause}
use Rattle.dkg_infos.specs.declared.fault.LocalCause.TheVariants.{StoredDealing, ShareRefused, OwnDealing}
use Rattle.dkg_infos.specs.declared.fault.ParticipantsCause.{ParticipantsCause}
use Rattle.dkg_infos.specs.declared.fault.ParticipantsCause.TheVariants.{Refused, Round, ProviderEmpty, ProviderAbove}

abbrev pub is_fault : Entry → Bool
is_fault (entry.Fault fault) = true
is_fault _ = false

abbrev pub has_fault : List Entry → Bool
has_fault entries = list_any is_fault entries

-- no entry is a fault
abbrev pub EndsWell : List Entry → Type 0
EndsWell entries = IsFalse (has_fault entries)

-- the fault is the last entry, and the only one that is a fault
pub record EndsInFault (entries : List Entry) (fault : Fault) : Type 0 where
  pub before : List Entry
  pub last : entries ≡ before ++ entry.Fault fault ∷ []
  pub only : IsFalse (has_fault before)

-- What a node's own state can contradict: a stored dealing or its share is refused, or it deals another dealing than it did.
abbrev pub IsToldLocal : LocalCause → Type 0
IsToldLocal (StoredDealing epoch dealer) = ⊤
IsToldLocal (ShareRefused epoch) = ⊤
IsToldLocal (OwnDealing epoch kept dealt) = kept ≢ dealt
IsToldLocal _ = ⊥

-- what refuses participants: the info's sets, the round, or what the provider says, which is nobody, or more than the limit
abbrev pub IsToldRefusal : ParticipantsCause → Type 0
IsToldRefusal (Refused why) = ⊤
IsToldRefusal (Round why) = ⊤
IsToldRefusal ProviderEmpty = ⊤
IsToldRefusal (ProviderAbove count most) = most < count

-- The faults that lives over many epochs can tell: those of a device, a record that is none, a height past the range, an info that is missing, is of another epoch or is refused, what
-- contradicts the node's own state, and a delivered block that doesn't belong to the chain, or to the window of a life without a position. Want of memory is never told.
abbrev pub IsToldFault : Fault → Type 0
IsToldFault Disk = ⊤
IsToldFault Secrets = ⊤
IsToldFault (Corrupt name place) = ⊤
IsToldFault HeightRange = ⊤
IsToldFault (MissingEpochInfo height) = ⊤
IsToldFault (WrongEpoch expected got) = got ≢ expected
IsToldFault (InvalidParticipants cause) = IsToldRefusal cause
IsToldFault (LocalState cause) = IsToldLocal cause
IsToldFault (ConflictingBlock height) = ⊤
IsToldFault (DetachedBlock height) = ⊤
IsToldFault (SkippedHeight awaited got) = awaited < got
IsToldFault (OutOfWindow height) = ⊤
IsToldFault _ = ⊥

-- The fault is one that can be told and, where it blames a device, that device's count rose. (Each count's rise is handed in as a fact.)
abbrev pub HasRisen : Fault → (disk_rose secrets_rose : Type 0) → Type 0
HasRisen Disk disk_rose secrets_rose = disk_rose
HasRisen Secrets disk_rose secrets_rose = secrets_rose
HasRisen fault disk_rose secrets_rose = IsToldFault fault

-- The entries of lives that this fault ended. (Want of memory has no entry.)
abbrev pub EndsFaulted : Fault → List Entry → (disk_rose secrets_rose : Type 0) → Type 0
EndsFaulted NoMemory entries disk_rose secrets_rose = EndsWell entries
EndsFaulted fault entries disk_rose secrets_rose = EndsInFault entries fault × HasRisen fault disk_rose secrets_rose

-- the entries of the lives of a script, by what running them answered
abbrev pub EndsRun : Result (Unit {0}) Fault → List Entry → (disk_rose secrets_rose : Type 0) → Type 0
EndsRun (Ok u) entries disk_rose secrets_rose = EndsWell entries
EndsRun (Err fault) entries disk_rose secrets_rose = EndsFaulted fault entries disk_rose secrets_rose

-- A CONFIGURATION THAT IS REFUSED ends the run before its lives: the fault that says why is all that is told. (Memory may want for that entry.) Else the lives end the run.
abbrev pub EndsScript : (refused : Option Fault) → Result (Unit {0}) Fault → List Entry → (disk_rose secrets_rose : Type 0) → Type 0
EndsScript (Some its) answered entries disk_rose secrets_rose = ((answered ≡ Err its) × (entries ≡ entry.Fault its ∷ [])) ⊎ ((answered ≡ Err NoMemory) × (entries ≡ []))
EndsScript None answered entries disk_rose secrets_rose = EndsRun answered entries disk_rose secrets_rose

-- a fault that can be told and is no status of its own
abbrev pub IsNodeFault : Fault → Type 0
IsNodeFault NoMemory = ⊥
IsNodeFault Disk = ⊥
IsNodeFault Secrets = ⊥
IsNodeFault (InvalidConfig cause) = ⊤
IsNodeFault fault = IsToldFault fault
