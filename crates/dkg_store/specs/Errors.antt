-- Which errors each call may give.
use Rattle.dkg_journal.specs.declared.call.JournalError.{JournalError}
use Rattle.dkg_journal.specs.declared.call.JournalError.TheVariants as of_journal
use Rattle.dkg_ceremony.specs.declared.ceremony.AckError.TheVariants as of_acks
use Rattle.dkg_ceremony.specs.declared.ceremony.AckError.TheVariants.{UnexpectedPlayer, InvalidAck}
use Rattle.dkg_values.specs.declared.name.Name.TheVariants.{Flat}
use Rattle.dkg_infos.specs.declared.fault.LocalCause.{LocalCause}
use Rattle.dkg_infos.specs.declared.fault.LocalCause.TheVariants.{StoredDealing, ShareRefused, OwnDealing, NoShare, OutcomeOmitted}
use Rattle.dkg_store.specs.declared.call.StoreError.{StoreError}
use Rattle.dkg_store.specs.declared.call.StoreError.TheVariants.{Disk, Secrets, Corrupt, LocalState, StateSyncEpochs, StateSyncMaterial, Cut, NoMemory}
use Rattle.dkg_store.specs.declared.dealer.AckHandleError.{AckHandleError}
use Rattle.dkg_store.specs.declared.dealer.AckHandleError.TheVariants.{Refused as AckRefused, Store as AckOfStore}
use Rattle.dkg_store.specs.declared.player.DealingHandleError.{DealingHandleError}
use Rattle.dkg_store.specs.declared.player.DealingHandleError.TheVariants.{Refused, Store as OfStore}

-- the errors that a call of a secret store may give
abbrev pub IsOfSecrets : StoreError → Type 0
IsOfSecrets Secrets = Unit {0}
IsOfSecrets Cut = Unit {0}
IsOfSecrets NoMemory = Unit {0}
IsOfSecrets Disk = ⊥
IsOfSecrets (Corrupt name place) = ⊥
IsOfSecrets (LocalState cause) = ⊥
IsOfSecrets (StateSyncEpochs info floor) = ⊥
IsOfSecrets StateSyncMaterial = ⊥

-- the errors that calls of both devices may give
abbrev pub IsOfDevices : StoreError → Type 0
IsOfDevices Disk = Unit {0}
IsOfDevices Secrets = Unit {0}
IsOfDevices Cut = Unit {0}
IsOfDevices NoMemory = Unit {0}
IsOfDevices (Corrupt name place) = ⊥
IsOfDevices (LocalState cause) = ⊥
IsOfDevices (StateSyncEpochs info floor) = ⊥
IsOfDevices StateSyncMaterial = ⊥

-- the errors that a call of the journal may give in the midst of a prune: those of both devices, and a record that is not whole
abbrev pub IsOfPruning : StoreError → Type 0
IsOfPruning Disk = Unit {0}
IsOfPruning Secrets = Unit {0}
IsOfPruning Cut = Unit {0}
IsOfPruning NoMemory = Unit {0}
IsOfPruning (Corrupt name place) = Unit {0}
IsOfPruning (LocalState cause) = ⊥
IsOfPruning (StateSyncEpochs info floor) = ⊥
IsOfPruning StateSyncMaterial = ⊥

-- a refusal of the player, or an error of a call of both devices
abbrev pub IsOfHandling : DealingHandleError → Type 0
IsOfHandling (Refused error) = Unit {0}
IsOfHandling (OfStore error) = IsOfDevices error

-- a refusal of the dealer that isn't want of memory, or an error of a call of the disk
abbrev pub IsOfAcking : AckHandleError → Type 0
IsOfAcking (AckRefused UnexpectedPlayer) = Unit {0}
IsOfAcking (AckRefused InvalidAck) = Unit {0}
IsOfAcking (AckRefused of_acks.NoMemory) = ⊥
IsOfAcking (AckOfStore error) = IsOfDevices error

abbrev pub IsStoredDealing : LocalCause → Type 0
IsStoredDealing (StoredDealing epoch dealer) = Unit {0}
IsStoredDealing (ShareRefused epoch) = ⊥
IsStoredDealing (OwnDealing epoch kept dealt) = ⊥
IsStoredDealing NoShare = ⊥
IsStoredDealing OutcomeOmitted = ⊥

abbrev pub IsShareRefused : LocalCause → Type 0
IsShareRefused (ShareRefused epoch) = Unit {0}
IsShareRefused (StoredDealing epoch dealer) = ⊥
IsShareRefused (OwnDealing epoch kept dealt) = ⊥
IsShareRefused NoShare = ⊥
IsShareRefused OutcomeOmitted = ⊥

-- the errors that setting a dealer up may give
abbrev pub IsOfDealing : StoreError → Type 0
IsOfDealing NoMemory = Unit {0}
IsOfDealing (LocalState cause) = IsShareRefused cause
IsOfDealing Disk = ⊥
IsOfDealing Secrets = ⊥
IsOfDealing Cut = ⊥
IsOfDealing (Corrupt name place) = ⊥
IsOfDealing (StateSyncEpochs info floor) = ⊥
IsOfDealing StateSyncMaterial = ⊥

-- the errors that setting a player up may give
abbrev pub IsOfPlaying : StoreError → Type 0
IsOfPlaying NoMemory = Unit {0}
IsOfPlaying (LocalState cause) = IsStoredDealing cause
IsOfPlaying Disk = ⊥
IsOfPlaying Secrets = ⊥
IsOfPlaying Cut = ⊥
IsOfPlaying (Corrupt name place) = ⊥
IsOfPlaying (StateSyncEpochs info floor) = ⊥
IsOfPlaying StateSyncMaterial = ⊥

-- the errors that taking up an entry may give
abbrev pub IsOfRestoring : StoreError → Type 0
IsOfRestoring Secrets = Unit {0}
IsOfRestoring NoMemory = Unit {0}
IsOfRestoring (Corrupt name place) = Unit {0}
IsOfRestoring Cut = ⊥
IsOfRestoring Disk = ⊥
IsOfRestoring (LocalState cause) = ⊥
IsOfRestoring (StateSyncEpochs info floor) = ⊥
IsOfRestoring StateSyncMaterial = ⊥

-- the errors that opening a store may give
abbrev pub IsOfOpening : StoreError → Type 0
IsOfOpening Disk = Unit {0}
IsOfOpening Secrets = Unit {0}
IsOfOpening Cut = Unit {0}
IsOfOpening NoMemory = Unit {0}
IsOfOpening (Corrupt name place) = Unit {0}
IsOfOpening (LocalState cause) = ⊥
IsOfOpening (StateSyncEpochs info floor) = ⊥
IsOfOpening StateSyncMaterial = ⊥

-- No call of a store meets a body that is too long.
abbrev pub store_error_of : JournalError → StoreError
store_error_of of_journal.Disk = Disk
store_error_of (of_journal.Corrupt name place) = Corrupt name place
store_error_of of_journal.TooLong = Corrupt Flat 0
store_error_of of_journal.Cut = Cut
store_error_of of_journal.NoMemory = NoMemory
