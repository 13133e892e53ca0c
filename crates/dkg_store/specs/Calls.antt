-- What the calls of a store and of a player mean, as acts.
use Rattle.std.specs.Prelude.{◌||◌, ℕ, List, Bool, true, false, Option, Some, None, Result, Ok, Err, if◌then◌else◌}
use Rattle.std.specs.FinMap.{entries, get}
use Rattle.dkg_ceremony.specs.declared.ceremony.AckError.{AckError}
use Rattle.dkg_ceremony.specs.declared.ceremony.DealingError.{DealingError}
use Rattle.dkg_journal.specs.Records.{SectionEntry}
use Rattle.dkg_infos.specs.declared.entry.Entry.TheVariants.{Recorded}
use Rattle.dkg_journal.specs.Operations.{Bars, Opens, Appends, Prunes}
use Rattle.dkg_secrets.specs.Secrets.{newest_below}
use Rattle.dkg_values.specs.declared.name.Name.{Name}
use Rattle.dkg_store.specs.Acts.{Held, notes, Acts, Say, Do, Ask, Goes, Stops, bind, OnDisk, Changes, Cause, by_cut, by_disk, by_secrets, by_want, Ended, went, stopped, broken}
use Rattle.dkg_store.specs.Events.{event_spelling}
use Rattle.dkg_store.specs.declared.event.Event.TheVariants as events
use Rattle.dkg_store.specs.Noted.{Notes, acks_in, logs_in}
use Rattle.dkg_store.specs.Pairs.{Pairs, recovered}
use Rattle.dkg_store.specs.declared.call.StoreError.{StoreError}
use Rattle.dkg_store.specs.declared.call.StoreError.TheVariants.{Disk, Secrets, Corrupt, LocalState, StateSyncEpochs, StateSyncMaterial, Cut, NoMemory}
use Rattle.dkg_store.specs.declared.dealer.AckHandleError.{AckHandleError}
use Rattle.dkg_store.specs.declared.dealer.AckHandleError.TheVariants.{Refused as AckRefused, Store as AckOfStore}
use Rattle.dkg_store.specs.declared.dealer.AckOutcome.{AckOutcome}
use Rattle.dkg_store.specs.declared.dealer.AckOutcome.TheVariants.{Recorded as NewlyRecorded, Duplicate}
use Rattle.dkg_store.specs.declared.player.DealingHandleError.{DealingHandleError}
use Rattle.dkg_store.specs.declared.player.DealingHandleError.TheVariants.{Refused, Store as OfStore}
use Rattle.dkg_store.specs.declared.recorded_log.RecordedLog.{RecordedLog}
use Rattle.dkg_secrets.specs.declared.secrets.SecretOp.{SecretOp}
use Rattle.dkg_secrets.specs.declared.secrets.SecretOp.TheVariants.{PutShare, PutSeed, PutDealing, Prune}

-- what ends acts by an error that is none of their own
abbrev pub cause_of : StoreError → Cause
cause_of Disk = by_disk
cause_of Secrets = by_secrets
cause_of Cut = by_cut
cause_of _ = by_want

-- A device, a cut and want of memory end acts anywhere. Any other error is one that acts stop by.
abbrev pub by_error : {S : Type 0} → StoreError → Ended StoreError S
by_error Disk = broken by_disk
by_error Secrets = broken by_secrets
by_error Cut = broken by_cut
by_error NoMemory = broken by_want
by_error (Corrupt name place) = stopped (Corrupt name place)
by_error (LocalState cause) = stopped (LocalState cause)
by_error (StateSyncEpochs info floor) = stopped (StateSyncEpochs info floor)
by_error StateSyncMaterial = stopped StateSyncMaterial

abbrev pub ended_as : {T S : Type 0} → (T → S) → Result T StoreError → Ended StoreError S
ended_as view (Ok end) = went (view end)
ended_as view (Err error) = by_error error

abbrev pub ended : {S : Type 0} → Result S StoreError → Ended StoreError S
ended result = ended_as (λ end. end) result

-- a player's refusal is an answer
abbrev pub answered : {A : Type 0} → Result A DealingHandleError → Ended StoreError (Result A DealingError)
answered (Ok ack) = went (Ok ack)
answered (Err (Refused error)) = went (Err error)
answered (Err (OfStore error)) = by_error error

-- a put, and then an append
abbrev pub put_and_appended : {S : Type 0} → SecretOp → SectionEntry → S → Acts StoreError S
put_and_appended op e end = Do (Changes op) (Do (OnDisk (Appends e)) (Goes end))

-- an append alone
abbrev pub appended : {S : Type 0} → SectionEntry → S → Acts StoreError S
appended e end = Do (OnDisk (Appends e)) (Goes end)

-- The record of an acknowledgement or a log: nothing where one of its key is recorded already.
abbrev pub noting : (known : Bool) → SectionEntry → Acts StoreError Bool
noting known e = if known then Goes false else appended e true

-- The record of a dealing: nothing where it is recorded already.
abbrev pub recording : (known : Bool) → (epoch dealer : ℕ) → List ℕ → ℕ → Acts StoreError Bool
recording known epoch dealer public private = if known then Goes false else put_and_appended (PutDealing epoch dealer private) (epoch, event_spelling (events.Dealing dealer public)) true

-- a new dealing is recorded, told, and acknowledged
abbrev pub keeping : {S : Type 0} → (epoch dealer : ℕ) → (public told : List ℕ) → ℕ → S → Acts StoreError S
keeping epoch dealer public told private end =
    Do (Changes (PutDealing epoch dealer private)) (Do (OnDisk (Appends (epoch, event_spelling (events.Dealing dealer public)))) (Say (Recorded epoch dealer told private) (Goes end)))

-- A new dealing is checked first.
abbrev pub accepting : (check : Result (Unit {0}) DealingError) → (epoch dealer : ℕ) → List ℕ → ℕ → (ack : List ℕ) → Acts StoreError (Result (List ℕ) DealingError)
accepting (Err error) epoch dealer public private ack = Goes (Err error)
accepting (Ok done) epoch dealer public private ack = keeping epoch dealer public public private (Ok ack)

-- To a dealer whose dealing is recorded the answer is the acknowledgement of that.
abbrev pub answering : (ack_of : List ℕ → List ℕ) → Option (List ℕ × ℕ) → (check : Result (Unit {0}) DealingError) → (epoch dealer : ℕ) → List ℕ → ℕ → Acts StoreError (Result (List ℕ) DealingError)
answering ack_of (Some pair) check epoch dealer public private = Goes (Ok (ack_of pair.0))
answering ack_of None check epoch dealer public private = accepting check epoch dealer public private (ack_of public)

-- An acknowledgement is checked first, and recorded where that player's neither came in nor was recorded before.
abbrev pub acking : (check : Result (Unit {0}) AckError) → (counted recorded : Bool) → SectionEntry → Acts StoreError (Result AckOutcome AckError)
acking (Err error) counted recorded e = Goes (Err error)
acking (Ok passed) counted recorded e = if (counted || recorded) then Goes (Ok Duplicate) else appended e (Ok NewlyRecorded)

-- a dealer's refusal is an answer
abbrev pub acked : {A : Type 0} → Result A AckHandleError → Ended StoreError (Result A AckError)
acked (Ok outcome) = went (Ok outcome)
acked (Err (AckRefused error)) = went (Err error)
acked (Err (AckOfStore error)) = by_error error

-- a journal's opening; a record that is not whole is found before anything of the journal is changed
abbrev pub opens_then : (torn : Option (Name × ℕ)) → (calls : ℕ) → Acts StoreError (Unit {0})
opens_then (Some place) calls = Stops (Corrupt place.0 place.1)
opens_then None calls = Do (OnDisk (Opens calls)) (Goes tt)

-- the barrier, and the journal's opening
abbrev pub opens : (torn : Option (Name × ℕ)) → (calls : ℕ) → Acts StoreError (Unit {0})
opens torn calls = Do (OnDisk Bars) (opens_then torn calls)

abbrev pub opened : {T : Type 0} → Result T StoreError → Ended StoreError (Unit {0})
opened result = ended_as (λ journal. tt) result

-- what both devices give back: dealings, acknowledgements and logs
abbrev pub given_back : Held → Pairs × Notes (List ℕ) × Notes RecordedLog
given_back h = (recovered (notes h) h.secrets, acks_in (notes h), logs_in (notes h))

-- what is read of an open journal, but where a body is no event
abbrev pub store_reading : (alien : Option (Name × ℕ)) → Acts StoreError (Pairs × Notes (List ℕ) × Notes RecordedLog)
store_reading (Some place) = Stops (Corrupt place.0 place.1)
store_reading None = Ask (λ h. Goes (given_back h))

-- An opening: what is restored, or the record for which it is not opened.
abbrev pub store_opening : (torn : Option (Name × ℕ)) → (calls : ℕ) → (alien : Option (Name × ℕ)) → Acts StoreError (Pairs × Notes (List ℕ) × Notes RecordedLog)
store_opening torn calls alien = bind (opens torn calls) (λ opened. store_reading alien)

abbrev pub sharing : ℕ → Acts StoreError (Option ℕ)
sharing epoch = Ask (λ h. Goes (get h.secrets.shares epoch))

abbrev pub sharing_below : ℕ → Acts StoreError (Option ℕ)
sharing_below epoch = Ask (λ h. Goes (newest_below (entries h.secrets.shares) epoch))

abbrev pub seeding : ℕ → Acts StoreError (Option (List ℕ))
seeding epoch = Ask (λ h. Goes (get h.secrets.seeds epoch))

-- the share, if there is one, and then the seed
abbrev pub committing : ℕ → List ℕ → Option ℕ → Acts StoreError (Unit {0})
committing epoch seed None = Do (Changes (PutSeed epoch seed)) (Goes tt)
committing epoch seed (Some share) = Do (Changes (PutShare epoch share)) (Do (Changes (PutSeed epoch seed)) (Goes tt))

-- the journal, and then the secrets
abbrev pub pruning : (min : ℕ) → Acts StoreError (Unit {0})
pruning min = Do (OnDisk (Prunes min)) (Do (Changes (Prune min)) (Goes tt))
