-- The acknowledgements and the logs that the entries of a journal stand for.
use Rattle.std.specs.Prelude.{◌≡◌, ◌⊎◌, ◌≤◌, ℕ, nat_le, List, fold, Option, Some, None, Result, Ok, Err}
use Rattle.std.specs.FinMap.{FinMap, insert, empty, retain_keys}
use Rattle.dkg_values.specs.Codec.{whole}
use Rattle.dkg_values.specs.declared.codec.CodecError.{CodecError}
use Rattle.dkg_journal.specs.Names.{Files}
use Rattle.dkg_journal.specs.Records.{SectionEntry, entries}
use Rattle.dkg_secrets.specs.Keys.{key_cmp}
use Rattle.dkg_store.specs.Events.{event_at, no_limit}
use Rattle.dkg_store.specs.declared.event.Event.{Event}
use Rattle.dkg_store.specs.declared.event.Event.TheVariants.{Dealing, Ack, Log, LogAt}
use Rattle.dkg_store.specs.declared.recorded_log.RecordedLog.{RecordedLog}

-- what one record says, under its epoch and a key
abbrev pub Note : Type 0 → Type 0
Note V = (ℕ × ℕ) × V

-- .. what all of them say
abbrev pub Notes : Type 0 → Type 0
Notes V = FinMap key_cmp V

abbrev pub with_note : {V : Type 0} → Notes V → Option (Note V) → Notes V
with_note m None = m
with_note m (Some note) = insert m note.0 note.1

-- A later record of a key replaces an earlier one.
abbrev pub noted : {V : Type 0} → (SectionEntry → Option (Note V)) → List SectionEntry → Notes V
noted note_of es = fold (λ m e. with_note m (note_of e)) empty es

abbrev pub ack_in_event : ℕ → Result Event CodecError → Option (Note (List ℕ))
ack_in_event epoch (Ok (Dealing dealer public)) = None
ack_in_event epoch (Ok (Ack player ack)) = Some ((epoch, player), ack)
ack_in_event epoch (Ok (Log dealer log)) = None
ack_in_event epoch (Ok (LogAt dealer height log)) = None
ack_in_event epoch (Err e) = None

-- a log is noted with the height of its block, where it was recorded with one
abbrev pub log_in_event : ℕ → Result Event CodecError → Option (Note RecordedLog)
log_in_event epoch (Ok (Dealing dealer public)) = None
log_in_event epoch (Ok (Ack player ack)) = None
log_in_event epoch (Ok (Log dealer log)) = Some ((epoch, dealer), record { height = None; log = log })
log_in_event epoch (Ok (LogAt dealer height log)) = Some ((epoch, dealer), record { height = Some height; log = log })
log_in_event epoch (Err e) = None

-- the acknowledgement, or the log, of which an entry is the record
abbrev pub noted_ack : SectionEntry → Option (Note (List ℕ))
noted_ack e = ack_in_event e.0 (whole (event_at no_limit e.1))

abbrev pub noted_log : SectionEntry → Option (Note RecordedLog)
noted_log e = log_in_event e.0 (whole (event_at no_limit e.1))

-- acknowledgements by epoch and player
abbrev pub acks_in : List SectionEntry → Notes (List ℕ)
acks_in es = noted noted_ack es

-- logs by epoch and dealer
abbrev pub logs_in : List SectionEntry → Notes RecordedLog
logs_in es = noted noted_log es

-- whatever a crash now leaves gives this back
pub record ImagesGive {M : Type 0} (given : List SectionEntry → M) (is : M) (image : Files → Type 0) : Type 0 where
  pub each : (c : Files) → image c → given (entries c) ≡ is

-- .. this, or that
pub record ImagesGiveEither {M : Type 0} (given : List SectionEntry → M) (one other : M) (image : Files → Type 0) : Type 0 where
  pub each : (c : Files) → image c → (given (entries c) ≡ one) ⊎ (given (entries c) ≡ other)

-- the acknowledgements and the logs are the same
pub record SameNotes (old new : Files) : Type 0 where
  pub acks : acks_in (entries new) ≡ acks_in (entries old)
  pub logs : logs_in (entries new) ≡ logs_in (entries old)

-- In each image the notes are those at or above a minimum, at or below this one.
pub record GivesPruned {V : Type 0} (given : List SectionEntry → Notes V) (min : ℕ) (m : Notes V) (image : Files → Type 0) : Type 0 where
  pub each : (c : Files) → image c → (least : ℕ) × (least ≤ min) × (given (entries c) ≡ retain_keys m (λ k. nat_le least k.0))
