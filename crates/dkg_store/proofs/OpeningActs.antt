-- Opening a store, as acts.
use Rattle.std.proofs.Common.{◌≡◌, ℕ, List, [], ◌∷◌, length, Option, Some, None, cond, refl, sym, ◌∙◌, ap, subst}
use Rattle.dkg_journal.specs.Burn.{Burn}
use Rattle.dkg_journal.specs.Fuse.{spent_once}
use Rattle.dkg_journal.specs.Names.{Files}
use Rattle.dkg_journal.specs.Disk.{Did, ImagesFollow, Inside}
use Rattle.dkg_journal.specs.Views.{views}
use Rattle.dkg_journal.specs.Opening.{open_calls}
use Rattle.dkg_journal.specs.Operations as of_disk
use Rattle.dkg_journal.specs.declared.disk.Op.TheVariants.{Barrier}
use Rattle.dkg_journal.specs.declared.opening.JournalEntry.{JournalEntry}
use Rattle.dkg_infos.specs.declared.entry.Entry.{Entry}
use Rattle.dkg_values.specs.declared.name.Name.TheVariants.{Segment}
use Rattle.dkg_values.specs.declared.name.Name.{Name}
use Rattle.dkg_journal.specs.Operations.{Bars, Opens}
use Rattle.dkg_store.specs.Acts.{Acts, Stops, Cause, EndsBy, Ended, broken, went, stopped, moment, at, MadeAt}
use Rattle.dkg_store.specs.Calls.{opens, opens_then, store_reading}
use Rattle.dkg_store.specs.Noted.{Notes}
use Rattle.dkg_store.specs.Pairs.{Pairs}
use Rattle.dkg_store.specs.declared.recorded_log.RecordedLog.{RecordedLog}
use Rattle.dkg_secrets.specs.Secrets.{Secrets}
use Rattle.dkg_store.specs.Corrupt.{AreEvents}
use Rattle.dkg_journal.specs.declared.call.JournalError.{JournalError}
use Rattle.dkg_journal.specs.declared.call.JournalError.TheVariants as of_journal
use Rattle.dkg_store.specs.Errors.{IsOfDevices, IsOfOpening, IsOfRestoring, store_error_of}
use Rattle.dkg_store.specs.Events.{no_event_at}
use Rattle.dkg_store.specs.declared.call.StoreError.{StoreError}
use Rattle.dkg_store.specs.declared.call.StoreError.TheVariants.{Disk, Secrets as OfSecrets, Corrupt, LocalState, StateSyncEpochs, StateSyncMaterial, Cut, NoMemory}
use Rattle.dkg_store.proofs.Acts.{made_next}
use Rattle.dkg_store.proofs.Acting.{first_broken}
use Rattle.dkg_store.proofs.Making.{disk_done, disk_torn, bar_tried, bar_finished}

-- WHICH ERRORS BREAK AN OPENING OFF

pub not_corrupt : (e : StoreError) → IsOfOpening e → ((name : Name) (place : ℕ) → e ≡ Corrupt name place → ⊥) → IsOfDevices e
not_corrupt Disk is never = tt
not_corrupt OfSecrets is never = tt
not_corrupt Cut is never = tt
not_corrupt NoMemory is never = tt
not_corrupt (Corrupt name place) is never = never name place refl
not_corrupt (LocalState cause) is never = is
not_corrupt (StateSyncEpochs info floor) is never = is
not_corrupt StateSyncMaterial is never = is

pub of_restoring_too : (e : StoreError) → IsOfRestoring e → IsOfOpening e
of_restoring_too OfSecrets is = tt
of_restoring_too NoMemory is = tt
of_restoring_too (Corrupt name place) is = tt
of_restoring_too Disk is = absurd is
of_restoring_too Cut is = absurd is
of_restoring_too (LocalState cause) is = is
of_restoring_too (StateSyncEpochs info floor) is = is
of_restoring_too StateSyncMaterial is = is

pub no_place : {A : Type 0} (o : Option A) (place : A) → o ≡ Some place → o ≡ None → ⊥
no_place {A} o place some none = let h : ◌≡◌ {A = Option A} (Some place) None = sym some ∙ none in cc

pub journal_devices : (e : JournalError) → ((name : Name) (place : ℕ) → e ≡ of_journal.Corrupt name place → ⊥) → (e ≡ of_journal.TooLong → ⊥) → IsOfDevices (store_error_of e)
journal_devices of_journal.Disk never short = tt
journal_devices of_journal.Cut never short = tt
journal_devices of_journal.NoMemory never short = tt
journal_devices (of_journal.Corrupt name place) never short = never name place refl
journal_devices of_journal.TooLong never short = short refl

-- where all bodies are events, none fails to be
pub no_other : (limit : ℕ) (es : List JournalEntry) → AreEvents limit (views es) → no_event_at limit es ≡ None
no_other limit [] all = refl
no_other limit (e ∷ es) all = ap (λ b. cond b (no_event_at limit es) (Some (Segment e.section, e.place))) all.0 ∙ no_other limit es all.1

-- WHAT IS LEFT

abbrev openings : Option (Name × ℕ) → ℕ → Unit {0} → Acts StoreError (Unit {0})
openings torn calls u = opens_then torn calls

module _ (torn : Option (Name × ℕ)) (calls : ℕ) {files files_now : Files} {image next : Files → Type 0} {out : List Entry} {s : Secrets} {f g : Burn} where
  -- the barrier was ended within
  pub bar_torn : {how : Ended StoreError (Unit {0})} (cause : Cause) → how ≡ broken cause → ImagesFollow (Inside Barrier) image next → g ≡ spent_once f → EndsBy cause f g
      → MadeAt (opens torn calls) how files image files_now next (moment out s f) (moment out s g)
  bar_torn cause is follows once ends = first_broken (openings torn calls) is (disk_torn Bars tt cause refl (bar_tried once follows) ends)

  -- it is done, and what follows was made
  pub bar_done : {mid : Files} {between : Files → Type 0} {h : Burn} {how : Ended StoreError (Unit {0})} → Did Barrier files mid between → g ≡ spent_once f → between mid → MadeAt (opens_then torn calls) how mid between files_now next (moment out s g) (moment out s h)
      → MadeAt (opens torn calls) how files image files_now next (moment out s f) (moment out s h)
  bar_done did once itself then = made_next (openings torn calls) (disk_done Bars tt refl (λ stands. bar_finished once did) itself) then

-- the journal's opening was ended within, or is done
module _ {files mid files_now : Files} {between next : Files → Type 0} {out : List Entry} {s : Secrets} {g h : Burn} (same : mid ≡ files) where
  pub open_torn : {how : Ended StoreError (Unit {0})} (cause : Cause) → how ≡ broken cause → of_disk.Tried (Opens (length (open_calls mid))) mid next g h → EndsBy cause g h
      → MadeAt (opens_then None (length (open_calls files))) how mid between files_now next (moment out s g) (moment out s h)
  open_torn {how} cause is tried ends =
      subst (λ (x : Files). MadeAt (opens_then None (length (open_calls x))) how mid between files_now next (moment out s g) (moment out s h)) same
      (disk_torn (Opens (length (open_calls mid))) tt cause is (λ stands. tried) ends)

  pub open_done : {how : Ended StoreError (Unit {0})} → how ≡ went tt → of_disk.FinishedOperation (Opens (length (open_calls mid))) mid files_now next g h → next files_now
      → MadeAt (opens_then None (length (open_calls files))) how mid between files_now next (moment out s g) (moment out s h)
  open_done {how} is finished itself =
      subst (λ (x : Files). MadeAt (opens_then None (length (open_calls x))) how mid between files_now next (moment out s g) (moment out s h)) same
      (disk_done (Opens (length (open_calls mid))) tt is (λ stands. finished) itself)

-- a body that is no event, of an open journal
pub alien_stops : (alien : Option (Name × ℕ)) (name : Name) (place : ℕ) (files : Files) (image : Files → Type 0) {how : Ended StoreError (Pairs × Notes (List ℕ) × Notes RecordedLog)} {out : List Entry} {s now : Secrets} {f : Burn}
    → alien ≡ Some (name, place) → how ≡ stopped (Corrupt name place) → now ≡ s → MadeAt (store_reading alien) how files image files image (moment out s f) (moment out now f)
alien_stops alien name place files image {how} {out} {s} {now} {f} is ends same =
    subst (λ (a : Option (Name × ℕ)). MadeAt (store_reading a) how files image files image (moment out s f) (moment out now f)) (sym is)
    (subst (λ (x : Ended StoreError (Pairs × Notes (List ℕ) × Notes RecordedLog)). MadeAt (Stops (Corrupt name place)) x files image files image (moment out s f) (moment out now f)) (sym ends)
    (subst (λ (t : Secrets). MadeAt {S = Pairs × Notes (List ℕ) × Notes RecordedLog} (Stops (Corrupt name place)) (stopped (Corrupt name place)) files image files image (moment out s f) (moment out t f)) (sym same) (record {
      made = λ stands c here. (ap (λ (x : Files). at (moment out s f) x) (stands.lands.only c here), refl);
      stands = tt;
    })))
