-- The calls of a put and of an append, as acts.
use Rattle.std.proofs.Common.{◌≡◌, ℕ, List, Result, Err, refl, sym, ◌∙◌, ap, subst}
use Rattle.dkg_journal.specs.Burn.{Burn}
use Rattle.dkg_journal.specs.Errors.{IsOfDevice}
use Rattle.dkg_journal.specs.Fuse.{spent_once}
use Rattle.dkg_journal.specs.Names.{Files}
use Rattle.dkg_journal.specs.Operations as of_disk
use Rattle.dkg_journal.specs.Records.{SectionEntry}
use Rattle.dkg_journal.specs.declared.call.JournalError.{JournalError}
use Rattle.dkg_journal.specs.declared.call.JournalError.TheVariants as of_journal
use Rattle.dkg_infos.specs.declared.entry.Entry.{Entry}
use Rattle.dkg_journal.specs.Operations.{Appends}
use Rattle.dkg_secrets.specs.Secrets.{Secrets, Tries, after}
use Rattle.dkg_store.specs.Acts.{Acts, bind, Cause, EndsBy, Ended, broken, went, Stands, Moment, moment, MadeAt}
use Rattle.dkg_store.specs.Calls.{appended, put_and_appended, ended_as, by_error, cause_of}
use Rattle.dkg_store.specs.Errors.{IsOfDevices, IsOfSecrets, store_error_of}
use Rattle.dkg_store.specs.declared.call.StoreError.{StoreError}
use Rattle.dkg_store.specs.declared.call.StoreError.TheVariants.{Disk, Secrets as OfSecrets, Corrupt, LocalState, StateSyncEpochs, StateSyncMaterial, Cut, NoMemory}
use Rattle.dkg_secrets.specs.declared.secrets.SecretOp.{SecretOp}
use Rattle.dkg_store.proofs.Acts.{made_broken, made_next}
use Rattle.dkg_store.proofs.Making.{disk_done, disk_torn, secret_done, secret_torn}

-- WHICH ERRORS BREAK ACTS OFF

pub of_secrets_too : (e : StoreError) → IsOfSecrets e → IsOfDevices e
of_secrets_too OfSecrets is = tt
of_secrets_too Cut is = tt
of_secrets_too NoMemory is = tt
of_secrets_too Disk is = absurd is
of_secrets_too (Corrupt name place) is = absurd is
of_secrets_too (LocalState cause) is = absurd is
of_secrets_too (StateSyncEpochs info floor) is = absurd is
of_secrets_too StateSyncMaterial is = absurd is

pub of_journal_too : (e : JournalError) → IsOfDevice e → IsOfDevices (store_error_of e)
of_journal_too of_journal.Disk is = tt
of_journal_too of_journal.Cut is = tt
of_journal_too of_journal.NoMemory is = tt
of_journal_too (of_journal.Corrupt name place) is = absurd is
of_journal_too of_journal.TooLong is = absurd is

pub breaks_off : {S : Type 0} (e : StoreError) → IsOfDevices e → by_error {S = S} e ≡ broken (cause_of e)
breaks_off Disk is = refl
breaks_off OfSecrets is = refl
breaks_off Cut is = refl
breaks_off NoMemory is = refl
breaks_off (Corrupt name place) is = absurd is
breaks_off (LocalState cause) is = absurd is
breaks_off (StateSyncEpochs info floor) is = absurd is
breaks_off StateSyncMaterial is = absurd is

pub ended_broken : {T S : Type 0} (view : T → S) (r : Result T StoreError) (e : StoreError) → r ≡ Err e → IsOfDevices e → ended_as view r ≡ broken (cause_of e)
ended_broken view r e is of_devices = ap (ended_as view) is ∙ breaks_off e of_devices

-- ACTS THAT WERE BROKEN OFF, with others behind them

pub first_broken : {F S T : Type 0} {acts : Acts F S} (next : S → Acts F T) {how : Ended F T} {cause : Cause} {files files_now : Files} {image now : Files → Type 0} {old new : Moment} → how ≡ broken cause
    → MadeAt acts (broken cause) files image files_now now old new → MadeAt (bind acts next) how files image files_now now old new
first_broken {F} {S} {T} {acts} next {files = files} {files_now = files_now} {image = image} {now = now} {old = old} {new = new} is made =
    subst (λ (x : Ended F T). MadeAt (bind acts next) x files image files_now now old new) (sym is) (made_broken next made)

pub then_broken : {S T : Type 0} {acts : Acts StoreError S} (next : S → Acts StoreError T) (e : StoreError) → IsOfDevices e → {how : Ended StoreError T} {files files_now : Files} {image now : Files → Type 0} {old new : Moment} → how ≡ broken (cause_of e)
    → MadeAt acts (by_error e) files image files_now now old new → MadeAt (bind acts next) how files image files_now now old new
then_broken {S} {T} {acts} next e is {files = files} {files_now = files_now} {image = image} {now = now} {old = old} {new = new} is_broken made =
    first_broken next is_broken (subst (λ (x : Ended StoreError S). MadeAt acts x files image files_now now old new) (breaks_off e is) made)

-- A PUT, AND AN APPEND BEHIND IT

abbrev appends : {S : Type 0} → SectionEntry → S → Unit {0} → Acts StoreError S
appends e end u = appended e end

module _ {S : Type 0} (op : SecretOp) (e : SectionEntry) (end : S) {files : Files} {image : Files → Type 0} {out : List Entry} {s now : Secrets} {f g : Burn} where
  -- the put was ended within
  pub put_torn : {how : Ended StoreError S} (cause : Cause) → how ≡ broken cause → Tries op s now → g ≡ spent_once f → EndsBy cause f g
      → MadeAt (put_and_appended op e end) how files image files image (moment out s f) (moment out now g)
  put_torn cause is tries once ends = first_broken (appends e end) is (secret_torn op tt cause refl tries once ends)

  -- the put is done, and the append was ended within
  pub append_torn : {files_now : Files} {next : Files → Type 0} {h : Burn} {how : Ended StoreError S} (cause : Cause) → how ≡ broken cause → now ≡ after op s → g ≡ spent_once f → (Stands files image → of_disk.Tried (of_disk.Appends e) files next g h) → EndsBy cause g h
      → MadeAt (put_and_appended op e end) how files image files_now next (moment out s f) (moment out now h)
  append_torn cause is done once tried ends = made_next (appends e end) (secret_done op tt refl done once) (disk_torn (Appends e) end cause is tried ends)

  -- both are done
  pub both_done : {files_now : Files} {next : Files → Type 0} {h : Burn} {how : Ended StoreError S} → how ≡ went end → now ≡ after op s → g ≡ spent_once f → (Stands files image → of_disk.FinishedOperation (of_disk.Appends e) files files_now next g h) → next files_now
      → MadeAt (put_and_appended op e end) how files image files_now next (moment out s f) (moment out now h)
  both_done is done once finished itself = made_next (appends e end) (secret_done op tt refl done once) (disk_done (Appends e) end is finished itself)

-- AN APPEND ALONE

module _ {S : Type 0} (e : SectionEntry) (end : S) {files files_now : Files} {image next : Files → Type 0} {out : List Entry} {s : Secrets} {f g : Burn} where
  pub alone_torn : {how : Ended StoreError S} (cause : Cause) → how ≡ broken cause → (Stands files image → of_disk.Tried (of_disk.Appends e) files next f g) → EndsBy cause f g
      → MadeAt (appended e end) how files image files_now next (moment out s f) (moment out s g)
  alone_torn cause is tried ends = disk_torn (Appends e) end cause is tried ends

  pub alone_done : {how : Ended StoreError S} → how ≡ went end → (Stands files image → of_disk.FinishedOperation (of_disk.Appends e) files files_now next f g) → next files_now
      → MadeAt (appended e end) how files image files_now next (moment out s f) (moment out s g)
  alone_done is finished itself = disk_done (Appends e) end is finished itself

-- the same entry
pub alone_alike : {S : Type 0} {section section_too : ℕ} {body body_too : List ℕ} {end : S} {how : Ended StoreError S} {files files_now : Files} {image next : Files → Type 0} {old new : Moment} → section ≡ section_too → body ≡ body_too
    → MadeAt (appended (section, body) end) how files image files_now next old new → MadeAt (appended (section_too, body_too) end) how files image files_now next old new
alone_alike {S = S} {end = end} {how = how} {files = files} {files_now = files_now} {image = image} {next = next} {old = old} {new = new} a b made =
    subst (λ (acts : Acts StoreError S). MadeAt acts how files image files_now next old new) (λ i. appended (a i, b i) end) made

-- the same put and the same entry
pub made_alike : {S : Type 0} {op op_too : SecretOp} {section section_too : ℕ} {body body_too : List ℕ} {end : S} {how : Ended StoreError S} {files files_now : Files} {image next : Files → Type 0} {old new : Moment} → op ≡ op_too → section ≡ section_too → body ≡ body_too
    → MadeAt (put_and_appended op (section, body) end) how files image files_now next old new → MadeAt (put_and_appended op_too (section_too, body_too) end) how files image files_now next old new
made_alike {S = S} {end = end} {how = how} {files = files} {files_now = files_now} {image = image} {next = next} {old = old} {new = new} a b d made =
    subst (λ (acts : Acts StoreError S). MadeAt acts how files image files_now next old new) (λ i. put_and_appended (a i) (b i, d i) end) made
