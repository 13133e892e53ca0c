-- Courses as the store's acts: one after another, with other names for their faults, and those that touch no device.
use Rattle.std.proofs.Common.{◌≡◌, inl, inr, List, Option, Some, None, refl, sym, ap, subst}
use Rattle.dkg_journal.specs.Burn.{Burn}
use Rattle.dkg_journal.specs.Names.{Files}
use Rattle.dkg_infos.specs.declared.entry.Entry.{Entry}
use Rattle.dkg_infos.specs.declared.fault.Fault.{Fault}
use Rattle.dkg_store.specs.Acts as acts_of
use Rattle.dkg_store.specs.Acts.{Acts, World, says, does, held_in, at, moment, Moment, Stands, MadeAt, Runs, Completes, Faults, Breaks, Cause, Ended, went, stopped, broken, IfWent}
use Rattle.dkg_store.specs.Calls.{by_error}
use Rattle.dkg_store.specs.Errors.{IsOfDevices}
use Rattle.dkg_secrets.specs.Secrets.{Secrets}
use Rattle.dkg_store.specs.declared.call.StoreError.{StoreError}
use Rattle.dkg_store.specs.declared.call.StoreError.TheVariants.{Disk, Secrets as SecretsFailed, Corrupt, LocalState, StateSyncEpochs, StateSyncMaterial, Cut, NoMemory}
use Rattle.dkg_store.proofs.Acts.{made_broken, made_stopped}
use Rattle.dkg_core.specs.Courses.{Course, Say, Do, CallOutside, Ask, Goes, Stops, bind, on_devices}
use Rattle.dkg_life.specs.declared.stop.Stop.{Stop}
use Rattle.dkg_life.specs.declared.stop.Stop.TheVariants as stop
use Rattle.dkg_life.specs.Ends.{fault_of_store, stop_of, cause_in, by_cause, by_stop}
use Rattle.dkg_life.specs.Made.{Speaks}

-- ONE AFTER ANOTHER

-- over the devices, a course and the next are the acts of both
pub on_bind : {Dir F S T : Type 0} (course : Course Dir F S) (next : S → Course Dir F T)
    → on_devices (bind course next) ≡ acts_of.bind (on_devices course) (λ s. on_devices (next s))
on_bind (Say line course) next = ap (acts_of.Say line) (on_bind course next)
on_bind (Do op course) next = ap (acts_of.Do op) (on_bind course next)
on_bind (CallOutside outer course) next = on_bind course next
on_bind (Ask f) next = λ i. acts_of.Ask (λ h. on_bind (f h) next i)
on_bind (Goes end) next = refl
on_bind (Stops fault) next = refl

-- OTHER NAMES

-- how acts ended, with the step's names
abbrev pub renamed : {S : Type 0} → Ended StoreError S → Ended Fault S
renamed (went end) = went end
renamed (stopped fault) = stopped (fault_of_store fault)
renamed (broken cause) = broken cause

-- an error of the store that comes from outside is the step's stop
pub renamed_error : {S : Type 0} (e : StoreError) → IsOfDevices e → renamed {S = S} (by_error e) ≡ by_stop (stop_of e)
renamed_error Disk is = refl
renamed_error SecretsFailed is = refl
renamed_error (Corrupt name place) is = absurd is
renamed_error (LocalState cause) is = absurd is
renamed_error (StateSyncEpochs info floor) is = absurd is
renamed_error StateSyncMaterial is = absurd is
renamed_error Cut is = refl
renamed_error NoMemory is = refl

module _ {S : Type 0} where
  completes_under : (acts : Acts StoreError S) (end : S) (w new : World) → Completes acts end w new → Completes (acts_of.under fault_of_store acts) end w new
  completes_under (acts_of.Say line acts) end w new a = completes_under acts end (says w line) new a
  completes_under (acts_of.Do op acts) end w new a = completes_under acts end (does w op) new a
  completes_under (acts_of.Ask f) end w new a = completes_under (f w.held) end w new a
  completes_under (acts_of.Goes its) end w new a = a
  completes_under (acts_of.Stops fault) end w new a = absurd a

  faults_under : (acts : Acts StoreError S) (fault : StoreError) (w new : World) → Faults acts fault w new → Faults (acts_of.under fault_of_store acts) (fault_of_store fault) w new
  faults_under (acts_of.Say line acts) fault w new a = faults_under acts fault (says w line) new a
  faults_under (acts_of.Do op acts) fault w new a = faults_under acts fault (does w op) new a
  faults_under (acts_of.Ask f) fault w new a = faults_under (f w.held) fault w new a
  faults_under (acts_of.Goes its) fault w new a = absurd a
  faults_under (acts_of.Stops its) fault w new a = (a.0, ap fault_of_store a.1)

  breaks_under : (cause : Cause) (acts : Acts StoreError S) (w new : World) → Breaks cause acts w new → Breaks cause (acts_of.under fault_of_store acts) w new
  breaks_under cause (acts_of.Say line acts) w new (inl none) = inl none
  breaks_under cause (acts_of.Say line acts) w new (inr more) = inr (breaks_under cause acts (says w line) new more)
  breaks_under cause (acts_of.Do op acts) w new (inl tears) = inl tears
  breaks_under cause (acts_of.Do op acts) w new (inr more) = inr (breaks_under cause acts (does w op) new more)
  breaks_under cause (acts_of.Ask f) w new a = breaks_under cause (f w.held) w new a
  breaks_under cause (acts_of.Goes its) w new a = a
  breaks_under cause (acts_of.Stops its) w new a = a

  runs_under : (acts : Acts StoreError S) (how : Ended StoreError S) (w new : World) → Runs acts how w new → Runs (acts_of.under fault_of_store acts) (renamed how) w new
  runs_under acts (went end) w new a = completes_under acts end w new a
  runs_under acts (stopped fault) w new a = faults_under acts fault w new a
  runs_under acts (broken cause) w new a = breaks_under cause acts w new a

  -- A store's call, with the step's names.
  pub made_under : {acts : Acts StoreError S} (how : Ended StoreError S) {files files_now : Files} {image now : Files → Type 0} {old new : Moment}
      → MadeAt acts how files image files_now now old new → MadeAt (acts_of.under fault_of_store acts) (renamed how) files image files_now now old new
  made_under {acts = acts} how {files} {files_now} {image} {now} {old} {new} first = record {
    made = λ stands c here. runs_under acts how (at old files) (at new c) (first.made stands c here);
    stands = again how first.stands;
  }
    where
      again : (how : Ended StoreError S) → IfWent how (Stands files image → Stands files_now now) → IfWent (renamed how) (Stands files image → Stands files_now now)
      again (went end) a = a
      again (stopped fault) a = tt
      again (broken cause) a = tt

-- A CALL THAT ENDS BY A STOP ends all that stands behind it, by the same.

module _ {S T : Type 0} {acts : Acts Fault S} (next : S → Acts Fault T) {files files_now : Files} {image now : Files → Type 0} {old new : Moment} where
  ends_by : (cause : Option Cause) (its : Fault) → MadeAt acts (by_cause cause its) files image files_now now old new
      → MadeAt (acts_of.bind acts next) (by_cause cause its) files image files_now now old new
  ends_by (Some cause) its made = made_broken next made
  ends_by None its made = made_stopped next made

  pub ends_early : (its : Stop) → MadeAt acts (by_stop its) files image files_now now old new → MadeAt (acts_of.bind acts next) (by_stop its) files image files_now now old new
  ends_early (stop.Fault its) made = ends_by (cause_in its) its made
  ends_early stop.Cut made = made_broken next made
  ends_early stop.Failed made = made_broken next made

-- NO DEVICE TOUCHED: what runs over anything that is held runs over these devices

module _ {Dir S : Type 0} (course : Course Dir Fault S) where
  pub speaks_made : (how : Ended Fault S) (files : Files) (image : Files → Type 0) {out now : List Entry} {s : Secrets} {f : Burn} → Speaks course how out now
      → MadeAt (on_devices course) how files image files image (moment out s f) (moment now s f)
  speaks_made how files image {out} {now} {s} {f} speaks = record {
    made = λ stands c here. subst (λ (x : Files). Runs (on_devices course) how (at (moment out s f) files) (at (moment now s f) x)) (sym (stands.lands.only c here)) (speaks (held_in files s) f);
    stands = stood how;
  }
    where
      stood : (how : Ended Fault S) → IfWent how (Stands files image → Stands files image)
      stood (went end) = λ stands. stands
      stood (stopped fault) = tt
      stood (broken cause) = tt

-- A store's call that failed is the step's stop.
pub made_error : {S : Type 0} {acts : Acts StoreError S} (e : StoreError) → IsOfDevices e → {files files_now : Files} {image now : Files → Type 0} {old new : Moment}
    → MadeAt acts (by_error e) files image files_now now old new → MadeAt (acts_of.under fault_of_store acts) (by_stop (stop_of e)) files image files_now now old new
made_error {S = S} {acts = acts} e kind {files} {files_now} {image} {now} {old} {new} made =
    subst (λ (how : Ended Fault S). MadeAt (acts_of.under fault_of_store acts) how files image files_now now old new) (renamed_error e kind) (made_under (by_error e) made)
