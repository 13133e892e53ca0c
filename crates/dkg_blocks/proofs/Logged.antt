-- A log that is recorded: its act is the relation's, and what a life has in memory behind it.
use Rattle.std.proofs.Common.{◌≡◌, ◌<◌, ◌+◌, ◌^◌, ◌++◌, ℕ, Bool, true, false, not, List, [], Option, Some, is_some, refl, sym, ◌∙◌, ap, subst, append-nil, arith, length, length-append}
use Rattle.std.specs.Prelude.{if◌then◌else◌}
use Rattle.std.specs.FinMap as maps
use Rattle.std.specs.FinMap.{contains_key, get-entries, insert, put}
use Rattle.std.specs.Int.{w32, to_be_bytes}
use Rattle.dkg_values.specs.Uint.{uint}
use Rattle.dkg_values.specs.UintGrammar.{uint_short}
use Rattle.dkg_ceremony.specs.Logs.{log_spelling}
use Rattle.dkg_ceremony.specs.declared.dealer_log.DealerLog.{DealerLog}
use Rattle.dkg_ceremony.specs.declared.signed_log.SignedDealerLog.{SignedDealerLog}
use Rattle.dkg_fence.specs.Readiness.{Readiness}
use Rattle.dkg_journal.specs.Names.{Files}
use Rattle.dkg_secrets.specs.Keys.{key_cmp}
use Rattle.dkg_infos.specs.declared.entry.Entry.{Entry}
use Rattle.dkg_infos.specs.declared.fault.Fault.{Fault}
use Rattle.dkg_store.specs.Acts as acts_of
use Rattle.dkg_store.specs.Acts.{Acts, Moment, went}
use Rattle.dkg_store.specs.Called.{if_made}
use Rattle.dkg_store.specs.Calls.{noting}
use Rattle.dkg_store.specs.Events.{event_spelling}
use Rattle.dkg_store.specs.Rest.{KeepsLog}
use Rattle.dkg_store.specs.declared.event.Event.TheVariants as events
use Rattle.dkg_store.specs.declared.recorded_log.RecordedLog.{RecordedLog}
use Rattle.dkg_store.specs.declared.store.Store.{Store}
use Rattle.dkg_core.specs.Blocks as blocks
use Rattle.dkg_core.specs.Courses as courses
use Rattle.dkg_core.specs.Courses.{Course, Goes, on_devices}
use Rattle.dkg_core.specs.Dealing.{appends}
use Rattle.dkg_core.specs.Live.{Live, recorded_at}
use Rattle.dkg_core.specs.Logs.{carried_log_event, recorded_log}
use Rattle.dkg_core.specs.Said.{Said}
use Rattle.dkg_life.specs.declared.life.Life.{Life}
use Rattle.dkg_life.specs.declared.stop.Stop.{Stop}
use Rattle.dkg_life.specs.Ends.{by_stop, fault_of_store}
use Rattle.dkg_life.specs.LiveOf.{Beside, live_of}
use Rattle.dkg_life.specs.Made.{MakesAt, Speaks}
use Rattle.dkg_life.proofs.Burning.{makes_early, makes_next, makes_nothing}
use Rattle.dkg_dealing.proofs.Counted.{records_one}
use Rattle.dkg_life.proofs.Speaking.{goes_speaks}

-- A log below 2^31 bytes makes an event that a record can hold.
pub log_short : (dealer height : ℕ) (log : DealerLog) → length (log_spelling log) < 2 ^ 31 → length (event_spelling (events.LogAt dealer height log)) < 2 ^ 32
log_short dealer height log short =
    omega (arith, short, uint_short height, length-append (to_be_bytes w32 dealer) (uint height ++ log_spelling log), length-append (uint height) (log_spelling log))

-- what a store keeps that a log is recorded in
pub log_store : {Dir : Type 0} {ends : Option Bool} {key : ℕ × ℕ} {log : RecordedLog} {old new : Store Dir} → KeepsLog ends key log old new → new ≡ record old { journal = new.journal; logs = new.logs }
log_store {new = new} kept = λ i. record new { acks = kept.acks i; dealings = kept.dealings i; restored = kept.restored i; current = kept.current i }

module _ {Dir : Type 0} (epoch dealer height : ℕ) (log : DealerLog) (st : Live Dir) where
  -- what is in memory then
  abbrev logged_in : (recorded : Bool) → Live Dir
  logged_in recorded = if recorded then st else blocks.with_log_at epoch dealer height log st

  abbrev its_acts : (recorded : Bool) → Acts Fault Bool
  its_acts recorded = acts_of.under fault_of_store (noting recorded (epoch, event_spelling (events.LogAt dealer height log)))

  abbrev then_goes : (recorded : Bool) → Bool → Acts Fault (Live Dir)
  then_goes recorded made = acts_of.Goes (logged_in recorded)

  logs_as : (recorded : Bool)
      → on_devices {Dir = Dir} (if recorded then courses.Goes st else appends epoch (carried_log_event dealer height log) (courses.Goes (blocks.with_log_at epoch dealer height log st)))
      ≡ acts_of.bind (its_acts recorded) (then_goes recorded)
  logs_as true = refl
  logs_as false = refl

  -- nothing is said
  logged_said : (recorded : Bool) (out : List Entry) → Said (acts_of.bind (its_acts recorded) (then_goes recorded)) (went (logged_in recorded)) out out
  logged_said true out = record { lines = []; added = sym (append-nil out); by = (refl, refl) }
  logged_said false out = record { lines = []; added = sym (append-nil out); by = (refl, refl) }

module _ {Dir : Type 0} (life : Life Dir) (beside : Beside Dir) (fence : Readiness) (height : ℕ) (signed : SignedDealerLog) (old : Store Dir) (epoch : ℕ) (stored : life.store ≡ old) where
  abbrev st : Live Dir
  st = live_of beside fence life

  abbrev recorded : Bool
  recorded = contains_key old.logs (epoch, signed.dealer)

  abbrev course : Course Dir Fault (Live Dir)
  course = blocks.records_log epoch height signed st

  abbrev of_store : Acts Fault Bool
  of_store = its_acts epoch signed.dealer height signed.log st recorded

  abbrev next : Bool → Acts Fault (Live Dir)
  next = then_goes epoch signed.dealer height signed.log st recorded

  recorded_is : is_some (recorded_at st.records.logs epoch signed.dealer) ≡ recorded
  recorded_is = ap (λ (o : Option RecordedLog). is_some o) (sym (get-entries life.store.logs (epoch, signed.dealer))) ∙ ap (λ (s : Store Dir). contains_key s.logs (epoch, signed.dealer)) stored

  course_is : on_devices course ≡ acts_of.bind of_store next
  course_is =
      ap (λ (r : Bool). on_devices {Dir = Dir} (if r then courses.Goes st else appends epoch (carried_log_event signed.dealer height signed.log) (courses.Goes (blocks.with_log_at epoch signed.dealer height signed.log st)))) recorded_is
      ∙ logs_as epoch signed.dealer height signed.log st recorded

  -- WHAT WAS RECORDED BEFORE
  pub known_speaks : recorded ≡ true → (out : List Entry) → Speaks course (went (live_of beside fence (record life { store = old }))) out out
  known_speaks is out =
      goes_speaks course (live_of beside fence (record life { store = old })) st
      (ap (λ (r : Bool). let its : Course Dir Fault (Live Dir) = if r then Goes st else appends epoch (carried_log_event signed.dealer height signed.log) (Goes (blocks.with_log_at epoch signed.dealer height signed.log st)) in its) (recorded_is ∙ is))
      (λ i. live_of beside fence (record life { store = sym stored i })) out

  module _ (store : Store Dir) (kept : store ≡ record old { journal = store.journal; logs = store.logs }) where
    abbrev new : Life Dir
    new = record life { store = store }

    live_is : (logs : List ((ℕ × ℕ) × RecordedLog)) → maps.entries store.logs ≡ logs → live_of beside fence new ≡ record st { records = record st.records { logs = logs } }
    live_is logs is_logs = λ i. record st {
      records = record {
        dealings = maps.entries (ap (λ (s : Store Dir). s.dealings) (kept ∙ same_rest) i);
        acks = maps.entries (ap (λ (s : Store Dir). s.acks) (kept ∙ same_rest) i);
        logs = is_logs i;
      };
      participation = record st.participation { current = ap (λ (s : Store Dir). s.current) (kept ∙ same_rest) i };
    }
      where
        same_rest : record old { journal = store.journal; logs = store.logs } ≡ record life.store { journal = store.journal; logs = store.logs }
        same_rest = λ i. record (sym stored i) { journal = store.journal; logs = store.logs }

    same_logs : life.store.logs ≡ old.logs
    same_logs = ap (λ (s : Store Dir). s.logs) stored

    -- what a life has in memory behind it
    logged_live : (r : Bool) → store.logs ≡ if_made (Some (not r)) (insert old.logs (epoch, signed.dealer) (recorded_log height signed.log)) old.logs
        → live_of beside fence new ≡ logged_in epoch signed.dealer height signed.log st r
    logged_live true records = live_is (maps.entries life.store.logs) (ap maps.entries (records ∙ sym same_logs))
    logged_live false records =
        live_is (put key_cmp (epoch, signed.dealer) (recorded_log height signed.log) (maps.entries life.store.logs))
        (ap maps.entries records ∙ records_one (epoch, signed.dealer) (recorded_log height signed.log) old.logs
        ∙ (λ i. put key_cmp (epoch, signed.dealer) (recorded_log height signed.log) (maps.entries (sym same_logs i))))

    -- IT WAS RECORDED
    module _ (records : store.logs ≡ if_made (Some (not recorded)) (insert old.logs (epoch, signed.dealer) (recorded_log height signed.log)) old.logs) where
      pub log_made : (made : Bool) {files files_now : Files} {image between : Files → Type 0} {before mid : Moment}
          → MakesAt of_store (went made) files image files_now between before mid → MakesAt (on_devices course) (went (live_of beside fence new)) files image files_now between before mid
      log_made made {files} {files_now} {image} {between} {before} {mid} first =
          subst (λ (x : Acts Fault (Live Dir)). MakesAt x (went (live_of beside fence new)) files image files_now between before mid) (sym course_is)
          (makes_next next first (makes_nothing files_now between mid (logged_live recorded records)))

      pub log_said : (out : List Entry) → Said (on_devices course) (went (live_of beside fence new)) out out
      log_said out =
          subst (λ (x : Live Dir). Said (on_devices course) (went x) out out) (sym (logged_live recorded records))
          (subst (λ (x : Acts Fault (Live Dir)). Said x (went (logged_in epoch signed.dealer height signed.log st recorded)) out out) (sym course_is)
          (logged_said epoch signed.dealer height signed.log st recorded out))

  -- THE STORE FAILED
  pub log_stopped : (stop : Stop) {files files_now : Files} {image between : Files → Type 0} {before mid : Moment}
      → MakesAt of_store (by_stop stop) files image files_now between before mid → MakesAt (on_devices course) (by_stop stop) files image files_now between before mid
  log_stopped stop {files} {files_now} {image} {between} {before} {mid} first =
      subst (λ (x : Acts Fault (Live Dir)). MakesAt x (by_stop stop) files image files_now between before mid) (sym course_is) (makes_early next stop first)
