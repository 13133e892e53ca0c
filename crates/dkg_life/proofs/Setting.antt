-- The parts of a setup, and the store's calls that they are.
use Rattle.std.proofs.Common.{◌≡◌, ℕ, ◌==◌, arith, Bool, cond, nat_le, List, [], ◌∷◌, ◌++◌, Option, Some, None, Result, Ok, Err, refl, sym, ◌∙◌, ap, subst, append-nil}
use Rattle.std.specs.Prelude.{IfErr, OnErr, OnOk}
use Rattle.std.specs.FinMap as maps
use Rattle.std.specs.FinMap.{FinMap, find, get, get-entries}
use Rattle.std.proofs.lemmas.Bool.Decides.{nat_tests}
use Rattle.std.specs.Ordering.{eq_by_cmp, nat_cmp}
use Rattle.dkg_values.specs.Rising.{lookup}
use Rattle.dkg_fence.specs.Readiness.{Readiness}
use Rattle.dkg_journal.specs.Burn.{Burn}
use Rattle.dkg_journal.specs.Names.{Files}
use Rattle.dkg_infos.specs.declared.entry.Entry.{Entry}
use Rattle.dkg_infos.specs.declared.entry.Entry.TheVariants.{Committed}
use Rattle.dkg_infos.specs.declared.fault.Fault.{Fault}
use Rattle.dkg_infos.specs.declared.fault.Fault.TheVariants.{NoMemory}
use Rattle.dkg_infos.specs.declared.info.EpochInfo.{EpochInfo}
use Rattle.dkg_store.specs.Acts as acts_of
use Rattle.dkg_store.specs.Acts.{Acts, Ended, MadeAt, Moment, moment, went}
use Rattle.dkg_store.specs.Errors.{IsOfDevices}
use Rattle.dkg_secrets.specs.Secrets.{Secrets}
use Rattle.dkg_store.specs.declared.call.StoreError.{StoreError}
use Rattle.dkg_store.specs.Calls.{by_error, committing, pruning}
use Rattle.dkg_store.specs.declared.call.StoreError.TheVariants.{NoMemory as StoreWant}
use Rattle.dkg_secrets.specs.Keys.{key_cmp}
use Rattle.dkg_store.specs.declared.store.Store.{Store}
use Rattle.dkg_core.specs.Courses.{on_devices}
use Rattle.dkg_core.specs.Live.{Live}
use Rattle.dkg_core.specs.Setup as setup
use Rattle.dkg_core.proofs.Agreeing.{entries_kept}
use Rattle.dkg_life.specs.declared.life.Life.{Life}
use Rattle.dkg_life.specs.declared.stop.Stop.{Stop}
use Rattle.dkg_life.specs.declared.stop.Stop.TheVariants.{Fault as Faulted}
use Rattle.dkg_life.specs.Ends.{by_stop, ends_in, fault_of_store, stop_of}
use Rattle.dkg_life.specs.LiveOf.{Beside, live_of, records_of}
use Rattle.dkg_core.specs.Said.{Said, SaysAll}
use Rattle.dkg_life.specs.Made.{Burns, MakesAt}
use Rattle.dkg_life.proofs.Burning.{line_makes, makes_early, makes_error, makes_next, makes_nothing, makes_under}
use Rattle.dkg_life.proofs.Said.{said_none}

equal_alike : (q k : ℕ) → eq_by_cmp nat_cmp q k ≡ (k == q)
equal_alike q k = grind (arith, nat_tests)

find_is_lookup : {V : Type 0} (q : ℕ) (es : List (ℕ × V)) → find nat_cmp q es ≡ lookup q es
find_is_lookup q [] = refl
find_is_lookup {V} q (e ∷ es) =
    ap (λ (b : Bool). cond b (Some e.1) (find nat_cmp q es)) (equal_alike q e.0)
    ∙ ap (λ (o : Option V). cond (e.0 == q) (Some e.1) o) (find_is_lookup q es)

-- what is read of a map as a list is what it has
pub looked_up : {V : Type 0} (k : ℕ) (m : FinMap nat_cmp V) → lookup k (maps.entries m) ≡ get m k
looked_up k m = sym (find_is_lookup k (maps.entries m)) ∙ sym (get-entries m k)

-- what a commit leaves in memory
pub committed_live : {Dir : Type 0} (info : EpochInfo Dir) (beside : Beside Dir) (fence : Readiness) (life : Life Dir) (store : Store Dir)
    → store.current ≡ Some info → store.dealings ≡ life.store.dealings → store.acks ≡ life.store.acks → store.logs ≡ life.store.logs
    → live_of beside fence (record life { store = store })
    ≡ record (live_of beside fence life) { participation = record (live_of beside fence life).participation { current = Some info } }
committed_live info beside fence life store current dealings acks logs = λ i. record (live_of beside fence life) {
  records = record { dealings = maps.entries (dealings i); acks = maps.entries (acks i); logs = maps.entries (logs i) };
  participation = record (live_of beside fence life).participation { current = current i };
}

-- .. and a prune
pub pruned_records : {Dir : Type 0} (min : ℕ) (old new : Store Dir)
    → new.dealings ≡ maps.retain_keys old.dealings (λ key. nat_le min key.0) → new.acks ≡ maps.retain_keys old.acks (λ key. nat_le min key.0)
    → new.logs ≡ maps.retain_keys old.logs (λ key. nat_le min key.0) → records_of new ≡ setup.records_from min (records_of old)
pruned_records min old new dealings acks logs = λ i. record {
  dealings = one old.dealings new.dealings dealings i;
  acks = one old.acks new.acks acks i;
  logs = one old.logs new.logs logs i;
}
  where
    one : {V : Type 0} (m now : FinMap key_cmp V) → now ≡ maps.retain_keys m (λ key. nat_le min key.0) → maps.entries now ≡ setup.kept_from min (maps.entries m)
    one m now e = ap maps.entries e ∙ entries_kept m min

-- MADE OVER THE DEVICES

-- a commit's acts are the store's, and then its line
commits_as : {Dir : Type 0} (info : EpochInfo Dir) (seed : List ℕ) (share : Option ℕ) (st : Live Dir)
    → on_devices (setup.commits info seed share st)
    ≡ acts_of.bind (acts_of.under fault_of_store (committing info.epoch seed share)) (λ done. acts_of.Say (Committed info.epoch share) (acts_of.Goes (record st { participation = record st.participation { current = Some info } })))
commits_as info seed None st = refl
commits_as info seed (Some share) st = refl

module _ {Dir : Type 0} (info : EpochInfo Dir) (seed : List ℕ) (share : Option ℕ) (st : Live Dir) where
  abbrev with_info : Live Dir
  with_info = record st { participation = record st.participation { current = Some info } }

  abbrev then_tells : Unit {0} → Acts Fault (Live Dir)
  then_tells done = acts_of.Say (Committed info.epoch share) (acts_of.Goes with_info)

  -- whatever the devices tell
  pub commit_said : (end : Live Dir) → end ≡ with_info → (result : Result (Unit {0}) Stop) {out told : List Entry}
      → OnOk result (told ≡ out ++ Committed info.epoch share ∷ []) → OnErr result (told ≡ out) → IfErr result (λ stop. stop ≡ Faulted NoMemory)
      → Said (on_devices (setup.commits info seed share st)) (ends_in end result) out told
  commit_said end is (Ok done) {out} {told} told_it untold memory = record { lines = Committed info.epoch share ∷ []; added = told_it; by = says share }
    where
      says : (its : Option ℕ) → SaysAll (on_devices (setup.commits info seed its st)) end (Committed info.epoch its ∷ [])
      says None = ([], refl, (refl, is))
      says (Some one) = ([], refl, (refl, is))
  commit_said end is (Err stop) {out} {told} told_it untold memory =
      subst (λ (its : Ended Fault (Live Dir)). Said (on_devices (setup.commits info seed share st)) its out told) (sym (ap (λ (its : Stop). by_stop {S = Live Dir} its) memory))
      (said_none (on_devices (setup.commits info seed share st)) StoreWant tt untold)

  module _ {files files_now : Files} {image now : Files → Type 0} where
    pub commit_made : (end : Live Dir) → end ≡ with_info → (result : Result (Unit {0}) Stop) {old : Moment} {out told : List Entry} {s : Secrets} {f : Burn}
        → MadeAt (committing info.epoch seed share) (went tt) files image files_now now old (moment out s f) → Burns {F = StoreError} {S = Unit {0}} (went tt) old.fuse f
        → OnOk result (told ≡ out ++ Committed info.epoch share ∷ []) → OnErr result (told ≡ out) → IfErr result (λ stop. stop ≡ Faulted NoMemory)
        → MakesAt (on_devices (setup.commits info seed share st)) (ends_in end result) files image files_now now old (moment told s f)
    commit_made end is result {old} {out} {told} {s} {f} made burns told_it untold memory =
        subst (λ (x : Live Dir). MakesAt (on_devices (setup.commits info seed share st)) (ends_in x result) files image files_now now old (moment told s f)) (sym is)
        (subst (λ (x : Acts Fault (Live Dir)). MakesAt x (ends_in with_info result) files image files_now now old (moment told s f)) (sym (commits_as info seed share st))
        (makes_next then_tells (makes_under (went tt) made burns) (line_makes (Committed info.epoch share) with_info result files_now now s f told_it untold memory)))

    pub commit_failed : (its : EpochInfo Dir) → its ≡ info → (e : StoreError) → IsOfDevices e → {old new : Moment}
        → MadeAt (committing its.epoch seed share) (by_error e) files image files_now now old new → new.fuse.call ≡ old.fuse.call → new.fuse.pick ≡ old.fuse.pick
        → MakesAt (on_devices (setup.commits info seed share st)) (by_stop (stop_of e)) files image files_now now old new
    commit_failed its same e kind {old} {new} made call pick =
        subst (λ (x : Acts Fault (Live Dir)). MakesAt x (by_stop (stop_of e)) files image files_now now old new) (sym (commits_as info seed share st))
        (makes_early then_tells (stop_of e)
        (makes_error e kind (subst (λ (x : EpochInfo Dir). MadeAt (committing x.epoch seed share) (by_error e) files image files_now now old new) same made) call pick))

module _ {Dir : Type 0} (min : ℕ) (st : Live Dir) where
  abbrev kept : Live Dir
  kept = record st { records = setup.records_from min st.records }

module _ {Dir : Type 0} (min : ℕ) (st : Live Dir) {files files_now : Files} {image now : Files → Type 0} {old new : Moment} where
  pub prune_made : (end : Live Dir) → end ≡ kept min st → MadeAt (pruning min) (went tt) files image files_now now old new → Burns {F = StoreError} {S = Unit {0}} (went tt) old.fuse new.fuse
      → MakesAt (on_devices (setup.prunes min st)) (went end) files image files_now now old new
  prune_made end is made burns = makes_next (λ done. acts_of.Goes (kept min st)) (makes_under (went tt) made burns) (makes_nothing files_now now new is)

  pub prune_failed : (e : StoreError) → IsOfDevices e → MadeAt (pruning min) (by_error e) files image files_now now old new → new.fuse.call ≡ old.fuse.call → new.fuse.pick ≡ old.fuse.pick
      → MakesAt (on_devices (setup.prunes min st)) (by_stop (stop_of e)) files image files_now now old new
  prune_failed e kind made call pick = makes_early (λ done. acts_of.Goes (kept min st)) (stop_of e) (makes_error e kind made call pick)

-- what a prune leaves in memory
pub pruned_live : {Dir : Type 0} (min : ℕ) (beside : Beside Dir) (fence : Readiness) (life : Life Dir) (store : Store Dir)
    → records_of store ≡ setup.records_from min (records_of life.store) → store.current ≡ life.store.current
    → live_of beside fence (record life { store = store }) ≡ record (live_of beside fence life) { records = setup.records_from min (records_of life.store) }
pruned_live min beside fence life store records current = λ i. record (live_of beside fence life) {
  records = records i;
  participation = record (live_of beside fence life).participation { current = current i };
}

-- It says nothing.
pub prune_said : {Dir : Type 0} (min : ℕ) (st end : Live Dir) → end ≡ record st { records = setup.records_from min st.records } → (out : List Entry)
    → Said (on_devices (setup.prunes min st)) (went end) out out
prune_said min st end is out = record { lines = []; added = sym (append-nil out); by = (refl, is) }
