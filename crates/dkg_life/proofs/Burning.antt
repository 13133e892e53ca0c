-- What a fuse counts along acts, and acts that were made with it, one behind another.
use Rattle.std.proofs.Common.{◌≡◌, arith, List, [], ◌∷◌, ◌++◌, Option, Some, None, Result, refl, sym, ◌∙◌, subst}
use Rattle.std.specs.Prelude.{IfErr, IsSome, OnErr, OnOk}
use Rattle.dkg_journal.specs.Burn.{Burn}
use Rattle.dkg_journal.specs.Fuse.{Reached}
use Rattle.dkg_journal.specs.Names.{Files}
use Rattle.dkg_journal.proofs.Steps.{not_reached}
use Rattle.dkg_infos.specs.declared.entry.Entry.{Entry}
use Rattle.dkg_infos.specs.declared.fault.Fault.{Fault}
use Rattle.dkg_infos.specs.declared.fault.Fault.TheVariants as fault
use Rattle.dkg_store.specs.Acts as acts_of
use Rattle.dkg_store.specs.Acts.{Acts, Cause, Ended, IsBetween, MadeAt, Moment, broken, moment, stopped, went}
use Rattle.dkg_store.specs.Calls.{by_error}
use Rattle.dkg_store.specs.Errors.{IsOfDevices, IsOfPruning}
use Rattle.dkg_secrets.specs.Secrets.{Secrets}
use Rattle.dkg_store.specs.declared.call.StoreError.{StoreError}
use Rattle.dkg_store.specs.declared.call.StoreError.TheVariants.{Disk, Secrets as SecretsFailed, Corrupt, LocalState, StateSyncEpochs, StateSyncMaterial, Cut, NoMemory}
use Rattle.dkg_store.proofs.Acts.{made_next, made_none, made_nothing}
use Rattle.dkg_store.specs.Counts.{CountsOn}
use Rattle.dkg_core.specs.Courses.{Course, on_devices}
use Rattle.dkg_life.specs.declared.stop.Stop.{Stop}
use Rattle.dkg_life.specs.declared.stop.Stop.TheVariants as stop
use Rattle.dkg_life.specs.declared.stop.Stop.TheVariants.{Fault as Faulted}
use Rattle.dkg_life.specs.Ends.{IsOutside, by_cause, by_stop, cause_in, ends_in, fault_of_store, stop_of}
use Rattle.dkg_life.specs.Made.{Burns, MakesAt, Speaks, UnlessBroken}
use Rattle.dkg_life.proofs.Lines.{line_made}
use Rattle.dkg_life.proofs.Said.{devices_of_pruning}
use Rattle.dkg_life.proofs.Under.{ends_early, made_error, made_under, renamed, speaks_made}

-- THE FUSE

-- a call of the store
pub burns_counted : {F S : Type 0} (how : Ended F S) {f g : Burn} → CountsOn f g → UnlessBroken how (Reached f g → ⊥) → Burns how f g
burns_counted how counts uncut = record { call = counts.call; pick = counts.pick; uncut = uncut }

-- where an end comes from outside
pub unless_outside : (S : Type 0) (its : Stop) (P : Type 0) → IsOutside its → UnlessBroken (by_stop {S = S} its) P
unless_outside S stop.Cut P is = tt
unless_outside S stop.Failed P is = tt
unless_outside S (stop.Fault its) P is = by_its (cause_in its) is
  where
    by_its : (cause : Option Cause) → IsSome cause → UnlessBroken (by_cause {S = S} cause its) P
    by_its (Some cause) is = tt
    by_its None is = absurd cc

pub unless : {F S : Type 0} (how : Ended F S) (P : Type 0) → P → UnlessBroken how P
unless (went end) P p = p
unless (stopped fault) P p = p
unless (broken cause) P p = tt

pub unless_so : {F S : Type 0} (how : Ended F S) {P Q : Type 0} → (P → Q) → UnlessBroken how P → UnlessBroken how Q
unless_so (went end) so p = so p
unless_so (stopped fault) so p = so p
unless_so (broken cause) so p = tt

-- errors of devices come from outside, and so do those of a prune
pub outside_of_pruning : (e : StoreError) → IsOfPruning e → IsOutside (stop_of e)
outside_of_pruning Disk is = refl
outside_of_pruning SecretsFailed is = refl
outside_of_pruning (Corrupt name place) is = refl
outside_of_pruning (LocalState cause) is = absurd is
outside_of_pruning (StateSyncEpochs info floor) is = absurd is
outside_of_pruning StateSyncMaterial is = absurd is
outside_of_pruning Cut is = tt
outside_of_pruning NoMemory is = refl

pub outside_of_devices : (e : StoreError) → IsOfDevices e → IsOutside (stop_of e)
outside_of_devices e is = outside_of_pruning e (devices_of_pruning e is)

-- .. with another end
by_cause_alike : (S T : Type 0) (cause : Option Cause) (its : Fault) (P : Type 0) → UnlessBroken (by_cause {S = S} cause its) P → UnlessBroken (by_cause {S = T} cause its) P
by_cause_alike S T (Some cause) its P p = tt
by_cause_alike S T None its P p = p

pub by_stop_alike : (S T : Type 0) (its : Stop) (P : Type 0) → UnlessBroken (by_stop {S = S} its) P → UnlessBroken (by_stop {S = T} its) P
by_stop_alike S T stop.Cut P p = tt
by_stop_alike S T stop.Failed P p = tt
by_stop_alike S T (stop.Fault its) P p = by_cause_alike S T (cause_in its) its P p

unreached : (f : Burn) → Reached f f → ⊥
unreached f is = absurd (let low = is.not_yet in let high = is.by_now in omega (arith, low, high))

-- no call was made
pub burns_none : {F S : Type 0} (how : Ended F S) (f : Burn) → Burns how f f
burns_none how f = record { call = refl; pick = refl; uncut = unless how (Reached f f → ⊥) (unreached f) }

pub burns_still : {F S : Type 0} (how : Ended F S) {f g : Burn} → g ≡ f → Burns how f g
burns_still how {f} {g} same = subst (λ (x : Burn). Burns how f x) (sym same) (burns_none how f)

-- one behind another
pub burns_next : {F S T : Type 0} {x : S} (how : Ended F T) {f g h : Burn} → Burns {F = F} (went x) f g → Burns how g h → Burns how f h
burns_next how {f} {g} {h} first second = record {
  call = second.call ∙ first.call;
  pick = second.pick ∙ first.pick;
  uncut = unless_so how (λ no. not_reached f g h (sym second.call) first.uncut no) second.uncut;
}

pub burns_stopped : {S T : Type 0} (its : Stop) {f g : Burn} → Burns (by_stop {S = S} its) f g → Burns (by_stop {S = T} its) f g
burns_stopped {S} {T} its {f} {g} burns = record { call = burns.call; pick = burns.pick; uncut = by_stop_alike S T its (Reached f g → ⊥) burns.uncut }

burns_renamed : {S : Type 0} (how : Ended StoreError S) {f g : Burn} → Burns how f g → Burns (renamed how) f g
burns_renamed (went end) burns = record { call = burns.call; pick = burns.pick; uncut = burns.uncut }
burns_renamed (stopped fault) burns = record { call = burns.call; pick = burns.pick; uncut = burns.uncut }
burns_renamed (broken cause) burns = record { call = burns.call; pick = burns.pick; uncut = tt }

-- MADE WITH THE FUSE

module _ {F S : Type 0} (files : Files) (image : Files → Type 0) where
  pub makes_nothing : {end its : S} (m : Moment) → end ≡ its → MakesAt {F = F} (acts_of.Goes its) (went end) files image files image m m
  makes_nothing {end} m is = record { made = made_nothing files image m is; burns = burns_none (went end) m.fuse }

  pub makes_none : (acts : Acts F S) {how : Ended F S} (m : Moment) (cause : Cause) → IsBetween cause → how ≡ broken cause → MakesAt acts how files image files image m m
  makes_none acts {how} m cause between is = record { made = made_none files image acts m cause between is; burns = burns_none how m.fuse }

module _ {F S T : Type 0} {acts : Acts F S} (next : S → Acts F T) {files files_mid files_now : Files} {image between now : Files → Type 0} {old mid new : Moment} where
  pub makes_next : {end : S} {how : Ended F T} → MakesAt acts (went end) files image files_mid between old mid → MakesAt (next end) how files_mid between files_now now mid new
      → MakesAt (acts_of.bind acts next) how files image files_now now old new
  makes_next {how = how} first second = record { made = made_next next first.made second.made; burns = burns_next how first.burns second.burns }

module _ {S T : Type 0} {acts : Acts Fault S} (next : S → Acts Fault T) {files files_now : Files} {image now : Files → Type 0} {old new : Moment} where
  pub makes_early : (its : Stop) → MakesAt acts (by_stop its) files image files_now now old new → MakesAt (acts_of.bind acts next) (by_stop its) files image files_now now old new
  makes_early its first = record { made = ends_early next its first.made; burns = burns_stopped its first.burns }

-- A store's call, with the step's names.
module _ {S : Type 0} {acts : Acts StoreError S} {files files_now : Files} {image now : Files → Type 0} {old new : Moment} where
  pub makes_under : (how : Ended StoreError S) → MadeAt acts how files image files_now now old new → Burns how old.fuse new.fuse
      → MakesAt (acts_of.under fault_of_store acts) (renamed how) files image files_now now old new
  makes_under how made burns = record { made = made_under how made; burns = burns_renamed how burns }

  pub makes_error : (e : StoreError) → IsOfDevices e → MadeAt acts (by_error e) files image files_now now old new → new.fuse.call ≡ old.fuse.call → new.fuse.pick ≡ old.fuse.pick
      → MakesAt (acts_of.under fault_of_store acts) (by_stop (stop_of e)) files image files_now now old new
  makes_error e kind made call pick = record {
    made = made_error e kind made;
    burns = record { call = call; pick = pick; uncut = unless_outside S (stop_of e) (Reached old.fuse new.fuse → ⊥) (outside_of_devices e kind) };
  }

-- no device touched
pub speaks_makes : {Dir S : Type 0} (course : Course Dir Fault S) (how : Ended Fault S) (files : Files) (image : Files → Type 0) {out now : List Entry} {s : Secrets} {f : Burn} → Speaks course how out now
    → MakesAt (on_devices course) how files image files image (moment out s f) (moment now s f)
speaks_makes course how files image {f = f} speaks = record { made = speaks_made course how files image speaks; burns = burns_none how f }

-- a line
pub line_makes : {S : Type 0} (line : Entry) (end : S) {out now : List Entry} (result : Result (Unit {0}) Stop) (files : Files) (image : Files → Type 0) (s : Secrets) (f : Burn)
    → OnOk result (now ≡ out ++ line ∷ []) → OnErr result (now ≡ out) → IfErr result (λ stop. stop ≡ Faulted fault.NoMemory)
    → MakesAt (acts_of.Say line (acts_of.Goes end)) (ends_in end result) files image files image (moment out s f) (moment now s f)
line_makes line end result files image s f told untold memory = record { made = line_made line end result files image s f told untold memory; burns = burns_none (ends_in end result) f }
