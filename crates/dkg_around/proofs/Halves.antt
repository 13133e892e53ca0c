-- What the orchestrator's half says of a delivered block, by what it has entered.
use Rattle.std.proofs.Common.{◌≡◌, ◌<◌, ◌⊎◌, inl, inr, ℕ, Bool, true, false, List, [], ◌∷◌, ◌++◌, Option, Some, None, Result, Ok, Err, refl, sym, ◌∙◌, ap, subst, arith}
use Rattle.std.specs.Prelude.{◌+◌, ◌*◌, ◌-◌, ◌^◌, ◌≤◌, ◌==◌, ◌||◌, IsSome, OnOk, is_some, nat_lt, if◌then◌else◌}
use Rattle.std.specs.Option.{option_map_or}
use Rattle.std.proofs.Math.Nat.{le-mul_of_pos_right}
use Rattle.std.proofs.lemmas.Bool.Decides.{nat_tests}
use Rattle.dkg_values.specs.Rising.{lookup}
use Rattle.dkg_ceremony.specs.Schedule.{in_range, last}
use Rattle.dkg_fence.specs.Fence.{waited}
use Rattle.dkg_fence.specs.Readiness.{Readiness}
use Rattle.dkg_fence.specs.declared.fence.Waited.{Waited}
use Rattle.dkg_fence.specs.declared.fence.Waited.TheVariants as waits
use Rattle.dkg_journal.specs.Burn.{Burn}
use Rattle.dkg_types.specs.Blocks.{Block}
use Rattle.dkg_types.specs.BlockCodes.{info_of}
use Rattle.dkg_infos.specs.declared.directory.Unit as directory
use Rattle.dkg_infos.specs.declared.entry.Entry.{Entry}
use Rattle.dkg_infos.specs.declared.entry.Entry.TheVariants.{Acked, Entered}
use Rattle.dkg_infos.specs.declared.fault.Fault.{Fault}
use Rattle.dkg_infos.specs.declared.fault.Fault.TheVariants.{MissingEpochInfo, NoMemory, SkippedHeight, WrongEpoch}
use Rattle.dkg_infos.specs.declared.info.EpochInfo.{EpochInfo}
use Rattle.dkg_types.specs.declared.scheme.SchemeInfo.{SchemeInfo}
use Rattle.dkg_store.specs.Acts as acts_of
use Rattle.dkg_store.specs.Acts.{Acts, Breaks, Cause, Completes, Ended, Faults, Held, Runs, World, broken, by_want, does, says, stopped, went}
use Rattle.dkg_store.proofs.Acts.{breaks_none}
use Rattle.dkg_core.specs.Courses.{Course, Genesis, Goes, Say, Stops, bind, on_devices}
use Rattle.dkg_core.specs.Entering as core
use Rattle.dkg_core.specs.Entering.{AcknowledgesBlock, Withholds, acked_at, acked_late, active, asks_again, takes_delivered, delivered_in, enters, enters_at, is_ready, leaves, starts_engine, stops_engine, tracks_peers, wait_for, waited_for}
use Rattle.dkg_core.specs.Fixed.{Fixed}
use Rattle.dkg_core.specs.Live.{Faulted, Live, NodeStop, Orchestrator, Waiting, with_orchestrator}
use Rattle.dkg_core.specs.Splitting.{fault_named}
use Rattle.dkg_life.specs.Ends.{by_cause, cause_in}
use Rattle.dkg_life.specs.Made.{Speaks}
use Rattle.dkg_life.specs.declared.stop.Stop.{Stop}
use Rattle.dkg_life.specs.declared.stop.Stop.TheVariants as stop
use Rattle.dkg_life.proofs.Under.{on_bind}
use Rattle.dkg_lives.specs.Ended.{by_node_stop, ends_node}
use Rattle.dkg_around.specs.Halves.{beginning_of}
use Rattle.dkg_around.specs.Orchestrator.{HasOrchestratorHalf, IsSettled, MayGoOn, MayPass, ends_on, with_orchestrator_half}
use Rattle.dkg_around.specs.declared.half.Half.{Half}

apart_bools : (t : Bool) → t ≡ true → t ≡ false → ⊥
apart_bools t e f = let wrong : true ≡ false = sym e ∙ f in cc

-- ONE AFTER ANOTHER

module _ {F S T : Type 0} (next : S → Acts F T) where
  runs_next : (acts : Acts F S) (how : Ended F T) (w mid new : World) (end : S) → Completes acts end w mid → Runs (next end) how mid new → Runs (acts_of.bind acts next) how w new
  runs_next (acts_of.Say line acts) how w mid new end a b = said how (runs_next acts how (says w line) mid new end a b)
    where
      said : (how : Ended F T) → Runs (acts_of.bind acts next) how (says w line) new → Runs (acts_of.Say line (acts_of.bind acts next)) how w new
      said (went last) b = b
      said (stopped fault) b = b
      said (broken cause) b = inr b
  runs_next (acts_of.Do op acts) how w mid new end a b = done how (runs_next acts how (does w op) mid new end a b)
    where
      done : (how : Ended F T) → Runs (acts_of.bind acts next) how (does w op) new → Runs (acts_of.Do op (acts_of.bind acts next)) how w new
      done (went last) b = b
      done (stopped fault) b = b
      done (broken cause) b = inr b
  runs_next (acts_of.Ask f) how w mid new end a b = asked how (runs_next (f w.held) how w mid new end a b)
    where
      asked : (how : Ended F T) → Runs (acts_of.bind (f w.held) next) how w new → Runs (acts_of.Ask (λ h. acts_of.bind (f h) next)) how w new
      asked (went last) b = b
      asked (stopped fault) b = b
      asked (broken cause) b = b
  runs_next (acts_of.Goes its) how w mid new end a b = subst (λ (x : World). Runs (next its) how x new) a.0 (subst (λ (s : S). Runs (next s) how mid new) a.1 b)
  runs_next (acts_of.Stops fault) how w mid new end a b = absurd a

  faults_first : (acts : Acts F S) (w new : World) (fault : F) → Faults acts fault w new → Faults (acts_of.bind acts next) fault w new
  faults_first (acts_of.Say line acts) w new fault a = faults_first acts (says w line) new fault a
  faults_first (acts_of.Do op acts) w new fault a = faults_first acts (does w op) new fault a
  faults_first (acts_of.Ask f) w new fault a = faults_first (f w.held) w new fault a
  faults_first (acts_of.Goes end) w new fault a = absurd a
  faults_first (acts_of.Stops its) w new fault a = a

  breaks_first : (cause : Cause) (acts : Acts F S) (w new : World) → Breaks cause acts w new → Breaks cause (acts_of.bind acts next) w new
  breaks_first cause (acts_of.Say line acts) w new (inl none) = inl none
  breaks_first cause (acts_of.Say line acts) w new (inr more) = inr (breaks_first cause acts (says w line) new more)
  breaks_first cause (acts_of.Do op acts) w new (inl torn) = inl torn
  breaks_first cause (acts_of.Do op acts) w new (inr more) = inr (breaks_first cause acts (does w op) new more)
  breaks_first cause (acts_of.Ask f) w new b = breaks_first cause (f w.held) w new b
  breaks_first cause (acts_of.Goes end) w new none = subst (λ (x : World). Breaks cause (next end) w x) (sym none.1) (breaks_none cause none.0 (next end) w)
  breaks_first cause (acts_of.Stops fault) w new none = none

-- a world in which this was said
abbrev world_of : List Entry → Held → Burn → World
world_of out h f = record { out = out; held = h; fuse = f }

module _ {S T : Type 0} (course : Course directory.Unit NodeStop S) (next : S → Course directory.Unit NodeStop T) where
  abbrev behind_acts : S → Acts NodeStop T
  behind_acts end = on_devices (next end)

  as_bound : (how : Ended NodeStop T) (w new : World) → Runs (acts_of.bind (on_devices course) behind_acts) how w new → Runs (on_devices (bind course next)) how w new
  as_bound how w new = subst (λ (a : Acts NodeStop T). Runs a how w new) (sym (on_bind course next))

  -- the first went to its end
  pub then_speaks : (end : S) (how : Ended NodeStop T) (out mid now : List Entry) → Speaks course (went end) out mid → Speaks (next end) how mid now → Speaks (bind course next) how out now
  then_speaks end how out mid now a b = λ h f.
      as_bound how (world_of out h f) (world_of now h f) (runs_next behind_acts (on_devices course) how (world_of out h f) (world_of mid h f) (world_of now h f) end (a h f) (b h f))

  -- .. or ended by a stop
  pub early_speaks : (its : Stop) (out now : List Entry) → Speaks course (by_node_stop its) out now → Speaks (bind course next) (by_node_stop its) out now
  early_speaks its out now a = λ h f. as_bound (by_node_stop its) (world_of out h f) (world_of now h f) (in_stop its (world_of out h f) (world_of now h f) (a h f))
    where
      in_cause : (cause : Option Cause) (its : Fault) (w new : World) → Runs (on_devices course) (fault_named {S = S} Faulted (by_cause cause its)) w new
          → Runs (acts_of.bind (on_devices course) behind_acts) (fault_named {S = T} Faulted (by_cause cause its)) w new
      in_cause (Some cause) its w new a = breaks_first behind_acts cause (on_devices course) w new a
      in_cause None its w new a = faults_first behind_acts (on_devices course) w new (Faulted its) a

      in_stop : (its : Stop) (w new : World) → Runs (on_devices course) (by_node_stop its) w new → Runs (acts_of.bind (on_devices course) behind_acts) (by_node_stop its) w new
      in_stop (stop.Fault its) w new a = in_cause (cause_in its) its w new a
      in_stop stop.Cut w new a = breaks_first behind_acts acts_of.by_cut (on_devices course) w new a
      in_stop stop.Failed w new a = breaks_first behind_acts by_want (on_devices course) w new a

-- no memory was found before the first line
pub wants_speaks : {S : Type 0} (course : Course directory.Unit NodeStop S) (its : Stop) → its ≡ stop.Fault NoMemory → (out now : List Entry) → now ≡ out → Speaks course (by_node_stop its) out now
wants_speaks {S} course its is out now same =
    subst (λ (l : List Entry). Speaks course (by_node_stop its) out l) (sym same)
    (subst (λ (s : Stop). Speaks course (by_node_stop s) out out) (sym is) (λ h f. breaks_none by_want tt (on_devices course) (world_of out h f)))

-- ANY BLOCK, where the half waits for nothing

module _ (c : Fixed directory.Unit) (b : Block directory.Unit) (st : Live directory.Unit) (half : Half) (has : HasOrchestratorHalf half st) where
  abbrev answers : core.LifeAndAnswer directory.Unit → Course directory.Unit NodeStop (Live directory.Unit)
  answers its = acked_at b.height its.answer its.live

  abbrev says_acked : Live directory.Unit → Course directory.Unit NodeStop (Live directory.Unit)
  says_acked end = Say (Acked b.height) (Goes end)

  abbrev at_waiting : Option (Waiting directory.Unit) → Course directory.Unit NodeStop (Live directory.Unit)
  at_waiting waiting = option_map_or (λ w. bind (enters c w st) (acked_late w.block)) waiting (Goes st)

  -- it is judged by the epoch of this half
  in_epoch : (o : Option ℕ) → (if half.halted then None else half.entered) ≡ o → bind (delivered_in c b st o) answers ≡ bind (takes_delivered c b st) answers
  in_epoch o is =
      ap (λ (e : Option ℕ). bind (delivered_in c b st e) answers) (sym active_is)
      ∙ ap (λ (w : Option (Waiting directory.Unit)). bind (bind (at_waiting w) (λ now. delivered_in c b now (active now.orchestrator))) answers) (sym has.unawaited)
    where
      active_is : active st.orchestrator ≡ o
      active_is =
          ap (λ (w : Option (Waiting directory.Unit)). if st.orchestrator.halted || is_some w then None else st.orchestrator.entered) has.unawaited
          ∙ ap (λ (t : Bool). if t || false then None else st.orchestrator.entered) has.halted ∙ by_test half.halted ∙ ap (λ (e : Option ℕ). if half.halted then None else e) has.entered ∙ is
        where
          by_test : (t : Bool) → (if t || false then None else st.orchestrator.entered) ≡ (if t then None else st.orchestrator.entered)
          by_test true = refl
          by_test false = refl

  module _ (epoch : ℕ) (is : (if half.halted then None else half.entered) ≡ Some epoch) where
    -- an active one stops
    pub stops_so : (its : Stop) (out now : List Entry) → Speaks (delivered_in c b st (Some epoch)) (by_node_stop its) out now → Speaks (bind (takes_delivered c b st) answers) (by_node_stop its) out now
    stops_so its out now a =
        subst (λ (x : Course directory.Unit NodeStop (Live directory.Unit)). Speaks x (by_node_stop its) out now) (in_epoch (Some epoch) is) (early_speaks (delivered_in c b st (Some epoch)) answers its out now a)

    -- .. or went on, and the block is acknowledged
    acks : (end : Live directory.Unit) (out mid : List Entry) → Speaks (delivered_in c b st (Some epoch)) (went (record { live = end; answer = AcknowledgesBlock })) out mid
        → (how : Ended NodeStop (Live directory.Unit)) (now : List Entry) → Speaks (says_acked end) how mid now → Speaks (bind (takes_delivered c b st) answers) how out now
    acks end out mid a how now more =
        subst (λ (x : Course directory.Unit NodeStop (Live directory.Unit)). Speaks x how out now) (in_epoch (Some epoch) is)
        (then_speaks (delivered_in c b st (Some epoch)) answers (record { live = end; answer = AcknowledgesBlock }) how out mid now a more)

    module _ (end : Live directory.Unit) (out mid : List Entry) (went_on : Speaks (delivered_in c b st (Some epoch)) (went (record { live = end; answer = AcknowledgesBlock })) out mid) where
      pub acks_wanted : (now : List Entry) → now ≡ mid → Speaks (bind (takes_delivered c b st) answers) (by_node_stop (stop.Fault NoMemory)) out now
      acks_wanted now same = acks end out mid went_on (by_node_stop (stop.Fault NoMemory)) now (wants_speaks (says_acked end) (stop.Fault NoMemory) refl mid now same)

      pub acks_said : (height : ℕ) → height ≡ b.height → (now : List Entry) → now ≡ mid ++ Acked height ∷ [] → Speaks (bind (takes_delivered c b st) answers) (went end) out now
      acks_said height is now told =
          acks end out mid went_on (went end) now (λ h f. (ap (λ (l : List Entry). world_of l h f) (told ∙ ap (λ (n : ℕ). mid ++ Acked n ∷ []) is), refl))

    -- it is active
    pub is_going : (half.halted ≡ false) × (half.entered ≡ Some epoch)
    is_going = by_test half.halted refl is
      where
        by_test : (t : Bool) → half.halted ≡ t → (if t then None else half.entered) ≡ Some epoch → (half.halted ≡ false) × (half.entered ≡ Some epoch)
        by_test true e none = absurd (let wrong : ◌≡◌ {A = Option ℕ} None (Some epoch) = none in cc)
        by_test false e its = (e, its)
