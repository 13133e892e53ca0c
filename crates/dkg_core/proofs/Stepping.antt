-- How steps end in the form of epochs.
use Rattle.std.proofs.Common.{◌≡◌, ◌≤◌, ◌<◌, ◌⊎◌, inl, inr, ℕ, Bool, true, false, nat_le, Option, Some, None, refl, sym, ◌∙◌, ap, subst, arith}
use Rattle.std.specs.Prelude.{◌+◌, ◌==◌, ◌&&◌, ◌||◌, nat_lt, if◌then◌else◌, not, is_some, option_map}
use Rattle.std.specs.Option.{option_map_or}
use Rattle.std.specs.Str.{bytes_eq}
use Rattle.std.proofs.lemmas.Bool.Decides.{nat_tests}
use Rattle.dkg_ceremony.specs.declared.phase.Phase.{Phase}
use Rattle.dkg_ceremony.specs.declared.phase.Phase.TheVariants.{Early, Midpoint, Late}
use Rattle.dkg_ceremony.specs.declared.round.RoundParts.{RoundParts as Round}
use Rattle.dkg_ceremony.specs.Schedule.{epoch_of, midpoint, last, phase_at}
use Rattle.dkg_types.specs.Blocks.{Block}
use Rattle.dkg_infos.specs.declared.entry.Entry.{Entry}
use Rattle.dkg_infos.specs.declared.entry.Entry.TheVariants.{Acked}
use Rattle.dkg_infos.specs.declared.fault.Fault.{Fault}
use Rattle.dkg_infos.specs.declared.fault.Fault.TheVariants.{HeightRange, ConflictingBlock, DetachedBlock, SkippedHeight, OutOfWindow}
use Rattle.dkg_store.specs.Acts.{Held, Ended, went, stopped, broken}
use Rattle.dkg_core.specs.Courses.{Course, Say, Do, CallOutside, Ask, Goes, Stops, bind, under}
use Rattle.dkg_core.specs.Sources.{Tip}
use Rattle.dkg_core.specs.Fixed.{Fixed}
use Rattle.dkg_core.specs.Live.{Live, Orchestrator, Waiting, NodeStop, Faulted, Stage, Deals, Includes, Follows, Ends, Message, Mailed, Peer, Finalized, NextLog, ReleaseLog, EpochInfoOf, Feed, Over, Cancel, Work, awaited_height, phase_of, is_last_height, with_tip}
use Rattle.dkg_core.specs.Setup as s
use Rattle.dkg_core.specs.Dealing as d
use Rattle.dkg_core.specs.Blocks as b
use Rattle.dkg_core.specs.Core.{step}
use Rattle.dkg_core.specs.Entering as half
use Rattle.dkg_core.specs.Entering.{LifeAndAnswer, HalfAnswer}
use Rattle.dkg_core.specs.Node.{node_step, unless_once}
use Rattle.dkg_core.specs.Behind.{OnlySays, IsAside, IsSameBeside, event_of}
use Rattle.dkg_core.specs.Endings.{ComesTo, CameTo, stage_in, answer_in}
use Rattle.dkg_core.specs.NodeEndings.{IsFaultBy}
use Rattle.dkg_core.specs.Forms.{IsForm, IsLiveIn, IsActiveIn, Judged, Refusal, Passed, Applied, judged_over_tip, judged_block, IsTakenIn, ComesOver, FindsHeld}
use Rattle.dkg_core.specs.Stepping.{with_taken, held_at_setup, given_itself, NoOwnDiffers, dealt_behind, IsDealingStop, IsFollowedEnd, IsAppliedStop, IsBlockStop, IsAppliedEnd, IsBlockEnd, IsStepStop, IsNextIn, IsHeardBy, LeavesTaken, StepsLead, StepsLeadOver, HalvesGoOn, NodeStepsLead, NodeStepsLeadOver, IsSameLife, NextLivesStay}
use Rattle.dkg_core.proofs.Applied.{window_or_next, judged_comes}
use Rattle.dkg_core.proofs.Behind.{heard_aside, block_aside}
use Rattle.dkg_core.proofs.Counting.{comes_if}
use Rattle.dkg_core.proofs.Heights.{next_below, below_middle, below_tip}
use Rattle.dkg_core.proofs.Setups.{over_as, over_behind, over_under, anywhere_over, comes_anywhere, came_over, some_found}
use Rattle.dkg_core.proofs.Splitting.{came_to, comes_behind}
use Rattle.dkg_core.proofs.StepDealing.{IsSameBut, taken_same, given_same, dealing_comes}
use Rattle.dkg_core.proofs.StepFollowing as follow
use Rattle.dkg_core.proofs.StepFollowing.{IfLeft}
use Rattle.dkg_core.proofs.StepPeers as peer

-- APART

deals_apart : ◌≡◌ {A = Stage} Deals Follows → ⊥
deals_apart e = cc

includes_apart : ◌≡◌ {A = Stage} Includes Follows → ⊥
includes_apart e = cc

included_apart : ◌≡◌ {A = Stage} Deals Includes → ⊥
included_apart e = cc

ends_apart : ◌≡◌ {A = Stage} Follows Ends → ⊥
ends_apart e = cc

no_end : (phase : Phase) → stage_in phase ≡ Ends → ⊥
no_end Early e = cc
no_end Midpoint e = cc
no_end Late e = cc

bool_apart : (t : Bool) → t ≡ true → t ≡ false → ⊥
bool_apart t is other = cc

first_of : (a t : Bool) → (a && t) ≡ true → a ≡ true
first_of true t e = refl
first_of false t e = absurd (let no : ◌≡◌ {A = Bool} false true = e in cc)

second_of : (a t : Bool) → (a && t) ≡ true → t ≡ true
second_of true t e = e
second_of false t e = absurd (let no : ◌≡◌ {A = Bool} false true = e in cc)

same_number : (n m : ℕ) → (n == m) ≡ true → n ≡ m
same_number n m e = grind (arith, nat_tests)

-- a height below the middle is early
is_early : (middle height : ℕ) → height < middle → phase_at middle height ≡ Early
is_early middle height low =
    let is : nat_lt height middle ≡ true = grind (arith, nat_tests, low) in
    ap (λ (t : Bool). if t then Early else (if height == middle then Midpoint else Late)) is

-- A DELIVERED BLOCK

module _ {Dir : Type 0} (c : Fixed Dir) (form : IsForm c) (st : Live Dir) (live : IsLiveIn c st) (devices : Option Held) where
  not_ended : st.participation.stage ≡ Ends → ⊥
  not_ended e = either st.participation.round refl
    where
      either : (found : Option Round) → st.participation.round ≡ found → ⊥
      either None is = ends_apart (sym (live.without is).0 ∙ e)
      either (Some round) is = no_end (phase_of c (awaited_height st)) (sym (live.in_round round is) ∙ e)

  module _ (block : Block Dir) (taken : IsTakenIn c (Finalized block) st) where
    abbrev Stop : Fault → Type 0
    Stop fault = (h k : Held) × FindsHeld devices h × FindsHeld (option_map (held_at_setup c (Finalized block)) devices) k × IsStepStop c st (Finalized block) h k fault

    abbrev To : Live Dir → Option Held → Type 0
    To end left =
        (h k : Held) × FindsHeld devices h × FindsHeld (option_map (held_at_setup c (Finalized block)) devices) k × IsNextIn c st (Finalized block) h k end
        × IfLeft left (LeavesTaken c st (Finalized block) k)

    known : (h k : Held) × FindsHeld devices h × FindsHeld (option_map (held_at_setup c (Finalized block)) devices) k
    known = let first = some_found devices in let second = some_found (option_map (held_at_setup c (Finalized block)) devices) in (first.0, second.0, first.1, second.1)

    refused : (fault : Fault) → judged_block c block st ≡ Refusal fault → Stop fault
    refused fault is = (known.0, known.1, known.2, known.3, subst (λ (j : Judged). IsBlockStop c block st known.0 known.1 j fault) (sym is) refl)

    -- what is left of a block that is no last one while following
    nothing_taken : (k : Held) (left : Option Held) → (judged_block c block st ≡ Applied → st.participation.stage ≡ Follows → is_last_height c block.height ≡ true → ⊥)
        → IfLeft left (LeavesTaken c st (Finalized block) k)
    nothing_taken k None none = tt
    nothing_taken k (Some now) none = λ applied follows last. absurd (none applied follows last)

    passed : judged_block c block st ≡ Passed → (left : Option Held) → To st left
    passed is left = (
      known.0,
      known.1,
      known.2,
      known.3,
      record { live = live; is = subst (λ (j : Judged). IsBlockEnd c block st known.0 known.1 j st) (sym is) refl },
      nothing_taken known.1 left (λ applied follows last. apart (sym is ∙ applied)),
    )
      where
        apart : ◌≡◌ {A = Judged} Passed Applied → ⊥
        apart e = cc

    module _ (accepted : judged_block c block st ≡ Applied) (here : st.participation.stage ≡ Deals → st.participation.epoch ≡ epoch_of c.blocks_per_epoch block.height)
        (outside : st.participation.stage ≡ Includes → block.height < midpoint c.blocks_per_epoch (epoch_of c.blocks_per_epoch block.height) → ⊥) where
      below : (stage : Stage) → st.participation.stage ≡ stage → (stage ≡ Follows → ⊥) → block.height < midpoint c.blocks_per_epoch (epoch_of c.blocks_per_epoch block.height)
      below stage is apart = either (taken accepted)
        where
          either : (st.participation.stage ≡ Follows) ⊎ (block.height < midpoint c.blocks_per_epoch (epoch_of c.blocks_per_epoch block.height)) → block.height < midpoint c.blocks_per_epoch (epoch_of c.blocks_per_epoch block.height)
          either (inl follows) = absurd (apart (sym is ∙ follows))
          either (inr low) = low

      -- at this stage
      stop_at : (stage : Stage) → st.participation.stage ≡ stage → (h k : Held) (fault : Fault) → IsAppliedStop c block st h k stage fault → IsStepStop c st (Finalized block) h k fault
      stop_at stage is h k fault stop =
          subst (λ (j : Judged). IsBlockStop c block st h k j fault) (sym accepted) (subst (λ (x : Stage). IsAppliedStop c block st h k x fault) (sym is) stop)

      end_at : (stage : Stage) → st.participation.stage ≡ stage → (h k : Held) (end : Live Dir) → IsLiveIn c end → IsAppliedEnd c block st h k stage end → IsNextIn c st (Finalized block) h k end
      end_at stage is h k end alive at = record {
        live = alive;
        is = subst (λ (j : Judged). IsBlockEnd c block st h k j end) (sym accepted) (subst (λ (x : Stage). IsAppliedEnd c block st h k x end) (sym is) at);
      }

      dealt : st.participation.stage ≡ Deals → ComesOver Stop To (b.deals_at c block st) devices
      dealt is =
          let Behind : Live Dir → Type 0 = λ end. IsLiveIn c end × (end ≡ dealt_behind c block (given_itself c st)) × NoOwnDiffers c st in
          over_as (IsDealingStop c st) Stop (λ end left. Behind end) To (b.deals_at c block st) devices
          (λ fault stop. (known.0, known.1, known.2, known.3, stop_at Deals is known.0 known.1 fault stop))
          (λ end left its. (
            known.0,
            known.1,
            known.2,
            known.3,
            end_at Deals is known.0 known.1 end its.0 (its.1, its.2),
            nothing_taken known.1 left (λ applied follows last. deals_apart (sym is ∙ follows)),
          ))
          (anywhere_over (IsDealingStop c st) Behind (b.deals_at c block st) devices (dealing_comes c form block st live is (here is) (below Deals is deals_apart)))

      left_taken : (is : st.participation.stage ≡ Follows) (h k : Held) (left : Option Held) → (is_last_height c block.height ≡ true → IfLeft left (follow.Taken c form block st live is devices k))
          → IfLeft left (LeavesTaken c st (Finalized block) k)
      left_taken is h k None its = tt
      left_taken is h k (Some now) its = λ applied follows last. its last

      followed : st.participation.stage ≡ Follows → ComesOver Stop To (b.follows_at c block st) devices
      followed is =
          over_as (follow.FollowedStop c form block st live is devices) Stop (follow.FollowedEnd c form block st live is devices) To (b.follows_at c block st) devices
          (λ fault stop. (stop.0, stop.1, stop.2, stop.3, stop_at Follows is stop.0 stop.1 fault (stop.4, stop.5)))
          (λ end left its. (its.0, its.1, its.2, its.3, end_at Follows is its.0 its.1 end its.4 its.5, left_taken is its.0 its.1 left its.6)) (follow.following_comes c form block st live is devices)

      applied : (stage : Stage) → st.participation.stage ≡ stage → ComesOver Stop To (b.applies_in c block st stage) devices
      applied Deals is = dealt is
      applied Includes is = absurd (outside is (below Includes is includes_apart))
      applied Follows is = followed is
      applied Ends is = absurd (not_ended is)

    -- an applied block without a tip lies in the window of the awaited epoch
    module _ (e : b.is_in_window c block st ≡ true) where
      window_here : st.participation.stage ≡ Deals → st.participation.epoch ≡ epoch_of c.blocks_per_epoch block.height
      window_here is =
          sym (same_number (epoch_of c.blocks_per_epoch block.height) st.participation.epoch (first_of (epoch_of c.blocks_per_epoch block.height == st.participation.epoch) (b.is_early (phase_of c block.height))
          (subst (λ (x : Stage). b.is_in_window_in c block st x ≡ true) is e)))

      window_outside : st.participation.stage ≡ Includes → block.height < midpoint c.blocks_per_epoch (epoch_of c.blocks_per_epoch block.height) → ⊥
      window_outside is low =
          let late = second_of (epoch_of c.blocks_per_epoch block.height == st.participation.epoch) (not (b.is_early (phase_of c block.height))) (subst (λ (x : Stage). b.is_in_window_in c block st x ≡ true) is e) in
          let no : ◌≡◌ {A = Bool} false true = sym (ap (λ (p : Phase). not (b.is_early p)) (is_early (midpoint c.blocks_per_epoch (epoch_of c.blocks_per_epoch block.height)) block.height low)) ∙ late in cc

    -- .. and over a tip it is the next
    module _ (next : awaited_height st ≡ block.height) where
      tip_here : st.participation.stage ≡ Deals → st.participation.epoch ≡ epoch_of c.blocks_per_epoch block.height
      tip_here is = live.awaits (λ follows. deals_apart (sym is ∙ follows)) ∙ ap (epoch_of c.blocks_per_epoch) next

      tip_outside : st.participation.stage ≡ Includes → block.height < midpoint c.blocks_per_epoch (epoch_of c.blocks_per_epoch block.height) → ⊥
      tip_outside is low = either st.participation.round refl
        where
          sooner : stage_in (phase_of c (awaited_height st)) ≡ Deals
          sooner = ap (λ (height : ℕ). stage_in (phase_of c height)) next ∙ ap stage_in (is_early (midpoint c.blocks_per_epoch (epoch_of c.blocks_per_epoch block.height)) block.height low)

          either : (found : Option Round) → st.participation.round ≡ found → ⊥
          either None none = includes_apart (sym is ∙ (live.without none).0)
          either (Some round) at = included_apart (sym sooner ∙ sym (live.in_round round at) ∙ is)

    -- so none is applied while including
    pub not_included : judged_block c block st ≡ Applied → st.participation.stage ≡ Includes → ⊥
    not_included accepted includes = either (window_or_next c block st accepted) (taken accepted)
      where
        either : (b.is_in_window c block st ≡ true) ⊎ (awaited_height st ≡ block.height)
            → (st.participation.stage ≡ Follows) ⊎ (block.height < midpoint c.blocks_per_epoch (epoch_of c.blocks_per_epoch block.height)) → ⊥
        either located (inl follows) = includes_apart (sym includes ∙ follows)
        either (inl e) (inr low) = window_outside e includes low
        either (inr next) (inr low) = tip_outside next includes low

    -- by where it lies
    applied_at : judged_block c block st ≡ Applied → ComesOver Stop To (b.applies c block st) devices
    applied_at accepted = either (window_or_next c block st accepted)
      where
        either : (b.is_in_window c block st ≡ true) ⊎ (awaited_height st ≡ block.height) → ComesOver Stop To (b.applies c block st) devices
        either (inl e) = applied accepted (window_here e) (window_outside e) st.participation.stage refl
        either (inr next) = applied accepted (tip_here next) (tip_outside next) st.participation.stage refl

    delivered : ComesOver Stop To (b.delivers c block st) devices
    delivered = judged_comes c block st devices Stop To refused (λ is. passed is devices) applied_at not_ended

-- A STEP

module _ {Dir : Type 0} (c : Fixed Dir) (form : IsForm c) (st : Live Dir) (live : IsLiveIn c st) (message : Message Dir) (devices : Option Held) where
  abbrev pub StepStop : Fault → Type 0
  StepStop fault = (h k : Held) × FindsHeld devices h × FindsHeld (option_map (held_at_setup c message) devices) k × IsStepStop c st message h k fault

  abbrev pub StepTo : Live Dir → Option Held → Type 0
  StepTo end left =
      (h k : Held) × FindsHeld devices h × FindsHeld (option_map (held_at_setup c message) devices) k × IsNextIn c st message h k end × IfLeft left (LeavesTaken c st message k)

module _ {Dir : Type 0} (c : Fixed Dir) (form : IsForm c) (st : Live Dir) (live : IsLiveIn c st) (devices : Option Held) where
  steps_over : (message : Message Dir) → IsTakenIn c message st → ComesOver (StepStop c form st live message devices) (StepTo c form st live message devices) (step c message st) devices
  steps_over (Mailed (Peer from bytes)) taken =
      let message : Message Dir = Mailed (Peer from bytes) in
      let first = some_found devices in
      let second = some_found (option_map (held_at_setup c message) devices) in
      over_as (peer.Never c st from bytes) (StepStop c form st live message devices) (λ end left. peer.Heard c st from bytes end) (StepTo c form st live message devices) (step c message st) devices
      (λ fault never. absurd never) (λ end left its. (first.0, second.0, first.1, second.1, record { live = peer.heard_live c st from end live its; is = its }, nothing left second.0))
      (anywhere_over (peer.Never c st from bytes) (peer.Heard c st from bytes) (step c message st) devices (peer.peers_come c st from bytes))
    where
      nothing : (left : Option Held) (k : Held) → IfLeft left (LeavesTaken c st (Mailed (Peer from bytes)) k)
      nothing None k = tt
      nothing (Some now) k = tt
  steps_over (Finalized block) taken =
      over_as (Stop c form st live devices block taken) (StepStop c form st live (Finalized block) devices) (To c form st live devices block taken) (StepTo c form st live (Finalized block) devices)
      (step c (Finalized block) st) devices (λ fault stop. stop)
      (λ end left its. (its.0, its.1, its.2, its.3, its.4, its.5)) (delivered c form st live devices block taken)
  steps_over (Mailed (NextLog request height)) taken = absurd taken
  steps_over (Mailed (ReleaseLog height)) taken = absurd taken
  steps_over (Mailed (EpochInfoOf request)) taken = absurd taken
  steps_over (Mailed (Feed request block)) taken = absurd taken
  steps_over (Mailed (Over request)) taken = absurd taken
  steps_over (Mailed (Cancel request)) taken = absurd taken
  steps_over (Mailed (Work handed)) taken = absurd taken

pub came_as : {F S : Type 0} (stops others : F → Type 0) (goes ends : S → Type 0) (ended : Ended F S) → ((fault : F) → stops fault → others fault) → ((end : S) → goes end → ends end)
    → CameTo stops goes ended → CameTo others ends ended
came_as stops others goes ends (went end) more most came = most end came
came_as stops others goes ends (stopped fault) more most came = more fault came
came_as stops others goes ends (broken cause) more most came = tt

pub steps_lead : {Dir : Type 0} → StepsLead Dir
steps_lead c st message ended old new form taken live said =
    came_as (StepStop c form st live message None) (λ fault. (h k : Held) × IsStepStop c st message h k fault) (λ end. StepTo c form st live message None end None) (λ end. (h k : Held) × IsNextIn c st message h k end)
    ended (λ fault stop. (stop.0, stop.1, stop.4)) (λ end its. (its.0, its.1, its.4))
    (came_to (StepStop c form st live message None) (λ end. StepTo c form st live message None end None) (step c message st) ended old new
    (comes_anywhere (StepStop c form st live message None) (StepTo c form st live message None) (step c message st) (steps_over c form st live None message taken)) said)

-- over devices that hold h, and then k
module _ {Dir : Type 0} (c : Fixed Dir) (form : IsForm c) (st : Live Dir) (live : IsLiveIn c st) (message : Message Dir) (held : Held) where
  abbrev setup_held : Held
  setup_held = held_at_setup c message held

  found_stop : (fault : Fault) → StepStop c form st live message (Some held) fault → IsStepStop c st message held setup_held fault
  found_stop fault stop =
      subst (λ (h : Held). IsStepStop c st message h setup_held fault) stop.2 (subst (λ (k : Held). IsStepStop c st message stop.0 k fault) stop.3 stop.4)

  found_end : (end : Live Dir) (now : Held) → StepTo c form st live message (Some held) end (Some now) → IsNextIn c st message held setup_held end × LeavesTaken c st message setup_held now
  found_end end now its = (
    subst (λ (h : Held). IsNextIn c st message h setup_held end) its.2 (subst (λ (k : Held). IsNextIn c st message its.0 k end) its.3 its.4),
    subst (λ (k : Held). LeavesTaken c st message k now) its.3 its.5,
  )

pub steps_lead_over : {Dir : Type 0} → StepsLeadOver Dir
steps_lead_over c st message ended w new form taken live run =
    let setup = held_at_setup c message w.held in
    came_as (StepStop c form st live message (Some w.held)) (IsStepStop c st message w.held setup) (λ end. StepTo c form st live message (Some w.held) end (Some new.held))
    (λ end. IsNextIn c st message w.held setup end × LeavesTaken c st message setup new.held) ended (found_stop c form st live message w.held) (λ end its. found_end c form st live message w.held end new.held its)
    (came_over (StepStop c form st live message (Some w.held)) (StepTo c form st live message (Some w.held)) (step c message st) ended w new (steps_over c form st live (Some w.held) message taken) run)

-- THE ORCHESTRATOR'S HALF

not_above : (k l : ℕ) → k < l → nat_lt l k ≡ true → ⊥
not_above k l low e = grind (arith, nat_tests, low)

not_beside : (k l : ℕ) → k < l → nat_lt k l ≡ false → ⊥
not_beside k l low e = grind (arith, nat_tests, low)

none_apart : {A : Type 0} (a : A) → ◌≡◌ {A = Option A} None (Some a) → ⊥
none_apart a e = cc

abbrev Never : NodeStop → Type 0
Never stop = ⊥

module _ {Dir : Type 0} (c : Fixed Dir) (st : Live Dir) (block : Block Dir) where
  abbrev Answered : Option ℕ → LifeAndAnswer Dir → Type 0
  Answered found left = (left.live ≡ st) × (left.answer ≡ answer_in found)

  by_epoch : (found : Option ℕ) → ((epoch : ℕ) → found ≡ Some epoch → block.height < last c.blocks_per_epoch epoch) → ComesTo Never (Answered found) (half.delivered_in c block st found)
  by_epoch None low = (refl, refl)
  by_epoch (Some epoch) low =
      comes_if Never (Answered (Some epoch)) (nat_lt (last c.blocks_per_epoch epoch) block.height) (Stops (Faulted (SkippedHeight (last c.blocks_per_epoch epoch) block.height)))
      (if nat_lt block.height (last c.blocks_per_epoch epoch) then half.leaves st.orchestrator half.AcknowledgesBlock st else half.enters_at c block (epoch + 1) (Some block.height) st)
      (λ e. not_above block.height (last c.blocks_per_epoch epoch) (low epoch refl) e)
      (λ e. comes_if Never (Answered (Some epoch)) (nat_lt block.height (last c.blocks_per_epoch epoch)) (half.leaves st.orchestrator half.AcknowledgesBlock st) (half.enters_at c block (epoch + 1) (Some block.height) st)
      (λ e. (refl, refl)) (λ e. absurd (not_beside block.height (last c.blocks_per_epoch epoch) (low epoch refl) e)))

  by_half : (found : Option (Waiting Dir)) → found ≡ None → ((epoch : ℕ) → half.active st.orchestrator ≡ Some epoch → block.height < last c.blocks_per_epoch epoch)
      → ComesTo Never (Answered (half.active st.orchestrator)) (bind (option_map_or (λ w. bind (half.enters c w st) (half.acked_late w.block)) found (Goes st)) (λ st. half.delivered_in c block st (half.active st.orchestrator)))
  by_half None none low = by_epoch (half.active st.orchestrator) low
  by_half (Some w) none low = absurd (none_apart w (sym none))

pub halves_go_on : {Dir : Type 0} → HalvesGoOn Dir
halves_go_on c st block low none = by_half c st block st.orchestrator.waiting none low

-- A NODE'S STEP

-- a course that touches no device leaves them
pub still_over : {Dir F S : Type 0} (P : Entry → Type 0) (Q : S → Type 0) (stops : F → Type 0) (goes : S → Type 0) (course : Course Dir F S) (devices : Option Held)
    → OnlySays P Q course → ComesTo stops goes course → ComesOver stops (λ end left. goes end × (left ≡ devices)) course devices
still_over P Q stops goes (Say line course) devices only comes = still_over P Q stops goes course devices only.1 comes
still_over P Q stops goes (Do op course) devices only comes = absurd only
still_over P Q stops goes (CallOutside outer course) devices only comes = still_over P Q stops goes course devices only comes
still_over P Q stops goes (Ask f) (Some h) only comes = still_over P Q stops goes (f h) (Some h) (only h) (comes h)
still_over P Q stops goes (Ask f) None only comes = λ h. still_over P Q stops goes (f h) None (only h) (comes h)
still_over P Q stops goes (Goes end) devices only comes = (comes, refl)
still_over P Q stops goes (Stops fault) devices only comes = comes

-- which epoch is active, by what the orchestrator entered
pub active_of : {Dir : Type 0} (o : Orchestrator Dir) (epoch : ℕ) → half.active o ≡ Some epoch → (o.halted ≡ false) × (o.entered ≡ Some epoch)
active_of o epoch is = either o.halted (is_some o.waiting) refl is
  where
    either : (halted waits : Bool) → o.halted ≡ halted → (if halted || waits then None else o.entered) ≡ Some epoch → (o.halted ≡ false) × (o.entered ≡ Some epoch)
    either true waits e its = absurd (none_apart epoch its)
    either false true e its = absurd (none_apart epoch its)
    either false false e its = (e, its)

some_is : {A : Type 0} (a other : A) → ◌≡◌ {A = Option A} (Some a) (Some other) → a ≡ other
some_is a other e = cc

module _ {Dir : Type 0} (c : Fixed Dir) (form : IsForm c) (st : Live Dir) (live : IsLiveIn c st) (active : IsActiveIn st) where
  -- the orchestrator's half is active where the life takes part, in the awaited epoch
  entered : (epoch : ℕ) → half.active st.orchestrator ≡ Some epoch → (st.participation.epoch ≡ epoch) × (st.participation.stage ≡ Follows → ⊥)
  entered epoch is = either active.entered
    where
      its : (st.orchestrator.halted ≡ false) × (st.orchestrator.entered ≡ Some epoch)
      its = active_of st.orchestrator epoch is

      either : (st.orchestrator.halted ≡ true) ⊎ ((st.orchestrator.entered ≡ Some st.participation.epoch) × (st.participation.stage ≡ Follows → ⊥)) → (st.participation.epoch ≡ epoch) × (st.participation.stage ≡ Follows → ⊥)
      either (inl halted) = absurd (bool_apart st.orchestrator.halted halted its.0)
      either (inr at) = (some_is st.participation.epoch epoch (sym at.0 ∙ its.1), at.1)

  -- P of what is active behind a step
  abbrev pub IsBelow : Block Dir → Live Dir → Type 0
  IsBelow block end = (epoch : ℕ) → half.active end.orchestrator ≡ Some epoch → block.height < last c.blocks_per_epoch epoch

  still_active : (end : Live Dir) → end.orchestrator ≡ st.orchestrator → end.participation.epoch ≡ st.participation.epoch → ((st.participation.stage ≡ Follows → ⊥) → end.participation.stage ≡ Follows → ⊥) → IsActiveIn end
  still_active end same epoch apart = record { unawaited = ap (λ (o : Orchestrator Dir). o.waiting) same ∙ active.unawaited; entered = either active.entered }
    where
      either : (st.orchestrator.halted ≡ true) ⊎ ((st.orchestrator.entered ≡ Some st.participation.epoch) × (st.participation.stage ≡ Follows → ⊥))
          → (end.orchestrator.halted ≡ true) ⊎ ((end.orchestrator.entered ≡ Some end.participation.epoch) × (end.participation.stage ≡ Follows → ⊥))
      either (inl halted) = inl (ap (λ (o : Orchestrator Dir). o.halted) same ∙ halted)
      either (inr at) = inr (ap (λ (o : Orchestrator Dir). o.entered) same ∙ at.0 ∙ ap (λ (e : ℕ). Some e) (sym epoch), apart at.1)

  -- one that halted stays so, whatever it knows
  halted_active : (end : Live Dir) → end.orchestrator.halted ≡ true → end.orchestrator.waiting ≡ None → (block : Block Dir) → IsActiveIn end × IsBelow block end
  halted_active end halted none block =
      (record { unawaited = none; entered = inl halted }, λ epoch is. absurd (bool_apart end.orchestrator.halted halted (active_of end.orchestrator epoch is).0))

  -- a life that follows has halted
  halts : st.participation.stage ≡ Follows → st.orchestrator.halted ≡ true
  halts follows = either active.entered
    where
      either : (st.orchestrator.halted ≡ true) ⊎ ((st.orchestrator.entered ≡ Some st.participation.epoch) × (st.participation.stage ≡ Follows → ⊥)) → st.orchestrator.halted ≡ true
      either (inl halted) = halted
      either (inr at) = absurd (at.1 follows)

  -- PEERS

  heard_active : (from : ℕ) (end : Live Dir) → IsHeardBy c st from end → IsActiveIn end
  heard_active from end (inl same) = subst IsActiveIn (sym same) active
  heard_active from end (inr (inl dealing)) =
      subst IsActiveIn (sym dealing.is) (still_active (d.with_dealing_of dealing.round.number from dealing.public dealing.private st) refl refl (λ apart. apart))
  heard_active from end (inr (inr heard)) =
      let now : Live Dir = with_taken heard.round.number heard.dealer from heard.ack st in
      let frame = taken_same c st heard.round.number heard.dealer from heard.ack st.records refl in
      subst IsActiveIn (sym heard.is) (still_active now frame.same.orchestrator frame.same.epoch (λ apart follows. apart (sym frame.stage ∙ follows)))

  -- BLOCKS

  module _ (block : Block Dir) (taken : IsTakenIn c (Finalized block) st) where
    -- nothing happens to a block at or below the tip alone
    low_of : (conflicts skips detached low : Bool) (one two three : Fault)
        → (if conflicts then Refusal one else if skips then Refusal two else if detached then Refusal three else if low then Passed else Applied) ≡ Passed → low ≡ true
    low_of true skips detached low one two three e = absurd (let no : ◌≡◌ {A = Judged} (Refusal one) Passed = e in cc)
    low_of false true detached low one two three e = absurd (let no : ◌≡◌ {A = Judged} (Refusal two) Passed = e in cc)
    low_of false false true low one two three e = absurd (let no : ◌≡◌ {A = Judged} (Refusal three) Passed = e in cc)
    low_of false false false true one two three e = refl
    low_of false false false false one two three e = absurd (let no : ◌≡◌ {A = Judged} Applied Passed = e in cc)

    at_most : (a b : ℕ) → nat_le a b ≡ true → a ≤ b
    at_most a b e = grind (arith, nat_tests)

    passed_over : (tip : Option Tip) → st.tip ≡ tip → judged_over_tip c block st tip ≡ Passed → IsBelow block st
    passed_over None is e = absurd (either (b.is_in_window c block st) e)
      where
        either : (t : Bool) → (if t then Applied else Refusal (OutOfWindow block.height)) ≡ Passed → ⊥
        either true e = let no : ◌≡◌ {A = Judged} Applied Passed = e in cc
        either false e = let no : ◌≡◌ {A = Judged} (Refusal (OutOfWindow block.height)) Passed = e in cc
    passed_over (Some t) is e = λ epoch act.
        let low = low_of ((block.height == t.height) && not (bytes_eq block.digest t.digest)) (nat_lt (t.height + 1) block.height) ((block.height == t.height + 1) && not (bytes_eq block.parent t.digest))
        (nat_le block.height t.height) (ConflictingBlock block.height) (SkippedHeight (t.height + 1) block.height) (DetachedBlock block.height) e in
        let at = entered epoch act in
        let next : epoch_of c.blocks_per_epoch (t.height + 1) ≡ epoch =
        sym (live.awaits at.1 ∙ ap (λ (o : Option Tip). epoch_of c.blocks_per_epoch (option_map_or (λ t. t.height + 1) o 0)) is) ∙ at.0 in
        below_tip c.blocks_per_epoch epoch t.height block.height form.counted next (at_most block.height t.height low)

    pub passed_below : (past : Bool) → (if past then Refusal HeightRange else judged_over_tip c block st st.tip) ≡ Passed → IsBelow block st
    passed_below true e = absurd (let no : ◌≡◌ {A = Judged} (Refusal HeightRange) Passed = e in cc)
    passed_below false e = passed_over st.tip refl e

    -- while dealing
    module _ (deals : st.participation.stage ≡ Deals) (low : block.height < midpoint c.blocks_per_epoch (epoch_of c.blocks_per_epoch block.height)) where
      mid : Live Dir
      mid = given_itself c st

      record Framed (end : Live Dir) : Type 0 where
        orchestrator : end.orchestrator ≡ st.orchestrator
        epoch : end.participation.epoch ≡ st.participation.epoch
        apart : end.participation.stage ≡ Follows → ⊥
        height : awaited_height end ≡ block.height + 1

      framed : Framed (dealt_behind c block (given_itself c st))
      framed = either (block.height + 1 == midpoint c.blocks_per_epoch (given_itself c st).participation.epoch)
        where
          same : IsSameBut c st (given_itself c st)
          same = given_same c st

          either : (t : Bool) → Framed (if t then s.begins_inclusion c (with_tip block (given_itself c st)) else with_tip block (given_itself c st))
          either true = record { orchestrator = same.same.orchestrator; epoch = same.same.epoch; apart = λ e. includes_apart e; height = refl }
          either false = record { orchestrator = same.same.orchestrator; epoch = same.same.epoch; apart = λ e. deals_apart (sym (same.stage ∙ deals) ∙ e); height = refl }

      dealt_active : (end : Live Dir) → IsLiveIn c end → Framed end → IsActiveIn end × IsBelow block end
      dealt_active end alive its = (still_active end its.orchestrator its.epoch (λ apart follows. its.apart follows), under)
        where
          here : end.participation.epoch ≡ epoch_of c.blocks_per_epoch block.height
          here = alive.awaits its.apart ∙ ap (epoch_of c.blocks_per_epoch) its.height ∙ next_below c.blocks_per_epoch (epoch_of c.blocks_per_epoch block.height) block.height form.counted refl low

          under : IsBelow block end
          under epoch act =
              let at = entered epoch (ap half.active (sym its.orchestrator) ∙ act) in
              subst (λ (e : ℕ). block.height < last c.blocks_per_epoch e) (sym here ∙ its.epoch ∙ at.0) (below_middle c.blocks_per_epoch (epoch_of c.blocks_per_epoch block.height) block.height form.counted low)

    -- while following
    followed_active : (follows : st.participation.stage ≡ Follows) (h k : Held) (t : Bool) (end : Live Dir) → IsFollowedEnd c block st h k t end → IsActiveIn end × IsBelow block end
    followed_active follows h k true end its =
        halted_active end (ap (λ (o : Orchestrator Dir). o.halted) its.seated.orchestrator ∙ halts follows) (ap (λ (o : Orchestrator Dir). o.waiting) its.seated.orchestrator ∙ active.unawaited) block
    followed_active follows h k false end its =
        halted_active end (ap (λ (x : Live Dir). x.orchestrator.halted) its ∙ halts follows) (ap (λ (x : Live Dir). x.orchestrator.waiting) its ∙ active.unawaited) block

    low_where : (st.participation.stage ≡ Follows) ⊎ (block.height < midpoint c.blocks_per_epoch (epoch_of c.blocks_per_epoch block.height)) → st.participation.stage ≡ Deals
        → block.height < midpoint c.blocks_per_epoch (epoch_of c.blocks_per_epoch block.height)
    low_where (inl follows) deals = absurd (deals_apart (sym deals ∙ follows))
    low_where (inr low) deals = low

    applied_active : (accepted : judged_block c block st ≡ Applied) (stage : Stage) → st.participation.stage ≡ stage → (h k : Held) (end : Live Dir) → IsLiveIn c end → IsAppliedEnd c block st h k stage end
        → IsActiveIn end × IsBelow block end
    applied_active accepted Deals is h k end alive at =
        let low = low_where (taken accepted) is in dealt_active is low end alive (subst (Framed is low) (sym at.0) (framed is low))
    applied_active accepted Includes is h k end alive at = absurd at
    applied_active accepted Follows is h k end alive at = followed_active is h k (is_last_height c block.height) end at
    applied_active accepted Ends is h k end alive at = absurd at

    judged_active : (j : Judged) → judged_block c block st ≡ j → (h k : Held) (end : Live Dir) → IsLiveIn c end → IsBlockEnd c block st h k j end → IsActiveIn end × IsBelow block end
    judged_active (Refusal fault) is h k end alive at = absurd at
    judged_active Passed is h k end alive at =
        subst (λ (x : Live Dir). IsActiveIn x × IsBelow block x) (sym at) (active, passed_below (s.is_past_range c block.height) is)
    judged_active Applied is h k end alive at = applied_active is st.participation.stage refl h k end alive at

    block_active : (h k : Held) (end : Live Dir) → IsNextIn c st (Finalized block) h k end → IsActiveIn end × IsBelow block end
    block_active h k end next = judged_active (judged_block c block st) refl h k end next.live next.is

  -- THE WHOLE STEP

  comes_unless : (goes : Live Dir → Type 0) (course once : Course Dir NodeStop (Live Dir)) → ComesTo Never goes course → ComesTo Never goes once → ComesTo Never goes (unless_once c course once)
  comes_unless goes course once comes other = either (is_some c.oneshot)
    where
      either : (t : Bool) → ComesTo Never goes (if t then once else course)
      either true = other
      either false = comes

  asked : (end : Live Dir) → end.orchestrator.waiting ≡ None → ComesTo Never (λ now. now ≡ end) (unless_once c (half.asks_again c end) (Goes end))
  asked end none =
      comes_unless (λ now. now ≡ end) (half.asks_again c end) (Goes end)
      (subst (λ (o : Option (Waiting Dir)). ComesTo Never (λ now. now ≡ end) (option_map_or (λ w. bind (half.enters c w end) (half.acked_late w.block)) o (Goes end))) (sym none) refl) refl

  acked : (height : ℕ) (answer : HalfAnswer) (end : Live Dir) → ComesTo Never (λ now. now ≡ end) (half.acked_at height answer end)
  acked height half.AcknowledgesBlock end = refl
  acked height half.Withholds end = refl

  answered : (block : Block Dir) (end : Live Dir) → IsBelow block end → end.orchestrator.waiting ≡ None
      → ComesTo Never (λ now. now ≡ end) (unless_once c (bind (half.takes_delivered c block end) (λ left. half.acked_at block.height left.answer left.live)) (Say (Acked block.height) (Goes end)))
  answered block end low none =
      comes_unless (λ now. now ≡ end) (bind (half.takes_delivered c block end) (λ left. half.acked_at block.height left.answer left.live)) (Say (Acked block.height) (Goes end))
      (comes_behind Never (λ left. (left.live ≡ end) × (left.answer ≡ answer_in (half.active end.orchestrator))) (λ now. now ≡ end) (half.takes_delivered c block end) (λ left. half.acked_at block.height left.answer left.live)
      (halves_go_on c end block low none) (λ left is. subst (λ (x : Live Dir). ComesTo Never (λ now. now ≡ x) (half.acked_at block.height left.answer left.live)) is.0 (acked block.height left.answer left.live))) refl

  module _ (message : Message Dir) (devices : Option Held) where
    abbrev pub NodeTo : Live Dir → Option Held → Type 0
    NodeTo end left = StepTo c form st live message devices end left × IsActiveIn end

    abbrev pub NodeStops : NodeStop → Type 0
    NodeStops = IsFaultBy (StepStop c form st live message devices)

    -- behind the reshare half nothing changes
    behind : (end : Live Dir) (left : Option Held) (course : Course Dir NodeStop (Live Dir)) → NodeTo end left → OnlySays IsAside (IsSameBeside end) course → ComesTo Never (λ now. now ≡ end) course
        → ComesOver NodeStops NodeTo course left
    behind end left course its only comes =
        over_as Never NodeStops (λ now last. (now ≡ end) × (last ≡ left)) NodeTo course left (λ stop never. absurd never)
        (λ now last is. subst (λ (x : Live Dir). NodeTo x last) (sym is.0) (subst (NodeTo end) (sym is.1) its)) (still_over IsAside (IsSameBeside end) Never (λ now. now ≡ end) course left only comes)

  node_over : (message : Message Dir) (devices : Option Held) → IsTakenIn c message st → ComesOver (NodeStops message devices) (NodeTo message devices) (node_step c (event_of message) st) devices
  node_over (Mailed (Peer from bytes)) devices taken =
      let message : Message Dir = Mailed (Peer from bytes) in
      let first = StepTo c form st live message devices in
      over_behind (NodeStops message devices) first (NodeTo message devices) (under Faulted (step c message st)) (λ end. unless_once c (half.asks_again c end) (Goes end)) devices
      (over_under Faulted (StepStop c form st live message devices) first (step c message st) devices (steps_over c form st live devices message taken))
      (λ end left its. let act = heard_active from end its.4.is in
      behind message devices end left (unless_once c (half.asks_again c end) (Goes end)) (its, act) (heard_aside c end) (asked end act.unawaited))
  node_over (Finalized block) devices taken =
      let message : Message Dir = Finalized block in
      let first = StepTo c form st live message devices in
      let next : Live Dir → Course Dir NodeStop (Live Dir) = λ end. unless_once c (bind (half.takes_delivered c block end) (λ left. half.acked_at block.height left.answer left.live)) (Say (Acked block.height) (Goes end)) in
      over_behind (NodeStops message devices) first (NodeTo message devices) (under Faulted (step c message st)) next devices
      (over_under Faulted (StepStop c form st live message devices) first (step c message st) devices (steps_over c form st live devices message taken))
      (λ end left its. let act = block_active block taken its.0 its.1 end its.4 in
      behind message devices end left (next end) (its, act.0) (block_aside c block end) (answered block end act.1 act.0.unawaited))
  node_over (Mailed (NextLog request height)) devices taken = absurd taken
  node_over (Mailed (ReleaseLog height)) devices taken = absurd taken
  node_over (Mailed (EpochInfoOf request)) devices taken = absurd taken
  node_over (Mailed (Feed request block)) devices taken = absurd taken
  node_over (Mailed (Over request)) devices taken = absurd taken
  node_over (Mailed (Cancel request)) devices taken = absurd taken
  node_over (Mailed (Work handed)) devices taken = absurd taken

pub node_steps_lead : {Dir : Type 0} → NodeStepsLead Dir
node_steps_lead c st message ended old new form taken live active said =
    let stops = NodeStops c form st live active message None in
    let goes = NodeTo c form st live active message None in
    came_as stops (IsFaultBy (λ fault. (h k : Held) × IsStepStop c st message h k fault)) (λ end. goes end None) (λ end. (h k : Held) × IsNextIn c st message h k end × IsActiveIn end)
    ended (λ stop its. (its.0, its.1, (its.2.0, its.2.1, its.2.4))) (λ end its. (its.0.0, its.0.1, its.0.4, its.1))
    (came_to stops (λ end. goes end None) (node_step c (event_of message) st) ended old new (comes_anywhere stops goes (node_step c (event_of message) st) (node_over c form st live active message None taken)) said)

pub node_steps_lead_over : {Dir : Type 0} → NodeStepsLeadOver Dir
node_steps_lead_over c st message ended w new form taken live active run =
    let setup = held_at_setup c message w.held in
    let stops = NodeStops c form st live active message (Some w.held) in
    let goes = NodeTo c form st live active message (Some w.held) in
    came_as stops (IsFaultBy (IsStepStop c st message w.held setup)) (λ end. goes end (Some new.held)) (λ end. IsNextIn c st message w.held setup end × IsActiveIn end × LeavesTaken c st message setup new.held)
    ended (λ stop its. (its.0, its.1, found_stop c form st live message w.held its.0 its.2))
    (λ end its. let at = found_end c form st live message w.held end new.held its.0 in (at.0, its.1, at.1))
    (came_over stops goes (node_step c (event_of message) st) ended w new (node_over c form st live active message (Some w.held) taken) run)

-- WHAT GOES ON

module _ {Dir : Type 0} (c : Fixed Dir) (st : Live Dir) where
  nothing_changed : IsSameLife st st
  nothing_changed = record { epoch = refl; round = refl; seat = refl; current = refl; logs = refl; orchestrator = refl; probe = refl }

  heard_stays : (from : ℕ) (end : Live Dir) → IsHeardBy c st from end → IsSameLife st end
  heard_stays from end (inl same) = subst (IsSameLife st) (sym same) nothing_changed
  heard_stays from end (inr (inl dealing)) = subst (IsSameLife st) (sym dealing.is) (record { epoch = refl; round = refl; seat = refl; current = refl; logs = refl; orchestrator = refl; probe = refl })
  heard_stays from end (inr (inr heard)) = subst (IsSameLife st) (sym heard.is) (taken_same c st heard.round.number heard.dealer from heard.ack st.records refl).same

  module _ (block : Block Dir) where
    dealt_stays : (mid : Live Dir) → IsSameLife st mid → IsSameLife st (dealt_behind c block mid)
    dealt_stays mid same = either (block.height + 1 == midpoint c.blocks_per_epoch mid.participation.epoch)
      where
        either : (t : Bool) → IsSameLife st (if t then s.begins_inclusion c (with_tip block mid) else with_tip block mid)
        either true = record { epoch = same.epoch; round = same.round; seat = same.seat; current = same.current; logs = same.logs; orchestrator = same.orchestrator; probe = same.probe }
        either false = record { epoch = same.epoch; round = same.round; seat = same.seat; current = same.current; logs = same.logs; orchestrator = same.orchestrator; probe = same.probe }

    followed_stays : (h k : Held) (t : Bool) (end : Live Dir) → (t ≡ true → ⊥) → IsFollowedEnd c block st h k t end → IsSameLife st end
    followed_stays h k true end none its = absurd (none refl)
    followed_stays h k false end none its = subst (IsSameLife st) (sym its) (record { epoch = refl; round = refl; seat = refl; current = refl; logs = refl; orchestrator = refl; probe = refl })

    applied_stays : (stage : Stage) (h k : Held) (end : Live Dir) → (stage ≡ Follows → is_last_height c block.height ≡ true → ⊥) → IsAppliedEnd c block st h k stage end → IsSameLife st end
    applied_stays Deals h k end none at = subst (IsSameLife st) (sym at.0) (dealt_stays (given_itself c st) (given_same c st).same)
    applied_stays Includes h k end none at = absurd at
    applied_stays Follows h k end none at = followed_stays h k (is_last_height c block.height) end (none refl) at
    applied_stays Ends h k end none at = absurd at

    judged_stays : (j : Judged) (h k : Held) (end : Live Dir) → (j ≡ Applied → st.participation.stage ≡ Follows → is_last_height c block.height ≡ true → ⊥) → IsBlockEnd c block st h k j end → IsSameLife st end
    judged_stays (Refusal fault) h k end none at = absurd at
    judged_stays Passed h k end none at = subst (IsSameLife st) (sym at) nothing_changed
    judged_stays Applied h k end none at = applied_stays st.participation.stage h k end (none refl) at

pub next_lives_stay : {Dir : Type 0} → NextLivesStay Dir
next_lives_stay c st (Finalized block) h k end none next = judged_stays c st block (judged_block c block st) h k end none next.is
next_lives_stay c st (Mailed (Peer from bytes)) h k end none next = heard_stays c st from end next.is
next_lives_stay c st (Mailed (NextLog request height)) h k end none next = absurd next.is
next_lives_stay c st (Mailed (ReleaseLog height)) h k end none next = absurd next.is
next_lives_stay c st (Mailed (EpochInfoOf request)) h k end none next = absurd next.is
next_lives_stay c st (Mailed (Feed request block)) h k end none next = absurd next.is
next_lives_stay c st (Mailed (Over request)) h k end none next = absurd next.is
next_lives_stay c st (Mailed (Cancel request)) h k end none next = absurd next.is
next_lives_stay c st (Mailed (Work handed)) h k end none next = absurd next.is
