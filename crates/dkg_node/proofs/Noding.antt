-- What a call of the actor and the orchestrator's half behind it make of a node.
use Rattle.std.proofs.Common.{◌≡◌, ℕ, Bool, true, false, nat_le, List, [], Option, Some, None, Result, Ok, Err, append-nil, refl, sym, ◌∙◌, ap, subst, add-one, arith}
use Rattle.std.specs.Prelude.{◌+◌, ◌-◌, ◌*◌, ◌<◌, ◌≤◌, ◌^◌, ⊤, IfErr, IsSome, IsSomeAnd, OnOk, is_some, option_map, slice_get, if◌then◌else◌}
use Rattle.std.specs.Option.{option_map_or}
use Rattle.std.specs.Int.NonZero.{non_zero_u32_get, non_zero_u64_get}
use Rattle.std.specs.declared.num.NonZeroU64.{NonZeroU64}
use Rattle.std.proofs.Math.Nat.{suc-mul}
use Rattle.std.proofs.lemmas.Bool.Decides.{nat_tests}
use Rattle.dkg_values.specs.Rising.{lookup}
use Rattle.dkg_ceremony.specs.Acks as acks
use Rattle.dkg_ceremony.specs.Dealings as dealings
use Rattle.dkg_ceremony.specs.Deals as deals
use Rattle.dkg_ceremony.specs.Finishes as finishes
use Rattle.dkg_ceremony.specs.Outcomes as outcomes
use Rattle.dkg_ceremony.specs.PartialPublics as publics
use Rattle.dkg_ceremony.specs.Rounds as rounds
use Rattle.dkg_ceremony.specs.Schedule.{epoch_of, last}
use Rattle.dkg_ceremony.specs.ValidLogs as logs
use Rattle.dkg_ceremony.specs.declared.mode.ModeVersion.{ModeVersion}
use Rattle.dkg_ceremony.specs.declared.mode.Reveal.TheVariants.{V1}
use Rattle.dkg_ceremony.specs.declared.stand.StandCeremony as stand
use Rattle.dkg_fence.specs.Readiness.{Readiness}
use Rattle.dkg_journal.specs.Burn.{Burn}
use Rattle.dkg_journal.specs.Names.{Files}
use Rattle.dkg_infos.specs.declared.directory.Unit as directory
use Rattle.dkg_types.specs.Blocks.{Block}
use Rattle.dkg_infos.specs.Units.{unit_spelling}
use Rattle.dkg_infos.specs.declared.entry.Entry.{Entry}
use Rattle.dkg_infos.specs.declared.entry.Entry.TheVariants.{Acked}
use Rattle.dkg_infos.specs.declared.fault.Fault.{Fault}
use Rattle.dkg_infos.specs.declared.fault.Fault.TheVariants as fault
use Rattle.dkg_infos.specs.declared.fault.Fault.TheVariants.{NoMemory}
use Rattle.dkg_types.specs.declared.scheme.SchemeInfo.{SchemeInfo}
use Rattle.dkg_store.specs.Acts.{Acts, Cause, Ended, IfWent, Moment, Runs, Stands, at, broken, held_in, moment, stopped, went}
use Rattle.dkg_store.specs.declared.devices.Devices.{Devices}
use Rattle.dkg_secrets.specs.Secrets.{Secrets}
use Rattle.dkg_text.specs.declared.script.Event.{Event}
use Rattle.dkg_text.specs.declared.script.Event.TheVariants as event
use Rattle.dkg_text.specs.declared.script.PlayerLine.{PlayerLine}
use Rattle.dkg_text.specs.declared.script.ScriptConfig.{ScriptConfig}
use Rattle.dkg_script.specs.Players.{players_at}
use Rattle.dkg_core.specs.Behind.{event_of}
use Rattle.dkg_core.specs.Core.{no_inclusion, no_orchestrator, no_probe, step}
use Rattle.dkg_core.specs.Courses.{Course, Goes, Say, bind, on_devices}
use Rattle.dkg_core.specs.Entering.{acked_at, acked_late, asks_again, takes_delivered, enters, is_ready}
use Rattle.dkg_core.specs.Fixed.{Fixed, OneShot}
use Rattle.dkg_core.specs.Live.{Inclusion, Live, Mail, Message, NodeStop, Orchestrator, Waiting, Peer, NextLog, ReleaseLog, EpochInfoOf, Feed, Over, Cancel, Work, Reshare, Mailed, Delivers, Finalized}
use Rattle.dkg_core.specs.Node.{node_step, unless_once}
use Rattle.dkg_core.specs.Said.{Said}
use Rattle.dkg_core.specs.Setup.{is_past_range}
use Rattle.dkg_core.specs.Through.{IsNextThrough, IsStopThrough}
use Rattle.dkg_core.proofs.Heights.{epoch_is}
use Rattle.dkg_core.proofs.Setups.{comes_anywhere}
use Rattle.dkg_core.proofs.Splitting.{came_to}
use Rattle.dkg_core.proofs.StepThrough.{steps_come_through}
use Rattle.dkg_life.specs.Ready.{IsReadyLife}
use Rattle.dkg_reshare.specs.Actors.{AreTerms, BringsWithin, EndsAt, FailsStop, HasFailed, IfIncluding, IfLiving, IsLiving, lives, message_of}
use Rattle.dkg_blocks.specs.CarriedLogs.{CarriesWithin}
use Rattle.dkg_life.specs.Ends.{IsCaused, IsCausedBy, IsCausedInStep}
use Rattle.dkg_life.specs.Given.{IsIn, IsOf, ReadsPlanless}
use Rattle.dkg_verifying.specs.InclusionOf.{IsSeen, IsSettledInclusion}
use Rattle.dkg_life.specs.LiveOf.{Beside, EndsWith, live_of}
use Rattle.dkg_life.specs.Made.{Burns, MakesAt, Speaks, Tells}
use Rattle.dkg_life.specs.Rules.{IncludesBy, IsRuledBy}
use Rattle.dkg_reshare.specs.declared.actor.State.{State}
use Rattle.dkg_reshare.specs.declared.actor.State.TheVariants.{New, Living, Failed as HadFailed}
use Rattle.dkg_life.specs.declared.config.Terms.{Terms}
use Rattle.dkg_verifying.specs.declared.inclusion.Inclusion as inclusion
use Rattle.dkg_life.specs.declared.life.Life as reshare
use Rattle.dkg_reshare.specs.declared.message.Message as declared
use Rattle.dkg_reshare.specs.declared.message.Message.TheVariants as message
use Rattle.dkg_life.specs.declared.stop.Stop.{Stop}
use Rattle.dkg_life.specs.declared.stop.Stop.TheVariants.{Cut, Failed, Fault as FaultOf}
use Rattle.dkg_life.proofs.Burning.{burns_next, burns_none, makes_nothing}
use Rattle.dkg_reshare.proofs.Ending.{stands_again}
use Rattle.dkg_life.proofs.Said.{none_first, nothing_held, said_of_runs}
use Rattle.dkg_lives.specs.Ended.{by_node_stop, ends_node}
use Rattle.dkg_lives.specs.Epochs.{MayStep, any_shares}
use Rattle.dkg_lives.specs.Given.{IsUnplanned, Lived, at_step, blocks_in, step_of}
use Rattle.dkg_lives.specs.Lives.{never}
use Rattle.dkg_around.specs.Orchestrator.{HasOrchestratorHalf, IsSettled, MayGoOn, MayPass, with_orchestrator_half}
use Rattle.dkg_node.specs.Nodes.{IsEventHere, IsMail, IsOfLife, IsReadyNode, IsView, Viewed, sent_event}
use Rattle.dkg_around.specs.declared.half.Half.{Half}
use Rattle.dkg_around.specs.declared.held.HeldBlocks.{HeldBlocks}
use Rattle.dkg_node.specs.declared.node.Node.{Node}
use Rattle.dkg_lives.proofs.Former.{lacks_nobody, unplanned_at}
use Rattle.dkg_node.proofs.Naming.{node_ends, node_goes, node_says, node_says_early}
use Rattle.dkg_node.proofs.Passing.{may_pass}

-- THE STATES of an actor of a script's lives

abbrev pub NodeState : Type 0
NodeState = State stand.StandCeremony directory.Unit ℕ (Unit {0})

abbrev pub NodeInclusion : Type 0
NodeInclusion = inclusion.Inclusion stand.StandCeremony directory.Unit ℕ (Unit {0})

pub ends_living : (state : NodeState) (P : reshare.Life directory.Unit → Type 0) → EndsAt state (Ok tt) P → IsLiving state
ends_living New P ends = absurd ends
ends_living (Living life its) P ends = tt
ends_living HadFailed P ends = absurd ends

-- what is said of the life that an actor has
pub living_in : (state : NodeState) (Q : reshare.Life directory.Unit → Type 0) → IsLiving state → IfLiving state Q → (life : reshare.Life directory.Unit) × Q life
living_in New Q living q = absurd living
living_in (Living life its) Q living q = (life, q)
living_in HadFailed Q living q = absurd living

-- WHAT A STEP IS GIVEN

pub at_rules : (g : Lived) (taken : ℕ)
    → IsRuledBy rounds.round_of deals.deal_of dealings.dealing_of acks.ack_of acks.check_ack_of logs.sign_log_of logs.bears_ack_of publics.share_public_of publics.partial_public_of (at_step g taken).rules
unfolding at_step
at_rules g taken = record {
  answers = record { dealing = refl; ack = refl; check_ack = refl };
  seats = record { round = refl; dealing = refl; bears = refl };
  deals = record { deal = refl; check_ack = refl; sign_log = refl };
  shares = record { share_public = refl; partial_public = refl };
}

at_word : (g : Lived) (taken : ℕ) → (at_step g taken).word ≡ g.life.word
unfolding at_step
at_word g taken = refl

pub at_oneshot : (g : Lived) (taken : ℕ) → (at_step g taken).oneshot ≡ None
unfolding at_step
at_oneshot g taken = refl

-- .. what inclusion goes by, where the node's provider says what the script does
pub at_includes : (g : Lived) (node : Node) → IsOfLife g node → (taken : ℕ)
    → IncludesBy logs.check_log_of outcomes.outcome_of finishes.finish_of (λ epoch. players_at node.actor.provider.lines.now epoch) (λ epoch peers. record {}) unit_spelling (λ d peers. true) (at_step g taken)
unfolding at_step
at_includes g node of taken = record {
  check_log = refl;
  outcome = refl;
  finish = refl;
  participants_are = of.players;
  directory_is = λ epoch peers. refl;
  spelling_is = refl;
  matches_are = refl;
}

-- A MESSAGE: an orchestrator that waits for nothing asks for nothing behind it

pub unless_reshare : {S : Type 0} (c : Fixed directory.Unit) (course once : Course directory.Unit NodeStop S) → c.oneshot ≡ None → unless_once c course once ≡ course
unless_reshare c course once is = ap (λ (o : Option (OneShot directory.Unit)). if is_some o then once else course) is

asks_nothing : (c : Fixed directory.Unit) (st : Live directory.Unit) → st.orchestrator.waiting ≡ None → asks_again c st ≡ Goes st
asks_nothing c st is = ap (λ (o : Option (Waiting directory.Unit)). option_map_or (λ w. bind (enters c w st) (acked_late w.block)) o (Goes st)) is

pub goes_on : (c : Fixed directory.Unit) (st : Live directory.Unit) → c.oneshot ≡ None → st.orchestrator.waiting ≡ None → unless_once c (asks_again c st) (Goes st) ≡ Goes st
goes_on c st reshare unawaited = unless_reshare c (asks_again c st) (Goes st) reshare ∙ asks_nothing c st unawaited

module _ {S : Type 0} (course : Course directory.Unit NodeStop S) where
  -- what touches no device, as acts over both
  pub speaks_makes : (how : Ended NodeStop S) (files : Files) (image : Files → Type 0) {out now : List Entry} {s : Secrets} {f : Burn} → Speaks course how out now
      → MakesAt (on_devices course) how files image files image (moment out s f) (moment now s f)
  speaks_makes how files image {out} {now} {s} {f} speaks = record {
    made = record {
      made = λ stands c here. subst (λ (x : Files). Runs (on_devices course) how (at (moment out s f) files) (at (moment now s f) x)) (sym (stands.lands.only c here)) (speaks (held_in files s) f);
      stands = stood how;
    };
    burns = burns_none how f;
  }
    where
      stood : (how : Ended NodeStop S) → IfWent how (Stands files image → Stands files image)
      stood (went end) = λ stands. stands
      stood (stopped fault) = tt
      stood (broken cause) = tt

  -- .. and its lines
  pub speaks_says : (how : Ended NodeStop S) {out now : List Entry} → Speaks course how out now → Tells course how out now
  speaks_says how {out} {now} speaks = said_of_runs (on_devices course) how (record { out = out; held = nothing_held; fuse = never }) (record { out = now; held = nothing_held; fuse = never }) (speaks nothing_held never)

says_nothing : {st : Live directory.Unit} (out : List Entry) → Tells {Dir = directory.Unit} {F = NodeStop} (Goes st) (went st) out out
says_nothing out = record { lines = []; added = sym (append-nil out); by = (refl, refl) }

-- ACTS BEHIND OTHERS

went_so : {F S : Type 0} (how : Ended F S) (P Q : Type 0) → (P → IfWent how (P → Q)) → IfWent how (P → Q)
went_so (went end) P Q so = λ p. so p p
went_so (stopped fault) P Q so = tt
went_so (broken cause) P Q so = tt

-- what was burnt to the end, whatever end that is
pub went_burns : {F G S T : Type 0} {x : S} {y : T} {f g : Burn} → Burns {F = F} (went x) f g → Burns {F = G} (went y) f g
went_burns burns = record { call = burns.call; pick = burns.pick; uncut = burns.uncut }

-- Acts were made where they were, of a disk of which nothing was loose, with what the fuse burnt.
pub made_there : {S : Type 0} {acts : Acts NodeStop S} (how : Ended NodeStop S) {files files_now : Files} {image now : Files → Type 0} {old new : Moment} → Burns how old.fuse new.fuse
    → (Stands files image → MakesAt acts how files image files_now now old new) → MakesAt acts how files image files_now now old new
made_there how {files} {files_now} {image} {now} {old} {new} burns so = record {
  made = record { made = λ stands c here. (so stands).made.made stands c here; stands = went_so how (Stands files image) (Stands files_now now) (λ stands. (so stands).made.stands) };
  burns = burns;
}

-- VIEWS

pub viewed : (n : Node) (st : Live directory.Unit) → IsView n st → (result : Result (Unit {0}) Stop) (Q : Ended NodeStop (Live directory.Unit) → Type 0) → Q (ends_node st result) → Viewed n result Q
viewed n st view (Ok done) Q q = (st, view, q)
viewed n st view (Err stop) Q q = q

-- The orchestrator's half has these in memory, and waits for nothing.
pub record HasBeside (half : Half) (beside : Beside directory.Unit) : Type 0 where
  pub entered : beside.orchestrator.entered ≡ half.entered
  pub halted : beside.orchestrator.halted ≡ half.halted
  pub unawaited : beside.orchestrator.waiting ≡ None

-- .. and inclusion has this
abbrev pub Shows : NodeState → Inclusion directory.Unit → Type 0
Shows state i = IfIncluding state (λ life its. IsSeen its i)

pub view_of : (n : Node) (beside : Beside directory.Unit) (life : reshare.Life directory.Unit) (its : NodeInclusion) → HasBeside n.half beside → n.actor.state ≡ Living life its → IsSeen its beside.inclusion
    → IsView n (live_of beside n.fence life)
view_of n beside life its has lives seen = record {
  life = life;
  beside = beside;
  lives = let P : NodeState → Type 0 = λ s. IfIncluding s (λ l i. (l ≡ life) × IsSeen i beside.inclusion) in subst P (sym lives) (refl, seen);
  living = let P : NodeState → Type 0 = λ s. IsLiving s in subst P (sym lives) tt;
  is = refl;
  half = record { entered = has.entered; halted = has.halted; unawaited = has.unawaited };
}

-- .. of a view's
pub beside_of : (n : Node) (st : Live directory.Unit) (view : IsView n st) → HasBeside n.half view.beside
beside_of n st view = record {
  entered = subst (λ (s : Live directory.Unit). s.orchestrator.entered ≡ n.half.entered) view.is view.half.entered;
  halted = subst (λ (s : Live directory.Unit). s.orchestrator.halted ≡ n.half.halted) view.is view.half.halted;
  unawaited = subst (λ (s : Live directory.Unit). s.orchestrator.waiting ≡ None) view.is view.half.unawaited;
}

-- what is said of the life in memory
pub living_of : (n : Node) (st : Live directory.Unit) (view : IsView n st) (Q : reshare.Life directory.Unit → NodeInclusion → Type 0) → IfIncluding n.actor.state Q
    → (its : NodeInclusion) × IsSeen its view.beside.inclusion × Q view.life its
living_of n st view Q q = in_state n.actor.state view.lives view.living q
  where
    in_state : (s : NodeState) → IfIncluding s (λ l i. (l ≡ view.life) × IsSeen i view.beside.inclusion) → IsLiving s → IfIncluding s Q → (its : NodeInclusion) × IsSeen its view.beside.inclusion × Q view.life its
    in_state New lives living q = absurd living
    in_state (Living life its) lives living q = (its, lives.1, subst (λ (l : reshare.Life directory.Unit). Q l its) lives.0 q)
    in_state HadFailed lives living q = absurd living

-- A MESSAGE, over any W that says how a course went

module _ (n : Node) (c : Fixed directory.Unit) (beside : Beside directory.Unit) (has : HasBeside n.half beside) (reshare_is : c.oneshot ≡ None) (mail : Mail directory.Unit) (st : Live directory.Unit) where
  abbrev next_of : Live directory.Unit → Course directory.Unit NodeStop (Live directory.Unit)
  next_of st = unless_once c (asks_again c st) (Goes st)

  module _ (files files_now : Files) (image now : Files → Type 0) (old new : Moment) where
    heard_in : (state : NodeState) → n.actor.state ≡ state → (result : Result (Unit {0}) Stop) (P : reshare.Life directory.Unit → Type 0) → EndsAt state result P → OnOk result (Shows state beside.inclusion)
        → MakesAt (on_devices (step c (Mailed mail) st)) (lives (live_of beside n.fence) state result) files image files_now now old new
        → Viewed n result (λ ended. MakesAt (on_devices (node_step c (Reshare mail) st)) ended files image files_now now old new)
    heard_in (Living life its) is (Ok done) P ends seen made = (
      live_of beside n.fence life,
      view_of n beside life its has is seen,
      node_goes (step c (Mailed mail) st) next_of made
          (subst (λ (a : Course directory.Unit NodeStop (Live directory.Unit)). MakesAt (on_devices a) (went (live_of beside n.fence life)) files_now now files_now now new new)
          (sym (goes_on c (live_of beside n.fence life) reshare_is has.unawaited)) (makes_nothing files_now now new refl)),
    )
    heard_in New is (Ok done) P ends seen made = absurd ends
    heard_in HadFailed is (Ok done) P ends seen made = absurd ends
    heard_in (Living life its) is (Err stop) P ends seen made = node_ends (step c (Mailed mail) st) next_of stop made
    heard_in New is (Err stop) P ends seen made = node_ends (step c (Mailed mail) st) next_of stop made
    heard_in HadFailed is (Err stop) P ends seen made = node_ends (step c (Mailed mail) st) next_of stop made

    pub heard : (result : Result (Unit {0}) Stop) (P : reshare.Life directory.Unit → Type 0) → EndsAt n.actor.state result P → OnOk result (Shows n.actor.state beside.inclusion)
        → MakesAt (on_devices (step c (Mailed mail) st)) (lives (live_of beside n.fence) n.actor.state result) files image files_now now old new
        → Viewed n result (λ ended. MakesAt (on_devices (node_step c (Reshare mail) st)) ended files image files_now now old new)
    heard result P ends seen made = heard_in n.actor.state refl result P ends seen made

  module _ (out now : List Entry) where
    said_in : (state : NodeState) → n.actor.state ≡ state → (result : Result (Unit {0}) Stop) (P : reshare.Life directory.Unit → Type 0) → EndsAt state result P → OnOk result (Shows state beside.inclusion)
        → Tells (step c (Mailed mail) st) (lives (live_of beside n.fence) state result) out now → Viewed n result (λ ended. Tells (node_step c (Reshare mail) st) ended out now)
    said_in (Living life its) is (Ok done) P ends seen said = (
      live_of beside n.fence life,
      view_of n beside life its has is seen,
      node_says (step c (Mailed mail) st) next_of said
          (subst (λ (a : Course directory.Unit NodeStop (Live directory.Unit)). Tells a (went (live_of beside n.fence life)) now now)
          (sym (goes_on c (live_of beside n.fence life) reshare_is has.unawaited)) (says_nothing now)),
    )
    said_in New is (Ok done) P ends seen said = absurd ends
    said_in HadFailed is (Ok done) P ends seen said = absurd ends
    said_in (Living life its) is (Err stop) P ends seen said = node_says_early (step c (Mailed mail) st) next_of stop said
    said_in New is (Err stop) P ends seen said = node_says_early (step c (Mailed mail) st) next_of stop said
    said_in HadFailed is (Err stop) P ends seen said = node_says_early (step c (Mailed mail) st) next_of stop said

    pub heard_said : (result : Result (Unit {0}) Stop) (P : reshare.Life directory.Unit → Type 0) → EndsAt n.actor.state result P → OnOk result (Shows n.actor.state beside.inclusion)
        → Tells (step c (Mailed mail) st) (lives (live_of beside n.fence) n.actor.state result) out now → Viewed n result (λ ended. Tells (node_step c (Reshare mail) st) ended out now)
    heard_said result P ends seen said = said_in n.actor.state refl result P ends seen said

-- what is sent is mail
mail_of : (its : declared.Message directory.Unit (Unit {0})) → IsMail its → (mail : Mail directory.Unit) × (message_of its ≡ Mailed mail)
mail_of (message.Peer from bytes) is = (Peer from bytes, refl)
mail_of (message.Finalized b) is = absurd is
mail_of (message.NextLog request height) is = (NextLog request height, refl)
mail_of (message.ReleaseLog height) is = (ReleaseLog height, refl)
mail_of (message.EpochInfo request) is = (EpochInfoOf request, refl)
mail_of (message.Feed request b) is = (Feed request b, refl)
mail_of (message.Over request) is = (Over request, refl)
mail_of (message.Cancel request) is = (Cancel request, refl)
mail_of message.Work is = (Work None, refl)

-- .. and brings nothing that has a limit
pub mail_within : (limit : ℕ) (its : declared.Message directory.Unit (Unit {0})) → IsMail its → BringsWithin limit its
mail_within limit (message.Peer from bytes) is = tt
mail_within limit (message.Finalized b) is = absurd is
mail_within limit (message.NextLog request height) is = tt
mail_within limit (message.ReleaseLog height) is = tt
mail_within limit (message.EpochInfo request) is = tt
mail_within limit (message.Feed request b) is = tt
mail_within limit (message.Over request) is = tt
mail_within limit (message.Cancel request) is = tt
mail_within limit message.Work is = tt

-- A BLOCK: the reshare half took it, and then the orchestrator's half, which may enter the next epoch

module _ (n : Node) (half_was : Half) (fence_was : Readiness) (c : Fixed directory.Unit) (beside : Beside directory.Unit) (has : HasBeside half_was beside) (reshare_is : c.oneshot ≡ None)
    (b : Block directory.Unit) (st : Live directory.Unit) where
  abbrev answered : Live directory.Unit → Course directory.Unit NodeStop (Live directory.Unit)
  answered st = bind (takes_delivered c b st) (λ half. acked_at b.height half.answer half.live)

  abbrev next_behind : Live directory.Unit → Course directory.Unit NodeStop (Live directory.Unit)
  next_behind st = unless_once c (answered st) (Say (Acked b.height) (Goes st))

  -- the life between both
  abbrev mid_of : reshare.Life directory.Unit → Live directory.Unit
  mid_of life = live_of beside fence_was life

  -- .. and behind them
  abbrev end_of : reshare.Life directory.Unit → Live directory.Unit
  end_of life = with_orchestrator_half n.half n.fence (mid_of life)

  end_view : (life : reshare.Life directory.Unit) (its : NodeInclusion) → n.actor.state ≡ Living life its → IsSeen its beside.inclusion → IsView n (end_of life)
  end_view life its lives seen =
      view_of n (record beside { orchestrator = record beside.orchestrator { entered = n.half.entered; halted = n.half.halted; waiting = None } }) life its
      (record { entered = refl; halted = refl; unawaited = refl }) lives seen

  answered_as : (mid : Live directory.Unit) → answered mid ≡ next_behind mid
  answered_as mid = sym (unless_reshare c (answered mid) (Say (Acked b.height) (Goes mid)) reshare_is)

  -- it ended in the reshare half
  pub refused_made : {files files_now : Files} {image now : Files → Type 0} {old new : Moment} (state : NodeState) (stop : Stop) (P : reshare.Life directory.Unit → Type 0) → EndsAt state (Err stop) P
      → MakesAt (on_devices (step c (Finalized b) st)) (lives (live_of beside fence_was) state (Err stop)) files image files_now now old new
      → MakesAt (on_devices (node_step c (Delivers b) st)) (by_node_stop stop) files image files_now now old new
  refused_made (Living life its) stop P ends made = node_ends (step c (Finalized b) st) next_behind stop made
  refused_made New stop P ends made = node_ends (step c (Finalized b) st) next_behind stop made
  refused_made HadFailed stop P ends made = node_ends (step c (Finalized b) st) next_behind stop made

  pub refused_said : {out now : List Entry} (state : NodeState) (stop : Stop) (P : reshare.Life directory.Unit → Type 0) → EndsAt state (Err stop) P
      → Tells (step c (Finalized b) st) (lives (live_of beside fence_was) state (Err stop)) out now → Tells (node_step c (Delivers b) st) (by_node_stop stop) out now
  refused_said (Living life its) stop P ends said = node_says_early (step c (Finalized b) st) next_behind stop said
  refused_said New stop P ends said = node_says_early (step c (Finalized b) st) next_behind stop said
  refused_said HadFailed stop P ends said = node_says_early (step c (Finalized b) st) next_behind stop said

  -- .. or it went there, to such a life that its lines say, and the other half answered
  abbrev pub Answers : (Live directory.Unit → Type 0) → Result (Unit {0}) Stop → (mid now : List Entry) → Type 0
  Answers Led result mid now = (end : Live directory.Unit) → HasOrchestratorHalf half_was end → end.orchestrator.fence ≡ fence_was → Led end → Speaks (answered end) (ends_node (with_orchestrator_half n.half n.fence end) result) mid now

  abbrev pub Leads : (Live directory.Unit → Type 0) → Type 0
  Leads Led = (end : Live directory.Unit) → end.orchestrator.fence ≡ fence_was → (out now : List Entry) → Said (on_devices (step c (Finalized b) st)) (went end) out now → Led end

  mid_has : (life : reshare.Life directory.Unit) → HasOrchestratorHalf half_was (mid_of life)
  mid_has life = record { entered = has.entered; halted = has.halted; unawaited = has.unawaited }

  module _ (Led : Live directory.Unit → Type 0) (leads : Leads Led) where
    module _ (files files_now : Files) (image now : Files → Type 0) (old : Moment) (mid_out out : List Entry) (s : Secrets) (f : Burn) where
      pub taken_in : (state : NodeState) → n.actor.state ≡ state → (P : reshare.Life directory.Unit → Type 0) → EndsAt state (Ok tt) P → Shows state beside.inclusion
          → MakesAt (on_devices (step c (Finalized b) st)) (lives (live_of beside fence_was) state (Ok tt)) files image files_now now old (moment mid_out s f)
          → (result : Result (Unit {0}) Stop) → Answers Led result mid_out out
          → Viewed n result (λ ended. MakesAt (on_devices (node_step c (Delivers b) st)) ended files image files_now now old (moment out s f))
      taken_in (Living life its) is P ends seen made result speaks =
          let mid = mid_of life in
          let how : Ended NodeStop (Live directory.Unit) = ends_node (end_of life) result in
          viewed n (end_of life) (end_view life its is seen) result (λ ended. MakesAt (on_devices (node_step c (Delivers b) st)) ended files image files_now now old (moment out s f))
          (made_there how (burns_next how (went_burns {S = Live directory.Unit} {T = Live directory.Unit} {y = mid} made.burns) (burns_none how f)) (λ stands.
          let led : Led mid =
          leads mid refl old.out mid_out
          (said_of_runs (on_devices (step c (Finalized b) st)) (went mid) (at old files) (at (moment mid_out s f) files_now) (made.made.made stands files_now (made.made.stands stands).itself)) in
          node_goes (step c (Finalized b) st) next_behind made
          (subst (λ (a : Course directory.Unit NodeStop (Live directory.Unit)). MakesAt (on_devices a) how files_now now files_now now (moment mid_out s f) (moment out s f)) (answered_as mid)
          (speaks_makes (answered mid) how files_now now (speaks mid (mid_has life) refl led)))))
      taken_in New is P ends seen made result speaks = absurd ends
      taken_in HadFailed is P ends seen made result speaks = absurd ends

    module _ (out mid_out now : List Entry) where
      pub told_in : (state : NodeState) → n.actor.state ≡ state → (P : reshare.Life directory.Unit → Type 0) → EndsAt state (Ok tt) P → Shows state beside.inclusion
          → Tells (step c (Finalized b) st) (lives (live_of beside fence_was) state (Ok tt)) out mid_out
          → (result : Result (Unit {0}) Stop) → Answers Led result mid_out now
          → Viewed n result (λ ended. Tells (node_step c (Delivers b) st) ended out now)
      told_in (Living life its) is P ends seen said result speaks =
          let mid = mid_of life in
          let how : Ended NodeStop (Live directory.Unit) = ends_node (end_of life) result in
          viewed n (end_of life) (end_view life its is seen) result (λ ended. Tells (node_step c (Delivers b) st) ended out now)
          (node_says (step c (Finalized b) st) next_behind said
          (subst (λ (a : Course directory.Unit NodeStop (Live directory.Unit)). Tells a how mid_out now) (answered_as mid)
          (speaks_says (answered mid) how (speaks mid (mid_has life) refl (leads mid refl out mid_out said)))))
      told_in New is P ends seen said result speaks = absurd ends
      told_in HadFailed is P ends seen said result speaks = absurd ends

-- A NODE THAT GOES ON

module _ {D X : Type 0} (tells : Bool) (files : D → Files) (image : D → Files → Type 0) (n : Node) (devices : Devices D X) where
  abbrev pub EndsReady : Result (Unit {0}) Stop → Type 0
  EndsReady result = EndsAt n.actor.state result (λ life. IsReadyLife tells files image acks.ack_of deals.deal_of acks.check_ack_of n.actor.terms life devices)

  abbrev pub SettlesInclusion : Type 0
  SettlesInclusion = IfIncluding n.actor.state (IsSettledInclusion logs.check_log_of dealings.dealing_of finishes.finish_of (non_zero_u64_get n.actor.terms.blocks_per_epoch))

  module _ (blocks_are : n.blocks_per_epoch ≡ n.actor.terms.blocks_per_epoch) where
    pub ready_node : EndsReady (Ok tt) → SettlesInclusion → IsSettled (non_zero_u64_get n.actor.terms.blocks_per_epoch) n.half → IsReadyNode tells files image n devices
    ready_node ends including settled = record {
      at = stands_again tells files image acks.ack_of deals.deal_of acks.check_ack_of n.actor.terms n.actor.state devices (Ok tt) ends;
      living = ends_living n.actor.state (λ life. IsReadyLife tells files image acks.ack_of deals.deal_of acks.check_ack_of n.actor.terms life devices) ends;
      including = including;
      blocks_are = blocks_are;
      settled = settled;
    }

-- .. behind a call of it
module _ {D X : Type 0} (tells : Bool) (files : D → Files) (image : D → Files → Type 0) (before n : Node) (old new : Devices D X) (was : IsReadyNode tells files image before old)
    (terms : n.actor.terms ≡ before.actor.terms) (length : n.blocks_per_epoch ≡ before.blocks_per_epoch) where
  length_is : n.blocks_per_epoch ≡ n.actor.terms.blocks_per_epoch
  length_is = length ∙ was.blocks_are ∙ ap (λ (t : Terms). t.blocks_per_epoch) (sym terms)

  -- where its half stayed as it was
  pub ready_on : n.half ≡ before.half → (result : Result (Unit {0}) Stop) → EndsReady tells files image n new result → OnOk result (SettlesInclusion tells files image n new) → OnOk result (IsReadyNode tells files image n new)
  ready_on half (Ok done) ends including =
      ready_node tells files image n new length_is ends including
      (subst (λ (t : Terms). IsSettled (non_zero_u64_get t.blocks_per_epoch) n.half) (sym terms)
      (subst (λ (h : Half). IsSettled (non_zero_u64_get before.actor.terms.blocks_per_epoch) h) (sym half) was.settled))
  ready_on half (Err stop) ends including = tt

  -- .. or answered
  pub ready_behind : EndsReady tells files image n new (Ok tt) → SettlesInclusion tells files image n new → (result : Result (Unit {0}) Stop) → OnOk result (IsSettled (non_zero_u64_get n.blocks_per_epoch) n.half)
      → OnOk result (IsReadyNode tells files image n new)
  ready_behind ends including (Ok done) settled = ready_node tells files image n new length_is ends including (subst (λ (k : NonZeroU64). IsSettled (non_zero_u64_get k) n.half) length_is settled)
  ready_behind ends including (Err stop) settled = tt

-- its half's epochs have the length of the life's
module _ {D X : Type 0} (tells : Bool) (files : D → Files) (image : D → Files → Type 0) (n : Node) (devices : Devices D X) (ready : IsReadyNode tells files image n devices) where
  pub half_length : (g : Lived) → IsOfLife g n → (number : ℕ) → non_zero_u64_get n.blocks_per_epoch ≡ (at_step g number).blocks_per_epoch
  half_length g of number = ap non_zero_u64_get ready.blocks_are ∙ sym (of.of number).blocks

  pub half_settled : IsSettled (non_zero_u64_get n.blocks_per_epoch) n.half
  half_settled = subst (λ (k : NonZeroU64). IsSettled (non_zero_u64_get k) n.half) (sym ready.blocks_are) ready.settled

-- what is said of an inclusion beside another thing
pub including_both : (state : NodeState) (P Q : reshare.Life directory.Unit → NodeInclusion → Type 0) → IfIncluding state (λ life its. P life its × Q life its) → IfIncluding state P × IfIncluding state Q
including_both New P Q is = (tt, tt)
including_both (Living life its) P Q is = is
including_both HadFailed P Q is = (tt, tt)

-- THE CONFIGURATION of a life

pub is_of : (g : Lived) (terms : Terms) (config : ScriptConfig) → g.script.config ≡ config → IsUnplanned g.seen
    → AreTerms terms config.me config.blocks_per_epoch config.limit config.max_mode config.mode V1 config.namespace → (taken : ℕ) → IsOf terms (at_step g taken)
unfolding at_step
is_of g terms config same none are taken = record {
  me = ap (λ (c : ScriptConfig). c.me) same ∙ sym are.me_is;
  blocks = ap (λ (c : ScriptConfig). non_zero_u64_get c.blocks_per_epoch) same ∙ ap non_zero_u64_get (sym are.blocks_are);
  limit = ap (λ (c : ScriptConfig). non_zero_u32_get c.limit) same ∙ ap non_zero_u32_get (sym are.limit_is);
  version = ap (λ (c : ScriptConfig). c.max_mode.0) same ∙ ap (λ (m : ModeVersion). m.0) (sym are.version_is);
  mode = ap (λ (c : ScriptConfig). c.mode) same ∙ sym are.mode_is;
  reveal = sym are.reveal_is;
  namespace = ap (λ (c : ScriptConfig). c.namespace) same ∙ sym are.namespace_is;
  unplanned = unplanned_at g none taken;
  reshare = refl;
  bare = refl;
}

pub of_terms : (g : Lived) (node : Node) (config : ScriptConfig) → g.script.config ≡ config → IsUnplanned g.seen
    → AreTerms node.actor.terms config.me config.blocks_per_epoch config.limit config.max_mode config.mode V1 config.namespace
    → node.actor.provider.lines.now ≡ config.players
    → (word : ℕ) → g.life.word ≡ word → IfLiving node.actor.state (λ its. its.word ≡ word) → IsOfLife g node
of_terms g node config same none are lines word word_is its = record {
  of = is_of g node.actor.terms config same none are;
  word = subst (λ (w : ℕ). IfLiving node.actor.state (λ its. its.word ≡ w)) (sym word_is) its;
  players = λ epoch. ap (λ (c : ScriptConfig). players_at c.players epoch) same ∙ ap (λ (lines : List PlayerLine). players_at lines epoch) (sym lines);
}

-- A node with the same terms and its life's word, whose provider says the same, is of the same lives.
pub of_again : (before n : Node) → IsLiving before.actor.state → n.actor.terms ≡ before.actor.terms → IfLiving before.actor.state (λ old. IfLiving n.actor.state (λ life. life.word ≡ old.word))
    → ((epoch : ℕ) → players_at n.actor.provider.lines.now epoch ≡ players_at before.actor.provider.lines.now epoch)
    → (g : Lived) → IsOfLife g before → IsOfLife g n
of_again before n living terms words provided g of = record {
  of = λ taken. subst (λ (t : Terms). IsOf t (at_step g taken)) (sym terms) (of.of taken);
  word = in_state before.actor.state living words of.word;
  players = λ epoch. of.players epoch ∙ sym (provided epoch);
}
  where
    word_in : (old : reshare.Life directory.Unit) (now : NodeState) → IfLiving now (λ life. life.word ≡ old.word) → old.word ≡ g.life.word → IfLiving now (λ its. its.word ≡ g.life.word)
    word_in old (Living life its) same is = same ∙ is
    word_in old New same is = tt
    word_in old HadFailed same is = tt

    in_state : (was : NodeState) → IsLiving was → IfLiving was (λ old. IfLiving n.actor.state (λ life. life.word ≡ old.word)) → IfLiving was (λ old. old.word ≡ g.life.word)
        → IfLiving n.actor.state (λ its. its.word ≡ g.life.word)
    in_state New living same is = absurd living
    in_state (Living old its) living same is = word_in old n.actor.state same is
    in_state HadFailed living same is = absurd living

-- Where the height above an epoch's last one is not past the range, the next epoch's last one is within it.
next_in_range : (n e h : ℕ) → 1 ≤ n → h ≡ last n e → nat_le (2 ^ 64) (last n (epoch_of n (h + 1))) ≡ false → last n (e + 1) < 2 ^ 64
next_in_range n e h some at_last past =
    let product : (e + 1) * n ≡ e * n + n = ap (λ (x : ℕ). x * n) (add-one e) ∙ suc-mul e n in
    below (last n (e + 1)) (subst (λ (x : ℕ). nat_le (2 ^ 64) (last n x) ≡ false)
    (epoch_is n (e + 1) (h + 1) (from ((e + 1) * n) (e * n) n h product at_last some) (to ((e + 1) * n) (e * n) n h product at_last some)) past)
  where
    from : (q m n h : ℕ) → q ≡ m + n → h ≡ m + n - 1 → 1 ≤ n → q ≤ h + 1
    from q m n h product at some = omega (arith, product, at, some)

    to : (q m n h : ℕ) → q ≡ m + n → h ≡ m + n - 1 → 1 ≤ n → h + 1 < q + n
    to q m n h product at some = omega (arith, product, at, some)

    below : (m : ℕ) → nat_le (2 ^ 64) m ≡ false → m < 2 ^ 64
    below m past = grind (arith, nat_tests)

-- ONE STEP of a node, from a view of it

module _ (before n : Node) (g : Lived) (number : ℕ) (st : Live directory.Unit) (view : IsView before st) (of : IsOfLife g before) (may : MayStep g number st) where
  abbrev given_at : Fixed directory.Unit
  given_at = at_step g number

  -- what a call of the actor promises of the life that it had
  abbrev Promises : (Includes : Type 0) (IsNow : Inclusion directory.Unit → Type 0) (Took : List (ℕ × SchemeInfo) → Type 0) → (reshare.Life directory.Unit → Beside directory.Unit → Type 0) → Type 0
  Promises Includes IsNow Took Q = IfIncluding before.actor.state (λ life its. IsIn before.actor.terms life.word given_at → ReadsPlanless given_at
      → IsRuledBy rounds.round_of deals.deal_of dealings.dealing_of acks.ack_of acks.check_ack_of logs.sign_log_of logs.bears_ack_of publics.share_public_of publics.partial_public_of given_at.rules
      → Includes → IsSeen its view.beside.inclusion → EndsWith view.beside IsNow Took (Q life))

  -- what is beside the actor behind it
  record Behind (IsNow : Inclusion directory.Unit → Type 0) (Q : Beside directory.Unit → Type 0) : Type 0 where
    now : Beside directory.Unit
    has : HasBeside before.half now
    such : IsNow now.inclusion
    so : Q now

  behind : (Includes : Type 0) → Includes → (IsNow : Inclusion directory.Unit → Type 0) (Took : List (ℕ × SchemeInfo) → Type 0) (Q : reshare.Life directory.Unit → Beside directory.Unit → Type 0)
      → Promises Includes IsNow Took Q → Behind IsNow (Q view.life)
  behind Includes includes IsNow Took Q its =
      let made =
      living_of before st view (λ life its. IsIn before.actor.terms life.word given_at → ReadsPlanless given_at
      → IsRuledBy rounds.round_of deals.deal_of dealings.dealing_of acks.ack_of acks.check_ack_of logs.sign_log_of logs.bears_ack_of publics.share_public_of publics.partial_public_of given_at.rules
      → Includes → IsSeen its view.beside.inclusion → EndsWith view.beside IsNow Took (Q life)) its in
      let word = living_of before st view (λ life its. life.word ≡ g.life.word) of.word in
      let ends : EndsWith view.beside IsNow Took (Q view.life) =
      made.2 (record { of = of.of number; word_is = at_word g number ∙ sym word.2 }) may.reads (at_rules g number) includes made.1 in
      let was : HasBeside before.half view.beside = beside_of before st view in
      record {
        now = ends.now;
        has = record {
          entered = ap (λ (o : Orchestrator directory.Unit). o.entered) ends.orchestrator ∙ was.entered;
          halted = ap (λ (o : Orchestrator directory.Unit). o.halted) ends.orchestrator ∙ was.halted;
          unawaited = ap (λ (o : Orchestrator directory.Unit). o.waiting) ends.orchestrator ∙ was.unawaited;
        };
        such = ends.inclusion;
        so = ends.holds;
      }

  -- the course of the actor, from the view
  viewed_as : (its : Message directory.Unit) → step given_at its (live_of view.beside before.fence view.life) ≡ step given_at its st
  viewed_as its = λ i. step given_at its (sym view.is i)

  -- WHAT A BLOCK LEAVES is what a step of the form leaves
  module _ (b : Block directory.Unit) (end : Live directory.Unit) (out now : List Entry) (said : Said (on_devices (step given_at (Finalized b) st)) (went end) out now) where
    next_said : IsNextThrough given_at any_shares st (Finalized b) None end None
    next_said =
        came_to (IsStopThrough given_at any_shares st (Finalized b) None) (λ end. IsNextThrough given_at any_shares st (Finalized b) None end None) (step given_at (Finalized b) st) (went end) out now
        (comes_anywhere (IsStopThrough given_at any_shares st (Finalized b) None) (IsNextThrough given_at any_shares st (Finalized b) None) (step given_at (Finalized b) st)
        (steps_come_through given_at any_shares st (Finalized b) None may.form (λ h epoch found. tt) tt may.live)) said

    module _ (epoch : ℕ) (going : before.half.halted ≡ false) (entered : before.half.entered ≡ Some epoch) (at_last : b.height ≡ last given_at.blocks_per_epoch epoch) where
      passes : (is_past_range given_at (b.height + 1) ≡ false) × (is_ready end.orchestrator.fence.ready (epoch + 1) ≡ true) × IsSome (lookup (epoch + 1) end.orchestrator.schemes)
      passes =
          may_pass given_at any_shares b st end None None may.form may.live may.active next_said epoch (view.half.halted ∙ going) (view.half.entered ∙ entered) at_last

    -- so the other half may go on
    pub may_go_on : (fence : Readiness) → end.orchestrator.fence ≡ fence → (epoch : ℕ) → before.half.halted ≡ false → before.half.entered ≡ Some epoch → MayGoOn given_at fence b epoch end
    may_go_on fence is epoch going entered = record {
      fence_is = is;
      registered = λ at_last. (passes epoch going entered at_last).2;
      lacks = lacks_nobody g number;
    }

    -- in epochs of this length
    pub may_pass_on : (blocks : ℕ) → blocks ≡ given_at.blocks_per_epoch → IsSettled blocks before.half → MayPass blocks before.half end.orchestrator.fence.ready b.height
    may_pass_on blocks same settled epoch going entered = (
      settled epoch going entered,
      λ at_last.
          let its = passes epoch going entered (at_last ∙ ap (λ (n : ℕ). last n epoch) same) in
          (subst (λ (n : ℕ). last n (epoch + 1) < 2 ^ 64) (sym same) (next_in_range given_at.blocks_per_epoch epoch b.height may.form.form.counted (at_last ∙ ap (λ (n : ℕ). last n epoch) same) its.0), its.1),
    )

  -- A MESSAGE was sent
  module _ (half : n.half ≡ before.half) (Includes : Type 0) (includes : Includes) (Took : List (ℕ × SchemeInfo) → Type 0) (result : Result (Unit {0}) Stop) where
    abbrev IsNow : Inclusion directory.Unit → Type 0
    IsNow i = OnOk result (Shows n.actor.state i)

    has_still : (now : Beside directory.Unit) → HasBeside before.half now → HasBeside n.half now
    has_still now has = subst (λ (h : Half). HasBeside h now) (sym half) has

    module _ (its : declared.Message directory.Unit (Unit {0})) (mail : IsMail its) (P : reshare.Life directory.Unit → Type 0) (ends : EndsAt n.actor.state result P) where
      sent : (mail : Mail directory.Unit) × (message_of its ≡ Mailed mail)
      sent = mail_of its mail

      module _ (files files_now : Files) (image next : Files → Type 0) (old new : Moment) where
        abbrev Made : reshare.Life directory.Unit → Beside directory.Unit → Type 0
        Made life now =
            MakesAt (on_devices (step given_at (message_of its) (live_of view.beside before.fence life))) (lives (live_of now n.fence) n.actor.state result) files image files_now next old new

        pub sends : Promises Includes IsNow Took Made → Viewed n result (λ ended. MakesAt (on_devices (node_step given_at (sent_event its) st)) ended files image files_now next old new)
        sends made =
            let e = behind Includes includes IsNow Took Made made in
            subst (λ (m : Message directory.Unit). Viewed n result (λ ended. MakesAt (on_devices (node_step given_at (event_of m) st)) ended files image files_now next old new)) (sym sent.1)
            (heard n given_at e.now (has_still e.now e.has) (at_oneshot g number) sent.0 st files files_now image next old new result P ends e.such
            (subst (λ (a : Course directory.Unit Fault (Live directory.Unit)). MakesAt (on_devices a) (lives (live_of e.now n.fence) n.actor.state result) files image files_now next old new)
            (viewed_as (message_of its) ∙ ap (λ (m : Message directory.Unit). step given_at m st) sent.1) e.so))

      module _ (out now : List Entry) where
        abbrev Told : reshare.Life directory.Unit → Beside directory.Unit → Type 0
        Told life beside = Tells (step given_at (message_of its) (live_of view.beside before.fence life)) (lives (live_of beside n.fence) n.actor.state result) out now

        pub sends_said : Promises Includes IsNow Took Told → Viewed n result (λ ended. Tells (node_step given_at (sent_event its) st) ended out now)
        sends_said said =
            let e = behind Includes includes IsNow Took Told said in
            subst (λ (m : Message directory.Unit). Viewed n result (λ ended. Said (on_devices (node_step given_at (event_of m) st)) ended out now)) (sym sent.1)
            (heard_said n given_at e.now (has_still e.now e.has) (at_oneshot g number) sent.0 st out now result P ends e.such
            (subst (λ (a : Course directory.Unit Fault (Live directory.Unit)). Said (on_devices a) (lives (live_of e.now n.fence) n.actor.state result) out now)
            (viewed_as (message_of its) ∙ ap (λ (m : Message directory.Unit). step given_at m st) sent.1) e.so))

  -- A BLOCK was delivered to the actor, which left its fence so
  module _ (b : Block directory.Unit) (fence : Readiness) (Includes : Type 0) (includes : Includes) (Took : List (ℕ × SchemeInfo) → Type 0) where
    module _ (files files_now : Files) (image next : Files → Type 0) (old new : Moment) where
      abbrev MadeBy : Result (Unit {0}) Stop → reshare.Life directory.Unit → Beside directory.Unit → Type 0
      MadeBy result life now =
          MakesAt (on_devices (step given_at (Finalized b) (live_of view.beside before.fence life))) (lives (live_of now fence) n.actor.state result) files image files_now next old new

      made_as : (result : Result (Unit {0}) Stop) (now : Beside directory.Unit) → MadeBy result view.life now
          → MakesAt (on_devices (step given_at (Finalized b) st)) (lives (live_of now fence) n.actor.state result) files image files_now next old new
      made_as result now made =
          subst (λ (a : Course directory.Unit Fault (Live directory.Unit)). MakesAt (on_devices a) (lives (live_of now fence) n.actor.state result) files image files_now next old new) (viewed_as (Finalized b)) made

      pub refuses : (IsNow : Inclusion directory.Unit → Type 0) (stop : Stop) (P : reshare.Life directory.Unit → Type 0) → EndsAt n.actor.state (Err stop) P → Promises Includes IsNow Took (MadeBy (Err stop))
          → MakesAt (on_devices (node_step given_at (Delivers b) st)) (by_node_stop stop) files image files_now next old new
      refuses IsNow stop P ends made =
          let e = behind Includes includes IsNow Took (MadeBy (Err stop)) made in
          refused_made n before.half fence given_at e.now e.has (at_oneshot g number) b st n.actor.state stop P ends (made_as (Err stop) e.now e.so)

    module _ (out now : List Entry) where
      abbrev ToldBy : Result (Unit {0}) Stop → reshare.Life directory.Unit → Beside directory.Unit → Type 0
      ToldBy result life beside = Tells (step given_at (Finalized b) (live_of view.beside before.fence life)) (lives (live_of beside fence) n.actor.state result) out now

      told_as : (result : Result (Unit {0}) Stop) (beside : Beside directory.Unit) → ToldBy result view.life beside
          → Tells (step given_at (Finalized b) st) (lives (live_of beside fence) n.actor.state result) out now
      told_as result beside told =
          subst (λ (a : Course directory.Unit Fault (Live directory.Unit)). Said (on_devices a) (lives (live_of beside fence) n.actor.state result) out now) (viewed_as (Finalized b)) told

      pub refuses_said : (IsNow : Inclusion directory.Unit → Type 0) (stop : Stop) (P : reshare.Life directory.Unit → Type 0) → EndsAt n.actor.state (Err stop) P → Promises Includes IsNow Took (ToldBy (Err stop))
          → Tells (node_step given_at (Delivers b) st) (by_node_stop stop) out now
      refuses_said IsNow stop P ends said =
          let e = behind Includes includes IsNow Took (ToldBy (Err stop)) said in
          refused_said n before.half fence given_at e.now e.has (at_oneshot g number) b st n.actor.state stop P ends (told_as (Err stop) e.now e.so)

      -- It went, so the other half may pass on.
      pub may_pass_behind : (P : reshare.Life directory.Unit → Type 0) → EndsAt n.actor.state (Ok tt) P → (IsNow : Inclusion directory.Unit → Type 0) → Promises Includes IsNow Took (ToldBy (Ok tt))
          → (blocks : ℕ) → blocks ≡ given_at.blocks_per_epoch → IsSettled blocks before.half → MayPass blocks before.half fence.ready b.height
      may_pass_behind P ends IsNow said blocks same settled =
          let e = behind Includes includes IsNow Took (ToldBy (Ok tt)) said in
          in_state n.actor.state ends e.now (told_as (Ok tt) e.now e.so)
        where
          in_state : (state : NodeState) → EndsAt state (Ok tt) P → (beside : Beside directory.Unit)
              → Tells (step given_at (Finalized b) st) (lives (live_of beside fence) state (Ok tt)) out now → MayPass blocks before.half fence.ready b.height
          in_state New ends beside told = absurd ends
          in_state (Living life its) ends beside told = may_pass_on b (live_of beside fence life) out now told blocks same settled
          in_state HadFailed ends beside told = absurd ends

    -- .. and it answered
    abbrev pub MayGo : Live directory.Unit → Type 0
    MayGo end = (epoch : ℕ) → before.half.halted ≡ false → before.half.entered ≡ Some epoch → MayGoOn given_at fence b epoch end

    abbrev pub Speaking : Result (Unit {0}) Stop → (mid now : List Entry) → Type 0
    Speaking result mid now = (end : Live directory.Unit) → HasOrchestratorHalf before.half end → end.orchestrator.fence ≡ fence → MayGo end
        → Speaks (bind (takes_delivered given_at b end) (λ half. acked_at b.height half.answer half.live)) (ends_node (with_orchestrator_half n.half n.fence end) result) mid now

    leads_on : (end : Live directory.Unit) → end.orchestrator.fence ≡ fence → (out now : List Entry) → Said (on_devices (step given_at (Finalized b) st)) (went end) out now → MayGo end
    leads_on end is out now said = may_go_on b end out now said fence is

    module _ (P : reshare.Life directory.Unit → Type 0) (ends : EndsAt n.actor.state (Ok tt) P) (result : Result (Unit {0}) Stop) where
      pub takes : (files files_now : Files) (image next : Files → Type 0) (old : Moment) (mid_out out : List Entry) (s : Secrets) (f : Burn)
          → Promises Includes (λ i. Shows n.actor.state i) Took (MadeBy files files_now image next old (moment mid_out s f) (Ok tt)) → Speaking result mid_out out
          → Viewed n result (λ ended. MakesAt (on_devices (node_step given_at (Delivers b) st)) ended files image files_now next old (moment out s f))
      takes files files_now image next old mid_out out s f made speaks =
          let e = behind Includes includes (λ i. Shows n.actor.state i) Took (MadeBy files files_now image next old (moment mid_out s f) (Ok tt)) made in
          taken_in n before.half fence given_at e.now e.has (at_oneshot g number) b st MayGo leads_on files files_now image next old mid_out out s f n.actor.state refl P ends e.such
          (made_as files files_now image next old (moment mid_out s f) (Ok tt) e.now e.so) result speaks

      pub takes_said : (out mid now : List Entry) → Promises Includes (λ i. Shows n.actor.state i) Took (ToldBy out mid (Ok tt)) → Speaking result mid now
          → Viewed n result (λ ended. Tells (node_step given_at (Delivers b) st) ended out now)
      takes_said out mid now said speaks =
          let e = behind Includes includes (λ i. Shows n.actor.state i) Took (ToldBy out mid (Ok tt)) said in
          told_in n before.half fence given_at e.now e.has (at_oneshot g number) b st MayGo leads_on out mid now n.actor.state refl P ends e.such (told_as out mid (Ok tt) e.now e.so) result speaks

-- nothing is said where nothing was found
pub unsaid : {S : Type 0} (acts : Acts NodeStop S) (cause : Cause) (out : List Entry) → Said acts (broken cause) out out
unsaid acts cause out = record { lines = []; added = sym (append-nil out); by = none_first acts }

-- want of memory, in what was made so far
pub wants_caused : (tells : Bool) (stop : Stop) (disk secrets reached : Type 0) → stop ≡ FaultOf NoMemory → IsCausedBy tells stop disk secrets reached
wants_caused tells stop disk secrets reached is = let P : Stop → Type 0 = λ s. IsCausedBy tells s disk secrets reached in subst P (sym is) tt

-- A half blames no device, and no record.
pub halves_caused : (tells : Bool) (stop : Stop) (disk secrets reached : Type 0) → IsCaused stop ⊥ ⊥ ⊥ → IsCausedBy tells stop disk secrets reached
halves_caused tells (FaultOf fault.NoMemory) disk secrets reached is = tt
halves_caused tells (FaultOf fault.Disk) disk secrets reached is = absurd is
halves_caused tells (FaultOf fault.Secrets) disk secrets reached is = absurd is
halves_caused tells (FaultOf (fault.Corrupt x y)) disk secrets reached is = absurd is
halves_caused tells (FaultOf (fault.InvalidConfig x)) disk secrets reached is = tt
halves_caused tells (FaultOf (fault.StateSyncEpochs x y)) disk secrets reached is = tt
halves_caused tells (FaultOf fault.StateSyncMaterial) disk secrets reached is = tt
halves_caused tells (FaultOf (fault.ConflictingBlock x)) disk secrets reached is = tt
halves_caused tells (FaultOf (fault.DetachedBlock x)) disk secrets reached is = tt
halves_caused tells (FaultOf (fault.SkippedHeight x y)) disk secrets reached is = tt
halves_caused tells (FaultOf (fault.OutOfWindow x)) disk secrets reached is = tt
halves_caused tells (FaultOf fault.HeightRange) disk secrets reached is = tt
halves_caused tells (FaultOf (fault.MissingEpochInfo x)) disk secrets reached is = tt
halves_caused tells (FaultOf (fault.WrongEpoch x y)) disk secrets reached is = tt
halves_caused tells (FaultOf (fault.InvalidParticipants x)) disk secrets reached is = tt
halves_caused tells (FaultOf (fault.DirectoryMismatch x)) disk secrets reached is = tt
halves_caused tells (FaultOf (fault.LocalState x)) disk secrets reached is = tt
halves_caused tells (FaultOf fault.FinalBlockMissing) disk secrets reached is = tt
halves_caused tells (FaultOf fault.FloorBlockMissing) disk secrets reached is = tt
halves_caused tells Cut disk secrets reached is = absurd is
halves_caused tells Failed disk secrets reached is = absurd is

pub halves_on : {T : Type 0} (tells : Bool) (result : Result T Stop) (disk secrets reached : Type 0) → IfErr result (λ stop. IsCaused stop ⊥ ⊥ ⊥) → IfErr result (λ stop. IsCausedBy tells stop disk secrets reached)
halves_on tells (Ok done) disk secrets reached is = tt
halves_on tells (Err stop) disk secrets reached is = halves_caused tells stop disk secrets reached is

-- A node that goes on has a life, so none of its steps fails.
pub not_failed : (n : Node) (living : IsLiving n.actor.state) (result : Result (Unit {0}) Stop) (same : Type 0) → FailsStop n.actor.state result same → (tells : Bool) (disk secrets reached : Type 0)
    → IfErr result (λ stop. IsCausedInStep tells stop disk secrets reached) → IfErr result (λ stop. IsCausedBy tells stop disk secrets reached)
not_failed n living (Ok done) same fails tells disk secrets reached is = tt
not_failed n living (Err Cut) same fails tells disk secrets reached is = is
not_failed n living (Err (FaultOf its)) same fails tells disk secrets reached is = by_fault its is
  where
    by_fault : (its : Fault) → IsCausedInStep tells (FaultOf its) disk secrets reached → IsCausedBy tells (FaultOf its) disk secrets reached
    by_fault its is = is
not_failed n living (Err Failed) same fails tells disk secrets reached is = in_state n.actor.state living (fails.only refl)
  where
    in_state : (s : NodeState) → IsLiving s → HasFailed s → IsCausedBy tells Failed disk secrets reached
    in_state New living failed = absurd failed
    in_state (Living life its) living failed = absurd failed
    in_state HadFailed living failed = absurd living

-- BLOCKS of a script's numbers

module _ (g : Lived) (number n : ℕ) (st : Live directory.Unit) (b : Block directory.Unit) (is : slice_get (blocks_in g.script) n ≡ Some b) where
  block_step : node_step (at_step g number) (Delivers b) st ≡ step_of g number (event.Final n) st
  block_step =
      sym (ap (λ (o : Option (Block directory.Unit)). option_map_or (λ its. node_step (at_step g number) its st) (option_map Delivers o) (Goes st)) is)

  feed_step : (request : ℕ) → node_step (at_step g number) (Reshare (Feed request b)) st ≡ step_of g number (event.Feed request n) st
  feed_step request =
      sym (ap (λ (o : Option (Block directory.Unit)). option_map_or (λ its. node_step (at_step g number) its st) (option_map (λ b. Reshare (Feed request b)) o) (Goes st)) is)

  module _ (node : Node) (result : Result (Unit {0}) Stop) where
    module _ (files files_now : Files) (image now : Files → Type 0) (old new : Moment) where
      pub block_made : Viewed node result (λ ended. MakesAt (on_devices (node_step (at_step g number) (Delivers b) st)) ended files image files_now now old new)
          → Viewed node result (λ ended. MakesAt (on_devices (step_of g number (event.Final n) st)) ended files image files_now now old new)
      block_made its =
          subst (λ (a : Course directory.Unit NodeStop (Live directory.Unit)). Viewed node result (λ ended. MakesAt (on_devices a) ended files image files_now now old new)) block_step its

      pub feed_made : (request : ℕ) → Viewed node result (λ ended. MakesAt (on_devices (node_step (at_step g number) (Reshare (Feed request b)) st)) ended files image files_now now old new)
          → Viewed node result (λ ended. MakesAt (on_devices (step_of g number (event.Feed request n) st)) ended files image files_now now old new)
      feed_made request its =
          subst (λ (a : Course directory.Unit NodeStop (Live directory.Unit)). Viewed node result (λ ended. MakesAt (on_devices a) ended files image files_now now old new)) (feed_step request) its

    module _ (out now : List Entry) where
      pub block_said : Viewed node result (λ ended. Tells (node_step (at_step g number) (Delivers b) st) ended out now)
          → Viewed node result (λ ended. Tells (step_of g number (event.Final n) st) ended out now)
      block_said its =
          subst (λ (a : Course directory.Unit NodeStop (Live directory.Unit)). Viewed node result (λ ended. Said (on_devices a) ended out now)) block_step its

      pub feed_said : (request : ℕ) → Viewed node result (λ ended. Tells (node_step (at_step g number) (Reshare (Feed request b)) st) ended out now)
          → Viewed node result (λ ended. Tells (step_of g number (event.Feed request n) st) ended out now)
      feed_said request its =
          subst (λ (a : Course directory.Unit NodeStop (Live directory.Unit)). Viewed node result (λ ended. Said (on_devices a) ended out now)) (feed_step request) its

-- a block that is delivered is within the limit
pub within_source : (limit : ℕ) (source : HeldBlocks) (its : Event) (n : ℕ) (b : Block directory.Unit) → its ≡ event.Final n → slice_get source.blocks.now n ≡ Some b → IsEventHere limit source its → CarriesWithin limit b
within_source limit source its n b is there here =
    subst (λ (o : Option (Block directory.Unit)). IsSomeAnd o (CarriesWithin limit)) there (subst (IsEventHere limit source) is here).1
