-- What a node's step says, whose life passes through whole epochs.
use Rattle.std.proofs.Common.{◌⊎◌, inl, inr, ℕ, Option, Some, None}
use Rattle.std.specs.Prelude.{◌+◌, ◌==◌, nat_lt, if◌then◌else◌, is_some}
use Rattle.dkg_values.specs.Rising.{lookup}
use Rattle.dkg_ceremony.specs.Schedule.{last}
use Rattle.dkg_fence.specs.declared.fence.Waited.{Waited}
use Rattle.dkg_fence.specs.declared.fence.Waited.TheVariants as waits
use Rattle.dkg_fence.specs.Fence.{waited}
use Rattle.dkg_types.specs.Blocks.{Block}
use Rattle.dkg_types.specs.BlockCodes.{info_of}
use Rattle.dkg_infos.specs.declared.entry.Entry.{Entry}
use Rattle.dkg_infos.specs.declared.entry.Entry.TheVariants.{Entered, Halted, Acked}
use Rattle.dkg_infos.specs.declared.fault.Fault.TheVariants.{MissingEpochInfo, SkippedHeight, WrongEpoch}
use Rattle.dkg_infos.specs.declared.info.EpochInfo.{EpochInfo}
use Rattle.dkg_types.specs.declared.scheme.SchemeInfo.{SchemeInfo}
use Rattle.dkg_core.specs.Courses.{Course, Say, Do, CallOutside, Ask, Goes, Stops, Genesis, bind, under}
use Rattle.dkg_core.specs.Fixed.{Fixed}
use Rattle.dkg_core.specs.Live.{Live, Orchestrator, Waiting, NodeStop, Faulted, Mailed, Finalized}
use Rattle.dkg_core.specs.Core.{step}
use Rattle.dkg_core.specs.Entering as half
use Rattle.dkg_core.specs.Entering.{LifeAndAnswer, HalfAnswer, AcknowledgesBlock, Withholds, active, takes_delivered}
use Rattle.dkg_core.specs.Node.{node_step, unless_once}
use Rattle.dkg_core.specs.Behind.{event_of}
use Rattle.dkg_core.specs.SayingThrough.{SaysSo, IsLineThrough}
use Rattle.dkg_laws.specs.NodeSaying.{IsHalfLine, NodeStepsSayThrough}
use Rattle.dkg_core.proofs.SayingThrough.{block_so, mail_so, said_so, so_behind, so_if, so_option}

-- to more, and under other names for its faults
so_as : {Dir F S : Type 0} (P Q : Entry → Type 0) (course : Course Dir F S) → ((line : Entry) → P line → Q line) → SaysSo P course → SaysSo Q course
so_as P Q (Say line course) more so = (more line so.0, so_as P Q course more so.1)
so_as P Q (Do op course) more so = so_as P Q course more so
so_as P Q (CallOutside outer course) more so = so_as P Q course more so
so_as P Q (Ask f) more so = λ h. so_as P Q (f h) more (so h)
so_as P Q (Goes end) more so = tt
so_as P Q (Stops fault) more so = tt

so_under : {Dir F G S : Type 0} (P : Entry → Type 0) (name : F → G) (course : Course Dir F S) → SaysSo P course → SaysSo P (under name course)
so_under P name (Say line course) so = (so.0, so_under P name course so.1)
so_under P name (Do op course) so = so_under P name course so
so_under P name (CallOutside outer course) so = so_under P name course so
so_under P name (Ask f) so = λ h. so_under P name (f h) (so h)
so_under P name (Goes end) so = tt
so_under P name (Stops fault) so = tt

-- THE ORCHESTRATOR'S HALF

module _ {Dir : Type 0} (c : Fixed Dir) (P : Entry → Type 0) (tells : (line : Entry) → IsHalfLine line → P line) where
  abbrev Half_so : Course Dir NodeStop (LifeAndAnswer Dir) → Type 0
  Half_so course = SaysSo P course

  starts : (o : Orchestrator Dir) (w : Waiting Dir) (found : Option SchemeInfo) (st : Live Dir) → Half_so (half.starts_engine o w found st)
  starts o w None st = tt
  starts o w (Some scheme) st = stopped o.entered
    where
      stopped : (old : Option ℕ) → SaysSo P (half.stops_engine old (Say (Entered w.epoch) (half.leaves (half.with_entered w.epoch o) AcknowledgesBlock st)))
      stopped None = (tells (Entered w.epoch) tt, tt)
      stopped (Some old) = (tells (Entered w.epoch) tt, tt)

  tracks : (o : Orchestrator Dir) (w : Waiting Dir) (lacking : Option ℕ) (st : Live Dir) → Half_so (half.tracks_peers o w lacking st)
  tracks o w (Some peer) st = tt
  tracks o w None st = starts o w (lookup w.epoch o.schemes) st

  waits_so : (o : Orchestrator Dir) (w : Waiting Dir) (answer : Waited) (st : Live Dir) → Half_so (half.waited_for c o w answer st)
  waits_so o w waits.Ready st = tracks o w (c.directories.lacking w.info.directory (half.peers_for w)) st
  waits_so o w waits.Pending st = tt
  waits_so o w waits.Closed st = (tells Halted tt, tt)

  enters : (w : Waiting Dir) (st : Live Dir) → Half_so (half.enters c w st)
  enters w st =
      let answer = half.wait_for st.orchestrator.fence w.epoch in waits_so (record st.orchestrator { fence = waited w.epoch answer st.orchestrator.fence }) w answer st

  enters_at : (block : Block Dir) (epoch : ℕ) (height : Option ℕ) (st : Live Dir) → Half_so (half.enters_at c block epoch height st)
  enters_at block epoch height st =
      let goes : EpochInfo Dir → Course Dir NodeStop (LifeAndAnswer Dir) = λ info. half.enters c (record { epoch = epoch; info = info; floor = Genesis block.digest; block = height }) st in
      let wrong : EpochInfo Dir → Course Dir NodeStop (LifeAndAnswer Dir) = λ info. Stops (Faulted (WrongEpoch epoch info.epoch)) in
      so_option P (λ (info : EpochInfo Dir). if info.epoch == epoch then goes info else wrong info) (info_of block.payload) (Stops (Faulted (MissingEpochInfo block.height)))
      (λ info e. so_if P (info.epoch == epoch) (goes info) (wrong info) (λ e. enters (record { epoch = epoch; info = info; floor = Genesis block.digest; block = height }) st) (λ e. tt)) tt

  acked : (height : ℕ) (answer : HalfAnswer) (st : Live Dir) → SaysSo P (half.acked_at height answer st)
  acked height AcknowledgesBlock st = (tells (Acked height) tt, tt)
  acked height Withholds st = tt

  acked_late : (height : Option ℕ) (left : LifeAndAnswer Dir) → SaysSo P (half.acked_late height left)
  acked_late None left = tt
  acked_late (Some height) left = acked height left.answer left.live

  again : (st : Live Dir) → SaysSo P (half.asks_again c st)
  again st =
      so_option P (λ (w : Waiting Dir). bind (half.enters c w st) (half.acked_late w.block)) st.orchestrator.waiting (Goes st)
      (λ w e. so_behind P (half.enters c w st) (half.acked_late w.block) (enters w st) (λ left. acked_late w.block left)) tt

  delivers_in : (block : Block Dir) (st : Live Dir) (found : Option ℕ) → Half_so (half.delivered_in c block st found)
  delivers_in block st None = tt
  delivers_in block st (Some epoch) =
      so_if P (nat_lt (last c.blocks_per_epoch epoch) block.height) (Stops (Faulted (SkippedHeight (last c.blocks_per_epoch epoch) block.height)))
      (if nat_lt block.height (last c.blocks_per_epoch epoch) then half.leaves st.orchestrator AcknowledgesBlock st else half.enters_at c block (epoch + 1) (Some block.height) st) (λ e. tt)
      (λ e. so_if P (nat_lt block.height (last c.blocks_per_epoch epoch)) (half.leaves st.orchestrator AcknowledgesBlock st) (half.enters_at c block (epoch + 1) (Some block.height) st) (λ e. tt)
      (λ e. enters_at block (epoch + 1) (Some block.height) st))

  delivers : (block : Block Dir) (st : Live Dir) → Half_so (takes_delivered c block st)
  delivers block st = so_behind P (half.asks_again c st) (λ now. half.delivered_in c block now (active now.orchestrator)) (again st) (λ now. delivers_in block now (active now.orchestrator))

  behind_mail : (st : Live Dir) → SaysSo P (unless_once c (half.asks_again c st) (Goes st))
  behind_mail st = so_if P (is_some c.oneshot) (Goes st) (half.asks_again c st) (λ e. tt) (λ e. again st)

  behind_block : (block : Block Dir) (st : Live Dir) → SaysSo P (unless_once c (bind (takes_delivered c block st) (λ left. half.acked_at block.height left.answer left.live)) (Say (Acked block.height) (Goes st)))
  behind_block block st =
      so_if P (is_some c.oneshot) (Say (Acked block.height) (Goes st)) (bind (takes_delivered c block st) (λ left. half.acked_at block.height left.answer left.live)) (λ e. (tells (Acked block.height) tt, tt))
      (λ e. so_behind P (takes_delivered c block st) (λ left. half.acked_at block.height left.answer left.live) (delivers block st) (λ left. acked block.height left.answer left.live))

pub node_steps_say_through : {Dir : Type 0} → NodeStepsSayThrough Dir
node_steps_say_through c stored st (Finalized block) ended old new form reads taken live said =
    let P : Entry → Type 0 = λ line. IsLineThrough c stored st (Finalized block) line ⊎ IsHalfLine line in
    said_so P (node_step c (event_of (Finalized block)) st) ended old new
    (so_behind P (under Faulted (step c (Finalized block) st))
    (λ now. unless_once c (bind (takes_delivered c block now) (λ left. half.acked_at block.height left.answer left.live)) (Say (Acked block.height) (Goes now)))
    (so_under P Faulted (step c (Finalized block) st) (so_as (IsLineThrough c stored st (Finalized block)) P (step c (Finalized block) st) (λ line is. inl is) (block_so c form stored reads st live block)))
    (λ now. behind_block c P (λ line is. inr is) block now)) said
node_steps_say_through c stored st (Mailed mail) ended old new form reads taken live said =
    let P : Entry → Type 0 = λ line. IsLineThrough c stored st (Mailed mail) line ⊎ IsHalfLine line in
    said_so P (node_step c (event_of (Mailed mail)) st) ended old new
    (so_behind P (under Faulted (step c (Mailed mail) st)) (λ now. unless_once c (half.asks_again c now) (Goes now))
    (so_under P Faulted (step c (Mailed mail) st) (so_as (IsLineThrough c stored st (Mailed mail)) P (step c (Mailed mail) st) (λ line is. inl is) (mail_so c form stored reads st live mail taken)))
    (λ now. behind_mail c P (λ line is. inr is) now)) said
