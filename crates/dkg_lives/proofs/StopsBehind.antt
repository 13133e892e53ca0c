-- Where a node's step of a block stops by its own state, its reshare half did: the orchestrator's half never does.
use Rattle.std.proofs.Common.{◌≡◌, ℕ, Bool, true, false, List, Option, Some, None, sym, subst}
use Rattle.std.specs.Prelude.{◌+◌, ◌==◌, ⊤, if◌then◌else◌, nat_lt, is_some}
use Rattle.std.specs.Option.{option_map_or}
use Rattle.dkg_values.specs.Rising.{lookup}
use Rattle.dkg_ceremony.specs.Schedule.{last}
use Rattle.dkg_fence.specs.Fence as fence
use Rattle.dkg_fence.specs.declared.fence.Waited.{Waited}
use Rattle.dkg_fence.specs.declared.fence.Waited.TheVariants as waits
use Rattle.dkg_types.specs.BlockCodes.{info_of}
use Rattle.dkg_types.specs.Blocks.{Block}
use Rattle.dkg_infos.specs.declared.entry.Entry.TheVariants.{Acked}
use Rattle.dkg_infos.specs.declared.fault.Fault.{Fault}
use Rattle.dkg_infos.specs.declared.fault.Fault.TheVariants.{LocalState, MissingEpochInfo, SkippedHeight, WrongEpoch}
use Rattle.dkg_infos.specs.declared.fault.LocalCause.{LocalCause}
use Rattle.dkg_infos.specs.declared.info.EpochInfo.{EpochInfo}
use Rattle.dkg_types.specs.declared.scheme.SchemeInfo.{SchemeInfo}
use Rattle.dkg_core.specs.Courses.{Ask, CallOutside, Course, Do, EndsSo, Genesis, Goes, Say, Stops, bind, under}
use Rattle.dkg_core.specs.Core.{step}
use Rattle.dkg_core.specs.Entering as half
use Rattle.dkg_core.specs.Entering.{LifeAndAnswer, HalfAnswer, AcknowledgesBlock, Withholds}
use Rattle.dkg_core.specs.Fixed.{Fixed}
use Rattle.dkg_core.specs.Live.{Delivers, Faulted, Finalized, Live, MissingScheme, NodeStop, Orchestrator, PeerSet, Waiting}
use Rattle.dkg_core.specs.Node.{node_step, unless_once}
use Rattle.dkg_store.specs.Acts.{Held, World, does, says, stopped}

abbrev IsElse : NodeStop → Type 0
IsElse (Faulted (LocalState cause)) = ⊥
IsElse stop = ⊤

-- it stops by no state of its own
abbrev NoLocal : {Dir S : Type 0} → Course Dir NodeStop S → Type 0
NoLocal (Say line course) = NoLocal course
NoLocal (Do op course) = NoLocal course
NoLocal (CallOutside outer course) = NoLocal course
NoLocal (Ask f) = (h : Held) → NoLocal (f h)
NoLocal (Goes end) = ⊤
NoLocal (Stops stop) = IsElse stop

never : {Dir S : Type 0} (course : Course Dir NodeStop S) (cause : LocalCause) (w new : World) → NoLocal course → EndsSo course (stopped (Faulted (LocalState cause))) w new → ⊥
never (Say line course) cause w new clear run = never course cause (says w line) new clear run
never (Do op course) cause w new clear run = never course cause (does w op) new clear run
never (CallOutside outer course) cause w new clear run = never course cause w new clear run
never (Ask f) cause w new clear run = never (f w.held) cause w new (clear w.held) run
never (Goes end) cause w new clear run = run
never (Stops stop) cause w new clear run = subst (λ (x : NodeStop). IsElse x) (sym run.1) clear

-- .. so the half did
stopped_half : {Dir S T : Type 0} (course : Course Dir Fault S) (behind : S → Course Dir NodeStop T) (cause : LocalCause) (w new : World) → ((end : S) → NoLocal (behind end))
    → EndsSo (bind (under Faulted course) behind) (stopped (Faulted (LocalState cause))) w new → EndsSo course (stopped (LocalState cause)) w new
stopped_half (Say line course) behind cause w new clear run = stopped_half course behind cause (says w line) new clear run
stopped_half (Do op course) behind cause w new clear run = stopped_half course behind cause (does w op) new clear run
stopped_half (CallOutside outer course) behind cause w new clear run = stopped_half course behind cause w new clear run
stopped_half (Ask f) behind cause w new clear run = stopped_half (f w.held) behind cause w new clear run
stopped_half (Goes end) behind cause w new clear run = absurd (never (behind end) cause w new (clear end) run)
stopped_half (Stops own) behind cause w new clear run = (run.0, the_fault run.1)
  where
    the_fault : {x y : Fault} → ◌≡◌ {A = NodeStop} (Faulted x) (Faulted y) → x ≡ y
    the_fault e = cc

-- THE ORCHESTRATOR'S HALF

no_bind : {Dir S T : Type 0} (course : Course Dir NodeStop S) (next : S → Course Dir NodeStop T) → NoLocal course → ((end : S) → NoLocal (next end)) → NoLocal (bind course next)
no_bind (Say line course) next clear more = no_bind course next clear more
no_bind (Do op course) next clear more = no_bind course next clear more
no_bind (CallOutside outer course) next clear more = no_bind course next clear more
no_bind (Ask f) next clear more = λ h. no_bind (f h) next (clear h) more
no_bind (Goes end) next clear more = more end
no_bind (Stops stop) next clear more = clear

no_if : {Dir S : Type 0} (t : Bool) (x y : Course Dir NodeStop S) → NoLocal x → NoLocal y → NoLocal (if t then x else y)
no_if true x y one other = one
no_if false x y one other = other

no_option : {Dir S A : Type 0} (o : Option A) (f : A → Course Dir NodeStop S) (none : Course Dir NodeStop S) → ((a : A) → NoLocal (f a)) → NoLocal none → NoLocal (option_map_or f o none)
no_option None f none some without = without
no_option (Some a) f none some without = some a

module _ {Dir : Type 0} (c : Fixed Dir) where
  stops : (entered : Option ℕ) (course : Course Dir NodeStop (LifeAndAnswer Dir)) → NoLocal course → NoLocal (half.stops_engine entered course)
  stops None course clear = clear
  stops (Some epoch) course clear = clear

  starts : (o : Orchestrator Dir) (w : Waiting Dir) (scheme : Option SchemeInfo) (st : Live Dir) → NoLocal (half.starts_engine o w scheme st)
  starts o w None st = tt
  starts o w (Some scheme) st = stops o.entered _ tt

  tracks : (o : Orchestrator Dir) (w : Waiting Dir) (lacking : Option ℕ) (st : Live Dir) → NoLocal (half.tracks_peers o w lacking st)
  tracks o w (Some peer) st = tt
  tracks o w None st = starts o w (lookup w.epoch o.schemes) st

  waited : (o : Orchestrator Dir) (w : Waiting Dir) (answer : Waited) (st : Live Dir) → NoLocal (half.waited_for c o w answer st)
  waited o w waits.Ready st = tracks o w (c.directories.lacking w.info.directory (half.peers_for w)) st
  waited o w waits.Pending st = tt
  waited o w waits.Closed st = tt

  enters : (w : Waiting Dir) (st : Live Dir) → NoLocal (half.enters c w st)
  enters w st = waited (record st.orchestrator { fence = fence.waited w.epoch (half.wait_for st.orchestrator.fence w.epoch) st.orchestrator.fence }) w (half.wait_for st.orchestrator.fence w.epoch) st

  enters_at : (b : Block Dir) (epoch : ℕ) (block : Option ℕ) (st : Live Dir) → NoLocal (half.enters_at c b epoch block st)
  enters_at b epoch block st =
      no_option (info_of b.payload) (λ (info : EpochInfo Dir). if info.epoch == epoch then half.enters c (begins info) st else Stops (Faulted (WrongEpoch epoch info.epoch))) (Stops (Faulted (MissingEpochInfo b.height)))
      (λ info. no_if (info.epoch == epoch) (half.enters c (begins info) st) (Stops (Faulted (WrongEpoch epoch info.epoch))) (enters (begins info) st) tt) tt
    where
      begins : EpochInfo Dir → Waiting Dir
      begins info = record { epoch = epoch; info = info; floor = Genesis b.digest; block = block }

  acked : (height : ℕ) (answer : HalfAnswer) (st : Live Dir) → NoLocal (half.acked_at height answer st)
  acked height AcknowledgesBlock st = tt
  acked height Withholds st = tt

  acked_late : (block : Option ℕ) (its : LifeAndAnswer Dir) → NoLocal (half.acked_late block its)
  acked_late None its = tt
  acked_late (Some height) its = acked height its.answer its.live

  asks : (st : Live Dir) → NoLocal (half.asks_again c st)
  asks st = no_option st.orchestrator.waiting (λ (w : Waiting Dir). bind (half.enters c w st) (half.acked_late w.block)) (Goes st)
      (λ w. no_bind (half.enters c w st) (half.acked_late w.block) (enters w st) (acked_late w.block)) tt

  by_epoch : (b : Block Dir) (st : Live Dir) (epoch : Option ℕ) → NoLocal (half.delivered_in c b st epoch)
  by_epoch b st None = tt
  by_epoch b st (Some epoch) =
      no_if (nat_lt (last c.blocks_per_epoch epoch) b.height) (Stops (Faulted (SkippedHeight (last c.blocks_per_epoch epoch) b.height)))
      (if nat_lt b.height (last c.blocks_per_epoch epoch) then half.leaves st.orchestrator AcknowledgesBlock st else half.enters_at c b (epoch + 1) (Some b.height) st) tt
      (no_if (nat_lt b.height (last c.blocks_per_epoch epoch)) (half.leaves st.orchestrator AcknowledgesBlock st) (half.enters_at c b (epoch + 1) (Some b.height) st) tt (enters_at b (epoch + 1) (Some b.height) st))

  delivered : (b : Block Dir) (st : Live Dir) → NoLocal (half.takes_delivered c b st)
  delivered b st = no_bind (half.asks_again c st) (λ now. half.delivered_in c b now (half.active now.orchestrator)) (asks st) (λ now. by_epoch b now (half.active now.orchestrator))

  pub block_stopped : (b : Block Dir) (st : Live Dir) (cause : LocalCause) (w new : World) → EndsSo (node_step c (Delivers b) st) (stopped (Faulted (LocalState cause))) w new
      → EndsSo (step c (Finalized b) st) (stopped (LocalState cause)) w new
  block_stopped b st cause w new run =
      stopped_half (step c (Finalized b) st) (λ now. unless_once c (bind (half.takes_delivered c b now) (λ its. half.acked_at b.height its.answer its.live)) (Say (Acked b.height) (Goes now))) cause w new
      (λ now. no_if (is_some c.oneshot) (Say (Acked b.height) (Goes now)) (bind (half.takes_delivered c b now) (λ its. half.acked_at b.height its.answer its.live)) tt
      (no_bind (half.takes_delivered c b now) (λ its. half.acked_at b.height its.answer its.live) (delivered b now) (λ its. acked b.height its.answer its.live))) run
