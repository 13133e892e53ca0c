-- The orchestrator's half: which epoch is entered, and which blocks it acknowledges.
use Rattle.std.specs.Prelude.{ℕ, Bool, true, false, ◌+◌, ◌==◌, ◌||◌, nat_lt, nat_le, Option, Some, None, is_some, if◌then◌else◌}
use Rattle.std.specs.Option.{option_map_or}
use Rattle.dkg_values.specs.Rising.{lookup}
use Rattle.dkg_ceremony.specs.Schedule.{epoch_of, boundary, last}
use Rattle.dkg_fence.specs.declared.fence.Waited.{Waited}
use Rattle.dkg_fence.specs.declared.fence.Waited.TheVariants as waits
use Rattle.dkg_fence.specs.Fence.{waited}
use Rattle.dkg_fence.specs.Readiness.{Readiness}
use Rattle.dkg_types.specs.Blocks.{Block}
use Rattle.dkg_types.specs.BlockCodes.{info_of}
use Rattle.dkg_infos.specs.declared.entry.Entry.TheVariants.{Entered, Halted, Hint, Acked}
use Rattle.dkg_infos.specs.declared.fault.Fault.TheVariants.{MissingEpochInfo, WrongEpoch, SkippedHeight, HeightRange}
use Rattle.dkg_infos.specs.declared.info.EpochInfo.{EpochInfo}
use Rattle.dkg_infos.specs.declared.participants.TrackedPeers.{TrackedPeers}
use Rattle.dkg_types.specs.declared.scheme.SchemeInfo.{SchemeInfo}
use Rattle.dkg_probe.specs.Probing.{tracked_of}
use Rattle.dkg_core.specs.Courses.{Course, Say, CallOutside, Goes, Stops, bind, Genesis, Certified, Tracks, StartsEngine, StopsEngine}
use Rattle.dkg_core.specs.Fixed.{Fixed, Material, start}
use Rattle.dkg_core.specs.Live.{Live, Orchestrator, Waiting, NodeStop, Faulted, MissingScheme, PeerSet, with_orchestrator}
use Rattle.dkg_core.specs.Setup.{participants_of, is_past_range}

-- whether this half acknowledges the block in hand
pub data HalfAnswer : Type 0 where
  AcknowledgesBlock : HalfAnswer
  Withholds : HalfAnswer

-- the life as this half leaves it, and what it answers
pub record LifeAndAnswer (Dir : Type 0) : Type 0 where
  pub live : Live Dir
  pub answer : HalfAnswer

abbrev pub leaves : {Dir : Type 0} → Orchestrator Dir → HalfAnswer → Live Dir → Course Dir NodeStop (LifeAndAnswer Dir)
leaves o answer st = Goes (record { live = with_orchestrator o st; answer = answer })

abbrev pub is_ready : Option ℕ → (epoch : ℕ) → Bool
is_ready ready epoch = option_map_or (λ greatest. nat_le epoch greatest) ready false

-- what a wait for an epoch answers
abbrev pub wait_for : Readiness → (epoch : ℕ) → Waited
wait_for fence epoch = if is_ready fence.ready epoch then waits.Ready else if fence.closed then waits.Closed else waits.Pending

abbrev pub stops_engine : {Dir F S : Type 0} → Option ℕ → Course Dir F S → Course Dir F S
stops_engine None course = course
stops_engine (Some epoch) course = CallOutside (StopsEngine epoch) course

abbrev pub with_entered : {Dir : Type 0} → (epoch : ℕ) → Orchestrator Dir → Orchestrator Dir
with_entered epoch o = record o { entered = Some epoch; waiting = None }

-- Entered: the new engine starts, and then the old one stops.
abbrev pub starts_engine : {Dir : Type 0} → Orchestrator Dir → Waiting Dir → Option SchemeInfo → Live Dir → Course Dir NodeStop (LifeAndAnswer Dir)
starts_engine o w None st = Stops (MissingScheme w.epoch)
starts_engine o w (Some scheme) st =
    CallOutside (StartsEngine w.epoch w.floor scheme) (stops_engine o.entered (Say (Entered w.epoch) (leaves (with_entered w.epoch o) AcknowledgesBlock st)))

-- the peers of a waiting epoch, and which of them its directory lacks first
abbrev pub peers_for : {Dir : Type 0} → Waiting Dir → TrackedPeers
peers_for w = tracked_of (participants_of w.info)

-- Behind the fence: the peers are tracked, and then the scheme is asked for.
abbrev pub tracks_peers : {Dir : Type 0} → Orchestrator Dir → Waiting Dir → (lacking : Option ℕ) → Live Dir → Course Dir NodeStop (LifeAndAnswer Dir)
tracks_peers o w (Some peer) st = Stops (PeerSet peer)
tracks_peers o w None st = CallOutside (Tracks w.epoch (peers_for w) w.info.directory) (starts_engine o w (lookup w.epoch o.schemes) st)

abbrev pub halts : {Dir : Type 0} → Orchestrator Dir → Live Dir → Course Dir NodeStop (LifeAndAnswer Dir)
halts o st = Say Halted (leaves (record o { halted = true; waiting = None }) Withholds st)

abbrev pub waited_for : {Dir : Type 0} → Fixed Dir → Orchestrator Dir → Waiting Dir → Waited → Live Dir → Course Dir NodeStop (LifeAndAnswer Dir)
waited_for c o w waits.Ready st = tracks_peers o w (c.directories.lacking w.info.directory (peers_for w)) st
waited_for c o w waits.Pending st = leaves (record o { waiting = Some w }) Withholds st
waited_for c o w waits.Closed st = halts o st

-- An epoch is entered once the fence is ready for it. A half that waits asks again in each step.
abbrev pub enters : {Dir : Type 0} → Fixed Dir → Waiting Dir → Live Dir → Course Dir NodeStop (LifeAndAnswer Dir)
enters c w st =
    let answer = wait_for st.orchestrator.fence w.epoch in
    waited_for c (record st.orchestrator { fence = waited w.epoch answer st.orchestrator.fence }) w answer st

-- a block that begins an epoch carries the epoch's info
abbrev pub beginning : {Dir S : Type 0} → Block Dir → (epoch : ℕ) → (EpochInfo Dir → Course Dir NodeStop S) → Course Dir NodeStop S
beginning b epoch f =
    option_map_or (λ info. if info.epoch == epoch then f info else Stops (Faulted (WrongEpoch epoch info.epoch))) (info_of b.payload) (Stops (Faulted (MissingEpochInfo b.height)))

abbrev pub enters_at : {Dir : Type 0} → Fixed Dir → Block Dir → (epoch : ℕ) → (block : Option ℕ) → Live Dir → Course Dir NodeStop (LifeAndAnswer Dir)
enters_at c b epoch block st = beginning b epoch (λ info. enters c (record { epoch = epoch; info = info; floor = Genesis b.digest; block = block }) st)

-- THE OPENING

abbrev pub opens_at : {Dir : Type 0} → Fixed Dir → (epoch : ℕ) → Option (Block Dir) → Live Dir → Course Dir NodeStop (LifeAndAnswer Dir)
opens_at c epoch None st = halts st.orchestrator st
opens_at c epoch (Some b) st = enters_at c b epoch None st

-- the height above the position that the source tells
abbrev pub start_height : {Dir : Type 0} → Fixed Dir → ℕ
start_height c = option_map_or (λ t. t.height + 1) (start c) 0

-- The start epoch is the material's, else that of the height above the source's position. Without its boundary block this half halts.
abbrev pub opens_half : {Dir : Type 0} → Fixed Dir → Option (Material Dir) → Live Dir → Course Dir NodeStop (LifeAndAnswer Dir)
opens_half c (Some m) st = enters c (record { epoch = m.info.epoch; info = m.info; floor = Certified m.floor; block = None }) st
opens_half c None st =
    let epoch = epoch_of c.blocks_per_epoch (start_height c) in
    if is_past_range c (start_height c) then Stops (Faulted HeightRange) else opens_at c epoch (c.source.block (boundary c.blocks_per_epoch epoch)) st

-- A STEP

-- where both halves acknowledged, the block at this height is acknowledged
abbrev pub acked_at : {Dir : Type 0} → (height : ℕ) → HalfAnswer → Live Dir → Course Dir NodeStop (Live Dir)
acked_at height AcknowledgesBlock st = Say (Acked height) (Goes st)
acked_at height Withholds st = Goes st

abbrev pub acked_late : {Dir : Type 0} → (block : Option ℕ) → LifeAndAnswer Dir → Course Dir NodeStop (Live Dir)
acked_late None half = Goes half.live
acked_late (Some height) half = acked_at height half.answer half.live

-- A waiting half asks the fence first; the last block that waited is acknowledged once its epoch is entered.
abbrev pub asks_again : {Dir : Type 0} → Fixed Dir → Live Dir → Course Dir NodeStop (Live Dir)
asks_again c st = option_map_or (λ w. bind (enters c w st) (acked_late w.block)) st.orchestrator.waiting (Goes st)

-- the epoch of a half that neither halted nor waits
abbrev pub active : {Dir : Type 0} → Orchestrator Dir → Option ℕ
active o = if o.halted || is_some o.waiting then None else o.entered

abbrev pub delivered_in : {Dir : Type 0} → Fixed Dir → Block Dir → Live Dir → Option ℕ → Course Dir NodeStop (LifeAndAnswer Dir)
delivered_in c b st None = leaves st.orchestrator Withholds st
delivered_in c b st (Some epoch) =
    if nat_lt (last c.blocks_per_epoch epoch) b.height then Stops (Faulted (SkippedHeight (last c.blocks_per_epoch epoch) b.height))
    else if nat_lt b.height (last c.blocks_per_epoch epoch) then leaves st.orchestrator AcknowledgesBlock st
    else enters_at c b (epoch + 1) (Some b.height) st

-- A block below the entered epoch's last is acknowledged, and the last one after the next epoch was entered. While this half waits for the fence, a
-- block is neither acknowledged nor judged.
abbrev pub takes_delivered : {Dir : Type 0} → Fixed Dir → Block Dir → Live Dir → Course Dir NodeStop (LifeAndAnswer Dir)
takes_delivered c b st = bind (asks_again c st) (λ st. delivered_in c b st (active st.orchestrator))

abbrev pub hints_in : {Dir : Type 0} → Fixed Dir → (from epoch : ℕ) → Live Dir → Option ℕ → Course Dir NodeStop (Live Dir)
hints_in c from epoch st None = Goes st
hints_in c from epoch st (Some entered) = if nat_lt entered epoch then Say (Hint (last c.blocks_per_epoch entered) from) (Goes st) else Goes st

-- Traffic of a later epoch asks its sender for the finalization of the entered epoch's last block.
abbrev pub hints : {Dir : Type 0} → Fixed Dir → (from epoch : ℕ) → Live Dir → Course Dir NodeStop (Live Dir)
hints c from epoch st = bind (asks_again c st) (λ st. hints_in c from epoch st (active st.orchestrator))
