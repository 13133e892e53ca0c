-- How a node's steps end, whose life passes through whole epochs: the orchestrator's half enters each next epoch in the step that sets it up.
use Rattle.std.specs.Prelude.{◌≡◌, ◌⊎◌, ◌+◌, ℕ, true, false, List, Option, Some, None, IsSome}
use Rattle.dkg_values.specs.Rising.{lookup}
use Rattle.dkg_ceremony.specs.Schedule.{last}
use Rattle.dkg_types.specs.Blocks.{Block}
use Rattle.dkg_types.specs.BlockCodes.{info_of}
use Rattle.dkg_infos.specs.declared.entry.Entry.{Entry}
use Rattle.dkg_infos.specs.declared.info.EpochInfo.{EpochInfo}
use Rattle.dkg_store.specs.Acts.{Held, World, Ended}
use Rattle.dkg_core.specs.Courses.{on_devices, EndsSo}
use Rattle.dkg_core.specs.Said.{Said}
use Rattle.dkg_core.specs.Seen.{Seen}
use Rattle.dkg_core.specs.Fixed.{Fixed}
use Rattle.dkg_core.specs.Live.{Live, NodeStop, Message, Finalized, is_last_height, with_orchestrator}
use Rattle.dkg_core.specs.Entering.{LifeAndAnswer, AcknowledgesBlock, active, takes_delivered, is_ready}
use Rattle.dkg_core.specs.Node.{node_step}
use Rattle.dkg_core.specs.Behind.{event_of}
use Rattle.dkg_core.specs.Endings.{ComesTo, CameTo}
use Rattle.dkg_core.specs.NodeEndings.{IsFaultBy, LacksNobody}
use Rattle.dkg_core.specs.Forms.{IsForm, IsActiveIn, ComesOver, IsOpened, IsNodeBegun}
use Rattle.dkg_core.specs.Asked.{OfShares, read_somewhere}
use Rattle.dkg_core.specs.Through.{IsFormThrough, IsLiveThrough, IsTakenThrough, IsStopThrough, IsNextThrough, StepReads}

-- OPENINGS

-- A life that an opening leaves is one that passes through whole epochs.
abbrev pub OpeningsThroughAt : {Dir : Type 0} → Fixed Dir → OfShares → Type 0
OpeningsThroughAt {Dir} c stored = (seen : Seen) (k : Held) (st : Live Dir) → IsForm c → IsOpened c seen k st → IsLiveThrough c stored st

abbrev pub OpeningsThrough : Type 0 → Type 1
OpeningsThrough Dir = (c : Fixed Dir) (stored : OfShares) → OpeningsThroughAt c stored

-- The orchestrator's half waits for nothing, and its fence is open: it halted, or it has entered the awaited epoch of a life that takes part.
pub record IsActiveThrough {Dir : Type 0} (st : Live Dir) : Type 0 where
  pub active : IsActiveIn st
  pub unclosed : st.orchestrator.fence.closed ≡ false

-- .. and so it is of a node's opening.
abbrev pub NodeOpeningsThroughAt : {Dir : Type 0} → Fixed Dir → OfShares → Type 0
NodeOpeningsThroughAt {Dir} c stored = (seen : Seen) (k : Held) (st : Live Dir) → IsForm c → IsNodeBegun c seen k st → IsLiveThrough c stored st × IsActiveThrough st

abbrev pub NodeOpeningsThrough : Type 0 → Type 1
NodeOpeningsThrough Dir = (c : Fixed Dir) (stored : OfShares) → NodeOpeningsThroughAt c stored

-- THE ORCHESTRATOR'S HALF of the last block of the entered epoch never stops where the next one is ready and its scheme registered, where the block carries that
-- epoch's info, and directories lack nobody: it enters that epoch and acknowledges the block.
pub record HasPassedOn {Dir : Type 0} (st : Live Dir) (epoch : ℕ) (half : LifeAndAnswer Dir) : Type 0 where
  pub entered : half.live.orchestrator.entered ≡ Some epoch
  pub unawaited : half.live.orchestrator.waiting ≡ None
  pub going : half.live.orchestrator.halted ≡ false
  pub unclosed : half.live.orchestrator.fence.closed ≡ st.orchestrator.fence.closed
  pub same : half.live ≡ with_orchestrator half.live.orchestrator st
  pub answer : half.answer ≡ AcknowledgesBlock

abbrev pub HalvesPassOn : Type 0 → Type 0
HalvesPassOn Dir = (c : Fixed Dir) (st : Live Dir) (b : Block Dir) (epoch : ℕ) (info : EpochInfo Dir) → LacksNobody c → active st.orchestrator ≡ Some epoch → b.height ≡ last c.blocks_per_epoch epoch
    → st.orchestrator.waiting ≡ None → info_of b.payload ≡ Some info → info.epoch ≡ epoch + 1 → is_ready st.orchestrator.fence.ready (epoch + 1) ≡ true
    → IsSome (lookup (epoch + 1) st.orchestrator.schemes) → ComesTo (λ (stop : NodeStop). ⊥) (HasPassedOn st (epoch + 1)) (takes_delivered c b st)

-- A STEP

-- The reshare half left such a life, and behind it the orchestrator's half changed nothing but its own: nothing at all, but by an epoch's last block.
pub record IsNodeThrough {Dir : Type 0} (c : Fixed Dir) (stored : OfShares) (st : Live Dir) (message : Message Dir) (devices : Option Held) (end : Live Dir) (left : Option Held) : Type 0 where
  pub mid : Live Dir
  pub next : IsNextThrough c stored st message devices mid left
  pub same : end ≡ with_orchestrator end.orchestrator mid
  pub still : (end ≡ mid) ⊎ ((b : Block Dir) × (message ≡ Finalized b) × (is_last_height c b.height ≡ true) × (end.orchestrator.entered ≡ Some end.participation.epoch))
  pub live : IsLiveThrough c stored end
  pub active : IsActiveThrough end

-- A NODE'S STEP stops by the faults of its reshare half alone; or it leaves such a life, whose orchestrator waits for nothing.
abbrev pub NodeStepsComeThroughAt : {Dir : Type 0} → Fixed Dir → OfShares → Type 0
NodeStepsComeThroughAt {Dir} c stored = (st : Live Dir) (message : Message Dir) (devices : Option Held) → IsFormThrough c → LacksNobody c → StepReads c stored devices
    → IsTakenThrough c message st → IsLiveThrough c stored st → IsActiveThrough st
    → ComesOver (IsFaultBy (IsStopThrough c stored st message devices)) (IsNodeThrough c stored st message devices) (node_step c (event_of message) st) devices

abbrev pub NodeStepsComeThrough : Type 0 → Type 1
NodeStepsComeThrough Dir = (c : Fixed Dir) (stored : OfShares) → NodeStepsComeThroughAt c stored

-- .. whatever is read
abbrev pub NodeStepsLeadThrough : Type 0 → Type 0
NodeStepsLeadThrough Dir = (c : Fixed Dir) (st : Live Dir) (message : Message Dir) (ended : Ended NodeStop (Live Dir)) (old new : List Entry) → IsFormThrough c → LacksNobody c
    → IsTakenThrough c message st → IsLiveThrough c (read_somewhere c) st → IsActiveThrough st → Said (on_devices (node_step c (event_of message) st)) ended old new
    → CameTo (IsFaultBy (IsStopThrough c (read_somewhere c) st message None)) (λ end. IsNodeThrough c (read_somewhere c) st message None end None) ended

-- .. and over devices that tell
abbrev pub NodeStepsLeadThroughOver : Type 0 → Type 1
NodeStepsLeadThroughOver Dir = (c : Fixed Dir) (stored : OfShares) (st : Live Dir) (message : Message Dir) (ended : Ended NodeStop (Live Dir)) (w new : World) → IsFormThrough c → LacksNobody c
    → StepReads c stored (Some w.held) → IsTakenThrough c message st → IsLiveThrough c stored st → IsActiveThrough st → EndsSo (node_step c (event_of message) st) ended w new
    → CameTo (IsFaultBy (IsStopThrough c stored st message (Some w.held))) (λ end. IsNodeThrough c stored st message (Some w.held) end (Some new.held)) ended
