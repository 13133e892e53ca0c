-- What a node's step says, whose life passes through whole epochs.
use Rattle.std.specs.Prelude.{◌≡◌, ◌⊎◌, ◌++◌, List, None}
use Rattle.std.specs.List.{AllByRecursion}
use Rattle.dkg_infos.specs.declared.entry.Entry.{Entry}
use Rattle.dkg_infos.specs.declared.entry.Entry.TheVariants.{Entered, Halted, Acked}
use Rattle.dkg_store.specs.Acts.{Ended}
use Rattle.dkg_core.specs.Courses.{on_devices}
use Rattle.dkg_core.specs.Said.{Said}
use Rattle.dkg_core.specs.Fixed.{Fixed}
use Rattle.dkg_core.specs.Live.{Live, NodeStop, Message}
use Rattle.dkg_core.specs.Node.{node_step}
use Rattle.dkg_core.specs.Behind.{event_of}
use Rattle.dkg_core.specs.Asked.{OfShares, ReadsShare}
use Rattle.dkg_core.specs.Through.{IsFormThrough, IsLiveThrough, IsTakenThrough}
use Rattle.dkg_core.specs.SayingThrough.{IsLineThrough}

-- what the orchestrator's half says of a message
abbrev pub IsHalfLine : Entry → Type 0
IsHalfLine (Entered epoch) = Unit {0}
IsHalfLine Halted = Unit {0}
IsHalfLine (Acked height) = Unit {0}
IsHalfLine line = ⊥

-- A NODE'S STEP says its reshare half's lines, and such lines behind them.
abbrev pub NodeStepsSayThroughAt : {Dir : Type 0} → Fixed Dir → OfShares → Type 0
NodeStepsSayThroughAt {Dir} c stored = (st : Live Dir) (message : Message Dir) (ended : Ended NodeStop (Live Dir)) (old new : List Entry) → IsFormThrough c → ReadsShare c stored None
    → IsTakenThrough c message st → IsLiveThrough c stored st → Said (on_devices (node_step c (event_of message) st)) ended old new
    → (added : List Entry) × (new ≡ old ++ added) × AllByRecursion (λ line. IsLineThrough c stored st message line ⊎ IsHalfLine line) added

abbrev pub NodeStepsSayThrough : Type 0 → Type 1
NodeStepsSayThrough Dir = (c : Fixed Dir) (stored : OfShares) → NodeStepsSayThroughAt c stored
