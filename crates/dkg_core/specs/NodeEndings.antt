-- A node's opening and its steps: in which words it is told how they end, what they say, and what they answer.
use Rattle.std.specs.Prelude.{◌≡◌, ℕ, List, [], ◌∷◌, ◌++◌, None}
use Rattle.std.specs.List.{AllByRecursion}
use Rattle.dkg_infos.specs.declared.entry.Entry.{Entry}
use Rattle.dkg_infos.specs.declared.entry.Entry.TheVariants.{Ack}
use Rattle.dkg_infos.specs.declared.fault.Fault.{Fault}
use Rattle.dkg_infos.specs.declared.participants.TrackedPeers.{TrackedPeers}
use Rattle.dkg_store.specs.Acts.{World, Ended, went}
use Rattle.dkg_core.specs.Courses.{on_devices, EndsSo}
use Rattle.dkg_core.specs.Said.{Said}
use Rattle.dkg_core.specs.Fixed.{Fixed}
use Rattle.dkg_core.specs.Live.{Live, NodeStop, Faulted, Message, Peer, Reshare}
use Rattle.dkg_core.specs.Node.{node_opening, node_step}
use Rattle.dkg_core.specs.Behind.{event_of}
use Rattle.dkg_core.specs.Laws.{IsQuiet, IsDue}
use Rattle.dkg_core.specs.Transcripts.{BeginsOpened}

-- HOW THEY END

abbrev pub LacksNobody : {Dir : Type 0} → Fixed Dir → Type 0
LacksNobody {Dir} c = (directory : Dir) (peers : TrackedPeers) → c.directories.lacking directory peers ≡ None

-- It is a fault, with this cause.
abbrev pub IsFaultBy : (Fault → Type 0) → NodeStop → Type 0
IsFaultBy P stop = (fault : Fault) × (stop ≡ Faulted fault) × P fault

-- WHAT THEY SAY, whatever the devices tell

-- A NODE'S OPENING says first that the life is opened, and then lines of its own alone.
abbrev pub NodeOpeningsAreQuiet : Type 0 → Type 0
NodeOpeningsAreQuiet Dir = (c : Fixed Dir) (ended : Ended NodeStop (Live Dir)) (old new : List Entry) → Said (on_devices (node_opening c)) ended old new
    → (added : List Entry) × (new ≡ old ++ added) × BeginsOpened c.life added ended

-- A NODE'S STEP says lines of its own alone, of whatever the reshare half takes.
abbrev pub NodeStepsAreQuiet : Type 0 → Type 0
NodeStepsAreQuiet Dir = (c : Fixed Dir) (st : Live Dir) (message : Message Dir) (ended : Ended NodeStop (Live Dir)) (old new : List Entry)
    → Said (on_devices (node_step c (event_of message) st)) ended old new → (added : List Entry) × (new ≡ old ++ added) × AllByRecursion IsQuiet added

-- WHAT IS DUE

-- A DUE MESSAGE is acknowledged last of all, where the orchestrator's half doesn't wait.
abbrev pub NodeDuesAreAnswered : Type 0 → Type 0
NodeDuesAreAnswered Dir = (c : Fixed Dir) (st end : Live Dir) (from : ℕ) (bytes : List ℕ) (due : IsDue c st from bytes) (w new : World) → st.orchestrator.waiting ≡ None
    → EndsSo (node_step c (Reshare (Peer from bytes)) st) (went end) w new → (before : List Entry) × (ack : List ℕ) × (new.out ≡ w.out ++ (before ++ Ack due.round.number from ack ∷ []))
