-- What a node's opening and its steps leave on the devices, wherever they end.
use Rattle.std.specs.Prelude.{ℕ, List, [], ◌∷◌, ◌++◌, ◌≤◌, ◌≡◌, Some}
use Rattle.std.specs.List.{AllByRecursion}
use Rattle.std.specs.FinMap.{get}
use Rattle.dkg_ceremony.specs.declared.round.RoundParts.{RoundParts as Round}
use Rattle.dkg_infos.specs.declared.entry.Entry.{Entry}
use Rattle.dkg_infos.specs.declared.entry.Entry.TheVariants.{Opened}
use Rattle.dkg_infos.specs.declared.entry.Restored.{Restored}
use Rattle.dkg_store.specs.Acts.{World, Ended, went, broken, notes}
use Rattle.dkg_store.specs.Pairs.{Pairs, IsWhole}
use Rattle.dkg_store.specs.Recorded.{restored_list}
use Rattle.dkg_core.specs.Courses.{EndsSo}
use Rattle.dkg_core.specs.Fixed.{Fixed}
use Rattle.dkg_core.specs.Behind.{event_of, IsAside}
use Rattle.dkg_core.specs.Live.{Live, NodeStop, Message, Peer, Reshare}
use Rattle.dkg_core.specs.Node.{node_opening, node_step}
use Rattle.dkg_core.specs.Laws.{StartsWithin, reach_of}
use Rattle.dkg_core.specs.Meant.{ReadsRecords}
use Rattle.dkg_core.specs.Heard.{recovered_in, KeepsFrom, Agrees, IsKeptAt}
use Rattle.dkg_core.specs.Agreeing.{AreAgreed, CanRecord}

-- AN OPENING

-- The line of a life's opening with this list stands first, and behind it lines that are no dealing's; only what was broken off may have said nothing.
abbrev pub BeginsRestored : {F S : Type 0} → (life : ℕ) → List Restored → List Entry → Ended F S → Type 0
BeginsRestored life restored (Opened its listed ∷ lines) ended = (its ≡ life) × (listed ≡ restored) × AllByRecursion IsAside lines
BeginsRestored life restored [] (broken cause) = Unit {0}
BeginsRestored life restored lines ended = ⊥

-- AN OPENING lists first what the devices give back, and tells nothing of dealings behind it.
abbrev pub NodeOpeningsRestore : Type 0 → Type 0
NodeOpeningsRestore Dir = (c : Fixed Dir) (ended : Ended NodeStop (Live Dir)) (w new : World) → ReadsRecords c.seen → EndsSo (node_opening c) ended w new
    → (lines : List Entry) × (new.out ≡ w.out ++ lines) × BeginsRestored c.life (restored_list (recovered_in w.held)) lines ended

-- It keeps every dealing of the epoch that it starts in and of the one before, and whole devices stay whole.
abbrev pub NodeOpeningsKeep : Type 0 → Type 0
NodeOpeningsKeep Dir = (c : Fixed Dir) (ended : Ended NodeStop (Live Dir)) (most : ℕ) (w new : World) → StartsWithin c most → EndsSo (node_opening c) ended w new
    → KeepsFrom most w.held new × (IsWhole (notes w.held) w.held.secrets → IsWhole (notes new.held) new.held.secrets)

-- Over whole devices it leaves in memory what they give back.
abbrev pub NodeOpeningsAgree : Type 0 → Type 0
NodeOpeningsAgree Dir = (c : Fixed Dir) (end : Live Dir) (w new : World) → ReadsRecords c.seen → IsWhole (notes w.held) w.held.secrets
    → EndsSo (node_opening c) (went end) w new → AreAgreed end.records new.held

-- A STEP

-- A PEER'S MESSAGE keeps the promise, wherever the step ends and whatever an operation in hand leaves.
abbrev pub NodePeersAreKept : Type 0 → Type 0
NodePeersAreKept Dir = (c : Fixed Dir) (st : Live Dir) (from : ℕ) (bytes : List ℕ) (round : Round) (ended : Ended NodeStop (Live Dir)) (w new : World) (pairs : Pairs)
    → st.participation.round ≡ Some round → Agrees c st from bytes pairs w → EndsSo (node_step c (Reshare (Peer from bytes)) st) ended w new → IsKeptAt c st from round w.out pairs new

-- Memory has what the devices give back behind a step that went to its end, whatever it takes.
abbrev pub NodeStepsAgree : Type 0 → Type 0
NodeStepsAgree Dir = (c : Fixed Dir) (st end : Live Dir) (message : Message Dir) (w new : World) → AreAgreed st.records w.held → CanRecord c st message
    → EndsSo (node_step c (event_of message) st) (went end) w new → AreAgreed end.records new.held

-- A step gives back each dealing that was given back before it, of the epochs from the one that it may prune below.
abbrev pub NodeStepsGiveBack : Type 0 → Type 0
NodeStepsGiveBack Dir = (c : Fixed Dir) (st : Live Dir) (message : Message Dir) (ended : Ended NodeStop (Live Dir)) (most : ℕ) (w new : World) → reach_of c message ≤ most
    → AreAgreed st.records w.held → CanRecord c st message → EndsSo (node_step c (event_of message) st) ended w new
    → (key : ℕ × ℕ) (pair : List ℕ × ℕ) → most ≤ key.0 → get (recovered_in w.held) key ≡ Some pair → get (recovered_in new.held) key ≡ Some pair
