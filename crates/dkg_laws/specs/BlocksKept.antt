-- What steps leave of what was recorded, wherever they end, and the lines of a delivered block.
use Rattle.std.specs.Prelude.{◌≡◌, ◌≤◌, ◌++◌, ℕ, List, [], Some}
use Rattle.std.specs.List.{AllByRecursion}
use Rattle.std.specs.FinMap.{get}
use Rattle.dkg_types.specs.Blocks.{Block}
use Rattle.dkg_infos.specs.declared.entry.Entry.{Entry}
use Rattle.dkg_store.specs.Acts.{World, Ended, notes, plan}
use Rattle.dkg_store.specs.Noted.{Notes, acks_in, logs_in}
use Rattle.dkg_store.specs.Pairs.{IsWhole}
use Rattle.dkg_core.specs.Courses.{EndsSo}
use Rattle.dkg_core.specs.Fixed.{Fixed}
use Rattle.dkg_core.specs.Live.{Live, NodeStop, Message, Finalized, Delivers}
use Rattle.dkg_core.specs.Node.{node_step}
use Rattle.dkg_core.specs.Behind.{event_of}
use Rattle.dkg_core.specs.Laws.{IsDealtToItself, IsOffered, OtherEntry, reach_of}
use Rattle.dkg_core.specs.Heard.{recovered_in}
use Rattle.dkg_core.specs.Agreeing.{AreAgreed, CanRecord}
use Rattle.dkg_core.specs.Forms.{IsForm, IsLiveIn, IsTakenIn}

-- From an epoch on: what was noted under a key is noted.
abbrev pub StillNoted : {V : Type 0} → (min : ℕ) → (old new : Notes V) → Type 0
StillNoted {V} min old new = (key : ℕ × ℕ) (value : V) → min ≤ key.0 → get old key ≡ Some value → get new key ≡ Some value

-- .. and nothing else
abbrev pub SameNoted : {V : Type 0} → (min : ℕ) → (old new : Notes V) → Type 0
SameNoted min old new = (key : ℕ × ℕ) → min ≤ key.0 → get new key ≡ get old key

-- ANY STEP keeps the recorded acknowledgements and logs, of the epochs that it prunes nothing of, if what it may record fits a record,
abbrev pub NodeStepsKeepNotes : Type 0 → Type 0
NodeStepsKeepNotes Dir = (c : Fixed Dir) (st : Live Dir) (message : Message Dir) (ended : Ended NodeStop (Live Dir)) (most : ℕ) (w new : World) → reach_of c message ≤ most
    → AreAgreed st.records w.held → CanRecord c st message → EndsSo (node_step c (event_of message) st) ended w new
    → StillNoted most (acks_in (notes w.held)) (acks_in (notes new.held)) × StillNoted most (logs_in (notes w.held)) (logs_in (notes new.held))

-- .. and the plan.
abbrev pub NodeStepsKeepPlans : Type 0 → Type 0
NodeStepsKeepPlans Dir = (c : Fixed Dir) (st : Live Dir) (message : Message Dir) (ended : Ended NodeStop (Live Dir)) (w new : World) → EndsSo (node_step c (event_of message) st) ended w new
    → plan new.held ≡ plan w.held

-- Nothing is acknowledged, of dealings this node's own alone is recorded, and what its dealer deals is offered.
abbrev pub IsLineOfBlock : {Dir : Type 0} → Fixed Dir → Live Dir → Entry → Type 0
IsLineOfBlock c st line = OtherEntry c (IsDealtToItself c st) (IsOffered c st) [] line

-- Such lines were added, the devices are whole, and what they gave back of these epochs they give back.
pub record IsKeptBehind {Dir : Type 0} (c : Fixed Dir) (st : Live Dir) (most : ℕ) (w new : World) : Type 0 where
  pub lines : List Entry
  pub out : new.out ≡ w.out ++ lines
  pub said : AllByRecursion (IsLineOfBlock c st) lines
  pub whole : IsWhole (notes new.held) new.held.secrets
  pub dealings : StillNoted most (recovered_in w.held) (recovered_in new.held)
  pub acks : StillNoted most (acks_in (notes w.held)) (acks_in (notes new.held))
  pub logs : StillNoted most (logs_in (notes w.held)) (logs_in (notes new.held))

-- A BLOCK keeps what was recorded, of the epochs that it prunes nothing of, wherever the node's step ends.
abbrev pub BlocksKeep : Type 0 → Type 0
BlocksKeep Dir = (c : Fixed Dir) (b : Block Dir) (st : Live Dir) (ended : Ended NodeStop (Live Dir)) (most : ℕ) (w new : World) → reach_of c (Finalized b) ≤ most
    → AreAgreed st.records w.held → CanRecord c st (Finalized b) → EndsSo (node_step c (Delivers b) st) ended w new → IsKeptBehind c st most w new

-- A STEP OF THE FORM records no log: those of these epochs are as they were, if what it may record fits a record.
abbrev pub NodeStepsSpareTheirLogs : Type 0 → Type 0
NodeStepsSpareTheirLogs Dir = (c : Fixed Dir) (st : Live Dir) (message : Message Dir) (ended : Ended NodeStop (Live Dir)) (most : ℕ) (w new : World) → IsForm c → IsTakenIn c message st
    → IsLiveIn c st → reach_of c message ≤ most → AreAgreed st.records w.held → CanRecord c st message → EndsSo (node_step c (event_of message) st) ended w new
    → SameNoted most (logs_in (notes w.held)) (logs_in (notes new.held))
