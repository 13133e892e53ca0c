-- Which share an epoch's last block puts, of a life that includes.
use Rattle.std.specs.Prelude.{◌≡◌, ◌⊎◌, ◌≤◌, ℕ, Some, true, IsSomeAnd}
use Rattle.std.specs.FinMap.{get}
use Rattle.dkg_types.specs.Blocks.{Block}
use Rattle.dkg_types.specs.BlockCodes.{info_of}
use Rattle.dkg_store.specs.Acts.{Held, World, Ended}
use Rattle.dkg_core.specs.Courses.{EndsSo}
use Rattle.dkg_core.specs.Fixed.{Fixed}
use Rattle.dkg_core.specs.Live.{Live, NodeStop, Artifact, Includes, Message, Finalized, Delivers, is_last_height}
use Rattle.dkg_core.specs.Logs.{canonical}
use Rattle.dkg_core.specs.Blocks.{share_for}
use Rattle.dkg_core.specs.Node.{node_step}
use Rattle.dkg_core.specs.Behind.{event_of}
use Rattle.dkg_core.specs.Laws.{reach_of}
use Rattle.dkg_core.specs.Stepping.{next_epoch}
use Rattle.dkg_core.specs.Storing.{ReadsSecrets, KeepsShares}
use Rattle.dkg_core.specs.Asked.{OfShares, ReadsShare, IsArtifactIn, InEpoch}
use Rattle.dkg_core.specs.Through.{IsFormThrough, IsLiveThrough, PassesNothingOn}
use Rattle.dkg_infos.specs.declared.info.EpochInfo.{EpochInfo}

-- The block is its epoch's last; the share is that of the artifact of the canonical logs, and the carried info, of this epoch, which is the next, is the artifact's.
abbrev pub IsSuchShare : {Dir : Type 0} → Fixed Dir → OfShares → Block Dir → Live Dir → (epoch share : ℕ) → Type 0
IsSuchShare {Dir} c stored b st epoch share =
    (is_last_height c b.height ≡ true) × IsSomeAnd (info_of b.payload) (λ info. (info.epoch ≡ epoch) × (info.epoch ≡ next_epoch c b)
    × InEpoch st (λ round current. (made : Artifact Dir) × IsArtifactIn c stored round current st (canonical c st) made × (share_for c info made ≡ Some share)))

-- From an epoch on: each share is what it was, or such a one.
abbrev pub MovesShares : (Such : ℕ → ℕ → Type 0) → (min : ℕ) → Held → World → Type 0
MovesShares Such min h w =
    (epoch : ℕ) → min ≤ epoch → (get w.held.secrets.shares epoch ≡ get h.secrets.shares epoch) ⊎ ((share : ℕ) × (get w.held.secrets.shares epoch ≡ Some share) × Such epoch share)

-- A BLOCK WHILE INCLUDING moves no share but such a one, of the epochs that it prunes nothing of, wherever the node's step ends.
abbrev pub BlocksMoveSharesAt : {Dir : Type 0} → Fixed Dir → OfShares → Type 0
BlocksMoveSharesAt {Dir} c stored = (b : Block Dir) (st : Live Dir) (ended : Ended NodeStop (Live Dir)) (most : ℕ) (w new : World) → IsFormThrough c → ReadsSecrets c.seen
    → ReadsShare c stored (Some w.held) → IsLiveThrough c stored st → st.participation.stage ≡ Includes → reach_of c (Finalized b) ≤ most → EndsSo (node_step c (Delivers b) st) ended w new
    → MovesShares (IsSuchShare c stored b st) most w.held new

abbrev pub BlocksMoveShares : Type 0 → Type 1
BlocksMoveShares Dir = (c : Fixed Dir) (stored : OfShares) → BlocksMoveSharesAt c stored

-- .. and each share that is held then was held, or is such a one.
abbrev pub BlocksPutSharesAt : {Dir : Type 0} → Fixed Dir → OfShares → Type 0
BlocksPutSharesAt {Dir} c stored = (b : Block Dir) (st : Live Dir) (ended : Ended NodeStop (Live Dir)) (w new : World) → IsFormThrough c
    → ReadsShare c stored (Some w.held) → IsLiveThrough c stored st → st.participation.stage ≡ Includes → EndsSo (node_step c (Delivers b) st) ended w new
    → (epoch share : ℕ) → get new.held.secrets.shares epoch ≡ Some share → (get w.held.secrets.shares epoch ≡ Some share) ⊎ IsSuchShare c stored b st epoch share

abbrev pub BlocksPutShares : Type 0 → Type 1
BlocksPutShares Dir = (c : Fixed Dir) (stored : OfShares) → BlocksPutSharesAt c stored

-- A STEP THAT PASSES NO EPOCH ON keeps the shares, of the epochs that it prunes nothing of, wherever it ends, whatever the life and the form.
abbrev pub NodeStepsSpareShares : Type 0 → Type 0
NodeStepsSpareShares Dir = (c : Fixed Dir) (st : Live Dir) (message : Message Dir) (ended : Ended NodeStop (Live Dir)) (most : ℕ) (w new : World) → ReadsSecrets c.seen → reach_of c message ≤ most
    → PassesNothingOn c st message → EndsSo (node_step c (event_of message) st) ended w new → KeepsShares most w.held new
