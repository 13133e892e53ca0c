-- What a probe's finds rest on, whatever it was told before.
use Rattle.std.specs.Prelude.{◌≡◌, ◌⊎◌, ℕ, ◌+◌, ◌≤◌, true, List, Some, None, is_some, IfSome, Ok}
use Rattle.std.specs.List.{AllByRecursion}
use Rattle.dkg_values.specs.Codec.{whole}
use Rattle.dkg_types.specs.BlockCodes.{info_of}
use Rattle.dkg_types.specs.Blocks.{Block}
use Rattle.dkg_types.specs.declared.finalization.Finalization.{Finalization}
use Rattle.dkg_probe.specs.declared.artifact.Artifact.{Artifact as Known}
use Rattle.dkg_probe.specs.declared.state.State.{State}
use Rattle.dkg_probe.specs.Candidates.{Awaiting, Candidate, all_candidates}
use Rattle.dkg_probe.specs.Probing.{ProbeFixed, is_dealer, begins_at}

-- It is of a dealer, certified, and not of an epoch below the least one.
pub record CountsAsReply {Dir : Type 0} (c : ProbeFixed Dir) (minimum peer : ℕ) (f : Finalization) : Type 0 where
  pub dealer : is_dealer c peer ≡ true
  pub certified : c.certifies f ≡ true
  pub recent : minimum ≤ f.epoch

-- some dealer gave it
abbrev pub IsFloor : {Dir : Type 0} → ProbeFixed Dir → (minimum : ℕ) → Finalization → Type 0
IsFloor c minimum f = (peer : ℕ) × CountsAsReply c minimum peer f

-- a candidate's finalization is certified, and of the epoch before the floor's
pub record OffersBlock {Dir : Type 0} (c : ProbeFixed Dir) (floor : Finalization) (candidate : Candidate) : Type 0 where
  pub certified : c.certifies candidate.1 ≡ true
  pub before : candidate.1.epoch + 1 ≡ floor.epoch

-- a floor that waits for the block that begins its epoch
pub record Waits {Dir : Type 0} (c : ProbeFixed Dir) (minimum : ℕ) (a : Awaiting) : Type 0 where
  pub floor : IsFloor c minimum a.floor
  pub height : begins_at c.blocks_per_epoch a.floor.epoch ≡ Some a.height
  pub candidates : AllByRecursion (OffersBlock c a.floor) (all_candidates a.asked a.others)

-- The info is the one that the block carries that begins the floor's epoch, and that block is the one which a certified finalization of the epoch
-- before names.
pub record FromBlock {Dir : Type 0} (c : ProbeFixed Dir) (known : Known Dir) : Type 0 where
  pub of : Finalization
  pub is : known.finalization ≡ Some of
  pub certified : c.certifies of ≡ true
  pub before : of.epoch + 1 ≡ known.floor.epoch
  pub body : List ℕ
  pub block : Block Dir
  pub read : whole (c.read body) ≡ Ok block
  pub digest : block.digest ≡ of.payload
  pub height : begins_at c.blocks_per_epoch known.floor.epoch ≡ Some block.height
  pub info : info_of block.payload ≡ Some known.info
  pub epoch : known.info.epoch ≡ known.floor.epoch

-- A floor of epoch zero goes with genesis.
abbrev pub FromGenesis : {Dir : Type 0} → ProbeFixed Dir → Known Dir → Type 0
FromGenesis c known = (known.floor.epoch ≡ 0) × (known.finalization ≡ None) × (known.info ≡ c.genesis)

pub record IsFound {Dir : Type 0} (c : ProbeFixed Dir) (minimum : ℕ) (known : Known Dir) : Type 0 where
  pub floor : IsFloor c minimum known.floor
  pub from : FromGenesis c known ⊎ FromBlock c known

-- What is held, chosen, waited for and known is so, and once the artifact is known nothing is waited for.
pub record IsSoundState {Dir : Type 0} (c : ProbeFixed Dir) (st : State Dir) : Type 0 where
  pub replies : AllByRecursion (λ reply. CountsAsReply c st.sample.minimum reply.0 reply.1) st.sample.replies
  pub chosen : IfSome st.sample.chosen (IsFloor c st.sample.minimum)
  pub awaited : IfSome st.awaited (Waits c st.sample.minimum)
  pub known : IfSome st.known (IsFound c st.sample.minimum)
  pub waits : IfSome st.awaited (λ a. st.sample.chosen ≡ Some a.floor)
  pub settled : IfSome st.known (λ _. (is_some st.sample.chosen ≡ true) × (st.awaited ≡ None) × (st.subscribers ≡ 0))

-- an artifact that is known stays the one that is known
abbrev pub KeepsArtifact : {Dir : Type 0} → (old new : State Dir) → Type 0
KeepsArtifact old new = (new.known ≡ old.known) ⊎ (old.known ≡ None)
