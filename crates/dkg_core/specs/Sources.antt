-- The blocks that a step is lent, and the position that a life begins at.
use Rattle.std.specs.Prelude.{ℕ, true, false, List, [], ◌∷◌, ◌++◌, ◌-◌, ◌==◌, nat_le, nat_lt, find, fold, Option, Some, None, option_and_then, option_map, if◌then◌else◌}
use Rattle.std.specs.Option.{option_map_or}
use Rattle.std.specs.Str.{bytes_eq}
use Rattle.dkg_types.specs.Blocks.{Block}
use Rattle.dkg_types.specs.declared.finalization.Finalization.{Finalization}

-- a position of the chain: the height and the digest of a block
pub record Tip : Type 0 where
  pub height : ℕ
  pub digest : List ℕ

-- What was processed last: a block that is there, or one that is absent, of which the child is there.
pub data Processed : Type 0 where
  AtBlock : (height : ℕ) → Processed
  Absent : (height : ℕ) → Processed

pub record Anchor (Dir : Type 0) : Type 0 where
  pub processed : Processed
  pub block : Block Dir

-- What a source answers: its anchor, the block of a height and of a digest, and the finalization of a height and of the highest block.
pub record SourceAnswers (Dir : Type 0) : Type 0 where
  pub anchor : Option (Anchor Dir)
  pub block : (height : ℕ) → Option (Block Dir)
  pub by_digest : List ℕ → Option (Block Dir)
  pub finalization : (height : ℕ) → Option Finalization
  pub latest : Option Finalization

-- THE START

abbrev pub position_of : {Dir : Type 0} → Processed → Block Dir → Tip
position_of (AtBlock height) b = record { height = height; digest = b.digest }
position_of (Absent height) b = record { height = height; digest = b.parent }

abbrev pub position : {Dir : Type 0} → Option (Anchor Dir) → Option Tip
position anchor = option_map (λ a. position_of a.processed a.block) anchor

-- the higher of a position and the floor's parent; on a tie the floor's parent, and of a floor at height 0 there is none
abbrev pub over_floor : {Dir : Type 0} → Option Tip → Block Dir → Option Tip
over_floor tip floor =
    if floor.height == 0 then tip
    else if option_map_or (λ t. nat_le floor.height t.height) tip false then tip
    else Some (record { height = floor.height - 1; digest = floor.parent })

-- where a life starts that is given a floor, or none
abbrev pub startup : {Dir : Type 0} → Option (Anchor Dir) → Option (Block Dir) → Option Tip
startup anchor None = position anchor
startup anchor (Some floor) = over_floor (position anchor) floor

-- A SOURCE OF BLOCKS: of two of one height, or of one digest, the first is the answer

abbrev pub anchored : {Dir : Type 0} → Option (Anchor Dir) → List (Block Dir)
anchored None = []
anchored (Some a) = a.block ∷ []

abbrev pub highest_block : {Dir : Type 0} → List (Block Dir) → Option (Block Dir)
highest_block blocks = fold (λ best b. if option_map_or (λ a. nat_lt a.height b.height) best true then Some b else best) None blocks

abbrev pub source_over : {Dir : Type 0} → (sealed : Block Dir → Option Finalization) → Option (Anchor Dir) → List (Block Dir) → SourceAnswers Dir
source_over sealed anchor blocks = record {
  anchor = anchor;
  block = λ height. find (λ b. b.height == height) blocks;
  by_digest = λ digest. find (λ b. bytes_eq b.digest digest) blocks;
  finalization = λ height. option_and_then sealed (find (λ b. b.height == height) blocks);
  latest = option_and_then sealed (highest_block blocks);
}

-- the blocks that a life holds, then its anchor's, and then those that were delivered to it, in their order
abbrev pub source_of : {Dir : Type 0} → (sealed : Block Dir → Option Finalization) → Option (Anchor Dir) → (held delivered : List (Block Dir)) → SourceAnswers Dir
source_of sealed anchor held delivered = source_over sealed anchor (held ++ (anchored anchor ++ delivered))
