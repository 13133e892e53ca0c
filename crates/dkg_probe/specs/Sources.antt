-- What a source of held blocks has.
use Rattle.std.specs.Prelude.{ℕ, Option}
use Rattle.dkg_types.specs.Blocks.{Block}
use Rattle.dkg_types.specs.declared.finalization.Finalization.{Finalization}

-- the block and its finalization at a height, and the latest finalization
pub record ProbeSource (Dir : Type 0) : Type 0 where
  pub block : (height : ℕ) → Option (Block Dir)
  pub finalization : (height : ℕ) → Option Finalization
  pub latest : Option Finalization
