-- A block, as contracts see it.
use Rattle.std.specs.Prelude.{ℕ, List, Option}
use Rattle.dkg_types.specs.declared.block.Context.{Context}
use Rattle.dkg_types.specs.declared.payload.Payload.{Payload}

-- where it was proposed, the digest of the block below, its height, what it carries for the ceremony, and its own digest
pub record Block (Dir : Type 0) : Type 0 where
  pub context : Context
  pub parent : List ℕ
  pub height : ℕ
  pub payload : Option (Payload Dir)
  pub digest : List ℕ
