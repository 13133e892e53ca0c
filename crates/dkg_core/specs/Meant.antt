-- What is meant: how the parts that are given as functions are filled in.
use Rattle.std.specs.Prelude.{List, ◌≡◌, Option}
use Rattle.dkg_types.specs.Blocks.{Block}
use Rattle.dkg_types.specs.declared.finalization.Finalization.{Finalization}
use Rattle.dkg_store.specs.Acts.{Held}
use Rattle.dkg_core.specs.Seen.{Seen, seen_in}
use Rattle.dkg_core.specs.Sources.{Anchor, source_of}
use Rattle.dkg_core.specs.Fixed.{Fixed}

-- A read gives the records that the devices hold, whatever it says of shares, seeds and the plan.
pub record ReadsRecords (seen : Held → Seen) : Type 0 where
  pub dealings : (h : Held) → (seen h).dealings ≡ (seen_in h).dealings
  pub acks : (h : Held) → (seen h).acks ≡ (seen_in h).acks
  pub logs : (h : Held) → (seen h).logs ≡ (seen_in h).logs

-- A read gives what the devices hold, and the source that a step is lent has the blocks that the life holds, its anchor's and then those that were
-- delivered, in this order.
pub record IsMeant {Dir : Type 0} (c : Fixed Dir) (sealed : Block Dir → Option Finalization) (anchor : Option (Anchor Dir)) (held delivered : List (Block Dir)) : Type 0 where
  pub reads : c.seen ≡ seen_in
  pub lent : c.source ≡ source_of sealed anchor held delivered
