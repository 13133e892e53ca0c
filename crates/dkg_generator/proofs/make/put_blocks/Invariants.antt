use Rattle.std.proofs.Common.{◌≡◌, ◌++◌, map}
use Rattle.std.specs.List.{range_with_len}
use Rattle.dkg_generator.specs.Made.{block_at_index}
use Rattle.dkg_generator.proofs.make.put_blocks.Given as goal

abbrev pub invariant-loop-index : goal.invariant-loop-index
invariant-loop-index l = l.blocks.items ≡ l.initial.blocks.items ++ map (block_at_index l.plan.first l.plan.next l.plan.logs.items l.epoch) (range_with_len 0 l.index)
