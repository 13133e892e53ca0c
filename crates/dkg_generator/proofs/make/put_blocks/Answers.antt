use Rattle.std.proofs.Common.{◌≡◌, ℕ, ◌++◌, subst, arith, map}
use Rattle.std.specs.List.{range_with_len}
use Rattle.dkg_generator.specs.Made.{block_at_index, blocks_with}
use Rattle.dkg_generator.proofs.Ranges.{map_more}
use Rattle.dkg_generator.proofs.make.put_blocks.Goals as goal

pub loop-index-preserved : goal.loop-index-preserved
loop-index-preserved c =
    let plan = c.args.plan.now in
    let more = map_more (block_at_index plan.first plan.next plan.logs.items c.args.epoch) c.args.blocks.now.items 0 c.loop-index.index c.loop-index.index (omega arith) in
    cc (more, c.loop-index.invariant, c.in_ok-push.ensures.items, c.parent_of.ensures, c.in_ok-carried_at.ensures)

pub returns : goal.returns
unfolding blocks_with
returns c =
    let plan = c.args.plan.now in
    let all : c.loop-index.index ≡ 64 = omega arith in
    subst (λ (n : ℕ). c.loop-index.blocks.items ≡ c.args.blocks.now.items ++ map (block_at_index plan.first plan.next plan.logs.items c.args.epoch) (range_with_len 0 n)) all c.loop-index.invariant
