use Rattle.std.proofs.Common.{length, ◌-◌}
use Rattle.dkg_words.specs.Chain.{block_lines}
use Rattle.dkg_words.proofs.BlockLines.{block_lines_done, block_lines_none, block_lines_over, block_lines_pushed}
use Rattle.dkg_words.proofs.chain.block_lines.Goals as goal

pub returns-in_default : goal.returns-in_default
returns-in_default c =
    let text = c.args.text.now in let l = c.loop-done in
    block_lines_done l.blocks.items (block_lines text (length text - l.done) l.at) _ (block_lines_none text (length text - l.done) l.at c.in_default.ensures) l.invariant

pub loop-done-preserved : goal.loop-done-preserved
loop-done-preserved c =
    let text = c.args.text.now in let l = c.loop-done in
    block_lines_pushed text (length text) l.done l.at c.place_behind-at.result c.in-Some.line.now c.line_block.result l.blocks.items c.push.new.self.items _ c.loop-done-test.true c.in-Some.ensures
    c.line_block.ensures c.in_ok-push.ensures.items c.place_behind-at.ensures l.invariant

pub returns : goal.returns
returns c =
    let text = c.args.text.now in let l = c.loop-done in
    block_lines_done l.blocks.items (block_lines text (length text - l.done) l.at) _ (block_lines_over text (length text) l.done l.at c.loop-done-test.false) l.invariant
