use Rattle.dkg_words.proofs.Marks.{mark_past, marked_now}
use Rattle.std.proofs.Common.{arith}
use Rattle.dkg_words.proofs.chain.mark.Goals as goal

pub returns-then-index-len : goal.returns-then-index-len
returns-then-index-len c = marked_now c.args.blocks.now.items c.args.number c.index_mut.result.now (omega (arith, c.if-index-len.true, c.len.ensures)) c.index_mut.ensures.value

pub returns-else-index-len : goal.returns-else-index-len
returns-else-index-len c = mark_past c.args.blocks.now.items c.args.number (omega (arith, c.if-index-len.false, c.len.ensures))
