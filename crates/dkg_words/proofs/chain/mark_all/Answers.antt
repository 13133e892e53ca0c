use Rattle.std.proofs.Common.{◌∙◌}
use Rattle.dkg_words.proofs.Marks.{left_smaller, mark_all_on}
use Rattle.dkg_words.proofs.chain.mark_all.Goals as goal

pub loop-rest-smaller : goal.loop-rest-smaller
loop-rest-smaller c = left_smaller c.loop-rest.rest c.behind-rest.result c.in-Some.more c.in-Some.is c.behind-rest.ensures

pub loop-rest-preserved : goal.loop-rest-preserved
loop-rest-preserved c =
    c.loop-rest.invariant
    ∙ mark_all_on c.loop-rest.blocks.items c.mark.new.blocks.items c.loop-rest.rest c.behind-rest.result c.in-Some.more c.until.result.now c.number_or_zero.result c.in-Some.is c.until.ensures
    c.number_or_zero.ensures c.mark.ensures c.behind-rest.ensures
