use Rattle.std.proofs.Common.{[], ap, sym, ◌∙◌}
use Rattle.dkg_words.specs.Chain.{mark_by}
use Rattle.dkg_words.specs.Lines.{over_lines}
use Rattle.dkg_words.proofs.Over.{over_line, over_rest}
use Rattle.dkg_words.proofs.chain.use_all.Goals as goal

pub loop-line-preserved : goal.loop-line-preserved
loop-line-preserved c =
    let blocks = c.loop-line.blocks.items in
    let more = c.in-Some.more.now in
    c.loop-line.invariant ∙ (over_line mark_by blocks [] c.loop-line.rest.now more c.in-Some.ensures.value.1
    ∙ (ap (λ l. over_lines mark_by (mark_by blocks l) [] more) c.in-Some.ensures.value.0
    ∙ ap (λ s. over_lines mark_by s [] more) (sym c.mark_by.ensures)))

pub returns : goal.returns
returns c = sym (c.loop-line.invariant ∙ over_rest mark_by c.loop-line.blocks.items [] c.loop-line.rest.now c.in_default.ensures.value.1)
