use Rattle.std.proofs.Common.{[], ap, sym, ◌∙◌}
use Rattle.dkg_words.specs.Lines.{over_lines}
use Rattle.dkg_words.proofs.Over.{over_line, over_rest}
use Rattle.dkg_words.proofs.lines.go_over.Goals as goal

pub loop-line-preserved : goal.loop-line-preserved
loop-line-preserved g c =
    let after = g.W.Walk.after in
    c.loop-line.invariant ∙ (over_line after c.loop-line.walker [] c.loop-line.rest.now c.in-Some.more.now c.in-Some.ensures.value.1
    ∙ (ap (λ l. over_lines after (after c.loop-line.walker l) [] c.in-Some.more.now) c.in-Some.ensures.value.0
    ∙ ap (λ s. over_lines after s [] c.in-Some.more.now) (sym c.pass.ensures)))

pub returns : goal.returns
returns g c = sym (c.loop-line.invariant ∙ over_rest g.W.Walk.after c.loop-line.walker [] c.loop-line.rest.now c.in_default.ensures.value.1)
