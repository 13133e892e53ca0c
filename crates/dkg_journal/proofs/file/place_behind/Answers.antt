use Rattle.std.proofs.Common.{◌-◌, max, ◌∙◌, ap}
use Rattle.dkg_journal.proofs.Counting.{swept_skip, swept_span, behind_span, behind_tail, behind_all}
use Rattle.dkg_journal.proofs.file.place_behind.Goals as goal
use Rattle.dkg_journal.proofs.file.place_behind.Goals.{then-start-end+else-left-n, else-start-end}

pub returns-then-left-n : goal.returns-then-left-n
returns-then-left-n c =
    behind_span c.args.spans.now c.args.synced c.args.len c.args.count c.loop-span.at c.loop-span.left c.loop-span.span-index (record { start = 0; end = 0 }) c.max-start.result c.min-end.result
    c.requires.sorted c.loop-span.invariant c.loop-span-test.true (c.max-start.ensures ∙ ap (λ n. max n c.loop-span.at) c.min.ensures) c.min-end.ensures c.if-start-end.true c.if-left-n.true

pub loop-span-preserved : goal.loop-span-preserved
loop-span-preserved c = elim c.if-start-end.branch [
  | then-start-end+else-left-n w ↦
      swept_span c.args.spans.now c.args.synced c.args.len c.args.count c.loop-span.at c.loop-span.left c.loop-span.span-index (record { start = 0; end = 0 }) c.max-start.result c.min-end.result
      c.requires.sorted c.loop-span.invariant c.loop-span-test.true (c.max-start.ensures ∙ ap (λ n. max n c.loop-span.at) c.min.ensures) c.min-end.ensures w.if-start-end.true _ _ w.at-is w.if-left-n.false w.left-is
  | else-start-end w ↦
      swept_skip c.args.spans.now c.args.synced c.args.len c.args.count c.loop-span.at c.loop-span.left c.loop-span.span-index (record { start = 0; end = 0 }) c.max-start.result c.min-end.result
      c.requires.sorted c.loop-span.invariant c.loop-span-test.true (c.max-start.ensures ∙ ap (λ n. max n c.loop-span.at) c.min.ensures) c.min-end.ensures w.if-start-end.false _ _ w.at-is w.left-is
]

pub returns-then-left-n-2 : goal.returns-then-left-n-2
returns-then-left-n-2 c = behind_tail c.args.spans.now c.args.synced c.args.len c.args.count c.loop-span.at c.loop-span.left _ c.requires.synced c.loop-span.span-index c.loop-span-test.false c.loop-span.invariant c.max-start-2.ensures c.if-left-n-2.true

pub returns : goal.returns
returns c = behind_all c.args.spans.now c.args.synced c.args.len c.args.count c.loop-span.at c.loop-span.left _ c.requires.synced c.loop-span.span-index c.loop-span-test.false c.loop-span.invariant c.max-start-2.ensures c.if-left-n-2.false _ (λ i. c.loop-span.left - (c.args.len - c.max-start-2.result))
