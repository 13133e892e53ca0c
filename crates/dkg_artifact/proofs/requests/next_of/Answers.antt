use Rattle.std.proofs.Common.{◌+◌}
use Rattle.std.specs.declared.ops.Bound.TheVariants.{Excluded}
use Rattle.std.specs.Map.Iter.{deref}
use Rattle.std.proofs.lemmas.Map.Iter.{rest_all}
use Rattle.dkg_artifact.specs.Ranks.{numbered_rank}
use Rattle.dkg_artifact.proofs.Waiting.{next_none, next_some, next_other, within_excluded, reaches_excluded}
use Rattle.dkg_artifact.proofs.requests.next_of.Goals as goal

pub returns-in-Some-clause-next : goal.returns-in-Some-clause-next
returns-in-Some-clause-next c =
    next_some c.args.numbers.now c.args.number (c.args.rank + 1) (Excluded (numbered_rank c.args.number c.args.rank)) (within_excluded c.args.number c.args.rank) (reaches_excluded c.args.number c.args.rank) c.range.result (c.range.ensures.in_range tt)
    c.in-Some.pair.now c.next.new.self c.in-Some.ensures.steps c.if-pair-number.true

pub returns-in_default-clause-next : goal.returns-in_default-clause-next
returns-in_default-clause-next c =
    next_other c.args.numbers.now c.args.number (c.args.rank + 1) (Excluded (numbered_rank c.args.number c.args.rank)) (within_excluded c.args.number c.args.rank) (reaches_excluded c.args.number c.args.rank) c.range.result (c.range.ensures.in_range tt)
    c.in-Some.pair.now c.next.new.self c.in-Some.ensures.steps c.if-pair-number.false

pub returns-in_default-2-clause-next : goal.returns-in_default-2-clause-next
returns-in_default-2-clause-next c =
    next_none c.args.numbers.now c.args.number (c.args.rank + 1) (Excluded (numbered_rank c.args.number c.args.rank)) (within_excluded c.args.number c.args.rank) (reaches_excluded c.args.number c.args.rank) c.range.result (c.range.ensures.in_range tt)
    (rest_all deref c.range.result c.next.new.self c.next.result c.in_default.is c.next.ensures.steps)
