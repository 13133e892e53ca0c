use Rattle.std.specs.declared.ops.Bound.TheVariants.{Included}
use Rattle.std.specs.Map.Iter.{deref}
use Rattle.std.proofs.lemmas.Map.Iter.{rest_all}
use Rattle.dkg_artifact.specs.Ranks.{numbered_rank}
use Rattle.dkg_artifact.proofs.Waiting.{next_none, next_some, next_other, within_included, reaches_included}
use Rattle.dkg_artifact.proofs.requests.first_of.Goals as goal

pub returns-in-Some : goal.returns-in-Some
returns-in-Some c =
    next_some c.args.numbers.now c.args.number 0 (Included (numbered_rank c.args.number 0)) (within_included c.args.number) (reaches_included c.args.number) c.range.result (c.range.ensures.in_range tt)
    c.in-Some.pair.now c.next.new.self c.in-Some.ensures.steps c.if-pair-number.true

pub returns-in_default : goal.returns-in_default
returns-in_default c =
    next_other c.args.numbers.now c.args.number 0 (Included (numbered_rank c.args.number 0)) (within_included c.args.number) (reaches_included c.args.number) c.range.result (c.range.ensures.in_range tt)
    c.in-Some.pair.now c.next.new.self c.in-Some.ensures.steps c.if-pair-number.false

pub returns-in_default-2 : goal.returns-in_default-2
returns-in_default-2 c =
    next_none c.args.numbers.now c.args.number 0 (Included (numbered_rank c.args.number 0)) (within_included c.args.number) (reaches_included c.args.number) c.range.result (c.range.ensures.in_range tt)
    (rest_all deref c.range.result c.next.new.self c.next.result c.in_default.is c.next.ensures.steps)
