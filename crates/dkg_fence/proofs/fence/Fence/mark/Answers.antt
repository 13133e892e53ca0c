use Rattle.std.proofs.Common.{rules, Some, None}
use Rattle.dkg_fence.proofs.Marks.{marked_greatest}
use Rattle.dkg_fence.proofs.fence.Fence.mark.Goals as goal

pub returns-then-self-clause-greatest : goal.returns-then-self-clause-greatest
returns-then-self-clause-greatest c = marked_greatest c.args.epoch c.args.self.now c.args.self.now (search rules)

pub returns-in-Some-clause-greatest : goal.returns-in-Some-clause-greatest
returns-in-Some-clause-greatest c = marked_greatest c.args.epoch c.args.self.now record { ready = Some c.args.epoch; closed = c.self.inside.closed; awaited = None } (search rules)

pub returns-in_default-clause-greatest : goal.returns-in_default-clause-greatest
returns-in_default-clause-greatest c = marked_greatest c.args.epoch c.args.self.now record { ready = Some c.args.epoch; closed = c.self.inside.closed; awaited = c.self.inside.awaited } (search rules)

pub returns-in_default-2-clause-greatest : goal.returns-in_default-2-clause-greatest
returns-in_default-2-clause-greatest c = marked_greatest c.args.epoch c.args.self.now record { ready = Some c.args.epoch; closed = c.self.inside.closed; awaited = c.self.inside.awaited } (search rules)
