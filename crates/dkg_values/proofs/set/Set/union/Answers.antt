use Rattle.std.proofs.Common.{rules}
use Rattle.dkg_values.proofs.Sets.{is_union}
use Rattle.dkg_values.proofs.set.Set.union.Goals as goal

pub returns-clause-members : goal.returns-clause-members
returns-clause-members c = is_union c.args.self.now c.args.other.now _ c.in_order.result (search rules) c.in_order.ensures.members
