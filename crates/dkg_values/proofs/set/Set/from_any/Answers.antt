use Rattle.dkg_values.proofs.set.Set.from_any.Goals as goal

pub returns-clause-members : goal.returns-clause-members
returns-clause-members c = rw c.in_ok-keys.ensures.items at c.in_order.ensures.members
