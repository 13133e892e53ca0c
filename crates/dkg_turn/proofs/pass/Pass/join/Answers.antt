use Rattle.dkg_turn.proofs.Parting.{joined_own}
use Rattle.dkg_turn.proofs.pass.Pass.join.Goals as goal

pub invariant_of-self : goal.invariant_of-self
invariant_of-self g c = joined_own c.self.inside.seat.me.0 c.other.inside.seat.me.0 c.merge.new.seat.me c.self.inside.number c.merge.ensures.both c.self.invariant.2 c.self.invariant.3
