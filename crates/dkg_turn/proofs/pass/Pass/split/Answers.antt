use Rattle.std.proofs.Common.{rules, refl}
use Rattle.dkg_turn.specs.Rules.{TookNode, drawn}
use Rattle.dkg_turn.proofs.Calling.{gives_none}
use Rattle.dkg_turn.proofs.pass.Pass.split.Goals as goal

pub give_named-requires-clause-fit : goal.give_named-requires-clause-fit
give_named-requires-clause-fit g c κs within = let v = c.self.inside.seat.me.0 in let w = c.come-node.new.seat.me.0 in let t = c.in-Some.ticket in
    let took : TookNode g.T.Turn.turns t (drawn t v) c.come-node.result w = search rules in
    gives_none g.T.Turn.turns v w t c.come-node.result c.come-node.result took c.self.invariant.3 refl refl
