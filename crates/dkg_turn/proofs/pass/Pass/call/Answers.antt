use Rattle.std.proofs.Common.{rules, ◌++◌, ◌∷◌, [], refl, ap, ◌∙◌}
use Rattle.dkg_turn.specs.declared.turn.HistoryEntry.{HistoryEntry}
use Rattle.dkg_turn.specs.Rules.{TookNode, drawn}
use Rattle.dkg_turn.proofs.Calling.{gives_none, gives_one, called}
use Rattle.dkg_turn.proofs.pass.Pass.call.Goals as goal

pub give-requires-clause-fit : goal.give-requires-clause-fit
give-requires-clause-fit g c κs within = let v = c.self.inside.seat.me.0 in let w = c.come-node.new.seat.me.0 in let t = c.in-Some.ticket in
    let took : TookNode g.T.Turn.turns t (drawn t v) c.come-node.result w = search rules in
    gives_none g.T.Turn.turns v w t c.come-node.result record { value = c.come-node.result.value; history = c.reserve.new.self } took c.self.invariant.3 c.reserve.ensures.items refl

pub give-requires-2-clause-fit : goal.give-requires-2-clause-fit
give-requires-2-clause-fit g c κs within = let v = c.self.inside.seat.me.0 in let w = c.come-node.new.seat.me.0 in let t = c.in-Some.ticket in
    let took : TookNode g.T.Turn.turns t (drawn t v) c.come-node.result w = search rules in
    let e : HistoryEntry g.row.T-Call.Denot g.row.T-Reply.Denot = record { caller = c.self.inside.number; call = c.args.call; reply = c.turn-kept.result.0; ticket = t } in
    gives_one g.T.Turn.turns v w t c.come-node.result record { value = c.turn-kept.new.self; history = c.push_reserved.new.self } e took c.self.invariant.3 (c.push_reserved.ensures.items ∙ ap (λ l. l ++ e ∷ []) c.reserve.ensures.items) c.self.invariant.2 refl c.turn-kept.ensures.kept

pub returns-clause-called : goal.returns-clause-called
returns-clause-called g c = let v = c.self.inside.seat.me.0 in let w = c.come-node.new.seat.me.0 in let t = c.in-Some.ticket in
    let took : TookNode g.T.Turn.turns t (drawn t v) c.come-node.result w = search rules in
    let e : HistoryEntry g.row.T-Call.Denot g.row.T-Reply.Denot = record { caller = c.self.inside.number; call = c.args.call; reply = c.turn-kept.result.0; ticket = t } in
    called g.T.Turn.turns c.args.lock.now c.args.self.now c.self.inside.seat.table_id c.self.inside.number v c.self.view_is g.T.Turn.same w c.give-2.new.seat.me.0 t c.come-node.result record { value = c.turn-kept.new.self; history = c.push_reserved.new.self } e c.turn-kept.result.1 c.give-2.new.seat.table_id
    c.requires.own took (search rules) (search rules) (search rules) (search rules) (c.push_reserved.ensures.items ∙ ap (λ l. l ++ e ∷ []) c.reserve.ensures.items) (ap (λ m. m.0) c.give-2.ensures.given) refl refl c.self.invariant.2 c.turn-kept.ensures.kept c.turn-kept.ensures.given c.turn-kept.ensures.same
