use Rattle.std.proofs.Common.{rules, Some}
use Rattle.dkg_turn.proofs.Keeps.{comes_as}
use Rattle.dkg_turn.proofs.Coming.{came_here, with_rest}
use Rattle.dkg_turn.proofs.lock.TurnLock.come.Goals as goal

pub load-serving-requires : goal.load-serving-requires
load-serving-requires g c = (search rules, search rules, comes_as _ _ _ _ _ c.args.ticket (search rules) (search rules) (search rules))

pub exchange-requires : goal.exchange-requires
exchange-requires g c = let k = came_here g.T.Turn.turns c.loop.seat.me c.load-serving.new.seat.me c.load-serving.result c.args.ticket (search rules) (search rules) c.load-serving.ensures.2 in (search rules, (Some k.0, with_rest g.T.Turn.turns c.load-serving.new.seat.me.1 k.0 k.1))
