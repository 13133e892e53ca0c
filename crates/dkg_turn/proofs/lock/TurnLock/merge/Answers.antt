use Rattle.std.proofs.Common.{rules, ap}
use Rattle.dkg_turn.proofs.Parting.{joins, joined_seen}
use Rattle.dkg_turn.proofs.Keeps.{settles}
use Rattle.dkg_turn.proofs.lock.TurnLock.merge.Goals as goal

pub join_seat-requires : goal.join_seat-requires
join_seat-requires g c = (search rules, search rules, search rules, search rules, joins _ _ _ _ _ _ c.requires.idle.0 c.requires.idle.1 c.requires.some_part)

pub load-requires : goal.load-requires
load-requires g c = (search rules, search rules, settles _ _ _ _ _)

pub returns-clause-seen : goal.returns-clause-seen
returns-clause-seen g c = (joined_seen c.args.seat.now.me.0 c.args.other.me.0 c.join_seat.new.seat.me.0 c.load.new.seat.me.0 (ap (λ m. m.0) c.join_seat.ensures.2) (ap (λ m. m.0) c.load.ensures.2.0) (c.load.ensures.2.1, c.load.ensures.2.2)).0

pub returns-clause-theirs : goal.returns-clause-theirs
returns-clause-theirs g c = (joined_seen c.args.seat.now.me.0 c.args.other.me.0 c.join_seat.new.seat.me.0 c.load.new.seat.me.0 (ap (λ m. m.0) c.join_seat.ensures.2) (ap (λ m. m.0) c.load.ensures.2.0) (c.load.ensures.2.1, c.load.ensures.2.2)).1
