use Rattle.std.proofs.Common.{rules}
use Rattle.dkg_turn.proofs.Parting.{splits}
use Rattle.dkg_turn.proofs.lock.TurnLock.cut.Goals as goal

pub split_seat-requires : goal.split_seat-requires
split_seat-requires g c = (search rules, search rules, splits _ _ _ c.args.seat.now.me.0 c.requires.idle c.requires.named c.requires.two)
