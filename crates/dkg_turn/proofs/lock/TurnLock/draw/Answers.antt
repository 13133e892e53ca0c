use Rattle.std.proofs.Common.{rules, refl}
use Rattle.dkg_turn.proofs.Keeps.{looks, draws}
use Rattle.dkg_turn.proofs.lock.TurnLock.draw.Goals as goal

pub load-seen-requires : goal.load-seen-requires
load-seen-requires g c = (search rules, search rules, looks _ _ _ _ _)

pub compare_exchange-found-requires : goal.compare_exchange-found-requires
compare_exchange-found-requires g c = (search rules, search rules, draws _ _ _ _ _ _ _ (search rules) (search rules) refl (search rules))
