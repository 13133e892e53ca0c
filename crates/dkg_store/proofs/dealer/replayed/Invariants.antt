use Rattle.std.proofs.Common.{◌≡◌, fold, map}
use Rattle.dkg_store.specs.Dealer.{passing, with_passed}
use Rattle.dkg_store.specs.Recorded.{at_epoch}
use Rattle.dkg_store.proofs.dealer.replayed.Given as goal

abbrev pub invariant-loop-player : goal.invariant-loop-player
invariant-loop-player g l =
    fold (λ m a. with_passed m a (g.C.Ceremony.check_ack_of l.round l.me l.public a.0 a.1)) l.kept (map (λ p. (p.0.1, p.1)) l.player-iterator)
    ≡ passing (g.C.Ceremony.check_ack_of l.round l.me l.public) (at_epoch l.fn.epoch l.acks)
