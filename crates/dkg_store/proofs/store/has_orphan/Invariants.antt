use Rattle.std.proofs.Common.{◌≡◌}
use Rattle.dkg_store.specs.Player.{has_orphan}
use Rattle.dkg_store.specs.Recorded.{at_epoch}
use Rattle.dkg_store.proofs.store.has_orphan.Given as goal

abbrev pub invariant-loop-dealer : goal.invariant-loop-dealer
invariant-loop-dealer g l =
    has_orphan (λ dealer log. g.C.Ceremony.bears_ack_of l.round dealer log l.me) (at_epoch l.fn.epoch l.dealings) l.dealer-iterator
    ≡ has_orphan (λ dealer log. g.C.Ceremony.bears_ack_of l.round dealer log l.me) (at_epoch l.fn.epoch l.dealings) l.logs
