use Rattle.std.proofs.Common.{◌≡◌, ◌++◌, map}
use Rattle.dkg_store.specs.Recorded.{at_epoch, reached_logs}
use Rattle.dkg_store.proofs.store.pairs_of_reached.Given as goal

abbrev pub invariant-loop-dealer : goal.invariant-loop-dealer
invariant-loop-dealer l =
    l.pairs.items ++ reached_logs l.fn.midpoint l.fn.tip (map (λ p. (p.0.1, p.1)) l.dealer-iterator) ≡ reached_logs l.fn.midpoint l.fn.tip (at_epoch l.fn.epoch l.logs)
