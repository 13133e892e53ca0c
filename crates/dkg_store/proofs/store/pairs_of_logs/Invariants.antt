use Rattle.std.proofs.Common.{◌≡◌, ◌++◌, map}
use Rattle.dkg_store.specs.Recorded.{at_epoch, bare_logs}
use Rattle.dkg_store.proofs.store.pairs_of_logs.Given as goal

abbrev pub invariant-loop-dealer : goal.invariant-loop-dealer
invariant-loop-dealer l = l.pairs.items ++ bare_logs (map (λ p. (p.0.1, p.1)) l.dealer-iterator) ≡ bare_logs (at_epoch l.fn.epoch l.logs)
