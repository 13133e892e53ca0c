use Rattle.std.proofs.Common.{◌≡◌, ◌++◌, map}
use Rattle.std.specs.FinMap as map_of
use Rattle.dkg_store.specs.Recorded.{at_epoch}
use Rattle.dkg_store.proofs.store.copy_of_epoch.Given as goal

abbrev pub invariant-loop-key : goal.invariant-loop-key
invariant-loop-key g l = map_of.entries l.kept ++ map (λ p. (p.0.1, p.1)) l.key-iterator ≡ at_epoch l.fn.epoch l.values
