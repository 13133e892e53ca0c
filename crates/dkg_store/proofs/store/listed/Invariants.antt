use Rattle.std.proofs.Common.{◌≡◌, ◌++◌, map}
use Rattle.dkg_store.specs.Recorded.{restored_of, restored_list}
use Rattle.dkg_store.proofs.store.listed.Given as goal

abbrev pub invariant-loop-epoch : goal.invariant-loop-epoch
invariant-loop-epoch l = l.restored.items ++ map restored_of l.epoch-iterator ≡ restored_list l.dealings
