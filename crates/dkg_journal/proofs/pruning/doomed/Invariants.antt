use Rattle.std.proofs.Common.{◌≡◌, ◌++◌}
use Rattle.std.specs.Prelude.{flat_map}
use Rattle.dkg_journal.specs.Places.{remove_of, removes_below}
use Rattle.dkg_journal.proofs.pruning.doomed.Given as goal

abbrev pub invariant-loop-section : goal.invariant-loop-section
invariant-loop-section l = l.ops.items ++ flat_map remove_of l.section-iterator ≡ removes_below l.min l.places
