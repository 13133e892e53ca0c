use Rattle.std.proofs.Common.{◌≡◌, ◌++◌, map}
use Rattle.dkg_journal.proofs.table.Table.names.Given as goal

abbrev pub invariant-loop-key : goal.invariant-loop-key
invariant-loop-key l = l.names.items ++ l.key-iterator ≡ map (λ e. e.0) l.self
