use Rattle.std.proofs.Common.{◌≡◌, replicate}
use Rattle.dkg_ceremony.proofs.combine.zeros.Given as goal

abbrev pub invariant-loop : goal.invariant-loop
invariant-loop l = l.sum.items ≡ replicate l.counter 0
