use Rattle.std.proofs.Common.{arith}
use Rattle.dkg_values.specs.UintGrammar.{uint_short, uint_narrow}
use Rattle.dkg_values.proofs.uint.uint_size.Goals as goal

pub returns-clause-bound : goal.returns-clause-bound
returns-clause-bound c = omega (arith, uint_short c.args.n, c.groups_size.ensures.size 9 (omega arith))

pub returns-clause-narrow : goal.returns-clause-narrow
returns-clause-narrow c = λ lt. omega (arith, uint_narrow c.args.n lt, c.groups_size.ensures.size 9 (omega arith))
