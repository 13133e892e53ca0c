use Rattle.std.proofs.Common.{arith}
use Rattle.dkg_values.specs.Uints.{below_most}
use Rattle.dkg_values.proofs.uint.+read_groups.Goals as goal

pub returns-clause-bound : goal.returns-clause-bound
returns-clause-bound t c = below_most c.args.most c.in_ok-high.high c.from-2.result c.requires (omega arith) c.in_ok-high.ensures.bound (omega arith)
