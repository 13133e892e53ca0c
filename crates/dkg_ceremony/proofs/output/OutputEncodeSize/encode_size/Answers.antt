use Rattle.std.proofs.Common.{arith}
use Rattle.dkg_ceremony.specs.OutputGrammar.{length_output}
use Rattle.dkg_ceremony.proofs.output.OutputEncodeSize.encode_size.Goals as goal

pub returns-clause-size : goal.returns-clause-size
returns-clause-size c = omega (arith, length_output c.args.self.now)

pub returns-clause-limit : goal.returns-clause-limit
returns-clause-limit c = λ most dealers players.
    let few = c.known.ensures in
    let sharing = c.encode_size.ensures.limit most (omega (arith, few.poly_few)) in
    omega (arith, c.size_of_mark.ensures.bound, sharing, c.encode_size-2.ensures.limit most dealers, c.encode_size-3.ensures.limit most players, c.encode_size-4.ensures.limit most (omega (arith, few.revealed_few)))
