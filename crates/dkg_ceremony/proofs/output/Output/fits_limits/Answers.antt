use Rattle.std.proofs.Common.{arith}
use Rattle.dkg_ceremony.specs.OutputLimits.{output_fits}
use Rattle.dkg_ceremony.proofs.output.Output.fits_limits.Goals as goal

pub returns : goal.returns
returns c = λ most version has dealers players.
    let few = c.known.ensures in
    output_fits most version c.args.self.now (omega (arith, c.encode_size-mark.ensures.size, c.encode_size-mark.ensures.bound)) (c.fits_limits.ensures most version has few.some (omega (arith, few.poly_few)))
    (c.fits_limits-2.ensures most dealers) (c.fits_limits-3.ensures most players) (c.fits_limits-4.ensures most (omega (arith, few.revealed_few)))
