use Rattle.std.proofs.Common.{arith, rules}
use Rattle.dkg_calls.proofs.ceremony.read_again.Goals as goal

pub round_trip-requires-clause-fits : goal.round_trip-requires-clause-fits
round_trip-requires-clause-fits c =
    c.fits_limits.ensures c.args.cfg.now.0 c.args.cfg.now.1.0 (search rules) (omega (arith, c.len.ensures, c.if-len-most.false)) (omega (arith, c.len-else-len-most.ensures, c.if-len-most-2.false))
