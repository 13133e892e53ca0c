use Rattle.std.proofs.Common.{ℕ, List, arith}
use Rattle.std.specs.Int.NonZero.{non_zero_u32_get}
use Rattle.dkg_types.specs.Bounds.{payload_bound}
use Rattle.dkg_types.proofs.payload.Payload.max_encode_size.Goals as goal

pub returns-clause-enough : goal.returns-clause-enough
returns-clause-enough g c = λ version.
    payload_bound (λ (peers : List ℕ). g.Dir.Read.fits (g.Dir.Directory.config_of peers)) g.Dir.Spelled.spelling g.Dir.Directory.matches_of (non_zero_u32_get c.args.max) version c.max_encode_size.result (omega (arith, c.max_encode_size.ensures.bound))
    (c.max_encode_size.ensures.enough version)
