use Rattle.std.proofs.Common.{ℕ, List, arith}
use Rattle.std.specs.Int.NonZero.{non_zero_u32_get}
use Rattle.dkg_types.specs.BlockCodes.{BlockFits}
use Rattle.dkg_types.specs.PayloadCodes.{PayloadFits}
use Rattle.dkg_probe.specs.Wire.{probe_message_bound}
use Rattle.dkg_probe.proofs.wire.max_payload_size.Goals as goal

pub returns-clause-enough : goal.returns-clause-enough
returns-clause-enough g c = λ version.
    let fits = λ (peers : List ℕ). g.Dir.Read.fits (g.Dir.Directory.config_of peers) in
    probe_message_bound (BlockFits (PayloadFits fits g.Dir.Directory.matches_of (non_zero_u32_get c.args.participants) version) g.Dir.Spelled.spelling) g.Dir.Spelled.spelling c.max_encode_size-application.result c.max_encode_size.result (omega arith) (omega arith) (c.max_encode_size-application.ensures.enough version)
