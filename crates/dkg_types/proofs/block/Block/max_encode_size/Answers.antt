use Rattle.std.proofs.Common.{ℕ, List}
use Rattle.std.specs.Int.NonZero.{non_zero_u32_get}
use Rattle.dkg_types.specs.Bounds.{block_bound}
use Rattle.dkg_types.specs.PayloadCodes.{PayloadFits}
use Rattle.dkg_types.proofs.block.Block.max_encode_size.Goals as goal

pub returns-clause-enough : goal.returns-clause-enough
returns-clause-enough g c = λ version.
    let fits = λ (peers : List ℕ). g.Dir.Read.fits (g.Dir.Directory.config_of peers) in
    block_bound (PayloadFits fits g.Dir.Directory.matches_of (non_zero_u32_get c.args.max) version) g.Dir.Spelled.spelling c.max_encode_size.result (c.max_encode_size.ensures.enough version)
