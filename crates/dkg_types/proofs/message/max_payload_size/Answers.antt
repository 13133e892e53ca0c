use Rattle.std.specs.Int.NonZero.{non_zero_u32_get}
use Rattle.dkg_types.specs.Bounds.{channel_bound}
use Rattle.dkg_types.proofs.message.max_payload_size.Goals as goal

pub returns-clause-enough : goal.returns-clause-enough
returns-clause-enough c = channel_bound (non_zero_u32_get c.args.max) c.max_encode_size.result c.max_encode_size.ensures.enough
