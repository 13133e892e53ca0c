use Rattle.std.proofs.Common.{◌+◌, ◌≤◌, length, arith}
use Rattle.dkg_types.specs.BlockCodes.{block_spelling}
use Rattle.dkg_probe.specs.Wire.{probe_message_bound}
use Rattle.dkg_probe.proofs.wire.Message.max_encode_size.Goals as goal

pub returns-clause-enough : goal.returns-clause-enough
returns-clause-enough g c =
    probe_message_bound (λ b. length (block_spelling g.Dir.Spelled.spelling b) ≤ c.args.application) g.Dir.Spelled.spelling c.args.application (1 + c.max.result) (omega arith) (omega arith) (record { within = λ b fit. fit })
