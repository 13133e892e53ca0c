use Rattle.std.proofs.Common.{◌≡◌, ℕ, ◌+◌, ◌*◌, arith}
use Rattle.std.specs.Int.NonZero.{non_zero_u32_get}
use Rattle.dkg_infos.specs.InfoBounds.{longer_bound}
use Rattle.dkg_types.specs.Bounds.{message_bound}
use Rattle.dkg_types.specs.MessageCodes.{MessageFits, message_spelling}
use Rattle.dkg_types.proofs.message.Message.max_encode_size.Goals as goal

pub returns-clause-enough : goal.returns-clause-enough
returns-clause-enough c =
    let most : ℕ = non_zero_u32_get c.args.max in
    let is : c.get.result ≡ most = c.get.ensures.value in
    longer_bound (MessageFits most) message_spelling (8 + 2 * most) (8 + 2 * c.get.result) (message_bound most (omega (arith, is, c.get.ensures.nonzero))) (omega (arith, is))
