use Rattle.std.proofs.Common.{ap, arith}
use Rattle.std.specs.Int.NonZero.{non_zero_u32_get}
use Rattle.std.specs.Result.{result_ok}
use Rattle.dkg_text.specs.FoundPayloads.{is_found}
use Rattle.dkg_text.proofs.payload_bytes.find.Goals as goal

pub found_of-requires : goal.found_of-requires
found_of-requires c =
    is_found (non_zero_u32_get c.args.limits.0) c.args.limits.1.0 c.args.bytes.now c.in-Ok.payload (λ i. omega (arith, c.type_inv.bytes i)) c.in-Ok.ensures.found.1 (ap result_ok c.in-Ok.ensures.exact)
