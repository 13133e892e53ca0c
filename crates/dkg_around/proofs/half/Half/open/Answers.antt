use Rattle.std.proofs.Common.{sym}
use Rattle.dkg_around.proofs.Entering.{ready_at}
use Rattle.dkg_around.proofs.half.Half.open.Goals as goal

pub enter-requires : goal.enter-requires
enter-requires g c =
    let its = c.requires.ready in
    record { ready = ready_at its.0 c.args.fence.now c.in-Some.block.now _ _ c.in_ok-bounds.bounds c.boundary_of.result its.1 (c.in_ok-bounds.ensures its.0 its.1) c.boundary_of.ensures c.in-Some.ensures (sym c.in_ok-check_info.ensures) its.2 }
