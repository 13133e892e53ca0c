use Rattle.std.specs.Prelude.{IsTrue}
use Rattle.dkg_sign.specs.Played.{IsPlaying, desk_deeds}
use Rattle.dkg_sign_calls.proofs.signing.live.Given as goal

abbrev pub invariant-loop-request : goal.invariant-loop-request
invariant-loop-request g l = IsTrue g.D.Disk.tells → IsPlaying (desk_deeds l.deeds.items) l.desk (g.D.Disk.files l.disk) (g.D.Disk.image l.disk)
