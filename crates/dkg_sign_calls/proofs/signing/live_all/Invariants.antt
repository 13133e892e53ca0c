use Rattle.std.specs.Prelude.{IsTrue}
use Rattle.dkg_sign.specs.Lives.{KeepsPromise}
use Rattle.dkg_sign.specs.Played.{desk_deeds}
use Rattle.dkg_sign_calls.proofs.signing.live_all.Given as goal

abbrev pub invariant-loop-life : goal.invariant-loop-life
invariant-loop-life g l = IsTrue g.D.Disk.tells → KeepsPromise (desk_deeds l.deeds.items) (g.D.Disk.image l.disk)
