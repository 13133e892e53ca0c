use Rattle.std.proofs.Common.{◌≡◌, true, arith}
use Rattle.std.specs.Prelude.{◌==◌}
use Rattle.std.proofs.lemmas.Bool.Decides.{nat_tests}
use Rattle.std.proofs.lemmas.Grind.{common_steps}
use Rattle.dkg_verifying.proofs.Telling.{served_for}
use Rattle.dkg_blocks.proofs.logs.is_served_at.Goals as goal

pub returns-in-Some : goal.returns-in-Some
returns-in-Some g c = λ beside fence same.
    let equal : (c.in-Some.at == c.args.height) ≡ true = grind (arith, nat_tests, common_steps) in
    served_for beside fence c.args.life.now c.args.height c.in-Some.at c.args.served same c.in-Some.is equal c.own_log.result (c.own_log.ensures beside fence) c.is_some.result c.is_some.ensures c.in-Including.is
