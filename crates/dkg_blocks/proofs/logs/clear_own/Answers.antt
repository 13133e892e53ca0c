use Rattle.std.proofs.Common.{◌≡◌, sym, false, ◌∙◌, arith}
use Rattle.std.specs.Prelude.{◌==◌}
use Rattle.std.proofs.lemmas.Bool.Decides.{nat_tests}
use Rattle.std.proofs.lemmas.Grind.{common_steps}
use Rattle.dkg_life.specs.LiveOf.{live_of}
use Rattle.dkg_blocks.proofs.Observed.{cleared_other, own_cleared}
use Rattle.dkg_blocks.proofs.logs.clear_own.Goals as goal

pub returns-then-ne-clause-rest : goal.returns-then-ne-clause-rest
returns-then-ne-clause-rest g c =
    let apart : (c.args.dealer == c.args.me) ≡ false = grind (arith, nat_tests, common_steps) in
    λ i. record c.args.life.now { dealer = sym (cleared_other c.args.me c.args.dealer c.args.life.now.dealer apart) i }

pub returns-then-ne-clause-cleared : goal.returns-then-ne-clause-cleared
returns-then-ne-clause-cleared g c = λ fixed beside fence mine.
    let apart : (c.args.dealer == c.args.me) ≡ false = grind (arith, nat_tests, common_steps) in
    (λ i. live_of beside fence (record c.args.life.now { dealer = sym (cleared_other c.args.me c.args.dealer c.args.life.now.dealer apart) i }))
    ∙ own_cleared fixed c.args.me c.args.dealer mine beside fence c.args.life.now
