use Rattle.std.proofs.Common.{◌≡◌, ◌+◌, true, false, ap, sym, arith, ◌∙◌}
use Rattle.std.specs.Prelude.{◌==◌}
use Rattle.std.specs.Option.{option_copied}
use Rattle.std.proofs.lemmas.Bool.Decides.{nat_tests}
use Rattle.std.proofs.lemmas.Grind.{common_steps}
use Rattle.dkg_ceremony.specs.declared.epocher.Bounds.{Bounds}
use Rattle.dkg_blocks.proofs.Applying.{carried_none, carried_other, carried_some, refused_at, refused_for}
use Rattle.dkg_blocks.proofs.following.carried_info.Goals as goal

pub returns-in_default-clause-err : goal.returns-in_default-clause-err
returns-in_default-clause-err g c =
    carried_none c.args.block.now c.args.bounds.now.epoch (sym c.epoch_info.ensures ∙ ap option_copied c.in_default.is)
    ∙ ap (refused_at {Dir = g.row.Dir.Denot}) (sym c.height.ensures)

pub returns-then-ne-clause-err : goal.returns-then-ne-clause-err
returns-then-ne-clause-err g c =
    let test : (c.in-Some.info.now.epoch == c.args.bounds.now.epoch + 1) ≡ false = grind (arith, nat_tests, common_steps) in
    carried_other c.args.block.now c.args.bounds.now.epoch c.in-Some.info.now (sym c.epoch_info.ensures ∙ ap option_copied c.in-Some.is) test
    ∙ ap (λ (x : Bounds). refused_for {Dir = g.row.Dir.Denot} c.in-Some.info.now.epoch (x.epoch + 1)) (sym c.bounds.view_is)

pub returns-clause-ok : goal.returns-clause-ok
returns-clause-ok g c =
    let test : (c.in-Some.info.now.epoch == c.args.bounds.now.epoch + 1) ≡ true = grind (arith, nat_tests, common_steps) in
    carried_some c.args.block.now c.args.bounds.now.epoch c.in-Some.info.now (sym c.epoch_info.ensures ∙ ap option_copied c.in-Some.is) test
