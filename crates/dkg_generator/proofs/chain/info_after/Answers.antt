use Rattle.std.proofs.Common.{◌≡◌, Option, ap, subst, ◌∙◌}
use Rattle.std.specs.Prelude.{IfOk}
use Rattle.dkg_ceremony.specs.declared.output.Output.{Output}
use Rattle.dkg_ceremony.specs.Outcomes.{LogMap, outcome_of}
use Rattle.dkg_infos.specs.NextInfos.{info_by, next_info}
use Rattle.dkg_generator.specs.Chain.{provided}
use Rattle.dkg_generator.proofs.chain.info_after.Goals as goal

pub returns : goal.returns
unfolding next_info
returns c =
    let made = c.in_ok-made.ensures ∙ ap (λ (logs : LogMap). outcome_of c.args.round.now logs) c.in_ok-logs.ensures in
    subst (λ (o : Option Output). IfOk c.info_with.result (λ next. next ≡ info_by provided c.args.info.now o)) made c.info_with.ensures
