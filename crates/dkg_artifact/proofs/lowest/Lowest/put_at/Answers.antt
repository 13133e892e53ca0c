use Rattle.std.proofs.Common.{ap, ◌∙◌}
use Rattle.dkg_ceremony.specs.Outcomes.{LogMap}
use Rattle.dkg_values.specs.Rising.{with_pair}
use Rattle.dkg_artifact.proofs.Putting.{put_pair}
use Rattle.dkg_artifact.proofs.lowest.Lowest.put_at.Goals as goal

pub returns-clause-done : goal.returns-clause-done
returns-clause-done c =
    c.in_ok-insert.ensures.entries ∙ put_pair c.args.dealer c.args.log c.self.inside.logs.entries
    ∙ ap (λ (logs : LogMap). with_pair (c.args.dealer, c.args.log) logs) c.self.view_is
