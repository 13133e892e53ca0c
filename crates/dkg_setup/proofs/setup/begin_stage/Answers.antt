use Rattle.std.proofs.Common.{◌∙◌}
use Rattle.dkg_life.specs.LiveOf.{live_of}
use Rattle.dkg_life.proofs.Beside.{then_well}
use Rattle.dkg_life.proofs.Dealers.{begins_later, later_stage}
use Rattle.dkg_setup.proofs.setup.begin_stage.Goals as goal

pub returns-in-Midpoint : goal.returns-in-Midpoint
returns-in-Midpoint g c = record {
  begun = then_well c.begin_inclusion.result (λ begun fixed beside fence fresh mine deals. begun fixed beside fence fresh.served mine deals ∙ begins_later fixed c.args.phase (live_of beside fence c.args.life.now) c.in-Midpoint.is) c.begin_inclusion.ensures.begun;
  rest = c.begin_inclusion.ensures.rest;
  stage = then_well c.begin_inclusion.result (λ is. is ∙ later_stage c.args.phase c.in-Midpoint.is) c.begin_inclusion.ensures.stage;
  dealing = c.begin_inclusion.ensures.dealing;
  same = c.begin_inclusion.ensures.same;
  memory = c.begin_inclusion.ensures.memory;
}
