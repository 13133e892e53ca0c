use Rattle.std.proofs.Common.{◌≡◌, ◌∙◌, arith, sym}
use Rattle.dkg_secrets.proofs.Newest.{newest_none}
use Rattle.dkg_setup.proofs.setup.share_below.Goals as goal

pub returns-then-epoch-eq0-clause-share : goal.returns-then-epoch-eq0-clause-share
returns-then-epoch-eq0-clause-share g c = λ told.
    let first : c.args.epoch ≡ 0 = sym c.epoch.view_is ∙ c.if-epoch-eq0.true in
    sym (newest_none (g.X.SecretStore.held c.args.devices.now.secrets.now).shares c.args.epoch (λ j below. absurd (omega (arith, below, first))))
