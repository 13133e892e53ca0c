use Rattle.dkg_verifying.proofs.Completing.{seen_retained}
use Rattle.dkg_verifying.proofs.verifying.retain.Goals as goal

pub returns-clause-kept : goal.returns-clause-kept
returns-clause-kept g c = λ fixed beside fence same seen.
    seen_retained fixed beside fence c.args.life.now c.args.inclusion.now seen c.args.verified c.in_ok-canonical.canonical (c.in_ok-canonical.ensures.canonical fixed beside fence same)
    c.retain.new.self c.retain.ensures.running c.retain.ensures.canonical c.retain.ensures.stays c.retain.ensures.replaces
