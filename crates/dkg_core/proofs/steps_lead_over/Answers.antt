use Rattle.dkg_core.proofs.Stepping.{steps_lead_over as law}
use Rattle.dkg_core.proofs.steps_lead_over.Goals as goal

pub returns : goal.returns
returns g c = law
