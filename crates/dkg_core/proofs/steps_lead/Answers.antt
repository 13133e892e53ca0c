use Rattle.dkg_core.proofs.Stepping.{steps_lead as law}
use Rattle.dkg_core.proofs.steps_lead.Goals as goal

pub returns : goal.returns
returns g c = law
