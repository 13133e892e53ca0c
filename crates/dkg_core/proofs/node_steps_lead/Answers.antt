use Rattle.dkg_core.proofs.Stepping.{node_steps_lead as law}
use Rattle.dkg_core.proofs.node_steps_lead.Goals as goal

pub returns : goal.returns
returns g c = law
