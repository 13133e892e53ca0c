use Rattle.dkg_laws.proofs.Openings.{node_openings_lead_over as law}
use Rattle.dkg_laws.proofs.node_openings_lead_over.Goals as goal

pub returns : goal.returns
returns g c = law
