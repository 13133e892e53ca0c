use Rattle.dkg_laws.proofs.Openings.{node_openings_lead as law}
use Rattle.dkg_laws.proofs.node_openings_lead.Goals as goal

pub returns : goal.returns
returns g c = law
