use Rattle.dkg_laws.proofs.Openings.{openings_lead as law}
use Rattle.dkg_laws.proofs.openings_lead.Goals as goal

pub returns : goal.returns
returns g c = law
