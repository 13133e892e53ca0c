use Rattle.dkg_laws.proofs.Openings.{openings_lead_over as law}
use Rattle.dkg_laws.proofs.openings_lead_over.Goals as goal

pub returns : goal.returns
returns g c = law
