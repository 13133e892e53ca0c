use Rattle.dkg_laws.proofs.Quiet.{openings_are_quiet as law}
use Rattle.dkg_laws.proofs.openings_are_quiet.Goals as goal

pub returns : goal.returns
returns g c = law
