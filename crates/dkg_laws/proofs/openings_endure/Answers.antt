use Rattle.dkg_laws.proofs.Reopening.{openings_endure as law}
use Rattle.dkg_laws.proofs.openings_endure.Goals as goal

pub returns : goal.returns
returns g c = law
