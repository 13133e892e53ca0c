use Rattle.dkg_laws.proofs.Observing.{observes_first as law}
use Rattle.dkg_laws.proofs.observes_first.Goals as goal

pub returns : goal.returns
returns g c = law
