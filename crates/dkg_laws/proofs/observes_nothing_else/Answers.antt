use Rattle.dkg_laws.proofs.Observing.{observes_nothing_else as law}
use Rattle.dkg_laws.proofs.observes_nothing_else.Goals as goal

pub returns : goal.returns
returns g c = law
