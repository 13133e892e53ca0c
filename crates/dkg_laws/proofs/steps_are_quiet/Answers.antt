use Rattle.dkg_laws.proofs.Quiet.{steps_are_quiet as law}
use Rattle.dkg_laws.proofs.steps_are_quiet.Goals as goal

pub returns : goal.returns
returns g c = law
