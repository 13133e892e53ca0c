use Rattle.dkg_laws.proofs.Returning.{steps_give_back as law}
use Rattle.dkg_laws.proofs.steps_give_back.Goals as goal

pub returns : goal.returns
returns g c = law
