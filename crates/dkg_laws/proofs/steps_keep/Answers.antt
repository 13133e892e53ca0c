use Rattle.dkg_laws.proofs.Enduring.{steps_keep as law}
use Rattle.dkg_laws.proofs.steps_keep.Goals as goal

pub returns : goal.returns
returns g c = law
