use Rattle.dkg_core.proofs.Agreeing.{steps_agree as law}
use Rattle.dkg_core.proofs.steps_agree.Goals as goal

pub returns : goal.returns
returns g c = law
