use Rattle.dkg_core.proofs.Behind.{steps_run_behind as law}
use Rattle.dkg_core.proofs.steps_run_behind.Goals as goal

pub returns : goal.returns
returns g c = law
