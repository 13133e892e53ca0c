use Rattle.dkg_core.proofs.Storing.{steps_keep_seeds as law}
use Rattle.dkg_core.proofs.steps_keep_seeds.Goals as goal

pub returns : goal.returns
returns g c = law
