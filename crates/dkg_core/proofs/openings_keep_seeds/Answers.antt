use Rattle.dkg_core.proofs.Storing.{openings_keep_seeds as law}
use Rattle.dkg_core.proofs.openings_keep_seeds.Goals as goal

pub returns : goal.returns
returns g c = law
