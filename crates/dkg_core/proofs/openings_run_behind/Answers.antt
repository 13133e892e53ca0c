use Rattle.dkg_core.proofs.Behind.{openings_run_behind as law}
use Rattle.dkg_core.proofs.openings_run_behind.Goals as goal

pub returns : goal.returns
returns g c = law
