use Rattle.dkg_core.proofs.Stepping.{halves_go_on as law}
use Rattle.dkg_core.proofs.halves_go_on.Goals as goal

pub returns : goal.returns
returns g c = law
