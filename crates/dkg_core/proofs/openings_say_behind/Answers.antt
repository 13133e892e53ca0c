use Rattle.dkg_core.proofs.Behind.{openings_say_behind as law}
use Rattle.dkg_core.proofs.openings_say_behind.Goals as goal

pub returns : goal.returns
returns g c = law
