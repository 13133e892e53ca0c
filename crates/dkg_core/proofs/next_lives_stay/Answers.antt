use Rattle.dkg_core.proofs.Stepping.{next_lives_stay as law}
use Rattle.dkg_core.proofs.next_lives_stay.Goals as goal

pub returns : goal.returns
returns g c = law
