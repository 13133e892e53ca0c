use Rattle.dkg_core.proofs.Counted.{cuts_fall as law}
use Rattle.dkg_core.proofs.cuts_fall.Goals as goal

pub returns : goal.returns
returns g c = law
