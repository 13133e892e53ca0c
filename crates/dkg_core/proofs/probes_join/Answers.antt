use Rattle.dkg_core.proofs.Joining.{probes_join as law}
use Rattle.dkg_core.proofs.probes_join.Goals as goal

pub returns : goal.returns
returns g c = law
