use Rattle.dkg_core.proofs.Probes.{probes_step as law}
use Rattle.dkg_core.proofs.probes_step.Goals as goal

pub returns : goal.returns
returns g c = law
