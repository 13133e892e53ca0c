use Rattle.dkg_laws.proofs.NodeEndings.{node_steps_are_quiet as law}
use Rattle.dkg_laws.proofs.node_steps_are_quiet.Goals as goal

pub returns : goal.returns
returns g c = law
