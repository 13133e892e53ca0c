use Rattle.dkg_laws.proofs.NodeKept.{node_steps_agree as law}
use Rattle.dkg_laws.proofs.node_steps_agree.Goals as goal

pub returns : goal.returns
returns g c = law
