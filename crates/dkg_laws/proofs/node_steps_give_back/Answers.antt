use Rattle.dkg_laws.proofs.NodeKept.{node_steps_give_back as law}
use Rattle.dkg_laws.proofs.node_steps_give_back.Goals as goal

pub returns : goal.returns
returns g c = law
