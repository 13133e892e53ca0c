use Rattle.dkg_laws.proofs.NodeKept.{node_peers_are_kept as law}
use Rattle.dkg_laws.proofs.node_peers_are_kept.Goals as goal

pub returns : goal.returns
returns g c = law
