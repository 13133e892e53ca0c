use Rattle.dkg_laws.proofs.NodeKept.{node_openings_keep as law}
use Rattle.dkg_laws.proofs.node_openings_keep.Goals as goal

pub returns : goal.returns
returns g c = law
