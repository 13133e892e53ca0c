use Rattle.dkg_laws.proofs.NodeEndings.{node_dues_are_answered as law}
use Rattle.dkg_laws.proofs.node_dues_are_answered.Goals as goal

pub returns : goal.returns
returns g c = law
