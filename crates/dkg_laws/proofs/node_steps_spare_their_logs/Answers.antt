use Rattle.dkg_laws.proofs.BlocksKept.{node_steps_spare_their_logs as law}
use Rattle.dkg_laws.proofs.node_steps_spare_their_logs.Goals as goal

pub returns : goal.returns
returns g c = law
