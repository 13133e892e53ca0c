use Rattle.dkg_core.proofs.Storing.{node_steps_keep_secrets as law}
use Rattle.dkg_core.proofs.node_steps_keep_secrets.Goals as goal

pub returns : goal.returns
returns g c = law
