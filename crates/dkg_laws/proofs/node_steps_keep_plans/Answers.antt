use Rattle.dkg_laws.proofs.BlocksKept.{node_steps_keep_plans as law}
use Rattle.dkg_laws.proofs.node_steps_keep_plans.Goals as goal

pub returns : goal.returns
returns g c = law
