use Rattle.dkg_laws.proofs.Spared.{node_openings_keep_plans as law}
use Rattle.dkg_laws.proofs.node_openings_keep_plans.Goals as goal

pub returns : goal.returns
returns g c = law
