use Rattle.dkg_core.proofs.Counted.{runs_count as law}
use Rattle.dkg_core.proofs.runs_count.Goals as goal

pub returns : goal.returns
returns g c = law
