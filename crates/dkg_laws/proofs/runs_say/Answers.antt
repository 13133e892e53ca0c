use Rattle.dkg_laws.proofs.Said.{runs_say as law}
use Rattle.dkg_laws.proofs.runs_say.Goals as goal

pub returns : goal.returns
returns g c = law
