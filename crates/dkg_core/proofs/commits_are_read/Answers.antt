use Rattle.dkg_core.proofs.Storing.{commits_are_read as law}
use Rattle.dkg_core.proofs.commits_are_read.Goals as goal

pub returns : goal.returns
returns g c = law
