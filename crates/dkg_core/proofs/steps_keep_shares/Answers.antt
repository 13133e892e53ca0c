use Rattle.dkg_core.proofs.Storing.{steps_keep_shares as law}
use Rattle.dkg_core.proofs.steps_keep_shares.Goals as goal

pub returns : goal.returns
returns g c = law
