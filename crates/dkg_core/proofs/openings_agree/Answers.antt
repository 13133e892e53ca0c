use Rattle.dkg_core.proofs.Agreeing.{openings_agree as law}
use Rattle.dkg_core.proofs.openings_agree.Goals as goal

pub returns : goal.returns
returns g c = law
