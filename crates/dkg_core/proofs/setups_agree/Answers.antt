use Rattle.dkg_core.proofs.Agreeing.{setups_agree as law}
use Rattle.dkg_core.proofs.setups_agree.Goals as goal

pub returns : goal.returns
returns g c = law
