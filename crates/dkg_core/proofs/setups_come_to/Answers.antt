use Rattle.dkg_core.proofs.Setups.{setups_come_to as law}
use Rattle.dkg_core.proofs.setups_come_to.Goals as goal

pub returns : goal.returns
returns g c = law
