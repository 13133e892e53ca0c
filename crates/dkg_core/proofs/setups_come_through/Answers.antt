use Rattle.dkg_core.proofs.Setups.{setups_come_through as law}
use Rattle.dkg_core.proofs.setups_come_through.Goals as goal

pub returns : goal.returns
returns g c = law
