use Rattle.dkg_core.proofs.Setups.{setups_store as law}
use Rattle.dkg_core.proofs.setups_store.Goals as goal

pub returns : goal.returns
returns g c = law
