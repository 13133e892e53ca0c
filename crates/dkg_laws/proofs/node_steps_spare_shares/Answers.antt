use Rattle.dkg_laws.proofs.SparingShares.{node_steps_spare_shares as law}
use Rattle.dkg_laws.proofs.node_steps_spare_shares.Goals as goal

pub returns : goal.returns
returns g c = law
