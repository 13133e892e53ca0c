use Rattle.dkg_core.specs.Asked.{read_somewhere}
use Rattle.dkg_laws.proofs.MovingShares.{blocks_put_shares as law}
use Rattle.dkg_laws.proofs.blocks_put_shares.Goals as goal

pub returns : goal.returns
returns g c = λ its. law its (read_somewhere its)
