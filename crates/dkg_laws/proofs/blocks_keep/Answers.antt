use Rattle.dkg_laws.proofs.BlocksKept.{blocks_keep as law}
use Rattle.dkg_laws.proofs.blocks_keep.Goals as goal

pub returns : goal.returns
returns g c = law
