use Rattle.dkg_script.proofs.ConsistentAsCut.{honest_anyhow as law}
use Rattle.dkg_script.proofs.promise.honest_anyhow.Goals as goal

pub returns : goal.returns
returns g c = law g.D.Disk.image
