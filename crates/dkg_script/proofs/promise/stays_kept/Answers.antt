use Rattle.dkg_script.proofs.EachEntry.{stays_kept as law}
use Rattle.dkg_script.proofs.promise.stays_kept.Goals as goal

pub returns : goal.returns
returns g c = law g.D.Disk.image
