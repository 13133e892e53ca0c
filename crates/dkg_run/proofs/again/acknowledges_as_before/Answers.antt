use Rattle.dkg_run.proofs.TwiceAcked.{acknowledges_as_before as law}
use Rattle.dkg_run.proofs.again.acknowledges_as_before.Goals as goal

pub returns : goal.returns
returns g c = law g.D.Disk.files g.D.Disk.image
