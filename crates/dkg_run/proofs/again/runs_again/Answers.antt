use Rattle.dkg_run.proofs.Twice.{runs_again as law}
use Rattle.dkg_run.proofs.again.runs_again.Goals as goal

pub returns : goal.returns
returns g c = law g.D.Disk.files g.D.Disk.image
