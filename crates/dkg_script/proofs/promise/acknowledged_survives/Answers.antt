use Rattle.dkg_script.proofs.Survives.{survives}
use Rattle.dkg_script.proofs.promise.acknowledged_survives.Goals as goal

pub returns : goal.returns
returns g c = survives g.D.Disk.image
