use Rattle.dkg_script.proofs.OneAck.{one_ack}
use Rattle.dkg_script.proofs.promise.acknowledges_once.Goals as goal

pub returns : goal.returns
returns g c = one_ack g.D.Disk.image
