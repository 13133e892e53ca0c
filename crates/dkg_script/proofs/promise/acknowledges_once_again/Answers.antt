use Rattle.dkg_script.proofs.OneAckAgain.{one_ack_again}
use Rattle.dkg_script.proofs.promise.acknowledges_once_again.Goals as goal

pub returns : goal.returns
returns g c = one_ack_again g.D.Disk.image
