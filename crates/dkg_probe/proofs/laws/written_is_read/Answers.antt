use Rattle.dkg_probe.proofs.Rereading.{messages_again}
use Rattle.dkg_probe.proofs.laws.written_is_read.Goals as goal

pub returns : goal.returns
returns g c = messages_again g.row.Dir-Cfg.Denot g.Dir.Spelled.spelling
