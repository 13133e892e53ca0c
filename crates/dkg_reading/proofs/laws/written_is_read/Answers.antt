use Rattle.dkg_reading.proofs.ScriptLaws.{read_again}
use Rattle.dkg_reading.proofs.laws.written_is_read.Goals as goal

pub returns : goal.returns
returns c = read_again
