use Rattle.dkg_reading.proofs.ScriptLaws.{written_again}
use Rattle.dkg_reading.proofs.laws.read_is_written.Goals as goal

pub returns : goal.returns
returns c = written_again
