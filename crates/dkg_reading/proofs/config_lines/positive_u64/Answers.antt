use Rattle.dkg_reading.proofs.NonZeros.{made_64}
use Rattle.dkg_reading.proofs.config_lines.positive_u64.Goals as goal

pub returns : goal.returns
returns c = made_64 c.new.result c.args.number c.new.ensures
