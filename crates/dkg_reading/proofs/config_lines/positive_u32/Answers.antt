use Rattle.dkg_reading.proofs.NonZeros.{made_32}
use Rattle.dkg_reading.proofs.config_lines.positive_u32.Goals as goal

pub returns : goal.returns
returns c = made_32 c.new.result c.args.number c.new.ensures
