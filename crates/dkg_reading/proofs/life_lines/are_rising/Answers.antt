use Rattle.dkg_reading.proofs.Rise.{rises_value}
use Rattle.dkg_reading.proofs.life_lines.are_rising.Goals as goal

pub returns : goal.returns
returns c = rises_value c.is_rising.result c.args.numbers.now c.is_rising.ensures
