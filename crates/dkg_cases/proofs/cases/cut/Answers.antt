use Rattle.dkg_reading.proofs.Spelled.{cut_value}
use Rattle.dkg_cases.proofs.cases.cut.Goals as goal

pub returns : goal.returns
returns c = cut_value c.args.at c.args.bytes.now c.parted.result c.parted.ensures
