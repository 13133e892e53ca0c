use Rattle.dkg_reading.proofs.Spelled.{cut_shorter, cut_value}
use Rattle.dkg_reading.proofs.fields.cut.Goals as goal

pub returns : goal.returns
returns c = record {
  value = cut_value c.args.at c.args.text.now c.parted.result c.parted.ensures;
  shorter = cut_shorter c.args.at c.args.text.now c.parted.result c.parted.ensures;
}
