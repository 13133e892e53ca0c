use Rattle.dkg_words.proofs.Parts.{parts_are, parts_shorter}
use Rattle.dkg_words.proofs.lines.cut.Goals as goal

pub returns : goal.returns
returns c = record {
  value = parts_are c.args.at c.args.text.now c.parted.result c.parted.ensures;
  shorter = parts_shorter c.args.at c.args.text.now c.parted.result c.parted.ensures;
}
