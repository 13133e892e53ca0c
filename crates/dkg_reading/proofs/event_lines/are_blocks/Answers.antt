use Rattle.dkg_reading.proofs.Numbered.{blocks_value}
use Rattle.dkg_reading.proofs.event_lines.are_blocks.Goals as goal

pub returns : goal.returns
returns c = blocks_value c.are_all_below.result c.args.blocks c.args.numbers.now c.are_all_below.ensures
