use Rattle.std.proofs.Common.{length}
use Rattle.std.specs.Prelude.{codes}
use Rattle.dkg_reading.specs.Grammar.{block_line_at}
use Rattle.dkg_reading.specs.Lines.{begins, many_lines_at}
use Rattle.dkg_reading.proofs.ReadOn.{IsLeft}
use Rattle.dkg_reading.proofs.block_lines.read_blocks.Given as goal

abbrev pub invariant-more : goal.invariant-more
invariant-more l = record {
  at : IsLeft (begins (codes "block")) (block_line_at l.addressed l.config) l.blocks.items l.lines.rest.now (many_lines_at (begins (codes "block")) (block_line_at l.addressed l.config) l.initial.lines.rest.now);
}

abbrev pub decreases-more : goal.decreases-more
decreases-more l = length l.lines.rest.now
