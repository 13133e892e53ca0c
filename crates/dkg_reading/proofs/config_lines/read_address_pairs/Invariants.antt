use Rattle.std.proofs.Common.{◌<◌, ◌^◌, length}
use Rattle.std.specs.Prelude.{codes}
use Rattle.dkg_reading.specs.Grammar.{address_line_at}
use Rattle.dkg_reading.specs.Lines.{begins, many_lines_at}
use Rattle.dkg_reading.proofs.ReadOn.{IsLeft}
use Rattle.std.specs.List.Sorted.{IsStrictlyIncreasing}
use Rattle.dkg_values.specs.Rising.{keys_of}
use Rattle.dkg_reading.proofs.config_lines.read_address_pairs.Given as goal

abbrev pub invariant-pairs : goal.invariant-pairs
invariant-pairs l = record {
  at : IsLeft (begins (codes "address")) (address_line_at) l.pairs.items l.lines.rest.now (many_lines_at (begins (codes "address")) (address_line_at) l.initial.lines.rest.now);
  rising : IsStrictlyIncreasing (keys_of l.pairs.items);
  in_bound : length l.pairs.items < 2 ^ 32;
}

abbrev pub decreases-pairs : goal.decreases-pairs
decreases-pairs l = length l.lines.rest.now
