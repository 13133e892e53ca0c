use Rattle.std.proofs.Common.{◌≡◌, ◌≤◌, ◌+◌, drop}
use Rattle.dkg_words.specs.Lines.{line_feeds}
use Rattle.dkg_words.proofs.lines.line_number.Given as goal

abbrev pub invariant-loop-byte : goal.invariant-loop-byte
invariant-loop-byte l = record {
  counted : l.number + line_feeds (drop l.byte-index l.byte-items) ≡ 1 + line_feeds l.byte-items;
  in_bound : l.number ≤ 1 + l.byte-index;
}
