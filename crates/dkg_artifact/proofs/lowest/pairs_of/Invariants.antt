use Rattle.std.proofs.Common.{◌≡◌, ◌+◌, ◌≤◌, ◌++◌, length, vec_capacity, vec_len}
use Rattle.dkg_artifact.proofs.lowest.pairs_of.Given as goal

abbrev pub invariant-loop-dealer : goal.invariant-loop-dealer
invariant-loop-dealer l = record {
  items : l.room.items ++ l.dealer-iterator ≡ l.fn.logs.entries;
  enough : length l.fn.logs.entries ≤ vec_capacity l.room;
  count : vec_len l.room + length l.dealer-iterator ≡ length l.fn.logs.entries;
}
