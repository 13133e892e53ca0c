-- Each turn has taken at least a byte from the front of what was left.
use Rattle.std.proofs.Common.{◌≤◌, ◌<◌, length, IsTrue}
use Rattle.dkg_outside.specs.Outside.{TookFront}
use Rattle.dkg_outside.proofs.transfer.read_up_to.Given as goal

abbrev pub invariant-loop-turn : goal.invariant-loop-turn
invariant-loop-turn g l = record {
  took : IsTrue g.S.Source.tells → TookFront l.bytes.items (g.S.Source.left l.initial.source) (g.S.Source.left l.source);
  some : l.turn ≤ length l.bytes.items;
  in_bound : length l.bytes.items ≤ l.most;
  room : 0 < length l.piece;
  later : g.S.Source.faults l.initial.source ≤ g.S.Source.faults l.source;
}
