-- The rest gets shorter; what is before it has been written.
use Rattle.std.proofs.Common.{◌≡◌, ◌≤◌, length, IsTrue}
use Rattle.dkg_outside.specs.Outside.{Rest}
use Rattle.dkg_outside.proofs.transfer.write_all.Given as goal

abbrev pub invariant-loop-rest : goal.invariant-loop-rest
invariant-loop-rest g l = record {
  parts : IsTrue g.K.Sink.tells → Rest l.initial.bytes l.rest (g.K.Sink.held l.initial.sink) (g.K.Sink.held l.sink);
  short : length l.rest ≤ length l.initial.bytes;
  none : length l.initial.bytes ≡ 0 → l.sink ≡ l.initial.sink;
  later : g.K.Sink.faults l.initial.sink ≤ g.K.Sink.faults l.sink;
}

abbrev pub decreases-loop-rest : goal.decreases-loop-rest
decreases-loop-rest g l = length l.rest
