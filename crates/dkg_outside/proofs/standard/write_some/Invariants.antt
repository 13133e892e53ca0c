-- A write that was interrupted added nothing.
use Rattle.std.specs.Io.KnownBytes.{Keeps}
use Rattle.dkg_outside.proofs.standard.write_some.Given as goal

abbrev pub invariant-loop : goal.invariant-loop
invariant-loop g l = Keeps (g.W.Write.contents l.initial.writer) (g.W.Write.contents l.writer)
