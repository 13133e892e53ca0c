use Rattle.dkg_turn.specs.Passes.{IsPassOf}
use Rattle.dkg_lock_bench.proofs.lock.calls_by.Given as goal

abbrev pub invariant-loop-i : goal.invariant-loop-i
invariant-loop-i g l = IsPassOf l.lock l.pass
