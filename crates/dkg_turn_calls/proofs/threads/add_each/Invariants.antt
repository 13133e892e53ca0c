use Rattle.dkg_turn.specs.Passes.{IsPassOf}
use Rattle.dkg_turn_calls.proofs.threads.add_each.Given as goal

abbrev pub invariant-loop-i : goal.invariant-loop-i
invariant-loop-i g l = IsPassOf l.lock l.pass
