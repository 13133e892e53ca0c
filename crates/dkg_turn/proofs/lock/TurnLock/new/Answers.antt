use Rattle.std.proofs.Common.{rules}
use Rattle.dkg_turn.proofs.Keeps.{begins}
use Rattle.dkg_turn.proofs.lock.TurnLock.new.Goals as goal

pub new-requires-2 : goal.new-requires-2
new-requires-2 g c = begins g.T.Turn.turns _ record { value = c.args.value; history = c.new.result } _ (search rules) (search rules) (search rules)
