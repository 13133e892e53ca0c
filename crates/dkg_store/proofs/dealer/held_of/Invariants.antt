use Rattle.std.proofs.Common.{◌≡◌, ◌++◌}
use Rattle.dkg_store.specs.Dealer.{held_acks}
use Rattle.dkg_store.proofs.dealer.held_of.Given as goal

abbrev pub invariant-loop-player : goal.invariant-loop-player
invariant-loop-player l = l.held.items ++ held_acks l.acks l.player-iterator ≡ held_acks l.acks l.players
