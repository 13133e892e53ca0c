use Rattle.std.proofs.Common.{◌≡◌, map, take}
use Rattle.dkg_ceremony.specs.Acks.{ack_of}
use Rattle.dkg_generator.specs.Chain.{everybody}
use Rattle.dkg_generator.proofs.chain.acks_of.Given as goal

abbrev pub invariant-loop-player : goal.invariant-loop-player
invariant-loop-player l = l.acks.items ≡ map (λ player. (player, ack_of player l.round l.dealer l.public)) (take l.player-index everybody)
