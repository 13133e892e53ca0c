use Rattle.std.proofs.Common.{◌≡◌, ◌++◌}
use Rattle.dkg_store.specs.Dealer.{unsent}
use Rattle.dkg_life.specs.Steps.{with_public}
use Rattle.dkg_life.proofs.Offered.{flat}
use Rattle.dkg_dealing.proofs.offers.unsent_of.Given as goal

abbrev pub invariant-loop-player : goal.invariant-loop-player
invariant-loop-player l = l.unsent.items ++ flat l.player-iterator ≡ with_public l.dealer.public (unsent l.dealer.acks l.dealer.privates l.dealer.round.players)
