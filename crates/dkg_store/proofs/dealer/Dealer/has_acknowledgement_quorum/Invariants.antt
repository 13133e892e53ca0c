use Rattle.std.proofs.Common.{◌≡◌, ◌+◌, length}
use Rattle.dkg_store.specs.Dealer.{unsent}
use Rattle.dkg_store.proofs.dealer.Dealer.has_acknowledgement_quorum.Given as goal

abbrev pub invariant-loop : goal.invariant-loop
invariant-loop l = l.count + length l.iterator' ≡ length (unsent l.self.acks l.self.privates l.self.round.players)
