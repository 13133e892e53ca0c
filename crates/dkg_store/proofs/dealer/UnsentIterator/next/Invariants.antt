use Rattle.std.proofs.Common.{◌≡◌, length}
use Rattle.dkg_store.specs.Dealer.{unsent}
use Rattle.dkg_store.proofs.dealer.UnsentIterator.next.Given as goal

abbrev pub invariant-loop-player : goal.invariant-loop-player
invariant-loop-player l = record {
  left : unsent l.self-inside.acks.now l.self-inside.privates.now l.self-inside.rest.now ≡ unsent l.initial.self-inside.acks.now l.initial.self-inside.privates.now l.initial.self-inside.rest.now;
  public : l.self-inside.public ≡ l.initial.self-inside.public;
  privates : l.self-inside.privates ≡ l.initial.self-inside.privates;
  acks : l.self-inside.acks ≡ l.initial.self-inside.acks;
}

abbrev pub decreases-loop-player : goal.decreases-loop-player
decreases-loop-player l = length l.self-inside.rest.now
