use Rattle.std.proofs.Common.{rules, ◌≡◌, ◌++◌, ℕ, List, ap, ◌∙◌}
use Rattle.dkg_store.specs.Dealer.{to_send, unsent}
use Rattle.dkg_life.proofs.Offered.{flat, flat_sent}
use Rattle.dkg_dealing.proofs.offers.unsent_of.Goals as goal

pub loop-player-init : goal.loop-player-init
loop-player-init c =
    let given : c.into_iter-player-iterator.result ≡ to_send c.args.dealer.now.public (unsent c.args.dealer.now.acks c.args.dealer.now.privates c.args.dealer.now.round.players) = search rules in
    ap (λ (l : List (ℕ × List ℕ × ℕ)). l ++ flat c.into_iter-player-iterator.result) c.new-unsent.ensures.items ∙ ap (λ (l : List (ℕ × (List ℕ × ℕ))). flat l) given
    ∙ flat_sent c.args.dealer.now.public (unsent c.args.dealer.now.acks c.args.dealer.now.privates c.args.dealer.now.round.players)
