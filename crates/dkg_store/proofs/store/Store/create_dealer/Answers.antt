use Rattle.std.proofs.Common.{◌≡◌, ℕ, Ok, sym, subst}
use Rattle.std.specs.Prelude.{Contains}
use Rattle.std.specs.Option.{option_copied}
use Rattle.dkg_store.specs.Dealer.{IsDealerOf}
use Rattle.dkg_store.specs.Recorded.{at_epoch}
use Rattle.dkg_store.specs.declared.dealer.Dealer.{Dealer}
use Rattle.dkg_store.proofs.Dealing.{made_dealer}
use Rattle.dkg_store.proofs.store.Store.create_dealer.Goals as goal

pub returns-in_ok-dealer-in-Ok-clause-dealer : goal.returns-in_ok-dealer-in-Ok-clause-dealer
returns-in_ok-dealer-in-Ok-clause-dealer g c =
    subst (λ (d : Dealer). IsDealerOf g.C.Ceremony.deal_of g.C.Ceremony.check_ack_of d) (sym c.in_ok-dealer-in-Ok.ensures)
    (made_dealer g.C.Ceremony.deal_of g.C.Ceremony.check_ack_of _ (option_copied c.args.share) c.args.seed.now (at_epoch c.args.epoch c.args.self.now.acks)
    (subst (λ (k : ℕ). Contains c.args.round.now.dealers k) (sym c.public_key-me.ensures) c.requires)
    (subst (λ (k : ℕ). g.C.Ceremony.deal_of c.args.round.now k (option_copied c.args.share) c.args.seed.now ≡ Ok (c.in-Ok.public, c.in-Ok.privates)) (sym c.public_key-me.ensures) c.in-Ok.ensures)
    c.in_ok-acks-in-Ok.ensures)
