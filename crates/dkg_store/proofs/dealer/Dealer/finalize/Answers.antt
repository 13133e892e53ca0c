use Rattle.std.proofs.Common.{◌≡◌, ℕ, List, Ok}
use Rattle.dkg_store.proofs.Dealing.{has_entries}
use Rattle.dkg_store.proofs.dealer.Dealer.finalize.Goals as goal

pub sign_log-requires-clause-entries : goal.sign_log-requires-clause-entries
sign_log-requires-clause-entries g c =
    has_entries (λ (dealt : List ℕ × List (ℕ × ℕ)) (me private : ℕ). g.C.Ceremony.dealing_of c.args.self.now.round me c.args.self.now.me dealt.0 private ≡ Ok tt)
    (g.C.Ceremony.deal_of c.args.self.now.round c.args.self.now.me c.requires.dealer.share c.requires.dealer.seed) c.args.self.now.public c.args.self.now.privates c.args.self.now.round.players c.requires.dealer.dealt
    (g.met.C.Ceremony.deals_pass c.args.self.now.round c.args.self.now.me c.requires.dealer.share c.requires.dealer.seed c.requires.dealer.among) _
