use Rattle.std.proofs.Common.{ℕ, List, ◌∙◌, sym, subst}
use Rattle.std.specs.FinMap as map
use Rattle.std.specs.Ordering.{nat_cmp}
use Rattle.dkg_store.specs.Recorded.{AreChecked}
use Rattle.dkg_store.proofs.Own.{copy_checked}
use Rattle.dkg_store.proofs.store.Store.create_player_with_logs.Goals as goal

pub returns-clause-checked : goal.returns-clause-checked
returns-clause-checked g c =
    let check = g.C.Ceremony.dealing_of c.args.round.now c.args.me in
    subst (λ (m : map.FinMap nat_cmp (List ℕ × ℕ)). AreChecked check m) (sym c.in_ok-new.ensures.dealings)
    (copy_checked check c.args.epoch c.args.self.now.dealings c.in_ok-dealings.dealings c.in_ok-dealings.ensures (sym c.in_ok-dealer.ensures ∙ c.in_default.is))
