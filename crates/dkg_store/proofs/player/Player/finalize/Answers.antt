use Rattle.std.proofs.Common.{◌≡◌, ℕ, List, Ok, sym, subst}
use Rattle.std.specs.Prelude.{IfSome}
use Rattle.dkg_values.specs.Rising.{lookup}
use Rattle.std.specs.FinMap.{entries}
use Rattle.dkg_ceremony.specs.Finishes.{AnswersFinish, IsMissing}
use Rattle.dkg_store.proofs.Lacking.{refused_by}
use Rattle.dkg_store.proofs.Own.{checked_in_list}
use Rattle.dkg_store.proofs.player.Player.finalize.Goals as goal

pub finish-requires-clause-checked : goal.finish-requires-clause-checked
finish-requires-clause-checked g c =
    subst (λ (l : List (ℕ × (List ℕ × ℕ))). (dealer : ℕ) → IfSome (lookup dealer l) (λ d. g.C.Ceremony.dealing_of c.args.self.round c.args.self.me dealer d.0 d.1 ≡ Ok tt)) (sym c.in_ok-dealings.ensures)
    (checked_in_list (g.C.Ceremony.dealing_of c.args.self.round c.args.self.me) c.args.self.dealings c.requires.passes)

pub returns-clause-missing : goal.returns-clause-missing
returns-clause-missing g c =
    let finish = g.C.Ceremony.finish_of c.args.self.round c.args.self.me in
    let held = entries c.args.self.dealings in
    refused_by (IsMissing (λ dealer log. g.C.Ceremony.bears_ack_of c.args.self.round dealer log c.args.self.me) held c.args.logs.now (g.C.Ceremony.selected_of c.args.self.round c.args.logs.now))
    (finish held c.args.logs.now) c.finish.result (g.met.C.Ceremony.missing_lacks c.args.self.round c.args.self.me held c.args.logs.now)
    (subst (λ (l : List (ℕ × (List ℕ × ℕ))). AnswersFinish (finish l c.args.logs.now) c.finish.result) c.in_ok-dealings.ensures c.finish.ensures)
