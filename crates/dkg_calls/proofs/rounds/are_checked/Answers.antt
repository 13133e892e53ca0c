use Rattle.std.proofs.Common.{◌≡◌, ◌∙◌, ℕ, List, Ok, subst, ap, length, arith}
use Rattle.std.specs.List.{AllByRecursion}
use Rattle.std.proofs.lemmas.List.{take_all}
use Rattle.dkg_ceremony.specs.FinishLaws.{found_passes}
use Rattle.dkg_calls.proofs.rounds.are_checked.Goals as goal

pub returns : goal.returns
returns g c =
    let dealing_of = g.C.Ceremony.dealing_of in
    let all : AllByRecursion (λ p. dealing_of c.args.round.now c.args.me p.0 p.1.0 p.1.1 ≡ Ok tt) c.args.dealings.now =
    subst (AllByRecursion (λ (p : ℕ × (List ℕ × ℕ)). dealing_of c.args.round.now c.args.me p.0 p.1.0 p.1.1 ≡ Ok tt)) (take_all c.loop-dealer.dealer-index c.as_slice-dealer-items.result.now (omega (arith, c.loop-dealer-test.false)) ∙ c.as_slice-dealer-items.ensures.items) c.loop-dealer.invariant in
    λ t. found_passes (λ (dealer : ℕ) (d : List ℕ × ℕ). dealing_of c.args.round.now c.args.me dealer d.0 d.1 ≡ Ok tt) c.args.dealings.now all
