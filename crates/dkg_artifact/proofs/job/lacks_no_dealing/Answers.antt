use Rattle.std.proofs.Common.{◌≡◌, ◌∙◌, ℕ, false, subst, arith}
use Rattle.std.specs.List.{AllByRecursion}
use Rattle.std.proofs.lemmas.List.{take_all}
use Rattle.dkg_ceremony.specs.declared.dealer_log.DealerLog.{DealerLog}
use Rattle.dkg_artifact.specs.Lacking.{lacks}
use Rattle.dkg_artifact.proofs.Lacked.{none_missing}
use Rattle.dkg_artifact.proofs.job.lacks_no_dealing.Goals as goal

pub returns : goal.returns
returns g c =
    let bears_ack_of = g.C.Ceremony.bears_ack_of in
    let round = c.args.round.now in
    let player = c.args.player.now in
    let logs = c.args.logs.now in
    let all : AllByRecursion (λ p. lacks bears_ack_of round player.me player.dealings p.0 p.1 ≡ false) logs =
    subst (AllByRecursion (λ (p : ℕ × DealerLog). lacks bears_ack_of round player.me player.dealings p.0 p.1 ≡ false))
    (take_all c.loop-dealer.dealer-index c.as_slice-dealer-items.result.now (omega (arith, c.loop-dealer-test.false)) ∙ c.as_slice-dealer-items.ensures.items) c.loop-dealer.invariant in
    λ t. none_missing (λ dealer log. bears_ack_of round dealer log player.me) player.dealings logs (g.C.Ceremony.selected_of round logs)
    (g.C.Ceremony.finish_of round player.me player.dealings logs) all (c.finishes_agree.ensures.missing round player.me player.dealings logs)
