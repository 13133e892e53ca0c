use Rattle.std.proofs.Common.{◌≡◌, ◌<◌, ◌∙◌, ℕ, List, sym, ap, subst, length, arith}
use Rattle.dkg_ceremony.specs.declared.round.RoundParts.{RoundParts as Round}
use Rattle.dkg_ceremony.specs.Agreement.{PartsAgree}
use Rattle.dkg_ceremony.specs.OutcomeThere.{outcome_agrees}
use Rattle.dkg_ceremony.specs.Thresholds.{quorum_of}
use Rattle.std.proofs.lemmas.Bool.{eqb-true}
use Rattle.std.proofs.lemmas.List.{length-map}
use Rattle.dkg_ceremony.specs.Outcomes.{combined_of, revealed_of, sum_of}
use Rattle.dkg_ceremony.specs.OutcomeLaws.{no_players}
use Rattle.dkg_ceremony.specs.SelectionLaws.{selected_valid, publics_long}
use Rattle.dkg_ceremony.specs.Weights.{weight_of}
use Rattle.dkg_ceremony.proofs.combine.combine.Goals as goal

pub returns-then-is_empty : goal.returns-then-is_empty
unfolding combined_of
returns-then-is_empty c =
    let round = c.args.round.now in
    sym (no_players round (sum_of round c.args.logs.now c.args.selected.now) (revealed_of round c.args.logs.now c.args.selected.now) (ap (λ (r : Round). length r.players) (sym c.parts.ensures) ∙ eqb-true _ _ (sym c.if-is_empty.ensures)))

pub sum-requires-clause-weighed : goal.sum-requires-clause-weighed
sum-requires-clause-weighed c = ap length c.requires.weighed ∙ length-map c.args.selected.now (weight_of c.args.round.now.previous c.args.selected.now)

pub sum-requires-clause-long : goal.sum-requires-clause-long
sum-requires-clause-long c = λ i lt.
    let long = publics_long c.args.round.now c.args.logs.now c.args.selected.now (selected_valid c.args.round.now c.args.logs.now c.args.selected.now c.requires.chosen) i 0 lt in
    let enough = c.quorum.ensures in
    let players = c.len.ensures in
    let parts = c.parts-2.ensures in
    cc

pub output_of-requires : goal.output_of-requires
output_of-requires c =
    let round = c.args.round.now in
    let long : length c.in_ok-poly.poly ≡ quorum_of (length round.players) = c.in_ok-poly.ensures.long ∙ c.quorum.ensures ∙ ap quorum_of c.len.ensures ∙ ap (λ (r : Round). quorum_of (length r.players)) c.parts-2.ensures in
    let some : 0 < length round.players = omega (arith, long, c.poly.invariant.some, ap length c.poly.view_is) in
    subst (λ (revealed : List ℕ). PartsAgree (length round.players) c.in_ok-poly.poly round.players revealed) (sym c.in_ok-revealed.ensures) (outcome_agrees round c.args.logs.now c.args.selected.now c.in_ok-poly.poly some long)
