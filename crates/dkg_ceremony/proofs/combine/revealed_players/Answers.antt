use Rattle.std.proofs.Common.{◌<◌, length, ap, ◌∙◌, arith}
use Rattle.std.proofs.lemmas.List.{take_all}
use Rattle.dkg_ceremony.specs.Outcomes.{revealed_from}
use Rattle.dkg_ceremony.specs.OutcomeLaws.{revealed_yes, revealed_no, revealed_few}
use Rattle.dkg_ceremony.proofs.combine.revealed_players.Goals as goal
use Rattle.dkg_ceremony.proofs.combine.revealed_players.Goals.{then-is_revealed+in_ok-push, else-is_revealed}

pub loop-index-preserved : goal.loop-index-preserved
loop-index-preserved c =
    let few : c.loop-index.index < length c.as_slice-keys.result.now = omega (arith, ap length c.as_slice-keys.ensures.items) in
    elim c.if-is_revealed.branch [
      | then-is_revealed+in_ok-push w ↦
          let more = revealed_yes c.args.logs.now c.args.selected.now c.as_slice-keys.result.now c.loop-index.index w.index-keys-index.result few (let t = w.if-is_revealed.true in let e = c.is_revealed.ensures in cc) w.index-keys-index.is in
          cc (more, w.in_ok-push.ensures.items)
      | else-is_revealed w ↦
          let same = revealed_no c.args.logs.now c.args.selected.now c.as_slice-keys.result.now c.loop-index.index few (let t = w.if-is_revealed.false in let e = c.is_revealed.ensures in cc) in
          cc (same)
    ]

pub returns-clause-in_bound : goal.returns-clause-in_bound
returns-clause-in_bound c =
    let all = ap length (c.loop-index.invariant ∙ ap (revealed_from c.args.logs.now c.args.selected.now 0) (take_all c.loop-index.index c.as_slice-keys.result.now (omega (arith, ap length c.as_slice-keys.ensures.items)))) in
    omega (arith, all, revealed_few c.args.logs.now c.args.selected.now 0 c.as_slice-keys.result.now, c.as_slice-keys.ensures.kept.in_bound, ap length c.as_slice-keys.ensures.items, c.loop-index.revealed.ok)
