use Rattle.std.proofs.Common.{◌∙◌, arith}
use Rattle.dkg_secrets.proofs.Cuts.{cleared_gone, cleared_kept}
use Rattle.dkg_secrets.proofs.number_map.NumberMap.remove_some.Goals as goal
use Rattle.dkg_secrets.proofs.number_map.NumberMap.remove_some.Goals.{then-pick-index-eq0, else-pick-index-eq0}

pub loop-key-preserved : goal.loop-key-preserved
loop-key-preserved g c = record {
  rest = elim c.if-pick-index-eq0.branch [
    | then-pick-index-eq0 w ↦ cleared_gone c.args.pick c.loop-key.index c.loop-key.key-index c.args.keys.now 0 _ _ c.loop-key-test.true c.loop-key.invariant.below w.if-pick-index-eq0.true (w.self-is ∙ w.remove.ensures) ∙ c.loop-key.invariant.rest
    | else-pick-index-eq0 w ↦ cleared_kept c.args.pick c.loop-key.index c.loop-key.key-index c.args.keys.now 0 _ _ c.loop-key-test.true c.loop-key.invariant.below w.if-pick-index-eq0.false w.self-is ∙ c.loop-key.invariant.rest
  ];
  below = omega arith;
  turned = omega (arith, c.loop-key.invariant.turned);
}
