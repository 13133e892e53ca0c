use Rattle.dkg_values.proofs.Keys.{not_rising}
use Rattle.dkg_values.proofs.map.is_rising.Goals as goal

pub returns-then-ge : goal.returns-then-ge
returns-then-ge g c = (λ f. absurd (cc), λ up. absurd (not_rising c.args.pairs.now c.loop-i.i c.index-pairs-i.result c.index-pairs-i-in-loop-i.result c.loop-i.auto.i c.loop-i-test.true c.if-ge.ensures up))
