use Rattle.std.proofs.Common.{ap, arith, length}
use Rattle.std.proofs.lemmas.List.FromFn.{map-range_with_len_more, length-map-range_with_len}
use Rattle.dkg_ceremony.specs.Deals.{dealt_at}
use Rattle.dkg_ceremony.proofs.deal.polynomial.Goals as goal

pub loop-index-preserved : goal.loop-index-preserved
loop-index-preserved c =
    let more = map-range_with_len_more (dealt_at c.args.again.now c.args.seed.now) 0 c.loop-index.index c.loop-index.index (omega arith) in
    cc (more, c.in_ok-push.ensures.items, c.loop-index.invariant, c.dealt.ensures)

pub new-requires : goal.new-requires
new-requires c =
    omega (arith, c.loop-index.elements.ok, ap length c.loop-index.invariant, length-map-range_with_len (dealt_at c.args.again.now c.args.seed.now) 0 c.loop-index.index, c.loop-index.auto.index-end, c.ranges.count.fits)
