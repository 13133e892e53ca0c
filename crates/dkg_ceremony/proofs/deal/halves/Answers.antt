use Rattle.std.proofs.Common.{◌<◌, ◌∙◌, ap, arith, length}
use Rattle.dkg_ceremony.specs.DealLaws.{halves_more, are_halves}
use Rattle.dkg_ceremony.proofs.deal.halves.Goals as goal

pub from_sorted-requires : goal.from_sorted-requires
from_sorted-requires c =
    let h = are_halves c.args.poly.now c.as_slice-keys.result.now c.loop-index.pairs.items c.loop-index.index (rw (← c.as_slice-keys.ensures.items) at c.as_slice-keys.ensures.kept) (omega (arith, c.loop-index-test.false, c.len-index-end.ensures, ap length c.as_slice-keys.ensures.items)) c.loop-index.invariant in
    omega (arith, h.in_bound, c.loop-index.pairs.ok)

pub unreachable-requires : goal.unreachable-requires
unreachable-requires c =
    let h = are_halves c.args.poly.now c.as_slice-keys.result.now c.loop-index.pairs.items c.loop-index.index (rw (← c.as_slice-keys.ensures.items) at c.as_slice-keys.ensures.kept) (omega (arith, c.loop-index-test.false, c.len-index-end.ensures, ap length c.as_slice-keys.ensures.items)) c.loop-index.invariant in
    let e = c.in-Err.ensures.rising.1 h.rising in
    absurd cc

pub loop-index-preserved : goal.loop-index-preserved
loop-index-preserved c =
    let few : c.loop-index.index < length c.as_slice-keys.result.now = omega (arith, c.loop-index-test.true, c.len-index-end.ensures, ap length c.as_slice-keys.ensures.items) in
    let more = halves_more c.args.poly.now c.as_slice-keys.result.now c.loop-index.index c.index-keys-index.result c.element_of.result few c.index-keys-index.is (c.element_of.ensures ∙ c.value_of.ensures.value) in
    cc (more, c.in_ok-push.ensures.items, c.loop-index.invariant)
