use Rattle.std.proofs.Common.{length, ap, ◌∙◌, arith}
use Rattle.dkg_values.specs.Sizes.{turn, done_size, map_size, map_limit}
use Rattle.dkg_values.proofs.map.MapEncodeSize.encode_size.Goals as goal

pub encode_size-size-requires : goal.encode_size-size-requires
encode_size-size-requires g c =
    (turn g.V.Spelled.spelling g.V.EncodeSize.can_size c.args.self.now c.deref-value-items.result.now c.loop-value.value-index c.loop-value-item.result (c.deref-value-items.ensures.value ∙ c.self.view_is) c.loop-value-test.true c.loop-value-item.is c.requires.each).can

pub overflow_add-size-in-loop-value : goal.overflow_add-size-in-loop-value
overflow_add-size-in-loop-value g c =
    let t = turn g.V.Spelled.spelling g.V.EncodeSize.can_size c.args.self.now c.deref-value-items.result.now c.loop-value.value-index c.loop-value-item.result (c.deref-value-items.ensures.value ∙ c.self.view_is) c.loop-value-test.true c.loop-value-item.is c.requires.each in
    omega (arith, t.within, map_size g.V.Spelled.spelling c.args.self.now, c.requires.total, c.loop-value.invariant, c.encode_size-size.ensures)

pub loop-value-preserved : goal.loop-value-preserved
loop-value-preserved g c =
    let t = turn g.V.Spelled.spelling g.V.EncodeSize.can_size c.args.self.now c.deref-value-items.result.now c.loop-value.value-index c.loop-value-item.result (c.deref-value-items.ensures.value ∙ c.self.view_is) c.loop-value-test.true c.loop-value-item.is c.requires.each in
    omega (arith, t.more, c.loop-value.invariant, c.encode_size-size.ensures)

pub returns-clause-size : goal.returns-clause-size
returns-clause-size g c =
    let even = ap length (c.deref-value-items.ensures.value ∙ c.self.view_is) in
    omega (arith, done_size g.V.Spelled.spelling c.args.self.now c.loop-value.value-index (omega (arith, even)), map_size g.V.Spelled.spelling c.args.self.now, c.loop-value.invariant)

pub returns-clause-limit : goal.returns-clause-limit
returns-clause-limit g c = λ most each few small.
    let even = ap length (c.deref-value-items.ensures.value ∙ c.self.view_is) in
    omega (arith, done_size g.V.Spelled.spelling c.args.self.now c.loop-value.value-index (omega (arith, even)), map_size g.V.Spelled.spelling c.args.self.now, c.loop-value.invariant, map_limit g.V.Spelled.spelling c.args.self.now most each few (omega (arith, c.self.invariant.in_bound, ap length c.self.view_is)) small)
