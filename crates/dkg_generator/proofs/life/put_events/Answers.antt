use Rattle.std.proofs.Common.{◌≡◌, ◌+◌, ◌-◌, refl, arith}
use Rattle.dkg_generator.specs.Made.{events_at, events_with}
use Rattle.dkg_generator.proofs.Ranges.{flat_more_after}
use Rattle.dkg_generator.proofs.life.put_events.Goals as goal

pub loop-index-preserved : goal.loop-index-preserved
loop-index-preserved c =
    let plan = c.args.plan.now in
    let from = c.args.from in
    let index = c.loop-index.index in
    let f = events_at plan.dealings.items plan.acks.items c.args.epoch in
    let more = flat_more_after f c.args.events.now _ _ from (index - from) index (omega arith) refl in
    let size : (index + 1) - from ≡ (index - from) + 1 = omega arith in
    rw size (cc (more, c.loop-index.invariant, c.in_ok-push.ensures.added, c.in_ok-put_after.ensures))

pub returns : goal.returns
unfolding events_with
returns c = let all : c.loop-index.index ≡ c.args.to = omega arith in rw (← all) c.loop-index.invariant
