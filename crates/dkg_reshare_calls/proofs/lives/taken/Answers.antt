use Rattle.std.specs.Int.NonZero.{non_zero_u32_get}
use Rattle.dkg_reshare_calls.proofs.lives.taken.Goals as goal

pub step-ended-requires-clause-within : goal.step-ended-requires-clause-within
step-ended-requires-clause-within g c = c.in_ok-apart.ensures (non_zero_u32_get c.delivered-ended.new.actor.terms.limit)

pub step-ended-requires-2-clause-within : goal.step-ended-requires-2-clause-within
step-ended-requires-2-clause-within g c = c.in_ok-late.ensures (non_zero_u32_get c.step-ended.new.actor.terms.limit)

pub delivered-ended-requires-clause-at : goal.delivered-ended-requires-clause-at
delivered-ended-requires-clause-at g c = c.requires.at

pub delivered-ended-requires-clause-including : goal.delivered-ended-requires-clause-including
delivered-ended-requires-clause-including g c = c.requires.including

pub step-ended-requires-clause-at : goal.step-ended-requires-clause-at
step-ended-requires-clause-at g c = c.delivered-ended.ensures.at

pub step-ended-requires-clause-including : goal.step-ended-requires-clause-including
step-ended-requires-clause-including g c = c.delivered-ended.ensures.including

pub step-ended-requires-2-clause-at : goal.step-ended-requires-2-clause-at
step-ended-requires-2-clause-at g c = c.step-ended.ensures.at

pub step-ended-requires-2-clause-including : goal.step-ended-requires-2-clause-including
step-ended-requires-2-clause-including g c = c.step-ended.ensures.including
