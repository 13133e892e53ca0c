use Rattle.std.specs.Int.NonZero.{non_zero_u32_get}
use Rattle.dkg_reshare_calls.proofs.lives.heard.Goals as goal

pub step-ended-requires-clause-within : goal.step-ended-requires-clause-within
step-ended-requires-clause-within g c = c.in_ok-message.ensures (non_zero_u32_get c.open-ended.new.actor.terms.limit)

pub open-ended-requires : goal.open-ended-requires
open-ended-requires g c = c.requires

pub step-ended-requires-clause-at : goal.step-ended-requires-clause-at
step-ended-requires-clause-at g c = c.open-ended.ensures.at

pub step-ended-requires-clause-including : goal.step-ended-requires-clause-including
step-ended-requires-clause-including g c = c.open-ended.ensures.including

pub returns-clause-at : goal.returns-clause-at
returns-clause-at g c = c.step-ended.ensures.at

pub returns-clause-including : goal.returns-clause-including
returns-clause-including g c = c.step-ended.ensures.including
