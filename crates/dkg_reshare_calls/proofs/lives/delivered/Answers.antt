use Rattle.std.specs.Int.NonZero.{non_zero_u32_get}
use Rattle.dkg_reshare_calls.proofs.lives.delivered.Goals as goal

pub deliver-requires-clause-within : goal.deliver-requires-clause-within
deliver-requires-clause-within g c = c.in_ok-block.ensures (non_zero_u32_get c.args.actor.now.terms.limit)

pub deliver-requires-clause-at : goal.deliver-requires-clause-at
deliver-requires-clause-at g c = c.requires.at

pub deliver-requires-clause-including : goal.deliver-requires-clause-including
deliver-requires-clause-including g c = c.requires.including

pub returns-in_err-block-clause-at : goal.returns-in_err-block-clause-at
returns-in_err-block-clause-at g c = c.requires.at

pub returns-in_err-block-clause-including : goal.returns-in_err-block-clause-including
returns-in_err-block-clause-including g c = c.requires.including

pub returns-clause-at : goal.returns-clause-at
returns-clause-at g c = c.deliver.ensures.at

pub returns-clause-including : goal.returns-clause-including
returns-clause-including g c = c.deliver.ensures.including
