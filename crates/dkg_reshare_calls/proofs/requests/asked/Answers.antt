use Rattle.dkg_reshare_calls.proofs.requests.asked.Goals as goal

pub open-ended-requires : goal.open-ended-requires
open-ended-requires g c = c.requires

pub step-ended-requires-clause-at : goal.step-ended-requires-clause-at
step-ended-requires-clause-at g c = c.open-ended.ensures.at

pub step-ended-requires-clause-including : goal.step-ended-requires-clause-including
step-ended-requires-clause-including g c = c.open-ended.ensures.including

pub step-ended-requires-2-clause-at : goal.step-ended-requires-2-clause-at
step-ended-requires-2-clause-at g c = c.step-ended.ensures.at

pub step-ended-requires-2-clause-including : goal.step-ended-requires-2-clause-including
step-ended-requires-2-clause-including g c = c.step-ended.ensures.including

pub step-ended-requires-3-clause-at : goal.step-ended-requires-3-clause-at
step-ended-requires-3-clause-at g c = c.step-ended-2.ensures.at

pub step-ended-requires-3-clause-including : goal.step-ended-requires-3-clause-including
step-ended-requires-3-clause-including g c = c.step-ended-2.ensures.including

pub returns-clause-at : goal.returns-clause-at
returns-clause-at g c = c.step-ended-3.ensures.at

pub returns-clause-including : goal.returns-clause-including
returns-clause-including g c = c.step-ended-3.ensures.including
