use Rattle.dkg_reshare_calls.proofs.lives.life.Goals as goal

pub heard-requires : goal.heard-requires
heard-requires g c = c.requires

pub taken-requires-clause-at : goal.taken-requires-clause-at
taken-requires-clause-at g c = c.in_ok-told.ensures.at

pub taken-requires-clause-including : goal.taken-requires-clause-including
taken-requires-clause-including g c = c.in_ok-told.ensures.including
