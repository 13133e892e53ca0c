use Rattle.dkg_reshare_calls.proofs.requests.includes.Goals as goal

pub asked-requires : goal.asked-requires
asked-requires g c = c.requires

pub found-requires : goal.found-requires
found-requires g c = c.in_ok-asked.ensures.including

pub verified-requires-clause-at : goal.verified-requires-clause-at
verified-requires-clause-at g c = c.in_ok-asked.ensures.at

pub verified-requires-clause-including : goal.verified-requires-clause-including
verified-requires-clause-including g c = c.in_ok-asked.ensures.including
