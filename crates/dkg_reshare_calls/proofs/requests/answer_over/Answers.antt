use Rattle.dkg_reshare_calls.proofs.requests.answer_over.Goals as goal

pub includes-requires : goal.includes-requires
includes-requires g c = c.requires
