use Rattle.dkg_reshare_calls.proofs.requests.plain_answer.Goals as goal

pub answer_over-requires : goal.answer_over-requires
answer_over-requires g c = c.in_ok-actor.ensures
