use Rattle.dkg_reshare_calls.proofs.lives.plain_life.Goals as goal

pub life_over-requires : goal.life_over-requires
life_over-requires g c = c.in_ok-actor.ensures
