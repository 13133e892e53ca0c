use Rattle.dkg_reshare_calls.proofs.lives.life_over.Goals as goal

pub life-requires : goal.life-requires
life-requires g c = c.requires
