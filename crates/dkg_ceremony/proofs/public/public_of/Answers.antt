use Rattle.dkg_ceremony.proofs.public.public_of.Goals as goal

pub formed-requires : goal.formed-requires
formed-requires c = rw c.in_ok-form.ensures (rw c.in_ok-lying.ensures c.requires)
