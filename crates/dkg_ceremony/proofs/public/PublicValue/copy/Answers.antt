use Rattle.dkg_ceremony.proofs.public.PublicValue.copy.Goals as goal

pub formed-requires : goal.formed-requires
formed-requires c = rw c.in_ok-form.ensures c.self.invariant
