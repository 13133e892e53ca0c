use Rattle.dkg_ceremony.proofs.public.PublicEncodeSize.encode_size.Goals as goal

pub size_of_all-requires : goal.size_of_all-requires
size_of_all-requires c = rw c.as_slice.ensures.items c.as_slice.ensures.kept.in_bound

pub returns-clause-limit : goal.returns-clause-limit
returns-clause-limit c = λ most le. c.size_of_all.ensures.limit most (rw c.as_slice.ensures.items le)
