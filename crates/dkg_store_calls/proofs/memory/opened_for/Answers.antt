use Rattle.dkg_store_calls.proofs.memory.opened_for.Goals as goal

pub returns : goal.returns
returns g c = record { «open» = λ told. c.in_ok-store.ensures.restores.opened told }
