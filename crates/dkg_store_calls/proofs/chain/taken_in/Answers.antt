use Rattle.dkg_store.proofs.Short.{event_short}
use Rattle.dkg_store_calls.proofs.chain.taken_in.Goals as goal

pub taken-requires-clause-short : goal.taken-requires-clause-short
taken-requires-clause-short g c = event_short 2 c.in_ok-public.public c.in_ok-public.ensures
