use Rattle.dkg_store.proofs.Short.{event_short}
use Rattle.dkg_store_calls.proofs.prune.recorded.Goals as goal

pub append_dealing-requires-clause-short : goal.append_dealing-requires-clause-short
append_dealing-requires-clause-short g c = event_short 2 c.in_ok-public.public c.in_ok-public.ensures
