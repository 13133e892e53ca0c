-- How a node's course ended, by what its call answered.
use Rattle.std.specs.Prelude.{Result, Ok, Err}
use Rattle.dkg_store.specs.Acts.{Ended, went}
use Rattle.dkg_core.specs.Live.{NodeStop, Faulted}
use Rattle.dkg_core.specs.Splitting.{fault_named}
use Rattle.dkg_life.specs.Ends.{by_stop}
use Rattle.dkg_life.specs.declared.stop.Stop.{Stop}

abbrev pub by_node_stop : {S : Type 0} → Stop → Ended NodeStop S
by_node_stop {S} stop = fault_named Faulted (by_stop {S = S} stop)

abbrev pub ends_node : {S : Type 0} → S → Result (Unit {0}) Stop → Ended NodeStop S
ends_node end (Ok done) = went end
ends_node end (Err stop) = by_node_stop stop
