-- Events that a record can hold.
use Rattle.std.proofs.Common.{◌≡◌, ◌≤◌, ◌<◌, ◌^◌, ℕ, List, ◌++◌, length, refl, arith, length-append}
use Rattle.std.specs.Int.{w32, to_be_bytes}
use Rattle.dkg_values.specs.Uint.{uint}
use Rattle.dkg_values.specs.UintGrammar.{uint_short}
use Rattle.dkg_values.specs.Lists.{public_spelling}
use Rattle.dkg_values.specs.ListGrammar.{public_size}
use Rattle.dkg_ceremony.specs.Logs.{log_spelling}
use Rattle.dkg_ceremony.specs.declared.dealer_log.DealerLog.{DealerLog}
use Rattle.dkg_store.specs.Events.{event_spelling}
use Rattle.dkg_store.specs.declared.event.Event.TheVariants as events

-- a public half of three elements makes an event that a record can hold
pub event_short : (dealer : ℕ) (public : List ℕ) → length public ≡ 3 → length (event_spelling (events.Dealing dealer public)) < 2 ^ 32
event_short dealer public few = omega (arith, uint_short (length public), public_size public (length (uint (length public))) (length public) refl refl, length-append (to_be_bytes w32 dealer) (public_spelling public))

-- .. and a log of at most 1,000 bytes
pub log_short : (dealer height : ℕ) (log : DealerLog) → length (log_spelling log) ≤ 1000 → length (event_spelling (events.LogAt dealer height log)) < 2 ^ 32
log_short dealer height log few = omega (arith, uint_short height, length-append (to_be_bytes w32 dealer) (uint height ++ log_spelling log), length-append (uint height) (log_spelling log))
