-- A public half within the limit makes an event that a record can hold.
use Rattle.dkg_store.specs.Events.{event_spelling}
use Rattle.dkg_store.specs.declared.event.Event.TheVariants as events
use Rattle.std.proofs.Common.{◌≤◌, ◌<◌, ◌+◌, ◌*◌, ◌^◌, ℕ, List, length, refl, arith, length-append}
use Rattle.std.specs.Int.{w32, to_be_bytes}
use Rattle.dkg_values.specs.Uint.{uint}
use Rattle.dkg_values.specs.UintGrammar.{uint_short}
use Rattle.dkg_values.specs.Lists.{public_spelling}
use Rattle.dkg_values.specs.ListGrammar.{public_size}

public_short : (public : List ℕ) → length public ≤ 2 ^ 30 → length (public_spelling public) ≤ 10 + 2 * 2 ^ 30
public_short public few = omega (arith, uint_short (length public), public_size public (length (uint (length public))) (length public) refl refl)

pub event_short : (dealer : ℕ) (public : List ℕ) → length public ≤ 2 ^ 30 → length (event_spelling (events.Dealing dealer public)) < 2 ^ 32
event_short dealer public few = omega (arith, public_short public few, length-append (to_be_bytes w32 dealer) (public_spelling public))
