-- The events of a life from an index on.
use Rattle.std.proofs.Common.{◌≡◌, ℕ, zero, suc, List, [], ◌∷◌, drop, Option, None, Some, ap}
use Rattle.std.specs.Prelude.{slice_get}
use Rattle.dkg_text.specs.declared.script.Event.{Event}

nothing_is_there : (event : Event) → ◌≡◌ {A = Option Event} None (Some event) → ⊥
nothing_is_there event e = cc

-- they are the one there and those behind it
pub from_index : (events : List Event) (index : ℕ) (event : Event) → slice_get events index ≡ Some event → drop index events ≡ event ∷ drop (suc index) events
from_index [] index event is = absurd (nothing_is_there event is)
from_index (e ∷ events) zero event is = let same : e ≡ event = cc in ap (λ (x : Event). x ∷ events) same
from_index (e ∷ events) (suc index) event is = from_index events index event is
