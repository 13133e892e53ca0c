-- How often a device stopped between two calls, and with which picks.
use Rattle.std.specs.Prelude.{ℕ, ◌≡◌, ◌∷◌, [], List, Result, Ok, Err}
use Rattle.std.specs.Option.{option_map_or}
use Rattle.dkg_journal.specs.DeviceCall.{DeviceCall, CallMade, CutIn, Crashes}
use Rattle.dkg_journal.specs.declared.disk.Op.{Op}
use Rattle.dkg_secrets.specs.declared.secrets.SecretOp.{SecretOp}
use Rattle.dkg_text.specs.declared.script.Life.{Life}
use Rattle.dkg_life.specs.declared.stop.Stop.{Stop}
use Rattle.dkg_life.specs.declared.stop.Stop.TheVariants.{Cut}

abbrev pub stops_in : {O : Type 0} → List (DeviceCall O) → List ℕ
stops_in [] = []
stops_in (CallMade op ∷ calls) = stops_in calls
stops_in (CutIn op pick ∷ calls) = stops_in calls
stops_in (Crashes pick ∷ calls) = pick ∷ stops_in calls

-- Both devices had these calls and no others, and stopped between two of them with these picks, in this order.
pub record Stopped {D X : Type 0} (disk : D → D → List (DeviceCall Op) → Type 0) (secrets : X → X → List (DeviceCall SecretOp) → Type 0)
    (old new : D × X) (picks : List ℕ) : Type 0 where
  pub disk_calls : List (DeviceCall Op)
  pub secret_calls : List (DeviceCall SecretOp)
  pub on_disk : disk old.0 new.0 disk_calls
  pub on_secrets : secrets old.1 new.1 secret_calls
  pub disk_stops : stops_in disk_calls ≡ picks
  pub secret_stops : stops_in secret_calls ≡ picks

-- the pick with which a life's end stops both devices, if it does: its cut's, or its own
abbrev pub picks_at_end : Life → Result (Unit {0}) Stop → List ℕ
picks_at_end life (Ok done) = life.pick ∷ []
picks_at_end life (Err Cut) = option_map_or (λ its. its.pick ∷ []) life.cut []
picks_at_end life (Err stop) = []
