-- What the devices give behind the node's calls.
use Rattle.std.proofs.Common.{◌≡◌, inl, ℕ, Bool, true, false, List, Option, Some, None, Result, subst, sym, if◌then◌else◌}
use Rattle.dkg_ceremony.specs.declared.ceremony.DealingError.{DealingError}
use Rattle.dkg_journal.specs.Names.{Files}
use Rattle.dkg_secrets.specs.Secrets.{Secrets}
use Rattle.dkg_store.specs.Called.{if_made}
use Rattle.dkg_store.specs.Pairs.{HoldsDealings, Pairs}
use Rattle.dkg_store.specs.declared.devices.Devices.{Devices}
use Rattle.dkg_types.specs.declared.message.Message.{Message}
use Rattle.dkg_types.specs.declared.message.Message.TheVariants.{Dealer, Ack}
use Rattle.dkg_example.specs.Sent.{HoldsHeard}

-- other names of the same dealings
pub holds_these : (pairs later : Pairs) (image : Files → Type 0) (held : Secrets) → later ≡ pairs → HoldsDealings pairs image held → HoldsDealings later image held
holds_these pairs later image held same holds = subst (λ (m : Pairs). HoldsDealings m image held) (sym same) holds

-- where it ended
pub holds_made : (made : Bool) (more pairs later : Pairs) (image : Files → Type 0) (held : Secrets) → later ≡ if_made (Some made) more pairs → HoldsDealings (if made then more else pairs) image held → HoldsDealings later image held
holds_made true more pairs later image held same holds = holds_these more later image held same holds
holds_made false more pairs later image held same holds = holds_these pairs later image held same holds

-- devices that are as they were
pub holds_still : {D X : Type 0} (image : D → Files → Type 0) (held : X → Secrets) (old new : Devices D X) (pairs later : Pairs) → new ≡ old → later ≡ pairs
    → HoldsDealings pairs (image old.disk.now) (held old.secrets.now) → HoldsDealings later (image new.disk.now) (held new.secrets.now)
holds_still {D} {X} image held old new pairs later same_devices same holds =
    subst (λ (d : Devices D X). HoldsDealings later (image d.disk.now) (held d.secrets.now)) (sym same_devices) (holds_these pairs later (image old.disk.now) (held old.secrets.now) same holds)

-- nothing came of what was heard
pub heard_still : (check : List ℕ → ℕ → Result (Unit {0}) DealingError) (heard : Option Message) (pairs : Pairs) (key : ℕ × ℕ) (image : Files → Type 0) (held : Secrets) → HoldsDealings pairs image held → HoldsHeard check heard pairs key image held
heard_still check None pairs key image held holds = holds
heard_still check (Some (Ack other)) pairs key image held holds = holds
heard_still check (Some (Dealer public private)) pairs key image held holds = record { so = inl holds }
