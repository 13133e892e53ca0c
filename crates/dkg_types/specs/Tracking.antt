-- Which peers a manager tracks, and the first peer that a directory lacks.
use Rattle.std.specs.Prelude.{◌≡◌, ℕ, ◌==◌, List, [], ◌∷◌, Option, Some, None, is_some, Result, Ok, Err, if◌then◌else◌}
use Rattle.dkg_values.specs.Rising.{keys_of, lookup}
use Rattle.dkg_types.specs.declared.addresses.Address.{Address}
use Rattle.dkg_types.specs.declared.manager.TrackError.{TrackError}
use Rattle.dkg_types.specs.declared.manager.TrackError.TheVariants.{Missing, NoMemory}
use Rattle.dkg_infos.specs.declared.participants.TrackedPeers.{TrackedPeers}
use Rattle.dkg_types.specs.AddressCodes.{AddressPairs}

-- what is kept by number, with one more under its number
abbrev pub with_set : {A : Type 0} → (ℕ → Option A) → ℕ → A → ℕ → Option A
with_set sets id peers n = if n == id then Some peers else sets n

-- the first peer without an address
abbrev pub first_without : AddressPairs → List ℕ → Option ℕ
first_without addresses [] = None
first_without addresses (peer ∷ peers) = if is_some (lookup peer addresses) then first_without addresses peers else Some peer

abbrev pub either_peer : Option ℕ → Option ℕ → Option ℕ
either_peer None other = other
either_peer (Some peer) other = Some peer

-- the first peer without an address, the primary ones before the secondary ones
abbrev pub first_lacking : AddressPairs → TrackedPeers → Option ℕ
first_lacking addresses peers = either_peer (first_without addresses peers.primary) (first_without addresses peers.secondary)

-- a peer's address in front of others
abbrev pub address_in_front : Option Address → ℕ → AddressPairs → AddressPairs
address_in_front None peer others = others
address_in_front (Some address) peer others = (peer, address) ∷ others

-- the addresses of some peers
abbrev pub addresses_of : AddressPairs → List ℕ → AddressPairs
addresses_of addresses [] = []
addresses_of addresses (peer ∷ peers) = address_in_front (lookup peer addresses) peer (addresses_of addresses peers)

-- the answer of a call that must name the first peer that is lacking, unless memory ran out
abbrev pub AnswersTracking : {A : Type 0} → Option ℕ → Result A TrackError → Type 0
AnswersTracking lack (Ok answer) = lack ≡ None
AnswersTracking lack (Err (Missing peer)) = lack ≡ Some peer.0
AnswersTracking lack (Err NoMemory) = Unit {0}

-- the addresses of just these peers
pub record AreAddressesOf (addresses : AddressPairs) (peers : List ℕ) (pairs : AddressPairs) : Type 0 where
  pub keys : keys_of pairs ≡ peers
  pub of : pairs ≡ addresses_of addresses peers
