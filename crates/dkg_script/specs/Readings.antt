-- What bytes mean to a node: messages, payloads of blocks, the plan's file and entries of the journal.
use Rattle.std.specs.Prelude.{ℕ, ◌^◌, ◌-◌, Bool, true, List, Option, Some, None, option_and_then, option_map, if◌then◌else◌}
use Rattle.std.specs.Result.{result_ok}
use Rattle.dkg_values.specs.Codec.{Reading, whole}
use Rattle.dkg_values.specs.Bytes.{bytes_at}
use Rattle.dkg_values.specs.Joined.{beside_at}
use Rattle.dkg_values.specs.Uint.{uint_at}
use Rattle.dkg_ceremony.specs.declared.signed_log.SignedDealerLog.{SignedDealerLog}
use Rattle.dkg_infos.specs.declared.directory.Unit as directory
use Rattle.dkg_infos.specs.declared.info.EpochInfo.{EpochInfo}
use Rattle.dkg_types.specs.declared.message.Message.{Message}
use Rattle.dkg_types.specs.declared.message.Message.TheVariants.{Dealer, Ack}
use Rattle.dkg_types.specs.declared.payload.Payload.{Payload}
use Rattle.dkg_types.specs.MessageCodes.{message_at}
use Rattle.dkg_infos.specs.InfoCodes.{info_at}
use Rattle.dkg_types.specs.PayloadCodes.{payload_at, its_info, its_log}
use Rattle.dkg_infos.specs.Units.{unit_at, unit_spelling}

-- what a reader is told: the participant limit, the newest mode of a sharing, and whether directories hold addresses
pub record Limits : Type 0 where
  pub limit : ℕ
  pub version : ℕ
  pub addressed : Bool

-- MESSAGES

-- both halves of a dealing
pub record BothHalves : Type 0 where
  pub public : List ℕ
  pub private : ℕ

abbrev pub halves_in : Message → Option BothHalves
halves_in (Dealer public private) = Some (record { public = public; private = private })
halves_in (Ack ack) = None

-- the dealing that a message of the dealing channel brings
unfoldable pub dealing_in : Limits → List ℕ → Option BothHalves
dealing_in limits bytes = option_and_then halves_in (result_ok (whole (message_at limits.limit bytes)))

-- PAYLOADS

-- an epoch's info, whatever the type of its directory, which stands as its bytes
abbrev pub Info : Type 0
Info = EpochInfo (List ℕ)

abbrev pub with_spelled : {Dir : Type 0} → (Dir → List ℕ) → EpochInfo Dir → Info
with_spelled spelling i = record {
  outcome = i.outcome;
  epoch = i.epoch;
  output = i.output;
  players = i.players;
  next_players = i.next_players;
  directory = spelling i.directory;
}

abbrev pub carried_info : {Dir : Type 0} → (Dir → List ℕ) → Payload Dir → Option Info
carried_info spelling payload = option_map (with_spelled spelling) (its_info payload)

abbrev pub unit_payload : Limits → List ℕ → Option (Payload directory.Unit)
unit_payload limits bytes = result_ok (whole (payload_at (λ _. unit_at) (λ _ _. true) limits.limit limits.version bytes))

-- the info that a block's payload is (no directory of addresses is read yet)
unfoldable pub info_in : Limits → List ℕ → Option Info
info_in limits bytes = if limits.addressed then None else option_and_then (carried_info unit_spelling) (unit_payload limits bytes)

-- the log that a block's payload is
unfoldable pub log_in : Limits → List ℕ → Option SignedDealerLog
log_in limits bytes = if limits.addressed then None else option_and_then its_log (unit_payload limits bytes)

-- START MATERIAL

-- the material of a state sync: an epoch's info, and the epoch and the digest of the floor's block
pub record SyncMaterial : Type 0 where
  pub info : Info
  pub epoch : ℕ
  pub floor : List ℕ

abbrev pub number_of_64_at : List ℕ → Reading ℕ
number_of_64_at = uint_at (2 ^ 64 - 1)

-- a floor: epoch, view, the parent's view, the block's digest and a certificate
abbrev pub floor_at : List ℕ → Reading (ℕ × (ℕ × (ℕ × (List ℕ × List ℕ))))
floor_at = beside_at number_of_64_at (beside_at number_of_64_at (beside_at number_of_64_at (beside_at (bytes_at 32) (bytes_at 8))))

abbrev pub material_read : {Dir : Type 0} → (Dir → List ℕ) → EpochInfo Dir × (ℕ × (ℕ × (ℕ × (List ℕ × List ℕ)))) → SyncMaterial
material_read spelling m = record { info = with_spelled spelling m.0; epoch = m.1.0; floor = m.1.1.1.1.0 }

-- the material that the plan's file holds
unfoldable pub material_in : Limits → List ℕ → Option SyncMaterial
material_in limits bytes =
    if limits.addressed then None
    else option_map (material_read unit_spelling) (result_ok (whole (beside_at (info_at (λ _. unit_at) (λ _ _. true) limits.limit limits.version) floor_at bytes)))
