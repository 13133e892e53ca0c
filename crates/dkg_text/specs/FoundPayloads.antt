-- Payloads that were read of the bytes that spell them, under limits.
use Rattle.std.proofs.Common.{◌≡◌, ℕ, List, Some, subst}
use Rattle.dkg_values.specs.Codec.{IsBytes}
use Rattle.dkg_infos.specs.declared.directory.Unit as directory
use Rattle.dkg_types.specs.declared.payload.Payload.{Payload}
use Rattle.dkg_types.specs.PayloadCodes.{payload_spelling}
use Rattle.dkg_infos.specs.Units.{unit_spelling}
use Rattle.dkg_text.specs.PayloadKinds.{unit_spelled}

-- a payload, and the limits under which it was read
pub record Found : Type 0 where
  pub limit : ℕ
  pub version : ℕ
  pub payload : Payload directory.Unit

-- the bytes that spell it
abbrev pub found_bytes : Found → List ℕ
found_bytes f = payload_spelling unit_spelling f.payload

-- It is what these are read as under its limits, and they are bytes.
pub record IsFoundPayload (f : Found) : Type 0 where
  pub read : unit_spelled f.limit f.version (payload_spelling unit_spelling f.payload) ≡ Some f.payload
  pub bytes : IsBytes (payload_spelling unit_spelling f.payload)

-- What bytes spell under limits is found of them.
pub is_found : (limit version : ℕ) (bytes : List ℕ) (payload : Payload directory.Unit) → IsBytes bytes → bytes ≡ payload_spelling unit_spelling payload
    → unit_spelled limit version bytes ≡ Some payload → IsFoundPayload (record { limit = limit; version = version; payload = payload })
is_found limit version bytes payload all is read = record {
  read = subst (λ (bs : List ℕ). unit_spelled limit version bs ≡ Some payload) is read;
  bytes = subst IsBytes is all;
}
