-- What a payload is: a log or an info, under limits.
use Rattle.std.specs.Prelude.{ℕ, ◌^◌, Bool, true, false, if◌then◌else◌, List, length, Option, Some, option_map}
use Rattle.std.specs.Result.{result_ok}
use Rattle.std.specs.Str.{bytes_eq}
use Rattle.dkg_values.specs.Codec.{whole}
use Rattle.dkg_values.specs.Rising.{keys_of}
use Rattle.dkg_infos.specs.declared.directory.Unit as directory
use Rattle.dkg_types.specs.declared.payload.Payload.{Payload}
use Rattle.dkg_types.specs.declared.payload.Payload.TheVariants.{DealerLog, EpochInfo}
use Rattle.dkg_types.specs.AddressCodes.{addresses_at}
use Rattle.dkg_types.specs.PayloadCodes.{payload_at}
use Rattle.dkg_infos.specs.Units.{unit_at}
use Rattle.dkg_text.specs.declared.payload.PayloadKind.{PayloadKind}
use Rattle.dkg_text.specs.declared.payload.PayloadKind.TheVariants.{Log, Info}

abbrev pub kind_of : {Dir : Type 0} → Payload Dir → PayloadKind
kind_of (DealerLog log) = Log
kind_of (EpochInfo info) = Info

-- the payload that bytes spell where directories say nothing, if they spell one
abbrev pub unit_spelled : (limit version : ℕ) → List ℕ → Option (Payload directory.Unit)
unit_spelled limit version bytes = result_ok (whole (payload_at (λ _. unit_at) (λ _ _. true) limit version bytes))

-- what the bytes spell where directories say nothing, and where they hold addresses
unfoldable pub unit_kind : (limit version : ℕ) → List ℕ → Option PayloadKind
unit_kind limit version bytes = option_map kind_of (result_ok (whole (payload_at (λ _. unit_at) (λ _ _. true) limit version bytes)))

unfoldable pub addressed_kind : (limit version : ℕ) → List ℕ → Option PayloadKind
addressed_kind limit version bytes =
    option_map kind_of (result_ok (whole (payload_at (λ peers. addresses_at (length peers)) (λ a peers. bytes_eq (keys_of a) peers) limit version bytes)))

unfoldable pub payload_kind : (addressed : Bool) (limit version : ℕ) → List ℕ → Option PayloadKind
payload_kind addressed limit version bytes = if addressed then addressed_kind limit version bytes else unit_kind limit version bytes

abbrev pub is_info_kind : Option PayloadKind → Bool
is_info_kind (Some Info) = true
is_info_kind _ = false

-- an info under the widest limits
unfoldable pub is_info : (addressed : Bool) → List ℕ → Bool
is_info addressed bytes = is_info_kind (payload_kind addressed (2 ^ 30) 1 bytes)
