-- What the code's readings and digests are in the words of the promise.
use Rattle.std.proofs.Common.{◌≡◌, ℕ, List, ◌++◌, Option, Some, None, Ok, refl, ap, false}
use Rattle.std.specs.Prelude.{option_map}
use Rattle.sha2.specs.Sha256.{sha256}
use Rattle.dkg_values.specs.Codec.{whole}
use Rattle.dkg_values.specs.Uint.{uint}
use Rattle.dkg_types.specs.BlockCodes.{block_bytes, context_bytes, flagged_bytes}
use Rattle.dkg_types.specs.MessageCodes.{message_at}
use Rattle.dkg_types.specs.PayloadCodes.{payload_spelling}
use Rattle.dkg_infos.specs.Units.{unit_spelling}
use Rattle.dkg_types.specs.declared.block.Context.{Context}
use Rattle.dkg_infos.specs.declared.directory.Unit as directory
use Rattle.dkg_infos.specs.declared.info.EpochInfo.{EpochInfo}
use Rattle.dkg_types.specs.declared.message.Message.TheVariants.{Dealer}
use Rattle.dkg_types.specs.declared.payload.Payload.{Payload}
use Rattle.dkg_types.specs.declared.payload.Payload.TheVariants as payload
use Rattle.dkg_script.specs.Blocks.{digest_of, flagged}
use Rattle.dkg_script.specs.Readings.{Limits, dealing_in, info_in, with_spelled, unit_payload}

-- MESSAGES: a dealing, another message, and bytes that are none
pub reads_dealing : (limits : Limits) (bytes public : List ℕ) (private : ℕ) → whole (message_at limits.limit bytes) ≡ Ok (Dealer public private)
    → dealing_in limits bytes ≡ Some (record { public = public; private = private })
unfolding dealing_in
reads_dealing limits bytes public private e = rw e refl

-- PAYLOADS of a node whose directories say nothing
pub reads_info : (limits : Limits) (bytes : List ℕ) (i : EpochInfo directory.Unit) → limits.addressed ≡ false → unit_payload limits bytes ≡ Some (payload.EpochInfo i)
    → info_in limits bytes ≡ Some (with_spelled unit_spelling i)
unfolding info_in
reads_info limits bytes i plain e = rw (plain, e) refl

-- DIGESTS: a block's bytes have the payload's spelling behind the flag
same_flag : {Dir : Type 0} (spelling : Dir → List ℕ) (payload : Option (Payload Dir)) → flagged_bytes spelling payload ≡ flagged (option_map (payload_spelling spelling) payload)
same_flag spelling None = refl
same_flag spelling (Some p) = refl

pub same_digest : {Dir : Type 0} (spelling : Dir → List ℕ) (epoch height view : ℕ) (parent : List ℕ) (payload : Option (Payload Dir))
    → sha256 (block_bytes spelling (record { epoch = epoch; view = view; leader = 0; parent_view = 0; parent = parent }) parent height payload)
    ≡ digest_of epoch height view parent (option_map (payload_spelling spelling) payload)
unfolding digest_of block_bytes
same_digest spelling epoch height view parent payload =
    let context : Context = record { epoch = epoch; view = view; leader = 0; parent_view = 0; parent = parent } in
    ap (λ (flag : List ℕ). sha256 (context_bytes context ++ parent ++ uint height ++ flag)) (same_flag spelling payload)
