-- The blocks and the infos that a node holds, as the definitions of the promise see them: directories and payloads stand as their bytes.
use Rattle.std.specs.Prelude.{◌≡◌, ℕ, List, Option, Some, None, option_and_then, option_map, slice_get}
use Rattle.std.specs.Option.{option_map_or}
use Rattle.dkg_ceremony.specs.declared.signed_log.SignedDealerLog.{SignedDealerLog}
use Rattle.dkg_types.specs.Blocks as made
use Rattle.dkg_types.specs.declared.block.Context.{Context}
use Rattle.dkg_infos.specs.declared.directory.Unit as directory
use Rattle.dkg_types.specs.declared.payload.Payload.{Payload}
use Rattle.dkg_types.specs.BlockCodes.{info_of, zero_digest}
use Rattle.dkg_infos.specs.NextInfos.{Provided}
use Rattle.dkg_types.specs.PayloadCodes.{its_log, payload_spelling}
use Rattle.dkg_infos.specs.Units.{unit_spelling}
use Rattle.dkg_text.specs.declared.script.BlockLine.{BlockLine}
use Rattle.dkg_script.specs.Blocks.{ScriptBlock}
use Rattle.dkg_script.specs.Readings.{Limits, unit_payload, with_spelled}
use Rattle.dkg_script.specs.Schedule.{epoch_of}
use Rattle.dkg_script.specs.Setting.{Setting, blocks_per_epoch}

abbrev pub seen_with : {Dir : Type 0} → (Dir → List ℕ) → (height : ℕ) → (digest parent : List ℕ) → (view : ℕ) → Option (Payload Dir) → ScriptBlock
seen_with spelling height digest parent view payload = record {
  height = height;
  digest = digest;
  parent = parent;
  view = view;
  payload = option_map (payload_spelling spelling) payload;
  info = option_map (with_spelled spelling) (info_of payload);
  log = option_and_then its_log payload;
}

-- a node's block, as a block of a script (an info is seen so by `with_spelled`)
abbrev pub seen_block : {Dir : Type 0} → (Dir → List ℕ) → made.Block Dir → ScriptBlock
seen_block spelling b = seen_with spelling b.height b.digest b.parent b.context.view b.payload

-- what a provider says
abbrev pub seen_provided : {Dir : Type 0} → (Dir → List ℕ) → Provided Dir → Provided (List ℕ)
seen_provided spelling provided = record { participants = provided.participants; directory = λ epoch peers. spelling (provided.directory epoch peers) }

-- the log that a script's block carries, at the block's height
abbrev pub log_with_height : ScriptBlock → Option (ℕ × SignedDealerLog)
log_with_height b = option_map (λ log. (b.height, log)) b.log

-- the payload of a line, as a node without addresses reads it, and spells it again
abbrev pub IsPayloadOf : Limits → Option (List ℕ) → Option (Payload directory.Unit) → Type 0
IsPayloadOf limits None None = Unit {0}
IsPayloadOf limits (Some bytes) (Some payload) = (unit_payload limits bytes ≡ Some payload) × (payload_spelling unit_spelling payload ≡ bytes)
IsPayloadOf limits _ _ = ⊥

-- the digest of the block that a line names as its parent, among the blocks of the lines before it
abbrev pub parent_digest : List ScriptBlock → BlockLine → List ℕ
parent_digest before line = option_map_or (λ b. b.digest) (option_and_then (slice_get before) line.parent) zero_digest

-- where the block of a line is proposed
abbrev pub context_on : Setting → (parent : List ℕ) → BlockLine → Context
context_on s parent line = record { epoch = epoch_of (blocks_per_epoch s) line.height; view = line.view; leader = 0; parent_view = 0; parent = parent }
