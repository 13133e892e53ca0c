-- What is said of a node's blocks and infos holds of those of a script.
use Rattle.std.proofs.Common.{◌≡◌, ℕ, Bool, false, List, [], ◌∷◌, Option, Some, None, refl, ap, ◌∙◌}
use Rattle.std.specs.List.{cons_option}
use Rattle.std.specs.Prelude.{filter_map, map, option_and_then, option_map}
use Rattle.dkg_ceremony.specs.declared.output.Output.{Output}
use Rattle.dkg_ceremony.specs.declared.round.RoundParts.{RoundParts as Round}
use Rattle.dkg_ceremony.specs.declared.signed_log.SignedDealerLog.{SignedDealerLog}
use Rattle.dkg_ceremony.specs.Outcomes.{LogMap}
use Rattle.dkg_types.specs.Blocks as made
use Rattle.dkg_infos.specs.declared.directory.Unit as directory
use Rattle.dkg_infos.specs.declared.info.EpochInfo.{EpochInfo}
use Rattle.dkg_infos.specs.declared.outcome.EpochOutcome.TheVariants.{Success}
use Rattle.dkg_types.specs.declared.payload.Payload.{Payload}
use Rattle.dkg_types.specs.declared.payload.Payload.TheVariants as payload
use Rattle.dkg_types.specs.BlockCodes.{IsBlock}
use Rattle.dkg_infos.specs.NextInfos.{Provided, info_by, info_with, next_info, oneshot_info}
use Rattle.dkg_types.specs.Paths.{log_of_block, logs_from, logs_of_path}
use Rattle.dkg_types.specs.PayloadCodes.{payload_spelling}
use Rattle.dkg_infos.specs.Units.{unit_spelling}
use Rattle.dkg_text.specs.declared.script.BlockLine.{BlockLine}
use Rattle.dkg_script.specs.Blocks.{ScriptBlock, block_of, digest_of}
use Rattle.dkg_script.specs.Readings.{Limits, info_in, log_in, with_spelled}
use Rattle.dkg_script.specs.Schedule.{epoch_of}
use Rattle.dkg_script.specs.Setting.{Setting, blocks_per_epoch, limits}
use Rattle.dkg_script.specs.Views.{IsPayloadOf, context_on, log_with_height, parent_digest, seen_block, seen_provided, seen_with}
use Rattle.dkg_script.proofs.Bridges.{same_digest}

-- A BLOCK that is made as a line says is the block that the script has

seen_payload : (limits : Limits) (line : Option (List ℕ)) (carried : Option (Payload directory.Unit)) (height : ℕ) (digest parent : List ℕ) (view : ℕ) → limits.addressed ≡ false → IsPayloadOf limits line carried
    → seen_with unit_spelling height digest parent view carried
    ≡ record { height = height; digest = digest; parent = parent; view = view; payload = line; info = option_and_then (info_in limits) line; log = option_and_then (log_in limits) line }
unfolding info_in log_in
seen_payload limits None None height digest parent view plain is = refl
seen_payload limits None (Some its) height digest parent view plain is = absurd is
seen_payload limits (Some bytes) None height digest parent view plain is = absurd is
seen_payload limits (Some bytes) (Some (payload.DealerLog signed)) height digest parent view plain is = rw (plain, is.0, is.1) refl
seen_payload limits (Some bytes) (Some (payload.EpochInfo info)) height digest parent view plain is = rw (plain, is.0, is.1) refl

spelled_so : (limits : Limits) (line : Option (List ℕ)) (carried : Option (Payload directory.Unit)) → IsPayloadOf limits line carried → option_map (payload_spelling unit_spelling) carried ≡ line
spelled_so limits None None is = refl
spelled_so limits None (Some its) is = absurd is
spelled_so limits (Some bytes) None is = absurd is
spelled_so limits (Some bytes) (Some its) is = ap (λ (text : List ℕ). Some text) is.1

pub seen_is : (s : Setting) (before : List ScriptBlock) (line : BlockLine) (carried : Option (Payload directory.Unit)) (b : made.Block directory.Unit) → s.script.addressed ≡ false → IsPayloadOf (limits s) line.payload carried
    → IsBlock unit_spelling (context_on s (parent_digest before line) line) (parent_digest before line) line.height carried b → seen_block unit_spelling b ≡ block_of s before line
seen_is s before line carried b plain read is =
    let epoch = epoch_of (blocks_per_epoch s) line.height in
    let parent = parent_digest before line in
    let digest : b.digest ≡ digest_of epoch line.height line.view parent line.payload =
    is.of_digest ∙ same_digest unit_spelling epoch line.height line.view parent carried ∙ ap (digest_of epoch line.height line.view parent) (spelled_so (limits s) line.payload carried read) in
    rw (is.of_height, is.of_parent, is.of_context, is.of_payload, digest) (seen_payload (limits s) line.payload carried line.height (digest_of epoch line.height line.view parent line.payload) parent line.view plain read)

-- LOGS: those of a path that count are those of its blocks as they are seen

same_log : {Dir : Type 0} (spelling : Dir → List ℕ) (b : made.Block Dir) → log_of_block b ≡ log_with_height (seen_block spelling b)
same_log spelling b = refl

same_placed : {Dir : Type 0} (spelling : Dir → List ℕ) (path : List (made.Block Dir)) → filter_map log_of_block path ≡ filter_map log_with_height (map (seen_block spelling) path)
same_placed spelling [] = refl
same_placed spelling (b ∷ path) = ap (cons_option (log_of_block b)) (same_placed spelling path)

pub same_logs : {Dir : Type 0} (spelling : Dir → List ℕ) (check_log_of : Round → SignedDealerLog → Bool) (midpoint last : ℕ) (round : Round) (path : List (made.Block Dir))
    → logs_of_path check_log_of midpoint last round path ≡ logs_from check_log_of midpoint last round (filter_map log_with_height (map (seen_block spelling) path))
same_logs spelling check_log_of midpoint last round path = ap (logs_from check_log_of midpoint last round) (same_placed spelling path)

-- INFOS: the next one, as it is seen, is the one after the info as it is seen

same_by : {Dir : Type 0} (spelling : Dir → List ℕ) (provided : Provided Dir) (i : EpochInfo Dir) (output : Option Output) → with_spelled spelling (info_by provided i output) ≡ info_by (seen_provided spelling provided) (with_spelled spelling i) output
same_by spelling provided i None = refl
same_by spelling provided i (Some output) = refl

pub same_next : {Dir : Type 0} (spelling : Dir → List ℕ) (outcome_of : Round → LogMap → Option Output) (provided : Provided Dir) (i : EpochInfo Dir) (round : Round) (logs : LogMap)
    → with_spelled spelling (next_info outcome_of provided i round logs) ≡ next_info outcome_of (seen_provided spelling provided) (with_spelled spelling i) round logs
unfolding next_info
same_next spelling outcome_of provided i round logs = same_by spelling provided i (outcome_of round logs)

same_once : {Dir : Type 0} (spelling : Dir → List ℕ) (directory : List ℕ → Dir) (participants : List ℕ) (output : Option Output)
    → option_map (with_spelled spelling) (option_map (λ o. info_with directory Success 0 o participants []) output) ≡ option_map (λ o. info_with (λ peers. spelling (directory peers)) Success 0 o participants []) output
same_once spelling directory participants None = refl
same_once spelling directory participants (Some output) = refl

pub same_oneshot : {Dir : Type 0} (spelling : Dir → List ℕ) (outcome_of : Round → LogMap → Option Output) (directory : List ℕ → Dir) (participants : List ℕ) (round : Round) (logs : LogMap)
    → option_map (with_spelled spelling) (oneshot_info outcome_of directory participants round logs) ≡ oneshot_info outcome_of (λ peers. spelling (directory peers)) participants round logs
unfolding oneshot_info
same_oneshot spelling outcome_of directory participants round logs = same_once spelling directory participants (outcome_of round logs)
