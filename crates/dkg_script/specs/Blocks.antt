-- The blocks of a script, and the chain, the epochs' infos and the rounds that they make.
use Rattle.std.specs.Prelude.{ℕ, zero, suc, List, [], ◌∷◌, ◌++◌, ◌^◌, ◌-◌, ◌==◌, take, Option, Some, None, Result, option_map, option_and_then, option_to_list, slice_get, fold, filter_map, flat_map, find, map, if◌then◌else◌}
use Rattle.std.specs.Option.{option_map_or}
use Rattle.std.specs.Result.{result_ok}
use Rattle.std.specs.FinMap.{get}
use Rattle.sha2.specs.Sha256.{sha256}
use Rattle.dkg_values.specs.Uint.{uint}
use Rattle.dkg_values.specs.declared.name.Name.TheVariants.{Plan}
use Rattle.dkg_ceremony.specs.declared.mode.Reveal.TheVariants.{V1}
use Rattle.dkg_ceremony.specs.declared.round.RoundError.{RoundError}
use Rattle.dkg_ceremony.specs.declared.round.RoundParts.{RoundParts as Round}
use Rattle.dkg_ceremony.specs.declared.signed_log.SignedDealerLog.{SignedDealerLog}
use Rattle.dkg_ceremony.specs.Rounds.{round_of}
use Rattle.dkg_infos.specs.declared.info.EpochInfo.{EpochInfo}
use Rattle.dkg_types.specs.BlockCodes.{context_bytes, zero_digest}
use Rattle.dkg_text.specs.declared.script.Anchor.{Anchor}
use Rattle.dkg_text.specs.declared.script.Anchor.TheVariants.{Processed, Absent}
use Rattle.dkg_text.specs.declared.script.BlockLine.{BlockLine}
use Rattle.dkg_text.specs.declared.script.Cut.{Cut}
use Rattle.dkg_text.specs.declared.script.Event.{Event}
use Rattle.dkg_text.specs.declared.script.Event.TheVariants.{Final}
use Rattle.dkg_text.specs.declared.script.Life.{Life}
use Rattle.dkg_text.specs.declared.script.Script.{Script}
use Rattle.dkg_text.specs.declared.script.SyncLine.{SyncLine}
use Rattle.dkg_script.specs.Schedule.{epoch_of, boundary, last}
use Rattle.dkg_script.specs.Readings.{Info, SyncMaterial, info_in, log_in, material_in}
use Rattle.dkg_script.specs.Setting.{Setting, blocks_per_epoch, limits, is_oneshot}

-- A block: what names it, where it stands, and what it carries.
pub record ScriptBlock : Type 0 where
  pub height : ℕ
  pub digest : List ℕ
  pub parent : List ℕ
  pub view : ℕ
  pub payload : Option (List ℕ)
  -- what the payload is under the node's limits
  pub info : Option Info
  pub log : Option SignedDealerLog

-- a flag, and the payload's bytes where there is one
abbrev pub flagged : Option (List ℕ) → List ℕ
flagged None = 0 ∷ []
flagged (Some payload) = 1 ∷ payload

-- the digest of a block by its epoch, height and view, its parent's digest and its payload (its leader and its parent's view are 0)
unfoldable pub digest_of : (epoch height view : ℕ) → (parent : List ℕ) → Option (List ℕ) → List ℕ
digest_of epoch height view parent payload =
    sha256 (context_bytes (record { epoch = epoch; view = view; leader = 0; parent_view = 0; parent = parent }) ++ parent ++ uint height ++ flagged payload)

-- the block of a line, over the blocks of the lines before it
abbrev pub block_of : Setting → List ScriptBlock → BlockLine → ScriptBlock
block_of s before line =
    let parent = option_map_or (λ b. b.digest) (option_and_then (slice_get before) line.parent) zero_digest
    in record {
      height = line.height;
      digest = digest_of (epoch_of (blocks_per_epoch s) line.height) line.height line.view parent line.payload;
      parent = parent;
      view = line.view;
      payload = line.payload;
      info = option_and_then (info_in (limits s)) line.payload;
      log = option_and_then (log_in (limits s)) line.payload;
    }

abbrev pub blocks : Setting → List ScriptBlock
blocks s = fold (λ before line. before ++ block_of s before line ∷ []) [] s.script.blocks

abbrev pub numbered_block : Setting → ℕ → Option ScriptBlock
numbered_block s number = slice_get (blocks s) number

abbrev pub anchor_number : Anchor → ℕ
anchor_number (Processed number) = number
anchor_number (Absent number) = number

-- the block that an event delivers
abbrev pub delivered_number : Event → Option ℕ
delivered_number (Final number) = Some number
delivered_number _ = None

-- the blocks that the life's source holds as it opens
abbrev pub held_at_opening : Setting → Life → List ScriptBlock
held_at_opening s life = filter_map (numbered_block s) (option_to_list (option_map anchor_number life.anchor) ++ life.held)

-- the events that a life comes to: those before the step that it is cut before
abbrev pub events_come_to : Option Cut → List Event → List Event
events_come_to None events = events
events_come_to (Some cut) events = if cut.call == 0 then take (cut.step - 1) events else events

-- the blocks that a life uses: its anchor, those it holds, its floor, and those delivered to it
abbrev pub used_in : Setting → Life → List ScriptBlock
used_in s life =
    held_at_opening s life ++ filter_map (numbered_block s) (option_to_list (option_map (λ line. line.block) life.sync) ++ filter_map delivered_number (events_come_to life.cut life.events))

unfoldable pub used : Setting → List ScriptBlock
used s = flat_map (used_in s) s.script.lives

-- the first of some blocks at a height
abbrev pub chain_in : List ScriptBlock → ℕ → Option ScriptBlock
chain_in bs height = find (λ b. b.height == height) bs

-- the one chain: the block that is used at a height
abbrev pub chain : Setting → ℕ → Option ScriptBlock
chain s height = chain_in (used s) height

-- the chain's block below this one
abbrev pub chain_below : Setting → ℕ → Option ScriptBlock
chain_below s zero = None
chain_below s (suc height) = chain s height

-- the start material of a script's line, which is read under the widest limits
abbrev pub material_of_line : Setting → SyncLine → Option SyncMaterial
material_of_line s line =
    option_and_then (λ info. option_map (λ b. record { info = info; epoch = line.epoch; floor = b.digest }) (numbered_block s line.block))
    (info_in (record { limit = 2 ^ 30; version = 1; addressed = s.script.addressed }) line.info)

abbrev pub provided_material : Setting → Life → Option SyncMaterial
provided_material s life = option_and_then (material_of_line s) life.sync

-- the start material that was stored on the disk handed in
abbrev pub handed_in : Setting → Option SyncMaterial
handed_in s = option_and_then (material_in (limits s)) (get s.files Plan)

-- the infos of their own epoch that its boundary block or start material carries
abbrev pub info_at_boundary : Setting → ScriptBlock → Option Info
info_at_boundary s b =
    option_and_then (λ info. if b.height == boundary (blocks_per_epoch s) info.epoch then Some info else None) b.info

abbrev pub carried_infos : Setting → List Info
carried_infos s =
    filter_map (info_at_boundary s) (used s)
    ++ map (λ m. m.info) (filter_map (provided_material s) s.script.lives ++ option_to_list (handed_in s))

-- the first of some infos of an epoch
abbrev pub known_in : List Info → ℕ → Option Info
known_in infos epoch = find (λ info. info.epoch == epoch) infos

-- the info that is carried of an epoch
abbrev pub known_info : Setting → ℕ → Option Info
known_info s epoch = known_in (carried_infos s) epoch

-- The info of an epoch. In one-shot mode there is epoch 0 alone, and its info is the one in the chain's block that ends it.
abbrev pub info_of_epoch : Setting → ℕ → Option Info
info_of_epoch s epoch =
    if is_oneshot s
    then (if epoch == 0 then option_and_then (λ b. b.info) (chain s (last (blocks_per_epoch s) 0)) else None)
    else known_info s epoch

-- the round of a one-shot ceremony: its participants deal to each other
abbrev pub oneshot_round : Setting → List ℕ → Option Round
oneshot_round s participants = result_ok (round_of s.script.config.namespace 0 None s.script.config.mode V1 participants participants)

-- the round of an epoch by the info that names it, or why it makes none: the players of the info's output deal to its players (dkg_core's `round_for` is this over the rules of any caller)
abbrev pub round_by : {Dir : Type 0} → Script → (epoch : ℕ) → EpochInfo Dir → Result Round RoundError
round_by script epoch info = round_of script.config.namespace epoch (Some info.output) script.config.mode V1 info.output.players info.players

-- the ceremony's round of an epoch, where its info is known and gives one (in one-shot mode, of epoch 0 alone)
unfoldable pub round_at : Setting → ℕ → Option Round
round_at s epoch =
    if is_oneshot s then (if epoch == 0 then option_and_then (oneshot_round s) s.script.config.oneshot else None)
    else option_and_then (λ info. result_ok (round_by s.script epoch info)) (info_of_epoch s epoch)
