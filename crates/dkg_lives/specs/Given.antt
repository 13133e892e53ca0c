-- What a life of a script is given: the blocks that its source holds, and the configuration of its node.
use Rattle.std.specs.Prelude.{ℕ, zero, suc, ◌-◌, ◌++◌, ◌∷◌, [], List, true, false, Option, None, Some, filter_map, fold, option_and_then, option_map, slice_get, take, length, ◌≡◌, IfSome}
use Rattle.std.specs.Int.NonZero.{non_zero_u32_get, non_zero_u64_get}
use Rattle.std.specs.FinMap.{empty}
use Rattle.std.specs.List.{AllByRecursion}
use Rattle.std.specs.Option.{option_map_or}
use Rattle.sha2.specs.Sha256.{sha256}
use Rattle.dkg_values.specs.Codec.{IsBytes}
use Rattle.dkg_ceremony.specs.Schedule.{epoch_of}
use Rattle.dkg_ceremony.specs.declared.mode.Reveal.TheVariants.{V1}
use Rattle.dkg_journal.specs.Names.{Files}
use Rattle.dkg_journal.specs.Opening.{open_calls}
use Rattle.dkg_types.specs.BlockCodes.{block_bytes, zero_digest}
use Rattle.dkg_types.specs.Blocks.{Block}
use Rattle.dkg_infos.specs.NextInfos.{Provided}
use Rattle.dkg_infos.specs.Units.{unit_at, unit_spelling}
use Rattle.dkg_types.specs.declared.block.Context.{Context}
use Rattle.dkg_infos.specs.declared.directory.Unit as directory
use Rattle.dkg_types.specs.declared.payload.Payload.{Payload}
use Rattle.dkg_types.specs.declared.finalization.Finalization.{Finalization}
use Rattle.dkg_store.specs.Acts.{Held}
use Rattle.dkg_text.specs.declared.script.Anchor as declared
use Rattle.dkg_text.specs.declared.script.Anchor.TheVariants as anchor
use Rattle.dkg_text.specs.declared.script.BlockLine.{BlockLine}
use Rattle.dkg_text.specs.declared.script.Event as script
use Rattle.dkg_text.specs.declared.script.Event.TheVariants as event
use Rattle.dkg_text.specs.declared.script.Life.{Life}
use Rattle.dkg_text.specs.declared.script.Script.{Script}
use Rattle.dkg_text.specs.declared.script.ScriptConfig.{ScriptConfig}
use Rattle.dkg_script.specs.Blocks.{delivered_number}
use Rattle.dkg_script.specs.Players.{players_at}
use Rattle.dkg_script.specs.Readings.{Limits, unit_payload}
use Rattle.dkg_core.specs.Courses.{Course, Goes}
use Rattle.dkg_core.specs.Fixed.{Directories, Fixed, Inner, Probed, stand_in}
use Rattle.dkg_core.specs.Live.{Event, Live, NodeStop, Delivers, Peer, NextLog, ReleaseLog, EpochInfoOf, Feed, Over, Cancel, Work, Reshare}
use Rattle.dkg_core.specs.Node.{node_step}
use Rattle.dkg_core.specs.Seen.{Seen}
use Rattle.dkg_core.specs.Sources.{Anchor, AtBlock, Absent, SourceAnswers, source_of}
use Rattle.dkg_core.specs.Endings.{first_epoch}
use Rattle.dkg_life.specs.Planless.{seen_planless}

-- BLOCKS

abbrev pub limits_of : Script → Limits
limits_of script = record { limit = non_zero_u32_get script.config.limit; version = script.config.max_mode.0; addressed = script.addressed }

-- what a line's payload spells, if it does, to a node whose directories say nothing
abbrev pub payload_in : ScriptConfig → Option (List ℕ) → Option (Payload directory.Unit)
payload_in config payload =
    option_and_then (unit_payload (record { limit = non_zero_u32_get config.limit; version = config.max_mode.0; addressed = false })) payload

-- where the block of a line is proposed
abbrev pub context_in : ScriptConfig → BlockLine → (parent : List ℕ) → Context
context_in config line parent =
    record { epoch = epoch_of (non_zero_u64_get config.blocks_per_epoch) line.height; view = line.view; leader = 0; parent_view = 0; parent = parent }

-- the block of a line whose parent has this digest
abbrev pub block_on : ScriptConfig → (parent : List ℕ) → BlockLine → Block directory.Unit
block_on config parent line = record {
  context = context_in config line parent;
  parent = parent;
  height = line.height;
  payload = payload_in config line.payload;
  digest = sha256 (block_bytes unit_spelling (context_in config line parent) parent line.height (payload_in config line.payload));
}

-- the digest of the block that a line names as its parent, among the blocks of the lines before it
abbrev pub parent_digest_in : List (Block directory.Unit) → Option ℕ → List ℕ
parent_digest_in before parent = option_map_or (λ b. b.digest) (option_and_then (slice_get before) parent) zero_digest

-- these blocks, and that of one line more
abbrev pub with_block : ScriptConfig → List (Block directory.Unit) → BlockLine → List (Block directory.Unit)
with_block config before line = before ++ block_on config (parent_digest_in before line.parent) line ∷ []

-- the blocks of a script, in the order of its lines
unfoldable pub blocks_in : Script → List (Block directory.Unit)
blocks_in script = fold (with_block script.config) [] script.blocks

-- each of their payloads is bytes
abbrev pub AreBytes : List BlockLine → Type 0
AreBytes lines = AllByRecursion (λ line. IfSome line.payload IsBytes) lines

-- A SOURCE

-- the blocks of these numbers
abbrev pub numbered : List (Block directory.Unit) → List ℕ → List (Block directory.Unit)
numbered blocks numbers = filter_map (slice_get blocks) numbers

-- the blocks that these events deliver
abbrev pub delivered_by : List (Block directory.Unit) → List script.Event → List (Block directory.Unit)
delivered_by blocks events = numbered blocks (filter_map delivered_number events)

abbrev pub anchor_of_line : declared.Anchor → Block directory.Unit → Anchor directory.Unit
anchor_of_line (anchor.Processed number) b = record { processed = AtBlock b.height; block = b }
anchor_of_line (anchor.Absent number) b = record { processed = Absent (b.height - 1); block = b }

abbrev pub anchor_block : List (Block directory.Unit) → declared.Anchor → Option (Block directory.Unit)
anchor_block blocks (anchor.Processed number) = slice_get blocks number
anchor_block blocks (anchor.Absent number) = slice_get blocks number

abbrev pub anchor_in : List (Block directory.Unit) → Option declared.Anchor → Option (Anchor directory.Unit)
anchor_in blocks at = option_and_then (λ its. option_map (anchor_of_line its) (anchor_block blocks its)) at

-- No finalization is known of a block: no probe is run yet.
abbrev pub unsealed : Block directory.Unit → Option Finalization
unsealed b = None

-- A LIFE

-- a life of a script: its number, what the reads of its opening give, and the calls of its journal's opening
pub record Lived : Type 0 where
  pub script : Script
  pub number : ℕ
  pub life : Life
  pub seen : Held → Seen
  pub calls : ℕ

-- the one that opens over these files, with these reads
abbrev pub lived : Script → (number : ℕ) → Life → (Held → Seen) → Files → Lived
lived script number life seen files = record { script = script; number = number; life = life; seen = seen; calls = length (open_calls files) }

-- what its source holds once so many of its events have come: a block that the last of them delivers is there
abbrev pub source_at : Lived → (taken : ℕ) → SourceAnswers directory.Unit
source_at g taken =
    source_of unsealed (anchor_in (blocks_in g.script) g.life.anchor) (numbered (blocks_in g.script) g.life.held) (delivered_by (blocks_in g.script) (take taken g.life.events))

-- directories that say nothing, and lack nobody
abbrev pub unit_directories : Directories directory.Unit
unit_directories = record { spelling = unit_spelling; read = λ peers. unit_at; matches = λ d peers. true; lacking = λ d peers. None }

-- what a script says of the participants that are to come, whose directories say nothing
abbrev pub provided_by : Script → Provided directory.Unit
provided_by script = record { participants = players_at script.config.players; directory = λ epoch peers. record {} }

-- what no step of today asks: an inner application and a probe

abbrev pub no_inner : Inner directory.Unit
no_inner = record { prepared = λ b payload. None; proposed = λ b payload. None; accepts = λ ancestry. false }

abbrev pub no_probed : Probed directory.Unit
no_probed = record { snapshot = None; certifies = λ finalization. false }

-- what its steps read: its opening what is given, and the ones behind it what the devices hold
abbrev pub seen_in_step : Lived → (taken : ℕ) → Held → Seen
seen_in_step g zero = g.seen
seen_in_step g (suc taken) = seen_planless

-- what a step of the life is given
unfoldable pub at_step : Lived → (taken : ℕ) → Fixed directory.Unit
at_step g taken = record {
  me = g.script.config.me;
  blocks_per_epoch = non_zero_u64_get g.script.config.blocks_per_epoch;
  limit = non_zero_u32_get g.script.config.limit;
  version = g.script.config.max_mode.0;
  mode = g.script.config.mode;
  reveal = V1;
  namespace = g.script.config.namespace;
  oneshot = None;
  rules = stand_in;
  directories = unit_directories;
  provided = provided_by g.script;
  seen = seen_in_step g taken;
  inner = no_inner;
  probed = no_probed;
  life = g.number;
  word = g.life.word;
  material = None;
  opening_calls = g.calls;
  source = source_at g taken;
}

-- the node's event of a script's
abbrev pub node_event_in : List (Block directory.Unit) → script.Event → Option (Event directory.Unit)
node_event_in blocks (event.Peer from bytes) = Some (Reshare (Peer from bytes))
node_event_in blocks (event.Final number) = option_map Delivers (slice_get blocks number)
node_event_in blocks (event.Next request height) = Some (Reshare (NextLog request height))
node_event_in blocks (event.Release height) = Some (Reshare (ReleaseLog height))
node_event_in blocks (event.Info request) = Some (Reshare (EpochInfoOf request))
node_event_in blocks (event.Feed request number) = option_map (λ b. Reshare (Feed request b)) (slice_get blocks number)
node_event_in blocks (event.Over request) = Some (Reshare (Over request))
node_event_in blocks (event.Cancel request) = Some (Reshare (Cancel request))
node_event_in blocks event.Work = Some (Reshare (Work None))
node_event_in blocks other = None

-- the course of a step
abbrev pub step_of : Lived → (number : ℕ) → script.Event → Live directory.Unit → Course directory.Unit NodeStop (Live directory.Unit)
step_of g number event st = option_map_or (λ its. node_step (at_step g number) its st) (node_event_in (blocks_in g.script) event) (Goes st)

-- No plan is read.
abbrev pub IsUnplanned : (Held → Seen) → Type 0
IsUnplanned seen = (h : Held) → (seen h).plan ≡ None

-- the epoch before the one in which a life starts, below which its opening leaves nothing
abbrev pub starts_above : Script → (number : ℕ) → Life → ℕ
starts_above script number life = first_epoch (at_step (lived script number life seen_planless empty) 0) - 1
