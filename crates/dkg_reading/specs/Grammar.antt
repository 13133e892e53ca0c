-- Which bytes are a script, which script they spell, and which is the first line that no script has after the lines before it.
use Rattle.std.specs.Prelude.{◌≡◌, ℕ, ◌+◌, ◌-◌, ◌^◌, ◌==◌, ◌&&◌, nat_lt, not, max, is_some, slice_get, Bool, true, if◌then◌else◌, List, [], ◌∷◌, length, map, Option, Some, None, Result, Ok, Err, codes}
use Rattle.std.specs.Int.NonZero.{non_zero_u32_get}
use Rattle.std.specs.Option.{option_map_or}
use Rattle.std.specs.Result.{result_ok}
use Rattle.std.specs.declared.num.NonZeroU32.{NonZeroU32}
use Rattle.dkg_values.specs.Rising.{keys_of, rises}
use Rattle.dkg_types.specs.declared.addresses.Address.{Address}
use Rattle.dkg_reading.specs.declared.config_lines.Opening.{Opening}
use Rattle.dkg_reading.specs.declared.error.ScriptError.{ScriptError}
use Rattle.dkg_reading.specs.declared.error.ScriptError.TheVariants.{Bad, NoMemory}
use Rattle.dkg_text.specs.declared.script.Anchor.{Anchor}
use Rattle.dkg_text.specs.declared.script.Anchor.TheVariants.{Processed, Absent}
use Rattle.dkg_text.specs.declared.script.BlockLine.{BlockLine}
use Rattle.dkg_text.specs.declared.script.Cut.{Cut}
use Rattle.dkg_text.specs.declared.script.Event.{Event}
use Rattle.dkg_text.specs.declared.script.Event.TheVariants.{Peer, Final, Next, Release, Info, Feed, Over, Cancel, Work, Prepare, Propose, Verify, Later, Subscribe, Unsubscribe, Attach, Reply, Retry}
use Rattle.dkg_text.specs.declared.script.Life.{Life}
use Rattle.dkg_text.specs.declared.script.PlayerLine.{PlayerLine}
use Rattle.dkg_text.specs.declared.script.ProbeLine.{ProbeLine}
use Rattle.dkg_text.specs.declared.script.Script.{Script}
use Rattle.dkg_text.specs.declared.script.ScriptConfig.{ScriptConfig}
use Rattle.dkg_text.specs.declared.script.SyncLine.{SyncLine}
use Rattle.dkg_reading.specs.Asked.{is_asked}
use Rattle.dkg_text.specs.PayloadKinds.{payload_kind, is_info}
use Rattle.dkg_reading.specs.Lines.{TextReading, allowed, begins, by_name, checked_line_at, front_of, line_at, many_lines_at, maybe_at, some_read, LineFront, ◌>=>◌}
use Rattle.dkg_reading.specs.Positive.{positive_32, positive_64}
use Rattle.dkg_reading.specs.Rows.{Row, address_row, all, beside, bytes_of, dash_or, field, four, mode_of, no_fields, number_below, decimal_of, set_row, three, two, version_of, whole_row, ◌>>=◌}

-- FIELDS

abbrev pub key_of : List ℕ → Option ℕ
key_of = number_below (2 ^ 32)

abbrev pub index_of : List ℕ → Option ℕ
index_of = number_below (2 ^ 32)

-- THE CONFIGURATION

-- the version of the text
abbrev pub version_one : ℕ → Option Unit
version_one n = if n == 1 then Some tt else None

-- a limit of participants, at most 2^30
abbrev pub limit_from : ℕ → Option NonZeroU32
limit_from n = if nat_lt (2 ^ 30) n then None else positive_32 n

-- whether a number is above the last of others
abbrev pub is_above : List ℕ → ℕ → Bool
is_above done n = option_map_or (λ last. nat_lt last n) (slice_get done (length done - 1)) true

-- an epoch's players, after those of lower epochs
abbrev pub players_after : List PlayerLine → ℕ × List ℕ → Option PlayerLine
players_after done line = if is_above (map (λ l. l.epoch) done) line.0 then Some (record { epoch = line.0; players = line.1 }) else None

-- where a key is reached, after lower keys, of which there are fewer than 2^32
abbrev pub address_line_after : List (ℕ × Address) → ℕ × Address → Option (ℕ × Address)
address_line_after done line = if is_above (keys_of done) line.0 && nat_lt (length done + 1) (2 ^ 32) then Some line else None

-- where the probe begins: both payloads are infos
abbrev pub probe_from : (addressed : Bool) → ℕ × Option ℕ × List ℕ × List ℕ → Option ProbeLine
probe_from addressed line =
    if is_info addressed line.2 && is_info addressed line.3
    then Some (record { checkpoint = line.0; floor = line.1; checkpoint_info = line.2; genesis_info = line.3 })
    else None

unfoldable pub players_line_at : List PlayerLine → List ℕ → TextReading PlayerLine
players_line_at done = checked_line_at (codes "players") (beside (field decimal_of) set_row) (players_after done)

unfoldable pub address_line_at : List (ℕ × Address) → List ℕ → TextReading (ℕ × Address)
address_line_at done = checked_line_at (codes "address") (beside (field key_of) address_row) (address_line_after done)

unfoldable pub probe_at : (addressed : Bool) → List ℕ → TextReading ProbeLine
probe_at addressed = checked_line_at (codes "probe") (four decimal_of (dash_or decimal_of) bytes_of bytes_of) (probe_from addressed)

unfoldable pub opening_at : List ℕ → TextReading Opening
opening_at text =
    checked_line_at (codes "dkg") (field decimal_of) version_one text >=> λ version.
    line_at (codes "me") (field key_of) version.1 >=> λ me.
    checked_line_at (codes "blocks") (field decimal_of) positive_64 me.1 >=> λ blocks.
    checked_line_at (codes "limit") (field (number_below (2 ^ 32))) limit_from blocks.1 >=> λ limit.
    line_at (codes "mode") (two mode_of version_of) limit.1 >=> λ modes.
    line_at (codes "space") (field bytes_of) modes.1 >=> λ space.
    Ok (record { me = me.0; blocks_per_epoch = blocks.0; limit = limit.0; modes = modes.0; namespace = space.0 }, space.1)

unfoldable pub config_at : (addressed : Bool) → List ℕ → TextReading ScriptConfig
config_at addressed text =
    opening_at text >=> λ opening.
    maybe_at (codes "oneshot") (line_at (codes "oneshot") set_row) opening.1 >=> λ oneshot.
    many_lines_at (begins (codes "players")) players_line_at oneshot.1 >=> λ players.
    many_lines_at (begins (codes "address")) address_line_at players.1 >=> λ addresses.
    maybe_at (codes "probe") (probe_at addressed) addresses.1 >=> λ probe.
    Ok (
      record {
        me = opening.0.me;
        blocks_per_epoch = opening.0.blocks_per_epoch;
        limit = opening.0.limit;
        mode = opening.0.modes.0;
        max_mode = opening.0.modes.1;
        namespace = opening.0.namespace;
        oneshot = oneshot.0;
        players = players.0;
        addresses = addresses.0;
        probe = probe.0;
      },
      probe.1,
    )

-- THE BLOCKS

-- the limit under which blocks are read: in one-shot mode the number of participants, and at least 1
abbrev pub limit_of : ScriptConfig → ℕ
limit_of config = option_map_or (λ participants. max 1 (length participants)) config.oneshot (non_zero_u32_get config.limit)

abbrev pub is_parent : (before : ℕ) → Option ℕ → Bool
is_parent before parent = option_map_or (λ n. nat_lt n before) parent true

abbrev pub is_payload : (addressed : Bool) (limit version : ℕ) → Option (List ℕ) → Bool
is_payload addressed limit version payload = option_map_or (λ bytes. is_some (payload_kind addressed limit version bytes)) payload true

-- a block after others: its parent is one of them, and what it carries is read under the limits
abbrev pub block_after : (addressed : Bool) → ScriptConfig → List BlockLine → ℕ × Option ℕ × ℕ × Option (List ℕ) → Option BlockLine
block_after addressed config done line =
    if is_parent (length done) line.1 && is_payload addressed (limit_of config) config.max_mode.0 line.3
    then Some (record { height = line.0; parent = line.1; view = line.2; payload = line.3 })
    else None

unfoldable pub block_line_at : (addressed : Bool) → ScriptConfig → List BlockLine → List ℕ → TextReading BlockLine
block_line_at addressed config done = checked_line_at (codes "block") (four decimal_of (dash_or index_of) decimal_of (dash_or bytes_of)) (block_after addressed config done)

unfoldable pub blocks_at : (addressed : Bool) → ScriptConfig → List ℕ → TextReading (List BlockLine)
blocks_at addressed config = many_lines_at (begins (codes "block")) (block_line_at addressed config)

-- EVENTS

-- what the fields of an event spell
abbrev pub event_row : {A : Type 0} → Row A → (A → Event) → List (List ℕ) → Option Event
event_row row make fields = whole_row (row fields) >>= λ x. Some (make x)

-- the events of the node: the name of a line, what its fields spell, and what that makes
unfoldable pub event_table : List (List ℕ × (List (List ℕ) → Option Event))
event_table =
    (codes "peer", event_row (two key_of bytes_of) (λ x. Peer x.0 x.1))
    ∷ (codes "final", event_row (field index_of) Final)
    ∷ (codes "next", event_row (two decimal_of decimal_of) (λ x. Next x.0 x.1))
    ∷ (codes "release", event_row (field decimal_of) Release)
    ∷ (codes "info", event_row (field decimal_of) Info)
    ∷ (codes "feed", event_row (two decimal_of index_of) (λ x. Feed x.0 x.1))
    ∷ (codes "over", event_row (field decimal_of) Over)
    ∷ (codes "cancel", event_row (field decimal_of) Cancel)
    ∷ (codes "work", event_row no_fields (λ x. Work))
    ∷ (codes "prepare", event_row (all index_of) Prepare)
    ∷ (codes "propose", event_row (all index_of) Propose)
    ∷ (codes "verify", event_row (all index_of) Verify)
    ∷ (codes "later", event_row (two key_of decimal_of) (λ x. Later x.0 x.1))
    ∷ (codes "subscribe", event_row no_fields (λ x. Subscribe))
    ∷ (codes "unsubscribe", event_row no_fields (λ x. Unsubscribe))
    ∷ (codes "attach", event_row no_fields (λ x. Attach))
    ∷ (codes "reply", event_row (two key_of bytes_of) (λ x. Reply x.0 x.1))
    ∷ (codes "retry", event_row no_fields (λ x. Retry))
    ∷ []

abbrev pub event_named : (name : List ℕ) (fields : List (List ℕ)) → Option Event
event_named = by_name event_table

-- whether all are numbers of blocks
abbrev pub are_blocks : (blocks : ℕ) → List ℕ → Bool
are_blocks blocks [] = true
are_blocks blocks (n ∷ ns) = nat_lt n blocks && are_blocks blocks ns

-- whether an event may stand after others, where there are so many blocks, and a probe or none: a number of a block names one, a
-- request for an info is new in this life, and the probe's events are there with a probe alone
abbrev pub is_allowed_event : (blocks : ℕ) (probe : Bool) (done : List Event) → Event → Bool
is_allowed_event blocks probe done (Final block) = nat_lt block blocks
is_allowed_event blocks probe done (Feed request block) = nat_lt block blocks
is_allowed_event blocks probe done (Info request) = not (is_asked done request)
is_allowed_event blocks probe done (Prepare ancestry) = are_blocks blocks ancestry
is_allowed_event blocks probe done (Propose ancestry) = are_blocks blocks ancestry
is_allowed_event blocks probe done (Verify ancestry) = are_blocks blocks ancestry
is_allowed_event blocks probe done Subscribe = probe
is_allowed_event blocks probe done Unsubscribe = probe
is_allowed_event blocks probe done Attach = probe
is_allowed_event blocks probe done (Reply from bytes) = probe
is_allowed_event blocks probe done Retry = probe
is_allowed_event blocks probe done _ = true

abbrev pub event_line_after : (blocks : ℕ) (probe : Bool) (done : List Event) → LineFront → Option (Event × List ℕ)
event_line_after blocks probe done line = event_named line.0 line.1.0 >>= λ event. if is_allowed_event blocks probe done event then Some (event, line.1.1) else None

unfoldable pub event_line_at : (blocks : ℕ) (probe : Bool) (done : List Event) → List ℕ → TextReading Event
event_line_at blocks probe done text = allowed text (front_of text >>= event_line_after blocks probe done)

-- LIVES, where the blocks are these

abbrev pub processed_from : List BlockLine → ℕ → Option Anchor
processed_from blocks n = if nat_lt n (length blocks) then Some (Processed n) else None

-- the height below a block, which is not at height 0
abbrev pub absent_from : List BlockLine → ℕ → Option Anchor
absent_from blocks n = slice_get blocks n >>= λ block. if nat_lt 0 block.height then Some (Absent n) else None

unfoldable pub anchor_line_at : List BlockLine → List ℕ → TextReading (Option Anchor)
anchor_line_at blocks text =
    if begins (codes "processed") text then some_read (checked_line_at (codes "processed") (field index_of) (processed_from blocks) text)
    else (if begins (codes "absent") text then some_read (checked_line_at (codes "absent") (field index_of) (absent_from blocks) text) else Ok (None, text))

-- rising numbers of blocks, at least one
abbrev pub held_from : (blocks : ℕ) → List ℕ → Option (List ℕ)
held_from blocks [] = None
held_from blocks (n ∷ ns) = if rises (n ∷ ns) && are_blocks blocks (n ∷ ns) then Some (n ∷ ns) else None

unfoldable pub held_line_at : (blocks : ℕ) → List ℕ → TextReading (List ℕ)
held_line_at blocks text = if begins (codes "held") text then checked_line_at (codes "held") (all index_of) (held_from blocks) text else Ok ([], text)

abbrev pub sync_from : (addressed : Bool) (blocks : ℕ) → List ℕ × ℕ × ℕ × ℕ → Option SyncLine
sync_from addressed blocks line =
    if nat_lt line.3 blocks && is_info addressed line.0
    then Some (record { info = line.0; epoch = line.1; view = line.2; block = line.3 })
    else None

-- the material of a state sync, which is there in reshare mode alone
unfoldable pub sync_at : (addressed oneshot : Bool) (blocks : ℕ) → List ℕ → TextReading (Option SyncLine)
sync_at addressed oneshot blocks text =
    if begins (codes "sync") text
    then (if oneshot then Err (length text) else some_read (checked_line_at (codes "sync") (four bytes_of decimal_of decimal_of index_of) (sync_from addressed blocks) text))
    else Ok (None, text)

-- the events of a life go on up to its cut or its stop
unfoldable pub is_eventful : List ℕ → Bool
is_eventful text = not (begins (codes "cut") text) && not (begins (codes "stop") text)

unfoldable pub event_lines_at : (blocks : ℕ) (probe : Bool) → List ℕ → TextReading (List Event)
event_lines_at blocks probe = many_lines_at is_eventful (event_line_at blocks probe)

-- a cut within the opening or one of so many events
abbrev pub cut_from : (events : ℕ) → ℕ × ℕ × ℕ → Option Cut
cut_from events line = if nat_lt events line.0 then None else Some (record { step = line.0; call = line.1; pick = line.2 })

unfoldable pub cut_at : (events : ℕ) → List ℕ → TextReading (Option Cut)
cut_at events = maybe_at (codes "cut") (checked_line_at (codes "cut") (three decimal_of decimal_of decimal_of) (cut_from events))

unfoldable pub life_lines_at : (addressed : Bool) → ScriptConfig → List BlockLine → List ℕ → TextReading Life
life_lines_at addressed config blocks text =
    line_at (codes "life") (field decimal_of) text >=> λ word.
    anchor_line_at blocks word.1 >=> λ anchor.
    held_line_at (length blocks) anchor.1 >=> λ held.
    sync_at addressed (is_some config.oneshot) (length blocks) held.1 >=> λ sync.
    event_lines_at (length blocks) (is_some config.probe) sync.1 >=> λ events.
    cut_at (length events.0) events.1 >=> λ cut.
    line_at (codes "stop") (field decimal_of) cut.1 >=> λ pick.
    Ok (record { word = word.0; anchor = anchor.0; held = held.0; sync = sync.0; events = events.0; cut = cut.0; pick = pick.0 }, pick.1)

unfoldable pub lives_at : (addressed : Bool) → ScriptConfig → List BlockLine → List ℕ → TextReading (List Life)
lives_at addressed config blocks = many_lines_at (begins (codes "life")) (λ _. life_lines_at addressed config blocks)

-- THE SCRIPT

abbrev pub nothing_left : List ℕ → Result Unit ℕ
nothing_left [] = Ok tt
nothing_left (b ∷ bs) = Err (length (b ∷ bs))

-- the last line, after which no byte is left
unfoldable pub end_at : List ℕ → Result Unit ℕ
end_at text = line_at (codes "end") no_fields text >=> λ end. nothing_left end.1

unfoldable pub reading_of : (addressed : Bool) → List ℕ → Result Script ℕ
reading_of addressed text =
    config_at addressed text >=> λ config.
    blocks_at addressed config.0 config.1 >=> λ blocks.
    lives_at addressed config.0 blocks.0 blocks.1 >=> λ lives.
    end_at lives.1 >=> λ _.
    Ok (record { addressed = addressed; config = config.0; blocks = blocks.0; lives = lives.0 })

-- the script that the bytes spell, or the offset of the first line that is not allowed after the lines before it (the length, where
-- only the last line is missing)
abbrev pub with_place : {A : Type 0} → (size : ℕ) → Result A ℕ → Result A ℕ
with_place size (Ok x) = Ok x
with_place size (Err left) = Err (size - left)

unfoldable pub script_or_place : (addressed : Bool) → List ℕ → Result Script ℕ
script_or_place addressed bytes = with_place (length bytes) (reading_of addressed bytes)

unfoldable pub script_of : (addressed : Bool) → List ℕ → Option Script
script_of addressed bytes = result_ok (reading_of addressed bytes)

-- what a call answered is that; want of memory tells nothing
abbrev pub AnswersScript : Result Script ℕ → Result Script ScriptError → Type 0
AnswersScript read (Ok script) = read ≡ Ok script
AnswersScript read (Err (Bad place)) = read ≡ Err place
AnswersScript read (Err NoMemory) = Unit {0}
