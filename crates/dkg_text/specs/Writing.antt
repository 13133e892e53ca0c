-- The text of a script, line by line.
use Rattle.std.specs.Prelude.{ℕ, List, [], ◌∷◌, ◌++◌, Option, Some, None, codes, decimal}
use Rattle.std.specs.Int.NonZero.{non_zero_u32_get, non_zero_u64_get}
use Rattle.std.specs.List.{flat_map}
use Rattle.dkg_ceremony.specs.declared.mode.Mode.{Mode}
use Rattle.dkg_ceremony.specs.declared.mode.Mode.TheVariants.{NonZeroCounter, RootsOfUnity}
use Rattle.dkg_types.specs.declared.addresses.Address.{Address}
use Rattle.dkg_types.specs.declared.addresses.Address.TheVariants.{Symmetric, Asymmetric}
use Rattle.dkg_types.specs.declared.addresses.Socket.{Socket}
use Rattle.dkg_text.specs.declared.script.Anchor.{Anchor}
use Rattle.dkg_text.specs.declared.script.Anchor.TheVariants.{Processed, Absent}
use Rattle.dkg_text.specs.declared.script.BlockLine.{BlockLine}
use Rattle.dkg_text.specs.declared.script.Cut.{Cut}
use Rattle.dkg_text.specs.declared.script.Event.{Event}
use Rattle.dkg_text.specs.declared.script.Event.TheVariants.{Peer, Final, Next, Release, Info, Feed, Over, Cancel, Work, Prepare, Propose, Verify, Later, Subscribe, Unsubscribe, Attach, Reply, Retry}
use Rattle.dkg_text.specs.declared.script.Life.{Life}
use Rattle.dkg_text.specs.declared.script.PlayerLine.{PlayerLine}
use Rattle.dkg_text.specs.declared.script.ProbeLine.{ProbeLine}
use Rattle.dkg_text.specs.declared.script.Script.{Script}
use Rattle.dkg_text.specs.declared.script.ScriptConfig.{ScriptConfig}
use Rattle.dkg_text.specs.declared.script.SyncLine.{SyncLine}
use Rattle.dkg_text.specs.Fields.{bytes_field, hex_text, number_field, word_field}

-- a line and its line feed
abbrev pub with_line_feed : List ℕ → List ℕ
with_line_feed line = line ++ 10 ∷ []

-- what there is of something that may be missing
abbrev pub text_or_none : {A : Type 0} → (A → List ℕ) → Option A → List ℕ
text_or_none text (Some x) = text x
text_or_none text None = []

abbrev pub numbers_fields : List ℕ → List ℕ
numbers_fields numbers = flat_map number_field numbers

-- THE CONFIGURATION

abbrev pub mode_number : Mode → ℕ
mode_number NonZeroCounter = 0
mode_number RootsOfUnity = 1

abbrev pub start_text : ScriptConfig → List ℕ
start_text config =
    with_line_feed (codes "dkg" ++ number_field 1)
    ++ (with_line_feed (codes "me" ++ number_field config.me) ++ with_line_feed (codes "blocks" ++ number_field (non_zero_u64_get config.blocks_per_epoch)))

abbrev pub limits_text : ScriptConfig → List ℕ
limits_text config =
    with_line_feed (codes "limit" ++ number_field (non_zero_u32_get config.limit))
    ++ (with_line_feed (codes "mode" ++ number_field (mode_number config.mode) ++ number_field config.max_mode.0) ++ with_line_feed (codes "space" ++ bytes_field config.namespace))

abbrev pub opening_text : ScriptConfig → List ℕ
opening_text config = start_text config ++ limits_text config

abbrev pub oneshot_line : List ℕ → List ℕ
oneshot_line participants = with_line_feed (codes "oneshot" ++ numbers_fields participants)

abbrev pub players_line : PlayerLine → List ℕ
players_line line = with_line_feed (codes "players" ++ number_field line.epoch ++ numbers_fields line.players)

abbrev pub socket_fields : Socket → List ℕ
socket_fields socket = number_field socket.ip ++ number_field socket.port

abbrev pub address_fields : Address → List ℕ
address_fields (Symmetric socket) = socket_fields socket
address_fields (Asymmetric ingress egress) = socket_fields ingress ++ socket_fields egress

abbrev pub address_line : ℕ × Address → List ℕ
address_line line = with_line_feed (codes "address" ++ number_field line.0 ++ address_fields line.1)

-- a dash for nothing
abbrev pub or_dash : {A : Type 0} → (A → List ℕ) → Option A → List ℕ
or_dash text (Some x) = text x
or_dash text None = codes "-"

abbrev pub number_or_dash : Option ℕ → List ℕ
number_or_dash n = word_field (or_dash decimal n)

abbrev pub bytes_or_dash : Option (List ℕ) → List ℕ
bytes_or_dash bytes = word_field (or_dash hex_text bytes)

abbrev pub probe_line : ProbeLine → List ℕ
probe_line p = with_line_feed (codes "probe" ++ (number_field p.checkpoint ++ (number_or_dash p.floor ++ (bytes_field p.checkpoint_info ++ bytes_field p.genesis_info))))

abbrev pub provided_text : ScriptConfig → List ℕ
provided_text config = flat_map players_line config.players ++ (flat_map address_line config.addresses ++ text_or_none probe_line config.probe)

abbrev pub config_text : ScriptConfig → List ℕ
config_text config = opening_text config ++ (text_or_none oneshot_line config.oneshot ++ provided_text config)

-- BLOCKS AND LIVES

abbrev pub block_line : BlockLine → List ℕ
block_line b = with_line_feed (codes "block" ++ (number_field b.height ++ (number_or_dash b.parent ++ (number_field b.view ++ bytes_or_dash b.payload))))

abbrev pub anchor_line : Anchor → List ℕ
anchor_line (Processed n) = with_line_feed (codes "processed" ++ number_field n)
anchor_line (Absent n) = with_line_feed (codes "absent" ++ number_field n)

abbrev pub held_line : List ℕ → List ℕ
held_line [] = []
held_line (n ∷ ns) = with_line_feed (codes "held" ++ numbers_fields (n ∷ ns))

abbrev pub sync_line : SyncLine → List ℕ
sync_line s = with_line_feed (codes "sync" ++ (bytes_field s.info ++ (number_field s.epoch ++ (number_field s.view ++ number_field s.block))))

-- an event's line without its line feed
abbrev pub event_text : Event → List ℕ
event_text (Peer from bytes) = codes "peer" ++ number_field from ++ bytes_field bytes
event_text (Final block) = codes "final" ++ number_field block
event_text (Next request height) = codes "next" ++ number_field request ++ number_field height
event_text (Release height) = codes "release" ++ number_field height
event_text (Info request) = codes "info" ++ number_field request
event_text (Feed request block) = codes "feed" ++ number_field request ++ number_field block
event_text (Over request) = codes "over" ++ number_field request
event_text (Cancel request) = codes "cancel" ++ number_field request
event_text Work = codes "work"
event_text (Prepare ancestry) = codes "prepare" ++ numbers_fields ancestry
event_text (Propose ancestry) = codes "propose" ++ numbers_fields ancestry
event_text (Verify ancestry) = codes "verify" ++ numbers_fields ancestry
event_text (Later from epoch) = codes "later" ++ number_field from ++ number_field epoch
event_text Subscribe = codes "subscribe"
event_text Unsubscribe = codes "unsubscribe"
event_text Attach = codes "attach"
event_text (Reply from bytes) = codes "reply" ++ number_field from ++ bytes_field bytes
event_text Retry = codes "retry"

abbrev pub event_line : Event → List ℕ
event_line event = with_line_feed (event_text event)

abbrev pub cut_line : Cut → List ℕ
cut_line c = with_line_feed (codes "cut" ++ (number_field c.step ++ (number_field c.call ++ number_field c.pick)))

abbrev pub life_text : Life → List ℕ
life_text life =
    with_line_feed (codes "life" ++ number_field life.word)
    ++ (text_or_none anchor_line life.anchor
    ++ (held_line life.held
    ++ (text_or_none sync_line life.sync
    ++ (flat_map event_line life.events ++ (text_or_none cut_line life.cut ++ with_line_feed (codes "stop" ++ number_field life.pick))))))

-- THE SCRIPT

abbrev pub text_of : Script → List ℕ
text_of script = config_text script.config ++ (flat_map block_line script.blocks ++ (flat_map life_text script.lives ++ with_line_feed (codes "end")))
