-- What may follow a line, by its name.
use Rattle.std.specs.Prelude.{ℕ, ◌&&◌, ◌||◌, not, Bool, true, false, List, Option, Some, None, codes}
use Rattle.dkg_words.specs.declared.before.Before.{Before}
use Rattle.dkg_words.specs.declared.names.Name.{Name}
use Rattle.dkg_words.specs.declared.names.Name.TheVariants as name
use Rattle.dkg_words.specs.declared.stages.Stage.{Stage}
use Rattle.dkg_words.specs.declared.stages.Stage.TheVariants as stage
use Rattle.dkg_words.specs.Names.{is_event_name, is_probing}

-- what may follow a line of a name, and what a script begins with
abbrev pub stage_after : Option Name → Stage
stage_after None = stage.Dkg
stage_after (Some name.Dkg) = stage.Me
stage_after (Some name.Me) = stage.Blocks
stage_after (Some name.Blocks) = stage.Limit
stage_after (Some name.Limit) = stage.Mode
stage_after (Some name.Mode) = stage.Space
stage_after (Some name.Space) = stage.Oneshot
stage_after (Some name.Oneshot) = stage.Players
stage_after (Some name.Players) = stage.Players
stage_after (Some name.Address) = stage.Address
stage_after (Some name.Probe) = stage.Block
stage_after (Some name.Block) = stage.Block
stage_after (Some name.Stop) = stage.Life
stage_after (Some name.End) = stage.Over
stage_after (Some name.Life) = stage.Anchor
stage_after (Some name.Processed) = stage.Held
stage_after (Some name.Absent) = stage.Held
stage_after (Some name.Held) = stage.Sync
stage_after (Some name.Cut) = stage.Stop
stage_after (Some _) = stage.Events

-- NAMES FROM ONE ON, in the order in which lines stand

abbrev pub from_block : Name → Bool
from_block name.Block = true
from_block name.Life = true
from_block name.End = true
from_block _ = false

abbrev pub from_address : Name → Bool
from_address name.Address = true
from_address name.Probe = true
from_address its = from_block its

abbrev pub from_players : Name → Bool
from_players name.Players = true
from_players its = from_address its

-- an event, which may need a `probe` line
abbrev pub is_ready_event : (probe : Bool) → Name → Bool
is_ready_event probe its = is_event_name its && (probe || not (is_probing its))

abbrev pub from_events : (probe : Bool) → Name → Bool
from_events probe name.Cut = true
from_events probe name.Stop = true
from_events probe its = is_ready_event probe its

-- a `sync` line stands in reshare mode alone
abbrev pub from_sync : Before → Name → Bool
from_sync before name.Sync = not before.oneshot
from_sync before its = from_events before.probe its

abbrev pub from_held : Before → Name → Bool
from_held before name.Held = true
from_held before its = from_sync before its

-- what stands first at a stage
abbrev pub begins_stage : Stage → Name → Bool
begins_stage stage.Dkg name.Dkg = true
begins_stage stage.Me name.Me = true
begins_stage stage.Blocks name.Blocks = true
begins_stage stage.Limit name.Limit = true
begins_stage stage.Mode name.Mode = true
begins_stage stage.Space name.Space = true
begins_stage stage.Oneshot name.Oneshot = true
begins_stage stage.Life name.Life = true
begins_stage stage.Life name.End = true
begins_stage stage.Anchor name.Processed = true
begins_stage stage.Anchor name.Absent = true
begins_stage stage.Stop name.Stop = true
begins_stage _ _ = false

abbrev pub allows_at : Stage → Before → Name → Bool
allows_at stage.Oneshot before its = begins_stage stage.Oneshot its || from_players its
allows_at stage.Players before its = from_players its
allows_at stage.Address before its = from_address its
allows_at stage.Block before its = from_block its
allows_at stage.Anchor before its = begins_stage stage.Anchor its || from_held before its
allows_at stage.Held before its = from_held before its
allows_at stage.Sync before its = from_sync before its
allows_at stage.Events before its = from_events before.probe its
allows_at its_stage before its = begins_stage its_stage its

-- whether a line of a name may follow the lines before it
abbrev pub allows : Before → Name → Bool
allows before its = allows_at (stage_after before.last) before its

-- HOW THEY ARE TOLD; events are one of them

abbrev pub stage_words : Stage → (oneshot : Bool) → List ℕ
stage_words stage.Dkg oneshot = codes "dkg 1"
stage_words stage.Me oneshot = codes "me"
stage_words stage.Blocks oneshot = codes "blocks"
stage_words stage.Limit oneshot = codes "limit"
stage_words stage.Mode oneshot = codes "mode"
stage_words stage.Space oneshot = codes "space"
stage_words stage.Oneshot oneshot = codes "oneshot, players, address, probe, block, life or end"
stage_words stage.Players oneshot = codes "players, address, probe, block, life or end"
stage_words stage.Address oneshot = codes "address, probe, block, life or end"
stage_words stage.Block oneshot = codes "block, life or end"
stage_words stage.Life oneshot = codes "life or end"
stage_words stage.Anchor false = codes "processed, absent, held, sync, peer, final, .., cut or stop"
stage_words stage.Anchor true = codes "processed, absent, held, peer, final, .., cut or stop"
stage_words stage.Held false = codes "held, sync, peer, final, .., cut or stop"
stage_words stage.Held true = codes "held, peer, final, .., cut or stop"
stage_words stage.Sync false = codes "sync, peer, final, .., cut or stop"
stage_words stage.Sync true = codes "peer, final, .., cut or stop"
stage_words stage.Events oneshot = codes "peer, final, .., cut or stop"
stage_words stage.Stop oneshot = codes "stop"
stage_words stage.Over oneshot = codes "nothing behind end"
