-- The names of lines.
use Rattle.std.specs.Prelude.{ℕ, Bool, true, false, if◌then◌else◌, List, Option, Some, None, codes}
use Rattle.std.specs.Str.{bytes_eq}
use Rattle.dkg_words.specs.declared.names.Name.{Name}
use Rattle.dkg_words.specs.declared.names.Name.TheVariants.{Dkg, Me, Blocks, Limit, Mode, Space, Oneshot, Players, Address, Probe, Block, Life, End, Processed, Absent, Held, Sync, Cut, Stop, Peer, Final, Next, Release, Info, Feed, Over, Cancel, Work, Prepare, Propose, Verify, Later, Subscribe, Unsubscribe, Attach, Reply, Retry}

-- of a line outside lives
unfoldable pub head_by : (word : List ℕ) → Option Name
head_by word =
    if bytes_eq word (codes "dkg") then Some Dkg
    else (if bytes_eq word (codes "me") then Some Me
    else (if bytes_eq word (codes "blocks") then Some Blocks
    else (if bytes_eq word (codes "limit") then Some Limit
    else (if bytes_eq word (codes "mode") then Some Mode
    else (if bytes_eq word (codes "space") then Some Space
    else (if bytes_eq word (codes "oneshot") then Some Oneshot
    else (if bytes_eq word (codes "players") then Some Players
    else (if bytes_eq word (codes "address") then Some Address
    else (if bytes_eq word (codes "probe") then Some Probe
    else (if bytes_eq word (codes "block") then Some Block
    else (if bytes_eq word (codes "life") then Some Life
    else (if bytes_eq word (codes "end") then Some End
    else None))))))))))))

-- of a line of a life that is no event
unfoldable pub life_by : (word : List ℕ) → Option Name
life_by word =
    if bytes_eq word (codes "processed") then Some Processed
    else (if bytes_eq word (codes "absent") then Some Absent
    else (if bytes_eq word (codes "held") then Some Held
    else (if bytes_eq word (codes "sync") then Some Sync
    else (if bytes_eq word (codes "cut") then Some Cut
    else (if bytes_eq word (codes "stop") then Some Stop
    else None)))))

-- of an event
unfoldable pub event_by : (word : List ℕ) → Option Name
event_by word =
    if bytes_eq word (codes "peer") then Some Peer
    else (if bytes_eq word (codes "final") then Some Final
    else (if bytes_eq word (codes "next") then Some Next
    else (if bytes_eq word (codes "release") then Some Release
    else (if bytes_eq word (codes "info") then Some Info
    else (if bytes_eq word (codes "feed") then Some Feed
    else (if bytes_eq word (codes "over") then Some Over
    else (if bytes_eq word (codes "cancel") then Some Cancel
    else (if bytes_eq word (codes "work") then Some Work
    else (if bytes_eq word (codes "prepare") then Some Prepare
    else (if bytes_eq word (codes "propose") then Some Propose
    else (if bytes_eq word (codes "verify") then Some Verify
    else (if bytes_eq word (codes "later") then Some Later
    else (if bytes_eq word (codes "subscribe") then Some Subscribe
    else (if bytes_eq word (codes "unsubscribe") then Some Unsubscribe
    else (if bytes_eq word (codes "attach") then Some Attach
    else (if bytes_eq word (codes "reply") then Some Reply
    else (if bytes_eq word (codes "retry") then Some Retry
    else None)))))))))))))))))

abbrev pub either_name : Option Name → Option Name → Option Name
either_name (Some name) other = Some name
either_name None other = other

-- the name that a word is
abbrev pub name_by : (word : List ℕ) → Option Name
name_by word = either_name (head_by word) (either_name (life_by word) (event_by word))

-- whether a name is an event's that needs a `probe` line
abbrev pub is_probing : Name → Bool
is_probing Subscribe = true
is_probing Unsubscribe = true
is_probing Attach = true
is_probing Reply = true
is_probing Retry = true
is_probing _ = false

-- whether a name is an event's
abbrev pub is_event_name : Name → Bool
is_event_name Peer = true
is_event_name Final = true
is_event_name Next = true
is_event_name Release = true
is_event_name Info = true
is_event_name Feed = true
is_event_name Over = true
is_event_name Cancel = true
is_event_name Work = true
is_event_name Prepare = true
is_event_name Propose = true
is_event_name Verify = true
is_event_name Later = true
is_event_name name = is_probing name
