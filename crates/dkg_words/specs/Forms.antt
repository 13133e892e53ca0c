-- The form of a line, with its ranges as they hold after the lines before it.
use Rattle.std.specs.Prelude.{ℕ, List, [], ◌++◌, Option, Some, None, codes, decimal}
use Rattle.dkg_words.specs.declared.before.Before.{Before}
use Rattle.dkg_words.specs.declared.names.Name.{Name}
use Rattle.dkg_words.specs.declared.names.Name.TheVariants.{Dkg, Me, Blocks, Limit, Mode, Space, Oneshot, Players, Address, Probe, Block, Life, End, Processed, Absent, Held, Sync, Cut, Stop, Peer, Final, Next, Release, Info, Feed, Over, Cancel, Work, Prepare, Propose, Verify, Later, Subscribe, Unsubscribe, Attach, Reply, Retry}

-- what stands before a line's range
abbrev pub form_front : Name → List ℕ
form_front Dkg = codes "dkg 1"
form_front Me = codes "me K, a number below 2^32 without leading zeros"
form_front Blocks = codes "blocks N, a number from 1 without leading zeros"
form_front Limit = codes "limit M, a number from 1 to 1073741824"
form_front Mode = codes "mode A B, each 0 or 1"
form_front Space = codes "space HEX, pairs of lower-case digits, or -"
form_front Oneshot = codes "oneshot K .., rising numbers below 2^32"
form_front Players = codes "players E K .., with rising keys"
form_front Address = codes "address K IP PORT, or address K IP PORT IP PORT"
form_front Probe = codes "probe E F PAY PAY, with two infos, and F a number or -"
form_front Block = codes "block H P V PAY, with P"
form_front Life = codes "life W, a number below 2^64"
form_front End = codes "end alone"
form_front Processed = codes "processed I, a block line's number"
form_front Absent = codes "absent I, a block line's number"
form_front Held = codes "held I .., rising numbers"
form_front Sync = codes "sync PAY E V I, with an info, and I"
form_front Cut = codes "cut J C P, with J"
form_front Stop = codes "stop P, a number below 2^64"
form_front Peer = codes "peer K HEX, a number below 2^32 and pairs of lower-case digits, or -"
form_front Final = codes "final I, a block line's number"
form_front Next = codes "next R H, two numbers"
form_front Release = codes "release H, a number"
form_front Info = codes "info R, a number that no next or info of this life has"
form_front Feed = codes "feed R I, with I a block line's number"
form_front Over = codes "over R, a number"
form_front Cancel = codes "cancel R, a number"
form_front Work = codes "work alone"
form_front Prepare = codes "prepare I .., block lines' numbers"
form_front Propose = codes "propose I .., block lines' numbers"
form_front Verify = codes "verify I .., block lines' numbers"
form_front Later = codes "later K E, with K below 2^32"
form_front Subscribe = codes "subscribe alone"
form_front Unsubscribe = codes "unsubscribe alone"
form_front Attach = codes "attach alone"
form_front Reply = codes "reply K HEX, a number below 2^32 and pairs of lower-case digits, or -"
form_front Retry = codes "retry alone"

-- what stands between that and the range's number
abbrev pub form_link : Name → List ℕ
form_link Players = codes " and E above "
form_link Address = codes ", with K above "
form_link Cut = codes " at most "
form_link _ = codes " below "

-- what stands behind a line's range
abbrev pub form_back : Name → List ℕ
form_back Block = codes " or -"
form_back Absent = codes " whose height isn't 0"
form_back Final = codes " (I is no height)"
form_back Cut = codes ", the number of events"
form_back _ = []

-- the number behind the last line's name, where that line has this name
abbrev pub above_last : Option Name → (least_above : ℕ) → Name → Option ℕ
above_last (Some Players) least_above Players = Some least_above
above_last (Some Address) least_above Address = Some least_above
above_last _ least_above _ = None

abbrev pub least_above : Before → Name → Option ℕ
least_above before name = above_last before.last before.above name

-- the number of a line's range, where it has one
abbrev pub range : Before → Name → Option ℕ
range before Block = Some before.blocks
range before Processed = Some before.blocks
range before Absent = Some before.blocks
range before Held = Some before.blocks
range before Sync = Some before.blocks
range before Final = Some before.blocks
range before Feed = Some before.blocks
range before Prepare = Some before.blocks
range before Propose = Some before.blocks
range before Verify = Some before.blocks
range before Cut = Some before.events
range before name = least_above before name

abbrev pub range_text : Name → Option ℕ → List ℕ
range_text name (Some number) = form_link name ++ decimal number
range_text name None = []

-- the form of a line of a name
abbrev pub form : Before → Name → List ℕ
form before name = form_front name ++ range_text name (range before name) ++ form_back name

-- the form of a block's payload
abbrev pub payload_form : Before → List ℕ
payload_form before = codes "a payload: an info or a signed log, within the limit " ++ decimal before.limit ++ codes " and mode " ++ decimal before.version
