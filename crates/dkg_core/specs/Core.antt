-- The reshare actor: an opening and a step as courses, and the relations of both over plain data.
use Rattle.std.specs.Prelude.{false, List, [], ◌∷◌, map, Option, Some, None, ◌≡◌}
use Rattle.dkg_infos.specs.declared.entry.Entry.TheVariants.{Opened}
use Rattle.dkg_infos.specs.declared.fault.Fault.{Fault}
use Rattle.dkg_journal.specs.Operations.{Bars, Opens}
use Rattle.dkg_store.specs.Acts.{OnDisk, Held, World, Ended}
use Rattle.dkg_store.specs.Recorded.{restored_of}
use Rattle.dkg_core.specs.Courses.{Course, Say, Do, Goes, Deed, deeds_of, end_of, EndsSo}
use Rattle.dkg_core.specs.Seen.{Seen}
use Rattle.dkg_core.specs.Sources.{SourceAnswers}
use Rattle.dkg_core.specs.Fixed.{Fixed, OneShot, lending}
use Rattle.dkg_core.specs.Live.{Live, Participation, Inclusion, Orchestrator, Probe, Follows, Watches, Mail, Peer, NextLog, ReleaseLog, EpochInfoOf, Feed, Over, Cancel, Work, Message, Mailed, Finalized}
use Rattle.dkg_core.specs.Setup.{looks}
use Rattle.dkg_core.specs.Dealing.{hears_peer}
use Rattle.dkg_core.specs.Including.{serves_log, releases, asks_request, feeds_request, ends_request, cancels, works}
use Rattle.dkg_core.specs.Blocks.{delivers}
use Rattle.dkg_core.specs.Plans.{opens_resharing, stays_in_range}
use Rattle.dkg_core.specs.OneShots.{opens_once}

-- AN OPENING

abbrev pub no_participation : {Dir : Type 0} → Participation Dir
no_participation = record { epoch = 0; stage = Follows; round = None; dealer = None; seat = Watches; current = None }

abbrev pub no_inclusion : {Dir : Type 0} → Inclusion Dir
no_inclusion = record { served = None; queue = []; running = None; waiter = None; retained = None; cached = None; used = []; told = [] }

abbrev pub no_orchestrator : {Dir : Type 0} → Orchestrator Dir
no_orchestrator = record { fence = record { ready = None; closed = false; awaited = None }; schemes = []; entered = None; halted = false; waiting = None }

abbrev pub no_probe : {Dir : Type 0} → Probe Dir
no_probe = record { subscribers = 0; attached = false; serving = false; replies = []; chosen = None; awaited = None; known = None }

-- what a life begins with: what its devices give back
abbrev pub begun_life : {Dir : Type 0} → Seen → Live Dir
begun_life s = record {
  records = record { dealings = s.dealings; acks = s.acks; logs = s.logs };
  tip = None;
  participation = no_participation;
  inclusion = no_inclusion;
  orchestrator = no_orchestrator;
  probe = no_probe;
}

abbrev pub opens_in : {Dir : Type 0} → Fixed Dir → Option (OneShot Dir) → Live Dir → Course Dir Fault (Live Dir)
opens_in c (Some o) st = stays_in_range c (opens_once c o st)
opens_in c None st = opens_resharing c st

-- The barrier, the journal's opening, the line with what was restored, and then the start of its mode.
abbrev pub opening : {Dir : Type 0} → Fixed Dir → Course Dir Fault (Live Dir)
opening c =
    Do (OnDisk Bars) (Do (OnDisk (Opens c.opening_calls)) (looks c (λ s. Say (Opened c.life (map restored_of s.dealings)) (opens_in c c.oneshot (begun_life s)))))

-- A STEP

abbrev pub reads_mail : {Dir : Type 0} → Fixed Dir → Mail Dir → Live Dir → Course Dir Fault (Live Dir)
reads_mail c (Peer from bytes) st = hears_peer c from bytes st
reads_mail c (NextLog request height) st = serves_log c request height st
reads_mail c (ReleaseLog height) st = Goes (releases height st)
reads_mail c (EpochInfoOf request) st = asks_request c request st
reads_mail c (Feed request b) st = feeds_request c request b st
reads_mail c (Over request) st = ends_request c request st
reads_mail c (Cancel request) st = cancels c request st
reads_mail c (Work done) st = works c done st

abbrev pub step : {Dir : Type 0} → Fixed Dir → Message Dir → Live Dir → Course Dir Fault (Live Dir)
step c (Mailed mail) st = reads_mail c mail st
step c (Finalized b) st = delivers c b st

-- THE RELATIONS

-- what a step says and does, in its order
abbrev pub StepReply : Type 0 → Type 0
StepReply Dir = List (Deed Dir)

-- what is in memory, and what the devices hold
pub record State (Live : Type 0) : Type 0 where
  pub live : Live
  pub held : Held

pub record IsReplyOf {Dir F S : Type 0} (course : Course Dir F S) (held : Held) (reply : StepReply Dir) (new : State S) : Type 0 where
  pub deeds : reply ≡ deeds_of course held
  pub end : end_of course held ≡ Some (new.live, new.held)

-- AN OPENING: over these devices it gives this reply and this state.
abbrev pub CoreOpens : {Dir : Type 0} → Fixed Dir → Held → StepReply Dir → State (Live Dir) → Type 0
CoreOpens c held reply new = IsReplyOf (opening c) held reply new

-- A STEP: from this state this message gives this reply and that state.
abbrev pub Core : {Dir : Type 0} → Fixed Dir → State (Live Dir) → Message Dir → StepReply Dir → State (Live Dir) → Type 0
Core c old message reply new = IsReplyOf (step c message old.live) old.held reply new

-- a call as it was answered, and the source that it was lent
pub record Answered (Dir E : Type 0) : Type 0 where
  pub source : SourceAnswers Dir
  pub event : E
  pub reply : StepReply Dir

-- calls that were answered, one after another
abbrev pub Run : {Dir : Type 0} → Fixed Dir → State (Live Dir) → List (Answered Dir (Message Dir)) → State (Live Dir) → Type 0
Run c start [] end = end ≡ start
Run {Dir} c start (call ∷ calls) end = (mid : State (Live Dir)) × Core (lending call.source c) start call.event call.reply mid × Run c mid calls end

-- A LAST STEP, which stopped by a fault of its own, or was cut or broken off: from this state it left that world.
abbrev pub CoreEnds : {Dir : Type 0} → Fixed Dir → State (Live Dir) → Message Dir → Ended Fault (Live Dir) → (before now : World) → Type 0
CoreEnds c old message ended before now = (before.held ≡ old.held) × EndsSo (step c message old.live) ended before now

-- .. behind calls that were answered
abbrev pub RunEnds : {Dir : Type 0} → Fixed Dir → State (Live Dir) → List (Answered Dir (Message Dir)) → SourceAnswers Dir → Message Dir → Ended Fault (Live Dir) → (before now : World) → Type 0
RunEnds {Dir} c start calls source message ended before now =
    (mid : State (Live Dir)) × Run c start calls mid × CoreEnds (lending source c) mid message ended before now
