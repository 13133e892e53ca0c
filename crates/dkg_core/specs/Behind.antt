-- A node's opening and its steps are those of its reshare half, and what comes behind: the orchestrator's half, which touches no device and says nothing
-- of dealings.
use Rattle.std.specs.Prelude.{◌≡◌, ◌++◌, List, []}
use Rattle.std.specs.List.{AllByRecursion}
use Rattle.dkg_infos.specs.declared.entry.Entry.{Entry}
use Rattle.dkg_infos.specs.declared.fault.Fault.{Fault}
use Rattle.dkg_store.specs.Acts.{Held, World, Ended, went, stopped, broken}
use Rattle.dkg_core.specs.Courses.{Course, Say, Do, CallOutside, Ask, Goes, Stops, on_devices, EndsSo}
use Rattle.dkg_core.specs.Said.{Said}
use Rattle.dkg_core.specs.Fixed.{Fixed}
use Rattle.dkg_core.specs.Live.{Live, NodeStop, Faulted, Message, Mailed, Finalized, Event, Reshare, Delivers, with_orchestrator}
use Rattle.dkg_core.specs.Core.{opening, step}
use Rattle.dkg_core.specs.Node.{node_opening, node_step}
use Rattle.dkg_core.specs.Laws.{IsSilent}

-- A course that touches no device: it says such lines alone, and ends so, if it goes to its end.
abbrev pub OnlySays : {Dir F S : Type 0} → (line : Entry → Type 0) → (end : S → Type 0) → Course Dir F S → Type 0
OnlySays P Q (Say line course) = P line × OnlySays P Q course
OnlySays P Q (Do op course) = ⊥
OnlySays P Q (CallOutside outer course) = OnlySays P Q course
OnlySays P Q (Ask f) = (h : Held) → OnlySays P Q (f h)
OnlySays P Q (Goes end) = Q end
OnlySays P Q (Stops fault) = Unit {0}

-- The line is no dealing's and no acknowledgement's, and it neither opens, counts, cuts nor faults.
abbrev pub IsAside : Entry → Type 0
IsAside line = IsSilent {Dir = Unit {0}} [] line

-- the same life but for its orchestrator
abbrev pub IsSameBeside : {Dir : Type 0} → Live Dir → Live Dir → Type 0
IsSameBeside st end = end ≡ with_orchestrator end.orchestrator st

-- How the whole ended, by how the reshare half did.
abbrev pub EndsBehind : {Dir : Type 0} → Ended Fault (Live Dir) → Ended NodeStop (Live Dir) → Type 0
EndsBehind (went st) (went end) = IsSameBeside st end
EndsBehind (went st) ended = Unit {0}
EndsBehind (stopped fault) ended = ended ≡ stopped (Faulted fault)
EndsBehind (broken cause) ended = ended ≡ broken cause

-- P, unless it went to its end
abbrev pub IfEarly : {F S : Type 0} → Ended F S → Type 0 → Type 0
IfEarly (went end) P = Unit {0}
IfEarly (stopped fault) P = P
IfEarly (broken cause) P = P

-- A run of the reshare half's course, and lines behind it: none, unless it went to its end.
pub record RunsBehind {Dir : Type 0} (course : Course Dir Fault (Live Dir)) (ended : Ended NodeStop (Live Dir)) (w new : World) : Type 0 where
  pub half : Ended Fault (Live Dir)
  pub mid : World
  pub run : EndsSo course half w mid
  pub ends : EndsBehind half ended
  pub held : new.held ≡ mid.held
  pub fuse : new.fuse ≡ mid.fuse
  pub lines : List Entry
  pub out : new.out ≡ mid.out ++ lines
  pub aside : AllByRecursion IsAside lines
  pub silent : IfEarly half (lines ≡ [])

-- .. and its lines, whatever the devices tell
pub record SaidBehind {Dir : Type 0} (course : Course Dir Fault (Live Dir)) (ended : Ended NodeStop (Live Dir)) (old new : List Entry) : Type 0 where
  pub half : Ended Fault (Live Dir)
  pub mid : List Entry
  pub said : Said (on_devices course) half old mid
  pub ends : EndsBehind half ended
  pub lines : List Entry
  pub out : new ≡ mid ++ lines
  pub aside : AllByRecursion IsAside lines
  pub silent : IfEarly half (lines ≡ [])

-- what the reshare half takes, as an event of the node
abbrev pub event_of : {Dir : Type 0} → Message Dir → Event Dir
event_of (Mailed mail) = Reshare mail
event_of (Finalized b) = Delivers b

-- A NODE'S RUN is one of its reshare half, behind which no device is touched.
abbrev pub OpeningsRunBehind : Type 0 → Type 0
OpeningsRunBehind Dir = (c : Fixed Dir) (ended : Ended NodeStop (Live Dir)) (w new : World) → EndsSo (node_opening c) ended w new → RunsBehind (opening c) ended w new

abbrev pub StepsRunBehind : Type 0 → Type 0
StepsRunBehind Dir = (c : Fixed Dir) (st : Live Dir) (message : Message Dir) (ended : Ended NodeStop (Live Dir)) (w new : World)
    → EndsSo (node_step c (event_of message) st) ended w new → RunsBehind (step c message st) ended w new

-- SO ARE ITS LINES.
abbrev pub OpeningsSayBehind : Type 0 → Type 0
OpeningsSayBehind Dir = (c : Fixed Dir) (ended : Ended NodeStop (Live Dir)) (old new : List Entry)
    → Said (on_devices (node_opening c)) ended old new → SaidBehind (opening c) ended old new

abbrev pub StepsSayBehind : Type 0 → Type 0
StepsSayBehind Dir = (c : Fixed Dir) (st : Live Dir) (message : Message Dir) (ended : Ended NodeStop (Live Dir)) (old new : List Entry)
    → Said (on_devices (node_step c (event_of message) st)) ended old new → SaidBehind (step c message st) ended old new
