-- What a node has in memory while it lives, by half, and the events that it takes.
use Rattle.std.specs.Prelude.{ℕ, Bool, List, ◌∷◌, ◌+◌, ◌^◌, ◌==◌, ◌&&◌, nat_lt, Option, Some, filter, map}
use Rattle.std.specs.Option.{option_map_or}
use Rattle.std.specs.FinMap.{find as found_at}
use Rattle.dkg_ceremony.specs.declared.signed_log.SignedDealerLog.{SignedDealerLog}
use Rattle.dkg_ceremony.specs.declared.output.Output.{Output}
use Rattle.dkg_ceremony.specs.declared.round.RoundParts.{RoundParts as Round}
use Rattle.dkg_ceremony.specs.declared.phase.Phase.{Phase}
use Rattle.dkg_ceremony.specs.Finishes.{DealingMap}
use Rattle.dkg_ceremony.specs.Outcomes.{LogMap}
use Rattle.dkg_ceremony.specs.Schedule.{epoch_of, midpoint, last, phase_at}
use Rattle.dkg_types.specs.Blocks.{Block}
use Rattle.dkg_infos.specs.declared.entry.Why.{Why}
use Rattle.dkg_infos.specs.declared.fault.Fault.{Fault}
use Rattle.dkg_types.specs.declared.finalization.Finalization.{Finalization}
use Rattle.dkg_infos.specs.declared.info.EpochInfo.{EpochInfo}
use Rattle.dkg_types.specs.declared.payload.Payload.{Payload}
use Rattle.dkg_types.specs.declared.scheme.SchemeInfo.{SchemeInfo}
use Rattle.dkg_fence.specs.Readiness.{Readiness}
use Rattle.dkg_secrets.specs.Keys.{key_cmp}
use Rattle.dkg_store.specs.Recorded.{Pair}
use Rattle.dkg_store.specs.declared.recorded_log.RecordedLog.{RecordedLog}
use Rattle.dkg_core.specs.Courses.{Floor}
use Rattle.dkg_core.specs.Fixed.{Fixed}
use Rattle.dkg_core.specs.Sources.{Tip}

-- WHAT IS RECORDED

-- by epoch and key, rising: dealings (the promise's `recorded`), acknowledgements for this node's dealings, and dealers' logs with the heights
-- of their blocks
pub record Records : Type 0 where
  pub dealings : List Pair
  pub acks : List ((ℕ × ℕ) × List ℕ)
  pub logs : List ((ℕ × ℕ) × RecordedLog)

-- PARTICIPATION

-- This node's own dealing in the awaited epoch, the acknowledgements that count in this life, and its signed log while that is offered.
pub record Dealer : Type 0 where
  pub public : List ℕ
  pub privates : List (ℕ × ℕ)
  pub acks : List (ℕ × List ℕ)
  pub log : Option SignedDealerLog

-- which events an epoch's participation reads
pub data Stage : Type 0 where
  Deals : Stage
  Includes : Stage
  Follows : Stage
  Ends : Stage

-- whether this node has a player in the round
pub data Seat : Type 0 where
  Plays : Seat
  Watches : Seat

-- The awaited epoch, as its setup left it: without a round this node only follows.
pub record Participation (Dir : Type 0) : Type 0 where
  pub epoch : ℕ
  pub stage : Stage
  pub round : Option Round
  pub dealer : Option Dealer
  pub seat : Seat
  -- the info that was committed last in this life
  pub current : Option (EpochInfo Dir)

-- INCLUSION

-- a final-block request and the ancestry that it was fed
pub record Request (Dir : Type 0) : Type 0 where
  pub number : ℕ
  pub blocks : List (Block Dir)
  pub ended : Bool

-- this node as a player of a round: its key, and the dealings that are recorded for it
pub record Dealings : Type 0 where
  pub me : ℕ
  pub dealings : DealingMap

-- What is verified: the logs of a round, by a player or by none.
pub record Job : Type 0 where
  pub round : Round
  pub player : Option Dealings
  pub logs : LogMap

pub record Verified : Type 0 where
  pub output : Output
  pub share : Option ℕ

-- What a verification gave for its logs. The share is the verifier's: it fits the output, and needn't follow from the logs.
pub record VerifiedLogs : Type 0 where
  pub round : Round
  pub me : Option ℕ
  pub logs : LogMap
  pub result : Option Verified

-- the info that follows by some logs, and this node's share of it
pub record Artifact (Dir : Type 0) : Type 0 where
  pub info : Option (EpochInfo Dir)
  pub share : Option ℕ

-- an artifact, and the logs that it is of
pub record Cached (Dir : Type 0) : Type 0 where
  pub logs : LogMap
  pub artifact : Artifact Dir

-- what a request was answered
pub data RequestAnswer (Dir : Type 0) : Type 0 where
  GaveLog : Option (Payload Dir) → RequestAnswer Dir
  GaveInfo : Option (Payload Dir) → RequestAnswer Dir
  GaveNone : Why → RequestAnswer Dir

-- served: the height for which the own log counts as served. queue: the first request is read while no verification runs.
-- waiter: the request that the running verification answers.
pub record Inclusion (Dir : Type 0) : Type 0 where
  pub served : Option ℕ
  pub queue : List (Request Dir)
  pub running : Option Job
  pub waiter : Option ℕ
  pub retained : Option VerifiedLogs
  pub cached : Option (Cached Dir)
  -- the request numbers of the life, and the answers that requests were told, the newest first
  pub used : List ℕ
  pub told : List (ℕ × RequestAnswer Dir)

-- THE ORCHESTRATOR

-- an epoch that the fence isn't ready for, and the height of the last block that is acknowledged once it is entered
pub record Waiting (Dir : Type 0) : Type 0 where
  pub epoch : ℕ
  pub info : EpochInfo Dir
  pub floor : Floor
  pub block : Option ℕ

-- fence: what it knows. schemes: what the registrar was given by epoch, the newest first.
pub record Orchestrator (Dir : Type 0) : Type 0 where
  pub fence : Readiness
  pub schemes : List (ℕ × SchemeInfo)
  pub entered : Option ℕ
  pub halted : Bool
  pub waiting : Option (Waiting Dir)

-- THE PROBE

-- a floor that waits for its block, the candidate that was asked, and the others in the order of their arrival
pub record Awaited : Type 0 where
  pub height : ℕ
  pub floor : Finalization
  pub asked : Option (ℕ × Finalization)
  pub candidates : List (ℕ × Finalization)

-- What was looked for: the info of a floor's epoch, and the finalization of the block that carries it (none of genesis's).
pub record Discovered (Dir : Type 0) : Type 0 where
  pub finalization : Option Finalization
  pub info : EpochInfo Dir
  pub floor : Finalization

pub record Probe (Dir : Type 0) : Type 0 where
  pub subscribers : ℕ
  pub attached : Bool
  pub serving : Bool
  -- dealers' latest finalizations, by dealer, and the one that was chosen
  pub replies : List (ℕ × Finalization)
  pub chosen : Option Finalization
  pub awaited : Option Awaited
  pub known : Option (Discovered Dir)

-- ALL OF IT

pub record Live (Dir : Type 0) : Type 0 where
  pub records : Records
  pub tip : Option Tip
  pub participation : Participation Dir
  pub inclusion : Inclusion Dir
  pub orchestrator : Orchestrator Dir
  pub probe : Probe Dir

-- WHY A STEP STOPS

-- by a fault, or where entering an epoch or asking for its snapshot finds no scheme or a peer without an address
pub data NodeStop : Type 0 where
  Faulted : Fault → NodeStop
  MissingScheme : (epoch : ℕ) → NodeStop
  PeerSet : (peer : ℕ) → NodeStop

-- EVENTS

-- what the reshare actor is sent
pub data Mail (Dir : Type 0) : Type 0 where
  Peer : (from : ℕ) → List ℕ → Mail Dir
  NextLog : (request height : ℕ) → Mail Dir
  ReleaseLog : (height : ℕ) → Mail Dir
  EpochInfoOf : (request : ℕ) → Mail Dir
  Feed : (request : ℕ) → Block Dir → Mail Dir
  Over : (request : ℕ) → Mail Dir
  Cancel : (request : ℕ) → Mail Dir
  -- a result may be handed in
  Work : Option VerifiedLogs → Mail Dir

-- .. and what it takes besides: finalized blocks
pub data Message (Dir : Type 0) : Type 0 where
  Mailed : Mail Dir → Message Dir
  Finalized : Block Dir → Message Dir

-- What a node takes. A finalized block goes to both halves. The ancestries come from the parent (or the tip) down.
pub data Event (Dir : Type 0) : Type 0 where
  Delivers : Block Dir → Event Dir
  Reshare : Mail Dir → Event Dir
  Later : (from epoch : ℕ) → Event Dir
  Prepare : List (Block Dir) → Event Dir
  Propose : List (Block Dir) → Event Dir
  Verify : List (Block Dir) → Event Dir
  Subscribe : Event Dir
  Unsubscribe : Event Dir
  Attach : Event Dir
  PeerReply : (from : ℕ) → List ℕ → Event Dir
  Retry : Event Dir

-- WORDS

abbrev pub awaited_height : {Dir : Type 0} → Live Dir → ℕ
awaited_height st = option_map_or (λ t. t.height + 1) st.tip 0

abbrev pub phase_of : {Dir : Type 0} → Fixed Dir → ℕ → Phase
phase_of c height = phase_at (midpoint c.blocks_per_epoch (epoch_of c.blocks_per_epoch height)) height

abbrev pub is_last_height : {Dir : Type 0} → Fixed Dir → ℕ → Bool
is_last_height c height = height == last c.blocks_per_epoch (epoch_of c.blocks_per_epoch height)

-- the same life with another part
abbrev pub with_tip : {Dir : Type 0} → Block Dir → Live Dir → Live Dir
with_tip b st = record st { tip = Some (record { height = b.height; digest = b.digest }) }

abbrev pub with_participation : {Dir : Type 0} → Participation Dir → Live Dir → Live Dir
with_participation p st = record st { participation = p }

abbrev pub with_inclusion : {Dir : Type 0} → Inclusion Dir → Live Dir → Live Dir
with_inclusion i st = record st { inclusion = i }

abbrev pub with_orchestrator : {Dir : Type 0} → Orchestrator Dir → Live Dir → Live Dir
with_orchestrator o st = record st { orchestrator = o }

abbrev pub with_queue : {Dir : Type 0} → List (Request Dir) → Live Dir → Live Dir
with_queue queue st = with_inclusion (record st.inclusion { queue = queue }) st

abbrev pub with_used : {Dir : Type 0} → (number : ℕ) → Live Dir → Live Dir
with_used number st = with_inclusion (record st.inclusion { used = number ∷ st.inclusion.used }) st

abbrev pub with_told : {Dir : Type 0} → (number : ℕ) → RequestAnswer Dir → Live Dir → Live Dir
with_told number told st = with_inclusion (record st.inclusion { told = (number, told) ∷ st.inclusion.told }) st

-- what is recorded at an epoch and a key
abbrev pub recorded_at : {V : Type 0} → List ((ℕ × ℕ) × V) → (epoch key : ℕ) → Option V
recorded_at records epoch key = found_at key_cmp (epoch, key) records

-- what is recorded of an epoch, by key
abbrev pub records_of_epoch : {V : Type 0} → (epoch : ℕ) → List ((ℕ × ℕ) × V) → List (ℕ × V)
records_of_epoch epoch records = map (λ r. (r.0.1, r.1)) (filter (λ r. (r.0.0 == epoch) && nat_lt r.0.1 (2 ^ 32)) records)
