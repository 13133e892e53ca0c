-- The probe's half of a step: the floor that dealers' replies select, the block that begins its epoch, and serving both to others.
use Rattle.std.specs.Prelude.{ℕ, Bool, true, false, not, List, [], ◌∷◌, ◌++◌, ◌+◌, ◌-◌, ◌==◌, ◌&&◌, ◌||◌, nat_lt, length, map, Option, Some, None, is_some, is_none, option_map, option_and_then, Result, Ok, Err, if◌then◌else◌}
use Rattle.dkg_values.specs.Codec.{Reading, whole}
use Rattle.dkg_values.specs.Rising.{index_of, set_of}
use Rattle.dkg_values.specs.Uint.{uint}
use Rattle.dkg_values.specs.declared.codec.CodecError.{CodecError}
use Rattle.dkg_values.specs.declared.memory.NoMemory.{NoMemory as Want}
use Rattle.dkg_ceremony.specs.Schedule.{in_range, last}
use Rattle.dkg_types.specs.BlockCodes.{block_spelling, info_of}
use Rattle.dkg_types.specs.FinalizationCodes.{finalization_spelling}
use Rattle.dkg_types.specs.PayloadCodes.{payload_spelling, info_payload}
use Rattle.dkg_types.specs.Blocks.{Block}
use Rattle.dkg_infos.specs.declared.entry.BlockedWhy.{BlockedWhy}
use Rattle.dkg_infos.specs.declared.entry.BlockedWhy.TheVariants as why
use Rattle.dkg_infos.specs.declared.entry.Entry.{Entry}
use Rattle.dkg_infos.specs.declared.entry.Entry.TheVariants.{Blocked, Sent, Artifact}
use Rattle.dkg_types.specs.declared.finalization.Finalization.{Finalization}
use Rattle.dkg_infos.specs.declared.info.EpochInfo.{EpochInfo}
use Rattle.dkg_infos.specs.declared.participants.Participants.{Participants}
use Rattle.dkg_infos.specs.declared.participants.TrackedPeers.{TrackedPeers}
use Rattle.dkg_probe.specs.declared.artifact.Artifact.{Artifact as Known}
use Rattle.dkg_probe.specs.declared.artifact.Bootstrap.{Bootstrap}
use Rattle.dkg_probe.specs.declared.event.Event.{Event}
use Rattle.dkg_probe.specs.declared.event.Event.TheVariants.{Subscribe, Unsubscribe, Attach, Peer, Retry}
use Rattle.dkg_probe.specs.declared.event.ProbeStop.{ProbeStop}
use Rattle.dkg_probe.specs.declared.event.ProbeStop.TheVariants.{PeerSet, NoMemory, Failed}
use Rattle.dkg_probe.specs.declared.state.State.{State}
use Rattle.dkg_probe.specs.declared.state.Terms.{Terms}
use Rattle.dkg_probe.specs.declared.wire.Request.{Request}
use Rattle.dkg_probe.specs.declared.wire.Request.TheVariants as request
use Rattle.dkg_probe.specs.Acts.{ProbeActs, Say, Track, Goes, Stops, probe_bind, says_all, ProbeEnded, went, stopped, broken}
use Rattle.dkg_probe.specs.Candidates.{Awaiting, Candidate, is_candidate, new_awaiting, with_candidate, first_candidate, next_asked}
use Rattle.dkg_probe.specs.Sampling.{Sampled, new_sample, awaits, sample_recorded, selected, floor_of, sample_forgotten}
use Rattle.dkg_probe.specs.Sources.{ProbeSource}
use Rattle.dkg_probe.specs.Wire.{ProbeReply, BoundaryReply, BlockReply, LatestReply, with_commitment, request_of, reply_of}

-- What a probe never changes: its checkpoint, genesis, the number of blocks an epoch has, which finalizations are certified, how a directory is
-- spelled, and how a block is read.
pub record ProbeFixed (Dir : Type 0) : Type 0 where
  pub bootstrap : Bootstrap Dir
  pub genesis : EpochInfo Dir
  pub blocks_per_epoch : ℕ
  pub certifies : Finalization → Bool
  pub spelling : Dir → List ℕ
  pub read : List ℕ → Reading (Block Dir)

abbrev pub Probes : Type 0 → Type 0
Probes Dir = ProbeActs ℕ (State Dir)

-- nobody waits, no source is attached, and nothing is found
abbrev pub new_state : {Dir : Type 0} → (minimum : ℕ) → State Dir
new_state minimum = record { subscribers = 0; attached = false; serving = false; sample = new_sample minimum; awaited = None; known = None }

-- ---- what it sends

abbrev pub sends : {Dir : Type 0} → (to : Option ℕ) → List ℕ → Probes Dir → Probes Dir
sends to bytes acts = Say (Sent to bytes) acts

abbrev pub blocks_peer : {Dir : Type 0} → (peer : ℕ) → BlockedWhy → State Dir → Probes Dir
blocks_peer peer reason st = Say (Blocked peer reason) (Goes st)

abbrev pub latest_request : ℕ → Entry
latest_request dealer = Sent (Some dealer) (4 ∷ [])

abbrev pub with_sample : {Dir : Type 0} → Sampled → State Dir → State Dir
with_sample s st = record st { sample = s }

abbrev pub with_awaited : {Dir : Type 0} → Awaiting → State Dir → State Dir
with_awaited a st = record st { awaited = Some a }

-- The sample is reset, and each dealer is asked for its latest finalization.
abbrev pub asks_dealers : {Dir : Type 0} → ProbeFixed Dir → State Dir → Probes Dir
asks_dealers c st = says_all (map latest_request c.bootstrap.participants.dealers) (Goes (with_sample (sample_forgotten st.sample) st))

-- A candidate is asked for the block, or all are asked for its finalization.
abbrev pub request_entry : Option Candidate → (epoch : ℕ) → Entry
request_entry None epoch = Sent None (0 ∷ uint epoch)
request_entry (Some candidate) epoch = Sent (Some candidate.0) (2 ∷ uint epoch)

abbrev pub asks_peer_for : {Dir : Type 0} → Option Candidate → (epoch : ℕ) → State Dir → Probes Dir
asks_peer_for candidate epoch st = Say (request_entry candidate epoch) (Goes st)

-- The candidate that was asked is dropped, and the next one is asked.
abbrev pub asks_next : {Dir : Type 0} → Awaiting → State Dir → Probes Dir
asks_next a st = asks_peer_for (first_candidate a.others) a.floor.epoch (with_awaited (next_asked a) st)

-- ---- subscribers

-- The dealers are primary peers; the players and the next players are secondary.
abbrev pub tracked_of : Participants → TrackedPeers
tracked_of p = record { primary = p.dealers; secondary = set_of (p.players ++ p.next_players) }

-- The checkpoint is activated, which a directory that lacks one of its peers refuses, and its dealers are asked.
abbrev pub activates : {Dir : Type 0} → ProbeFixed Dir → (lack : Option ℕ) → State Dir → Probes Dir
activates c (Some peer) st = Stops peer
activates c None st = Track c.bootstrap.epoch (tracked_of c.bootstrap.participants) (asks_dealers c st)

abbrev pub one_more : {Dir : Type 0} → State Dir → State Dir
one_more st = record st { subscribers = st.subscribers + 1 }

-- nobody waits, and no floor is chosen
abbrev pub is_first : {Dir : Type 0} → State Dir → Bool
is_first st = (st.subscribers == 0) && is_none st.sample.chosen

abbrev pub is_done : {Dir : Type 0} → State Dir → Bool
is_done st = st.serving || is_some st.known

abbrev pub subscribes : {Dir : Type 0} → ProbeFixed Dir → (lack : Option ℕ) → State Dir → Probes Dir
subscribes c lack st = if is_done st then Goes st else if is_first st then activates c lack (one_more st) else Goes (one_more st)

abbrev pub retries_in : {Dir : Type 0} → ProbeFixed Dir → State Dir → Option Awaiting → Probes Dir
retries_in c st (Some a) = asks_next a st
retries_in c st None = if is_none st.sample.chosen then asks_dealers c st else Goes st

-- A retry works for a waiting subscriber alone.
abbrev pub retries : {Dir : Type 0} → ProbeFixed Dir → State Dir → Probes Dir
retries c st = if is_done st || (st.subscribers == 0) then Goes st else retries_in c st st.awaited

-- ---- discovery

-- What was looked for is known, and nobody waits.
abbrev pub with_known : {Dir : Type 0} → Known Dir → State Dir → State Dir
with_known known st = record st { subscribers = 0; awaited = None; known = Some known }

abbrev pub artifact_entry : {Dir : Type 0} → (Dir → List ℕ) → Known Dir → Entry
artifact_entry spelling known = Artifact (payload_spelling spelling (info_payload known.info)) (finalization_spelling known.floor)

abbrev pub resolves : {Dir : Type 0} → (Dir → List ℕ) → Known Dir → State Dir → Probes Dir
resolves spelling known st = Say (artifact_entry spelling known) (Goes (with_known known st))

abbrev pub of_genesis : {Dir : Type 0} → ProbeFixed Dir → Finalization → Known Dir
of_genesis c floor = record { finalization = None; info = c.genesis; floor = floor }

-- the height of the block that begins an epoch; none for epoch 0, and where no number of 64 bits is
abbrev pub begins_at : (blocks_per_epoch epoch : ℕ) → Option ℕ
begins_at n epoch = if epoch == 0 then None else in_range n (epoch - 1) (last n (epoch - 1))

abbrev pub awaits_block : {Dir : Type 0} → Finalization → State Dir → Option ℕ → Probes Dir
awaits_block floor st None = Goes (with_sample (sample_forgotten st.sample) st)
awaits_block floor st (Some height) = asks_peer_for None floor.epoch (with_awaited (new_awaiting height floor) st)

-- A floor of epoch 0 resolves with genesis; any other waits for the block that begins its epoch.
abbrev pub from_floor : {Dir : Type 0} → ProbeFixed Dir → State Dir → Option Finalization → Probes Dir
from_floor c st None = Goes st
from_floor c st (Some floor) = if floor.epoch == 0 then resolves c.spelling (of_genesis c floor) st else awaits_block floor st (begins_at c.blocks_per_epoch floor.epoch)

abbrev pub dealers_in : {Dir : Type 0} → ProbeFixed Dir → ℕ
dealers_in c = length c.bootstrap.participants.dealers

abbrev pub chooses : {Dir : Type 0} → ProbeFixed Dir → Sampled → State Dir → Probes Dir
chooses c s st = from_floor c (with_sample (selected s (dealers_in c)) st) (floor_of s (dealers_in c))

abbrev pub samples : {Dir : Type 0} → ProbeFixed Dir → (peer : ℕ) → Finalization → State Dir → Probes Dir
samples c peer f st = if st.subscribers == 0 then Goes (with_sample (sample_forgotten st.sample) st) else chooses c (sample_recorded st.sample peer f) st

abbrev pub is_dealer : {Dir : Type 0} → ProbeFixed Dir → (peer : ℕ) → Bool
is_dealer c peer = is_some (index_of peer c.bootstrap.participants.dealers)

-- A latest reply, by the first test that fails.
abbrev pub hears_latest : {Dir : Type 0} → ProbeFixed Dir → (peer : ℕ) → Finalization → State Dir → Probes Dir
hears_latest c peer f st =
    if not (awaits st.sample peer) then Goes st
    else if not (is_dealer c peer) then blocks_peer peer why.Member st
    else if nat_lt f.epoch st.sample.minimum then Goes st
    else if not (c.certifies f) then blocks_peer peer why.Invalid st
    else samples c peer f st

-- a new candidate, who is asked at once where nobody is
abbrev pub adds_candidate : {Dir : Type 0} → Awaiting → State Dir → Probes Dir
adds_candidate a st = if is_none a.asked then asks_next a st else Goes (with_awaited a st)

-- A finalization of the block, by the first test that fails.
abbrev pub hears_boundary : {Dir : Type 0} → ProbeFixed Dir → Awaiting → (peer : ℕ) → Finalization → State Dir → Probes Dir
hears_boundary c a peer f st =
    if nat_lt f.epoch (a.floor.epoch - 1) then Goes st
    else if nat_lt (a.floor.epoch - 1) f.epoch then blocks_peer peer why.Boundary st
    else if is_candidate a peer then Goes st
    else if not (c.certifies f) then blocks_peer peer why.Boundary st
    else adds_candidate (with_candidate a (peer, f)) st

abbrev pub info_for : {Dir : Type 0} → (epoch : ℕ) → Option (EpochInfo Dir) → Option (EpochInfo Dir)
info_for epoch None = None
info_for epoch (Some info) = if info.epoch == epoch then Some info else None

abbrev pub info_at_height : {Dir : Type 0} → (height epoch : ℕ) → Result (Block Dir) CodecError → Option (EpochInfo Dir)
info_at_height height epoch (Err e) = None
info_at_height height epoch (Ok b) = if b.height == height then info_for epoch (info_of b.payload) else None

-- the info of the floor's epoch, in the bytes of the block that begins it
abbrev pub found_in : {Dir : Type 0} → ProbeFixed Dir → (height epoch : ℕ) → (commitment : List ℕ) → List ℕ → Option (EpochInfo Dir)
found_in c height epoch commitment body = info_at_height height epoch (with_commitment commitment (whole (c.read body)))

-- its block isn't the one
abbrev pub refuses : {Dir : Type 0} → Awaiting → (peer : ℕ) → State Dir → Probes Dir
refuses a peer st = Say (Blocked peer why.Block) (asks_next a st)

abbrev pub from_body : {Dir : Type 0} → ProbeFixed Dir → Awaiting → Candidate → State Dir → Option (EpochInfo Dir) → Probes Dir
from_body c a asked st None = refuses a asked.0 st
from_body c a asked st (Some info) = resolves c.spelling (record { finalization = Some asked.1; info = info; floor = a.floor }) st

abbrev pub hears_body : {Dir : Type 0} → ProbeFixed Dir → Awaiting → Candidate → (body : List ℕ) → State Dir → Probes Dir
hears_body c a asked body st = from_body c a asked st (found_in c a.height a.floor.epoch asked.1.payload body)

-- A block of another peer or epoch than asked is ignored.
abbrev pub hears_block : {Dir : Type 0} → ProbeFixed Dir → Awaiting → Option Candidate → (peer epoch : ℕ) → List ℕ → State Dir → Probes Dir
hears_block c a None peer epoch body st = Goes st
hears_block c a (Some asked) peer epoch body st = if (asked.0 == peer) && (epoch == a.floor.epoch) then hears_body c a asked body st else Goes st

abbrev pub hears_in : {Dir : Type 0} → ProbeFixed Dir → Option Awaiting → (peer : ℕ) → ProbeReply → State Dir → Probes Dir
hears_in c awaited peer (LatestReply f) st = hears_latest c peer f st
hears_in c None peer (BoundaryReply f) st = Goes st
hears_in c None peer (BlockReply epoch body) st = Goes st
hears_in c (Some a) peer (BoundaryReply f) st = hears_boundary c a peer f st
hears_in c (Some a) peer (BlockReply epoch body) st = hears_block c a a.asked peer epoch body st

abbrev pub discovers : {Dir : Type 0} → ProbeFixed Dir → (peer : ℕ) → Result (Option ProbeReply) CodecError → State Dir → Probes Dir
discovers c peer (Err e) st = blocks_peer peer why.Reply st
discovers c peer (Ok None) st = Goes st
discovers c peer (Ok (Some reply)) st = hears_in c st.awaited peer reply st

-- ---- serving

-- what is held for a request, as a response
abbrev pub response_to : {Dir : Type 0} → ProbeFixed Dir → ProbeSource Dir → Request → Option (List ℕ)
response_to c source request.Latest = option_map (λ f. 5 ∷ finalization_spelling f) source.latest
response_to c source (request.Boundary epoch) = option_map (λ f. 1 ∷ finalization_spelling f) (option_and_then source.finalization (begins_at c.blocks_per_epoch epoch))
response_to c source (request.Block epoch) = option_map (λ b. 3 ∷ (uint epoch ++ block_spelling c.spelling b)) (option_and_then source.block (begins_at c.blocks_per_epoch epoch))

abbrev pub answers_peer : {Dir : Type 0} → (peer : ℕ) → Option (List ℕ) → State Dir → Probes Dir
answers_peer peer None st = Goes st
answers_peer peer (Some bytes) st = sends (Some peer) bytes (Goes st)

abbrev pub serves : {Dir : Type 0} → ProbeFixed Dir → ProbeSource Dir → (peer : ℕ) → Result (Option Request) CodecError → State Dir → Probes Dir
serves c source peer (Err e) st = blocks_peer peer why.Reply st
serves c source peer (Ok None) st = Goes st
serves c source peer (Ok (Some request)) st = answers_peer peer (response_to c source request) st

-- ---- a step

abbrev pub hears : {Dir : Type 0} → ProbeFixed Dir → ProbeSource Dir → (peer : ℕ) → List ℕ → State Dir → Probes Dir
hears c source peer bytes st = if st.serving then serves c source peer (request_of bytes) st else discovers c peer (reply_of bytes) st

abbrev pub takes : {Dir : Type 0} → ProbeFixed Dir → (lack : Option ℕ) → ProbeSource Dir → Event → State Dir → Probes Dir
takes c lack source Subscribe st = subscribes c lack st
takes c lack source Unsubscribe st = Goes (record st { subscribers = st.subscribers - 1 })
takes c lack source Attach st = Goes (record st { attached = true })
takes c lack source (Peer from bytes) st = hears c source from bytes st
takes c lack source Retry st = retries c st

-- With a source attached and nobody waiting it serves from then on.
abbrev pub then_serves : {Dir : Type 0} → State Dir → State Dir
then_serves st = record st { serving = st.serving || (st.attached && (st.subscribers == 0)) }

-- A step. `lack` is the first peer that the directory lacks, should the checkpoint be activated.
abbrev pub steps : {Dir : Type 0} → ProbeFixed Dir → (lack : Option ℕ) → ProbeSource Dir → Event → State Dir → Probes Dir
steps c lack source event st = probe_bind (takes c lack source event st) (λ st. Goes (then_serves st))

-- ---- what calls answer

-- how a call ended, and the state that it left
abbrev pub ended_in : {Dir : Type 0} → State Dir → Result (Unit {0}) Want → ProbeEnded ℕ (State Dir)
ended_in new (Ok u) = went new
ended_in new (Err e) = broken

abbrev pub probe_ended_by : {Dir : Type 0} → State Dir → Result (Unit {0}) ProbeStop → ProbeEnded ℕ (State Dir)
probe_ended_by new (Ok u) = went new
probe_ended_by new (Err (PeerSet peer)) = stopped peer.0
probe_ended_by new (Err NoMemory) = broken
probe_ended_by new (Err Failed) = broken

-- a probe's terms, as acts see them
abbrev pub fixed : {S Cfg Dir : Type 0} → (S → Finalization → Bool) → (Dir → List ℕ) → (Cfg → List ℕ → Reading (Block Dir)) → Cfg → Terms S Dir → ProbeFixed Dir
fixed verifies spelling read limits t = record {
  bootstrap = t.bootstrap;
  genesis = t.genesis;
  blocks_per_epoch = t.epocher;
  certifies = verifies t.verifier;
  spelling = spelling;
  read = read limits;
}
