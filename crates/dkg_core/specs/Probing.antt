-- The probe: its own step (dkg_probe's), joined to the node's. It has its part of what the node is given, and of the node's life.
use Rattle.std.specs.Prelude.{ℕ, max, Option, Some, None, option_map}
use Rattle.std.specs.Option.{option_map_or}
use Rattle.dkg_types.specs.BlockCodes.{block_at}
use Rattle.dkg_types.specs.PayloadCodes.{payload_at}
use Rattle.dkg_probe.specs.declared.artifact.Artifact.{Artifact as Known}
use Rattle.dkg_probe.specs.declared.event.Event.{Event as ProbeEvent}
use Rattle.dkg_probe.specs.declared.event.Event.TheVariants as event_of
use Rattle.dkg_probe.specs.declared.state.State.{State}
use Rattle.dkg_probe.specs.Candidates.{Awaiting}
use Rattle.dkg_probe.specs.Probing as of_probe
use Rattle.dkg_probe.specs.Probing.{Probes, steps, tracked_of}
use Rattle.dkg_probe.specs.Sources as lent
use Rattle.dkg_core.specs.Courses.{Course, Goes}
use Rattle.dkg_core.specs.Fixed.{Fixed, Snapshot}
use Rattle.dkg_core.specs.Joining.{joined_course}
use Rattle.dkg_core.specs.Live.{Live, Probe, Awaited, Discovered, NodeStop, PeerSet, Event, Subscribe, Unsubscribe, Attach, PeerReply, Retry}
use Rattle.dkg_core.specs.Sources.{SourceAnswers}

-- WHAT IT IS GIVEN

abbrev pub given : {Dir : Type 0} → Fixed Dir → Snapshot Dir → of_probe.ProbeFixed Dir
given c s = record {
  bootstrap = record { epoch = s.epoch; participants = s.participants; directory = s.directory };
  genesis = s.genesis;
  blocks_per_epoch = c.blocks_per_epoch;
  certifies = c.probed.certifies;
  spelling = c.directories.spelling;
  read = block_at c.directories.spelling (payload_at c.directories.read c.directories.matches c.limit c.version);
}

-- the first peer of the checkpoint that its directory lacks
abbrev pub lack_in : {Dir : Type 0} → Fixed Dir → Snapshot Dir → Option ℕ
lack_in c s = c.directories.lacking s.directory (tracked_of s.participants)

abbrev pub served_from : {Dir : Type 0} → SourceAnswers Dir → lent.ProbeSource Dir
served_from source = record { block = source.block; finalization = source.finalization; latest = source.latest }

-- the least epoch of a reply that counts
abbrev pub least_epoch : {Dir : Type 0} → Snapshot Dir → ℕ
least_epoch s = option_map_or (λ floor. max s.epoch floor) s.floor s.epoch

-- ITS PART OF A LIFE, as its state, and back

abbrev pub awaiting_of : Awaited → Awaiting
awaiting_of a = record { height = a.height; floor = a.floor; asked = a.asked; others = a.candidates }

abbrev pub awaited_view : Awaiting → Awaited
awaited_view a = record { height = a.height; floor = a.floor; asked = a.asked; candidates = a.others }

abbrev pub known_of_discovered : {Dir : Type 0} → Discovered Dir → Known Dir
known_of_discovered found = record { finalization = found.finalization; info = found.info; floor = found.floor }

abbrev pub discovered_of : {Dir : Type 0} → Known Dir → Discovered Dir
discovered_of known = record { finalization = known.finalization; info = known.info; floor = known.floor }

abbrev pub state_of : {Dir : Type 0} → (minimum : ℕ) → Probe Dir → State Dir
state_of minimum p = record {
  subscribers = p.subscribers;
  attached = p.attached;
  serving = p.serving;
  sample = record { minimum = minimum; replies = p.replies; chosen = p.chosen };
  awaited = option_map awaiting_of p.awaited;
  known = option_map known_of_discovered p.known;
}

abbrev pub probe_of : {Dir : Type 0} → State Dir → Probe Dir
probe_of st = record {
  subscribers = st.subscribers;
  attached = st.attached;
  serving = st.serving;
  replies = st.sample.replies;
  chosen = st.sample.chosen;
  awaited = option_map awaited_view st.awaited;
  known = option_map discovered_of st.known;
}

abbrev pub with_probe : {Dir : Type 0} → Live Dir → State Dir → Live Dir
with_probe st state = record st { probe = probe_of state }

-- A STEP

-- what a probe's step does, from a state of its own
abbrev pub steps_from : {Dir : Type 0} → Fixed Dir → Snapshot Dir → ProbeEvent → State Dir → Probes Dir
steps_from c s event state = steps (given c s) (lack_in c s) (served_from c.source) event state

abbrev pub probes_from : {Dir : Type 0} → Fixed Dir → Snapshot Dir → ProbeEvent → Live Dir → Course Dir NodeStop (Live Dir)
probes_from c s event st = joined_course s.directory PeerSet (with_probe st) (steps_from c s event (state_of (least_epoch s) st.probe))

-- the events that are a probe's, by its names
abbrev pub probe_event : {Dir : Type 0} → Event Dir → Option ProbeEvent
probe_event Subscribe = Some event_of.Subscribe
probe_event Unsubscribe = Some event_of.Unsubscribe
probe_event Attach = Some event_of.Attach
probe_event (PeerReply from bytes) = Some (event_of.Peer from bytes)
probe_event Retry = Some event_of.Retry
probe_event event = None

abbrev pub probes_in : {Dir : Type 0} → Fixed Dir → Option (Snapshot Dir) → Option ProbeEvent → Live Dir → Course Dir NodeStop (Live Dir)
probes_in c (Some s) (Some event) st = probes_from c s event st
probes_in c snapshot event st = Goes st

abbrev pub probes : {Dir : Type 0} → Fixed Dir → Event Dir → Live Dir → Course Dir NodeStop (Live Dir)
probes c event st = probes_in c c.probed.snapshot (probe_event event) st
