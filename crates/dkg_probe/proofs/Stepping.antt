-- A step: what an event does, and then perhaps the turn to serving.
use Rattle.std.proofs.Common.{◌≡◌, ℕ, List, Option, Result, Err, sym, subst}
use Rattle.dkg_infos.specs.declared.entry.Entry.{Entry}
use Rattle.dkg_infos.specs.declared.participants.TrackedPeers.{TrackedPeers}
use Rattle.dkg_probe.specs.declared.event.ProbeStop.{ProbeStop}
use Rattle.dkg_probe.specs.declared.event.ProbeStop.TheVariants.{PeerSet, NoMemory, Failed}
use Rattle.dkg_probe.specs.declared.state.State.{State}
use Rattle.dkg_probe.specs.Acts.{Goes, probe_bind, ProbeCompletes, ProbeRuns, went, ManagerTracks}
use Rattle.dkg_probe.specs.Probing.{Probes, then_serves, probe_ended_by}
use Rattle.dkg_probe.proofs.Acting.{then_completes, then_faults, then_breaks, then_tracks}

pub goes_run : {Dir : Type 0} (acts : Probes Dir) (mid new : State Dir) (out after : List Entry) → new ≡ then_serves mid → ProbeRuns acts (went mid) out after → ProbeRuns (probe_bind acts (λ st. Goes (then_serves st))) (went new) out after
goes_run {Dir} acts mid new out after e ran = subst (λ (st : State Dir). ProbeCompletes (probe_bind acts (λ st. Goes (then_serves st))) st out after) (sym e) (then_completes then_serves acts mid out after ran)

pub stops_run : {Dir : Type 0} (acts : Probes Dir) (mid new : State Dir) (stop : ProbeStop) (out after : List Entry) → ProbeRuns acts (probe_ended_by mid (Err stop)) out after → ProbeRuns (probe_bind acts (λ st. Goes (then_serves st))) (probe_ended_by new (Err stop)) out after
stops_run acts mid new (PeerSet peer) out after ran = then_faults then_serves acts peer.0 out after ran
stops_run acts mid new NoMemory out after ran = then_breaks then_serves acts out after ran
stops_run acts mid new Failed out after ran = then_breaks then_serves acts out after ran

pub step_tracks : {Dir : Type 0} (acts : Probes Dir) (result : Result (Unit {0}) ProbeStop) (sets now : ℕ → Option TrackedPeers) → ManagerTracks acts result sets now → ManagerTracks (probe_bind acts (λ st. Goes (then_serves st))) result sets now
step_tracks acts result sets now tracks = then_tracks then_serves acts result sets now tracks
