-- A step of a probe is the node's half of it.
use Rattle.std.specs.Prelude.{◌≡◌, ℕ, List, Some}
use Rattle.dkg_infos.specs.declared.entry.Entry.{Entry}
use Rattle.dkg_probe.specs.declared.event.Event.{Event as ProbeEvent}
use Rattle.dkg_probe.specs.declared.state.State.{State}
use Rattle.dkg_probe.specs.Acts.{ProbeEnded, went, stopped, broken, ProbeRuns}
use Rattle.dkg_store.specs.Acts.{World}
use Rattle.dkg_core.specs.Courses.{EndsSo}
use Rattle.dkg_core.specs.Fixed.{Fixed, Snapshot}
use Rattle.dkg_core.specs.Joining.{probe_ended_as}
use Rattle.dkg_core.specs.Live.{Live, PeerSet, Event}
use Rattle.dkg_core.specs.Probing.{least_epoch, probe_of, with_probe, steps_from, probe_event, probes}
use Rattle.dkg_core.specs.Transcripts.{with_out}

-- a life has this state of its probe, whose replies count from the checkpoint's least epoch on
pub record HasState {Dir : Type 0} (s : Snapshot Dir) (st : Live Dir) (state : State Dir) : Type 0 where
  pub part : st.probe ≡ probe_of state
  pub minimum : state.sample.minimum ≡ least_epoch s

abbrev pub IfProbeWentTo : {Dir : Type 0} → ProbeEnded ℕ (State Dir) → (State Dir → Type 0) → Type 0
IfProbeWentTo (went end) P = P end
IfProbeWentTo (stopped fault) P = Unit {0}
IfProbeWentTo broken P = Unit {0}

-- WHAT RUNS AS A PROBE'S STEP, from the state that the life has, runs as the node's half: over any devices, with the same lines, to the same end,
-- of which the life has the state again.
abbrev pub ProbesStep : Type 0 → Type 0
ProbesStep Dir = (c : Fixed Dir) (s : Snapshot Dir) (event : Event Dir) (its : ProbeEvent) (st : Live Dir) (state : State Dir)
    → (ended : ProbeEnded ℕ (State Dir)) (w : World) (new : List Entry)
    → c.probed.snapshot ≡ Some s → probe_event event ≡ Some its → HasState s st state → ProbeRuns (steps_from c s its state) ended w.out new
    → EndsSo (probes c event st) (probe_ended_as PeerSet (with_probe st) ended) w (with_out new w) × IfProbeWentTo ended (λ end. HasState s (with_probe st end) end)
