-- A probe's acts, joined to a node's.
use Rattle.std.proofs.Common.{◌≡◌, ℕ, inl, inr, List, Option, refl, ap}
use Rattle.dkg_infos.specs.declared.entry.Entry.{Entry}
use Rattle.dkg_infos.specs.declared.participants.TrackedPeers.{TrackedPeers}
use Rattle.dkg_types.specs.Tracking.{with_set}
use Rattle.dkg_probe.specs.Acts.{ProbeActs, Say, Track, Goes, Stops, tracked_after, ProbeCompletes, ProbeFaults, ProbeBreaks, went, stopped, broken}
use Rattle.dkg_store.specs.Acts as of_store
use Rattle.dkg_store.specs.Acts.{Held, World, says, by_want}
use Rattle.dkg_core.specs.Courses.{on_devices, deeds_of}
use Rattle.dkg_core.specs.Transcripts.{with_out}
use Rattle.dkg_core.specs.Joining.{joined_course, tracked_by, ProbesJoin, JoinsTrack}

module _ {Dir F G S T : Type 0} (directory : Dir) (fault : F → G) (end : S → T) where
  all_run : (acts : ProbeActs F S) (its : S) (w : World) (new : List Entry) → ProbeCompletes acts its w.out new → of_store.Completes (on_devices (joined_course directory fault end acts)) (end its) w (with_out new w)
  all_run (Say line acts) its w new run = all_run acts its (says w line) new run
  all_run (Track epoch peers acts) its w new run = all_run acts its w new run
  all_run (Goes goal) its w new run = (ap (λ (ls : List Entry). with_out ls w) run.0, ap end run.1)
  all_run (Stops stop) its w new run = absurd run

  up_to_fault : (acts : ProbeActs F S) (its : F) (w : World) (new : List Entry) → ProbeFaults acts its w.out new → of_store.Faults (on_devices (joined_course directory fault end acts)) (fault its) w (with_out new w)
  up_to_fault (Say line acts) its w new run = up_to_fault acts its (says w line) new run
  up_to_fault (Track epoch peers acts) its w new run = up_to_fault acts its w new run
  up_to_fault (Goes goal) its w new run = absurd run
  up_to_fault (Stops stop) its w new run = (ap (λ (ls : List Entry). with_out ls w) run.0, ap fault run.1)

  first_run : (acts : ProbeActs F S) (w : World) (new : List Entry) → ProbeBreaks acts w.out new → of_store.Breaks by_want (on_devices (joined_course directory fault end acts)) w (with_out new w)
  first_run (Say line acts) w new (inl none) = inl (tt, ap (λ (ls : List Entry). with_out ls w) none)
  first_run (Say line acts) w new (inr more) = inr (first_run acts (says w line) new more.1)
  first_run (Track epoch peers acts) w new run = first_run acts w new run
  first_run (Goes goal) w new same = (tt, ap (λ (ls : List Entry). with_out ls w) same)
  first_run (Stops stop) w new same = (tt, ap (λ (ls : List Entry). with_out ls w) same)

  its_calls : (acts : ProbeActs F S) (h : Held) (sets : ℕ → Option TrackedPeers) → tracked_by (deeds_of (joined_course directory fault end acts) h) sets ≡ tracked_after acts sets
  its_calls (Say line acts) h sets = its_calls acts h sets
  its_calls (Track epoch peers acts) h sets = its_calls acts h (with_set sets epoch peers)
  its_calls (Goes goal) h sets = refl
  its_calls (Stops stop) h sets = refl

pub probes_join : {Dir F G S T : Type 0} → ProbesJoin Dir F G S T
probes_join directory fault end acts (went its) w new run = all_run directory fault end acts its w new run
probes_join directory fault end acts (stopped its) w new run = up_to_fault directory fault end acts its w new run
probes_join directory fault end acts broken w new run = first_run directory fault end acts w new run

pub joins_track : {Dir F G S T : Type 0} → JoinsTrack Dir F G S T
joins_track directory fault end acts h sets = its_calls directory fault end acts h sets
