-- How a node joins its probe: the probe's acts as a course.
use Rattle.std.specs.Prelude.{◌≡◌, ℕ, List, [], ◌∷◌, Option}
use Rattle.dkg_infos.specs.declared.entry.Entry.{Entry}
use Rattle.dkg_infos.specs.declared.participants.TrackedPeers.{TrackedPeers}
use Rattle.dkg_types.specs.Tracking.{with_set}
use Rattle.dkg_probe.specs.Acts as of_probe
use Rattle.dkg_probe.specs.Acts.{ProbeActs, ProbeRuns, tracked_after}
use Rattle.dkg_store.specs.Acts as of_store
use Rattle.dkg_store.specs.Acts.{Held, World, by_want}
use Rattle.dkg_core.specs.Courses.{Course, Say, CallOutside, Goes, Stops, EndsSo, Tracks, Activates, Deed, CalledOutside, deeds_of}
use Rattle.dkg_core.specs.Transcripts.{with_out}

-- An entry said is an entry said, and peers that are tracked are the call by which the checkpoint is activated, with its directory. Ends and faults are
-- those that the node names so.
abbrev pub joined_course : {Dir F G S T : Type 0} → (directory : Dir) → (F → G) → (S → T) → ProbeActs F S → Course Dir G T
joined_course directory fault end (of_probe.Say line acts) = Say line (joined_course directory fault end acts)
joined_course directory fault end (of_probe.Track epoch peers acts) = CallOutside (Activates epoch peers directory) (joined_course directory fault end acts)
joined_course directory fault end (of_probe.Goes its) = Goes (end its)
joined_course directory fault end (of_probe.Stops its) = Stops (fault its)

-- what ends a probe early is want of memory
abbrev pub probe_ended_as : {F G S T : Type 0} → (F → G) → (S → T) → of_probe.ProbeEnded F S → of_store.Ended G T
probe_ended_as fault end (of_probe.went its) = of_store.went (end its)
probe_ended_as fault end (of_probe.stopped its) = of_store.stopped (fault its)
probe_ended_as fault end of_probe.broken = of_store.broken by_want

-- the sets that a manager tracks behind the calls among some deeds, by number
abbrev pub tracked_by : {Dir : Type 0} → List (Deed Dir) → (ℕ → Option TrackedPeers) → ℕ → Option TrackedPeers
tracked_by [] sets = sets
tracked_by (CalledOutside (Activates epoch peers directory) ∷ deeds) sets = tracked_by deeds (with_set sets epoch peers)
tracked_by (CalledOutside (Tracks epoch peers directory) ∷ deeds) sets = tracked_by deeds (with_set sets epoch peers)
tracked_by (deed ∷ deeds) sets = tracked_by deeds sets

-- WHATEVER RUNS AS A PROBE'S ACTS runs as the joined course: over any devices, which it leaves as they were with the fuse, and with the same entries.
abbrev pub ProbesJoin : (Dir F G S T : Type 0) → Type 0
ProbesJoin Dir F G S T = (directory : Dir) (fault : F → G) (end : S → T) (acts : ProbeActs F S) (ended : of_probe.ProbeEnded F S) (w : World) (new : List Entry)
    → ProbeRuns acts ended w.out new → EndsSo (joined_course directory fault end acts) (probe_ended_as fault end ended) w (with_out new w)

-- A manager that does the calls of the joined course tracks what the acts say, whatever the devices hold.
abbrev pub JoinsTrack : (Dir F G S T : Type 0) → Type 0
JoinsTrack Dir F G S T = (directory : Dir) (fault : F → G) (end : S → T) (acts : ProbeActs F S) (h : Held) (sets : ℕ → Option TrackedPeers)
    → tracked_by (deeds_of (joined_course directory fault end acts) h) sets ≡ tracked_after acts sets
