-- An artifact that is told is the one that is known: it is the last line of its step, which ends by knowing it.
use Rattle.std.proofs.Common.{◌≡◌, inl, inr, ℕ, List, [], ◌∷◌, ◌++◌, Option, Some, None, Err, refl, sym, subst}
use Rattle.dkg_infos.specs.declared.entry.BlockedWhy.{BlockedWhy}
use Rattle.dkg_infos.specs.declared.entry.Entry.{Entry}
use Rattle.dkg_infos.specs.declared.entry.Entry.TheVariants.{Blocked, Sent}
use Rattle.dkg_probe.specs.declared.artifact.Artifact.{Artifact as Known}
use Rattle.dkg_probe.specs.declared.event.Event.{Event}
use Rattle.dkg_probe.specs.declared.event.ProbeStop.{ProbeStop}
use Rattle.dkg_probe.specs.declared.event.ProbeStop.TheVariants.{PeerSet, NoMemory, Failed}
use Rattle.dkg_probe.specs.declared.state.State.{State}
use Rattle.dkg_probe.specs.Acts.{Say, Track, Goes, Stops, ProbeCompletes, ProbeFaults, ProbeSpeaks, ProbeBreaks, ProbeRuns, went, Each}
use Rattle.dkg_probe.specs.OneEpoch.{SaidSince, TellsKnown}
use Rattle.dkg_probe.specs.Probing.{ProbeFixed, Probes, takes, then_serves, probe_ended_by}
use Rattle.dkg_probe.specs.Sources.{ProbeSource}
use Rattle.dkg_probe.proofs.Saying.{none_more, one_more_said, takes_fine}

module _ {Dir : Type 0} (spelling : Dir → List ℕ) where
  -- whatever is known
  abbrev Free : Entry → Type 0
  Free line = (known : Option (Known Dir)) → TellsKnown spelling known line

  sent_free : (to : Option ℕ) (bytes : List ℕ) → Free (Sent to bytes)
  sent_free to bytes None = tt
  sent_free to bytes (Some known) = tt

  blocked_free : (peer : ℕ) (reason : BlockedWhy) → Free (Blocked peer reason)
  blocked_free peer reason None = tt
  blocked_free peer reason (Some known) = tt

  -- an artifact is told at the end alone, where it is known
  abbrev Last : Entry → Probes Dir → Type 0
  Last line (Say next acts) = Free line
  Last line (Track epoch peers acts) = Free line
  Last line (Goes end) = TellsKnown spelling end.known line
  Last line (Stops fault) = Free line

  free_last : (line : Entry) (acts : Probes Dir) → Free line → Last line acts
  free_last line (Say next acts) free = free
  free_last line (Track epoch peers acts) free = free
  free_last line (Goes end) free = free end.known
  free_last line (Stops fault) free = free

  -- what isn't the last line is no artifact
  free_here : (line : Entry) (acts : Probes Dir) → ProbeSpeaks acts → Last line acts → Free line
  free_here line (Say next acts) speaks last = last
  free_here line (Track epoch peers acts) speaks last = last
  free_here line (Goes end) speaks last = absurd speaks
  free_here line (Stops fault) speaks last = absurd speaks

  known_here : (line : Entry) (acts : Probes Dir) (end : State Dir) (out new : List Entry) → Last line acts → ProbeCompletes acts end out new → TellsKnown spelling end.known line
  known_here line (Say next acts) end out new last done = last end.known
  known_here line (Track epoch peers acts) end out new last done = last end.known
  known_here line (Goes its) end out new last done = subst (λ (st : State Dir). TellsKnown spelling st.known line) (sym done.1) last
  known_here line (Stops fault) end out new last done = absurd done

  fault_here : (line : Entry) (acts : Probes Dir) (fault : ℕ) (out new : List Entry) → Last line acts → ProbeFaults acts fault out new → Free line
  fault_here line (Say next acts) fault out new last done = last
  fault_here line (Track epoch peers acts) fault out new last done = last
  fault_here line (Goes its) fault out new last done = absurd done
  fault_here line (Stops its) fault out new last done = last

  module _ (Q : Type 0) where
    completing : (acts : Probes Dir) (end : State Dir) (out new : List Entry) → Each Last Q acts → ProbeCompletes acts end out new → SaidSince (TellsKnown spelling end.known) out new
    completing (Say line acts) end out new all done =
        one_more_said (TellsKnown spelling end.known) line out new (known_here line acts end (out ++ line ∷ []) new all.0 done) (completing acts end (out ++ line ∷ []) new all.1 done)
    completing (Track epoch peers acts) end out new all done = completing acts end out new all.1 done
    completing (Goes its) end out new all done = none_more (TellsKnown spelling end.known) out new done.0
    completing (Stops fault) end out new all done = absurd done

    faulting : (known : Option (Known Dir)) (acts : Probes Dir) (fault : ℕ) (out new : List Entry) → Each Last Q acts → ProbeFaults acts fault out new → SaidSince (TellsKnown spelling known) out new
    faulting known (Say line acts) fault out new all done =
        one_more_said (TellsKnown spelling known) line out new (fault_here line acts fault (out ++ line ∷ []) new all.0 done known) (faulting known acts fault (out ++ line ∷ []) new all.1 done)
    faulting known (Track epoch peers acts) fault out new all done = faulting known acts fault out new all.1 done
    faulting known (Goes its) fault out new all done = absurd done
    faulting known (Stops its) fault out new all done = none_more (TellsKnown spelling known) out new done.0

    breaking : (known : Option (Known Dir)) (acts : Probes Dir) (out new : List Entry) → Each Last Q acts → ProbeBreaks acts out new → SaidSince (TellsKnown spelling known) out new
    breaking known (Say line acts) out new all done = elim done [
      | inl e ↦ none_more (TellsKnown spelling known) out new e
      | inr more ↦ one_more_said (TellsKnown spelling known) line out new (free_here line acts more.0 all.0 known) (breaking known acts (out ++ line ∷ []) new all.1 more.1)
    ]
    breaking known (Track epoch peers acts) out new all done = breaking known acts out new all.1 done
    breaking known (Goes its) out new all done = none_more (TellsKnown spelling known) out new done
    breaking known (Stops its) out new all done = none_more (TellsKnown spelling known) out new done

takes_last : {Dir : Type 0} (c : ProbeFixed Dir) (lack : Option ℕ) (source : ProbeSource Dir) (event : Event) (st : State Dir) → Each (Last c.spelling) (Unit {0}) (takes c lack source event st)
takes_last c lack source event st =
    takes_fine c (Last c.spelling) (Unit {0}) (λ to bytes acts. free_last c.spelling (Sent to bytes) acts (sent_free c.spelling to bytes)) (λ peer reason acts. free_last c.spelling (Blocked peer reason) acts (blocked_free c.spelling peer reason))
    (λ known st e. (refl, refl)) (λ floor st e. (refl, refl)) tt lack source event st

-- where the step went, the artifact that it told is known
pub told_is_known : {Dir : Type 0} (c : ProbeFixed Dir) (lack : Option ℕ) (source : ProbeSource Dir) (event : Event) (st mid new : State Dir) (out after : List Entry) → new ≡ then_serves mid
    → ProbeRuns (takes c lack source event st) (went mid) out after → SaidSince (TellsKnown c.spelling new.known) out after
told_is_known {Dir} c lack source event st mid new out after is ran =
    subst (λ (s : State Dir). SaidSince (TellsKnown c.spelling s.known) out after) (sym is) (completing c.spelling (Unit {0}) (takes c lack source event st) mid out after (takes_last c lack source event st) ran)

-- where it stopped, it told none
pub none_is_told : {Dir : Type 0} (c : ProbeFixed Dir) (lack : Option ℕ) (source : ProbeSource Dir) (event : Event) (st left : State Dir) (stop : ProbeStop) (known : Option (Known Dir)) (out after : List Entry)
    → ProbeRuns (takes c lack source event st) (probe_ended_by left (Err stop)) out after → SaidSince (TellsKnown c.spelling known) out after
none_is_told c lack source event st left (PeerSet peer) known out after ran = faulting c.spelling (Unit {0}) known (takes c lack source event st) peer.0 out after (takes_last c lack source event st) ran
none_is_told c lack source event st left NoMemory known out after ran = breaking c.spelling (Unit {0}) known (takes c lack source event st) out after (takes_last c lack source event st) ran
none_is_told c lack source event st left Failed known out after ran = breaking c.spelling (Unit {0}) known (takes c lack source event st) out after (takes_last c lack source event st) ran
