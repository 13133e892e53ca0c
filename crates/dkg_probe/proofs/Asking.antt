-- Each dealer asked in turn.
use Rattle.std.proofs.Common.{◌≡◌, inr, ℕ, ◌+◌, ◌<◌, List, [], ◌∷◌, ◌++◌, map, length, take, true, false, Option, None, Result, Ok, Err, OnOk, OnErr, refl, sym, ap, subst, ◌∙◌, arith}
use Rattle.std.proofs.lemmas.List.{take-map, length-map}
use Rattle.dkg_values.specs.declared.memory.NoMemory.{NoMemory as Want}
use Rattle.dkg_infos.specs.declared.entry.Entry.{Entry}
use Rattle.dkg_types.specs.declared.manager.TrackError.{TrackError}
use Rattle.dkg_types.specs.declared.manager.TrackError.TheVariants.{Missing, NoMemory}
use Rattle.dkg_infos.specs.declared.participants.TrackedPeers.{TrackedPeers}
use Rattle.dkg_types.specs.Tracking.{AnswersTracking, with_set}
use Rattle.dkg_probe.specs.declared.event.ProbeStop.{ProbeStop}
use Rattle.dkg_probe.specs.declared.state.State.{State}
use Rattle.dkg_probe.specs.Acts.{ProbeActs, Goes, says_all, IsFront, ProbeRuns, ManagerTracks, tracked_after}
use Rattle.dkg_probe.specs.Probing.{ProbeFixed, latest_request, with_sample, one_more, is_done, is_first, tracked_of, activates, subscribes, ended_in, probe_ended_by}
use Rattle.dkg_probe.specs.Sampling.{sample_forgotten}
use Rattle.dkg_probe.specs.Stopping.{stop_for}
use Rattle.dkg_probe.proofs.Acting.{all_said, some_said, breaks_at_once}

pub on_err : {A E : Type 0} (P : Type 0) (r : Result A E) → P → OnErr r P
on_err P (Ok a) p = tt
on_err P (Err e) p = p

pub asked_front : (out new mid : List Entry) (dealers : List ℕ) (i : ℕ) → i < length dealers → new ≡ mid → mid ≡ out ++ map latest_request (take i dealers) → IsFront (map latest_request dealers) out new
asked_front out new mid dealers i lt same so_far =
    (i, omega (arith, lt, length-map dealers latest_request), same ∙ so_far ∙ ap (λ (lines : List Entry). out ++ lines) (sym (take-map latest_request i dealers)))

-- all were asked, or the first of them
pub asks_run : {Dir : Type 0} (dealers : List ℕ) (end st : State Dir) (result : Result (Unit {0}) Want) (out new : List Entry) → end ≡ st → OnOk result (new ≡ out ++ map latest_request dealers)
    → OnErr result (IsFront (map latest_request dealers) out new) → ProbeRuns (says_all (map latest_request dealers) (Goes st)) (ended_in end result) out new
asks_run dealers end st (Ok u) out new same said front = all_said (map latest_request dealers) (Goes st) end out new (said, same)
asks_run dealers end st (Err e) out new same said front = some_said (map latest_request dealers) (Goes st) out new front

-- the checkpoint was not activated
pub begin_stops : {Dir : Type 0} (c : ProbeFixed Dir) (lack : Option ℕ) (st left : State Dir) (error : TrackError) (out : List Entry) → AnswersTracking {A = Unit {0}} lack (Err error) → ProbeRuns (activates c lack st) (probe_ended_by left (Err (stop_for error))) out out
begin_stops c lack st left (Missing peer) out named = rw named (refl, refl)
begin_stops c lack st left NoMemory out named = breaks_at_once (activates c lack st) out

-- saying lines has nobody tracked
asked_tracks : {F S : Type 0} (lines : List Entry) (acts : ProbeActs F S) (sets : ℕ → Option TrackedPeers) (n : ℕ) → tracked_after (says_all lines acts) sets n ≡ tracked_after acts sets n
asked_tracks [] acts sets n = refl
asked_tracks (line ∷ lines) acts sets n = asked_tracks lines acts sets n

-- an activation has the checkpoint's peers tracked
pub begin_tracks : {Dir : Type 0} (c : ProbeFixed Dir) (lack : Option ℕ) (st : State Dir) (sets now : ℕ → Option TrackedPeers) → lack ≡ None
    → ((n : ℕ) → now n ≡ with_set sets c.bootstrap.epoch (tracked_of c.bootstrap.participants) n) → (n : ℕ) → now n ≡ tracked_after (activates c lack st) sets n
begin_tracks c lack st sets now none said n =
    let e = asked_tracks (map latest_request c.bootstrap.participants.dealers) (Goes (with_sample (sample_forgotten st.sample) st)) (with_set sets c.bootstrap.epoch (tracked_of c.bootstrap.participants)) n in
    rw none (said n ∙ sym e)

-- however the step then ends
pub tracks_all : {F S E : Type 0} (acts : ProbeActs F S) (result : Result (Unit {0}) E) (sets now : ℕ → Option TrackedPeers) → ((n : ℕ) → now n ≡ tracked_after acts sets n) → ManagerTracks acts result sets now
tracks_all acts (Ok u) sets now all = all
tracks_all acts (Err e) sets now all = inr all

-- and so has a first subscriber
pub subscribe_tracks : {Dir : Type 0} (c : ProbeFixed Dir) (lack : Option ℕ) (st : State Dir) (more : ℕ) (sets now : ℕ → Option TrackedPeers) (result : Result (Unit {0}) ProbeStop) → is_done st ≡ false → is_first st ≡ true → more ≡ st.subscribers + 1
    → ManagerTracks (activates c lack (record st { subscribers = more })) result sets now → ManagerTracks (subscribes c lack st) result sets now
subscribe_tracks {Dir} c lack st more sets now result done first is tracks =
    let one : ManagerTracks (activates c lack (one_more st)) result sets now = subst (λ (k : ℕ). ManagerTracks (activates c lack (record st { subscribers = k })) result sets now) is tracks in
    rw (done, first) one
