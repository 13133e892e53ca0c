-- How acts are run in parts.
use Rattle.std.proofs.Common.{◌≡◌, inl, inr, ℕ, zero, suc, List, [], ◌∷◌, ◌++◌, take, Option, Result, Ok, Err, refl, sym, ap, subst, ◌∙◌, append_assoc, arith}
use Rattle.std.proofs.lemmas.List.{append-nil}
use Rattle.dkg_infos.specs.declared.entry.Entry.{Entry}
use Rattle.dkg_infos.specs.declared.participants.TrackedPeers.{TrackedPeers}
use Rattle.dkg_types.specs.Tracking.{with_set}
use Rattle.dkg_probe.specs.Acts.{ProbeActs, Say, Track, Goes, Stops, probe_bind, says_all, ProbeCompletes, ProbeFaults, ProbeSpeaks, ProbeBreaks, IsFront, ManagerTracks, tracked_after}

module _ {F S : Type 0} where
  -- nothing was run yet
  pub breaks_at_once : (acts : ProbeActs F S) (out : List Entry) → ProbeBreaks acts out out
  breaks_at_once (Say line acts) out = inl refl
  breaks_at_once (Track epoch peers acts) out = breaks_at_once acts out
  breaks_at_once (Goes end) out = refl
  breaks_at_once (Stops fault) out = refl

  pub breaks_same : (acts : ProbeActs F S) (out new : List Entry) → new ≡ out → ProbeBreaks acts out new
  breaks_same acts out new same = subst (λ (x : List Entry). ProbeBreaks acts out x) (sym same) (breaks_at_once acts out)

  pub all_said : (lines : List Entry) (acts : ProbeActs F S) (end : S) (out new : List Entry) → ProbeCompletes acts end (out ++ lines) new → ProbeCompletes (says_all lines acts) end out new
  all_said [] acts end out new done = subst (λ (x : List Entry). ProbeCompletes acts end x new) (append-nil out) done
  all_said (line ∷ lines) acts end out new done =
      all_said lines acts end (out ++ line ∷ []) new (subst (λ (x : List Entry). ProbeCompletes acts end x new) (sym (append_assoc out (line ∷ []) lines)) done)

  pub some_said : (lines : List Entry) (acts : ProbeActs F S) (out new : List Entry) → IsFront lines out new → ProbeBreaks (says_all lines acts) out new
  some_said [] acts out new (count, lt, e) = absurd (omega (arith, lt))
  some_said (line ∷ lines) acts out new (zero, lt, e) = inl (e ∙ append-nil out)
  some_said (line ∷ []) acts out new (suc count, lt, e) = absurd (omega (arith, lt))
  some_said (line ∷ next ∷ lines) acts out new (suc count, lt, e) =
      inr (tt, some_said (next ∷ lines) acts (out ++ line ∷ []) new (count, omega (arith, lt), e ∙ sym (append_assoc out (line ∷ []) (take count (next ∷ lines)))))

  module _ {T : Type 0} (g : S → T) where
    pub then_completes : (acts : ProbeActs F S) (end : S) (out new : List Entry) → ProbeCompletes acts end out new → ProbeCompletes (probe_bind acts (λ s. Goes (g s))) (g end) out new
    then_completes (Say line acts) end out new done = then_completes acts end (out ++ line ∷ []) new done
    then_completes (Track epoch peers acts) end out new done = then_completes acts end out new done
    then_completes (Goes its) end out new done = (done.0, ap g done.1)
    then_completes (Stops fault) end out new done = done

    pub then_faults : (acts : ProbeActs F S) (fault : F) (out new : List Entry) → ProbeFaults acts fault out new → ProbeFaults (probe_bind acts (λ s. Goes (g s))) fault out new
    then_faults (Say line acts) fault out new done = then_faults acts fault (out ++ line ∷ []) new done
    then_faults (Track epoch peers acts) fault out new done = then_faults acts fault out new done
    then_faults (Goes its) fault out new done = absurd done
    then_faults (Stops its) fault out new done = done

    then_speaks : (acts : ProbeActs F S) → ProbeSpeaks acts → ProbeSpeaks (probe_bind acts (λ s. Goes (g s)))
    then_speaks (Say line acts) speaks = tt
    then_speaks (Track epoch peers acts) speaks = then_speaks acts speaks
    then_speaks (Goes its) speaks = absurd speaks
    then_speaks (Stops its) speaks = absurd speaks

    pub then_breaks : (acts : ProbeActs F S) (out new : List Entry) → ProbeBreaks acts out new → ProbeBreaks (probe_bind acts (λ s. Goes (g s))) out new
    then_breaks (Say line acts) out new done = elim done [ inl e ↦ inl e | inr more ↦ inr (then_speaks acts more.0, then_breaks acts (out ++ line ∷ []) new more.1) ]
    then_breaks (Track epoch peers acts) out new done = then_breaks acts out new done
    then_breaks (Goes its) out new done = done
    then_breaks (Stops its) out new done = done

    pub then_tracked : (acts : ProbeActs F S) (sets : ℕ → Option TrackedPeers) (n : ℕ) → tracked_after (probe_bind acts (λ s. Goes (g s))) sets n ≡ tracked_after acts sets n
    then_tracked (Say line acts) sets n = then_tracked acts sets n
    then_tracked (Track epoch peers acts) sets n = then_tracked acts (with_set sets epoch peers) n
    then_tracked (Goes its) sets n = refl
    then_tracked (Stops its) sets n = refl

    pub then_tracks : {E : Type 0} (acts : ProbeActs F S) (result : Result (Unit {0}) E) (sets now : ℕ → Option TrackedPeers) → ManagerTracks acts result sets now → ManagerTracks (probe_bind acts (λ s. Goes (g s))) result sets now
    then_tracks acts (Ok u) sets now tracks = λ n. tracks n ∙ sym (then_tracked acts sets n)
    then_tracks acts (Err e) sets now tracks = elim tracks [ inl same ↦ inl same | inr all ↦ inr (λ n. all n ∙ sym (then_tracked acts sets n)) ]
