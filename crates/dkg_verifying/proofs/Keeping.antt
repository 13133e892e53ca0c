-- What is kept for some logs, and what became of it.
use Rattle.std.proofs.Common.{◌≡◌, ℕ, Bool, true, false, Option, Some, None, Result, Ok, Err, refl, sym, ◌∙◌, ap, subst}
use Rattle.std.specs.Prelude.{◌&&◌, not, is_some, IsSome, IsSomeAnd, if◌then◌else◌, option_map}
use Rattle.dkg_ceremony.specs.Outcomes.{LogMap}
use Rattle.dkg_ceremony.specs.declared.finish.FinishError.{FinishError}
use Rattle.dkg_ceremony.specs.declared.output.Output.{Output}
use Rattle.dkg_ceremony.specs.declared.round.RoundParts.{RoundParts as Round}
use Rattle.dkg_artifact.specs.Results.{Checked, checked, finished_by, observed_output}
use Rattle.dkg_artifact.specs.Results as results
use Rattle.dkg_artifact.specs.declared.artifact.Artifact as artifact
use Rattle.dkg_artifact.specs.declared.job.Dealings as dealt
use Rattle.dkg_artifact.specs.declared.job.Job as job
use Rattle.dkg_artifact.specs.declared.verified.Verified as verified
use Rattle.dkg_core.specs.Fixed.{Fixed}
use Rattle.dkg_core.specs.Including as including
use Rattle.dkg_core.specs.Live as core
use Rattle.dkg_core.specs.Same.{same_logs}
use Rattle.dkg_core.proofs.Same.{logs_again, one_logs}
use Rattle.dkg_verifying.specs.InclusionOf.{artifact_of, cached_of, job_of, checked_result_of, verified_of}
use Rattle.dkg_life.specs.Rules.{FinishOf, OutcomeOf}

-- OF THESE LOGS, OR OF OTHERS

same_or : (a b : LogMap) → (a ≡ b → ⊥) → same_logs a b ≡ false
same_or a b apart = by_test (same_logs a b) refl
  where
    by_test : (t : Bool) → same_logs a b ≡ t → t ≡ false
    by_test true is = absurd (apart (one_logs a b is))
    by_test false is = refl

-- An artifact that is kept.
module _ {Dir : Type 0} (logs : LogMap) where
  pub cached_some : (cache : Option (LogMap × artifact.Artifact Dir)) → IsSomeAnd cache (λ k. k.0 ≡ logs) → (made : artifact.Artifact Dir) → Some made ≡ option_map (λ k. k.1) cache
      → Some (artifact_of made) ≡ including.cached_for (option_map cached_of cache) logs
  cached_some None is made its = absurd is
  cached_some (Some k) is made its =
      ap (λ (o : Option (artifact.Artifact Dir)). option_map artifact_of o) its
      ∙ ap (λ (b : Bool). if b then Some (artifact_of k.1) else None) (sym (subst (λ (l : LogMap). same_logs k.0 l ≡ true) is (logs_again k.0)))

  pub cached_none : (cache : Option (LogMap × artifact.Artifact Dir)) → (IsSomeAnd cache (λ k. k.0 ≡ logs) → ⊥) → ◌≡◌ {A = Option (core.Artifact Dir)} None (including.cached_for (option_map cached_of cache) logs)
  cached_none None apart = refl
  cached_none (Some k) apart = ap (λ (b : Bool). if b then Some (artifact_of k.1) else None) (sym (same_or k.0 logs apart))

  -- of what is kept there is one
  pub cached_there : (cache : Option (LogMap × artifact.Artifact Dir)) → IsSomeAnd cache (λ k. k.0 ≡ logs) → IsSome (including.cached_for (option_map cached_of cache) logs)
  cached_there None is = absurd is
  cached_there (Some k) is = ap (λ (b : Bool). is_some (if b then Some (artifact_of k.1) else None)) (subst (λ (l : LogMap). same_logs k.0 l ≡ true) is (logs_again k.0))

-- A result that is kept.
module _ (logs : LogMap) where
  pub kept_some : (kept : Option Checked) → IsSomeAnd kept (λ r. r.logs ≡ logs) → including.retained_for (option_map checked_result_of kept) logs ≡ option_map checked_result_of kept
  kept_some None is = absurd is
  kept_some (Some r) is = ap (λ (b : Bool). if b then Some (checked_result_of r) else None) (subst (λ (l : LogMap). same_logs r.logs l ≡ true) is (logs_again r.logs))

  pub kept_none : (kept : Option Checked) → (IsSomeAnd kept (λ r. r.logs ≡ logs) → ⊥) → including.retained_for (option_map checked_result_of kept) logs ≡ None
  kept_none None apart = refl
  kept_none (Some r) apart = ap (λ (b : Bool). if b then Some (checked_result_of r) else None) (same_or r.logs logs apart)

-- WHAT A NODE FINDS ITSELF

module _ {Dir : Type 0} (c : Fixed Dir) (outcome_of : OutcomeOf) (finish_of : FinishOf) (outcome : c.rules.outcome_of ≡ outcome_of) (finish : c.rules.finish_of ≡ finish_of) where
  by_player : (r : Result (Option (Output × ℕ)) FinishError) → option_map verified_of (finished_by r) ≡ including.of_player r
  by_player (Ok None) = refl
  by_player (Ok (Some found)) = refl
  by_player (Err e) = refl

  by_all : (o : Option Output) → option_map verified_of (option_map observed_output o) ≡ including.of_output o
  by_all None = refl
  by_all (Some output) = refl

  found_is : (round : Round) (player : Option dealt.Dealings) (logs : LogMap)
      → option_map verified_of (results.result_of outcome_of finish_of round player logs) ≡ including.result_by c round (option_map (λ (d : dealt.Dealings). record { me = d.me; dealings = d.dealings }) player) logs
  found_is round None logs = by_all (outcome_of round logs) ∙ ap (λ (f : OutcomeOf). including.of_output (f round logs)) (sym outcome)
  found_is round (Some player) logs = by_player (finish_of round player.me player.dealings logs) ∙ ap (λ (f : FinishOf). including.of_player (f round player.me player.dealings logs)) (sym finish)

  its_me : (player : Option dealt.Dealings) → option_map (λ p. p.me) player ≡ option_map (λ (p : core.Dealings). p.me) (option_map (λ (d : dealt.Dealings). record { me = d.me; dealings = d.dealings }) player)
  its_me None = refl
  its_me (Some player) = refl

  -- of a job
  pub verified_is : (j : job.Job) → checked_result_of (checked outcome_of finish_of j.round j.player j.logs) ≡ including.verified c (job_of j)
  verified_is j = λ i. record { round = j.round; me = its_me j.player i; logs = j.logs; result = found_is j.round j.player j.logs i }

-- A RESULT FOR THE CANONICAL LOGS is kept, whatever was kept before.

stays_not : (b : Bool) → (b && not true) ≡ false
stays_not true = refl
stays_not false = refl

pub keeps_canonical : (found : core.VerifiedLogs) (retained : Option core.VerifiedLogs) (canonical : LogMap) → found.logs ≡ canonical
    → (if is_some (including.retained_for retained canonical) && not (same_logs found.logs canonical) then retained else Some found) ≡ Some found
keeps_canonical found retained canonical same =
    ap (λ (b : Bool). if is_some (including.retained_for retained canonical) && not b then retained else Some found) (subst (λ (l : LogMap). same_logs found.logs l ≡ true) same (logs_again found.logs))
    ∙ ap (λ (b : Bool). if b then retained else Some found) (stays_not (is_some (including.retained_for retained canonical)))
