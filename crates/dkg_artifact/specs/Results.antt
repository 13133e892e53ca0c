-- Results of a round's logs.
use Rattle.std.specs.Prelude.{◌≡◌, ℕ, Option, Some, None, option_map, option_and_then, is_some, Result, Ok, Err}
use Rattle.dkg_ceremony.specs.declared.finish.FinishError.{FinishError}
use Rattle.dkg_ceremony.specs.declared.output.Output.{Output}
use Rattle.dkg_ceremony.specs.declared.round.RoundParts.{RoundParts as Round}
use Rattle.dkg_ceremony.specs.Finishes.{DealingMap}
use Rattle.dkg_ceremony.specs.Outcomes.{LogMap}
use Rattle.dkg_artifact.specs.declared.job.Dealings.{Dealings}
use Rattle.dkg_artifact.specs.declared.job.Job.{Job}
use Rattle.dkg_artifact.specs.declared.verified.Verified.{Verified}

-- what a result was made of, and what it is
pub record Checked : Type 0 where
  pub round : Round
  pub me : Option ℕ
  pub logs : LogMap
  pub result : Option Verified

-- What a ceremony says of a result. A share is there exactly where a result and a `me` are, and it is that of `me` by the output.
pub record IsResult (outcome_of : Round → LogMap → Option Output) (share_public_of : ℕ → ℕ) (partial_public_of : Output → ℕ → Option ℕ)
    (c : Checked) : Type 0 where
  pub outcome : option_map (λ v. v.output) c.result ≡ outcome_of c.round c.logs
  pub shared : option_map (λ v. is_some v.share) c.result ≡ option_map (λ v. is_some c.me) c.result
  pub fits : option_and_then (λ v. option_map share_public_of v.share) c.result
      ≡ option_and_then (λ v. option_and_then (partial_public_of v.output) c.me) c.result

-- WHAT IS VERIFIED

abbrev pub observed_output : Output → Verified
observed_output output = record { output = output; share = None }

abbrev pub finished : Output × ℕ → Verified
finished found = record { output = found.0; share = Some found.1 }

-- a player's result; a missing dealing gives none
abbrev pub finished_by : Result (Option (Output × ℕ)) FinishError → Option Verified
finished_by (Ok found) = option_map finished found
finished_by (Err e) = None

-- The outcome that all see, or what a player finishes with.
abbrev pub result_of : (Round → LogMap → Option Output)
    → (Round → ℕ → DealingMap → LogMap → Result (Option (Output × ℕ)) FinishError) → Round → Option Dealings → LogMap → Option Verified
result_of outcome_of finish_of round None logs = option_map observed_output (outcome_of round logs)
result_of outcome_of finish_of round (Some player) logs = finished_by (finish_of round player.me player.dealings logs)

abbrev pub checked : (Round → LogMap → Option Output)
    → (Round → ℕ → DealingMap → LogMap → Result (Option (Output × ℕ)) FinishError) → Round → Option Dealings → LogMap → Checked
checked outcome_of finish_of round player logs = record {
  round = round;
  me = option_map (λ p. p.me) player;
  logs = logs;
  result = result_of outcome_of finish_of round player logs;
}

-- A result is a job's: of its round and its logs, and for its player.
abbrev pub IsResultOfJob : Job → Checked → Type 0
IsResultOfJob job c = (c.round ≡ job.round) × (c.me ≡ option_map (λ p. p.me) job.player) × (c.logs ≡ job.logs)
