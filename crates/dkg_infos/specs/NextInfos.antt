-- The info of the epoch after an epoch, by the logs of its ceremony. What the logs make is a ceremony's `outcome_of`.
use Rattle.std.specs.Prelude.{ℕ, ◌+◌, List, [], Option, Some, None, option_map}
use Rattle.dkg_ceremony.specs.declared.output.Output.{Output}
use Rattle.dkg_ceremony.specs.declared.round.RoundParts.{RoundParts as Round}
use Rattle.dkg_ceremony.specs.Outcomes.{LogMap}
use Rattle.dkg_infos.specs.declared.info.EpochInfo.{EpochInfo}
use Rattle.dkg_infos.specs.declared.outcome.EpochOutcome.{EpochOutcome}
use Rattle.dkg_infos.specs.declared.outcome.EpochOutcome.TheVariants.{Success, Failure}
use Rattle.dkg_infos.specs.InfoCodes.{peers_of}

-- what a provider says: who takes part in each epoch, and how a set of peers is reached in it
pub record Provided (Dir : Type 0) : Type 0 where
  pub participants : ℕ → List ℕ
  pub directory : (epoch : ℕ) → List ℕ → Dir

-- an info of these parts, with the directory of exactly its peers
abbrev pub info_with : {Dir : Type 0} → (List ℕ → Dir) → EpochOutcome → (epoch : ℕ) → Output → (players next_players : List ℕ) → EpochInfo Dir
info_with directory outcome epoch output players next_players = record {
  outcome = outcome;
  epoch = epoch;
  output = output;
  players = players;
  next_players = next_players;
  directory = directory (peers_of output.players players next_players);
}

-- the info after an info, with an output: who was to play next plays, and the provider says who plays after them
abbrev pub info_after : {Dir : Type 0} → Provided Dir → EpochInfo Dir → EpochOutcome → Output → EpochInfo Dir
info_after provided i outcome output = info_with (provided.directory (i.epoch + 1)) outcome (i.epoch + 1) output i.next_players (provided.participants (i.epoch + 2))

-- a ceremony that failed carries the output forward
abbrev pub info_by : {Dir : Type 0} → Provided Dir → EpochInfo Dir → Option Output → EpochInfo Dir
info_by provided i None = info_after provided i Failure i.output
info_by provided i (Some output) = info_after provided i Success output

-- The info of the epoch after an info's, by the logs of the round of the info's epoch.
unfoldable pub next_info : {Dir : Type 0} → (outcome_of : Round → LogMap → Option Output) → Provided Dir → EpochInfo Dir → Round → LogMap → EpochInfo Dir
next_info outcome_of provided i round logs = info_by provided i (outcome_of round logs)

-- The info that a one-shot ceremony ends in: of epoch 0, its participants as players, and no next players. Without an outcome there is none.
unfoldable pub oneshot_info : {Dir : Type 0} → (outcome_of : Round → LogMap → Option Output) → (List ℕ → Dir) → (participants : List ℕ) → Round → LogMap → Option (EpochInfo Dir)
oneshot_info outcome_of directory participants round logs = option_map (λ output. info_with directory Success 0 output participants []) (outcome_of round logs)
