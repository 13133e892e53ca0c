-- Scans and verifications as contracts see them.
use Rattle.std.specs.Prelude.{ℕ, List, Option}
use Rattle.dkg_ceremony.specs.declared.round.RoundParts.{RoundParts as Round}
use Rattle.dkg_ceremony.specs.Outcomes.{LogMap}
use Rattle.dkg_artifact.specs.declared.job.Job.{Job}
use Rattle.dkg_artifact.specs.Results.{Checked}

-- the height of the block that is read next, and the digest that the one above names, where one was read
pub record Next : Type 0 where
  pub height : ℕ
  pub digest : Option (List ℕ)

-- the round whose logs count, the height of the epoch's final block, the last needed height, the digest that the lowest link has to be where the
-- tip's successor is needed, what is read next unless the scan has answered, and the logs found so far
pub record Scan : Type 0 where
  pub round : Round
  pub last : ℕ
  pub down_to : ℕ
  pub below : Option (List ℕ)
  pub next : Option Next
  pub found : LogMap

-- the job that runs, and the result that is kept
pub record Verification : Type 0 where
  pub running : Option Job
  pub kept : Option Checked
