-- The info that is derived behind an info.
use Rattle.std.specs.Prelude.{ℕ, ◌+◌, List, Option}
use Rattle.dkg_infos.specs.NextInfos.{info_with}
use Rattle.dkg_infos.specs.declared.info.EpochInfo.{EpochInfo}
use Rattle.dkg_artifact.specs.declared.verified.Verified.{Verified}
use Rattle.dkg_verifying.specs.Including.{ended_by}

-- that of the next epoch, by a result, with these players after the next ones, and the directory that is given for its peers
abbrev pub follows_with : {Dir : Type 0} → (directory : (epoch : ℕ) → List ℕ → Dir) → EpochInfo Dir → Option Verified → (next_players : List ℕ) → EpochInfo Dir
follows_with directory info found next_players =
    info_with (directory (info.epoch + 1)) (ended_by info.output found).0 (info.epoch + 1) (ended_by info.output found).1 info.next_players next_players
