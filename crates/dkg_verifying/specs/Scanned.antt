-- What a scan of a request's blocks comes to, and the one that stands behind them.
use Rattle.std.specs.Prelude.{◌≡◌, ◌∷◌, [], List, Option}
use Rattle.dkg_ceremony.specs.declared.epocher.Bounds.{Bounds}
use Rattle.dkg_ceremony.specs.declared.round.RoundParts.{RoundParts as Round}
use Rattle.dkg_types.specs.Blocks.{Block}
use Rattle.dkg_artifact.specs.Scans.{Check, IsAwaiting, feeds, first_answer, starts}
use Rattle.dkg_artifact.specs.Seen.{Scan}
use Rattle.dkg_artifact.specs.declared.scan.Fed.{Fed}
use Rattle.dkg_artifact.specs.declared.scan.Fed.TheVariants.{Need, Logs, Unavailable}
use Rattle.dkg_artifact.specs.declared.scan.Tip.{Tip}

-- A scan takes these blocks, the highest first, as long as it needs one.
abbrev pub fed_all : {Dir : Type 0} → Check → Scan → Fed → List (Block Dir) → Fed × Scan
fed_all check s its [] = (its, s)
fed_all check s Need (b ∷ bs) = fed_all check (feeds check s b).1 (feeds check s b).0 bs
fed_all check s (Logs found) (b ∷ bs) = (Logs found, s)
fed_all check s (Unavailable why) (b ∷ bs) = (Unavailable why, s)

-- A scan of the round above a tip was fed these blocks, the highest first, and needs more.
pub record IsFed {Dir : Type 0} (check : Check) (round : Round) (bounds : Bounds) (tip : Option Tip) (blocks : List (Block Dir)) (s : Scan) : Type 0 where
  pub fed : fed_all check (starts round bounds tip) (first_answer bounds.last) blocks ≡ (Need, s)
  pub awaits : IsAwaiting s
