use Rattle.dkg_artifact.specs.Scans.{IsAwaiting}
use Rattle.dkg_cases.proofs.paths.answer_of.Given as goal

abbrev pub invariant-loop-block : goal.invariant-loop-block
invariant-loop-block g l = IsAwaiting l.scan
