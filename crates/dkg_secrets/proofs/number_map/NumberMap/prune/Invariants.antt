use Rattle.std.proofs.Common.{ℕ}
use Rattle.std.specs.FinMap as map
use Rattle.dkg_secrets.specs.Keys.{StaysOrGoes}
use Rattle.dkg_secrets.proofs.number_map.NumberMap.prune.Given as goal

abbrev pub invariant-loop-key : goal.invariant-loop-key
invariant-loop-key g l = (q : ℕ) → StaysOrGoes l.min q (map.get l.initial.self q) (map.get l.self q)

abbrev pub decreases-loop-key : goal.decreases-loop-key
decreases-loop-key g l = map.len l.self
