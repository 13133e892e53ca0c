use Rattle.std.proofs.Common.{ℕ}
use Rattle.std.specs.FinMap as map
use Rattle.dkg_journal.proofs.Map.{StaysOrGoes}
use Rattle.dkg_journal.proofs.by_section.BySection.prune.Given as goal

abbrev pub invariant-loop-section : goal.invariant-loop-section
invariant-loop-section g l = (q : ℕ) → StaysOrGoes l.min q (map.get l.initial.self q) (map.get l.self q)

abbrev pub decreases-loop-section : goal.decreases-loop-section
decreases-loop-section g l = map.len l.self
