use Rattle.std.proofs.Common.{length}
use Rattle.dkg_journal.specs.Gated.{FrontGated}
use Rattle.dkg_journal.proofs.opening.parse.Given as goal

abbrev pub invariant-loop-after : goal.invariant-loop-after
invariant-loop-after l = FrontGated l.section l.bytes l.rest l.initial.entries.items l.entries.items l.place

abbrev pub decreases-loop-after : goal.decreases-loop-after
decreases-loop-after l = length l.rest
