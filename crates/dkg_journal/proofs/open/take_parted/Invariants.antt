use Rattle.std.specs.FinMap.{entries}
use Rattle.dkg_journal.proofs.Finding.{AlongParts}
use Rattle.dkg_journal.proofs.open.take_parted.Given as goal

abbrev pub invariant-loop-section : goal.invariant-loop-section
invariant-loop-section l = AlongParts l.fn.mending.items (entries l.segments) l.section-iterator l.found.waiting.items l.found.places l.found.mending.items
