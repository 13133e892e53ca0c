use Rattle.dkg_journal.proofs.Counting.{Swept}
use Rattle.dkg_journal.proofs.file.place_behind.Given as goal

abbrev pub invariant-loop-span : goal.invariant-loop-span
invariant-loop-span l = Swept l.spans l.synced l.len l.count l.at l.left l.span-index
