use Rattle.std.proofs.Common.{take}
use Rattle.std.specs.List.{AllByRecursion}
use Rattle.dkg_ceremony.specs.LogEntries.{EntryFits}
use Rattle.dkg_ceremony.proofs.log_entries.all_known.Given as goal

abbrev pub invariant-loop-entry : goal.invariant-loop-entry
invariant-loop-entry l = AllByRecursion EntryFits (take l.entry-index l.entries)
