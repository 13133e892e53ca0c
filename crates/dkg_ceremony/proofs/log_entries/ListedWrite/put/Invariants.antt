use Rattle.std.proofs.Common.{◌≡◌, ◌++◌, length, take}
use Rattle.std.specs.List.{flat_map}
use Rattle.dkg_values.specs.Uint.{uint}
use Rattle.dkg_ceremony.specs.LogEntries.{entry_spelling}
use Rattle.dkg_ceremony.proofs.log_entries.ListedWrite.put.Given as goal

abbrev pub invariant-loop-entry : goal.invariant-loop-entry
invariant-loop-entry l = l.out.items ≡ (l.fn.out.items ++ uint (length l.entry-items)) ++ flat_map entry_spelling (take l.entry-index l.entry-items)
