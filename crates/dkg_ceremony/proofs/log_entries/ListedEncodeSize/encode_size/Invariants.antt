use Rattle.std.proofs.Common.{◌≡◌, ◌+◌, ◌*◌, ◌≤◌, length, take}
use Rattle.dkg_values.specs.Uint.{uint}
use Rattle.dkg_ceremony.specs.LogEntries.{entries_size}
use Rattle.dkg_ceremony.proofs.log_entries.ListedEncodeSize.encode_size.Given as goal

abbrev pub invariant-loop-entry : goal.invariant-loop-entry
invariant-loop-entry l = record {
  is : l.size ≡ length (uint (length l.entry-items)) + entries_size (take l.entry-index l.entry-items);
  within : l.size ≤ length (uint (length l.entry-items)) + 9 * l.entry-index;
}
