use Rattle.std.proofs.Common.{◌≡◌, ◌≤◌, take}
use Rattle.std.specs.List.{count_by}
use Rattle.dkg_ceremony.specs.ValidLogs.{is_reveal}
use Rattle.dkg_ceremony.proofs.valid_log.revealed.Given as goal

abbrev pub invariant-loop-entry : goal.invariant-loop-entry
invariant-loop-entry l = record {
  is : l.count ≡ count_by is_reveal (take l.entry-index l.entries);
  within : l.count ≤ l.entry-index;
}
