use Rattle.std.proofs.Common.{◌≡◌, ◌≤◌, length, take}
use Rattle.std.specs.List.{filter}
use Rattle.dkg_ceremony.specs.Outcomes.{has_valid}
use Rattle.dkg_ceremony.proofs.select.select.Given as goal

abbrev pub invariant-loop-dealer : goal.invariant-loop-dealer
invariant-loop-dealer l = record {
  is : l.selected.items ≡ filter (has_valid l.round l.logs) (take l.dealer-index l.dealer-items);
  within : length l.selected.items ≤ l.enough;
}
