use Rattle.std.proofs.Common.{◌≡◌, ◌++◌, take}
use Rattle.dkg_inclusion.proofs.scanning.filled_by.Given as goal

abbrev pub invariant-loop-dealer : goal.invariant-loop-dealer
invariant-loop-dealer l = l.pairs.items ≡ take l.dealer-index l.dealer-items

abbrev pub invariant-loop-dealer-2 : goal.invariant-loop-dealer-2
invariant-loop-dealer-2 l = l.pairs.items ≡ l.initial.pairs.items ++ take l.dealer-index l.dealer-items
