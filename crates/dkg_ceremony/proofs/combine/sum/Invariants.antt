use Rattle.std.proofs.Common.{◌≡◌, ◌≤◌, length, drop, map}
use Rattle.std.specs.List.{zip}
use Rattle.dkg_ceremony.specs.PolynomialLaws.{weighted_sum}
use Rattle.dkg_ceremony.specs.Outcomes.{public_in}
use Rattle.dkg_ceremony.proofs.combine.sum.Given as goal

abbrev pub invariant-loop-i : goal.invariant-loop-i
invariant-loop-i l = record {
  is : l.sum.items ≡ weighted_sum l.count (zip (drop l.i l.weights) (map (public_in l.logs) (drop l.i l.selected)));
  long : length l.sum.items ≡ l.count;
  within : l.i ≤ length l.selected;
}

abbrev pub decreases-loop-i : goal.decreases-loop-i
decreases-loop-i l = l.i
