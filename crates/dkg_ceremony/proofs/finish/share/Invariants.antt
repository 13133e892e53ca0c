use Rattle.std.proofs.Common.{◌≡◌, ◌<◌, ◌≤◌, length, drop}
use Rattle.std.specs.List.{zip}
use Rattle.dkg_ceremony.specs.Polynomials.{prime}
use Rattle.dkg_ceremony.specs.Finishes.{weighted_total}
use Rattle.dkg_ceremony.proofs.finish.share.Given as goal

abbrev pub invariant-loop-i : goal.invariant-loop-i
invariant-loop-i l = record {
  is : l.total ≡ weighted_total (zip (drop l.i l.weights) (drop l.i l.privates));
  small : l.total < prime;
  within : l.i ≤ length l.privates;
}

abbrev pub decreases-loop-i : goal.decreases-loop-i
decreases-loop-i l = l.i
