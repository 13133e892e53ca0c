use Rattle.std.proofs.Common.{◌≡◌, ℕ, ◌<◌, ◌≤◌, get_or}
use Rattle.dkg_ceremony.specs.PolynomialLaws.{poly_sum, poly_times}
use Rattle.dkg_ceremony.proofs.combine.add_times.Given as goal

abbrev pub invariant-loop-i : goal.invariant-loop-i
invariant-loop-i l = record {
  done : (k : ℕ) → k < l.i → get_or l.sum k 0 ≡ get_or (poly_sum (poly_times l.weight l.public) l.fn.sum) k 0;
  left : (k : ℕ) → l.i ≤ k → get_or l.sum k 0 ≡ get_or l.fn.sum k 0;
}
