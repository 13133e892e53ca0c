use Rattle.std.proofs.Common.{◌≡◌, ℕ, ◌+◌, ◌*◌, ◌≤◌, length, drop}
use Rattle.dkg_ceremony.specs.Polynomials.{power, value_at}
use Rattle.dkg_ceremony.proofs.many.remainder_of.Given as goal

abbrev pub invariant-loop-row : goal.invariant-loop-row
invariant-loop-row l = record {
  long : length l.remainder.items ≡ 240;
  within : l.row * 240 ≤ length l.elements + 240;
  is : (x : ℕ) → power x 240 ≡ l.power → value_at l.remainder.items x ≡ value_at (drop (l.row * 240) l.elements) x;
}

abbrev pub decreases-loop-row : goal.decreases-loop-row
decreases-loop-row l = l.row
