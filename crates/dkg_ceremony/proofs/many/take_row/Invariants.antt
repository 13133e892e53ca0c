use Rattle.std.proofs.Common.{◌≡◌, ℕ, ◌+◌, ◌*◌, ◌%◌, ◌<◌, ◌≤◌, length, get_or}
use Rattle.dkg_ceremony.proofs.many.take_row.Given as goal

abbrev pub invariant-loop-i : goal.invariant-loop-i
invariant-loop-i l = record {
  long : length l.remainder.items ≡ 240;
  done : (k : ℕ) → k < l.i → get_or l.remainder.items k 0 ≡ (get_or l.elements (l.start + k) 0 + l.power * get_or l.fn.remainder.items k 0) % 65521;
  left : (k : ℕ) → l.i ≤ k → get_or l.remainder.items k 0 ≡ get_or l.fn.remainder.items k 0;
}
