use Rattle.std.proofs.Common.{◌≡◌, ℕ, ◌+◌, ◌<◌, length, get_or}
use Rattle.std.specs.BTreeMap.{get}
use Rattle.std.specs.Ordering.{nat_cmp}
use Rattle.std.specs.Prelude.{IfSome}
use Rattle.dkg_ceremony.specs.Polynomials.{IsRemainder, value_at}
use Rattle.dkg_ceremony.proofs.many.values_of.Given as goal

abbrev pub invariant-loop-index : goal.invariant-loop-index
invariant-loop-index l = record {
  remainders : (y : ℕ) → IfSome (get nat_cmp l.remainders y) (λ remainder. IsRemainder remainder.items l.poly y);
  long : length l.values.items ≡ l.index;
  each : (k : ℕ) → k < l.index → get_or l.values.items k 0 ≡ value_at l.poly (k + 1);
}
