use Rattle.std.proofs.Common.{◌≡◌, ◌*◌, ◌%◌, ◌^◌, ◌<◌}
use Rattle.dkg_ceremony.specs.Polynomials.{prime}
use Rattle.dkg_ceremony.specs.Weights.{inverse_of}
use Rattle.dkg_ceremony.proofs.weigh.inverse.Given as goal

abbrev pub invariant-loop-exponent : goal.invariant-loop-exponent
invariant-loop-exponent l = record {
  is : (l.power * l.base ^ l.exponent) % prime ≡ inverse_of l.number;
  power_small : l.power < prime;
  base_small : l.base < prime;
}

abbrev pub decreases-loop-exponent : goal.decreases-loop-exponent
decreases-loop-exponent l = l.exponent
