use Rattle.std.proofs.Common.{◌≡◌, ◌<◌, take}
use Rattle.dkg_ceremony.specs.Polynomials.{prime}
use Rattle.dkg_ceremony.specs.Weights.{bottom_of}
use Rattle.dkg_ceremony.proofs.weigh.bottom.Given as goal

abbrev pub invariant-loop-other : goal.invariant-loop-other
invariant-loop-other l = record {
  is : l.product ≡ bottom_of (take l.other-index l.points) l.own;
  small : l.product < prime;
}
