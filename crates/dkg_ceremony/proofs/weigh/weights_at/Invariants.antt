use Rattle.std.proofs.Common.{◌≡◌, map, take}
use Rattle.dkg_ceremony.specs.Weights.{weight_at}
use Rattle.dkg_ceremony.proofs.weigh.weights_at.Given as goal

abbrev pub invariant-loop-own : goal.invariant-loop-own
invariant-loop-own l = l.weights.items ≡ map (weight_at l.points) (take l.own-index l.points)
