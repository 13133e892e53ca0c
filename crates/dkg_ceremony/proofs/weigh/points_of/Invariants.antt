use Rattle.std.proofs.Common.{◌≡◌, map, take}
use Rattle.dkg_ceremony.specs.Weights.{point_in}
use Rattle.dkg_ceremony.proofs.weigh.points_of.Given as goal

abbrev pub invariant-loop-key : goal.invariant-loop-key
invariant-loop-key l = l.points.items ≡ map (point_in l.keys) (take l.key-index l.chosen)
