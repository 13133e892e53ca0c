use Rattle.std.proofs.Common.{◌≡◌, take}
use Rattle.dkg_values.proofs.map.MapValue.copy.Given as goal

abbrev pub invariant-loop-k : goal.invariant-loop-k
invariant-loop-k g l = l.pairs.items ≡ take l.k-index l.k-items
