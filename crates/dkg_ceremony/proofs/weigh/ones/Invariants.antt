use Rattle.std.proofs.Common.{◌≡◌, map, take}
use Rattle.dkg_ceremony.proofs.weigh.ones.Given as goal

abbrev pub invariant-loop-key : goal.invariant-loop-key
invariant-loop-key l = l.weights.items ≡ map (λ _. 1) (take l._key-index l.chosen)
