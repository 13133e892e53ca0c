use Rattle.std.proofs.Common.{ℕ, ◌+◌, ◌<◌, get_or}
use Rattle.dkg_values.specs.Rising.{keys_of}
use Rattle.dkg_values.proofs.map.is_rising.Given as goal

abbrev pub invariant-loop-i : goal.invariant-loop-i
invariant-loop-i g l = (k : ℕ) → k + 1 < l.i → get_or (keys_of l.pairs) k 0 < get_or (keys_of l.pairs) (k + 1) 0
