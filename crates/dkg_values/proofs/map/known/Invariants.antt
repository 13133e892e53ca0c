use Rattle.std.proofs.Common.{ℕ, ◌<◌, ◌^◌, get_or}
use Rattle.dkg_values.specs.Rising.{keys_of}
use Rattle.dkg_values.proofs.map.known.Given as goal

abbrev pub invariant-loop-key : goal.invariant-loop-key
invariant-loop-key g l = (k : ℕ) → k < l.key-index → get_or (keys_of l.pairs) k 0 < 2 ^ 32
