use Rattle.std.proofs.Common.{◌≡◌, ℕ, ◌<◌, get_or}
use Rattle.dkg_values.specs.Rising.{keys_of}
use Rattle.dkg_values.proofs.map.Map.has_keys.Given as goal

abbrev pub invariant-loop-i : goal.invariant-loop-i
invariant-loop-i g l = (k : ℕ) → k < l.i → get_or (keys_of l.self) k 0 ≡ get_or l.keys k 0
