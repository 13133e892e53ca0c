use Rattle.std.proofs.Common.{◌≡◌, ℕ, ◌++◌, map}
use Rattle.dkg_secrets.specs.Cuts.{keys_below}
use Rattle.dkg_secrets.proofs.number_map.NumberMap.keys_below.Given as goal

abbrev pub invariant-loop-key : goal.invariant-loop-key
invariant-loop-key g l = l.keys.items ++ map (λ e. e.0) l.key-iterator ≡ keys_below (λ (k : ℕ). k) l.min l.self
