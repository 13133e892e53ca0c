use Rattle.std.proofs.Common.{◌≡◌, [], ◌∷◌, ◌++◌, map}
use Rattle.std.specs.Int.{w64, to_be_bytes}
use Rattle.std.specs.List.{range_with_len}
use Rattle.dkg_ceremony.specs.Deals.{coefficient_of}
use Rattle.dkg_generator.proofs.chain.polynomial.Given as goal

abbrev pub invariant-loop-index : goal.invariant-loop-index
invariant-loop-index l = l.elements.items ≡ map (coefficient_of (to_be_bytes w64 l.number ++ 1 ∷ [])) (range_with_len 0 l.index)
