use Rattle.std.proofs.Common.{◌≡◌, ◌++◌, length, take}
use Rattle.std.specs.Int.{w16, to_be_bytes}
use Rattle.std.specs.List.{flat_map}
use Rattle.dkg_values.specs.Uint.{uint}
use Rattle.dkg_ceremony.proofs.public.put_all.Given as goal

abbrev pub invariant-loop-element : goal.invariant-loop-element
invariant-loop-element l = l.out.items ≡ (l.fn.out.items ++ uint (length l.elements)) ++ flat_map (to_be_bytes w16) (take l.element-index l.elements)
