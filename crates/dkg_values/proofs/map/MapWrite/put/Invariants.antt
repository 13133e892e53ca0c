use Rattle.std.proofs.Common.{◌≡◌, ◌++◌, length, take}
use Rattle.std.specs.List.{flat_map}
use Rattle.dkg_values.specs.Uint.{uint}
use Rattle.dkg_values.specs.Rising.{keys_of}
use Rattle.dkg_values.specs.Lists.{keys_spelling, set_spelling, values_of}
use Rattle.dkg_values.proofs.map.MapWrite.put.Given as goal

abbrev pub invariant-loop-key : goal.invariant-loop-key
invariant-loop-key g l = l.out.items ≡ (l.fn.out.items ++ uint (length l.self)) ++ keys_spelling (keys_of (take l.key-index l.self))

abbrev pub invariant-loop-value : goal.invariant-loop-value
invariant-loop-value g l = l.out.items ≡ ((l.fn.out.items ++ set_spelling (keys_of l.self)) ++ uint (length l.self)) ++ flat_map g.V.Spelled.spelling (values_of (take l.value-index l.self))
