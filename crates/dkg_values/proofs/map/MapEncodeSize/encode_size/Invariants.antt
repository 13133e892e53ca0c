use Rattle.std.proofs.Common.{◌≡◌, ◌+◌, ◌*◌, length, take}
use Rattle.dkg_values.specs.Uint.{uint}
use Rattle.dkg_values.specs.Sizes.{values_size}
use Rattle.dkg_values.proofs.map.MapEncodeSize.encode_size.Given as goal

abbrev pub invariant-loop-value : goal.invariant-loop-value
invariant-loop-value g l = l.size ≡ 2 * length (uint (length l.self)) + 4 * length l.self + values_size g.V.Spelled.spelling (take l.value-index l.self)
