use Rattle.std.proofs.Common.{◌≡◌, ◌++◌, length, take}
use Rattle.dkg_values.specs.Uint.{uint}
use Rattle.dkg_values.specs.Lists.{keys_spelling}
use Rattle.dkg_values.proofs.set.SetWrite.put.Given as goal

abbrev pub invariant-loop-key : goal.invariant-loop-key
invariant-loop-key l = l.out.items ≡ (l.fn.out.items ++ uint (length l.key-items)) ++ keys_spelling (take l.key-index l.key-items)
