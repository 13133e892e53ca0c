use Rattle.std.proofs.Common.{◌≡◌, take}
use Rattle.dkg_setup.proofs.opening.list_of.Given as goal

abbrev pub invariant-loop-one : goal.invariant-loop-one
invariant-loop-one l = l.list.items ≡ take l.one-index l.restored
