use Rattle.std.proofs.Common.{take}
use Rattle.std.specs.List.{AllByRecursion}
use Rattle.dkg_values.specs.Lists.{values_of}
use Rattle.dkg_types.specs.AddressCodes.{AddressFits}
use Rattle.dkg_types.proofs.addresses.all_known.Given as goal

abbrev pub invariant-loop-pair : goal.invariant-loop-pair
invariant-loop-pair l = AllByRecursion AddressFits (values_of (take l.pair-index l.pairs))
