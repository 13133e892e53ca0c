use Rattle.std.proofs.Common.{◌≡◌, take}
use Rattle.dkg_infos.proofs.entry.RestoredListValue.copy.Given as goal

abbrev pub invariant-loop-restored : goal.invariant-loop-restored
invariant-loop-restored l = l.made.items ≡ take l.restored-index l.restored-items
