use Rattle.std.proofs.Common.{◌≡◌, take}
use Rattle.dkg_ceremony.specs.Deals.{halves_from}
use Rattle.dkg_ceremony.proofs.deal.halves.Given as goal

abbrev pub invariant-loop-index : goal.invariant-loop-index
invariant-loop-index l = l.pairs.items ≡ halves_from l.poly 0 (take l.index l.keys)
