use Rattle.std.proofs.Common.{◌≡◌}
use Rattle.dkg_ceremony.specs.Deals.{dealt_poly}
use Rattle.dkg_ceremony.proofs.deal.polynomial.Given as goal

abbrev pub invariant-loop-index : goal.invariant-loop-index
invariant-loop-index l = l.elements.items ≡ dealt_poly l.again l.seed l.index
