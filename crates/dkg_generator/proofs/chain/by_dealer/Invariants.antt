use Rattle.std.proofs.Common.{◌≡◌, map, take}
use Rattle.dkg_generator.specs.Chain.{dealer_and_log}
use Rattle.dkg_generator.proofs.chain.by_dealer.Given as goal

abbrev pub invariant-loop-signed : goal.invariant-loop-signed
invariant-loop-signed l = l.pairs.items ≡ map dealer_and_log (take l.signed-index l.logs)
