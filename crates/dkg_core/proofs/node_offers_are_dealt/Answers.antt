use Rattle.dkg_core.proofs.Offering.{node_offers_are_dealt as law}
use Rattle.dkg_core.proofs.node_offers_are_dealt.Goals as goal

pub returns : goal.returns
returns g c = law
