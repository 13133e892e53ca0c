use Rattle.dkg_laws.proofs.StandIn.{stand_ins_are_ceremonies as law}
use Rattle.dkg_laws.proofs.stand_ins_are_ceremonies.Goals as goal

pub returns : goal.returns
returns g c = law
