use Rattle.dkg_laws.proofs.Finishing.{stand_ins_finish as law}
use Rattle.dkg_laws.proofs.stand_ins_finish.Goals as goal

pub returns : goal.returns
returns g c = law
