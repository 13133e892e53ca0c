use Rattle.dkg_core.proofs.Lines.{runs_add_deeds as law}
use Rattle.dkg_core.proofs.runs_add_deeds.Goals as goal

pub returns : goal.returns
returns g c = law
