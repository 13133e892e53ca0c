use Rattle.dkg_laws.proofs.NodeThrough.{halves_pass_on as law}
use Rattle.dkg_laws.proofs.halves_pass_on.Goals as goal

pub returns : goal.returns
returns g c = law
