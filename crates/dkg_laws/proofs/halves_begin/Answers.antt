use Rattle.dkg_laws.proofs.Openings.{halves_begin as law}
use Rattle.dkg_laws.proofs.halves_begin.Goals as goal

pub returns : goal.returns
returns g c = law
