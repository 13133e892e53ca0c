use Rattle.dkg_laws.proofs.Idle.{mails_are_idle as law}
use Rattle.dkg_laws.proofs.mails_are_idle.Goals as goal

pub returns : goal.returns
returns g c = law
