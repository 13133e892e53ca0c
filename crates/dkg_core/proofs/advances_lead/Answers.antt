use Rattle.dkg_core.specs.Asked.{read_somewhere}
use Rattle.dkg_core.proofs.Advancing.{advances_lead as law}
use Rattle.dkg_core.proofs.advances_lead.Goals as goal

pub returns : goal.returns
returns g c = λ its. law its (read_somewhere its)
