use Rattle.dkg_core.specs.Asked.{read_somewhere}
use Rattle.dkg_core.proofs.StepThrough.{steps_come_through as law}
use Rattle.dkg_core.proofs.steps_come_through.Goals as goal

pub returns : goal.returns
returns g c = λ its. law its (read_somewhere its)
