use Rattle.dkg_core.specs.Asked.{read_somewhere}
use Rattle.dkg_laws.proofs.NodeSaying.{node_steps_say_through as law}
use Rattle.dkg_laws.proofs.node_steps_say_through.Goals as goal

pub returns : goal.returns
returns g c = λ its. law its (read_somewhere its)
