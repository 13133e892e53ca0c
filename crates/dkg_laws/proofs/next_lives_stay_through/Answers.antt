use Rattle.dkg_core.specs.Asked.{read_somewhere}
use Rattle.dkg_laws.proofs.StillThrough.{next_lives_stay_through as law}
use Rattle.dkg_laws.proofs.next_lives_stay_through.Goals as goal

pub returns : goal.returns
returns g c = λ its. law its (read_somewhere its)
