use Rattle.dkg_laws.proofs.Spared.{node_openings_keep_notes as law}
use Rattle.dkg_laws.proofs.node_openings_keep_notes.Goals as goal

pub returns : goal.returns
returns g c = law
