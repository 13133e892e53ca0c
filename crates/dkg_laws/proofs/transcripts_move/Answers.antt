use Rattle.dkg_laws.proofs.Transcripts.{transcripts_move as law}
use Rattle.dkg_laws.proofs.transcripts_move.Goals as goal

pub returns : goal.returns
returns g c = law
