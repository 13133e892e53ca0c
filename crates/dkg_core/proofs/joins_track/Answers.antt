use Rattle.dkg_core.proofs.Joining.{joins_track as law}
use Rattle.dkg_core.proofs.joins_track.Goals as goal

pub returns : goal.returns
returns g c = law
