use Rattle.dkg_script.proofs.ValidAsCut.{valid_anyhow as law}
use Rattle.dkg_script.proofs.promise.valid_anyhow.Goals as goal

pub returns : goal.returns
returns c = law
