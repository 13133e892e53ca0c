use Rattle.dkg_script.proofs.ConsistentAsCut.{valid_if_cut as law}
use Rattle.dkg_script.proofs.promise.valid_as_cut.Goals as goal

pub returns : goal.returns
returns c = law
