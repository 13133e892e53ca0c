use Rattle.dkg_script.proofs.AsCut.{comes_as_far as law}
use Rattle.dkg_script.proofs.promise.comes_as_far.Goals as goal

pub returns : goal.returns
returns c = law
