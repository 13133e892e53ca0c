use Rattle.dkg_script.proofs.InclusionAsCut.{inclusion_as_cut}
use Rattle.dkg_script.proofs.promise.stays_of_inclusion.Goals as goal

pub returns : goal.returns
returns c = inclusion_as_cut
