use Rattle.dkg_script.proofs.EpochsWithin.{epochs_within}
use Rattle.dkg_script.proofs.promise.lies_within_inclusion.Goals as goal

pub returns : goal.returns
returns c = epochs_within
