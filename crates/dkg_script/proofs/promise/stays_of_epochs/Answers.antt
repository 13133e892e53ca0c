use Rattle.dkg_script.proofs.EpochsAsCut.{epochs_as_cut}
use Rattle.dkg_script.proofs.promise.stays_of_epochs.Goals as goal

pub returns : goal.returns
returns c = epochs_as_cut
