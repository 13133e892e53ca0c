use Rattle.dkg_run.proofs.Empty.{empty_fresh}
use Rattle.dkg_run.proofs.memory.fresh_devices.Goals as goal

pub returns : goal.returns
returns c = record { fresh = empty_fresh _ _ c.new.ensures.files c.new-2.ensures }
