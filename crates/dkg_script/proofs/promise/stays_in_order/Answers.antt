use Rattle.dkg_script.proofs.EachEntry.{stays_in_order as law}
use Rattle.dkg_script.proofs.promise.stays_in_order.Goals as goal

pub returns : goal.returns
returns c = law
