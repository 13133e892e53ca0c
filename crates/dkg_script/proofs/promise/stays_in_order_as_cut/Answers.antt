use Rattle.dkg_script.proofs.AsCut.{in_order_as_cut as law}
use Rattle.dkg_script.proofs.promise.stays_in_order_as_cut.Goals as goal

pub returns : goal.returns
returns c = law
