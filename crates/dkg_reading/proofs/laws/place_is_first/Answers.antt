use Rattle.dkg_reading.proofs.Places.{first_place}
use Rattle.dkg_reading.proofs.laws.place_is_first.Goals as goal

pub returns : goal.returns
returns c = first_place
