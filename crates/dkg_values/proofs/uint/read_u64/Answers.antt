use Rattle.dkg_values.specs.Uints.{most64}
use Rattle.dkg_values.proofs.uint.read_u64.Goals as goal

pub read_groups-requires : goal.read_groups-requires
read_groups-requires c = most64
