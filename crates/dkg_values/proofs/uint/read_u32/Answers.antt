use Rattle.dkg_values.specs.Uints.{most32}
use Rattle.dkg_values.proofs.uint.read_u32.Goals as goal

pub read_groups-requires : goal.read_groups-requires
read_groups-requires c = rw c.from.ensures most32
