use Rattle.dkg_values.specs.Sizes.{map_sizes}
use Rattle.dkg_values.proofs.map.Map.has_size.Goals as goal

pub returns : goal.returns
returns g c = λ each small short can. map_sizes g.V.Spelled.spelling g.V.EncodeSize.can_size c.args.self.now each c.as_slice-pairs.ensures.kept.in_bound small short can
