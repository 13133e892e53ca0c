use Rattle.std.proofs.Common.{◌∙◌}
use Rattle.dkg_types.proofs.block.Block.fits_limits.Goals as goal

pub returns : goal.returns
returns g c = rw (c.get.ensures ∙ c.self.view_is) at c.fits_limits.ensures
