use Rattle.dkg_values.specs.Fits.{map_fits}
use Rattle.dkg_values.proofs.map.Map.fits_limits.Goals as goal

pub returns : goal.returns
returns g c = λ cfg least most many few values. map_fits (g.V.Read.fits cfg) least most c.args.self.now c.as_slice-pairs.ensures.kept many few values
