use Rattle.dkg_types.proofs.payload.Payload.fits_limits.Goals as goal

pub returns-in-EpochInfo : goal.returns-in-EpochInfo
returns-in-EpochInfo g c = rw c.in-EpochInfo.is (λ most version within. c.fits_limits-in-EpochInfo.ensures most version within)
