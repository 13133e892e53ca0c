use Rattle.dkg_types.proofs.block.carried_fits.Goals as goal

pub returns-in-Some : goal.returns-in-Some
returns-in-Some g c = rw (← c.in-Some.ensures) (λ most version within. c.fits_limits.ensures most version within)
