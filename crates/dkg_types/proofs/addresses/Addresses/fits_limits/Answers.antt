use Rattle.std.proofs.Common.{ℕ, List, subst, arith}
use Rattle.std.specs.List.{AllByRecursion}
use Rattle.dkg_values.specs.Lists.{values_of}
use Rattle.dkg_types.specs.declared.addresses.Address.{Address}
use Rattle.dkg_types.specs.AddressCodes.{AddressFits}
use Rattle.dkg_types.proofs.addresses.Addresses.fits_limits.Goals as goal

pub returns : goal.returns
returns c = rw (← c.self.view_is) (λ count many.
    c.fits_limits.ensures tt count count (omega (arith, many)) (omega (arith, many))
    (subst (λ (pairs : List (ℕ × Address)). AllByRecursion AddressFits (values_of pairs)) c.as_slice.ensures.items c.all_known.ensures))
