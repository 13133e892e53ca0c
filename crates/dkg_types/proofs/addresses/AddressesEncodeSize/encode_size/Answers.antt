use Rattle.dkg_types.specs.AddressCodes.{addresses_size}
use Rattle.dkg_types.proofs.addresses.AddressesEncodeSize.encode_size.Goals as goal

pub encode_size-requires : goal.encode_size-requires
encode_size-requires c = addresses_size c.self.inside.addresses c.as_slice-kept.ensures.kept
