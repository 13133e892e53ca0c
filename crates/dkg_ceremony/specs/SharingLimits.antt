-- A sharing's parts are all that its spelling asks, but the limit and the version.
use Rattle.std.specs.Prelude.{ℕ, ◌<◌, ◌^◌, IsTrue}
use Rattle.dkg_values.specs.Lists.{PublicFits}
use Rattle.dkg_ceremony.specs.declared.sharing.Sharing.{Sharing}
use Rattle.dkg_ceremony.specs.Modes.{supports_of}
use Rattle.dkg_ceremony.specs.Sharings.{SharingFits}

pub sharing_fits : (most version : ℕ) (s : Sharing) → IsTrue (supports_of version s.mode) → s.total < 2 ^ 32 → PublicFits most s.poly → SharingFits most version s
sharing_fits most version s has small poly = record { one = has; other = record { one = small; other = poly } }
