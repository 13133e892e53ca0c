-- Sharings as bytes.
use Rattle.std.specs.Prelude.{ℕ, ◌-◌, ◌^◌, ◌<◌, IsTrue, List, [], ◌∷◌, ◌++◌}
use Rattle.dkg_values.specs.Codec.{Reading}
use Rattle.dkg_values.specs.Uint.{uint, uint_at}
use Rattle.dkg_values.specs.Lists.{public_at, public_spelling, PublicFits}
use Rattle.dkg_values.specs.Joined.{beside_at, BothFit, seen_at}
use Rattle.dkg_ceremony.specs.declared.mode.Mode.{Mode}
use Rattle.dkg_ceremony.specs.declared.sharing.Sharing.{Sharing}
use Rattle.dkg_ceremony.specs.Modes.{supports_of, mode_byte, mode_at}

abbrev pub sharing_bytes : Sharing → List ℕ
sharing_bytes s = mode_byte s.mode ∷ [] ++ uint s.total ++ public_spelling s.poly

abbrev pub SharingParts : Type 0
SharingParts = Mode × (ℕ × List ℕ)

abbrev pub sharing_from : SharingParts → Sharing
sharing_from p = record { mode = p.0; total = p.1.0; poly = p.1.1 }

abbrev pub sharing_parts : Sharing → SharingParts
sharing_parts s = (s.mode, (s.total, s.poly))

-- a mode, the number of holders, and the polynomial
abbrev pub sharing_at : (most version : ℕ) → List ℕ → Reading Sharing
sharing_at most version = seen_at sharing_from (beside_at (mode_at version) (beside_at (uint_at (2 ^ 32 - 1)) (public_at most)))

abbrev pub SharingFits : (most version : ℕ) → Sharing → Type 0
SharingFits most version s = BothFit (λ mode. IsTrue (supports_of version mode)) (BothFit (λ n. n < 2 ^ 32) (PublicFits most)) (sharing_parts s)
