-- Modes and ways to reveal, and their bytes.
use Rattle.std.specs.Prelude.{ℕ, zero, suc, nat_le, Bool, true, List, [], ◌∷◌, Ok, Err, if◌then◌else◌}
use Rattle.dkg_values.specs.Codec.{Reading}
use Rattle.dkg_values.specs.declared.codec.CodecError.TheVariants.{EndOfBuffer, InvalidEnum}
use Rattle.dkg_ceremony.specs.declared.mode.Mode.{Mode}
use Rattle.dkg_ceremony.specs.declared.mode.Mode.TheVariants.{NonZeroCounter, RootsOfUnity}
use Rattle.dkg_ceremony.specs.declared.mode.Reveal.{Reveal}
use Rattle.dkg_ceremony.specs.declared.mode.Reveal.TheVariants.{V1}

-- whether a version has the mode: version 0 the first one alone
abbrev pub supports_of : ℕ → Mode → Bool
supports_of version NonZeroCounter = true
supports_of version RootsOfUnity = nat_le 1 version

abbrev pub mode_byte : Mode → ℕ
mode_byte NonZeroCounter = 0
mode_byte RootsOfUnity = 1

abbrev pub reveal_byte : Reveal → ℕ
reveal_byte V1 = 0

abbrev pub mode_spelling : Mode → List ℕ
mode_spelling mode = mode_byte mode ∷ []

-- a mode that the version has, by its byte
unfoldable pub mode_at : ℕ → List ℕ → Reading Mode
mode_at version [] = Err EndOfBuffer
mode_at version (zero ∷ rest) = Ok (NonZeroCounter, rest)
mode_at version (suc zero ∷ rest) = if supports_of version RootsOfUnity then Ok (RootsOfUnity, rest) else Err (InvalidEnum 1)
mode_at version (suc (suc b) ∷ rest) = Err (InvalidEnum (suc (suc b)))
