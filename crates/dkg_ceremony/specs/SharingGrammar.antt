-- The grammar of sharings.
use Rattle.std.specs.Prelude.{ℕ, ◌-◌, ◌^◌, ◌<◌, IsTrue, refl}
use Rattle.std.proofs.Common.{append_assoc}
use Rattle.dkg_values.specs.Codec.{IsGrammar}
use Rattle.dkg_values.specs.Uint.{uint, uint_at}
use Rattle.dkg_values.specs.UintGrammar.{u32_grammar}
use Rattle.dkg_values.specs.Lists.{public_at, public_spelling, PublicFits}
use Rattle.dkg_values.specs.ListGrammar.{public_grammar}
use Rattle.dkg_values.specs.Joined.{beside_at, beside_grammar, BothFit, both_spelled, seen_grammar}
use Rattle.dkg_ceremony.specs.declared.mode.Mode.{Mode}
use Rattle.dkg_ceremony.specs.Modes.{supports_of, mode_spelling, mode_at}
use Rattle.dkg_ceremony.specs.ModeGrammar.{mode_grammar}
use Rattle.dkg_ceremony.specs.Sharings.{sharing_bytes, sharing_from, sharing_parts, sharing_at, SharingFits}

pub sharing_grammar : (most version : ℕ) → IsGrammar (SharingFits most version) sharing_bytes (sharing_at most version)
sharing_grammar most version =
    let modes : Mode → Type 0 = λ mode. IsTrue (supports_of version mode) in
    let counts : ℕ → Type 0 = λ n. n < 2 ^ 32 in
    let numbers = beside_grammar counts uint (uint_at (2 ^ 32 - 1)) (PublicFits most) public_spelling (public_at most) u32_grammar (public_grammar most) in
    let all = beside_grammar modes mode_spelling (mode_at version) (BothFit counts (PublicFits most)) (both_spelled uint public_spelling) (beside_at (uint_at (2 ^ 32 - 1)) (public_at most)) (mode_grammar version) numbers in
    seen_grammar (BothFit modes (BothFit counts (PublicFits most))) (both_spelled mode_spelling (both_spelled uint public_spelling)) (beside_at (mode_at version) (beside_at (uint_at (2 ^ 32 - 1)) (public_at most))) sharing_from sharing_parts sharing_bytes all
    (λ a. refl) (λ b. refl) (λ s. simp append_assoc)
