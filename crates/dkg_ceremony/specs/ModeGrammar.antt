-- The grammar of modes.
use Rattle.std.specs.Prelude.{◌≡◌, ℕ, zero, suc, IsTrue, List, [], ◌∷◌, ◌++◌, Ok, refl}
use Rattle.std.proofs.Common.{subst}
use Rattle.dkg_values.specs.declared.codec.CodecError.TheVariants.{InvalidEnum}
use Rattle.dkg_values.specs.Codec.{IsGrammar}
use Rattle.dkg_values.specs.Grammar.{ok_is, guard_ok}
use Rattle.dkg_ceremony.specs.declared.mode.Mode.{Mode}
use Rattle.dkg_ceremony.specs.declared.mode.Mode.TheVariants.{NonZeroCounter, RootsOfUnity}
use Rattle.dkg_ceremony.specs.Modes.{supports_of, mode_spelling, mode_at}

mode_found : (version : ℕ) (bytes : List ℕ) (v : Mode) (rest : List ℕ) → mode_at version bytes ≡ Ok (v, rest) → IsTrue (supports_of version v) × (bytes ≡ mode_spelling v ++ rest)
unfolding mode_at
mode_found version [] v rest e = absurd cc
mode_found version (zero ∷ bs) v rest e = subst (λ (x : Mode × List ℕ). IsTrue (supports_of version x.0) × (0 ∷ bs ≡ mode_spelling x.0 ++ x.1)) (ok_is (NonZeroCounter, bs) (v, rest) e) (refl, refl)
mode_found version (suc zero ∷ bs) v rest e =
    let g = guard_ok (supports_of version RootsOfUnity) (InvalidEnum 1) (RootsOfUnity, bs) (v, rest) e in
    subst (λ (x : Mode × List ℕ). IsTrue (supports_of version x.0) × (1 ∷ bs ≡ mode_spelling x.0 ++ x.1)) g.1 (g.0, refl)
mode_found version (suc (suc b) ∷ bs) v rest e = absurd cc

mode_again : (version : ℕ) (v : Mode) (rest : List ℕ) → IsTrue (supports_of version v) → mode_at version (mode_spelling v ++ rest) ≡ Ok (v, rest)
unfolding mode_at
mode_again version NonZeroCounter rest has = refl
mode_again version RootsOfUnity rest has = rw has refl

pub mode_grammar : (version : ℕ) → IsGrammar (λ mode. IsTrue (supports_of version mode)) mode_spelling (mode_at version)
mode_grammar version = record { found = λ bytes v rest are e. mode_found version bytes v rest e; again = λ v rest has. mode_again version v rest has }
