-- The first polynomial, output and info of a chain.
use Rattle.std.proofs.Common.{◌≡◌, ℕ, ◌%◌, true, List, [], ◌∷◌, ◌++◌, length, get_or, take, refl, sym, ap, ◌∙◌, arith, map}
use Rattle.std.specs.Prelude.{replicate}
use Rattle.std.specs.Int.{w16, w32, w64, from_be_bytes, to_be_bytes}
use Rattle.sha2.specs.Sha256.{sha256}
use Rattle.dkg_ceremony.specs.declared.mode.Mode.TheVariants.{NonZeroCounter}
use Rattle.dkg_ceremony.specs.declared.output.Output.{Output}
use Rattle.dkg_ceremony.specs.declared.sharing.Sharing.{Sharing}
use Rattle.dkg_ceremony.specs.Agreement.{PartsAgree, parts_agree}
use Rattle.dkg_ceremony.specs.AgreementTest.{agreed}
use Rattle.dkg_ceremony.specs.Deals.{coefficient_of}
use Rattle.dkg_ceremony.specs.OutputGrammar.{output_by_parts}
use Rattle.dkg_infos.specs.declared.outcome.EpochOutcome.TheVariants.{Success}
use Rattle.dkg_generator.specs.Chain.{everybody, genesis, genesis_output, genesis_poly}
use Rattle.dkg_generator.specs.Made.{Shown}

-- THE COEFFICIENTS

two_in_front : (digest : List ℕ) → length digest ≡ 32 → take 2 digest ≡ get_or digest 0 0 ∷ get_or digest 1 0 ∷ []
two_in_front [] e = absurd (omega arith)
two_in_front (a ∷ []) e = absurd (omega arith)
two_in_front (a ∷ b ∷ bs) e = refl

pub is_coefficient : (seed digest : List ℕ) (index drawn element : ℕ) → length digest ≡ 32 → digest ≡ sha256 (seed ++ to_be_bytes w32 index) → drawn ≡ from_be_bytes w16 (get_or digest 0 0 ∷ get_or digest 1 0 ∷ []) → element ≡ drawn % 65521
    → element ≡ coefficient_of seed index
unfolding coefficient_of
is_coefficient seed digest index drawn element size is front same =
    same
    ∙ ap (λ (n : ℕ). n % 65521) (front ∙ ap (from_be_bytes w16) (sym (two_in_front digest size)))
    ∙ ap (λ (bytes : List ℕ). from_be_bytes w16 (take 2 bytes) % 65521) is

-- THE OUTPUT

its_parts_agree : (number : ℕ) → parts_agree 7 (genesis_poly number) everybody [] ≡ true
unfolding genesis_poly
its_parts_agree number = refl

pub agrees : (number : ℕ) (poly players revealed : List ℕ) → poly ≡ genesis_poly number → players ≡ everybody → revealed ≡ [] → PartsAgree 7 poly players revealed
agrees number poly players revealed drawn all none =
    agreed 7 poly players revealed (
    ap (λ (p : List ℕ). parts_agree 7 p players revealed) drawn
    ∙ ap (λ (p : List ℕ). parts_agree 7 (genesis_poly number) p revealed) all
    ∙ ap (parts_agree 7 (genesis_poly number) everybody) none
    ∙ its_parts_agree number)

-- a sharing of this polynomial among seven
abbrev pub shared : (poly : List ℕ) → Sharing
shared poly = record { mode = NonZeroCounter; total = 7; poly = poly }

first_output : (number : ℕ) (output : Output) (poly : List ℕ) → output.summary ≡ replicate 8 0 → output.sharing ≡ shared poly → poly ≡ genesis_poly number → output.dealers ≡ everybody → output.players ≡ everybody → output.revealed ≡ []
    → output ≡ genesis_output number
unfolding genesis_output
first_output number output poly summary sharing drawn dealers players none = output_by_parts output (genesis_output number) summary (sharing ∙ ap shared drawn) dealers players none

-- THE INFO

abbrev pub info_with : Output → (players next : List ℕ) → Shown
info_with output players next = record { outcome = Success; epoch = 0; output = output; players = players; next_players = next; directory = record {} }

pub first_info : (number : ℕ) (output : Output) (poly players next : List ℕ) → output.summary ≡ replicate 8 0 → output.sharing ≡ shared poly → poly ≡ genesis_poly number → output.dealers ≡ everybody → output.players ≡ everybody → output.revealed ≡ []
    → players ≡ everybody → next ≡ everybody → info_with output players next ≡ genesis number
unfolding genesis
first_info number output poly players next summary sharing drawn dealers holders none all others =
    let one = first_output number output poly summary sharing drawn dealers holders none in
    cc
