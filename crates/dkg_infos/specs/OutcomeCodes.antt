-- Outcomes as bytes.
use Rattle.std.proofs.Common.{◌≡◌, ℕ, zero, suc, List, Err, refl}
use Rattle.dkg_values.specs.declared.codec.CodecError.TheVariants.{InvalidEnum}
use Rattle.dkg_values.specs.Bytes.{HasTag, tagged, tagged_at, tagged_grammar}
use Rattle.dkg_values.specs.Codec.{Reading, IsGrammar}
use Rattle.dkg_values.specs.Joined.{seen_at}
use Rattle.dkg_infos.specs.declared.outcome.EpochOutcome.{EpochOutcome}
use Rattle.dkg_infos.specs.declared.outcome.EpochOutcome.TheVariants.{Success, Failure}
use Rattle.dkg_ceremony.specs.Variants.{Always, no_bytes, nothing_at, nothing_grammar, MadeOf, variant_grammar, none_grammar}

abbrev pub outcome_byte : EpochOutcome → ℕ
outcome_byte Success = 0
outcome_byte Failure = 1

abbrev pub outcome_spelling : EpochOutcome → List ℕ
outcome_spelling = tagged outcome_byte no_bytes

unfoldable pub outcome_after : ℕ → List ℕ → Reading EpochOutcome
outcome_after zero = seen_at (λ _. Success) nothing_at
outcome_after (suc zero) = seen_at (λ _. Failure) nothing_at
outcome_after (suc (suc tag)) = λ _. Err (InvalidEnum (suc (suc tag)))

abbrev pub outcome_at : List ℕ → Reading EpochOutcome
outcome_at = tagged_at outcome_after

succeeded : (o : EpochOutcome) → Unit {0} → outcome_byte o ≡ 0 → MadeOf (Always {A = Unit {0}}) (λ _. Success) o
succeeded Success fit e = record { of = tt; fit = tt; is = refl }
succeeded Failure fit e = absurd cc

failed : (o : EpochOutcome) → Unit {0} → outcome_byte o ≡ 1 → MadeOf (Always {A = Unit {0}}) (λ _. Failure) o
failed Success fit e = absurd cc
failed Failure fit e = record { of = tt; fit = tt; is = refl }

neither : (tag : ℕ) (o : EpochOutcome) → outcome_byte o ≡ suc (suc tag) → ⊥
neither tag Success e = cc
neither tag Failure e = cc

after_grammar : (tag : ℕ) → IsGrammar (HasTag Always outcome_byte tag) no_bytes (outcome_after tag)
unfolding outcome_after
after_grammar zero =
    variant_grammar (Always {A = Unit {0}}) (no_bytes {A = Unit {0}}) nothing_at (λ _. Success) Always outcome_byte no_bytes 0 nothing_grammar
    (record { there = λ a fit. tt; tag_is = λ a. refl; body_is = λ a. refl; back = succeeded })
after_grammar (suc zero) =
    variant_grammar (Always {A = Unit {0}}) (no_bytes {A = Unit {0}}) nothing_at (λ _. Failure) Always outcome_byte no_bytes 1 nothing_grammar
    (record { there = λ a fit. tt; tag_is = λ a. refl; body_is = λ a. refl; back = failed })
after_grammar (suc (suc tag)) = none_grammar Always outcome_byte no_bytes (suc (suc tag)) (InvalidEnum (suc (suc tag))) (neither tag)

pub outcome_grammar : IsGrammar (Always {A = EpochOutcome}) outcome_spelling outcome_at
outcome_grammar = tagged_grammar Always outcome_byte no_bytes outcome_after after_grammar
