-- Finalizations as bytes, and what their certificates are made on.
use Rattle.std.proofs.Common.{◌≡◌, ℕ, ◌-◌, ◌<◌, ◌^◌, Bool, List, ◌++◌, length, refl, append_assoc}
use Rattle.std.specs.Str.{bytes_eq}
use Rattle.dkg_values.specs.Bytes.{bytes_at, bytes_grammar}
use Rattle.dkg_values.specs.Codec.{Reading, IsGrammar}
use Rattle.dkg_values.specs.Joined.{beside_at, beside_grammar, BothFit, both_spelled, seen_at, seen_grammar}
use Rattle.dkg_values.specs.Uint.{uint, uint_at}
use Rattle.dkg_values.specs.UintGrammar.{u64_grammar}
use Rattle.dkg_ceremony.specs.declared.sign.Domain.TheVariants.{Final}
use Rattle.dkg_ceremony.specs.Marks.{mark_of}
use Rattle.dkg_types.specs.declared.finalization.Finalization.{Finalization}

-- what is voted for: the epoch, the view, its parent view and the block's digest
abbrev pub proposal_bytes : (epoch view parent_view : ℕ) → List ℕ → List ℕ
proposal_bytes epoch view parent_view payload = uint epoch ++ uint view ++ uint parent_view ++ payload

-- the one certificate that an identity gives a proposal
abbrev pub certificate_of : ℕ → (epoch view parent_view : ℕ) → List ℕ → List ℕ
certificate_of identity epoch view parent_view payload = mark_of identity Final (proposal_bytes epoch view parent_view payload)

-- whether a finalization bears the certificate of an identity
abbrev pub is_certified : ℕ → Finalization → Bool
is_certified identity f = bytes_eq f.certificate (certificate_of identity f.epoch f.view f.parent_view f.payload)

abbrev pub finalization_spelling : Finalization → List ℕ
finalization_spelling f = uint f.epoch ++ uint f.view ++ uint f.parent_view ++ f.payload ++ f.certificate

abbrev pub FinalizationParts : Type 0
FinalizationParts = ℕ × (ℕ × (ℕ × (List ℕ × List ℕ)))

abbrev pub finalization_from : FinalizationParts → Finalization
finalization_from p = record { epoch = p.0; view = p.1.0; parent_view = p.1.1.0; payload = p.1.1.1.0; certificate = p.1.1.1.1 }

abbrev pub finalization_parts : Finalization → FinalizationParts
finalization_parts f = (f.epoch, (f.view, (f.parent_view, (f.payload, f.certificate))))

abbrev pub finalization_at : List ℕ → Reading Finalization
finalization_at = seen_at finalization_from (beside_at (uint_at (2 ^ 64 - 1)) (beside_at (uint_at (2 ^ 64 - 1)) (beside_at (uint_at (2 ^ 64 - 1)) (beside_at (bytes_at 32) (bytes_at 8)))))

-- numbers of 64 bits, a digest and a mark
abbrev pub FinalizationFits : Finalization → Type 0
FinalizationFits f = BothFit (λ n. n < 2 ^ 64) (BothFit (λ n. n < 2 ^ 64) (BothFit (λ n. n < 2 ^ 64) (BothFit (λ (bytes : List ℕ). length bytes ≡ 32) (λ (bytes : List ℕ). length bytes ≡ 8)))) (finalization_parts f)

regrouped : (a b c d e : List ℕ) → a ++ (b ++ (c ++ (d ++ e))) ≡ (((a ++ b) ++ c) ++ d) ++ e
regrouped a b c d e = simp append_assoc

pub finalization_grammar : IsGrammar FinalizationFits finalization_spelling finalization_at
finalization_grammar =
    let wide : ℕ → Type 0 = λ n. n < 2 ^ 64 in
    let digest : List ℕ → Type 0 = λ bytes. length bytes ≡ 32 in
    let mark : List ℕ → Type 0 = λ bytes. length bytes ≡ 8 in
    let same : List ℕ → List ℕ = λ bytes. bytes in
    let number = uint_at (2 ^ 64 - 1) in
    let two = beside_grammar digest same (bytes_at 32) mark same (bytes_at 8) (bytes_grammar 32) (bytes_grammar 8) in
    let three = beside_grammar wide uint number (BothFit digest mark) (both_spelled same same) (beside_at (bytes_at 32) (bytes_at 8)) u64_grammar two in
    let four = beside_grammar wide uint number (BothFit wide (BothFit digest mark)) (both_spelled uint (both_spelled same same)) (beside_at number (beside_at (bytes_at 32) (bytes_at 8))) u64_grammar three in
    let five = beside_grammar wide uint number (BothFit wide (BothFit wide (BothFit digest mark))) (both_spelled uint (both_spelled uint (both_spelled same same))) (beside_at number (beside_at number (beside_at (bytes_at 32) (bytes_at 8)))) u64_grammar four in
    seen_grammar (BothFit wide (BothFit wide (BothFit wide (BothFit digest mark)))) (both_spelled uint (both_spelled uint (both_spelled uint (both_spelled same same)))) (beside_at number (beside_at number (beside_at number (beside_at (bytes_at 32) (bytes_at 8)))))
    finalization_from finalization_parts finalization_spelling five (λ a. refl) (λ f. refl) (λ f. regrouped (uint f.epoch) (uint f.view) (uint f.parent_view) f.payload f.certificate)
