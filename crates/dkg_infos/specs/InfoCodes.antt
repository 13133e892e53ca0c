-- Infos as bytes. The directory's limits follow from the peers that the rest names.
use Rattle.std.proofs.Common.{◌≡◌, ℕ, ◌-◌, ◌<◌, ◌^◌, Bool, List, ◌++◌, refl, sym, ap, ◌∙◌, append_assoc}
use Rattle.dkg_values.specs.declared.codec.CodecError.TheVariants.{Invalid}
use Rattle.dkg_values.specs.declared.codec.What.TheVariants as what
use Rattle.dkg_values.specs.Codec.{Reading, IsGrammar}
use Rattle.dkg_values.specs.Joined.{then_at, then_grammar, Both, checked_at, checked_grammar, Passes, beside_at, beside_grammar, BothFit, both_spelled}
use Rattle.dkg_values.specs.Lists.{set_at, set_spelling, SetFits}
use Rattle.dkg_values.specs.ListGrammar.{set_grammar}
use Rattle.dkg_values.specs.Rising.{set_of}
use Rattle.dkg_values.specs.Uint.{uint, uint_at}
use Rattle.dkg_values.specs.UintGrammar.{u64_grammar}
use Rattle.dkg_ceremony.specs.declared.output.Output.{Output}
use Rattle.dkg_ceremony.specs.Outputs.{output_at, output_bytes, OutputFits}
use Rattle.dkg_ceremony.specs.OutputGrammar.{output_grammar}
use Rattle.dkg_infos.specs.declared.outcome.EpochOutcome.{EpochOutcome}
use Rattle.dkg_infos.specs.declared.info.EpochInfo.{EpochInfo}
use Rattle.dkg_infos.specs.OutcomeCodes.{outcome_at, outcome_spelling, outcome_grammar}
use Rattle.dkg_ceremony.specs.Variants.{Always}

-- the peers of an epoch: those who hold the key, the players and the next players
abbrev pub peers_of : List ℕ → List ℕ → List ℕ → List ℕ
peers_of holders players next_players = set_of (set_of (holders ++ players) ++ next_players)

abbrev pub InfoParts : Type 0
InfoParts = EpochOutcome × (ℕ × (Output × (List ℕ × List ℕ)))

abbrev pub peers_of_parts : InfoParts → List ℕ
peers_of_parts p = peers_of p.1.1.0.players p.1.1.1.0 p.1.1.1.1

abbrev pub info_from : {Dir : Type 0} → InfoParts → Dir → EpochInfo Dir
info_from p directory = record { outcome = p.0; epoch = p.1.0; output = p.1.1.0; players = p.1.1.1.0; next_players = p.1.1.1.1; directory = directory }

abbrev pub info_parts : {Dir : Type 0} → EpochInfo Dir → InfoParts
info_parts i = (i.outcome, (i.epoch, (i.output, (i.players, i.next_players))))

abbrev pub directory_of : {Dir : Type 0} → EpochInfo Dir → Dir
directory_of i = i.directory

-- the output of an info
unfoldable pub info_output_at : (most version : ℕ) → List ℕ → Reading Output
info_output_at = output_at

-- all of an info but the directory
unfoldable pub parts_at : (most version : ℕ) → List ℕ → Reading InfoParts
parts_at most version = beside_at outcome_at (beside_at (uint_at (2 ^ 64 - 1)) (beside_at (info_output_at most version) (beside_at (set_at most) (set_at most))))

abbrev pub parts_spelling : InfoParts → List ℕ
parts_spelling = both_spelled outcome_spelling (both_spelled uint (both_spelled output_bytes (both_spelled set_spelling set_spelling)))

abbrev pub PartsFit : (most version : ℕ) → InfoParts → Type 0
PartsFit most version = BothFit Always (BothFit (λ n. n < 2 ^ 64) (BothFit (OutputFits most version) (BothFit (SetFits most) (SetFits most))))

-- all of an info but the directory
abbrev pub parts_text : {Dir : Type 0} → EpochInfo Dir → List ℕ
parts_text i = outcome_spelling i.outcome ++ uint i.epoch ++ output_bytes i.output ++ set_spelling i.players ++ set_spelling i.next_players

abbrev pub info_spelling : {Dir : Type 0} → (Dir → List ℕ) → EpochInfo Dir → List ℕ
info_spelling spelling i = parts_text i ++ spelling i.directory

-- whether the directory is one of exactly the peers
abbrev pub has_peers : {Dir : Type 0} → (Dir → List ℕ → Bool) → EpochInfo Dir → Bool
has_peers matches i = matches i.directory (peers_of_parts (info_parts i))

abbrev pub info_at : {Dir : Type 0} → (List ℕ → List ℕ → Reading Dir) → (Dir → List ℕ → Bool) → (most version : ℕ) → List ℕ → Reading (EpochInfo Dir)
info_at read matches most version = checked_at (then_at (parts_at most version) (λ p. read (peers_of_parts p)) info_from) (has_peers matches) (Invalid what.Directory)

abbrev pub InfoFits : {Dir : Type 0} → (List ℕ → Dir → Type 0) → (Dir → List ℕ → Bool) → (most version : ℕ) → EpochInfo Dir → Type 0
InfoFits {Dir} fits matches most version = Passes (Both (PartsFit most version) (λ p. fits (peers_of_parts p)) (info_parts {Dir = Dir}) (directory_of {Dir = Dir})) (has_peers matches)

-- the same grammar, the spelling grouped otherwise
respelled : {A : Type 0} (fits : A → Type 0) (spelling new_spelling : A → List ℕ) (read : List ℕ → Reading A) → IsGrammar fits spelling read → ((a : A) → spelling a ≡ new_spelling a) → IsGrammar fits new_spelling read
respelled fits spelling new_spelling read law same = record {
  found = λ bytes v rest are e. let f = law.found bytes v rest are e in (f.0, f.1 ∙ ap (λ (x : List ℕ). x ++ rest) (same v));
  again = λ v rest fit. ap (λ (x : List ℕ). read (x ++ rest)) (sym (same v)) ∙ law.again v rest fit;
}

held_grammar : (most version : ℕ) → IsGrammar (OutputFits most version) output_bytes (info_output_at most version)
unfolding info_output_at
held_grammar = output_grammar

parts_grammar : (most version : ℕ) → IsGrammar (PartsFit most version) parts_spelling (parts_at most version)
unfolding parts_at
parts_grammar most version =
    let set = SetFits most in
    let keys = set_at most in
    let two = beside_grammar set set_spelling keys set set_spelling keys (set_grammar most) (set_grammar most) in
    let three = beside_grammar (OutputFits most version) output_bytes (info_output_at most version) (BothFit set set) (both_spelled set_spelling set_spelling) (beside_at keys keys) (held_grammar most version) two in
    let four = beside_grammar (λ n. n < 2 ^ 64) uint (uint_at (2 ^ 64 - 1)) (BothFit (OutputFits most version) (BothFit set set)) (both_spelled output_bytes (both_spelled set_spelling set_spelling)) (beside_at (info_output_at most version) (beside_at keys keys)) u64_grammar three in
    beside_grammar (Always {A = EpochOutcome}) outcome_spelling outcome_at (BothFit (λ n. n < 2 ^ 64) (BothFit (OutputFits most version) (BothFit set set))) (both_spelled uint (both_spelled output_bytes (both_spelled set_spelling set_spelling)))
    (beside_at (uint_at (2 ^ 64 - 1)) (beside_at (info_output_at most version) (beside_at keys keys))) outcome_grammar four

regrouped : (a b c d e f : List ℕ) → (a ++ (b ++ (c ++ (d ++ e)))) ++ f ≡ ((((a ++ b) ++ c) ++ d) ++ e) ++ f
regrouped a b c d e f = simp append_assoc

pub info_grammar : {Dir : Type 0} (fits : List ℕ → Dir → Type 0) (spelling : Dir → List ℕ) (read : List ℕ → List ℕ → Reading Dir) (matches : Dir → List ℕ → Bool) → ((peers : List ℕ) → IsGrammar (fits peers) spelling (read peers)) → (most version : ℕ)
    → IsGrammar (InfoFits fits matches most version) (info_spelling spelling) (info_at read matches most version)
info_grammar {Dir} fits spelling read matches law most version =
    let whole = then_grammar (PartsFit most version) parts_spelling (parts_at most version) (λ p. fits (peers_of_parts p)) spelling (λ p. read (peers_of_parts p)) (info_from {Dir = Dir}) (info_parts {Dir = Dir}) (directory_of {Dir = Dir})
    (parts_grammar most version) (λ p. law (peers_of_parts p)) (record { first_is = λ a b. refl; second_is = λ a b. refl; whole_is = λ c. refl }) in
    let fit = Both (PartsFit most version) (λ p. fits (peers_of_parts p)) (info_parts {Dir = Dir}) (directory_of {Dir = Dir}) in
    let text : EpochInfo Dir → List ℕ = λ i. parts_spelling (info_parts i) ++ spelling i.directory in
    let made = then_at (parts_at most version) (λ p. read (peers_of_parts p)) (info_from {Dir = Dir}) in
    let checked = checked_grammar fit text made (has_peers matches) (Invalid what.Directory) whole in
    respelled (InfoFits fits matches most version) text (info_spelling spelling) (info_at read matches most version) checked
    (λ i. regrouped (outcome_spelling i.outcome) (uint i.epoch) (output_bytes i.output) (set_spelling i.players) (set_spelling i.next_players) (spelling i.directory))
