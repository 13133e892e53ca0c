-- How long the spellings of infos and of participants are at most.
use Rattle.std.proofs.Common.{◌≡◌, ℕ, ◌+◌, ◌*◌, ◌≤◌, Bool, true, false, cond, ltb, eqb, List, [], ◌∷◌, ◌++◌, length, refl, arith, length-append}
use Rattle.dkg_values.specs.Uint.{uint}
use Rattle.dkg_values.specs.UintGrammar.{uint_narrow, uint_short}
use Rattle.dkg_values.specs.Lists.{set_spelling, SetFits, public_spelling, PublicFits}
use Rattle.dkg_values.specs.ListGrammar.{set_size, public_size}
use Rattle.dkg_values.specs.Rising.{with_key, set_of}
use Rattle.dkg_ceremony.specs.declared.sharing.Sharing.{Sharing}
use Rattle.dkg_ceremony.specs.declared.output.Output.{Output}
use Rattle.dkg_ceremony.specs.Sharings.{sharing_bytes, SharingFits}
use Rattle.dkg_ceremony.specs.Modes.{mode_byte}
use Rattle.dkg_ceremony.specs.Outputs.{output_bytes, OutputFits}
use Rattle.dkg_ceremony.specs.OutputGrammar.{length_output}
use Rattle.dkg_infos.specs.declared.outcome.EpochOutcome.{EpochOutcome}
use Rattle.dkg_infos.specs.InfoCodes.{InfoFits, info_spelling, peers_of}
use Rattle.dkg_infos.specs.OutcomeCodes.{outcome_spelling}
use Rattle.dkg_infos.specs.ParticipantsCodes.{ParticipantsFit, participants_spelling}

-- no value that fits is spelled longer
pub record IsBound {A : Type 0} (fits : A → Type 0) (spelling : A → List ℕ) (bound : ℕ) : Type 0 where
  pub within : (a : A) → fits a → length (spelling a) ≤ bound

pub longer_bound : {A : Type 0} (fits : A → Type 0) (spelling : A → List ℕ) (bound more : ℕ) → IsBound fits spelling bound → bound ≤ more → IsBound fits spelling more
longer_bound fits spelling bound more b le = record { within = λ a fit. omega (arith, b.within a fit) }

pub set_bound : (most : ℕ) (keys : List ℕ) → SetFits most keys → length (set_spelling keys) ≤ 5 + 4 * most
set_bound most keys fit = omega (arith, fit.in_bound, uint_narrow (length keys) fit.small, set_size keys (length (uint (length keys))) (length keys) refl refl)

pub public_bound : (most : ℕ) (xs : List ℕ) → PublicFits most xs → length (public_spelling xs) ≤ 5 + 2 * most
public_bound most xs fit = omega (arith, fit.in_bound, uint_narrow (length xs) fit.small, public_size xs (length (uint (length xs))) (length xs) refl refl)

length_with_key : (x : ℕ) (xs : List ℕ) → length (with_key x xs) ≤ length xs + 1
length_with_key x [] = omega arith
length_with_key x (y ∷ ys) =
    elim (ltb x y) as (λ b. length (cond b (x ∷ y ∷ ys) (cond (eqb x y) (y ∷ ys) (y ∷ with_key x ys))) ≤ length (y ∷ ys) + 1) [
      | true ↦ omega arith
      | false ↦ elim (eqb x y) as (λ b. length (cond b (y ∷ ys) (y ∷ with_key x ys)) ≤ length (y ∷ ys) + 1) [ true ↦ omega arith | false ↦ omega (arith, length_with_key x ys) ]
    ]

pub length_set_of : (xs : List ℕ) → length (set_of xs) ≤ length xs
length_set_of [] = omega arith
length_set_of (x ∷ xs) = omega (arith, length_with_key x (set_of xs), length_set_of xs)

pub length_peers_of : (holders players next_players : List ℕ) → length (peers_of holders players next_players) ≤ length holders + length players + length next_players
length_peers_of holders players next_players =
    omega (arith, length_set_of (set_of (holders ++ players) ++ next_players), length-append (set_of (holders ++ players)) next_players, length_set_of (holders ++ players), length-append holders players)

pub length_three : (a b c : List ℕ) → length (a ++ b ++ c) ≡ length a + length b + length c
length_three a b c = simp length-append refl

sharing_bound : (most version : ℕ) (s : Sharing) → SharingFits most version s → length (sharing_bytes s) ≤ 11 + 2 * most
sharing_bound most version s fit = omega (arith, length_three (mode_byte s.mode ∷ []) (uint s.total) (public_spelling s.poly), uint_narrow s.total fit.other.one, public_bound most s.poly fit.other.other)

pub output_bound : (most version : ℕ) (o : Output) → OutputFits most version o → length (output_bytes o) ≤ 34 + 14 * most
output_bound most version o fit =
    omega (arith, length_output o, fit.one, sharing_bound most version o.sharing fit.other.one, set_bound most o.dealers fit.other.other.one, set_bound most o.players fit.other.other.other.one, set_bound most o.revealed fit.other.other.other.other)

pub participants_bound : (most : ℕ) → IsBound (ParticipantsFit most) participants_spelling (15 + 12 * most)
participants_bound most = record {
  within = λ p fit. omega (arith, length_three (set_spelling p.dealers) (set_spelling p.players) (set_spelling p.next_players), set_bound most p.dealers fit.one, set_bound most p.players fit.other.one, set_bound most p.next_players fit.other.other);
}

length_outcome : (o : EpochOutcome) → length (outcome_spelling o) ≡ 1
length_outcome o = refl

length_six : (a b c d e f : List ℕ) → length ((a ++ b ++ c ++ d ++ e) ++ f) ≡ length a + length b + length c + length d + length e + length f
length_six a b c d e f = simp length-append refl

pub info_bound : {Dir : Type 0} (fits : List ℕ → Dir → Type 0) (spelling : Dir → List ℕ) (matches : Dir → List ℕ → Bool) (bound : ℕ → ℕ) → ((peers : List ℕ) (d : Dir) → fits peers d → length (spelling d) ≤ bound (length peers)) → ((few many : ℕ) → few ≤ many → bound few ≤ bound many) → (most version : ℕ)
    → IsBound (InfoFits fits matches most version) (info_spelling spelling) (55 + 22 * most + bound (3 * most))
info_bound fits spelling matches bound within rising most version = record {
  within = λ i fit.
      let parts = fit.fit.one in
      let rest = parts.other.other in
      let holders = rest.one.other.other.other.one in
      let peers = peers_of i.output.players i.players i.next_players in
      let few : length peers ≤ 3 * most = omega (arith, length_peers_of i.output.players i.players i.next_players, holders.in_bound, rest.other.one.in_bound, rest.other.other.in_bound) in
      omega (
        arith,
        length_six (outcome_spelling i.outcome) (uint i.epoch) (output_bytes i.output) (set_spelling i.players) (set_spelling i.next_players) (spelling i.directory),
        length_outcome i.outcome,
        uint_short i.epoch,
        output_bound most version i.output rest.one,
        set_bound most i.players rest.other.one,
        set_bound most i.next_players rest.other.other,
        within peers i.directory fit.fit.other,
        rising (length peers) (3 * most) few,
      );
}
