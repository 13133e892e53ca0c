-- Payloads as bytes.
use Rattle.std.proofs.Common.{◌≡◌, ℕ, zero, suc, Bool, List, Option, Some, None, Err, refl}
use Rattle.dkg_values.specs.declared.codec.CodecError.TheVariants.{InvalidEnum}
use Rattle.dkg_values.specs.Bytes.{HasTag, tagged, tagged_at, tagged_grammar}
use Rattle.dkg_values.specs.Codec.{Reading, IsGrammar}
use Rattle.dkg_values.specs.Joined.{seen_at}
use Rattle.dkg_ceremony.specs.declared.signed_log.SignedDealerLog.{SignedDealerLog}
use Rattle.dkg_ceremony.specs.Logs.{signed_at, signed_spelling, SignedFits, signed_grammar}
use Rattle.dkg_infos.specs.declared.info.EpochInfo as info
use Rattle.dkg_types.specs.declared.payload.Payload.{Payload}
use Rattle.dkg_types.specs.declared.payload.Payload.TheVariants.{DealerLog, EpochInfo}
use Rattle.dkg_infos.specs.InfoCodes.{info_at, info_spelling, InfoFits, info_grammar}
use Rattle.dkg_types.specs.Variants.{MadeOf, variant_grammar, none_grammar}

abbrev pub payload_tag : {Dir : Type 0} → Payload Dir → ℕ
payload_tag (DealerLog s) = 0
payload_tag (EpochInfo i) = 1

abbrev pub payload_body : {Dir : Type 0} → (Dir → List ℕ) → Payload Dir → List ℕ
payload_body spelling (DealerLog s) = signed_spelling s
payload_body spelling (EpochInfo i) = info_spelling spelling i

abbrev pub payload_spelling : {Dir : Type 0} → (Dir → List ℕ) → Payload Dir → List ℕ
payload_spelling spelling = tagged payload_tag (payload_body spelling)

abbrev pub PayloadFits : {Dir : Type 0} → (List ℕ → Dir → Type 0) → (Dir → List ℕ → Bool) → (most version : ℕ) → Payload Dir → Type 0
PayloadFits fits matches most version (DealerLog s) = SignedFits most s
PayloadFits fits matches most version (EpochInfo i) = InfoFits fits matches most version i

-- the log and the info that a payload is
abbrev pub its_log : {Dir : Type 0} → Payload Dir → Option SignedDealerLog
its_log (DealerLog s) = Some s
its_log (EpochInfo i) = None

abbrev pub its_info : {Dir : Type 0} → Payload Dir → Option (info.EpochInfo Dir)
its_info (DealerLog s) = None
its_info (EpochInfo i) = Some i

abbrev pub log_payload : {Dir : Type 0} → SignedDealerLog → Payload Dir
log_payload s = DealerLog s

abbrev pub info_payload : {Dir : Type 0} → info.EpochInfo Dir → Payload Dir
info_payload i = EpochInfo i

-- a log and an info, to whoever reads a payload
unfoldable pub logged_at : (most : ℕ) → List ℕ → Reading SignedDealerLog
logged_at most = signed_at most

unfoldable pub payload_info_at : {Dir : Type 0} → (List ℕ → List ℕ → Reading Dir) → (Dir → List ℕ → Bool) → (most version : ℕ) → List ℕ → Reading (info.EpochInfo Dir)
payload_info_at read matches most version = info_at read matches most version

unfoldable pub payload_after : {Dir : Type 0} → (List ℕ → List ℕ → Reading Dir) → (Dir → List ℕ → Bool) → (most version : ℕ) → ℕ → List ℕ → Reading (Payload Dir)
payload_after read matches most version zero = seen_at log_payload (logged_at most)
payload_after read matches most version (suc zero) = seen_at info_payload (payload_info_at read matches most version)
payload_after read matches most version (suc (suc tag)) = λ _. Err (InvalidEnum (suc (suc tag)))

abbrev pub payload_at : {Dir : Type 0} → (List ℕ → List ℕ → Reading Dir) → (Dir → List ℕ → Bool) → (most version : ℕ) → List ℕ → Reading (Payload Dir)
payload_at read matches most version = tagged_at (payload_after read matches most version)

is_log : {Dir : Type 0} (fits : List ℕ → Dir → Type 0) (matches : Dir → List ℕ → Bool) (most version : ℕ) (p : Payload Dir) → PayloadFits fits matches most version p → payload_tag p ≡ 0 → MadeOf (SignedFits most) log_payload p
is_log fits matches most version (DealerLog s) fit e = record { of = s; fit = fit; is = refl }
is_log fits matches most version (EpochInfo i) fit e = absurd cc

is_info : {Dir : Type 0} (fits : List ℕ → Dir → Type 0) (matches : Dir → List ℕ → Bool) (most version : ℕ) (p : Payload Dir) → PayloadFits fits matches most version p → payload_tag p ≡ 1 → MadeOf (InfoFits fits matches most version) info_payload p
is_info fits matches most version (DealerLog s) fit e = absurd cc
is_info fits matches most version (EpochInfo i) fit e = record { of = i; fit = fit; is = refl }

no_other : {Dir : Type 0} (tag : ℕ) (p : Payload Dir) → payload_tag p ≡ suc (suc tag) → ⊥
no_other tag (DealerLog s) e = cc
no_other tag (EpochInfo i) e = cc

logged_grammar : (most : ℕ) → IsGrammar (SignedFits most) signed_spelling (logged_at most)
unfolding logged_at
logged_grammar most = signed_grammar most

carried_grammar : {Dir : Type 0} (fits : List ℕ → Dir → Type 0) (spelling : Dir → List ℕ) (read : List ℕ → List ℕ → Reading Dir) (matches : Dir → List ℕ → Bool) → ((peers : List ℕ) → IsGrammar (fits peers) spelling (read peers)) → (most version : ℕ)
    → IsGrammar (InfoFits fits matches most version) (info_spelling spelling) (payload_info_at read matches most version)
unfolding payload_info_at
carried_grammar fits spelling read matches law most version = info_grammar fits spelling read matches law most version

after_grammar : {Dir : Type 0} (fits : List ℕ → Dir → Type 0) (spelling : Dir → List ℕ) (read : List ℕ → List ℕ → Reading Dir) (matches : Dir → List ℕ → Bool) → ((peers : List ℕ) → IsGrammar (fits peers) spelling (read peers)) → (most version tag : ℕ)
    → IsGrammar (HasTag (PayloadFits fits matches most version) (payload_tag {Dir = Dir}) tag) (payload_body spelling) (payload_after read matches most version tag)
unfolding payload_after
after_grammar {Dir} fits spelling read matches law most version zero =
    variant_grammar (SignedFits most) signed_spelling (logged_at most) (log_payload {Dir = Dir}) (PayloadFits fits matches most version) (payload_tag {Dir = Dir}) (payload_body spelling) 0
    (logged_grammar most)
    (record { there = λ a fit. fit; tag_is = λ a. refl; body_is = λ a. refl; back = is_log fits matches most version })
after_grammar {Dir} fits spelling read matches law most version (suc zero) =
    variant_grammar (InfoFits fits matches most version) (info_spelling spelling) (payload_info_at read matches most version) (info_payload {Dir = Dir}) (PayloadFits fits matches most version) (payload_tag {Dir = Dir}) (payload_body spelling) 1
    (carried_grammar fits spelling read matches law most version)
    (record { there = λ a fit. fit; tag_is = λ a. refl; body_is = λ a. refl; back = is_info fits matches most version })
after_grammar {Dir} fits spelling read matches law most version (suc (suc tag)) =
    none_grammar (PayloadFits fits matches most version) (payload_tag {Dir = Dir}) (payload_body spelling) (suc (suc tag)) (InvalidEnum (suc (suc tag))) (no_other {Dir = Dir} tag)

pub payload_grammar : {Dir : Type 0} (fits : List ℕ → Dir → Type 0) (spelling : Dir → List ℕ) (read : List ℕ → List ℕ → Reading Dir) (matches : Dir → List ℕ → Bool) → ((peers : List ℕ) → IsGrammar (fits peers) spelling (read peers)) → (most version : ℕ)
    → IsGrammar (PayloadFits fits matches most version) (payload_spelling spelling) (payload_at read matches most version)
payload_grammar {Dir} fits spelling read matches law most version =
    tagged_grammar (PayloadFits fits matches most version) (payload_tag {Dir = Dir}) (payload_body spelling) (payload_after read matches most version) (after_grammar fits spelling read matches law most version)
