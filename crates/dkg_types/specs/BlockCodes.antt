-- Blocks as bytes, which their digests are of.
use Rattle.std.proofs.Common.{◌≡◌, ℕ, zero, suc, ◌-◌, ◌<◌, ◌^◌, Bool, List, [], ◌∷◌, ◌++◌, length, replicate, Option, Some, None, Err, refl, sym, ap, append_assoc}
use Rattle.std.specs.Int.{w32, to_be_bytes}
use Rattle.std.specs.Prelude.{option_and_then}
use Rattle.sha2.specs.Sha256.{sha256}
use Rattle.dkg_values.specs.declared.codec.CodecError.TheVariants.{InvalidEnum}
use Rattle.dkg_values.specs.Bytes.{bytes_at, bytes_grammar, HasTag, tagged, tagged_at, tagged_grammar}
use Rattle.dkg_values.specs.Codec.{Reading, IsGrammar, number_at}
use Rattle.dkg_values.specs.Joined.{beside_at, beside_grammar, BothFit, both_spelled, seen_at, seen_grammar}
use Rattle.dkg_values.specs.ListGrammar.{be32_grammar}
use Rattle.dkg_values.specs.Uint.{uint, uint_at}
use Rattle.dkg_values.specs.UintGrammar.{u64_grammar}
use Rattle.dkg_types.specs.declared.block.Context.{Context}
use Rattle.dkg_types.specs.Blocks.{Block}
use Rattle.dkg_infos.specs.declared.info.EpochInfo as info
use Rattle.dkg_types.specs.declared.payload.Payload.{Payload}
use Rattle.dkg_types.specs.PayloadCodes.{payload_at, payload_grammar, PayloadFits, payload_spelling, its_info}
use Rattle.dkg_types.specs.Variants.{Always, no_bytes, nothing_at, nothing_grammar, MadeOf, variant_grammar, none_grammar, made_grammar}

abbrev pub context_bytes : Context → List ℕ
context_bytes c = uint c.epoch ++ uint c.view ++ to_be_bytes w32 c.leader ++ uint c.parent_view ++ c.parent

-- a flag, and the payload where there is one
abbrev pub flagged_bytes : {Dir : Type 0} → (Dir → List ℕ) → Option (Payload Dir) → List ℕ
flagged_bytes spelling None = 0 ∷ []
flagged_bytes spelling (Some payload) = 1 ∷ payload_spelling spelling payload

unfoldable pub block_bytes : {Dir : Type 0} → (Dir → List ℕ) → Context → List ℕ → ℕ → Option (Payload Dir) → List ℕ
block_bytes spelling context parent height payload = context_bytes context ++ parent ++ uint height ++ flagged_bytes spelling payload

-- a block of these parts, whose digest is that of its bytes
pub record IsBlock {Dir : Type 0} (spelling : Dir → List ℕ) (context : Context) (parent : List ℕ) (height : ℕ) (payload : Option (Payload Dir)) (b : Block Dir) : Type 0 where
  pub of_context : b.context ≡ context
  pub of_parent : b.parent ≡ parent
  pub of_height : b.height ≡ height
  pub of_payload : b.payload ≡ payload
  pub of_digest : b.digest ≡ sha256 (block_bytes spelling context parent height payload)

abbrev pub zero_digest : List ℕ
zero_digest = replicate 32 0

-- where the first block of a chain was proposed
abbrev pub genesis_context : ℕ → Context
genesis_context leader = record { epoch = 0; view = 0; leader = leader; parent_view = 0; parent = zero_digest }

-- the info that a block carries
abbrev pub info_of : {Dir : Type 0} → Option (Payload Dir) → Option (info.EpochInfo Dir)
info_of payload = option_and_then its_info payload

-- ---- contexts

abbrev pub ContextParts : Type 0
ContextParts = ℕ × (ℕ × (ℕ × (ℕ × List ℕ)))

abbrev pub context_from : ContextParts → Context
context_from p = record { epoch = p.0; view = p.1.0; leader = p.1.1.0; parent_view = p.1.1.1.0; parent = p.1.1.1.1 }

abbrev pub context_parts : Context → ContextParts
context_parts c = (c.epoch, (c.view, (c.leader, (c.parent_view, c.parent))))

abbrev pub context_at : List ℕ → Reading Context
context_at = seen_at context_from (beside_at (uint_at (2 ^ 64 - 1)) (beside_at (uint_at (2 ^ 64 - 1)) (beside_at (number_at w32) (beside_at (uint_at (2 ^ 64 - 1)) (bytes_at 32)))))

-- numbers of their widths, and 32 bytes
abbrev pub ContextFits : Context → Type 0
ContextFits c = BothFit (λ n. n < 2 ^ 64) (BothFit (λ n. n < 2 ^ 64) (BothFit (λ n. n < 2 ^ 32) (BothFit (λ n. n < 2 ^ 64) (λ (bytes : List ℕ). length bytes ≡ 32)))) (context_parts c)

regrouped : (a b c d e : List ℕ) → a ++ (b ++ (c ++ (d ++ e))) ≡ (((a ++ b) ++ c) ++ d) ++ e
regrouped a b c d e = simp append_assoc

pub context_grammar : IsGrammar ContextFits context_bytes context_at
context_grammar =
    let wide : ℕ → Type 0 = λ n. n < 2 ^ 64 in
    let key : ℕ → Type 0 = λ n. n < 2 ^ 32 in
    let digest : List ℕ → Type 0 = λ bytes. length bytes ≡ 32 in
    let same : List ℕ → List ℕ = λ bytes. bytes in
    let number = uint_at (2 ^ 64 - 1) in
    let two = beside_grammar wide uint number digest same (bytes_at 32) u64_grammar (bytes_grammar 32) in
    let three = beside_grammar key (to_be_bytes w32) (number_at w32) (BothFit wide digest) (both_spelled uint same) (beside_at number (bytes_at 32)) be32_grammar two in
    let four = beside_grammar wide uint number (BothFit key (BothFit wide digest)) (both_spelled (to_be_bytes w32) (both_spelled uint same)) (beside_at (number_at w32) (beside_at number (bytes_at 32))) u64_grammar three in
    let five = beside_grammar wide uint number (BothFit wide (BothFit key (BothFit wide digest))) (both_spelled uint (both_spelled (to_be_bytes w32) (both_spelled uint same))) (beside_at number (beside_at (number_at w32) (beside_at number (bytes_at 32)))) u64_grammar four in
    seen_grammar (BothFit wide (BothFit wide (BothFit key (BothFit wide digest)))) (both_spelled uint (both_spelled uint (both_spelled (to_be_bytes w32) (both_spelled uint same)))) (beside_at number (beside_at number (beside_at (number_at w32) (beside_at number (bytes_at 32)))))
    context_from context_parts context_bytes five (λ a. refl) (λ c. refl) (λ c. regrouped (uint c.epoch) (uint c.view) (to_be_bytes w32 c.leader) (uint c.parent_view) c.parent)

-- ---- a flag and what may follow it

-- a payload, to whoever reads a block
unfoldable pub block_payload_at : {Dir : Type 0} → (List ℕ → List ℕ → Reading Dir) → (Dir → List ℕ → Bool) → (most version : ℕ) → List ℕ → Reading (Payload Dir)
block_payload_at read matches most version = payload_at read matches most version

pub held_grammar : {Dir : Type 0} (fits : List ℕ → Dir → Type 0) (spelling : Dir → List ℕ) (read : List ℕ → List ℕ → Reading Dir) (matches : Dir → List ℕ → Bool) → ((peers : List ℕ) → IsGrammar (fits peers) spelling (read peers)) → (most version : ℕ)
    → IsGrammar (PayloadFits fits matches most version) (payload_spelling spelling) (block_payload_at read matches most version)
unfolding block_payload_at
held_grammar fits spelling read matches law most version = payload_grammar fits spelling read matches law most version

abbrev pub some_of : {A : Type 0} → A → Option A
some_of a = Some a

abbrev pub none_of : {A : Type 0} → Unit {0} → Option A
none_of u = None

unfoldable pub flagged_after : {A : Type 0} → (List ℕ → Reading A) → ℕ → List ℕ → Reading (Option A)
flagged_after {A} read zero = seen_at (none_of {A = A}) nothing_at
flagged_after {A} read (suc zero) = seen_at (some_of {A = A}) read
flagged_after read (suc (suc flag)) = λ _. Err (InvalidEnum (suc (suc flag)))

abbrev pub flagged_at : {A : Type 0} → (List ℕ → Reading A) → List ℕ → Reading (Option A)
flagged_at read = tagged_at (flagged_after read)

abbrev pub FlaggedFits : {A : Type 0} → (A → Type 0) → Option A → Type 0
FlaggedFits fits None = Unit {0}
FlaggedFits fits (Some a) = fits a

abbrev pub flag_of : {A : Type 0} → Option A → ℕ
flag_of None = 0
flag_of (Some a) = 1

abbrev pub flagged_body : {A : Type 0} → (A → List ℕ) → Option A → List ℕ
flagged_body spelling None = []
flagged_body spelling (Some a) = spelling a

is_none_of : {A : Type 0} (fits : A → Type 0) (o : Option A) → FlaggedFits fits o → flag_of o ≡ 0 → MadeOf (Always {A = Unit {0}}) (none_of {A = A}) o
is_none_of fits None fit e = record { of = tt; fit = tt; is = refl }
is_none_of fits (Some a) fit e = absurd cc

is_some_of : {A : Type 0} (fits : A → Type 0) (o : Option A) → FlaggedFits fits o → flag_of o ≡ 1 → MadeOf fits (some_of {A = A}) o
is_some_of fits None fit e = absurd cc
is_some_of fits (Some a) fit e = record { of = a; fit = fit; is = refl }

no_flag : {A : Type 0} (flag : ℕ) (o : Option A) → flag_of o ≡ suc (suc flag) → ⊥
no_flag flag None e = cc
no_flag flag (Some a) e = cc

flagged_after_grammar : {A : Type 0} (fits : A → Type 0) (spelling : A → List ℕ) (read : List ℕ → Reading A) → IsGrammar fits spelling read → (flag : ℕ) → IsGrammar (HasTag (FlaggedFits fits) (flag_of {A = A}) flag) (flagged_body spelling) (flagged_after read flag)
unfolding flagged_after
flagged_after_grammar {A} fits spelling read law zero =
    variant_grammar (Always {A = Unit {0}}) (no_bytes {A = Unit {0}}) nothing_at (none_of {A = A}) (FlaggedFits fits) (flag_of {A = A}) (flagged_body spelling) 0 nothing_grammar
    (record { there = λ a fit. tt; tag_is = λ a. refl; body_is = λ a. refl; back = is_none_of fits })
flagged_after_grammar {A} fits spelling read law (suc zero) =
    variant_grammar fits spelling read (some_of {A = A}) (FlaggedFits fits) (flag_of {A = A}) (flagged_body spelling) 1 law
    (record { there = λ a fit. fit; tag_is = λ a. refl; body_is = λ a. refl; back = is_some_of fits })
flagged_after_grammar {A} fits spelling read law (suc (suc flag)) = none_grammar (FlaggedFits fits) (flag_of {A = A}) (flagged_body spelling) (suc (suc flag)) (InvalidEnum (suc (suc flag))) (no_flag {A = A} flag)

pub flagged_grammar : {A : Type 0} (fits : A → Type 0) (spelling : A → List ℕ) (read : List ℕ → Reading A) → IsGrammar fits spelling read → IsGrammar (FlaggedFits fits) (tagged (flag_of {A = A}) (flagged_body spelling)) (flagged_at read)
flagged_grammar {A} fits spelling read law = tagged_grammar (FlaggedFits fits) (flag_of {A = A}) (flagged_body spelling) (flagged_after read) (flagged_after_grammar fits spelling read law)

-- ---- blocks

abbrev pub Head : Type 0
Head = Context × (List ℕ × ℕ)

abbrev pub block_from : {Dir : Type 0} → (Dir → List ℕ) → Head × Option (Payload Dir) → Block Dir
block_from spelling p = record { context = p.0.0; parent = p.0.1.0; height = p.0.1.1; payload = p.1; digest = sha256 (block_bytes spelling p.0.0 p.0.1.0 p.0.1.1 p.1) }

abbrev pub block_parts : {Dir : Type 0} → Block Dir → Head × Option (Payload Dir)
block_parts b = ((b.context, (b.parent, b.height)), b.payload)

abbrev pub block_spelling : {Dir : Type 0} → (Dir → List ℕ) → Block Dir → List ℕ
block_spelling spelling b = block_bytes spelling b.context b.parent b.height b.payload

-- where a block was proposed, the digest of the block below, and the height
unfoldable pub head_at : List ℕ → Reading Head
head_at = beside_at context_at (beside_at (bytes_at 32) (uint_at (2 ^ 64 - 1)))

abbrev pub HeadFits : Head → Type 0
HeadFits = BothFit ContextFits (BothFit (λ (bytes : List ℕ). length bytes ≡ 32) (λ n. n < 2 ^ 64))

abbrev pub head_spelling : Head → List ℕ
head_spelling = both_spelled context_bytes (both_spelled (λ (bytes : List ℕ). bytes) uint)

abbrev pub block_at : {Dir : Type 0} → (Dir → List ℕ) → (List ℕ → Reading (Payload Dir)) → List ℕ → Reading (Block Dir)
block_at spelling read = seen_at (block_from spelling) (beside_at head_at (flagged_at read))

-- parts that fit, and the digest of the bytes
pub record BlockFits {Dir : Type 0} (fits : Payload Dir → Type 0) (spelling : Dir → List ℕ) (b : Block Dir) : Type 0 where
  pub parts : BothFit HeadFits (FlaggedFits fits) (block_parts b)
  pub sealed : b.digest ≡ sha256 (block_bytes spelling b.context b.parent b.height b.payload)

head_grammar : IsGrammar HeadFits head_spelling head_at
unfolding head_at
head_grammar =
    let wide : ℕ → Type 0 = λ n. n < 2 ^ 64 in
    let digest : List ℕ → Type 0 = λ bytes. length bytes ≡ 32 in
    let same : List ℕ → List ℕ = λ bytes. bytes in
    let two = beside_grammar digest same (bytes_at 32) wide uint (uint_at (2 ^ 64 - 1)) (bytes_grammar 32) u64_grammar in
    beside_grammar ContextFits context_bytes context_at (BothFit digest wide) (both_spelled same uint) (beside_at (bytes_at 32) (uint_at (2 ^ 64 - 1))) context_grammar two

flagged_is : {Dir : Type 0} (spelling : Dir → List ℕ) (payload : Option (Payload Dir)) → tagged (flag_of {A = Payload Dir}) (flagged_body (payload_spelling spelling)) payload ≡ flagged_bytes spelling payload
flagged_is spelling None = refl
flagged_is spelling (Some payload) = refl

parts_spelled : {Dir : Type 0} (spelling : Dir → List ℕ) (context : Context) (parent : List ℕ) (height : ℕ) (payload : Option (Payload Dir))
    → (context_bytes context ++ (parent ++ uint height)) ++ tagged (flag_of {A = Payload Dir}) (flagged_body (payload_spelling spelling)) payload ≡ block_bytes spelling context parent height payload
unfolding block_bytes
parts_spelled spelling context parent height payload = rw (flagged_is spelling payload) (ap (λ (x : List ℕ). x ++ flagged_bytes spelling payload) (sym (append_assoc (context_bytes context) parent (uint height))))

made_block : {Dir : Type 0} (fits : Payload Dir → Type 0) (spelling : Dir → List ℕ) (b : Block Dir) → BlockFits fits spelling b → MadeOf (BothFit HeadFits (FlaggedFits fits)) (block_from spelling) b
made_block {Dir} fits spelling b fit = record {
  of = block_parts b;
  fit = fit.parts;
  is = ap (λ (digest : List ℕ). let made : Block Dir = record { context = b.context; parent = b.parent; height = b.height; payload = b.payload; digest = digest } in made) (sym fit.sealed);
}

pub block_grammar : {Dir : Type 0} (fits : Payload Dir → Type 0) (spelling : Dir → List ℕ) (read : List ℕ → Reading (Payload Dir)) → IsGrammar fits (payload_spelling spelling) read → IsGrammar (BlockFits fits spelling) (block_spelling spelling) (block_at spelling read)
block_grammar {Dir} fits spelling read law =
    let flagged = tagged (flag_of {A = Payload Dir}) (flagged_body (payload_spelling spelling)) in
    let parts = beside_grammar HeadFits head_spelling head_at (FlaggedFits fits) flagged (flagged_at read) head_grammar (flagged_grammar fits (payload_spelling spelling) read law) in
    made_grammar (BothFit HeadFits (FlaggedFits fits)) (both_spelled head_spelling flagged) (beside_at head_at (flagged_at read)) (block_from spelling) (BlockFits fits spelling) (block_spelling spelling) parts
    (λ p fit. record { parts = fit; sealed = refl }) (λ p. parts_spelled spelling p.0.0 p.0.1.0 p.0.1.1 p.1) (made_block fits spelling)
