-- The blocks that a node makes of the lines of a script over many epochs are those of the script, at the same heights, with the same digests and parents.
use Rattle.std.proofs.Common.{◌≡◌, true, false, ℕ, zero, suc, List, [], ◌∷◌, ◌++◌, Option, Some, None, Result, Ok, Err, refl, sym, ◌∙◌, ap}
use Rattle.std.specs.Prelude.{⊤, fold, option_and_then, slice_get, IfSome, IsSome, IsSomeAnd}
use Rattle.std.specs.Int.NonZero.{non_zero_u32_get}
use Rattle.std.specs.List.{AllByRecursion}
use Rattle.std.specs.Option.{option_map_or}
use Rattle.std.specs.Result.{result_ok}
use Rattle.sha2.specs.Sha256.{sha256}
use Rattle.dkg_values.specs.Codec.{IsBytes, whole}
use Rattle.dkg_values.specs.Grammar.{decoded_found}
use Rattle.dkg_values.specs.Uint.{uint}
use Rattle.dkg_values.specs.declared.codec.CodecError.{CodecError}
use Rattle.dkg_types.specs.BlockCodes.{block_bytes, context_bytes, flagged_bytes, zero_digest}
use Rattle.dkg_types.specs.Blocks as made
use Rattle.dkg_types.specs.PayloadCodes.{PayloadFits, payload_at, payload_grammar, payload_spelling}
use Rattle.dkg_infos.specs.Units.{unit_at, unit_grammar, unit_spelling}
use Rattle.dkg_infos.specs.declared.directory.Unit as directory
use Rattle.dkg_types.specs.declared.payload.Payload.{Payload}
use Rattle.dkg_text.specs.declared.script.BlockLine.{BlockLine}
use Rattle.dkg_script.specs.Blocks.{ScriptBlock, numbered_block, block_of, blocks, digest_of, flagged}
use Rattle.dkg_script.specs.Epochs.{IsBlockIn}
use Rattle.dkg_script.specs.Readings.{Limits, unit_payload}
use Rattle.dkg_script.specs.Setting.{Setting}
use Rattle.dkg_lives.specs.Given.{block_on, blocks_in, context_in, parent_digest_in, payload_in, with_block}

-- this is the block, as the node holds it
pub record IsOf (b : ScriptBlock) (its : made.Block directory.Unit) : Type 0 where
  pub height : its.height ≡ b.height
  pub digest : its.digest ≡ b.digest
  pub parent : its.parent ≡ b.parent

-- each of these is the one of the others in its place
abbrev pub AreOf : List ScriptBlock → List (made.Block directory.Unit) → Type 0
AreOf [] [] = Unit {0}
AreOf [] (its ∷ more) = ⊥
AreOf (b ∷ bs) [] = ⊥
AreOf (b ∷ bs) (its ∷ more) = IsOf b its × AreOf bs more

are_at : (bs : List ScriptBlock) (all : List (made.Block directory.Unit)) (number : ℕ) → AreOf bs all → IfSome (slice_get all number) (λ its. IsSomeAnd (slice_get bs number) (λ b. IsOf b its))
are_at [] [] number are = tt
are_at [] (its ∷ more) number are = absurd are
are_at (b ∷ bs) [] number are = absurd are
are_at (b ∷ bs) (its ∷ more) zero are = are.0
are_at (b ∷ bs) (its ∷ more) (suc number) are = are_at bs more number are.1

are_more : (bs : List ScriptBlock) (all : List (made.Block directory.Unit)) (b : ScriptBlock) (its : made.Block directory.Unit) → AreOf bs all → IsOf b its → AreOf (bs ++ b ∷ []) (all ++ its ∷ [])
are_more [] [] b its are is = (is, tt)
are_more [] (one ∷ more) b its are is = absurd are
are_more (a ∷ bs) [] b its are is = absurd are
are_more (a ∷ bs) (one ∷ more) b its are is = (are.0, are_more bs more b its are.1 is)

-- A PARENT

digest_at : (bs : List ScriptBlock) (all : List (made.Block directory.Unit)) (number : ℕ) → AreOf bs all → option_map_or (λ its. its.digest) (slice_get all number) zero_digest ≡ option_map_or (λ b. b.digest) (slice_get bs number) zero_digest
digest_at [] [] number are = refl
digest_at [] (its ∷ more) number are = absurd are
digest_at (b ∷ bs) [] number are = absurd are
digest_at (b ∷ bs) (its ∷ more) zero are = (are.0).digest
digest_at (b ∷ bs) (its ∷ more) (suc number) are = digest_at bs more number are.1

parent_is : (bs : List ScriptBlock) (all : List (made.Block directory.Unit)) (parent : Option ℕ) → AreOf bs all → parent_digest_in all parent ≡ option_map_or (λ b. b.digest) (option_and_then (slice_get bs) parent) zero_digest
parent_is bs all None are = refl
parent_is bs all (Some number) are = digest_at bs all number are

-- A PAYLOAD that is read is spelled so

abbrev units : (most version : ℕ) → Limits
units most version = record { limit = most; version = version; addressed = false }

pub spelled_back : (most version : ℕ) (bytes : List ℕ) → IsBytes bytes → (read : Result (Payload directory.Unit) CodecError)
    → whole (payload_at (λ peers. unit_at) (λ d peers. true) most version bytes) ≡ read → IsSome (result_ok read) → flagged_bytes unit_spelling (result_ok read) ≡ 1 ∷ bytes
spelled_back most version bytes are (Err e) is some = absurd (let wrong : false ≡ true = some in cc)
spelled_back most version bytes are (Ok payload) is some =
    ap (λ (text : List ℕ). 1 ∷ text) (sym (decoded_found (PayloadFits (λ peers (u : directory.Unit). ⊤) (λ d peers. true) most version) (payload_spelling unit_spelling) (payload_at (λ peers. unit_at) (λ d peers. true) most version)
    (payload_grammar (λ peers (u : directory.Unit). ⊤) unit_spelling (λ peers. unit_at) (λ d peers. true) (λ peers. unit_grammar) most version) bytes are (Ok payload) is).1)

flagged_same : (most version : ℕ) (payload : Option (List ℕ)) → IfSome payload (λ bytes. IsSome (unit_payload (units most version) bytes)) → IfSome payload IsBytes
    → flagged_bytes unit_spelling (option_and_then (unit_payload (units most version)) payload) ≡ flagged payload
flagged_same most version None reads are = refl
flagged_same most version (Some bytes) reads are = spelled_back most version bytes are (whole (payload_at (λ peers. unit_at) (λ d peers. true) most version bytes)) refl reads

-- A LINE'S BLOCK

module _ (s : Setting) where
  digest_is : (bs : List ScriptBlock) (all : List (made.Block directory.Unit)) (line : BlockLine) → AreOf bs all → IsBlockIn s.script line → IfSome line.payload IsBytes
      → (block_on s.script.config (parent_digest_in all line.parent) line).digest ≡ (block_of s bs line).digest
  unfolding digest_of block_bytes
  digest_is bs all line are today bytes =
      ap (λ (parent : List ℕ). sha256 (context_bytes (context_in s.script.config line parent) ++ parent ++ uint line.height ++ flagged_bytes unit_spelling (payload_in s.script.config line.payload))) (parent_is bs all line.parent are)
      ∙ ap (λ (text : List ℕ). let parent : List ℕ = option_map_or (λ b. b.digest) (option_and_then (slice_get bs) line.parent) zero_digest in
      sha256 (context_bytes (context_in s.script.config line parent) ++ parent ++ uint line.height ++ text))
      (flagged_same (non_zero_u32_get s.script.config.limit) s.script.config.max_mode.0 line.payload today bytes)

  all_are : (bs : List ScriptBlock) (all : List (made.Block directory.Unit)) (lines : List BlockLine) → AreOf bs all → AllByRecursion (IsBlockIn s.script) lines → AllByRecursion (λ line. IfSome line.payload IsBytes) lines
      → AreOf (fold (λ before line. before ++ block_of s before line ∷ []) bs lines) (fold (with_block s.script.config) all lines)
  all_are bs all [] are today bytes = are
  all_are bs all (line ∷ lines) are today bytes = all_are (bs ++ block_of s bs line ∷ []) (all ++ block_on s.script.config (parent_digest_in all line.parent) line ∷ []) lines
      (are_more bs all (block_of s bs line) (block_on s.script.config (parent_digest_in all line.parent) line) are (record { height = refl; digest = digest_is bs all line are today.0 bytes.0; parent = parent_is bs all line.parent are }))
      today.1 bytes.1

  -- The law: each block is the script's of its number.
  pub each_is : AllByRecursion (IsBlockIn s.script) s.script.blocks → AllByRecursion (λ line. IfSome line.payload IsBytes) s.script.blocks
      → (number : ℕ) → IfSome (slice_get (blocks_in s.script) number) (λ its. IsSomeAnd (numbered_block s number) (λ b. IsOf b its))
  unfolding blocks_in
  each_is today bytes number = are_at (blocks s) (blocks_in s.script) number (all_are [] [] s.script.blocks tt today bytes)
