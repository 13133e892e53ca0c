-- The blocks that a node makes of the lines of a script are those of the script, as its definitions see them.
use Rattle.std.proofs.Common.{◌≡◌, true, false, ℕ, List, [], ◌∷◌, ◌++◌, Option, Some, None, refl, sym, ◌∙◌, ap, subst, map}
use Rattle.std.specs.Prelude.{fold, option_and_then, option_map, slice_get, IfSome, IsSome}
use Rattle.std.specs.Int.NonZero.{non_zero_u32_get}
use Rattle.std.specs.List.{AllByRecursion}
use Rattle.std.specs.Option.{option_map_or}
use Rattle.std.proofs.lemmas.List.{map-append}
use Rattle.std.proofs.lemmas.Option.{slice_get-map}
use Rattle.dkg_values.specs.Codec.{IsBytes, whole}
use Rattle.dkg_types.specs.BlockCodes.{IsBlock, flagged_bytes, zero_digest}
use Rattle.dkg_types.specs.Blocks as made
use Rattle.dkg_types.specs.PayloadCodes.{payload_at, payload_spelling}
use Rattle.dkg_infos.specs.Units.{unit_at, unit_spelling}
use Rattle.dkg_infos.specs.declared.directory.Unit as directory
use Rattle.dkg_types.specs.declared.payload.Payload.{Payload}
use Rattle.dkg_text.specs.declared.script.BlockLine.{BlockLine}
use Rattle.dkg_script.specs.Blocks.{ScriptBlock, numbered_block, block_of, blocks}
use Rattle.dkg_script.specs.Epochs.{IsBlockIn}
use Rattle.dkg_script.specs.Inclusion.{IsFormOfInclusion}
use Rattle.dkg_script.specs.Readings.{Limits, unit_payload}
use Rattle.dkg_script.specs.Setting.{Setting, limits}
use Rattle.dkg_script.specs.Views.{IsPayloadOf, context_on, seen_block}
use Rattle.dkg_script.proofs.Views.{seen_is}
use Rattle.dkg_lives.specs.Given.{AreBytes, block_on, blocks_in, limits_of, parent_digest_in, payload_in, with_block}
use Rattle.dkg_lives.proofs.BlocksMade.{spelled_back}

abbrev pub seen : made.Block directory.Unit → ScriptBlock
seen = seen_block unit_spelling

module _ (s : Setting) (form : IsFormOfInclusion s.script) where
  same_limits : limits s ≡ limits_of s.script
  same_limits = rw form.reshares refl

  -- a payload that is read is spelled as the line has it
  payload_read : (line : Option (List ℕ)) → IfSome line (λ bytes. IsSome (unit_payload (limits_of s.script) bytes)) → IfSome line IsBytes → IsPayloadOf (limits_of s.script) line (payload_in s.script.config line)
  payload_read None reads are = tt
  payload_read (Some bytes) reads are =
      by_read (unit_payload (limits_of s.script) bytes) refl reads
      (spelled_back (non_zero_u32_get s.script.config.limit) s.script.config.max_mode.0 bytes are
      (whole (payload_at (λ peers. unit_at) (λ d peers. true) (non_zero_u32_get s.script.config.limit) s.script.config.max_mode.0 bytes)) refl reads)
    where
      rest_same : (x y : List ℕ) → ◌≡◌ {A = List ℕ} (1 ∷ x) (1 ∷ y) → x ≡ y
      rest_same x y e = cc

      by_read : (o : Option (Payload directory.Unit)) → unit_payload (limits_of s.script) bytes ≡ o → IsSome o → flagged_bytes unit_spelling o ≡ 1 ∷ bytes → IsPayloadOf (limits_of s.script) (Some bytes) o
      by_read None is some spelled = absurd (let wrong : false ≡ true = some in cc)
      by_read (Some payload) is some spelled = (is, rest_same (payload_spelling unit_spelling payload) bytes spelled)

  -- a parent's digest
  same_parent : (all : List (made.Block directory.Unit)) (parent : Option ℕ) → parent_digest_in all parent ≡ option_map_or (λ (b : ScriptBlock). b.digest) (option_and_then (slice_get (map seen all)) parent) zero_digest
  same_parent all None = refl
  same_parent all (Some number) = sym (ap (λ (o : Option ScriptBlock). option_map_or (λ (b : ScriptBlock). b.digest) o zero_digest) (slice_get-map seen all number) ∙ through (slice_get all number))
    where
      through : (o : Option (made.Block directory.Unit)) → option_map_or (λ (b : ScriptBlock). b.digest) (option_map seen o) zero_digest ≡ option_map_or (λ b. b.digest) o zero_digest
      through None = refl
      through (Some b) = refl

  -- a line's block
  line_seen : (all : List (made.Block directory.Unit)) (line : BlockLine) → IsBlockIn s.script line → IfSome line.payload IsBytes
      → seen (block_on s.script.config (parent_digest_in all line.parent) line) ≡ block_of s (map seen all) line
  line_seen all line reads bytes =
      seen_is s (map seen all) line (payload_in s.script.config line.payload) (block_on s.script.config (parent_digest_in all line.parent) line) form.plain
      (subst (λ (its : Limits). IsPayloadOf its line.payload (payload_in s.script.config line.payload)) (sym same_limits) (payload_read line.payload reads bytes))
      (subst (λ (parent : List ℕ). IsBlock unit_spelling (context_on s parent line) parent line.height (payload_in s.script.config line.payload) (block_on s.script.config (parent_digest_in all line.parent) line)) (same_parent all line.parent)
      (record { of_context = refl; of_parent = refl; of_height = refl; of_payload = refl; of_digest = refl }))

  all_seen : (all : List (made.Block directory.Unit)) (lines : List BlockLine) → AllByRecursion (IsBlockIn s.script) lines → AllByRecursion (λ line. IfSome line.payload IsBytes) lines
      → fold (λ before line. before ++ block_of s before line ∷ []) (map seen all) lines ≡ map seen (fold (with_block s.script.config) all lines)
  all_seen all [] reads bytes = refl
  all_seen all (line ∷ lines) reads bytes =
      ap (λ (before : List ScriptBlock). fold (λ before line. before ++ block_of s before line ∷ []) before lines)
      (ap (λ (b : ScriptBlock). map seen all ++ b ∷ []) (sym (line_seen all line reads.0 bytes.0)) ∙ sym (map-append seen all (block_on s.script.config (parent_digest_in all line.parent) line ∷ [])))
      ∙ all_seen (all ++ block_on s.script.config (parent_digest_in all line.parent) line ∷ []) lines reads.1 bytes.1

  module _ (bytes : AreBytes s.script.blocks) where
    pub blocks_seen : blocks s ≡ map seen (blocks_in s.script)
    unfolding blocks_in
    blocks_seen = all_seen [] s.script.blocks form.blocks bytes

    at_number : (number : ℕ) → numbered_block s number ≡ option_map seen (slice_get (blocks_in s.script) number)
    at_number number = ap (λ (bs : List ScriptBlock). slice_get bs number) blocks_seen ∙ slice_get-map seen (blocks_in s.script) number

    -- The law: the node's block of a number is the script's,
    pub seen_at : (number : ℕ) (its : made.Block directory.Unit) → slice_get (blocks_in s.script) number ≡ Some its → numbered_block s number ≡ Some (seen its)
    seen_at number its there = at_number number ∙ ap (option_map seen) there

    -- .. and each of the script's is one of the node's.
    pub made_at : (number : ℕ) (b : ScriptBlock) → numbered_block s number ≡ Some b → (its : made.Block directory.Unit) × (slice_get (blocks_in s.script) number ≡ Some its) × (seen its ≡ b)
    made_at number b there = by_block (slice_get (blocks_in s.script) number) refl (sym (at_number number) ∙ there)
      where
        by_block : (o : Option (made.Block directory.Unit)) → slice_get (blocks_in s.script) number ≡ o → option_map seen o ≡ Some b → (its : made.Block directory.Unit) × (slice_get (blocks_in s.script) number ≡ Some its) × (seen its ≡ b)
        by_block None is none = absurd (let wrong : ◌≡◌ {A = Option ScriptBlock} None (Some b) = none in cc)
        by_block (Some its) is same = (its, is, let e : ◌≡◌ {A = Option ScriptBlock} (Some (seen its)) (Some b) = same in cc)
