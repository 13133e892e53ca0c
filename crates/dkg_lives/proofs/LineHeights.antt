-- The blocks of a script stand at the heights of their lines.
use Rattle.std.proofs.Common.{◌≡◌, ◌++◌, ◌∷◌, [], ℕ, List, Option, Some, None, refl, sym, ◌∙◌, ap, subst, map, fold, append_assoc, append-nil}
use Rattle.std.specs.Prelude.{IsSomeAnd, slice_get, option_map}
use Rattle.std.proofs.lemmas.List.{map-append}
use Rattle.std.proofs.lemmas.Option.{slice_get-map}
use Rattle.dkg_types.specs.Blocks.{Block}
use Rattle.dkg_infos.specs.declared.directory.Unit as directory
use Rattle.dkg_text.specs.declared.script.BlockLine.{BlockLine}
use Rattle.dkg_text.specs.declared.script.Script.{Script}
use Rattle.dkg_text.specs.declared.script.ScriptConfig.{ScriptConfig}
use Rattle.dkg_lives.specs.Given.{blocks_in, with_block}

-- BLOCKS stand at the heights of their lines

abbrev heights : List (Block directory.Unit) → List ℕ
heights blocks = map (λ (b : Block directory.Unit). b.height) blocks

made_heights : (config : ScriptConfig) (before : List (Block directory.Unit)) (lines : List BlockLine)
    → heights (fold (with_block config) before lines) ≡ heights before ++ map (λ (line : BlockLine). line.height) lines
made_heights config before [] = sym (append-nil (heights before))
made_heights config before (line ∷ lines) =
    made_heights config (with_block config before line) lines
    ∙ ap (λ (hs : List ℕ). hs ++ map (λ (line : BlockLine). line.height) lines) (map-append (λ (b : Block directory.Unit). b.height) before _)
    ∙ append_assoc (heights before) (line.height ∷ []) (map (λ (line : BlockLine). line.height) lines)

pub heights_are : (script : Script) → heights (blocks_in script) ≡ map (λ (line : BlockLine). line.height) script.blocks
unfolding blocks_in
heights_are script = made_heights script.config [] script.blocks

-- the block of a line
pub record IsMade (script : Script) (number : ℕ) (P : ℕ → Type 0) : Type 0 where
  pub block : Block directory.Unit
  pub is : slice_get (blocks_in script) number ≡ Some block
  pub so : P block.height

pub made_at : (script : Script) (number : ℕ) (P : ℕ → Type 0) → IsSomeAnd (slice_get script.blocks number) (λ line. P line.height) → IsMade script number P
made_at script number P of_line = both (slice_get script.blocks number) (slice_get (blocks_in script) number) refl same of_line
  where
    same : option_map (λ (b : Block directory.Unit). b.height) (slice_get (blocks_in script) number) ≡ option_map (λ (line : BlockLine). line.height) (slice_get script.blocks number)
    same = sym (slice_get-map (λ (b : Block directory.Unit). b.height) (blocks_in script) number)
        ∙ ap (λ (hs : List ℕ). slice_get hs number) (heights_are script)
        ∙ slice_get-map (λ (line : BlockLine). line.height) script.blocks number

    the_height : {x y : ℕ} → Some x ≡ Some y → x ≡ y
    the_height e = cc

    both : (o : Option BlockLine) (b : Option (Block directory.Unit)) → slice_get (blocks_in script) number ≡ b
        → option_map (λ (b : Block directory.Unit). b.height) b ≡ option_map (λ (line : BlockLine). line.height) o → IsSomeAnd o (λ line. P line.height) → IsMade script number P
    both None b is heights of_line = absurd of_line
    both (Some line) None is heights of_line = absurd (let wrong : ◌≡◌ {A = Option ℕ} None (Some line.height) = heights in cc)
    both (Some line) (Some b) is heights of_line = record { block = b; is = is; so = subst P (sym (the_height heights)) of_line }
