-- What a life's source answers as the life opens.
use Rattle.std.proofs.Common.{◌≡◌, ◌++◌, [], List, ℕ, Option, Some, None, refl, sym, ◌∙◌, ap}
use Rattle.std.specs.Prelude.{option_map, slice_get}
use Rattle.std.specs.List.{cons_option}
use Rattle.std.proofs.lemmas.List.Elements.{filter_map-append}
use Rattle.dkg_types.specs.Blocks.{Block}
use Rattle.dkg_infos.specs.declared.directory.Unit as directory
use Rattle.dkg_text.specs.declared.script.Anchor as declared
use Rattle.dkg_text.specs.declared.script.Anchor.TheVariants as anchor
use Rattle.dkg_core.specs.Sources.{anchored, source_over}
use Rattle.dkg_lives.specs.Given.{Lived, anchor_of_line, anchor_in, blocks_in, numbered, source_at, unsealed}
use Rattle.dkg_around.specs.Sources.{IsSourceOf, anchor_numbers}
use Rattle.dkg_around.specs.declared.held.HeldBlocks.{HeldBlocks}

one_anchored : (its : declared.Anchor) (o : Option (Block directory.Unit)) → anchored (option_map (anchor_of_line its) o) ≡ cons_option o []
one_anchored its None = refl
one_anchored (anchor.Processed number) (Some b) = refl
one_anchored (anchor.Absent number) (Some b) = refl

anchored_are : (blocks : List (Block directory.Unit)) (at : Option declared.Anchor) → anchored (anchor_in blocks at) ≡ numbered blocks (anchor_numbers at)
anchored_are blocks None = refl
anchored_are blocks (Some (anchor.Processed number)) = one_anchored (anchor.Processed number) (slice_get blocks number)
anchored_are blocks (Some (anchor.Absent number)) = one_anchored (anchor.Absent number) (slice_get blocks number)

-- the blocks of a life's numbers, and its anchor's
held_are : (blocks : List (Block directory.Unit)) (held : List ℕ) (at : Option declared.Anchor)
    → numbered blocks held ++ (anchored (anchor_in blocks at) ++ []) ≡ numbered blocks (held ++ (anchor_numbers at ++ []))
held_are blocks held at = sym (
    filter_map-append (slice_get blocks) held (anchor_numbers at ++ [])
    ∙ ap (λ (bs : List (Block directory.Unit)). numbered blocks held ++ bs)
    (filter_map-append (slice_get blocks) (anchor_numbers at) [] ∙ ap (λ (bs : List (Block directory.Unit)). bs ++ []) (sym (anchored_are blocks at))))

-- The source that the life's opening is given is what the held blocks answer.
pub source_is : (g : Lived) (source : HeldBlocks) → IsSourceOf (blocks_in g.script) g.life 0 source
    → source_at g 0 ≡ source_over unsealed (anchor_in source.blocks.now source.anchor) (numbered source.blocks.now source.numbers.items)
source_is g source is =
    ap (λ (bs : List (Block directory.Unit)). source_over unsealed (anchor_in (blocks_in g.script) g.life.anchor) bs) (held_are (blocks_in g.script) g.life.held g.life.anchor)
    ∙ sym (rw (is.blocks_are, is.anchor_is, is.numbers_are) refl)
