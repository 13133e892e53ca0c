-- A life's source, by the events that have come.
use Rattle.std.specs.Prelude.{ℕ, ◌≡◌, ◌++◌, ◌∷◌, [], filter_map, List, None, Option, slice_get, Some, take}
use Rattle.dkg_types.specs.Blocks.{Block}
use Rattle.dkg_infos.specs.declared.directory.Unit as directory
use Rattle.dkg_text.specs.declared.script.Anchor.{Anchor}
use Rattle.dkg_text.specs.declared.script.Life.{Life}
use Rattle.dkg_text.specs.declared.script.Script.{Script}
use Rattle.dkg_script.specs.Blocks.{anchor_number, delivered_number}
use Rattle.dkg_script.specs.Inclusion.{IsFormOfInclusion}
use Rattle.dkg_lives.specs.Epochs.{IsChecked}
use Rattle.dkg_lives.specs.Given.{blocks_in}
use Rattle.dkg_around.specs.declared.held.HeldBlocks.{HeldBlocks}

-- the number of an anchor's block
abbrev pub anchor_numbers : Option Anchor → List ℕ
anchor_numbers None = []
anchor_numbers (Some anchor) = anchor_number anchor ∷ []

-- It holds the blocks of a life's numbers, its anchor's, and those that so many of its events delivered.
pub record IsSourceOf (blocks : List (Block directory.Unit)) (life : Life) (taken : ℕ) (source : HeldBlocks) : Type 0 where
  pub blocks_are : source.blocks.now ≡ blocks
  pub anchor_is : source.anchor ≡ life.anchor
  pub numbers_are : source.numbers.items ≡ life.held ++ (anchor_numbers life.anchor ++ filter_map delivered_number (take taken life.events))

-- It is the life of this number of a script of the form that is run, which was checked, and this the source of its opening.
pub record IsToOpen (script : Script) (number : ℕ) (life : Life) (source : HeldBlocks) : Type 0 where
  pub form : IsFormOfInclusion script
  pub checked : IsChecked script
  pub life_is : slice_get script.lives number ≡ Some life
  pub source_is : IsSourceOf (blocks_in script) life 0 source
