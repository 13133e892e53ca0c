-- Lives of scripts whose lives go over many epochs: what is known of one, and where its node stands after its first events.
use Rattle.std.specs.Prelude.{ℕ, ◌<◌, ◌≤◌, ◌≡◌, List, Option, Some, None, true, false, ⊤, IfSome, slice_get}
use Rattle.std.specs.Int.NonZero.{non_zero_u64_get}
use Rattle.dkg_ceremony.specs.Modes.{supports_of}
use Rattle.dkg_infos.specs.declared.directory.Unit as directory
use Rattle.dkg_infos.specs.declared.fault.Fault.{Fault}
use Rattle.dkg_text.specs.declared.script.Anchor.{Anchor}
use Rattle.dkg_text.specs.declared.script.Anchor.TheVariants.{Processed, Absent}
use Rattle.dkg_text.specs.declared.script.BlockLine.{BlockLine}
use Rattle.dkg_text.specs.declared.script.Script.{Script}
use Rattle.dkg_life.specs.Configured.{config_fault}
use Rattle.dkg_life.specs.Planless.{seen_planless}
use Rattle.dkg_script.specs.Epochs.{alone}
use Rattle.dkg_script.specs.Inclusion.{IsFormOfInclusion}
use Rattle.dkg_script.specs.Position.{awaited_epoch, awaited_height_after, life_follows}
use Rattle.dkg_store.specs.Acts.{Held}
use Rattle.dkg_core.specs.Asked.{OfShares}
use Rattle.dkg_core.specs.Live as core
use Rattle.dkg_core.specs.Live.{Follows, Live}
use Rattle.dkg_laws.specs.NodeThrough.{IsActiveThrough}
use Rattle.dkg_core.specs.Through.{IsFormThrough, IsLiveThrough}
use Rattle.dkg_lives.specs.Given.{Lived, at_step}

-- A LIFE

-- A block that a node doesn't have stands above height 0.
abbrev pub IsAnchorAbove : List BlockLine → Anchor → Type 0
IsAnchorAbove blocks (Processed number) = Unit {0}
IsAnchorAbove blocks (Absent number) = IfSome (slice_get blocks number) (λ line. 0 < line.height)

-- It is a life of a script of this form, whose mode is supported and whose epochs have two blocks at least, and no plan is read.
pub record IsLifeInForm (g : Lived) : Type 0 where
  pub form : IsFormOfInclusion g.script
  pub life_is : slice_get g.script.lives g.number ≡ Some g.life
  pub anchor : IfSome g.life.anchor (IsAnchorAbove g.script.blocks)
  pub unplanned : (h : Held) → (g.seen h).plan ≡ None
  pub supported : supports_of g.script.config.max_mode.0 g.script.config.mode ≡ true
  pub long : 2 ≤ non_zero_u64_get g.script.config.blocks_per_epoch

-- WHERE IT STANDS

-- what its script says of it, over devices that hold nothing
abbrev pub awaited_by : Lived → (j : ℕ) → ℕ
awaited_by g j = awaited_height_after (alone g.script) g.number g.life j

abbrev pub epoch_by : Lived → (j : ℕ) → ℕ
epoch_by g j = awaited_epoch (alone g.script) g.number g.life j

-- Behind the first j events it awaits the height that is said, and it follows where it is said to follow the epoch of that height; else it takes part in that epoch. The epoch that it
-- was set up for is no later one.
pub record StandsInScript (g : Lived) (j : ℕ) (st : Live directory.Unit) : Type 0 where
  pub awaits : core.awaited_height st ≡ awaited_by g j
  pub blind : st.participation.stage ≡ Follows → life_follows (alone g.script) g.number g.life (epoch_by g j) ≡ true
  pub parts : (st.participation.stage ≡ Follows → ⊥) → life_follows (alone g.script) g.number g.life (epoch_by g j) ≡ false
  pub epoch : (st.participation.stage ≡ Follows → ⊥) → st.participation.epoch ≡ epoch_by g j
  pub within : st.participation.epoch ≤ epoch_by g j

-- of the shares that a life has read nothing is said
abbrev pub any_shares : OfShares
any_shares epoch share = ⊤

-- A STATE behind the first j events
pub record IsAtEvent (g : Lived) (j : ℕ) (st : Live directory.Unit) : Type 0 where
  pub live : IsLiveThrough (at_step g j) any_shares st
  pub active : IsActiveThrough st
  pub stands : StandsInScript g j st

-- what a script's configuration is refused for, before its first life
abbrev pub refused_config : Script → Option Fault
refused_config script = config_fault script.config.mode script.config.max_mode.0 (non_zero_u64_get script.config.blocks_per_epoch)

-- Its configuration is not refused.
abbrev pub IsChecked : Script → Type 0
IsChecked script = refused_config script ≡ None

-- A STEP

-- The life goes on with this step, whose reads are those of the devices.
pub record MayStep (g : Lived) (number : ℕ) (st : Live directory.Unit) : Type 0 where
  pub reads : (at_step g number).seen ≡ seen_planless
  pub form : IsFormThrough (at_step g number)
  pub live : IsLiveThrough (at_step g number) any_shares st
  pub active : IsActiveThrough st
