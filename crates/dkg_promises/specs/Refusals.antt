-- Where a life stops at a block that is refused.
use Rattle.std.specs.Prelude.{ℕ, suc, ◌<◌, ◌≡◌, ◌⊎◌, List, Option, Some, length, slice_get, ⊤, false}
use Rattle.dkg_infos.specs.declared.fault.Fault.{Fault}
use Rattle.dkg_infos.specs.declared.fault.Fault.TheVariants.{ConflictingBlock, DetachedBlock, OutOfWindow, SkippedHeight}
use Rattle.dkg_journal.specs.Names.{Files}
use Rattle.dkg_types.specs.Blocks.{Block as Made}
use Rattle.dkg_infos.specs.declared.directory.Unit as directory
use Rattle.dkg_text.specs.declared.script.Event.TheVariants.{Final}
use Rattle.dkg_text.specs.declared.script.Life.{Life}
use Rattle.dkg_script.specs.Epochs.{IsUncutBefore}
use Rattle.dkg_script.specs.Position.{awaited_height_after, event_of_step}
use Rattle.dkg_script.specs.Promise.{IsBuilt, IsHonestRun}
use Rattle.dkg_script.specs.Setting.{Setting, CutAt, life_at}
use Rattle.dkg_lives.specs.Blamed.{is_first_taken}
use Rattle.dkg_lives.specs.Given.{blocks_in}

-- the fault blames a delivered block
abbrev pub IsRefusal : Fault → Type 0
IsRefusal (ConflictingBlock height) = ⊤
IsRefusal (DetachedBlock height) = ⊤
IsRefusal (SkippedHeight awaited got) = ⊤
IsRefusal (OutOfWindow height) = ⊤
IsRefusal _ = ⊥

-- behind its first j events the life has a position, and the block stands above the height that is awaited
pub record Skips (s : Setting) (l : ℕ) (life : Life) (j : ℕ) (block : Made directory.Unit) (fault : Fault) : Type 0 where
  pub fault_is : fault ≡ SkippedHeight (awaited_height_after s l life j) block.height
  pub positioned : 0 < awaited_height_after s l life j
  pub above : awaited_height_after s l life j < block.height

-- .. it has none, and the block is none that it may begin with
pub record IsNoFirst (s : Setting) (l : ℕ) (life : Life) (j : ℕ) (block : Made directory.Unit) (fault : Fault) : Type 0 where
  pub fault_is : fault ≡ OutOfWindow block.height
  pub unpositioned : awaited_height_after s l life j ≡ 0
  pub untaken : is_first_taken s.script l life block ≡ false

-- A block that a step delivers to which the life comes is such a one, and the fault says so.
pub record SkipsIn (s : Setting) (l : ℕ) (life : Life) (fault : Fault) : Type 0 where
  pub taken : ℕ
  pub number : ℕ
  pub block : Made directory.Unit
  pub event_is : event_of_step life (suc taken) ≡ Some (Final number)
  pub reached : IsUncutBefore life.cut (suc taken)
  pub block_is : slice_get (blocks_in s.script) number ≡ Some block
  pub so : Skips s l life taken block fault ⊎ IsNoFirst s l life taken block fault

-- .. in the life behind those that ended so
pub record SkipsNow (s : Setting) (ends : List (Option CutAt)) (fault : Fault) : Type 0 where
  pub life : Life
  pub life_is : life_at s (length ends) ≡ Some life
  pub skips : SkipsIn s (length ends) life fault

-- where the premises of the promise hold
abbrev pub BlamesOnlySkips : Setting → (image : Files → Type 0) → List (Option CutAt) → Fault → Type 0
BlamesOnlySkips s image ends fault = IsBuilt s → IsHonestRun s image ends → IsRefusal fault → SkipsNow s ends fault
