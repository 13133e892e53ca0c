-- What a part of a step keeps, and which blocks are applied.
use Rattle.std.specs.Prelude.{List, ◌≡◌, ◌==◌, ◌&&◌, not, nat_lt, ℕ, None, Bool, true, Ok, IsTrue}
use Rattle.dkg_ceremony.specs.Schedule.{epoch_of, midpoint}
use Rattle.dkg_ceremony.specs.declared.epocher.Bounds.{Bounds}
use Rattle.dkg_journal.specs.DeviceCall.{DeviceCall}
use Rattle.dkg_journal.specs.Names.{Files}
use Rattle.dkg_journal.specs.declared.disk.Op.{Op}
use Rattle.dkg_secrets.specs.declared.secrets.SecretOp.{SecretOp}
use Rattle.dkg_store.specs.Corrupt.{AreFit}
use Rattle.dkg_store.specs.declared.devices.Devices.{Devices}
use Rattle.dkg_types.specs.Blocks.{Block}
use Rattle.dkg_life.specs.declared.life.Life.{Life}
use Rattle.dkg_life.specs.declared.life.Stage.{Stage}
use Rattle.dkg_life.specs.declared.life.Stage.TheVariants as stage
use Rattle.dkg_life.specs.declared.tip.Judged.TheVariants.{New as IsNewBlock}
use Rattle.dkg_life.specs.Judged.{judged}
use Rattle.dkg_life.specs.Moved.{Moved}
use Rattle.dkg_life.specs.Steps.{AreBoundsAt}

-- A life without a tip takes a block of its epoch and window, and any while it follows.
abbrev pub is_in_window_by : Stage → (of_epoch early : Bool) → Bool
is_in_window_by stage.Dealing of_epoch early = of_epoch && early
is_in_window_by stage.Including of_epoch early = of_epoch && not early
is_in_window_by stage.Following of_epoch early = true

-- a block below the midpoint of its epoch
abbrev pub is_early_in : (blocks height : ℕ) → Bool
is_early_in blocks height = nat_lt height (midpoint blocks (epoch_of blocks height))

-- The block is applied: it is new over the tip, or without one in the window.
pub record IsApplied {Dir : Type 0} (blocks : ℕ) (life : Life Dir) (b : Block Dir) : Type 0 where
  pub is_new : judged life.tip b.height b.digest b.parent ≡ Ok IsNewBlock
  pub in_window : life.tip ≡ None → is_in_window_by life.stage (epoch_of blocks b.height == life.epoch) (is_early_in blocks b.height) ≡ true

-- A life that includes is delivered the last block of an epoch, whose bounds these are.
pub record IsGivenLast {Dir : Type 0} (blocks : ℕ) (life : Life Dir) (bounds : Bounds) (b : Block Dir) : Type 0 where
  pub includes : life.stage ≡ stage.Including
  pub are : AreBoundsAt blocks bounds b.height
  pub last : b.height ≡ bounds.last

-- WHAT STAYS of a life and its devices over a part of a step: its random word, what is lent, and that no record which a crash leaves is out of its grammar, or past this limit.
pub record MovesOn {D X Dir : Type 0} (was now : Life Dir) (tells : Bool) (made_disk : D → D → List (DeviceCall Op) → Type 0) (made_secrets : X → X → List (DeviceCall SecretOp) → Type 0)
    (disk_faults : D → ℕ) (secret_faults : X → ℕ) (image : D → Files → Type 0) (limit : ℕ) (old new : Devices D X) : Type 0 where
  pub word : now.word ≡ was.word
  pub moved : Moved tells made_disk made_secrets disk_faults secret_faults old new
  pub fit : IsTrue tells → AreFit limit (image old.disk.now) → AreFit limit (image new.disk.now)
