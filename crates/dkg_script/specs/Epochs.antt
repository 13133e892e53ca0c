-- The form of scripts whose lives go over many epochs: nothing happens in them but messages of the dealing channel and finalized blocks, and from the midpoint
-- of an epoch on no block of it comes while the life takes part in it.
use Rattle.std.specs.Prelude.{ℕ, suc, ◌≡◌, ◌<◌, ◌≤◌, ◌^◌, [], List, Option, Some, None, true, false, IsSome, IsSomeAnd, IfSome, slice_get}
use Rattle.std.specs.Int.NonZero.{non_zero_u32_get, non_zero_u64_get}
use Rattle.std.specs.List.{AllByRecursion}
use Rattle.std.specs.FinMap.{empty}
use Rattle.dkg_text.specs.declared.script.Anchor.{Anchor}
use Rattle.dkg_text.specs.declared.script.Anchor.TheVariants.{Processed, Absent}
use Rattle.dkg_text.specs.declared.script.BlockLine.{BlockLine}
use Rattle.dkg_text.specs.declared.script.Cut.{Cut}
use Rattle.dkg_text.specs.declared.script.Event.{Event}
use Rattle.dkg_text.specs.declared.script.Event.TheVariants.{Peer, Final}
use Rattle.dkg_text.specs.declared.script.Life.{Life}
use Rattle.dkg_text.specs.declared.script.Script.{Script}
use Rattle.dkg_script.specs.Schedule.{epoch_of, midpoint}
use Rattle.dkg_script.specs.Readings.{unit_payload}
use Rattle.dkg_script.specs.Setting.{Setting, blocks_per_epoch}
use Rattle.dkg_script.specs.Blocks.{ScriptBlock, numbered_block}
use Rattle.dkg_script.specs.Position.{event_of_step, awaited_epoch, life_follows}

-- a script over devices that hold nothing: no plan is found
abbrev pub alone : Script → Setting
alone script = record { script = script; files = empty; secrets = record { shares = empty; seeds = empty; privates = empty }; plans = [] }

-- a message of the dealing channel, of a key of 32 bits, or a block of the script
abbrev pub IsEpochsEvent : List BlockLine → Event → Type 0
IsEpochsEvent blocks (Peer from bytes) = from < 2 ^ 32
IsEpochsEvent blocks (Final number) = IsSome (slice_get blocks number)
IsEpochsEvent blocks _ = ⊥

-- a block of the script, or the height below one that is above height 0
abbrev pub IsAnchorIn : List BlockLine → Anchor → Type 0
IsAnchorIn blocks (Processed number) = IsSome (slice_get blocks number)
IsAnchorIn blocks (Absent number) = IsSomeAnd (slice_get blocks number) (λ block. 0 < block.height)

-- the life is not cut before the step
abbrev pub IsUncutBefore : Option Cut → (step : ℕ) → Type 0
IsUncutBefore cut step = IfSome cut (λ its. its.call ≡ 0 → step < its.step)

-- From its epoch's midpoint on, a block that comes while that epoch is awaited is one that the life follows.
abbrev pub TakesEarly : Setting → (l : ℕ) → Life → Type 0
TakesEarly s l life =
    (j number : ℕ) (b : ScriptBlock) → event_of_step life (suc j) ≡ Some (Final number) → IsUncutBefore life.cut (suc j) → numbered_block s number ≡ Some b
    → midpoint (blocks_per_epoch s) (epoch_of (blocks_per_epoch s) b.height) ≤ b.height → epoch_of (blocks_per_epoch s) b.height ≡ awaited_epoch s l life j
    → life_follows s l life (epoch_of (blocks_per_epoch s) b.height) ≡ true

-- A life without material, whose events are of these kinds.
pub record IsEpochsLife (script : Script) (l : ℕ) (life : Life) : Type 0 where
  pub anchor : IfSome life.anchor (IsAnchorIn script.blocks)
  pub no_sync : life.sync ≡ None
  pub events : AllByRecursion (IsEpochsEvent script.blocks) life.events
  pub takes : TakesEarly (alone script) l life

-- what a block's payload is, if it has one, is read under the script's limits
abbrev pub IsBlockIn : Script → BlockLine → Type 0
IsBlockIn script block =
    IfSome block.payload (λ bytes. IsSome (unit_payload (record { limit = non_zero_u32_get script.config.limit; version = script.config.max_mode.0; addressed = script.addressed }) bytes))

-- The script is of a reshare without directories of addresses, its node has a key of 32 bits, its limit is one that a script may have, its blocks' payloads are read and their heights
-- are numbers of 64 bits, and each of its lives is of the form.
pub record IsFormOfEpochs (script : Script) : Type 0 where
  pub plain : script.addressed ≡ false
  pub reshares : script.config.oneshot ≡ None
  pub own : script.config.me < 2 ^ 32
  pub in_bound : non_zero_u32_get script.config.limit ≤ 2 ^ 30
  pub short : non_zero_u64_get script.config.blocks_per_epoch < 2 ^ 64
  pub blocks : AllByRecursion (IsBlockIn script) script.blocks
  pub placed : AllByRecursion (λ block. block.height < 2 ^ 64) script.blocks
  pub lives : (l : ℕ) (life : Life) → slice_get script.lives l ≡ Some life → IsEpochsLife script l life
