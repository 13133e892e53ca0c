-- Early scripts: within the first epoch, and below its midpoint, nothing happens but messages of the dealing channel and finalized blocks. They are of the
-- form that is read and run (see Inclusion), and easily seen to be: the worked scripts are such.
use Rattle.std.specs.Prelude.{ℕ, ◌+◌, ◌<◌, ◌≡◌, ◌≤◌, ◌^◌, ◌/◌, List, None, Some, true, false, IfSome, IsSome, IsSomeAnd, slice_get}
use Rattle.std.specs.Int.NonZero.{non_zero_u32_get, non_zero_u64_get}
use Rattle.std.specs.List.{AllByRecursion}
use Rattle.dkg_values.specs.Rising.{rises}
use Rattle.dkg_ceremony.specs.Modes.{supports_of}
use Rattle.dkg_text.specs.declared.script.Anchor.{Anchor}
use Rattle.dkg_text.specs.declared.script.Anchor.TheVariants.{Processed, Absent}
use Rattle.dkg_text.specs.declared.script.BlockLine.{BlockLine}
use Rattle.dkg_text.specs.declared.script.Event.{Event}
use Rattle.dkg_text.specs.declared.script.Event.TheVariants.{Peer, Final}
use Rattle.dkg_text.specs.declared.script.Life.{Life}
use Rattle.dkg_text.specs.declared.script.Script.{Script}
use Rattle.dkg_script.specs.Players.{epochs_of}
use Rattle.dkg_script.specs.Readings.{unit_payload}

-- the number of a block below the midpoint
abbrev pub IsNumberBelow : (midpoint : ℕ) → List BlockLine → ℕ → Type 0
IsNumberBelow midpoint blocks number = IsSomeAnd (slice_get blocks number) (λ block. block.height < midpoint)

-- a message of the dealing channel, of a key of 32 bits, or a block below the midpoint
abbrev pub IsEventBelow : (midpoint : ℕ) → List BlockLine → Event → Type 0
IsEventBelow midpoint blocks (Peer from bytes) = from < 2 ^ 32
IsEventBelow midpoint blocks (Final number) = IsNumberBelow midpoint blocks number
IsEventBelow midpoint blocks _ = ⊥

-- a position from which a block below the midpoint is awaited
abbrev pub IsAnchorBelow : (midpoint : ℕ) → List BlockLine → Anchor → Type 0
IsAnchorBelow midpoint blocks (Processed number) = IsSomeAnd (slice_get blocks number) (λ block. block.height + 1 < midpoint)
IsAnchorBelow midpoint blocks (Absent number) = IsSomeAnd (slice_get blocks number) (λ block. (0 < block.height) × (block.height < midpoint))

-- A life begins without material, holds block 0 before others, and awaits a block below the midpoint.
pub record IsLifeBelow (midpoint : ℕ) (blocks : List BlockLine) (life : Life) : Type 0 where
  pub anchor : IfSome life.anchor (IsAnchorBelow midpoint blocks)
  pub holds : slice_get life.held 0 ≡ Some 0
  pub no_sync : life.sync ≡ None
  pub events : AllByRecursion (IsEventBelow midpoint blocks) life.events

abbrev pub midpoint_of : Script → ℕ
midpoint_of script = non_zero_u64_get script.config.blocks_per_epoch / 2

-- what a block's payload is, if it has one, is read under the script's limits
abbrev pub IsBlockBelow : Script → BlockLine → Type 0
IsBlockBelow script block =
    (block.height < non_zero_u64_get script.config.blocks_per_epoch)
    × IfSome block.payload (λ bytes. IsSome (unit_payload (record { limit = non_zero_u32_get script.config.limit; version = script.config.max_mode.0; addressed = script.addressed }) bytes))

-- The script is of a reshare without directories of addresses, its node has a key of 32 bits, its limit is one that a script may have, its epochs have two blocks at least, and a number of
-- 64 bits, its mode is supported, its players' epochs rise, its blocks are of epoch 0 and their payloads are read, its first block stands at height 0, and each of its lives is of the form.
pub record IsEarlyScript (script : Script) : Type 0 where
  pub plain : script.addressed ≡ false
  pub reshares : script.config.oneshot ≡ None
  pub own : script.config.me < 2 ^ 32
  pub in_bound : non_zero_u32_get script.config.limit ≤ 2 ^ 30
  pub long : 2 ≤ non_zero_u64_get script.config.blocks_per_epoch
  pub short : non_zero_u64_get script.config.blocks_per_epoch < 2 ^ 64
  pub supported : supports_of script.config.max_mode.0 script.config.mode ≡ true
  pub rising : rises (epochs_of script.config.players) ≡ true
  pub blocks : AllByRecursion (IsBlockBelow script) script.blocks
  pub first : IfSome (slice_get script.blocks 0) (λ block. block.height ≡ 0)
  pub lives : AllByRecursion (IsLifeBelow (midpoint_of script) script.blocks) script.lives
