-- The form of scripts whose lives pass through whole epochs: messages of the dealing channel, finalized blocks, and what is asked of the node, a log to include or the info of a final block.
use Rattle.std.specs.Prelude.{ℕ, ◌≡◌, ◌<◌, ◌≤◌, ◌^◌, List, Some, None, true, false, IsSome, IfSome, slice_get, ⊤}
use Rattle.std.specs.Int.NonZero.{non_zero_u32_get, non_zero_u64_get}
use Rattle.std.specs.List.{AllByRecursion}
use Rattle.dkg_values.specs.Rising.{rises}
use Rattle.dkg_text.specs.declared.script.BlockLine.{BlockLine}
use Rattle.dkg_text.specs.declared.script.Event.{Event}
use Rattle.dkg_text.specs.declared.script.Event.TheVariants.{Peer, Final, Next, Release, Info, Feed, Over, Cancel, Work}
use Rattle.dkg_text.specs.declared.script.Life.{Life}
use Rattle.dkg_text.specs.declared.script.Script.{Script}
use Rattle.dkg_script.specs.Asked.{AskAnew}
use Rattle.dkg_script.specs.Epochs.{IsAnchorIn, IsBlockIn}
use Rattle.dkg_script.specs.Players.{epochs_of}

-- a message of the dealing channel, of a key of 32 bits, a block of the script, a request for a log or its release, or a message of a final block's request
abbrev pub IsEventIn : List BlockLine → Event → Type 0
IsEventIn blocks (Peer from bytes) = from < 2 ^ 32
IsEventIn blocks (Final number) = IsSome (slice_get blocks number)
IsEventIn blocks (Next request height) = ⊤
IsEventIn blocks (Release height) = ⊤
IsEventIn blocks (Info request) = ⊤
IsEventIn blocks (Feed request number) = IsSome (slice_get blocks number)
IsEventIn blocks (Over request) = ⊤
IsEventIn blocks (Cancel request) = ⊤
IsEventIn blocks Work = ⊤
IsEventIn blocks _ = ⊥

-- A life without material, whose events are of these kinds and whose requests for infos have numbers of their own.
pub record IsLifeIn (script : Script) (life : Life) : Type 0 where
  pub anchor : IfSome life.anchor (IsAnchorIn script.blocks)
  pub no_sync : life.sync ≡ None
  pub events : AllByRecursion (IsEventIn script.blocks) life.events
  pub anew : AskAnew life.events

-- The script is of a reshare without directories of addresses, its node has a key of 32 bits, its limit is one that a script may have, its players' epochs rise, its blocks' payloads
-- are read and their heights are numbers of 64 bits, and each of its lives is of the form.
pub record IsFormOfInclusion (script : Script) : Type 0 where
  pub plain : script.addressed ≡ false
  pub reshares : script.config.oneshot ≡ None
  pub own : script.config.me < 2 ^ 32
  pub in_bound : non_zero_u32_get script.config.limit ≤ 2 ^ 30
  pub short : non_zero_u64_get script.config.blocks_per_epoch < 2 ^ 64
  pub rising : rises (epochs_of script.config.players) ≡ true
  pub blocks : AllByRecursion (IsBlockIn script) script.blocks
  pub placed : AllByRecursion (λ block. block.height < 2 ^ 64) script.blocks
  pub lives : (l : ℕ) (life : Life) → slice_get script.lives l ≡ Some life → IsLifeIn script life
