-- An early script is of the form of inclusion, and of that of epochs: of its blocks none stands at a midpoint or above.
use Rattle.std.proofs.Common.{ℕ, ◌+◌, ◌<◌, ◌^◌, List, [], ◌∷◌, ◌++◌, Option, Some, None, arith, refl, subst}
use Rattle.std.specs.Prelude.{slice_get, IfSome, IsSome, IsSomeAnd}
use Rattle.std.specs.Int.NonZero.{non_zero_u64_get}
use Rattle.std.specs.List.{AllByRecursion}
use Rattle.dkg_text.specs.declared.script.Anchor.{Anchor}
use Rattle.dkg_text.specs.declared.script.Anchor.TheVariants.{Processed, Absent}
use Rattle.dkg_text.specs.declared.script.BlockLine.{BlockLine}
use Rattle.dkg_text.specs.declared.script.Event.{Event}
use Rattle.dkg_text.specs.declared.script.Event.TheVariants.{Peer, Final}
use Rattle.dkg_text.specs.declared.script.Script.{Script}
use Rattle.dkg_reading.specs.Spells.{FitAfter}
use Rattle.dkg_script.specs.Asked.{IsAskedAnew}
use Rattle.dkg_script.specs.Blocks.{ScriptBlock}
use Rattle.dkg_script.specs.Epochs.{IsAnchorIn, IsBlockIn, IsEpochsEvent, IsFormOfEpochs, alone}
use Rattle.dkg_script.specs.Inclusion as inclusion
use Rattle.dkg_script.proofs.Early.{IsAnchorBelow, IsBlockBelow, IsEventBelow, IsEarlyScript, IsLifeBelow, midpoint_of}
use Rattle.dkg_script.proofs.Formed.{holds_at}
use Rattle.dkg_script.proofs.EarlyScripts.{early_block}

module _ (m : ℕ) (blocks : List BlockLine) where
  there_is : (P : BlockLine → Type 0) (number : ℕ) → IsSomeAnd (slice_get blocks number) P → IsSome (slice_get blocks number)
  there_is P number its = by_line (slice_get blocks number) its
    where
      by_line : (o : Option BlockLine) → IsSomeAnd o P → IsSome o
      by_line None its = absurd its
      by_line (Some line) its = refl

  above_zero : (number : ℕ) → IsSomeAnd (slice_get blocks number) (λ line. (0 < line.height) × (line.height < m)) → IsSomeAnd (slice_get blocks number) (λ line. 0 < line.height)
  above_zero number its = by_line (slice_get blocks number) its
    where
      by_line : (o : Option BlockLine) → IsSomeAnd o (λ line. (0 < line.height) × (line.height < m)) → IsSomeAnd o (λ line. 0 < line.height)
      by_line None its = absurd its
      by_line (Some line) its = its.0

  anchor_within : (anchor : Option Anchor) → IfSome anchor (IsAnchorBelow m blocks) → IfSome anchor (IsAnchorIn blocks)
  anchor_within None its = tt
  anchor_within (Some (Processed number)) its = there_is (λ line. line.height + 1 < m) number its
  anchor_within (Some (Absent number)) its = above_zero number its

  events_within : (events : List Event) → AllByRecursion (IsEventBelow m blocks) events → AllByRecursion (IsEpochsEvent blocks) events
  events_within [] all = tt
  events_within (Peer from bytes ∷ events) all = (all.0, events_within events all.1)
  events_within (Final number ∷ events) all = (there_is (λ line. line.height < m) number all.0, events_within events all.1)
  events_within (event ∷ events) all = absurd all.0

blocks_within : (script : Script) (blocks : List BlockLine) → AllByRecursion (IsBlockBelow script) blocks → AllByRecursion (IsBlockIn script) blocks
blocks_within script [] all = tt
blocks_within script (block ∷ blocks) all = (all.0.1, blocks_within script blocks all.1)

-- a height of epoch 0 lies below the length of an epoch, which is a number of 64 bits
placed_within : (script : Script) (blocks : List BlockLine) → non_zero_u64_get script.config.blocks_per_epoch < 2 ^ 64 → AllByRecursion (IsBlockBelow script) blocks
    → AllByRecursion (λ (block : BlockLine). block.height < 2 ^ 64) blocks
placed_within script [] short all = tt
placed_within script (block ∷ blocks) short all = let low = all.0.0 in (omega (arith, low, short), placed_within script blocks short all.1)

-- none of its events asks for an info
module _ (m : ℕ) (blocks : List BlockLine) where
  pass_within : (events : List Event) → AllByRecursion (IsEventBelow m blocks) events → AllByRecursion (inclusion.IsEventIn blocks) events
  pass_within [] all = tt
  pass_within (Peer from bytes ∷ events) all = (all.0, pass_within events all.1)
  pass_within (Final number ∷ events) all = (there_is m blocks (λ line. line.height < m) number all.0, pass_within events all.1)
  pass_within (event ∷ events) all = absurd all.0

  anew_within : (done events : List Event) → AllByRecursion (IsEventBelow m blocks) events → FitAfter IsAskedAnew done events
  anew_within done [] all = tt
  anew_within done (Peer from bytes ∷ events) all = (tt, anew_within (done ++ Peer from bytes ∷ []) events all.1)
  anew_within done (Final number ∷ events) all = (tt, anew_within (done ++ Final number ∷ []) events all.1)
  anew_within done (event ∷ events) all = absurd all.0

pub early_within : (script : Script) → IsEarlyScript script → inclusion.IsFormOfInclusion script
early_within script form =
    let m = midpoint_of script in
    let blocks = script.blocks in
    record {
      plain = form.plain;
      reshares = form.reshares;
      own = form.own;
      in_bound = form.in_bound;
      short = form.short;
      rising = form.rising;
      blocks = blocks_within script script.blocks form.blocks;
      placed = placed_within script script.blocks form.short form.blocks;
      lives = λ l life is.
          let within = holds_at (IsLifeBelow m blocks) script.lives l life form.lives is in
          record {
            anchor = anchor_within m blocks life.anchor within.anchor;
            no_sync = within.no_sync;
            events = pass_within m blocks life.events within.events;
            anew = anew_within m blocks [] life.events within.events;
          };
    }

pub early_of_epochs : (script : Script) → IsEarlyScript script → IsFormOfEpochs script
early_of_epochs script form =
    let m = midpoint_of script in
    let blocks = script.blocks in
    record {
      plain = form.plain;
      reshares = form.reshares;
      own = form.own;
      in_bound = form.in_bound;
      short = form.short;
      blocks = blocks_within script script.blocks form.blocks;
      placed = placed_within script script.blocks form.short form.blocks;
      lives = λ l life is.
          let within = holds_at (IsLifeBelow m blocks) script.lives l life form.lives is in
          record {
            anchor = anchor_within m blocks life.anchor within.anchor;
            no_sync = within.no_sync;
            events = events_within m blocks life.events within.events;
            takes = λ j number b here comes its late awaited.
                let early = holds_at (IsEventBelow m blocks) life.events j (Final number) within.events here in
                let low : b.height < m = subst (λ (o : Option ScriptBlock). IsSomeAnd o (λ x. x.height < m)) its (early_block (alone script) number early) in
                absurd (omega arith);
          };
    }
