-- WHY A LIFE STOPS in a step, of a script whose lives go over many epochs, and how a transcript tells it, whatever the devices tell.
use Rattle.std.specs.Prelude.{ℕ, zero, suc, ◌+◌, ◌^◌, ◌<◌, ◌≤◌, ⊤, ◌≡◌, ◌≢◌, ◌⊎◌, ◌==◌, ◌&&◌, ◌||◌, ◌++◌, Contains, Bool, true, false, not, nat_le, nat_lt, List, Option, Some, None, fold, find, length, option_map, option_to_list, slice_get, take, IsSomeAnd, Result, Ok, Err, if◌then◌else◌}
use Rattle.std.specs.Int.NonZero.{non_zero_u32_get}
use Rattle.std.specs.Option.{option_map_or}
use Rattle.std.specs.Str.{bytes_eq}
use Rattle.dkg_ceremony.specs.Dealings.{dealing_of}
use Rattle.dkg_ceremony.specs.Deals.{deal_of}
use Rattle.dkg_ceremony.specs.Schedule.{boundary, epoch_of, last, midpoint}
use Rattle.dkg_ceremony.specs.declared.ceremony.DealingError.{DealingError}
use Rattle.dkg_ceremony.specs.declared.deal.DealError.{DealError}
use Rattle.dkg_ceremony.specs.declared.round.RoundParts.{RoundParts as Round}
use Rattle.dkg_journal.specs.Names.{Files}
use Rattle.dkg_secrets.specs.Secrets.{Secrets as Kept}
use Rattle.dkg_types.specs.BlockCodes.{info_of}
use Rattle.dkg_types.specs.Blocks.{Block}
use Rattle.dkg_infos.specs.Validation.{validation}
use Rattle.dkg_infos.specs.declared.directory.Unit as directory
use Rattle.dkg_infos.specs.declared.entry.Entry.{Entry}
use Rattle.dkg_infos.specs.declared.entry.Entry.TheVariants as entry
use Rattle.dkg_infos.specs.declared.fault.Fault.{Fault}
use Rattle.dkg_infos.specs.declared.fault.Fault.TheVariants.{NoMemory, Disk, Secrets, Corrupt, HeightRange, MissingEpochInfo, WrongEpoch, InvalidParticipants, LocalState, ConflictingBlock, DetachedBlock, SkippedHeight, OutOfWindow}
use Rattle.dkg_infos.specs.declared.fault.LocalCause.TheVariants.{StoredDealing, ShareRefused, OwnDealing}
use Rattle.dkg_infos.specs.declared.fault.ParticipantsCause.TheVariants.{Refused, Round as NoRound, ProviderEmpty, ProviderAbove}
use Rattle.dkg_infos.specs.declared.info.EpochInfo.{EpochInfo}
use Rattle.dkg_infos.specs.declared.participants.ParticipantsError.{ParticipantsError}
use Rattle.dkg_text.specs.declared.script.Event.{Event}
use Rattle.dkg_text.specs.declared.script.Event.TheVariants.{Final, Info, Feed, Over, Cancel, Work}
use Rattle.dkg_text.specs.declared.script.Life.{Life}
use Rattle.dkg_text.specs.declared.script.Script.{Script}
use Rattle.dkg_script.specs.Blocks.{anchor_number, round_by}
use Rattle.dkg_script.specs.Epochs.{alone}
use Rattle.dkg_script.specs.Players.{players_at}
use Rattle.dkg_script.specs.Position.{awaited_epoch, awaited_height_after, life_follows}
use Rattle.dkg_script.specs.Progress.{AtEachEntry, Progress}
use Rattle.dkg_script.specs.Setting.{blocks_per_epoch, setting_of}
use Rattle.dkg_core.specs.Fixed.{has}
use Rattle.dkg_core.specs.Live.{Finalized}
use Rattle.dkg_core.specs.Setup.{participants_of}
use Rattle.dkg_core.specs.Sources.{Tip, position}
use Rattle.dkg_core.specs.Endings.{tip_behind}
use Rattle.dkg_lives.specs.Given.{anchor_in, blocks_in, numbered}

abbrev pub per_epoch : Script → ℕ
per_epoch script = blocks_per_epoch (alone script)

-- the last height of this one's epoch is no number of 64 bits
abbrev pub is_beyond : Script → (height : ℕ) → Bool
is_beyond script height = nat_le (2 ^ 64) (last (per_epoch script) (epoch_of (per_epoch script) height))

-- A SETUP by an info

-- how its participants are judged
abbrev pub judged_by : Script → EpochInfo directory.Unit → Result (Unit {0}) ParticipantsError
judged_by script info = validation (participants_of info) (non_zero_u32_get script.config.limit) (Some info.output) info.epoch

-- It is of the epoch and valid, and P holds of the round that it makes.
abbrev pub Draws : Script → (epoch : ℕ) → EpochInfo directory.Unit → (Round → Type 0) → Type 0
Draws script epoch info P = (info.epoch ≡ epoch) × (judged_by script info ≡ Ok tt) × ((round : Round) × (round_by script epoch info ≡ Ok round) × P round)

-- why it doesn't serve
abbrev pub IsInfoCause : Script → (epoch : ℕ) → EpochInfo directory.Unit → Fault → Type 0
IsInfoCause script epoch info (WrongEpoch expected got) = (expected ≡ epoch) × (got ≡ info.epoch) × (info.epoch ≢ epoch)
IsInfoCause script epoch info (InvalidParticipants (Refused why)) = (info.epoch ≡ epoch) × (judged_by script info ≡ Err why)
IsInfoCause script epoch info (InvalidParticipants (NoRound why)) = (info.epoch ≡ epoch) × (judged_by script info ≡ Ok tt) × (round_by script epoch info ≡ Err why)
IsInfoCause script epoch info its = ⊥

-- .. and what of the node's own state contradicts it: as one of the round's dealers it can't deal by its share, or as a player it has a dealing that the check refuses
abbrev pub IsOwnCause : Script → (epoch : ℕ) → EpochInfo directory.Unit → Fault → Type 0
IsOwnCause script epoch info (LocalState (ShareRefused number)) =
    (number ≡ epoch) × Draws script epoch info (λ round. (has round.dealers script.config.me ≡ true)
    × ((share : Option ℕ) × (seed : List ℕ) × (why : DealError) × (deal_of round script.config.me share seed ≡ Err why)))
IsOwnCause script epoch info (LocalState (StoredDealing number dealer)) =
    (number ≡ epoch) × Draws script epoch info (λ round. (has round.players script.config.me ≡ true)
    × ((public : List ℕ) × (private : ℕ) × (why : DealingError) × (dealing_of round script.config.me dealer public private ≡ Err why)))
IsOwnCause script epoch info its = ⊥

-- P of the info that a block carries
abbrev pub OnCarried : Option (Block directory.Unit) → (EpochInfo directory.Unit → Type 0) → Type 0
OnCarried carrier P = IsSomeAnd carrier (λ b. IsSomeAnd (info_of b.payload) P)

-- AN OPENING

abbrev pub first_epoch_in : Script → (l : ℕ) → Life → ℕ
first_epoch_in script l life = awaited_epoch (alone script) l life 0

-- the block that begins its epoch, where the life holds it or stands at it
abbrev pub opening_block : Script → (l : ℕ) → Life → Option (Block directory.Unit)
opening_block script l life =
    find (λ b. b.height == boundary (per_epoch script) (first_epoch_in script l life)) (numbered (blocks_in script) (life.held ++ option_to_list (option_map anchor_number life.anchor)))

abbrev pub IsOpeningCause : Script → (l : ℕ) → Life → Fault → Type 0
IsOpeningCause script l life HeightRange = is_beyond script (awaited_height_after (alone script) l life 0) ≡ true
IsOpeningCause script l life (MissingEpochInfo height) = IsSomeAnd (opening_block script l life) (λ b. (height ≡ b.height) × (info_of b.payload ≡ None))
IsOpeningCause script l life its = OnCarried (opening_block script l life) (λ info. IsInfoCause script (first_epoch_in script l life) info its)

-- A BLOCK

-- the tip of a life: the last block that its node knows, behind an event, and behind the first n events
abbrev pub tip_over : List (Block directory.Unit) → Option Tip → Event → Option Tip
tip_over blocks tip (Final number) = option_map_or (λ b. tip_behind (Finalized b) tip) (slice_get blocks number) tip
tip_over blocks tip _ = tip

abbrev pub tip_in : Script → Life → ℕ → Option Tip
tip_in script life n = fold (tip_over (blocks_in script)) (position (anchor_in (blocks_in script) life.anchor)) (take n life.events)

-- without a tip the first epoch's early blocks are taken, and any while the life follows
abbrev pub is_first_taken : Script → (l : ℕ) → Life → Block directory.Unit → Bool
is_first_taken script l life b =
    life_follows (alone script) l life 0 || ((epoch_of (per_epoch script) b.height == 0) && nat_lt b.height (midpoint (per_epoch script) (epoch_of (per_epoch script) b.height)))

-- what it is refused for over a tip: it is another one at the tip's height, it leaves one out, or it has another parent
abbrev pub refusal_over : Tip → Block directory.Unit → Option Fault
refusal_over t b =
    if (b.height == t.height) && not (bytes_eq b.digest t.digest) then Some (ConflictingBlock b.height)
    else if nat_lt (t.height + 1) b.height then Some (SkippedHeight (t.height + 1) b.height)
    else if (b.height == t.height + 1) && not (bytes_eq b.parent t.digest) then Some (DetachedBlock b.height)
    else None

abbrev pub refusal_by : Script → (l : ℕ) → Life → Block directory.Unit → Option Tip → Option Fault
refusal_by script l life b None = if is_first_taken script l life b then None else Some (OutOfWindow b.height)
refusal_by script l life b (Some t) = refusal_over t b

-- .. and by its height, behind the first j events
abbrev pub refusal_in : Script → (l : ℕ) → Life → (j : ℕ) → Block directory.Unit → Option Fault
refusal_in script l life j b = if is_beyond script b.height then Some HeightRange else refusal_by script l life b (tip_in script life j)

-- It is new, and an epoch's last one: behind it the next epoch is set up by the info that it carries.
pub record IsTakenLast (script : Script) (l : ℕ) (life : Life) (j : ℕ) (b : Block directory.Unit) : Type 0 where
  pub accepted : refusal_in script l life j b ≡ None
  pub above : option_map_or (λ t. nat_le b.height t.height) (tip_in script life j) false ≡ false
  pub ends : (b.height == last (per_epoch script) (epoch_of (per_epoch script) b.height)) ≡ true

abbrev pub epoch_behind : Script → Block directory.Unit → ℕ
epoch_behind script b = epoch_of (per_epoch script) b.height + 1

-- why that setup stops
abbrev pub IsNextCause : Script → Block directory.Unit → Fault → Type 0
IsNextCause script b (MissingEpochInfo height) = (height ≡ b.height) × (info_of b.payload ≡ None)
IsNextCause script b HeightRange = IsSomeAnd (info_of b.payload) (λ info. info.epoch ≡ epoch_behind script b) × (is_beyond script (b.height + 1) ≡ true)
IsNextCause script b its = OnCarried (Some b) (λ info. IsInfoCause script (epoch_behind script b) info its)

-- What the provider says of the epoch two above is nobody, or more than the limit. (That epoch is a number of 64 bits, and a directory that says nothing never fails to match.)
abbrev pub IsProviderCause : Script → (epoch : ℕ) → Fault → Type 0
IsProviderCause script epoch (InvalidParticipants ProviderEmpty) = length (players_at script.config.players (epoch + 2)) ≡ 0
IsProviderCause script epoch (InvalidParticipants (ProviderAbove count most)) =
    (count ≡ length (players_at script.config.players (epoch + 2))) × (most ≡ non_zero_u32_get script.config.limit) × (most < count)
IsProviderCause script epoch its = ⊥

-- why a last block that is taken stops the life: the info that ends its epoch can't be made, where the life takes part in that epoch, or the next epoch can't be set up
abbrev pub IsLastCause : Script → (l : ℕ) → Life → (j : ℕ) → Block directory.Unit → Fault → Type 0
IsLastCause script l life j b its =
    ((life_follows (alone script) l life (awaited_epoch (alone script) l life j) ≡ false) × IsProviderCause script (epoch_of (per_epoch script) b.height) its) ⊎ IsNextCause script b its

abbrev pub IsBlockCause : Script → (l : ℕ) → Life → (j : ℕ) → Block directory.Unit → Fault → Type 0
IsBlockCause script l life j b its = (refusal_in script l life j b ≡ Some its) ⊎ (IsTakenLast script l life j b × IsLastCause script l life j b its)

-- A life has the block of this number behind its first j events: it holds it, stands at it, or was delivered it.
abbrev pub IsHad : Life → (j number : ℕ) → Type 0
IsHad life j number = Contains life.held number ⊎ ((option_map anchor_number life.anchor ≡ Some number) ⊎ ((k : ℕ) × (k < j) × (slice_get life.events k ≡ Some (Final number))))

-- a block that the life has then, and that begins the epoch, carries the info
pub record IsInfoOf (script : Script) (life : Life) (j epoch : ℕ) (info : EpochInfo directory.Unit) : Type 0 where
  pub number : ℕ
  pub had : IsHad life j number
  pub block : Block directory.Unit
  pub is : slice_get (blocks_in script) number ≡ Some block
  pub begins : block.height ≡ boundary (per_epoch script) epoch
  pub carries : info_of block.payload ≡ Some info
  pub of_epoch : info.epoch ≡ epoch

-- a dealing that is stored, and isn't looked at where a player takes no part by all logs, is refused where it can by those that are asked for
abbrev pub IsAskedOwn : Script → Life → (j epoch : ℕ) → Fault → Type 0
IsAskedOwn script life j epoch (LocalState (StoredDealing number dealer)) =
    (info : EpochInfo directory.Unit) × IsInfoOf script life j epoch info × IsOwnCause script epoch info (LocalState (StoredDealing number dealer))
IsAskedOwn script life j epoch its = ⊥

-- what this node deals isn't what is recorded of it in the epoch that it takes part in
abbrev pub IsOwnDealing : Script → (l : ℕ) → Life → (j : ℕ) → Fault → Type 0
IsOwnDealing script l life j (LocalState (OwnDealing number kept dealt)) =
    (number ≡ awaited_epoch (alone script) l life j) × (life_follows (alone script) l life number ≡ false) × (kept ≢ dealt)
IsOwnDealing script l life j its = ⊥

-- what of the state stops the life at a last block that is taken: it can't set the next epoch up, or verify the logs of the one that ends
abbrev pub IsLastOwn : Script → (l : ℕ) → Life → (j : ℕ) → Block directory.Unit → Fault → Type 0
IsLastOwn script l life j b its =
    OnCarried (Some b) (λ info. IsOwnCause script (epoch_behind script b) info its)
    ⊎ ((life_follows (alone script) l life (awaited_epoch (alone script) l life j) ≡ false) × IsAskedOwn script life j (epoch_of (per_epoch script) b.height) its)

abbrev pub IsBlockOwn : Script → (l : ℕ) → Life → (j : ℕ) → Block directory.Unit → Fault → Type 0
IsBlockOwn script l life j b its =
    (IsTakenLast script l life j b × IsLastOwn script l life j b its) ⊎ ((refusal_in script l life j b ≡ None) × IsOwnDealing script l life j its)

-- A STEP of a life: P of the block that an event brings

abbrev pub OnBlock : Script → Event → (Block directory.Unit → Type 0) → Type 0
OnBlock script (Final number) P = IsSomeAnd (slice_get (blocks_in script) number) P
OnBlock script _ P = ⊥

-- why it stops, by the script alone
abbrev pub IsCause : Script → (l : ℕ) → Life → (step : ℕ) → Fault → Type 0
IsCause script l life zero its = IsOpeningCause script l life its
IsCause script l life (suc j) its = IsSomeAnd (slice_get life.events j) (λ event. OnBlock script event (λ b. IsBlockCause script l life j b its))

-- .. and by the node's own state
abbrev pub IsOwn : Script → (l : ℕ) → Life → (step : ℕ) → Fault → Type 0
IsOwn script l life zero its = OnCarried (opening_block script l life) (λ info. IsOwnCause script (first_epoch_in script l life) info its)
IsOwn script l life (suc j) its = IsSomeAnd (slice_get life.events j) (λ event. OnBlock script event (λ b. IsBlockOwn script l life j b its))

-- A STEP IN WHICH REQUESTS ARE READ: by the script alone it isn't known whether the info that ends the epoch is made in it

-- the events in which they may be
abbrev pub IsReadingEvent : Event → Type 0
IsReadingEvent (Final number) = ⊤
IsReadingEvent (Info request) = ⊤
IsReadingEvent (Feed request number) = ⊤
IsReadingEvent (Over request) = ⊤
IsReadingEvent (Cancel request) = ⊤
IsReadingEvent Work = ⊤
IsReadingEvent _ = ⊥

-- By the event behind the first j such requests may be read: one was made in the epoch that the life awaits and takes part in, and behind the event a height from its midpoint on is awaited.
pub record MayRead (script : Script) (l : ℕ) (life : Life) (j : ℕ) : Type 0 where
  pub event : IsSomeAnd (slice_get life.events j) IsReadingEvent
  pub takes_part : life_follows (alone script) l life (awaited_epoch (alone script) l life j) ≡ false
  pub late : midpoint (per_epoch script) (awaited_epoch (alone script) l life j) ≤ awaited_height_after (alone script) l life (suc j)
  pub at : ℕ
  pub so_far : at ≤ j
  pub request : ℕ
  pub asked : slice_get life.events at ≡ Some (Info request)
  pub same_epoch : awaited_epoch (alone script) l life at ≡ awaited_epoch (alone script) l life j

-- P of the epoch, in such a step
abbrev pub OnReading : Script → (l : ℕ) → Life → (step : ℕ) → (ℕ → Type 0) → Type 0
OnReading script l life zero P = ⊥
OnReading script l life (suc j) P = MayRead script l life j × P (awaited_epoch (alone script) l life j)

-- the info can't be made, by what the provider says
abbrev pub IsMayCause : Script → (l : ℕ) → Life → (step : ℕ) → Fault → Type 0
IsMayCause script l life step its = OnReading script l life step (λ epoch. IsProviderCause script epoch its)

-- .. or by a dealing that the node has
abbrev pub IsAskOwn : Script → (l : ℕ) → Life → (step : ℕ) → Fault → Type 0
IsAskOwn script l life step its = OnReading script l life step (λ epoch. IsAskedOwn script life step epoch its)

-- HOW IT IS TOLD

-- of a device, a corrupt record, or want of memory: what ends a step from outside
abbrev pub IsFromOutside : Fault → Type 0
IsFromOutside NoMemory = Unit {0}
IsFromOutside Disk = Unit {0}
IsFromOutside Secrets = Unit {0}
IsFromOutside (Corrupt name place) = Unit {0}
IsFromOutside its = ⊥

-- A step that has no certain cause in the script is completed, or ended from outside, by the node's own state, or where requests are read; one that has is ended by such a cause, or by one of these.
abbrev pub IsClear : Script → (l : ℕ) → Life → (step : ℕ) → Type 0
IsClear script l life step = (its : Fault) → IsCause script l life step its → ⊥

-- the cause in the script: a certain one, or one of a step in which requests are read
abbrev pub IsScriptCause : Script → (l : ℕ) → Life → (step : ℕ) → Fault → Type 0
IsScriptCause script l life step its = IsCause script l life step its ⊎ IsMayCause script l life step its

-- .. in the node's own state
abbrev pub IsStateCause : Script → (l : ℕ) → Life → (step : ℕ) → Fault → Type 0
IsStateCause script l life step its = IsOwn script l life step its ⊎ IsAskOwn script l life step its

abbrev pub IsWhy : Script → (l : ℕ) → Life → (step : ℕ) → Fault → Type 0
IsWhy script l life step its = IsFromOutside its ⊎ (IsScriptCause script l life step its ⊎ IsStateCause script l life step its)

abbrev pub IsWhyNow : Script → Progress → Fault → Type 0
IsWhyNow script p its = IsFromOutside its ⊎ IsSomeAnd (slice_get script.lives (length p.cuts)) (λ life. IsWhy script (length p.cuts) life p.step its)

abbrev pub IsBlamedSo : Script → Progress → Entry → Type 0
IsBlamedSo script p (entry.Step step) = IsSomeAnd (slice_get script.lives (length p.cuts)) (λ life. IsClear script (length p.cuts) life p.step)
IsBlamedSo script p (entry.Fault its) = IsWhyNow script p its
IsBlamedSo script p _ = Unit {0}

-- each entry is so, over what was written before it. (Of the devices it says nothing, so that it stands for any.)
abbrev pub BlamesSo : Script → List Entry → Type 0
BlamesSo script out = (files : Files) (held : Kept) → AtEachEntry (setting_of script files held) (IsBlamedSo script) out
