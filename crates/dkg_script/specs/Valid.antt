-- Which scripts are valid, and over which devices: those that a node runs to their end, where no device fails.
use Rattle.std.specs.Prelude.{ℕ, suc, ◌+◌, ◌<◌, ◌≤◌, ◌^◌, ◌≡◌, ◌⊎◌, List, Option, Some, Ok, true, false, ⊤, IfSome, IsSome, IsSomeAnd, length}
use Rattle.std.specs.FinMap.{get}
use Rattle.std.specs.List.{AllByRecursion}
use Rattle.std.specs.Result.{result_ok}
use Rattle.dkg_ceremony.specs.Dealings.{dealing_of}
use Rattle.dkg_ceremony.specs.Deals.{deal_of}
use Rattle.dkg_ceremony.specs.PartialPublics.{partial_public_of, share_public_of}
use Rattle.dkg_ceremony.specs.declared.round.RoundParts.{RoundParts as Round}
use Rattle.dkg_journal.specs.Names.{Files}
use Rattle.dkg_secrets.specs.Secrets.{Secrets}
use Rattle.dkg_infos.specs.Validation.{validation}
use Rattle.dkg_infos.specs.declared.participants.Participants.{Participants}
use Rattle.dkg_text.specs.declared.script.Event.{Event}
use Rattle.dkg_text.specs.declared.script.Event.TheVariants as kind
use Rattle.dkg_text.specs.declared.script.Event.TheVariants.{Final}
use Rattle.dkg_text.specs.declared.script.Life.{Life}
use Rattle.dkg_script.specs.Blocks.{ScriptBlock, numbered_block, known_info, round_at, round_by, used}
use Rattle.dkg_script.specs.Consistent.{IsConsistentScript}
use Rattle.dkg_script.specs.Epochs.{IsUncutBefore}
use Rattle.dkg_script.specs.Players.{players_at}
use Rattle.dkg_script.specs.Position.{awaited_epoch, awaited_height_after, event_of_step, life_follows}
use Rattle.dkg_script.specs.Promise.{InEachCase}
use Rattle.dkg_script.specs.Readings.{Info}
use Rattle.dkg_script.specs.Schedule.{boundary, epoch_of, last}
use Rattle.dkg_script.specs.Setting.{Setting, CutAt, blocks_per_epoch, life_at, limits, me, recovered_from}

-- DELIVERIES: each block that a life is brought stands at the height that is awaited, or at or below the position; a life that follows without a position takes any first block.
abbrev pub ComesInTurn : Setting → (l : ℕ) → Life → Type 0
ComesInTurn s l life =
    (j number : ℕ) (b : ScriptBlock) → event_of_step life (suc j) ≡ Some (Final number) → IsUncutBefore life.cut (suc j) → numbered_block s number ≡ Some b
    → (b.height ≤ awaited_height_after s l life j) ⊎ ((awaited_height_after s l life j ≡ 0) × (life_follows s l life 0 ≡ true))

-- PROVIDER: where an epoch that a life takes part in ends, or the info that will end it is asked for, there are players for the epoch two above, and no more than the limit.

abbrev pub HasPlayers : Setting → (epoch : ℕ) → Type 0
HasPlayers s epoch = let players = players_at s.script.config.players epoch in (0 < length players) × (length players ≤ (limits s).limit)

-- an info is asked for, or a block delivered that is the last of the epoch
abbrev pub MayEndEpoch : Setting → (epoch : ℕ) → Event → Type 0
MayEndEpoch s epoch (kind.Info request) = ⊤
MayEndEpoch s epoch (kind.Final number) = IsSomeAnd (numbered_block s number) (λ b. b.height ≡ last (blocks_per_epoch s) epoch)
MayEndEpoch s epoch _ = ⊥

abbrev pub ProvidesNext : Setting → (l : ℕ) → Life → Type 0
ProvidesNext s l life =
    (j : ℕ) (event : Event) → event_of_step life (suc j) ≡ Some event → IsUncutBefore life.cut (suc j) → MayEndEpoch s (awaited_epoch s l life j) event
    → life_follows s l life (awaited_epoch s l life j) ≡ false → HasPlayers s (awaited_epoch s l life j + 2)

-- RANGE: the heights of the epoch of this one are numbers of 64 bits.
abbrev pub LiesInRange : Setting → (height : ℕ) → Type 0
LiesInRange s height = last (blocks_per_epoch s) (epoch_of (blocks_per_epoch s) height) < 2 ^ 64

-- INFOS

-- who deals to whom by an info: the players of its output deal to its players
abbrev pub participants_by : Info → Participants
participants_by i = record { dealers = i.output.players; players = i.players; next_players = i.next_players }

-- An info is of the epoch, its participants may take part in the epoch's round under the script's limit, and make one.
pub record ServesIn (s : Setting) (epoch : ℕ) (info : Info) : Type 0 where
  pub of_epoch : info.epoch ≡ epoch
  pub accepted : validation (participants_by info) (limits s).limit (Some info.output) epoch ≡ Ok tt
  pub round : IsSome (result_ok (round_by s.script epoch info))

-- a block that begins an epoch carries such an info of that epoch
abbrev pub BeginsWell : Setting → ScriptBlock → Type 0
BeginsWell s b = (epoch : ℕ) → b.height ≡ boundary (blocks_per_epoch s) epoch → IsSomeAnd b.info (ServesIn s epoch)

-- THE SCRIPT, where its first lives ended so, in one case of what the plan held
pub record IsValidCase (s : Setting) (ends : List (Option CutAt)) : Type 0 where
  pub consistent : IsConsistentScript s ends
  pub in_turn : (l : ℕ) → l ≤ length ends → IfSome (life_at s l) (ComesInTurn s l)
  pub provided : (l : ℕ) → l ≤ length ends → IfSome (life_at s l) (ProvidesNext s l)
  pub in_range : AllByRecursion (λ b. LiesInRange s b.height × LiesInRange s (b.height + 1)) (used s)
  pub begins : AllByRecursion (BeginsWell s) (used s)

-- .. in each such case
pub record IsValidScript (s : Setting) (ends : List (Option CutAt)) : Type 0 where
  pub source : InEachCase s ends (λ case. IsValidCase case ends)

-- THE DEVICES. Of the epochs whose infos and rounds the script has: each stored share is this node's in what the epoch's info carries on; each dealing that is given back passes its check, and
-- this node's own is what the stored seed deals with some share. (There is one such share. It needn't be stored at that epoch: a failed round's is carried on from an epoch below.)
pub record AgreesWith (s : Setting) (files : Files) (held : Secrets) : Type 0 where
  pub shares : (epoch share : ℕ) (info : Info) → get held.shares epoch ≡ Some share → known_info s epoch ≡ Some info → partial_public_of info.output (me s) ≡ Some (share_public_of share)
  pub dealings : (epoch dealer : ℕ) (public : List ℕ) (private : ℕ) (round : Round) → dealer < 2 ^ 32 → get (recovered_from files held) (epoch, dealer) ≡ Some (public, private) → round_at s epoch ≡ Some round
      → dealing_of round (me s) dealer public private ≡ Ok tt
  pub own : (epoch : ℕ) (public : List ℕ) (private : ℕ) (round : Round) → get (recovered_from files held) (epoch, me s) ≡ Some (public, private) → round_at s epoch ≡ Some round
      → (seed : List ℕ) × (share : ℕ) × (privates : List (ℕ × ℕ)) × (get held.seeds epoch ≡ Some seed) × (deal_of round (me s) (Some share) seed ≡ Ok (public, privates))
