-- What the devices show of the cause of a fault that blames what is recorded, in a run over many epochs.
use Rattle.std.specs.Prelude.{ℕ, List, Option, ◌≡◌, ◌⊎◌, ⊤, true, Some, Ok, Err, IsSomeAnd, slice_get}
use Rattle.std.specs.FinMap.{get}
use Rattle.std.specs.List.{AllByRecursion}
use Rattle.dkg_ceremony.specs.Dealings.{dealing_of}
use Rattle.dkg_ceremony.specs.Deals.{deal_of}
use Rattle.dkg_ceremony.specs.Schedule.{boundary}
use Rattle.dkg_ceremony.specs.declared.deal.DealError.{DealError}
use Rattle.dkg_ceremony.specs.declared.round.RoundParts.{RoundParts as Round}
use Rattle.dkg_types.specs.BlockCodes.{info_of}
use Rattle.dkg_types.specs.Blocks.{Block}
use Rattle.dkg_infos.specs.declared.directory.Unit as directory
use Rattle.dkg_infos.specs.declared.entry.Entry.{Entry}
use Rattle.dkg_infos.specs.declared.entry.Entry.TheVariants as entry
use Rattle.dkg_infos.specs.declared.fault.Fault.{Fault}
use Rattle.dkg_infos.specs.declared.fault.Fault.TheVariants.{Corrupt, LocalState}
use Rattle.dkg_infos.specs.declared.fault.LocalCause.TheVariants.{OwnDealing, ShareRefused, StoredDealing}
use Rattle.dkg_infos.specs.declared.info.EpochInfo.{EpochInfo}
use Rattle.dkg_journal.specs.Names.{Files}
use Rattle.dkg_store.specs.Corrupt.{IsCorruptAt}
use Rattle.dkg_store.specs.Pairs.{Pairs}
use Rattle.dkg_store.specs.Recorded.{first_refused, of_epoch}
use Rattle.dkg_secrets.specs.Secrets.{Secrets}
use Rattle.dkg_text.specs.declared.script.Script.{Script}
use Rattle.dkg_core.specs.Fixed.{has, stand_in}
use Rattle.dkg_script.specs.Setting.{recovered_from}
use Rattle.dkg_lives.specs.Blamed.{Draws, per_epoch}
use Rattle.dkg_lives.specs.Given.{blocks_in}

-- A block of the script that begins the epoch carries an info whose round's check refuses this dealer's of these dealings, and none before it.
pub record IsFirstRefusedIn (script : Script) (pairs : Pairs) (epoch dealer : ℕ) : Type 0 where
  pub number : ℕ
  pub block : Block directory.Unit
  pub is : slice_get (blocks_in script) number ≡ Some block
  pub begins : block.height ≡ boundary (per_epoch script) epoch
  pub info : EpochInfo directory.Unit
  pub carries : info_of block.payload ≡ Some info
  pub refused : Draws script epoch info (λ round. first_refused (dealing_of round script.config.me) (of_epoch epoch pairs) ≡ Some dealer)

-- P of the round that the info makes of a block of the script that begins the epoch.
pub record IsBegunBy (script : Script) (epoch : ℕ) (P : Round → Type 0) : Type 0 where
  pub number : ℕ
  pub block : Block directory.Unit
  pub is : slice_get (blocks_in script) number ≡ Some block
  pub begins : block.height ≡ boundary (per_epoch script) epoch
  pub info : EpochInfo directory.Unit
  pub carries : info_of block.payload ≡ Some info
  pub draws : Draws script epoch info P

-- By its public half this is that node's share of the output that the round carries on.
abbrev pub IsCarriedShare : (me : ℕ) → Round → (share : ℕ) → Type 0
IsCarriedShare me round share = IsSomeAnd round.previous (λ output. stand_in.partial_public_of output me ≡ Some (stand_in.share_public_of share))

-- Of this round this node is a dealer, and the share and the seed that are held of the epoch don't deal in it.
abbrev pub IsRefusedBy : Script → Secrets → (epoch : ℕ) → Round → Type 0
IsRefusedBy script held epoch round =
    (has round.dealers script.config.me ≡ true)
    × ((seed : List ℕ) × (why : DealError) × (get held.seeds epoch ≡ Some seed) × (deal_of round script.config.me (get held.shares epoch) seed ≡ Err why))

-- In the round of an epoch this share is dealt from: that which is held of the epoch, or one that the round carries on. (A last block that a life includes commits no share where its info isn't
-- the one that the life derived. Where that info carries an output on, the setup deals from the share of an epoch below, which it may prune.)
abbrev pub IsDealtFrom : Script → Secrets → (epoch : ℕ) → Round → (share : Option ℕ) → Type 0
IsDealtFrom script held epoch round share = (get held.shares epoch ≡ share) ⊎ IsSomeAnd share (IsCarriedShare script.config.me round)

-- By such a share, and by the seed that is held of the epoch, this public half is dealt.
abbrev pub IsDealtBy : Script → Secrets → (epoch : ℕ) → (public : List ℕ) → Round → Type 0
IsDealtBy script held epoch public round =
    (seed : List ℕ) × (share : Option ℕ) × (privates : List (ℕ × ℕ)) × (get held.seeds epoch ≡ Some seed) × IsDealtFrom script held epoch round share
    × (deal_of round script.config.me share seed ≡ Ok (public, privates))

-- A CORRUPT RECORD stands where the fault says. (Of other faults nothing is to be found so.)
abbrev pub NamesCorrupt : (limit : ℕ) → Files → Fault → Type 0
NamesCorrupt limit files (Corrupt name place) = IsCorruptAt limit files name place
NamesCorrupt limit files its = ⊤

pub record IsFoundRecord (limit : ℕ) (files : Files) (its : Fault) : Type 0 where
  pub so : NamesCorrupt limit files its

-- WHAT THE DEVICES HOLD against the node's own state: a stored dealing that it names is among those that the devices give back, and is refused; so is this node's own, where its share and seed
-- of the epoch deal another; and a share that is refused is held, with the seed that it doesn't deal by.
-- (Of other faults nothing is to be found: the script shows their causes.)
abbrev pub ShowsCause : Script → Files → Secrets → Fault → Type 0
ShowsCause script files held (LocalState (ShareRefused epoch)) = IsBegunBy script epoch (IsRefusedBy script held epoch)
ShowsCause script files held (LocalState (StoredDealing epoch dealer)) = IsFirstRefusedIn script (recovered_from files held) epoch dealer
ShowsCause script files held (LocalState (OwnDealing epoch kept dealt)) =
    (private : ℕ) × (get (recovered_from files held) (epoch, script.config.me) ≡ Some (kept, private)) × IsBegunBy script epoch (IsDealtBy script held epoch dealt)
ShowsCause script files held its = ⊤

-- P of each fault that these entries tell
abbrev pub OfFault : (Fault → Type 0) → Entry → Type 0
OfFault P (entry.Fault its) = P its
OfFault P _ = ⊤

pub record EachFault (P : Fault → Type 0) (entries : List Entry) : Type 0 where
  pub each : AllByRecursion (OfFault P) entries
