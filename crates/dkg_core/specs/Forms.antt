-- How openings and steps end in the form of epochs: a reshare without material, whose life deals up to the block before an epoch's midpoint, or follows. Each own fault
-- has its exact cause, and so has each state that is left.
use Rattle.std.specs.Prelude.{◌≡◌, ◌<◌, ◌≤◌, ◌+◌, ◌-◌, ◌==◌, ◌&&◌, ◌⊎◌, ℕ, true, false, not, nat_lt, nat_le, List, ◌∷◌, Option, Some, None, IsSomeAnd, IfSome, option_map, Result, Ok, Err, if◌then◌else◌}
use Rattle.std.specs.List.{AllByRecursion}
use Rattle.std.specs.FinMap.{get}
use Rattle.std.specs.Str.{bytes_eq}
use Rattle.dkg_values.specs.Rising.{lookup}
use Rattle.dkg_ceremony.specs.declared.deal.DealError.{DealError}
use Rattle.dkg_ceremony.specs.declared.phase.Phase.{Phase}
use Rattle.dkg_ceremony.specs.declared.phase.Phase.TheVariants.{Early, Midpoint, Late}
use Rattle.dkg_ceremony.specs.declared.round.RoundParts.{RoundParts as Round}
use Rattle.dkg_ceremony.specs.declared.round.RoundError.{RoundError}
use Rattle.dkg_ceremony.specs.Schedule.{epoch_of, midpoint}
use Rattle.dkg_fence.specs.Fence.{marked}
use Rattle.dkg_types.specs.Blocks.{Block}
use Rattle.dkg_types.specs.BlockCodes.{info_of}
use Rattle.dkg_infos.specs.declared.entry.Entry.{Entry}
use Rattle.dkg_infos.specs.declared.fault.Fault.{Fault}
use Rattle.dkg_infos.specs.declared.fault.Fault.TheVariants.{HeightRange, MissingEpochInfo, WrongEpoch, InvalidParticipants, LocalState, ConflictingBlock, DetachedBlock, SkippedHeight, OutOfWindow}
use Rattle.dkg_infos.specs.declared.fault.LocalCause.TheVariants.{ShareRefused, StoredDealing}
use Rattle.dkg_infos.specs.declared.fault.ParticipantsCause.TheVariants.{Refused, Round as NoRound}
use Rattle.dkg_infos.specs.declared.info.EpochInfo.{EpochInfo}
use Rattle.dkg_journal.specs.Operations.{Bars, Opens, Prunes}
use Rattle.dkg_secrets.specs.declared.secrets.SecretOp.TheVariants.{PutShare, PutSeed, Prune}
use Rattle.dkg_store.specs.Acts.{Held, World, Ended, OnDisk, Changes, held_after}
use Rattle.dkg_core.specs.Courses.{Course, Say, Do, CallOutside, Ask, Goes, Stops, on_devices, EndsSo}
use Rattle.dkg_core.specs.Said.{Said}
use Rattle.dkg_core.specs.Seen.{Seen}
use Rattle.dkg_core.specs.Sources.{Tip, startup}
use Rattle.dkg_core.specs.Fixed.{Fixed, has}
use Rattle.dkg_core.specs.Live.{Live, Dealer, Orchestrator, NodeStop, Stage, Deals, Follows, Plays, Message, Mailed, Peer, Finalized, awaited_height, phase_of}
use Rattle.dkg_core.specs.Setup.{Standing, Uncommitted, WasCommitted, is_past_range, recovered_share, seed_for, records_from, refused_in, scheme_for, may_deal, dealer_from, dealer_for, signed, with_info}
use Rattle.dkg_core.specs.Blocks.{is_in_window}
use Rattle.dkg_core.specs.Core.{opening, begun_life, no_participation, no_inclusion, no_orchestrator}
use Rattle.dkg_core.specs.Entering.{opens_half}
use Rattle.dkg_core.specs.Node.{node_opening}
use Rattle.dkg_core.specs.Laws.{IsCeremony, start_of}
use Rattle.dkg_core.specs.Endings.{ComesTo, CameTo, stage_in, first_epoch, first_block, validity, OnInfo, seat_in, IsEntered}
use Rattle.dkg_core.specs.NodeEndings.{LacksNobody, IsFaultBy}

-- THE FORM

-- A reshare without material, no plan is read, and a ceremony keeps what it promises of rounds and of what this node deals to itself. An epoch has a block.
pub record IsForm {Dir : Type 0} (c : Fixed Dir) : Type 0 where
  pub reshare : c.oneshot ≡ None
  pub bare : c.material ≡ None
  pub unplanned : (h : Held) → (c.seen h).plan ≡ None
  pub ceremony : IsCeremony c
  pub counted : 1 ≤ c.blocks_per_epoch

-- This node's dealer in a round: what some share and seed deal there, with acknowledgements that pass, and without a log while it deals.
pub record IsMine {Dir : Type 0} (c : Fixed Dir) (round : Round) (stage : Stage) (d : Dealer) : Type 0 where
  pub member : has round.dealers c.me ≡ true
  pub share : Option ℕ
  pub seed : List ℕ
  pub dealt : c.rules.deal_of round c.me share seed ≡ Ok (d.public, d.privates)
  pub passed : AllByRecursion (λ ack. c.rules.check_ack_of round c.me d.public ack.0 ack.1 ≡ Ok tt) d.acks
  pub unsigned : stage ≡ Deals → d.log ≡ None

-- The life takes part in the round of the epoch of the next height, in the stage of that height's phase, with its own dealer if it has one; or it follows. It has no request.
pub record IsLiveIn {Dir : Type 0} (c : Fixed Dir) (st : Live Dir) : Type 0 where
  pub awaits : (st.participation.stage ≡ Follows → ⊥) → st.participation.epoch ≡ epoch_of c.blocks_per_epoch (awaited_height st)
  pub in_round : (round : Round) → st.participation.round ≡ Some round → st.participation.stage ≡ stage_in (phase_of c (awaited_height st))
  pub without : st.participation.round ≡ None → (st.participation.stage ≡ Follows) × (st.participation.dealer ≡ None)
  pub mine : (d : Dealer) → st.participation.dealer ≡ Some d → (round : Round) × (st.participation.round ≡ Some round) × IsMine c round st.participation.stage d
  pub numbered : (round : Round) → st.participation.round ≡ Some round → round.number ≡ st.participation.epoch
  pub idle : st.inclusion ≡ no_inclusion

-- The orchestrator's half waits for nothing: it halted, or it has entered the awaited epoch of a life that takes part.
pub record IsActiveIn {Dir : Type 0} (st : Live Dir) : Type 0 where
  pub unawaited : st.orchestrator.waiting ≡ None
  pub entered : (st.orchestrator.halted ≡ true) ⊎ ((st.orchestrator.entered ≡ Some st.participation.epoch) × (st.participation.stage ≡ Follows → ⊥))

-- what a life that hasn't ended makes of a delivered block, before it looks at the payload: it is refused, nothing happens, or it is applied
pub data Judged : Type 0 where
  Refusal : Fault → Judged
  Passed : Judged
  Applied : Judged

-- .. by its tip
abbrev pub judged_over_tip : {Dir : Type 0} → Fixed Dir → Block Dir → Live Dir → Option Tip → Judged
judged_over_tip c b st None = if is_in_window c b st then Applied else Refusal (OutOfWindow b.height)
judged_over_tip c b st (Some t) =
    if (b.height == t.height) && not (bytes_eq b.digest t.digest) then Refusal (ConflictingBlock b.height)
    else if nat_lt (t.height + 1) b.height then Refusal (SkippedHeight (t.height + 1) b.height)
    else if (b.height == t.height + 1) && not (bytes_eq b.parent t.digest) then Refusal (DetachedBlock b.height)
    else if nat_le b.height t.height then Passed
    else Applied

abbrev pub judged_block : {Dir : Type 0} → Fixed Dir → Block Dir → Live Dir → Judged
judged_block c b st = if is_past_range c b.height then Refusal HeightRange else judged_over_tip c b st st.tip

-- What the form takes: a peer's message, a block that isn't applied, one below its epoch's midpoint, and any while the life follows.
abbrev pub IsTakenIn : {Dir : Type 0} → Fixed Dir → Message Dir → Live Dir → Type 0
IsTakenIn c (Mailed (Peer from bytes)) st = Unit {0}
IsTakenIn c (Finalized b) st = judged_block c b st ≡ Applied → (st.participation.stage ≡ Follows) ⊎ (b.height < midpoint c.blocks_per_epoch (epoch_of c.blocks_per_epoch b.height))
IsTakenIn c message st = ⊥

-- WHERE A COURSE COMES TO over these devices, or whatever is read where none are given: what it stops by, and what it goes to, with what the devices hold then

abbrev pub ComesOver : {Dir F S : Type 0} → (stops : F → Type 0) → (goes : S → Option Held → Type 0) → Course Dir F S → Option Held → Type 0
ComesOver stops goes (Say line course) devices = ComesOver stops goes course devices
ComesOver stops goes (Do op course) devices = ComesOver stops goes course (option_map (held_after op) devices)
ComesOver stops goes (CallOutside outer course) devices = ComesOver stops goes course devices
ComesOver stops goes (Ask f) (Some h) = ComesOver stops goes (f h) (Some h)
ComesOver stops goes (Ask f) None = (h : Held) → ComesOver stops goes (f h) None
ComesOver stops goes (Goes end) devices = goes end devices
ComesOver stops goes (Stops fault) devices = stops fault

-- what a read finds: these, or anything
abbrev pub FindsHeld : Option Held → Held → Type 0
FindsHeld (Some held) h = h ≡ held
FindsHeld None h = Unit {0}

-- A SETUP, of any epoch by any info

-- the round that an info makes in an epoch
abbrev pub round_for : {Dir : Type 0} → Fixed Dir → (epoch : ℕ) → EpochInfo Dir → Result Round RoundError
round_for c epoch info = c.rules.round_of c.namespace epoch (Some info.output) c.mode c.reveal info.output.players info.players

-- from the midpoint on a dealer's log is signed
abbrev pub signed_in : {Dir : Type 0} → Fixed Dir → Round → Phase → Option Dealer → Option Dealer
signed_in c round Early dealer = dealer
signed_in c round Midpoint dealer = option_map (signed c round) dealer
signed_in c round Late dealer = option_map (signed c round) dealer

abbrev pub dealer_by : {Dir : Type 0} → Fixed Dir → Round → Phase → Live Dir → Result (List ℕ × List (ℕ × ℕ)) DealError → Option Dealer
dealer_by c round phase st (Ok dealt) = signed_in c round phase (dealer_for phase round (dealer_from c round st dealt))
dealer_by c round phase st (Err refused) = None

-- this node's dealer where it may deal: what its share and seed deal, with the recorded acknowledgements that pass; behind Early one with a quorum alone
abbrev pub dealer_in : {Dir : Type 0} → Fixed Dir → Round → (share : Option ℕ) → (seed : List ℕ) → Phase → Live Dir → Option Dealer
dealer_in c round share seed phase st = if may_deal c round share st then dealer_by c round phase st (c.rules.deal_of round c.me share seed) else None

-- The share isn't refused, where this node may deal.
abbrev pub IsDealable : {Dir : Type 0} → Fixed Dir → Round → (share : Option ℕ) → (seed : List ℕ) → Live Dir → Type 0
IsDealable c round share seed st = may_deal c round share st ≡ true → (e : DealError) → c.rules.deal_of round c.me share seed ≡ Err e → ⊥

-- P of the round that a valid info of the epoch makes
abbrev pub OnRound : {Dir : Type 0} → Fixed Dir → (epoch : ℕ) → EpochInfo Dir → (Round → Type 0) → Type 0
OnRound c epoch info P = (info.epoch ≡ epoch) × (validity c info ≡ Ok tt) × ((round : Round) × (round_for c epoch info ≡ Ok round) × P round)

-- What a setup of this epoch by this info, with this share and seed, stops by, and why; st is the life before it.
abbrev pub IsSetupFault : {Dir : Type 0} → Fixed Dir → (epoch : ℕ) → EpochInfo Dir → (share : Option ℕ) → (seed : List ℕ) → Live Dir → Fault → Type 0
IsSetupFault c epoch info share seed st (WrongEpoch expected got) = (expected ≡ epoch) × (got ≡ info.epoch) × (info.epoch ≡ epoch → ⊥)
IsSetupFault c epoch info share seed st (InvalidParticipants (Refused e)) = (info.epoch ≡ epoch) × (validity c info ≡ Err e)
IsSetupFault c epoch info share seed st (InvalidParticipants (NoRound e)) = (info.epoch ≡ epoch) × (validity c info ≡ Ok tt) × (round_for c epoch info ≡ Err e)
IsSetupFault c epoch info share seed st (LocalState (ShareRefused number)) =
    (number ≡ epoch) × OnRound c epoch info (λ round. (may_deal c round share st ≡ true) × ((e : DealError) × (c.rules.deal_of round c.me share seed ≡ Err e)))
IsSetupFault c epoch info share seed st (LocalState (StoredDealing number dealer)) =
    (number ≡ epoch) × OnRound c epoch info (λ round. IsDealable c round share seed st × (seat_in c round st ≡ Plays) × (refused_in c round st ≡ Some dealer))
IsSetupFault c epoch info share seed st fault = ⊥

-- the current info behind a setup: one that wasn't committed before is so now
abbrev pub current_by : {Dir : Type 0} → Standing → EpochInfo Dir → Option (EpochInfo Dir) → Option (EpochInfo Dir)
current_by Uncommitted info current = Some info
current_by WasCommitted info current = current

-- the orchestrator's half behind the registration of an info with this share: the scheme is the newest, and the fence was marked
abbrev pub registered_with : {Dir : Type 0} → Fixed Dir → EpochInfo Dir → (share : Option ℕ) → Orchestrator Dir → Orchestrator Dir
registered_with c info share o = record o { fence = marked info.epoch o.fence; schemes = (info.epoch, scheme_for c info share) ∷ o.schemes }

-- .. behind a setup, which registers what it commits
abbrev pub orchestrator_by : {Dir : Type 0} → Standing → Fixed Dir → EpochInfo Dir → (share : Option ℕ) → Orchestrator Dir → Orchestrator Dir
orchestrator_by Uncommitted c info share o = registered_with c info share o
orchestrator_by WasCommitted c info share o = o

-- The life takes part in the round of this valid info, with the dealer that this share and seed make and the seat that what is recorded gives; no recorded dealing is
-- refused where it plays. Records below the epoch before are gone, and nothing else has changed.
pub record IsSeated {Dir : Type 0} (c : Fixed Dir) (standing : Standing) (info : EpochInfo Dir) (share : Option ℕ) (seed : List ℕ) (st end : Live Dir) : Type 0 where
  pub of_epoch : info.epoch ≡ st.participation.epoch
  pub valid : validity c info ≡ Ok tt
  pub round : Round
  pub drawn : round_for c st.participation.epoch info ≡ Ok round
  pub in_round : end.participation.round ≡ Some round
  pub dealable : IsDealable c round share seed end
  pub dealer : end.participation.dealer ≡ dealer_in c round share seed (phase_of c (awaited_height end)) end
  pub seat : end.participation.seat ≡ seat_in c round end
  pub passes : end.participation.seat ≡ Plays → refused_in c round end ≡ None
  pub current : end.participation.current ≡ current_by standing info st.participation.current
  pub tip : end.tip ≡ st.tip
  pub records : end.records ≡ records_from (st.participation.epoch - 1) st.records
  pub orchestrator : end.orchestrator ≡ orchestrator_by standing c info share st.orchestrator
  pub probe : end.probe ≡ st.probe
  pub live : IsLiveIn c end

-- what a read gives as the share of an info's epoch, and as its seed
abbrev pub share_read : {Dir : Type 0} → Fixed Dir → EpochInfo Dir → Held → Option ℕ
share_read c info h = recovered_share c (c.seen h) info

abbrev pub seed_read : {Dir : Type 0} → Fixed Dir → EpochInfo Dir → Held → List ℕ
seed_read c info h = seed_for c info.epoch (lookup info.epoch (c.seen h).seeds)

-- what devices hold with this share at an epoch, if there is one
abbrev pub with_share : (epoch : ℕ) → Option ℕ → Held → Held
with_share epoch None h = h
with_share epoch (Some share) h = held_after (Changes (PutShare epoch share)) h

-- .. behind a commit, if there is one
abbrev pub committed_by : {Dir : Type 0} → Standing → EpochInfo Dir → (share : Option ℕ) → (seed : List ℕ) → Held → Held
committed_by Uncommitted info share seed h = held_after (Changes (PutSeed info.epoch seed)) (with_share info.epoch share h)
committed_by WasCommitted info share seed h = h

-- .. behind a setup of this epoch: nothing below the epoch before it
abbrev pub set_up_by : {Dir : Type 0} → Standing → (epoch : ℕ) → EpochInfo Dir → (share : Option ℕ) → (seed : List ℕ) → Held → Held
set_up_by standing epoch info share seed h = held_after (Changes (Prune (epoch - 1))) (held_after (OnDisk (Prunes (epoch - 1))) (committed_by standing info share seed h))

-- The seed is stored at this epoch, and so is the share, if there is one.
pub record StoresBoth (epoch : ℕ) (share : Option ℕ) (seed : List ℕ) (h : Held) : Type 0 where
  pub seed_is : get h.secrets.seeds epoch ≡ Some seed
  pub share_is : IfSome share (λ its. get h.secrets.shares epoch ≡ Some its)

-- A SETUP STORES both of the epoch, where it commits.
abbrev pub SetupsStore : Type 0 → Type 0
SetupsStore Dir = (epoch : ℕ) (info : EpochInfo Dir) (share : Option ℕ) (seed : List ℕ) (h : Held) → info.epoch ≡ epoch → StoresBoth epoch share seed (set_up_by Uncommitted epoch info share seed h)

-- A SETUP BY AN INFO, of a life that awaits the epoch of its next height and has no request, stops by these faults alone, or leaves such a life and such devices. It
-- reads once at most.
abbrev pub SetupsComeTo : Type 0 → Type 0
SetupsComeTo Dir = (c : Fixed Dir) (standing : Standing) (info : EpochInfo Dir) (st : Live Dir) (devices : Option Held) → IsForm c
    → st.participation.epoch ≡ epoch_of c.blocks_per_epoch (awaited_height st) → st.inclusion ≡ no_inclusion
    → ComesOver (λ fault. (h : Held) × FindsHeld devices h × IsSetupFault c st.participation.epoch info (share_read c info h) (seed_read c info h) st fault)
    (λ end left. (h : Held) × FindsHeld devices h × IsSeated c standing info (share_read c info h) (seed_read c info h) st end
    × (left ≡ option_map (set_up_by standing st.participation.epoch info (share_read c info h) (seed_read c info h)) devices)) (with_info c None standing info st) devices

-- AN OPENING

-- the life that an opening sets up: it awaits the epoch of the height above the position that the source tells
abbrev pub started : {Dir : Type 0} → Fixed Dir → Seen → Live Dir
started c seen = record (begun_life seen) { tip = startup c.source.anchor None; participation = record no_participation { epoch = first_epoch c } }

-- What an opening stops by, and why: it restored what seen has, and k is what the devices held as its share and seed were read.
abbrev pub IsOpeningStop : {Dir : Type 0} → Fixed Dir → Seen → (k : Held) → Fault → Type 0
IsOpeningStop c seen k HeightRange = is_past_range c (start_of c) ≡ true
IsOpeningStop c seen k (MissingEpochInfo height) = IsSomeAnd (first_block c) (λ b. (height ≡ b.height) × (info_of b.payload ≡ None))
IsOpeningStop c seen k fault = OnInfo c (λ info. IsSetupFault c (first_epoch c) info (share_read c info k) (seed_read c info k) (started c seen) fault)

-- By the info of the boundary block it takes part, or without that block it follows, with all that was read, and nothing was registered.
abbrev pub IsSetUpIn : {Dir : Type 0} → Fixed Dir → Seen → (k : Held) → Live Dir → Option (Block Dir) → Type 0
IsSetUpIn c seen k st None = (st.participation.round ≡ None) × (st.participation.epoch ≡ first_epoch c) × (st.records ≡ (started c seen).records) × (st.orchestrator ≡ no_orchestrator)
IsSetUpIn c seen k st (Some b) = IsSomeAnd (info_of b.payload) (λ info. IsSeated c Uncommitted info (share_read c info k) (seed_read c info k) (started c seen) st)

pub record IsOpened {Dir : Type 0} (c : Fixed Dir) (seen : Seen) (k : Held) (st : Live Dir) : Type 0 where
  pub in_range : is_past_range c (start_of c) ≡ false
  pub tip : st.tip ≡ startup c.source.anchor None
  -- of the epoch before the awaited one and later ones nothing that was read is lost from memory
  pub restored : records_from (first_epoch c - 1) st.records ≡ records_from (first_epoch c - 1) (started c seen).records
  pub live : IsLiveIn c st
  pub set_up : IsSetUpIn c seen k st (first_block c)

-- AN OPENING stops by these faults alone, or leaves such a life. What it restored is what it read first (h).
abbrev pub OpeningsLead : Type 0 → Type 0
OpeningsLead Dir = (c : Fixed Dir) (ended : Ended Fault (Live Dir)) (old new : List Entry) → IsForm c → Said (on_devices (opening c)) ended old new
    → CameTo (λ fault. (h k : Held) × IsOpeningStop c (c.seen h) k fault) (λ st. (h k : Held) × IsOpened c (c.seen h) k st) ended

-- what devices hold as an opening reads them: the barrier and the journal's opening are behind it
abbrev pub held_behind : {Dir : Type 0} → Fixed Dir → Held → Held
held_behind c h = held_after (OnDisk (Opens c.opening_calls)) (held_after (OnDisk Bars) h)

-- what they hold at its end: by the info of the boundary block the share and the seed that were read, and nothing below the epoch before; without that block all of it
abbrev pub LeavesHeld : {Dir : Type 0} → Fixed Dir → (k new : Held) → Option (Block Dir) → Type 0
LeavesHeld c k new None = new ≡ k
LeavesHeld c k new (Some b) = IsSomeAnd (info_of b.payload) (λ info. new ≡ set_up_by Uncommitted (first_epoch c) info (share_read c info k) (seed_read c info k) k)

-- .. OVER DEVICES that tell it has read what these hold, the share and the seed among it, and leaves both stored.
abbrev pub OpeningsLeadOver : Type 0 → Type 0
OpeningsLeadOver Dir = (c : Fixed Dir) (ended : Ended Fault (Live Dir)) (w new : World) → IsForm c → EndsSo (opening c) ended w new
    → CameTo (IsOpeningStop c (c.seen (held_behind c w.held)) (held_behind c w.held))
    (λ st. IsOpened c (c.seen (held_behind c w.held)) (held_behind c w.held) st × LeavesHeld c (held_behind c w.held) new.held (first_block c)) ended

-- THE ORCHESTRATOR'S HALF behind such an opening never stops, where directories lack nobody: it enters the awaited epoch, or halts without its boundary block.
abbrev pub HalvesBegin : Type 0 → Type 0
HalvesBegin Dir = (c : Fixed Dir) (st : Live Dir) (seen : Seen) (k : Held) → IsOpened c seen k st → LacksNobody c
    → ComesTo (λ (stop : NodeStop). ⊥) (λ half. IsEntered c st half.live) (opens_half c None st)

-- the reshare half's end, and behind it the orchestrator's
pub record IsNodeBegun {Dir : Type 0} (c : Fixed Dir) (seen : Seen) (k : Held) (st : Live Dir) : Type 0 where
  pub before : Live Dir
  pub opened : IsOpened c seen k before
  pub entered : IsEntered c before st
  pub live : IsLiveIn c st
  pub active : IsActiveIn st

-- A NODE'S OPENING stops by faults of its reshare half alone, each of which has its cause; or it leaves such a life, where directories lack nobody.
abbrev pub NodeOpeningsLead : Type 0 → Type 0
NodeOpeningsLead Dir = (c : Fixed Dir) (ended : Ended NodeStop (Live Dir)) (old new : List Entry) → IsForm c → LacksNobody c → Said (on_devices (node_opening c)) ended old new
    → CameTo (IsFaultBy (λ fault. (h k : Held) × IsOpeningStop c (c.seen h) k fault)) (λ st. (h k : Held) × IsNodeBegun c (c.seen h) k st) ended

-- .. and so it is over devices that tell.
abbrev pub NodeOpeningsLeadOver : Type 0 → Type 0
NodeOpeningsLeadOver Dir = (c : Fixed Dir) (ended : Ended NodeStop (Live Dir)) (w new : World) → IsForm c → LacksNobody c → EndsSo (node_opening c) ended w new
    → CameTo (IsFaultBy (IsOpeningStop c (c.seen (held_behind c w.held)) (held_behind c w.held)))
    (λ st. IsNodeBegun c (c.seen (held_behind c w.held)) (held_behind c w.held) st × LeavesHeld c (held_behind c w.held) new.held (first_block c)) ended
