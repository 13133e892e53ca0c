-- How steps end in the form of epochs: what a peer's message and a delivered block do, each by its cause.
use Rattle.std.specs.Prelude.{◌≡◌, ◌⊎◌, ◌<◌, ◌+◌, ◌==◌, ℕ, Bool, true, false, List, Option, Some, None, is_some, IsSome, IsSomeAnd, Result, Ok, Err, if◌then◌else◌}
use Rattle.std.specs.Option.{option_map_or}
use Rattle.dkg_values.specs.Rising.{lookup}
use Rattle.dkg_ceremony.specs.declared.ceremony.AckError.{AckError}
use Rattle.dkg_ceremony.specs.declared.round.RoundParts.{RoundParts as Round}
use Rattle.dkg_ceremony.specs.Schedule.{epoch_of, midpoint, last}
use Rattle.dkg_types.specs.Blocks.{Block}
use Rattle.dkg_types.specs.BlockCodes.{info_of}
use Rattle.dkg_infos.specs.declared.entry.Entry.{Entry}
use Rattle.dkg_infos.specs.declared.fault.Fault.{Fault}
use Rattle.dkg_infos.specs.declared.fault.Fault.TheVariants.{HeightRange, MissingEpochInfo, WrongEpoch, LocalState}
use Rattle.dkg_infos.specs.declared.fault.LocalCause.TheVariants.{OwnDealing}
use Rattle.dkg_infos.specs.declared.info.EpochInfo.{EpochInfo}
use Rattle.dkg_store.specs.Acts.{Held, World, Ended}
use Rattle.dkg_core.specs.Courses.{on_devices, EndsSo}
use Rattle.dkg_core.specs.Said.{Said}
use Rattle.dkg_core.specs.Fixed.{Fixed}
use Rattle.dkg_core.specs.Live.{Live, Dealer, NodeStop, Stage, Deals, Follows, Seat, Plays, Watches, Message, Mailed, Peer, Finalized, recorded_at, is_last_height, with_tip, with_participation}
use Rattle.dkg_core.specs.Setup.{Uncommitted, WasCommitted, is_past_range, scheme_for, with_registered, anew, unsent_of_round, begins_inclusion}
use Rattle.dkg_core.specs.Dealing.{with_dealing_of, counts, with_ack}
use Rattle.dkg_core.specs.Core.{step}
use Rattle.dkg_core.specs.Entering.{active, takes_delivered}
use Rattle.dkg_core.specs.Node.{node_step}
use Rattle.dkg_core.specs.Behind.{event_of}
use Rattle.dkg_core.specs.Laws.{IsAccepted}
use Rattle.dkg_core.specs.Storing.{ReadsSecrets}
use Rattle.dkg_core.specs.Endings.{ComesTo, CameTo, answer_in}
use Rattle.dkg_core.specs.NodeEndings.{IsFaultBy}
use Rattle.dkg_core.specs.Forms.{IsForm, IsLiveIn, IsActiveIn, Judged, Refusal, Passed, Applied, judged_block, IsTakenIn, IsSetupFault, IsSeated, share_read, seed_read, committed_by, set_up_by}

-- A PEER'S MESSAGE

-- A dealing of the sender was recorded: it is valid in the life's round, under a new key.
pub record IsDealingHeard {Dir : Type 0} (c : Fixed Dir) (st : Live Dir) (from : ℕ) (end : Live Dir) : Type 0 where
  pub round : Round
  pub of_epoch : st.participation.round ≡ Some round
  pub public : List ℕ
  pub private : ℕ
  pub accepted : IsAccepted c st round.number from public private
  pub is : end ≡ with_dealing_of round.number from public private st

-- the life with an acknowledgement that passed: it counts where none of its player does, and is recorded where none is
abbrev pub with_taken : {Dir : Type 0} → (epoch : ℕ) → Dealer → (player : ℕ) → List ℕ → Live Dir → Live Dir
with_taken epoch d player ack st =
    if is_some (lookup player d.acks) then st
    else if is_some (recorded_at st.records.acks epoch player) then counts d player ack st
    else counts d player ack (with_ack epoch player ack st)

-- An acknowledgement of the sender was taken: it passes the check of what this node's dealer deals in the life's round.
pub record IsAckHeard {Dir : Type 0} (c : Fixed Dir) (st : Live Dir) (from : ℕ) (end : Live Dir) : Type 0 where
  pub round : Round
  pub of_epoch : st.participation.round ≡ Some round
  pub dealer : Dealer
  pub of_dealer : st.participation.dealer ≡ Some dealer
  pub ack : List ℕ
  pub passes : c.rules.check_ack_of round c.me dealer.public from ack ≡ Ok tt
  pub is : end ≡ with_taken round.number dealer from ack st

-- Nothing else changes a life.
abbrev pub IsHeardBy : {Dir : Type 0} → Fixed Dir → Live Dir → (from : ℕ) → Live Dir → Type 0
IsHeardBy c st from end = (end ≡ st) ⊎ (IsDealingHeard c st from end ⊎ IsAckHeard c st from end)

-- A BLOCK WHILE DEALING

-- this node's half of its own dealing, while it is still to be offered
abbrev pub own_half : {Dir : Type 0} → Fixed Dir → Round → Dealer → Option ℕ
own_half c round d = lookup c.me (unsent_of_round round d)

-- the life with its own dealing recorded, where none is
abbrev pub with_own_dealing : {Dir : Type 0} → Fixed Dir → Round → List ℕ → (private : ℕ) → Live Dir → Option (List ℕ × ℕ) → Live Dir
with_own_dealing c round public private st (Some kept) = st
with_own_dealing c round public private st None = with_dealing_of round.number c.me public private st

-- .. and its own acknowledgement taken, where it passes
abbrev pub with_own_ack : {Dir : Type 0} → Fixed Dir → Round → Dealer → Live Dir → Result (Unit {0}) AckError → Live Dir
with_own_ack c round d st (Err e) = st
with_own_ack c round d st (Ok passed) = with_taken round.number d c.me (c.rules.ack_of c.me round c.me d.public) st

abbrev pub own_given : {Dir : Type 0} → Fixed Dir → Round → Dealer → (private : ℕ) → Live Dir → Live Dir
own_given c round d private st =
    with_own_ack c round d (with_own_dealing c round d.public private st (recorded_at st.records.dealings round.number c.me))
    (c.rules.check_ack_of round c.me d.public c.me (c.rules.ack_of c.me round c.me d.public))

abbrev pub given_in : {Dir : Type 0} → Fixed Dir → Round → Dealer → Live Dir → Seat → (half : Option ℕ) → Live Dir
given_in c round d st Plays (Some private) = own_given c round d private st
given_in c round d st Plays None = st
given_in c round d st Watches half = st

-- .. both where this node deals and plays, and its own half is still to be offered
abbrev pub given_itself : {Dir : Type 0} → Fixed Dir → Live Dir → Live Dir
given_itself c st = option_map_or (λ round. option_map_or (λ d. given_in c round d st st.participation.seat (own_half c round d)) st.participation.dealer st) st.participation.round st

-- The dealing that is recorded of this node isn't what its dealer deals.
pub record OwnDiffers {Dir : Type 0} (c : Fixed Dir) (st : Live Dir) (epoch : ℕ) (kept dealt : List ℕ) : Type 0 where
  pub round : Round
  pub of_epoch : st.participation.round ≡ Some round
  pub of_round : epoch ≡ round.number
  pub plays : st.participation.seat ≡ Plays
  pub dealer : Dealer
  pub of_dealer : st.participation.dealer ≡ Some dealer
  pub is_dealt : dealt ≡ dealer.public
  pub unsent : IsSome (own_half c round dealer)
  pub private : ℕ
  pub recorded : recorded_at st.records.dealings round.number c.me ≡ Some (kept, private)
  pub differs : kept ≡ dealt → ⊥

-- .. and none is another
abbrev pub NoOwnDiffers : {Dir : Type 0} → Fixed Dir → Live Dir → Type 0
NoOwnDiffers c st = (epoch : ℕ) (kept dealt : List ℕ) → OwnDiffers c st epoch kept dealt → ⊥

abbrev pub IsDealingStop : {Dir : Type 0} → Fixed Dir → Live Dir → Fault → Type 0
IsDealingStop c st (LocalState (OwnDealing epoch kept dealt)) = OwnDiffers c st epoch kept dealt
IsDealingStop c st fault = ⊥

-- the life behind an applied block: the one before the midpoint begins inclusion
abbrev pub dealt_behind : {Dir : Type 0} → Fixed Dir → Block Dir → Live Dir → Live Dir
dealt_behind c b st = if b.height + 1 == midpoint c.blocks_per_epoch st.participation.epoch then begins_inclusion c (with_tip b st) else with_tip b st

-- A LAST BLOCK WHILE FOLLOWING

-- the epoch behind a block's
abbrev pub next_epoch : {Dir : Type 0} → Fixed Dir → Block Dir → ℕ
next_epoch c b = epoch_of c.blocks_per_epoch b.height + 1

-- the life before the setup: the info is committed and registered with this share, and the block is the tip
abbrev pub taken_over : {Dir : Type 0} → Fixed Dir → Block Dir → EpochInfo Dir → (share : Option ℕ) → Live Dir → Live Dir
taken_over c b info share st =
    anew c (with_tip b (with_registered info.epoch (scheme_for c info share) (with_participation (record st.participation { current = Some info }) st)))

-- what the devices hold behind the commit, where they held h
abbrev pub held_committed : {Dir : Type 0} → Fixed Dir → EpochInfo Dir → Held → Held
held_committed c info h = committed_by Uncommitted info (share_read c info h) (seed_read c info h) h

-- .. of the info that a block carries, if it carries one
abbrev pub held_behind_commit : {Dir : Type 0} → Fixed Dir → Block Dir → Held → Held
held_behind_commit c b h = option_map_or (λ info. held_committed c info h) (info_of b.payload) h

-- what it stops by: h is what the devices held as the info was committed, and k as it was set up
abbrev pub IsTakeoverStop : {Dir : Type 0} → Fixed Dir → Block Dir → Live Dir → (h k : Held) → Fault → Type 0
IsTakeoverStop c b st h k (MissingEpochInfo height) = (height ≡ b.height) × (info_of b.payload ≡ None)
IsTakeoverStop c b st h k (WrongEpoch expected got) = (expected ≡ next_epoch c b) × IsSomeAnd (info_of b.payload) (λ info. (got ≡ info.epoch) × (info.epoch ≡ next_epoch c b → ⊥))
IsTakeoverStop c b st h k HeightRange = IsSomeAnd (info_of b.payload) (λ info. info.epoch ≡ next_epoch c b) × (is_past_range c (b.height + 1) ≡ true)
IsTakeoverStop c b st h k fault =
    IsSomeAnd (info_of b.payload) (λ info. (info.epoch ≡ next_epoch c b)
    × IsSetupFault c (next_epoch c b) info (share_read c info k) (seed_read c info k) (taken_over c b info (share_read c info h) st) fault)

-- The carried info is that of the epoch behind, and the life is set up by it.
pub record IsTakenOver {Dir : Type 0} (c : Fixed Dir) (b : Block Dir) (st : Live Dir) (h k : Held) (end : Live Dir) : Type 0 where
  pub info : EpochInfo Dir
  pub carried : info_of b.payload ≡ Some info
  pub of_next : info.epoch ≡ next_epoch c b
  pub in_range : is_past_range c (b.height + 1) ≡ false
  pub seated : IsSeated c WasCommitted info (share_read c info k) (seed_read c info k) (taken_over c b info (share_read c info h) st) end

-- ANY BLOCK

-- what an applied block stops a life by, by its stage
abbrev pub IsAppliedStop : {Dir : Type 0} → Fixed Dir → Block Dir → Live Dir → (h k : Held) → Stage → Fault → Type 0
IsAppliedStop c b st h k Deals fault = IsDealingStop c st fault
IsAppliedStop c b st h k Follows fault = (is_last_height c b.height ≡ true) × IsTakeoverStop c b st h k fault
IsAppliedStop c b st h k stage fault = ⊥

abbrev pub IsBlockStop : {Dir : Type 0} → Fixed Dir → Block Dir → Live Dir → (h k : Held) → Judged → Fault → Type 0
IsBlockStop c b st h k (Refusal refused) fault = fault ≡ refused
IsBlockStop c b st h k Passed fault = ⊥
IsBlockStop c b st h k Applied fault = IsAppliedStop c b st h k st.participation.stage fault

-- what a block leaves of a life that follows: the next epoch set up, where it is an epoch's last, and else the tip
abbrev pub IsFollowedEnd : {Dir : Type 0} → Fixed Dir → Block Dir → Live Dir → (h k : Held) → (last : Bool) → Live Dir → Type 0
IsFollowedEnd c b st h k true end = IsTakenOver c b st h k end
IsFollowedEnd c b st h k false end = end ≡ with_tip b st

-- .. and of any: while dealing the own dealing is given, and none that is recorded is another
abbrev pub IsAppliedEnd : {Dir : Type 0} → Fixed Dir → Block Dir → Live Dir → (h k : Held) → Stage → Live Dir → Type 0
IsAppliedEnd c b st h k Deals end = (end ≡ dealt_behind c b (given_itself c st)) × NoOwnDiffers c st
IsAppliedEnd c b st h k Follows end = IsFollowedEnd c b st h k (is_last_height c b.height) end
IsAppliedEnd c b st h k stage end = ⊥

abbrev pub IsBlockEnd : {Dir : Type 0} → Fixed Dir → Block Dir → Live Dir → (h k : Held) → Judged → Live Dir → Type 0
IsBlockEnd c b st h k (Refusal refused) end = ⊥
IsBlockEnd c b st h k Passed end = end ≡ st
IsBlockEnd c b st h k Applied end = IsAppliedEnd c b st h k st.participation.stage end

-- A STEP

-- what it stops by
abbrev pub IsStepStop : {Dir : Type 0} → Fixed Dir → Live Dir → Message Dir → (h k : Held) → Fault → Type 0
IsStepStop c st (Finalized b) h k fault = IsBlockStop c b st h k (judged_block c b st) fault
IsStepStop c st (Mailed mail) h k fault = ⊥

-- .. and what it leaves
abbrev pub IsStepEnd : {Dir : Type 0} → Fixed Dir → Live Dir → Message Dir → (h k : Held) → Live Dir → Type 0
IsStepEnd c st (Finalized b) h k end = IsBlockEnd c b st h k (judged_block c b st) end
IsStepEnd c st (Mailed (Peer from bytes)) h k end = IsHeardBy c st from end
IsStepEnd c st message h k end = ⊥

-- A life of the form is left.
pub record IsNextIn {Dir : Type 0} (c : Fixed Dir) (st : Live Dir) (message : Message Dir) (h k : Held) (end : Live Dir) : Type 0 where
  pub live : IsLiveIn c end
  pub is : IsStepEnd c st message h k end

-- what the devices held as a message's info was set up, where they held h before
abbrev pub held_at_setup : {Dir : Type 0} → Fixed Dir → Message Dir → Held → Held
held_at_setup c (Finalized b) h = held_behind_commit c b h
held_at_setup c (Mailed mail) h = h

-- what a last block while following leaves of the devices, which held k at the setup
abbrev pub LeavesTaken : {Dir : Type 0} → Fixed Dir → Live Dir → Message Dir → (k now : Held) → Type 0
LeavesTaken c st (Finalized b) k now =
    judged_block c b st ≡ Applied → st.participation.stage ≡ Follows → is_last_height c b.height ≡ true
    → IsSomeAnd (info_of b.payload) (λ info. now ≡ set_up_by WasCommitted (next_epoch c b) info (share_read c info k) (seed_read c info k) k)
LeavesTaken c st (Mailed mail) k now = Unit {0}

-- A STEP stops by these faults alone, or leaves such a life, whatever is read.
abbrev pub StepsLead : Type 0 → Type 0
StepsLead Dir = (c : Fixed Dir) (st : Live Dir) (message : Message Dir) (ended : Ended Fault (Live Dir)) (old new : List Entry) → IsForm c → IsTakenIn c message st → IsLiveIn c st
    → Said (on_devices (step c message st)) ended old new → CameTo (λ fault. (h k : Held) × IsStepStop c st message h k fault) (λ end. (h k : Held) × IsNextIn c st message h k end) ended

-- .. OVER DEVICES that tell it reads what these hold.
abbrev pub StepsLeadOver : Type 0 → Type 0
StepsLeadOver Dir = (c : Fixed Dir) (st : Live Dir) (message : Message Dir) (ended : Ended Fault (Live Dir)) (w new : World) → IsForm c → IsTakenIn c message st → IsLiveIn c st
    → EndsSo (step c message st) ended w new
    → CameTo (IsStepStop c st message w.held (held_at_setup c message w.held))
    (λ end. IsNextIn c st message w.held (held_at_setup c message w.held) end × LeavesTaken c st message (held_at_setup c message w.held) new.held) ended

-- WHAT IS COMMITTED is read again: over devices that tell, the setup behind a commit has the share and the seed that were committed.
abbrev pub CommitsAreRead : Type 0 → Type 0
CommitsAreRead Dir = (c : Fixed Dir) (info : EpochInfo Dir) (h : Held) → ReadsSecrets c.seen
    → (share_read c info (held_committed c info h) ≡ share_read c info h) × (seed_read c info (held_committed c info h) ≡ seed_read c info h)

-- The life awaits the same epoch, in the same round and seat, by the same info; beside it nothing has changed, and no log was recorded.
pub record IsSameLife {Dir : Type 0} (st end : Live Dir) : Type 0 where
  pub epoch : end.participation.epoch ≡ st.participation.epoch
  pub round : end.participation.round ≡ st.participation.round
  pub seat : end.participation.seat ≡ st.participation.seat
  pub current : end.participation.current ≡ st.participation.current
  pub logs : end.records.logs ≡ st.records.logs
  pub orchestrator : end.orchestrator ≡ st.orchestrator
  pub probe : end.probe ≡ st.probe

-- no epoch's last block that is applied while following
abbrev pub TakesNothingOver : {Dir : Type 0} → Fixed Dir → Live Dir → Message Dir → Type 0
TakesNothingOver c st (Finalized b) = judged_block c b st ≡ Applied → st.participation.stage ≡ Follows → is_last_height c b.height ≡ true → ⊥
TakesNothingOver c st (Mailed mail) = Unit {0}

-- THE SAME LIFE GOES ON, where no epoch is taken over.
abbrev pub NextLivesStay : Type 0 → Type 0
NextLivesStay Dir = (c : Fixed Dir) (st : Live Dir) (message : Message Dir) (h k : Held) (end : Live Dir) → TakesNothingOver c st message → IsNextIn c st message h k end → IsSameLife st end

-- THE ORCHESTRATOR'S HALF of a block below the entered epoch's last never stops where it doesn't wait: it acknowledges where it has entered an epoch, and changes nothing.
abbrev pub HalvesGoOn : Type 0 → Type 0
HalvesGoOn Dir = (c : Fixed Dir) (st : Live Dir) (b : Block Dir) → ((epoch : ℕ) → active st.orchestrator ≡ Some epoch → b.height < last c.blocks_per_epoch epoch) → st.orchestrator.waiting ≡ None
    → ComesTo (λ (stop : NodeStop). ⊥) (λ half. (half.live ≡ st) × (half.answer ≡ answer_in (active st.orchestrator))) (takes_delivered c b st)

-- A NODE'S STEP stops by the faults of its reshare half alone; or it leaves the life that this half left, whose orchestrator waits for nothing.
abbrev pub NodeStepsLead : Type 0 → Type 0
NodeStepsLead Dir = (c : Fixed Dir) (st : Live Dir) (message : Message Dir) (ended : Ended NodeStop (Live Dir)) (old new : List Entry) → IsForm c → IsTakenIn c message st → IsLiveIn c st
    → IsActiveIn st → Said (on_devices (node_step c (event_of message) st)) ended old new
    → CameTo (IsFaultBy (λ fault. (h k : Held) × IsStepStop c st message h k fault)) (λ end. (h k : Held) × IsNextIn c st message h k end × IsActiveIn end) ended

-- .. and so it is over devices that tell.
abbrev pub NodeStepsLeadOver : Type 0 → Type 0
NodeStepsLeadOver Dir = (c : Fixed Dir) (st : Live Dir) (message : Message Dir) (ended : Ended NodeStop (Live Dir)) (w new : World) → IsForm c → IsTakenIn c message st → IsLiveIn c st
    → IsActiveIn st → EndsSo (node_step c (event_of message) st) ended w new
    → CameTo (IsFaultBy (IsStepStop c st message w.held (held_at_setup c message w.held)))
    (λ end. IsNextIn c st message w.held (held_at_setup c message w.held) end × IsActiveIn end × LeavesTaken c st message (held_at_setup c message w.held) new.held) ended
