-- How steps end in a life that passes through whole epochs: it deals, includes, and by each epoch's last block the next one is set up. Each own fault has its exact
-- cause, and so has each state that is left.
use Rattle.std.specs.Prelude.{◌≡◌, ◌⊎◌, ◌+◌, ◌++◌, ◌==◌, ℕ, Bool, true, false, not, List, [], ◌∷◌, filter, Option, Some, None, is_some, IsSomeAnd, if◌then◌else◌, option_and_then, option_map}
use Rattle.std.specs.Option.{option_map_or}
use Rattle.dkg_values.specs.Rising.{lookup}
use Rattle.dkg_ceremony.specs.declared.round.RoundParts.{RoundParts as Round}
use Rattle.dkg_ceremony.specs.declared.signed_log.SignedDealerLog.{SignedDealerLog}
use Rattle.dkg_ceremony.specs.Schedule.{epoch_of, midpoint}
use Rattle.dkg_types.specs.Blocks.{Block}
use Rattle.dkg_types.specs.BlockCodes.{info_of}
use Rattle.dkg_infos.specs.declared.entry.Entry.{Entry}
use Rattle.dkg_infos.specs.declared.entry.Why.TheVariants.{Finished}
use Rattle.dkg_infos.specs.declared.fault.Fault.{Fault}
use Rattle.dkg_infos.specs.declared.fault.Fault.TheVariants.{HeightRange, MissingEpochInfo, WrongEpoch}
use Rattle.dkg_infos.specs.declared.info.EpochInfo.{EpochInfo}
use Rattle.dkg_types.specs.PayloadCodes.{its_log}
use Rattle.dkg_journal.specs.Operations.{Appends}
use Rattle.dkg_store.specs.Acts.{Held, World, Ended, OnDisk, held_after}
use Rattle.dkg_core.specs.Courses.{on_devices, EndsSo}
use Rattle.dkg_core.specs.Said.{Said}
use Rattle.dkg_core.specs.Fixed.{Fixed}
use Rattle.dkg_core.specs.Live.{Live, Stage, Deals, Includes, Follows, Ends, Mail, Peer, NextLog, ReleaseLog, EpochInfoOf, Feed, Over, Cancel, Work, Message, Mailed, Finalized, Request, Job, Artifact, GaveNone, awaited_height, recorded_at, is_last_height, with_tip, with_inclusion, with_queue, with_used}
use Rattle.dkg_core.specs.Logs.{canonical, is_accepted}
use Rattle.dkg_core.specs.Setup.{Standing, Uncommitted, WasCommitted, is_past_range, with_info}
use Rattle.dkg_core.specs.Including.{releases, queued, changed, is_of_job}
use Rattle.dkg_core.specs.Blocks.{without_own_log, with_log_at, unserved, share_for}
use Rattle.dkg_core.specs.Core.{no_inclusion, step}
use Rattle.dkg_core.specs.Laws.{IsAmong}
use Rattle.dkg_core.specs.Endings.{CameTo}
use Rattle.dkg_core.specs.Forms.{IsForm, IsLiveIn, Judged, Refusal, Passed, Applied, judged_block, ComesOver, FindsHeld, IsSetupFault, IsSeated, share_read, seed_read, committed_by, set_up_by}
use Rattle.dkg_core.specs.Stepping.{IsHeardBy, given_itself, NoOwnDiffers, IsDealingStop, dealt_behind, next_epoch, taken_over}
use Rattle.dkg_core.specs.Finishing.{IsFinishing}
use Rattle.dkg_core.specs.Asked.{OfShares, read_somewhere, IsArtifactIn, IsResultIn, InRound, InEpoch, IsAsked, IsEmptied, IsInformed, IsStarted, IsAskStop}

-- THE FORM AND ITS LIVES

-- The form of epochs, whose ceremony finishes its rounds.
pub record IsFormThrough {Dir : Type 0} (c : Fixed Dir) : Type 0 where
  pub form : IsForm c
  pub finishing : IsFinishing c

-- the life without what it has of requests
abbrev pub unasked : {Dir : Type 0} → Live Dir → Live Dir
unasked st = with_inclusion no_inclusion st

-- Beside its requests it is a life of the form of epochs. It knows by which info it takes part, and the first request that waits was read.
pub record IsLiveThrough {Dir : Type 0} (c : Fixed Dir) (stored : OfShares) (st : Live Dir) : Type 0 where
  pub stands : IsLiveIn c (unasked st)
  pub informed : IsInformed c st
  pub asked : IsAsked c stored st

-- What is handed in as the result of the running verification is one, whoever found it.
abbrev pub IsTakenThrough : {Dir : Type 0} → Fixed Dir → Message Dir → Live Dir → Type 0
IsTakenThrough c (Mailed (Work (Some r))) st = (job : Job) → st.inclusion.running ≡ Some job → is_of_job r job ≡ true → InRound st (λ round. IsResultIn c round st r)
IsTakenThrough c message st = Unit {0}

-- A SETUP

-- A SETUP BY AN INFO, of a life that awaits the epoch of its next height and has nothing of requests, stops by these faults alone, or leaves such a life and such
-- devices. It reads once at most, and leaves what the life has of requests.
abbrev pub SetupsComeThrough : Type 0 → Type 0
SetupsComeThrough Dir = (c : Fixed Dir) (standing : Standing) (info : EpochInfo Dir) (st : Live Dir) (devices : Option Held) → IsForm c
    → st.participation.epoch ≡ epoch_of c.blocks_per_epoch (awaited_height st) → IsEmptied st.inclusion
    → ComesOver (λ fault. (h : Held) × FindsHeld devices h × IsSetupFault c st.participation.epoch info (share_read c info h) (seed_read c info h) st fault)
    (λ end left. (h : Held) × FindsHeld devices h × IsSeated c standing info (share_read c info h) (seed_read c info h) (unasked st) (unasked end) × (end.inclusion ≡ st.inclusion)
    × (left ≡ option_map (set_up_by standing st.participation.epoch info (share_read c info h) (seed_read c info h)) devices)) (with_info c None standing info st) devices

-- MAIL

-- The requests of one life were read in the other, the first of them first. Beside what the life has of them nothing has changed, and a verification that ran runs on.
pub record IsReadFrom {Dir : Type 0} (c : Fixed Dir) (st end : Live Dir) : Type 0 where
  pub same : end ≡ with_inclusion end.inclusion st
  pub used : end.inclusion.used ≡ st.inclusion.used
  pub gone : List (Request Dir)
  pub rest : st.inclusion.queue ≡ gone ++ end.inclusion.queue
  pub busy : (job : Job) → st.inclusion.running ≡ Some job → (end.inclusion.running ≡ Some job) × (end.inclusion.waiter ≡ st.inclusion.waiter)
  pub starts : (job : Job) → st.inclusion.running ≡ None → end.inclusion.running ≡ Some job → InRound st (λ round. IsStarted c round st end job)

-- the life whose verification has ended
abbrev pub verification_ended : {Dir : Type 0} → Live Dir → Live Dir
verification_ended st = with_inclusion (record st.inclusion { running = None; waiter = None }) st

abbrev pub waits_for : {Dir : Type 0} → (request : ℕ) → Live Dir → Bool
waits_for request st = option_map_or (λ n. n == request) st.inclusion.waiter false

abbrev pub cancelled : {Dir : Type 0} → (request : ℕ) → Live Dir → Live Dir
cancelled request st =
    if waits_for request st then with_inclusion (record st.inclusion { waiter = None }) st
    else with_queue (filter (λ r. not (r.number == request)) st.inclusion.queue) st

-- the life with what an event says of its requests, in which they are read
abbrev pub asked_by : {Dir : Type 0} → Mail Dir → Live Dir → Live Dir
asked_by (Peer from bytes) st = st
asked_by (NextLog request height) st = with_used request st
asked_by (ReleaseLog height) st = releases height st
asked_by (EpochInfoOf request) st = queued request (with_used request st)
asked_by (Feed request b) st = changed request (λ r. if r.ended then r else record r { blocks = r.blocks ++ b ∷ [] }) st
asked_by (Over request) st = changed request (λ r. record r { ended = true }) st
asked_by (Cancel request) st = cancelled request st
asked_by (Work handed) st = verification_ended st

-- A BLOCK WHILE INCLUDING

-- what is left by a look at a block's log: it is recorded where none of its dealer is, with the block's height, and the own log is offered no more
abbrev pub observed_log : {Dir : Type 0} → Fixed Dir → Round → Block Dir → Live Dir → Option SignedDealerLog → Live Dir
observed_log c round b st None = st
observed_log c round b st (Some log) =
    if is_accepted c round log
    then without_own_log c log.dealer (if is_some (recorded_at st.records.logs round.number log.dealer) then st else with_log_at round.number log.dealer b.height log.log st)
    else st

abbrev pub observed : {Dir : Type 0} → Fixed Dir → Round → Block Dir → Live Dir → Live Dir
observed c round b st = observed_log c round b st (option_and_then its_log b.payload)

-- the life in which requests are read again
abbrev pub included : {Dir : Type 0} → Fixed Dir → Round → Block Dir → Live Dir → Live Dir
included c round b st = with_tip b (unserved b.height (observed c round b st))

-- AN EPOCH'S LAST BLOCK

-- The share that is committed with the carried info, where the devices hold h: of a life that follows the one that is recovered, and of one that includes that of the
-- artifact of the canonical logs, where its info is the carried one.
abbrev pub IsShareTaken : {Dir : Type 0} → Fixed Dir → OfShares → Live Dir → (h : Held) → EpochInfo Dir → (share : Option ℕ) → Stage → Type 0
IsShareTaken c stored st h info share Follows = share ≡ share_read c info h
IsShareTaken {Dir} c stored st h info share Includes =
    InEpoch st (λ round current. (made : Artifact Dir) × IsArtifactIn c stored round current st (canonical c st) made × (share ≡ share_for c info made))
IsShareTaken c stored st h info share Deals = ⊥
IsShareTaken c stored st h info share Ends = ⊥

-- what the devices hold behind the commit of an info with this share, where they held h
abbrev pub held_with : {Dir : Type 0} → Fixed Dir → EpochInfo Dir → (share : Option ℕ) → Held → Held
held_with c info share h = committed_by Uncommitted info share (seed_read c info h) h

-- The info that a last block carries is that of the epoch behind: it was committed, and set up. The devices held h at the commit and k at the setup.
pub record IsCarriedOn {Dir : Type 0} (c : Fixed Dir) (stored : OfShares) (b : Block Dir) (st : Live Dir) (devices : Option Held) : Type 0 where
  pub info : EpochInfo Dir
  pub carried : info_of b.payload ≡ Some info
  pub of_next : info.epoch ≡ next_epoch c b
  pub h : Held
  pub found : FindsHeld devices h
  pub share : Option ℕ
  pub shared : IsShareTaken c stored st h info share st.participation.stage
  pub k : Held
  pub between : FindsHeld (option_map (held_with c info share) devices) k

-- .. by which the life takes part in the next epoch. Nothing is left of requests but which numbers were used and what they were told: each that was still to be read is
-- told that the epoch has finished.
pub record IsPassedOn {Dir : Type 0} (c : Fixed Dir) (stored : OfShares) (b : Block Dir) (st : Live Dir) (devices : Option Held) (end : Live Dir) (left : Option Held) : Type 0 where
  pub on : IsCarriedOn c stored b st devices
  pub in_range : is_past_range c (b.height + 1) ≡ false
  pub seated : IsSeated c WasCommitted on.info (share_read c on.info on.k) (seed_read c on.info on.k) (unasked (taken_over c b on.info on.share st)) (unasked end)
  pub emptied : IsEmptied end.inclusion
  pub used : end.inclusion.used ≡ st.inclusion.used
  pub answered : (r : Request Dir) → IsAmong r st.inclusion.queue → lookup r.number end.inclusion.told ≡ Some (GaveNone Finished)
  pub leaves : left ≡ option_map (set_up_by WasCommitted (next_epoch c b) on.info (share_read c on.info on.k) (seed_read c on.info on.k)) (option_map (held_with c on.info on.share) devices)

-- what it stops by: there is no info, or one of another epoch, the next epoch lies out of range, or the setup stops
abbrev pub IsPassingStop : {Dir : Type 0} → Fixed Dir → OfShares → Block Dir → Live Dir → Option Held → Fault → Type 0
IsPassingStop c stored b st devices (MissingEpochInfo height) = (height ≡ b.height) × (info_of b.payload ≡ None)
IsPassingStop c stored b st devices (WrongEpoch expected got) =
    (expected ≡ next_epoch c b) × IsSomeAnd (info_of b.payload) (λ info. (got ≡ info.epoch) × (info.epoch ≡ next_epoch c b → ⊥))
IsPassingStop c stored b st devices HeightRange = IsCarriedOn c stored b st devices × (is_past_range c (b.height + 1) ≡ true)
IsPassingStop c stored b st devices fault =
    (on : IsCarriedOn c stored b st devices)
    × IsSetupFault c (next_epoch c b) on.info (share_read c on.info on.k) (seed_read c on.info on.k) (taken_over c b on.info on.share st) fault

-- ANY BLOCK

-- what an applied block stops a life by, by its stage: requests are read where there is one, and an epoch's last block needs the artifact in any case
abbrev pub IsAppliedStopThrough : {Dir : Type 0} → Fixed Dir → OfShares → Block Dir → Live Dir → Option Held → Stage → Fault → Type 0
IsAppliedStopThrough c stored b st devices Deals fault =
    IsDealingStop c st fault ⊎ ((b.height + 1 ≡ midpoint c.blocks_per_epoch st.participation.epoch) × (st.inclusion.queue ≡ [] → ⊥) × IsAskStop c (given_itself c st) fault)
IsAppliedStopThrough c stored b st devices Includes fault =
    (((is_last_height c b.height ≡ true) ⊎ (st.inclusion.queue ≡ [] → ⊥)) × IsAskStop c st fault) ⊎ ((is_last_height c b.height ≡ true) × IsPassingStop c stored b st devices fault)
IsAppliedStopThrough c stored b st devices Follows fault = (is_last_height c b.height ≡ true) × IsPassingStop c stored b st devices fault
IsAppliedStopThrough c stored b st devices Ends fault = ⊥

abbrev pub IsBlockStopThrough : {Dir : Type 0} → Fixed Dir → OfShares → Block Dir → Live Dir → Option Held → Judged → Fault → Type 0
IsBlockStopThrough c stored b st devices (Refusal refused) fault = fault ≡ refused
IsBlockStopThrough c stored b st devices Passed fault = ⊥
IsBlockStopThrough c stored b st devices Applied fault = IsAppliedStopThrough c stored b st devices st.participation.stage fault

-- what a block leaves of a life that follows
abbrev pub IsFollowedThrough : {Dir : Type 0} → Fixed Dir → OfShares → Block Dir → Live Dir → Option Held → (last : Bool) → Live Dir → Option Held → Type 0
IsFollowedThrough c stored b st devices true end left = IsPassedOn c stored b st devices end left
IsFollowedThrough c stored b st devices false end left = end ≡ with_tip b st

-- .. of one that includes: its log is looked at, and requests are read over the new tip
abbrev pub IsIncludedThrough : {Dir : Type 0} → Fixed Dir → OfShares → Block Dir → Live Dir → Option Held → (last : Bool) → Live Dir → Option Held → Type 0
IsIncludedThrough c stored b st devices true end left = IsPassedOn c stored b st devices end left
IsIncludedThrough c stored b st devices false end left = InRound st (λ round. IsReadFrom c (included c round b st) end)

-- .. and of any: while dealing the own dealing is given, and requests that came in are read as inclusion begins
abbrev pub IsAppliedThrough : {Dir : Type 0} → Fixed Dir → OfShares → Block Dir → Live Dir → Option Held → Stage → Live Dir → Option Held → Type 0
IsAppliedThrough c stored b st devices Deals end left = IsReadFrom c (dealt_behind c b (given_itself c st)) end
IsAppliedThrough c stored b st devices Includes end left = IsIncludedThrough c stored b st devices (is_last_height c b.height) end left
IsAppliedThrough c stored b st devices Follows end left = IsFollowedThrough c stored b st devices (is_last_height c b.height) end left
IsAppliedThrough c stored b st devices Ends end left = ⊥

abbrev pub IsBlockThrough : {Dir : Type 0} → Fixed Dir → OfShares → Block Dir → Live Dir → Option Held → Judged → Live Dir → Option Held → Type 0
IsBlockThrough c stored b st devices (Refusal refused) end left = ⊥
IsBlockThrough c stored b st devices Passed end left = (end ≡ st) × (left ≡ devices)
IsBlockThrough c stored b st devices Applied end left = IsAppliedThrough c stored b st devices st.participation.stage end left

-- A STEP

-- An event of a request is read while including: by it there is one, or one waits, or it is a new one.
abbrev pub WasAsked : {Dir : Type 0} → Mail Dir → Live Dir → Type 0
WasAsked (EpochInfoOf request) st = st.participation.stage ≡ Includes
WasAsked mail st = (st.participation.stage ≡ Includes) × ((st.inclusion.waiter ≡ None) × (st.inclusion.queue ≡ []) → ⊥)

-- what it stops by, over what the devices hold where that is known
abbrev pub IsStopThrough : {Dir : Type 0} → Fixed Dir → OfShares → Live Dir → Message Dir → Option Held → Fault → Type 0
IsStopThrough c stored st (Finalized b) devices fault = IsBlockStopThrough c stored b st devices (judged_block c b st) fault
IsStopThrough c stored st (Mailed (Peer from bytes)) devices fault = ⊥
IsStopThrough c stored st (Mailed (NextLog request height)) devices fault = ⊥
IsStopThrough c stored st (Mailed (ReleaseLog height)) devices fault = ⊥
IsStopThrough c stored st (Mailed mail) devices fault = WasAsked mail st × IsAskStop c st fault

-- .. and what it leaves, of the life and of the devices
abbrev pub IsEndThrough : {Dir : Type 0} → Fixed Dir → OfShares → Live Dir → Message Dir → Option Held → Live Dir → Option Held → Type 0
IsEndThrough c stored st (Finalized b) devices end left = IsBlockThrough c stored b st devices (judged_block c b st) end left
IsEndThrough c stored st (Mailed (Peer from bytes)) devices end left = IsHeardBy c st from end
IsEndThrough c stored st (Mailed mail) devices end left = IsReadFrom c (asked_by mail st) end × (left ≡ devices)

-- A block that is applied while dealing goes on only where no recorded dealing of this node is another than its dealer deals.
abbrev pub NoOwnDiffersAt : {Dir : Type 0} → Fixed Dir → Live Dir → Message Dir → Type 0
NoOwnDiffersAt c st (Finalized b) = judged_block c b st ≡ Applied → st.participation.stage ≡ Deals → NoOwnDiffers c st
NoOwnDiffersAt c st (Mailed mail) = Unit {0}

-- A life of the form is left.
pub record IsNextThrough {Dir : Type 0} (c : Fixed Dir) (stored : OfShares) (st : Live Dir) (message : Message Dir) (devices : Option Held) (end : Live Dir) (left : Option Held) : Type 0 where
  pub live : IsLiveThrough c stored end
  pub is : IsEndThrough c stored st message devices end left
  pub own : NoOwnDiffersAt c st message

-- what a read may find in a step that includes a block: what the devices hold, or that with a record more
abbrev pub FindsOn : Option Held → Held → Type 0
FindsOn devices h = FindsHeld devices h ⊎ ((epoch : ℕ) × (bytes : List ℕ) × FindsHeld (option_map (held_after (OnDisk (Appends (epoch, bytes)))) devices) h)

-- The read of an epoch's share finds what is said of it.
abbrev pub StepReads : {Dir : Type 0} → Fixed Dir → OfShares → Option Held → Type 0
StepReads c stored devices = (h : Held) (epoch : ℕ) → FindsOn devices h → stored epoch (lookup epoch (c.seen h).shares)

-- ANY STEP stops by these faults alone, or leaves such a life.
abbrev pub StepsComeThroughAt : {Dir : Type 0} → Fixed Dir → OfShares → Type 0
StepsComeThroughAt {Dir} c stored = (st : Live Dir) (message : Message Dir) (devices : Option Held) → IsFormThrough c → StepReads c stored devices
    → IsTakenThrough c message st → IsLiveThrough c stored st → ComesOver (IsStopThrough c stored st message devices) (IsNextThrough c stored st message devices) (step c message st) devices

abbrev pub StepsComeThrough : Type 0 → Type 1
StepsComeThrough Dir = (c : Fixed Dir) (stored : OfShares) → StepsComeThroughAt c stored

-- .. whatever is read
abbrev pub StepsLeadThrough : Type 0 → Type 0
StepsLeadThrough Dir = (c : Fixed Dir) (st : Live Dir) (message : Message Dir) (ended : Ended Fault (Live Dir)) (old new : List Entry) → IsFormThrough c → IsTakenThrough c message st
    → IsLiveThrough c (read_somewhere c) st → Said (on_devices (step c message st)) ended old new
    → CameTo (IsStopThrough c (read_somewhere c) st message None) (λ end. IsNextThrough c (read_somewhere c) st message None end None) ended

-- .. and over devices that tell
abbrev pub StepsLeadThroughOver : Type 0 → Type 1
StepsLeadThroughOver Dir = (c : Fixed Dir) (stored : OfShares) (st : Live Dir) (message : Message Dir) (ended : Ended Fault (Live Dir)) (w new : World) → IsFormThrough c
    → StepReads c stored (Some w.held) → IsTakenThrough c message st → IsLiveThrough c stored st → EndsSo (step c message st) ended w new
    → CameTo (IsStopThrough c stored st message (Some w.held)) (λ end. IsNextThrough c stored st message (Some w.held) end (Some new.held)) ended

-- WHAT GOES ON

-- no epoch's last block that is applied
abbrev pub PassesNothingOn : {Dir : Type 0} → Fixed Dir → Live Dir → Message Dir → Type 0
PassesNothingOn c st (Finalized b) = judged_block c b st ≡ Applied → is_last_height c b.height ≡ true → ⊥
PassesNothingOn c st (Mailed mail) = Unit {0}

-- The life awaits the same epoch, in the same round and seat, by the same info. Records and requests may be others, and so may the own dealer.
pub record IsStillThrough {Dir : Type 0} (st end : Live Dir) : Type 0 where
  pub epoch : end.participation.epoch ≡ st.participation.epoch
  pub round : end.participation.round ≡ st.participation.round
  pub seat : end.participation.seat ≡ st.participation.seat
  pub current : end.participation.current ≡ st.participation.current
  pub orchestrator : end.orchestrator ≡ st.orchestrator
  pub probe : end.probe ≡ st.probe

-- THE SAME LIFE GOES ON, where no epoch is passed on.
abbrev pub NextLivesStayThroughAt : {Dir : Type 0} → Fixed Dir → OfShares → Type 0
NextLivesStayThroughAt {Dir} c stored = (st : Live Dir) (message : Message Dir) (devices : Option Held) (end : Live Dir) (left : Option Held) → PassesNothingOn c st message
    → IsNextThrough c stored st message devices end left → IsStillThrough st end

abbrev pub NextLivesStayThrough : Type 0 → Type 1
NextLivesStayThrough Dir = (c : Fixed Dir) (stored : OfShares) → NextLivesStayThroughAt c stored
