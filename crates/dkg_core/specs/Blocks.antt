-- Delivered blocks: how they are judged, and what they do while dealing, including and following.
use Rattle.std.specs.Prelude.{ℕ, Bool, true, false, not, List, [], ◌∷◌, ◌+◌, ◌==◌, ◌&&◌, nat_lt, nat_le, Option, Some, None, is_some, is_none, option_map, option_and_then, if◌then◌else◌}
use Rattle.std.specs.Option.{option_map_or}
use Rattle.std.specs.FinMap.{put}
use Rattle.std.specs.Str.{bytes_eq}
use Rattle.dkg_values.specs.Rising.{lookup}
use Rattle.dkg_ceremony.specs.declared.dealer_log.DealerLog.{DealerLog}
use Rattle.dkg_ceremony.specs.declared.phase.Phase.{Phase}
use Rattle.dkg_ceremony.specs.declared.phase.Phase.TheVariants.{Early, Midpoint, Late}
use Rattle.dkg_ceremony.specs.declared.round.RoundParts.{RoundParts as Round}
use Rattle.dkg_ceremony.specs.declared.signed_log.SignedDealerLog.{SignedDealerLog}
use Rattle.dkg_ceremony.specs.Outcomes.{LogMap}
use Rattle.dkg_ceremony.specs.Schedule.{epoch_of, midpoint}
use Rattle.dkg_types.specs.Blocks.{Block}
use Rattle.dkg_types.specs.BlockCodes.{info_of}
use Rattle.dkg_infos.specs.declared.entry.Entry.TheVariants.{Completed}
use Rattle.dkg_infos.specs.declared.entry.Why.TheVariants.{Finished}
use Rattle.dkg_infos.specs.declared.fault.Fault.{Fault}
use Rattle.dkg_infos.specs.declared.fault.Fault.TheVariants.{ConflictingBlock, DetachedBlock, SkippedHeight, OutOfWindow, HeightRange, MissingEpochInfo, WrongEpoch, LocalState}
use Rattle.dkg_infos.specs.declared.fault.LocalCause.TheVariants.{OutcomeOmitted}
use Rattle.dkg_infos.specs.declared.info.EpochInfo.{EpochInfo}
use Rattle.dkg_types.specs.PayloadCodes.{its_log, info_payload}
use Rattle.dkg_core.specs.Courses.{Course, Say, Goes, Stops, bind}
use Rattle.dkg_secrets.specs.Keys.{key_cmp}
use Rattle.dkg_core.specs.Fixed.{Fixed}
use Rattle.dkg_core.specs.Sources.{Tip}
use Rattle.dkg_core.specs.Live.{Live, Dealer, Stage, Deals, Includes, Follows, Ends, Request, VerifiedLogs, Artifact, with_tip, with_participation, with_inclusion, with_queue, phase_of, is_last_height, recorded_at}
use Rattle.dkg_core.specs.Logs.{canonical, is_accepted, carried_log_event, recorded_log}
use Rattle.dkg_core.specs.Same.{same_info}
use Rattle.dkg_core.specs.Setup.{looks, is_past_range, begins_inclusion, seed_for, recovered_share, commits, registers, setup}
use Rattle.dkg_core.specs.Dealing.{appends, deals, with_round}
use Rattle.dkg_core.specs.Including.{advanced, answers_none, artifact, cached_for, retained_for, retains, starts_verifying, job_for, verified, ends_verifying, payload_bytes}

-- WHILE DEALING

-- An Early block offers the dealings. The one before the midpoint ends dealing, and what was queued is read.
abbrev pub deals_at : {Dir : Type 0} → Fixed Dir → Block Dir → Live Dir → Course Dir Fault (Live Dir)
deals_at c b st =
    bind (deals c st) (λ st.
    if b.height + 1 == midpoint c.blocks_per_epoch st.participation.epoch then advanced c (begins_inclusion c (with_tip b st)) else Goes (with_tip b st))

-- WHILE INCLUDING

abbrev pub unoffered : Dealer → Dealer
unoffered d = record d { log = None }

-- Its own log that was observed is offered no more.
abbrev pub without_own_log : {Dir : Type 0} → Fixed Dir → (dealer : ℕ) → Live Dir → Live Dir
without_own_log c dealer st = if dealer == c.me then with_participation (record st.participation { dealer = option_map unoffered st.participation.dealer }) st else st

abbrev pub with_log_at : {Dir : Type 0} → (epoch dealer height : ℕ) → DealerLog → Live Dir → Live Dir
with_log_at epoch dealer height log st = record st { records = record st.records { logs = put key_cmp (epoch, dealer) (recorded_log height log) st.records.logs } }

-- The first log of a dealer is recorded, with the height of its block.
abbrev pub records_log : {Dir : Type 0} → (epoch height : ℕ) → SignedDealerLog → Live Dir → Course Dir Fault (Live Dir)
records_log epoch height log st =
    if is_some (recorded_at st.records.logs epoch log.dealer) then Goes st
    else appends epoch (carried_log_event log.dealer height log.log) (Goes (with_log_at epoch log.dealer height log.log st))

-- A block's log is recorded where it counts in the round.
abbrev pub observes : {Dir : Type 0} → Fixed Dir → Round → Block Dir → Live Dir → Option SignedDealerLog → Course Dir Fault (Live Dir)
observes c round b st None = Goes st
observes c round b st (Some log) =
    if is_accepted c round log then bind (records_log round.number b.height log st) (λ st. Goes (without_own_log c log.dealer st)) else Goes st

-- A log that was served for a height counts as served no more once a block at or above that height is applied.
abbrev pub unserved : {Dir : Type 0} → (height : ℕ) → Live Dir → Live Dir
unserved height st =
    with_inclusion (record st.inclusion { served = option_and_then (λ served. if nat_le served height then None else Some served) st.inclusion.served }) st

-- The request in hand is read again over the new tip.
abbrev pub includes : {Dir : Type 0} → Fixed Dir → Round → Block Dir → Live Dir → Course Dir Fault (Live Dir)
includes c round b st = bind (observes c round b st (option_and_then its_log b.payload)) (λ st. advanced c (with_tip b (unserved b.height st)))

-- THE FINAL BLOCK

abbrev pub answers_all : {Dir : Type 0} → List (Request Dir) → Live Dir → Course Dir Fault (Live Dir)
answers_all [] st = Goes (with_queue [] st)
answers_all (r ∷ rs) st = bind (answers_none r.number Finished st) (λ st. answers_all rs st)

-- the artifact's share, where its info is the carried one
abbrev pub share_for : {Dir : Type 0} → Fixed Dir → EpochInfo Dir → Artifact Dir → Option ℕ
share_for c info made = if option_map_or (λ derived. same_info c.directories derived info) made.info false then made.share else None

-- The one-shot ceremony ends.
abbrev pub ends_once : {Dir : Type 0} → Fixed Dir → Option (EpochInfo Dir) → Live Dir → Course Dir Fault (Live Dir)
ends_once c outcome st = Say (Completed (option_map (λ info. payload_bytes c (info_payload info)) outcome)) (Goes (with_participation (record st.participation { stage = Ends }) st))

-- The tip, the requests that are left, and then the next setup, or the end of a one-shot ceremony.
abbrev pub passes_on : {Dir : Type 0} → Fixed Dir → Block Dir → (outcome : Option (EpochInfo Dir)) → Live Dir → Course Dir Fault (Live Dir)
passes_on c b outcome st =
    bind (answers_all st.inclusion.queue (with_tip b st)) (λ st. if is_some c.oneshot then ends_once c outcome st else setup c None st)

-- The carried info is committed, and registered in reshare mode.
abbrev pub takes_over : {Dir : Type 0} → Fixed Dir → Block Dir → EpochInfo Dir → Option ℕ → Live Dir → Course Dir Fault (Live Dir)
takes_over c b info share st =
    looks c (λ s. bind (commits info (seed_for c info.epoch (lookup info.epoch s.seeds)) share st) (λ st.
    bind (if is_some c.oneshot then Goes st else registers c info share st) (λ st. passes_on c b (Some info) st)))

-- the epoch of the info that a last block has to carry
abbrev pub expected_epoch : {Dir : Type 0} → Fixed Dir → (height : ℕ) → ℕ
expected_epoch c height = if is_some c.oneshot then 0 else epoch_of c.blocks_per_epoch height + 1

-- what a last block carries: an info of the epoch that is expected
abbrev pub carried : {Dir : Type 0} → Fixed Dir → Block Dir → (EpochInfo Dir → Course Dir Fault (Live Dir)) → Course Dir Fault (Live Dir)
carried c b f =
    option_map_or (λ info. if info.epoch == expected_epoch c b.height then f info else Stops (WrongEpoch (expected_epoch c b.height) info.epoch))
    (info_of b.payload) (Stops (MissingEpochInfo b.height))

-- A one-shot final block without a payload stands for no outcome.
abbrev pub concludes : {Dir : Type 0} → Fixed Dir → Block Dir → Artifact Dir → Live Dir → Course Dir Fault (Live Dir)
concludes c b made st =
    if is_some c.oneshot && is_none b.payload
    then (if is_some made.info then Stops (LocalState OutcomeOmitted) else passes_on c b None st)
    else carried c b (λ info. takes_over c b info (share_for c info made) st)

-- A verification that the final block needs starts and ends in its step.
abbrev pub verifies_now : {Dir : Type 0} → Fixed Dir → Round → Block Dir → LogMap → Live Dir → Course Dir Fault (Live Dir)
verifies_now c round b logs st =
    let found = verified c (job_for c round logs st) in
    bind (starts_verifying c round logs None st) (λ st. artifact c found (retains c found st) (concludes c b))

abbrev pub derives_at_block : {Dir : Type 0} → Fixed Dir → Round → Block Dir → LogMap → Option VerifiedLogs → Live Dir → Course Dir Fault (Live Dir)
derives_at_block c round b logs (Some r) st = artifact c r st (concludes c b)
derives_at_block c round b logs None st = verifies_now c round b logs st

-- how the final block goes on: by an artifact that was cached, else by that of a result that is retained or found now
abbrev pub concludes_by : {Dir : Type 0} → Fixed Dir → Round → Block Dir → LogMap → (before now : Option (Artifact Dir)) → Live Dir → Course Dir Fault (Live Dir)
concludes_by c round b logs (Some made) now st = concludes c b made st
concludes_by c round b logs None (Some made) st = concludes c b made st
concludes_by c round b logs None None st = derives_at_block c round b logs (retained_for st.inclusion.retained logs) st

-- The running verification ends. The artifact of the canonical logs is the one that was cached before it ended, else the one that is cached then, or
-- that of a result.
abbrev pub final_block : {Dir : Type 0} → Fixed Dir → Round → Block Dir → Live Dir → Course Dir Fault (Live Dir)
final_block c round b st =
    let logs = canonical c st in
    let before = cached_for st.inclusion.cached logs in
    bind (ends_verifying c None st) (λ st. concludes_by c round b logs before (cached_for st.inclusion.cached logs) st)

-- WHILE FOLLOWING

abbrev pub follows_into : {Dir : Type 0} → Fixed Dir → Block Dir → EpochInfo Dir → Live Dir → Course Dir Fault (Live Dir)
follows_into c b info st =
    looks c (λ s. bind (commits info (seed_for c info.epoch (lookup info.epoch s.seeds)) (recovered_share c s info) st) (λ st.
    bind (registers c info (recovered_share c s info) st) (λ st. setup c None (with_tip b st))))

-- At the final block the carried info is committed and registered, with the share that is recovered for it.
abbrev pub follows_at : {Dir : Type 0} → Fixed Dir → Block Dir → Live Dir → Course Dir Fault (Live Dir)
follows_at c b st = if is_last_height c b.height then carried c b (λ info. follows_into c b info st) else Goes (with_tip b st)

-- ANY BLOCK

abbrev pub applies_in : {Dir : Type 0} → Fixed Dir → Block Dir → Live Dir → Stage → Course Dir Fault (Live Dir)
applies_in c b st Deals = deals_at c b st
applies_in c b st Includes = with_round st (λ round. if is_last_height c b.height then final_block c round b st else includes c round b st)
applies_in c b st Follows = follows_at c b st
applies_in c b st Ends = Goes st

abbrev pub applies : {Dir : Type 0} → Fixed Dir → Block Dir → Live Dir → Course Dir Fault (Live Dir)
applies c b st = applies_in c b st st.participation.stage

abbrev pub is_early : Phase → Bool
is_early Early = true
is_early Midpoint = false
is_early Late = false

-- A life without a tip takes a block of the awaited epoch and window, and any while it follows.
abbrev pub is_in_window_in : {Dir : Type 0} → Fixed Dir → Block Dir → Live Dir → Stage → Bool
is_in_window_in c b st Deals = (epoch_of c.blocks_per_epoch b.height == st.participation.epoch) && is_early (phase_of c b.height)
is_in_window_in c b st Includes = (epoch_of c.blocks_per_epoch b.height == st.participation.epoch) && not (is_early (phase_of c b.height))
is_in_window_in c b st Follows = true
is_in_window_in c b st Ends = true

abbrev pub is_in_window : {Dir : Type 0} → Fixed Dir → Block Dir → Live Dir → Bool
is_in_window c b st = is_in_window_in c b st st.participation.stage

-- Over a tip: the same block again, or its child, is no fault; a block at or below the tip does nothing.
abbrev pub over_tip_in : {Dir : Type 0} → Fixed Dir → Block Dir → Live Dir → Option Tip → Course Dir Fault (Live Dir)
over_tip_in c b st None = if is_in_window c b st then applies c b st else Stops (OutOfWindow b.height)
over_tip_in c b st (Some t) =
    if (b.height == t.height) && not (bytes_eq b.digest t.digest) then Stops (ConflictingBlock b.height)
    else if nat_lt (t.height + 1) b.height then Stops (SkippedHeight (t.height + 1) b.height)
    else if (b.height == t.height + 1) && not (bytes_eq b.parent t.digest) then Stops (DetachedBlock b.height)
    else if nat_le b.height t.height then Goes st
    else applies c b st

abbrev pub over_tip : {Dir : Type 0} → Fixed Dir → Block Dir → Live Dir → Course Dir Fault (Live Dir)
over_tip c b st = over_tip_in c b st st.tip

-- A finished one-shot life looks at no block.
abbrev pub delivers_in : {Dir : Type 0} → Fixed Dir → Block Dir → Live Dir → Stage → Course Dir Fault (Live Dir)
delivers_in c b st Ends = Goes st
delivers_in c b st stage = if is_past_range c b.height then Stops HeightRange else over_tip c b st

abbrev pub delivers : {Dir : Type 0} → Fixed Dir → Block Dir → Live Dir → Course Dir Fault (Live Dir)
delivers c b st = delivers_in c b st st.participation.stage
