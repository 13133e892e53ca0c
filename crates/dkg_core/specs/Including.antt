-- Inclusion: log requests, final-block requests, and one scan or one verification at a time.
use Rattle.std.specs.Prelude.{ℕ, zero, suc, Bool, true, false, not, List, [], ◌∷◌, ◌++◌, ◌+◌, ◌-◌, ◌^◌, ◌==◌, ◌&&◌, nat_lt, nat_le, length, filter, map, Option, Some, None, is_some, is_none, option_map, option_and_then, Result, Ok, Err, if◌then◌else◌}
use Rattle.std.specs.Option.{option_map_or}
use Rattle.std.specs.Str.{bytes_eq}
use Rattle.dkg_values.specs.Rising.{lookup, with_pair}
use Rattle.dkg_ceremony.specs.declared.finish.FinishError.{FinishError}
use Rattle.dkg_ceremony.specs.declared.output.Output.{Output}
use Rattle.dkg_ceremony.specs.declared.round.RoundParts.{RoundParts as Round}
use Rattle.dkg_ceremony.specs.declared.signed_log.SignedDealerLog.{SignedDealerLog}
use Rattle.dkg_ceremony.specs.Outcomes.{LogMap}
use Rattle.dkg_ceremony.specs.Schedule.{midpoint, last}
use Rattle.dkg_types.specs.Blocks.{Block}
use Rattle.dkg_infos.specs.declared.entry.Entry.TheVariants.{Log, Answer}
use Rattle.dkg_infos.specs.declared.entry.AnswerLine.TheVariants.{Available, Unavailable}
use Rattle.dkg_infos.specs.declared.entry.Why.{Why}
use Rattle.dkg_infos.specs.declared.entry.Why.TheVariants.{Short, WrongHeight, Unlinked, Detached, Following, Terminal}
use Rattle.dkg_infos.specs.declared.fault.Fault.{Fault}
use Rattle.dkg_infos.specs.declared.fault.Fault.TheVariants.{HeightRange, InvalidParticipants, DirectoryMismatch, LocalState}
use Rattle.dkg_infos.specs.declared.fault.LocalCause.TheVariants.{NoShare, StoredDealing}
use Rattle.dkg_infos.specs.declared.fault.ParticipantsCause.TheVariants.{ProviderEmpty, ProviderAbove}
use Rattle.dkg_infos.specs.declared.info.EpochInfo.{EpochInfo}
use Rattle.dkg_types.specs.declared.payload.Payload.{Payload}
use Rattle.dkg_infos.specs.declared.outcome.EpochOutcome.TheVariants.{Success}
use Rattle.dkg_infos.specs.InfoCodes.{peers_of}
use Rattle.dkg_infos.specs.NextInfos.{info_by, info_with}
use Rattle.dkg_types.specs.PayloadCodes.{payload_spelling, its_log, log_payload, info_payload}
use Rattle.dkg_core.specs.Courses.{Course, Say, Goes, Stops, bind}
use Rattle.dkg_core.specs.Fixed.{Fixed, OneShot, has}
use Rattle.dkg_core.specs.Live.{Live, Stage, Deals, Includes, Follows, Ends, Request, Dealings, Job, Verified, VerifiedLogs, Artifact, Cached, GaveLog, GaveInfo, GaveNone, records_of_epoch, with_inclusion, with_queue, with_used, with_told}
use Rattle.dkg_core.specs.Logs.{canonical, is_accepted, filled_by}
use Rattle.dkg_core.specs.Same.{same_logs, same_round}
use Rattle.dkg_core.specs.Setup.{looks, is_lost, refused_in}
use Rattle.dkg_core.specs.Dealing.{with_round}

-- THE OWN LOG

abbrev pub payload_bytes : {Dir : Type 0} → Fixed Dir → Payload Dir → List ℕ
payload_bytes c payload = payload_spelling c.directories.spelling payload

abbrev pub own_log : {Dir : Type 0} → Live Dir → Option SignedDealerLog
own_log st = option_and_then (λ d. d.log) st.participation.dealer

-- The own log, where inclusion offers it and none counts as served.
abbrev pub served_now_in : {Dir : Type 0} → Live Dir → Stage → Option ℕ → Option SignedDealerLog
served_now_in st Includes None = own_log st
served_now_in st stage served = None

abbrev pub served_now : {Dir : Type 0} → Live Dir → Option SignedDealerLog
served_now st = served_now_in st st.participation.stage st.inclusion.served

abbrev pub gives_log : {Dir : Type 0} → Fixed Dir → (request height : ℕ) → Option SignedDealerLog → Live Dir → Course Dir Fault (Live Dir)
gives_log c request height None st = Say (Log request None) (Goes (with_told request (GaveLog None) st))
gives_log c request height (Some log) st =
    Say (Log request (Some (payload_bytes c (log_payload log))))
    (Goes (with_told request (GaveLog (Some (log_payload log))) (with_inclusion (record st.inclusion { served = Some height }) st)))

-- A log request: what is served counts as served from then on.
abbrev pub serves_log : {Dir : Type 0} → Fixed Dir → (request height : ℕ) → Live Dir → Course Dir Fault (Live Dir)
serves_log c request height st = gives_log c request height (served_now st) (with_used request st)

abbrev pub is_served_at_in : {Dir : Type 0} → (height : ℕ) → Live Dir → Stage → Option ℕ → Bool
is_served_at_in height st Includes (Some served) = (served == height) && is_some (own_log st)
is_served_at_in height st stage served = false

abbrev pub is_served_at : {Dir : Type 0} → (height : ℕ) → Live Dir → Bool
is_served_at height st = is_served_at_in height st st.participation.stage st.inclusion.served

-- A release at the height for which the log was served.
abbrev pub releases : {Dir : Type 0} → (height : ℕ) → Live Dir → Live Dir
releases height st = if is_served_at height st then with_inclusion (record st.inclusion { served = None }) st else st

-- THE SCAN OF AN ANCESTRY, from the final block or its parent downward

pub data Fed : Type 0 where
  Need : Fed
  Found : LogMap → Fed
  Lacks : Why → Fed

abbrev pub final_height : {Dir : Type 0} → Fixed Dir → Live Dir → ℕ
final_height c st = last c.blocks_per_epoch st.participation.epoch

-- the last needed height: the midpoint, or the tip's successor where the tip is at or above it
abbrev pub lowest_needed : {Dir : Type 0} → Fixed Dir → Live Dir → ℕ
lowest_needed c st =
    let middle = midpoint c.blocks_per_epoch st.participation.epoch in
    option_map_or (λ t. if nat_lt t.height middle then middle else t.height + 1) st.tip middle

-- the digest that the tip has to have: the block's own, where it is the final block's parent and nothing above the tip is needed
abbrev pub request_link_of : {Dir : Type 0} → Fixed Dir → Live Dir → Block Dir → List ℕ
request_link_of c st b = if nat_lt b.height (lowest_needed c st) then b.digest else b.parent

-- The lowest link isn't the tip, where the tip stands right below the last needed height.
abbrev pub is_detached : {Dir : Type 0} → Fixed Dir → Live Dir → Block Dir → Bool
is_detached c st b = option_map_or (λ t. (t.height + 1 == lowest_needed c st) && not (bytes_eq t.digest (request_link_of c st b))) st.tip false

-- A lower log of a dealer takes the place of a higher one.
abbrev pub with_lower_log : {Dir : Type 0} → Fixed Dir → Round → Live Dir → Block Dir → LogMap → LogMap
with_lower_log c round st b found =
    if nat_lt b.height (lowest_needed c st) then found
    else option_map_or (λ log. if is_accepted c round log then with_pair (log.dealer, log.log) found else found) (option_and_then its_log b.payload) found

abbrev pub is_unlinked : {Dir : Type 0} → Option (Block Dir) → Block Dir → Bool
is_unlinked above b = option_map_or (λ a. not (bytes_eq b.digest a.parent)) above false

abbrev pub is_final_read : {Dir : Type 0} → Fixed Dir → Live Dir → Option (Block Dir) → Block Dir → Bool
is_final_read c st above b = is_none above && (b.height == final_height c st)

-- the height of the next block: one below that above it
abbrev pub next_height : {Dir : Type 0} → Fixed Dir → Live Dir → Option (Block Dir) → ℕ
next_height c st above = option_map_or (λ a. a.height - 1) above (final_height c st - 1)

-- above: the block read last. found: the logs of the blocks read.
abbrev pub scan : {Dir : Type 0} → Fixed Dir → Round → Live Dir → Option (Block Dir) → LogMap → List (Block Dir) → (ended : Bool) → Fed
scan c round st above found [] ended = if ended then Lacks Short else Need
scan c round st above found (b ∷ bs) ended =
    if is_final_read c st above b then scan c round st (Some b) found bs ended
    else if not (b.height == next_height c st above) then Lacks (WrongHeight (next_height c st above) b.height)
    else if is_unlinked above b then Lacks (Unlinked b.height)
    else if nat_lt (lowest_needed c st) b.height then scan c round st (Some b) (with_lower_log c round st b found) bs ended
    else if is_detached c st b then Lacks (Detached b.height)
    else Found (with_lower_log c round st b found)

-- A final block at height 0 has no ancestry.
abbrev pub read_of : {Dir : Type 0} → Fixed Dir → Round → Live Dir → Request Dir → Fed
read_of c round st r = if final_height c st == 0 then Found [] else scan c round st None [] r.blocks r.ended

-- RESULTS

-- this node has a player for these logs
abbrev pub can_finish : {Dir : Type 0} → Fixed Dir → Round → LogMap → Live Dir → Bool
can_finish c round logs st = has round.players c.me && not (is_lost c round (records_of_epoch round.number st.records.dealings) logs)

-- a verification of some logs, by this node's player where it has one
abbrev pub job_for : {Dir : Type 0} → Fixed Dir → Round → LogMap → Live Dir → Job
job_for c round logs st = record {
  round = round;
  player = if can_finish c round logs st then Some (record { me = c.me; dealings = records_of_epoch round.number st.records.dealings }) else None;
  logs = logs;
}

abbrev pub its_key : Job → Option ℕ
its_key job = option_map (λ p. p.me) job.player

abbrev pub of_player : Result (Option (Output × ℕ)) FinishError → Option Verified
of_player (Ok (Some found)) = Some (record { output = found.0; share = Some found.1 })
of_player (Ok None) = None
of_player (Err e) = None

abbrev pub of_output : Option Output → Option Verified
of_output output = option_map (λ o. record { output = o; share = None }) output

-- A player's result has its share, and any other the output alone.
abbrev pub result_by : {Dir : Type 0} → Fixed Dir → Round → Option Dealings → LogMap → Option Verified
result_by c round (Some player) logs = of_player (c.rules.finish_of round player.me player.dealings logs)
result_by c round None logs = of_output (c.rules.outcome_of round logs)

-- what this node itself finds
abbrev pub verified : {Dir : Type 0} → Fixed Dir → Job → VerifiedLogs
verified c job = record { round = job.round; me = its_key job; logs = job.logs; result = result_by c job.round job.player job.logs }

abbrev pub same_key : Option ℕ → Option ℕ → Bool
same_key None None = true
same_key (Some a) (Some b) = a == b
same_key a b = false

-- A result that is handed in is of a job: of its round, key and logs.
abbrev pub is_of_job : VerifiedLogs → Job → Bool
is_of_job handed job = same_round handed.round job.round && same_key handed.me (its_key job) && same_logs handed.logs job.logs

-- The result of a job: the one that is handed in, where it is of that job, else what this node finds.
abbrev pub job_result_of : {Dir : Type 0} → Fixed Dir → Option VerifiedLogs → Job → VerifiedLogs
job_result_of c None job = verified c job
job_result_of c (Some handed) job = if is_of_job handed job then handed else verified c job

abbrev pub retained_for : Option VerifiedLogs → LogMap → Option VerifiedLogs
retained_for retained logs = option_and_then (λ r. if same_logs r.logs logs then Some r else None) retained

abbrev pub cached_for : {Dir : Type 0} → Option (Cached Dir) → LogMap → Option (Artifact Dir)
cached_for cached logs = option_and_then (λ d. if same_logs d.logs logs then Some d.artifact else None) cached

-- THE ARTIFACT

-- how an artifact goes on
abbrev pub Continuation : Type 0 → Type 0
Continuation Dir = Artifact Dir → Live Dir → Course Dir Fault (Live Dir)

abbrev pub info_peers : {Dir : Type 0} → EpochInfo Dir → List ℕ
info_peers info = peers_of info.output.players info.players info.next_players

-- The directory has to be one of exactly the info's peers.
abbrev pub with_directory : {Dir : Type 0} → Fixed Dir → EpochInfo Dir → Course Dir Fault (Live Dir) → Course Dir Fault (Live Dir)
with_directory c info acts = if c.directories.matches info.directory (info_peers info) then acts else Stops (DirectoryMismatch info.epoch)

-- A failure carries the share stored for the epoch, where this node is a player of the output.
abbrev pub share_by : {Dir : Type 0} → Fixed Dir → EpochInfo Dir → Option Verified → (Option ℕ → Course Dir Fault (Live Dir)) → Course Dir Fault (Live Dir)
share_by c info (Some found) f = f found.share
share_by c info None f = if has info.output.players c.me then looks c (λ s. f (lookup info.epoch s.shares)) else f None

-- the provider's set for the epoch after the next
abbrev pub with_provided : {Dir : Type 0} → Fixed Dir → (epoch : ℕ) → Course Dir Fault (Live Dir) → Course Dir Fault (Live Dir)
with_provided c epoch acts =
    if nat_le (2 ^ 64) epoch then Stops HeightRange
    else if length (c.provided.participants epoch) == 0 then Stops (InvalidParticipants ProviderEmpty)
    else if nat_lt c.limit (length (c.provided.participants epoch)) then Stops (InvalidParticipants (ProviderAbove (length (c.provided.participants epoch)) c.limit))
    else acts

-- By a result: the info of the next epoch, and this node's share of it.
abbrev pub derives_next : {Dir : Type 0} → Fixed Dir → EpochInfo Dir → VerifiedLogs → Live Dir → Continuation Dir → Course Dir Fault (Live Dir)
derives_next c info r st next =
    let made = info_by c.provided info (option_map (λ found. found.output) r.result) in
    with_provided c (info.epoch + 2) (share_by c info r.result (λ share. with_directory c made (next (record { info = Some made; share = share }) st)))

abbrev pub oneshot_made : {Dir : Type 0} → OneShot Dir → Output → EpochInfo Dir
oneshot_made o output = info_with (λ peers. o.directory) Success 0 output o.participants []

abbrev pub oneshot_with : {Dir : Type 0} → Fixed Dir → OneShot Dir → Output → Option ℕ → Live Dir → Continuation Dir → Course Dir Fault (Live Dir)
oneshot_with c o output None st next = Stops (LocalState NoShare)
oneshot_with c o output (Some share) st next =
    with_directory c (oneshot_made o output) (next (record { info = Some (oneshot_made o output); share = Some share }) st)

-- Once alone: an info of epoch 0, or none without an outcome; an outcome needs this node's share.
abbrev pub derives_once : {Dir : Type 0} → Fixed Dir → OneShot Dir → VerifiedLogs → Live Dir → Continuation Dir → Course Dir Fault (Live Dir)
derives_once c o r st next = option_map_or (λ found. oneshot_with c o found.output found.share st next) r.result (next (record { info = None; share = None }) st)

abbrev pub with_cached : {Dir : Type 0} → LogMap → Artifact Dir → Live Dir → Live Dir
with_cached logs made st = with_inclusion (record st.inclusion { cached = Some (record { logs = logs; artifact = made }) }) st

abbrev pub keeping_artifact : {Dir : Type 0} → LogMap → Continuation Dir → Continuation Dir
keeping_artifact logs next made st = next made (with_cached logs made st)

abbrev pub derives : {Dir : Type 0} → Fixed Dir → Option (OneShot Dir) → VerifiedLogs → Live Dir → Continuation Dir → Course Dir Fault (Live Dir)
derives c (Some o) r st next = derives_once c o r st (keeping_artifact r.logs next)
derives c None r st next = option_map_or (λ info. derives_next c info r st (keeping_artifact r.logs next)) st.participation.current (Stops HeightRange)

-- The cached artifact of these logs, or that of this result, which is cached then. (After a setup there is a current info.)
abbrev pub artifact_by : {Dir : Type 0} → Fixed Dir → VerifiedLogs → (cached : Option (Artifact Dir)) → Live Dir → Continuation Dir → Course Dir Fault (Live Dir)
artifact_by c r (Some made) st next = next made st
artifact_by c r None st next = derives c c.oneshot r st next

abbrev pub artifact : {Dir : Type 0} → Fixed Dir → VerifiedLogs → Live Dir → Continuation Dir → Course Dir Fault (Live Dir)
artifact c r st next = artifact_by c r (cached_for st.inclusion.cached r.logs) st next

-- ANSWERS

abbrev pub answers_none : {Dir : Type 0} → (request : ℕ) → Why → Live Dir → Course Dir Fault (Live Dir)
answers_none request reason st = Say (Answer request (Unavailable reason)) (Goes (with_told request (GaveNone reason) st))

abbrev pub answers_request : {Dir : Type 0} → Fixed Dir → (request : ℕ) → Artifact Dir → Live Dir → Course Dir Fault (Live Dir)
answers_request c request made st =
    Say (Answer request (Available (option_map (λ info. payload_bytes c (info_payload info)) made.info)))
    (Goes (with_told request (GaveInfo (option_map info_payload made.info)) st))

abbrev pub verifying : {Dir : Type 0} → Job → (waiter : Option ℕ) → Live Dir → Live Dir
verifying job waiter st = with_inclusion (record st.inclusion { running = Some job; waiter = waiter }) st

abbrev pub starts_unless : {Dir : Type 0} → Job → (waiter refused : Option ℕ) → Live Dir → Course Dir Fault (Live Dir)
starts_unless job waiter (Some refused) st = Stops (LocalState (StoredDealing job.round.number refused))
starts_unless job waiter None st = Goes (verifying job waiter st)

-- A verification starts. A recorded dealing of its player that is refused is a fault.
abbrev pub starts_verifying : {Dir : Type 0} → Fixed Dir → Round → LogMap → (waiter : Option ℕ) → Live Dir → Course Dir Fault (Live Dir)
starts_verifying c round logs waiter st =
    starts_unless (job_for c round logs st) waiter (if can_finish c round logs st then refused_in c round st else None) st

-- The answer comes from the cache, from the retained result, or from a new verification.
abbrev pub asks_for_by : {Dir : Type 0} → Fixed Dir → Round → (request : ℕ) → LogMap → (cached : Option (Artifact Dir)) → (retained : Option VerifiedLogs) → Live Dir → Course Dir Fault (Live Dir)
asks_for_by c round request logs (Some made) retained st = answers_request c request made st
asks_for_by c round request logs None (Some r) st = artifact c r st (answers_request c request)
asks_for_by c round request logs None None st = starts_verifying c round logs (Some request) st

abbrev pub asks_logs : {Dir : Type 0} → Fixed Dir → Round → (request : ℕ) → LogMap → Live Dir → Course Dir Fault (Live Dir)
asks_logs c round request logs st = asks_for_by c round request logs (cached_for st.inclusion.cached logs) (retained_for st.inclusion.retained logs) st

-- Found logs fill in for dealers that have no recorded log.
abbrev pub fed : {Dir : Type 0} → Fixed Dir → Round → (request : ℕ) → Live Dir → Fed → Course Dir Fault (Live Dir)
fed c round request st Need = Goes st
fed c round request st (Lacks reason) = answers_none request reason st
fed c round request st (Found logs) = asks_logs c round request (filled_by (canonical c st) logs) st

abbrev pub is_need : Fed → Bool
is_need Need = true
is_need (Found logs) = false
is_need (Lacks reason) = false

-- While inclusion runs no verification, the first request is read; once it is answered, or a verification waits for it, so is the next.
abbrev pub reads_first_in : {Dir : Type 0} → Fixed Dir → Round → (Live Dir → Course Dir Fault (Live Dir)) → Live Dir → Stage → Option Job → List (Request Dir)
    → Course Dir Fault (Live Dir)
reads_first_in c round next st Includes None (r ∷ rs) =
    if is_need (read_of c round st r) then Goes st else bind (fed c round r.number (with_queue rs st) (read_of c round st r)) next
reads_first_in c round next st stage running queue = Goes st

abbrev pub reads_first : {Dir : Type 0} → Fixed Dir → Round → (Live Dir → Course Dir Fault (Live Dir)) → Live Dir → Course Dir Fault (Live Dir)
reads_first c round next st = reads_first_in c round next st st.participation.stage st.inclusion.running st.inclusion.queue

-- at most so many requests are read
abbrev pub advances : {Dir : Type 0} → Fixed Dir → (most : ℕ) → Live Dir → Course Dir Fault (Live Dir)
advances c zero st = Goes st
advances c (suc most) st = with_round st (λ round. reads_first c round (λ st. advances c most st) st)

abbrev pub advanced : {Dir : Type 0} → Fixed Dir → Live Dir → Course Dir Fault (Live Dir)
advanced c st = advances c (length st.inclusion.queue) st

-- THE EVENTS OF A REQUEST

abbrev pub queued : {Dir : Type 0} → (request : ℕ) → Live Dir → Live Dir
queued request st = with_queue (st.inclusion.queue ++ record { number = request; blocks = []; ended = false } ∷ []) st

-- A final-block request is queued while dealing, and read while including.
abbrev pub asks_in : {Dir : Type 0} → Fixed Dir → (request : ℕ) → Live Dir → Stage → Course Dir Fault (Live Dir)
asks_in c request st Deals = Goes (queued request st)
asks_in c request st Includes = advanced c (queued request st)
asks_in c request st Follows = answers_none request Following st
asks_in c request st Ends = answers_none request Terminal st

abbrev pub asks_request : {Dir : Type 0} → Fixed Dir → (request : ℕ) → Live Dir → Course Dir Fault (Live Dir)
asks_request c request st = asks_in c request (with_used request st) st.participation.stage

abbrev pub changed : {Dir : Type 0} → (request : ℕ) → (Request Dir → Request Dir) → Live Dir → Live Dir
changed request f st = with_queue (map (λ r. if r.number == request then f r else r) st.inclusion.queue) st

-- One block more of a request's ancestry, unless that ended.
abbrev pub feeds_request : {Dir : Type 0} → Fixed Dir → (request : ℕ) → Block Dir → Live Dir → Course Dir Fault (Live Dir)
feeds_request c request b st = advanced c (changed request (λ r. if r.ended then r else record r { blocks = r.blocks ++ b ∷ [] }) st)

abbrev pub ends_request : {Dir : Type 0} → Fixed Dir → (request : ℕ) → Live Dir → Course Dir Fault (Live Dir)
ends_request c request st = advanced c (changed request (λ r. record r { ended = true }) st)

-- A verification that a cancelled request started goes on, for nobody.
abbrev pub cancels : {Dir : Type 0} → Fixed Dir → (request : ℕ) → Live Dir → Course Dir Fault (Live Dir)
cancels c request st =
    if option_map_or (λ n. n == request) st.inclusion.waiter false then Goes (with_inclusion (record st.inclusion { waiter = None }) st)
    else advanced c (with_queue (filter (λ r. not (r.number == request)) st.inclusion.queue) st)

-- THE END OF A VERIFICATION

-- A result for the canonical logs is never replaced by one for others.
abbrev pub retains : {Dir : Type 0} → Fixed Dir → VerifiedLogs → Live Dir → Live Dir
retains c r st =
    let stays = is_some (retained_for st.inclusion.retained (canonical c st)) && not (same_logs r.logs (canonical c st)) in
    with_inclusion (record st.inclusion { running = None; waiter = None; retained = if stays then st.inclusion.retained else Some r }) st

abbrev pub completes_in : {Dir : Type 0} → Fixed Dir → VerifiedLogs → Live Dir → (waiter : Option ℕ) → Course Dir Fault (Live Dir)
completes_in c r st None = Goes (retains c r st)
completes_in c r st (Some request) = artifact c r st (λ made st. bind (answers_request c request made st) (λ st. Goes (retains c r st)))

abbrev pub completes : {Dir : Type 0} → Fixed Dir → VerifiedLogs → Live Dir → Course Dir Fault (Live Dir)
completes c r st = completes_in c r st st.inclusion.waiter

-- The running verification ends, if there is one: by a result that is handed in, or by this node's own.
abbrev pub ends_verifying_in : {Dir : Type 0} → Fixed Dir → Option VerifiedLogs → Live Dir → Option Job → Course Dir Fault (Live Dir)
ends_verifying_in c handed st None = Goes st
ends_verifying_in c handed st (Some job) = completes c (job_result_of c handed job) st

abbrev pub ends_verifying : {Dir : Type 0} → Fixed Dir → Option VerifiedLogs → Live Dir → Course Dir Fault (Live Dir)
ends_verifying c handed st = ends_verifying_in c handed st st.inclusion.running

-- Where none runs, what is handed in is dropped.
abbrev pub works : {Dir : Type 0} → Fixed Dir → Option VerifiedLogs → Live Dir → Course Dir Fault (Live Dir)
works c handed st = if is_some st.inclusion.running then bind (ends_verifying c handed st) (λ st. advanced c st) else Goes st
