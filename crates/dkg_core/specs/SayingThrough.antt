-- What is said in a life that passes through whole epochs: why each request is answered, and which share is told as committed.
use Rattle.std.specs.Prelude.{◌≡◌, ◌⊎◌, ◌++◌, ℕ, Bool, true, false, List, Option, Some, None, IsSomeAnd}
use Rattle.std.specs.List.{AllByRecursion}
use Rattle.dkg_ceremony.specs.declared.round.RoundParts.{RoundParts as Round}
use Rattle.dkg_ceremony.specs.Outcomes.{LogMap}
use Rattle.dkg_types.specs.Blocks.{Block}
use Rattle.dkg_types.specs.BlockCodes.{info_of}
use Rattle.dkg_infos.specs.declared.entry.Entry.{Entry}
use Rattle.dkg_infos.specs.declared.entry.Entry.TheVariants.{Answer, Log, Committed}
use Rattle.dkg_infos.specs.declared.entry.AnswerLine.TheVariants.{Available, Unavailable}
use Rattle.dkg_infos.specs.declared.entry.Why.TheVariants.{Finished, Following}
use Rattle.dkg_infos.specs.declared.fault.Fault.{Fault}
use Rattle.dkg_infos.specs.declared.info.EpochInfo.{EpochInfo}
use Rattle.dkg_infos.specs.NextInfos.{next_info}
use Rattle.dkg_types.specs.PayloadCodes.{info_payload}
use Rattle.dkg_store.specs.Acts.{Held, Ended}
use Rattle.dkg_core.specs.Courses.{Course, Say, Do, CallOutside, Ask, Goes, Stops, on_devices}
use Rattle.dkg_core.specs.Said.{Said}
use Rattle.dkg_core.specs.Fixed.{Fixed}
use Rattle.dkg_core.specs.Live.{Live, Stage, Deals, Includes, Follows, Ends, Mail, Peer, NextLog, ReleaseLog, EpochInfoOf, Work, Message, Mailed, Finalized, Request, Job, is_last_height}
use Rattle.dkg_core.specs.Logs.{canonical, filled_by}
use Rattle.dkg_core.specs.Including.{Found, Lacks, payload_bytes, read_of}
use Rattle.dkg_core.specs.Core.{step}
use Rattle.dkg_core.specs.Laws.{IsAmong}
use Rattle.dkg_core.specs.Stepping.{given_itself, dealt_behind}
use Rattle.dkg_core.specs.Asked.{OfShares, ReadsShare, InRound, InEpoch}
use Rattle.dkg_core.specs.Through.{IsFormThrough, IsLiveThrough, IsTakenThrough, IsShareTaken, asked_by, verification_ended, included}

-- EACH LINE of a course, whatever is read
abbrev pub SaysSo : {Dir F S : Type 0} → (Entry → Type 0) → Course Dir F S → Type 0
SaysSo P (Say line course) = P line × SaysSo P course
SaysSo P (Do op course) = SaysSo P course
SaysSo P (CallOutside outer course) = SaysSo P course
SaysSo P (Ask f) = (h : Held) → SaysSo P (f h)
SaysSo P (Goes end) = Unit {0}
SaysSo P (Stops fault) = Unit {0}

-- the payload of the info that follows by some logs
abbrev pub payload_by : {Dir : Type 0} → Fixed Dir → Round → EpochInfo Dir → LogMap → Option (List ℕ)
payload_by c round info logs = Some (payload_bytes c (info_payload (next_info c.rules.outcome_of c.provided info round logs)))

-- a request of a queue, of this number
abbrev pub OfRequest : {Dir : Type 0} → Live Dir → (number : ℕ) → (Request Dir → Type 0) → Type 0
OfRequest {Dir} asked number P = (r : Request Dir) × IsAmong r asked.inclusion.queue × (r.number ≡ number) × P r

-- the answer of a final-block request
abbrev pub IsAskedAnswer : Entry → Type 0
IsAskedAnswer (Answer number answer) = Unit {0}
IsAskedAnswer line = ⊥

-- WHERE REQUESTS ARE READ in a life: one of them is answered by the info that follows the logs that were found, filled in for dealers without a recorded log; or its
-- ancestry lacks something.
abbrev pub IsReadAnswer : {Dir : Type 0} → Fixed Dir → Live Dir → Entry → Type 0
IsReadAnswer c asked (Answer number (Available payload)) =
    InEpoch asked (λ round info. OfRequest asked number (λ r. (found : LogMap) × (read_of c round asked r ≡ Found found) × (payload ≡ payload_by c round info (filled_by (canonical c asked) found))))
IsReadAnswer c asked (Answer number (Unavailable reason)) = InRound asked (λ round. OfRequest asked number (λ r. read_of c round asked r ≡ Lacks reason))
IsReadAnswer c asked line = ⊥

-- WHERE A VERIFICATION ENDS: the request that waits for it is answered by the info that follows its logs.
abbrev pub IsWaitedAnswer : {Dir : Type 0} → Fixed Dir → Live Dir → Entry → Type 0
IsWaitedAnswer c st (Answer number (Available payload)) =
    InEpoch st (λ round info. (job : Job) × (st.inclusion.running ≡ Some job) × (st.inclusion.waiter ≡ Some number) × (payload ≡ payload_by c round info job.logs))
IsWaitedAnswer c st line = ⊥

-- A PEER'S MESSAGE answers nothing, and commits nothing.
abbrev pub IsUnasked : Entry → Type 0
IsUnasked (Answer number answer) = ⊥
IsUnasked (Committed epoch share) = ⊥
IsUnasked line = Unit {0}

-- MAIL
abbrev pub IsMailEntry : {Dir : Type 0} → Fixed Dir → Live Dir → Mail Dir → Entry → Type 0
IsMailEntry c st (Peer from bytes) line = IsUnasked line
IsMailEntry c st (NextLog number height) line = (payload : Option (List ℕ)) × (line ≡ Log number payload)
IsMailEntry c st (ReleaseLog height) line = ⊥
IsMailEntry c st (EpochInfoOf number) line = IsReadAnswer c (asked_by (EpochInfoOf number) st) line ⊎ ((st.participation.stage ≡ Follows) × (line ≡ Answer number (Unavailable Following)))
IsMailEntry c st (Work handed) line = IsWaitedAnswer c st line ⊎ IsReadAnswer c (verification_ended st) line
IsMailEntry c st mail line = IsReadAnswer c (asked_by mail st) line

-- A BLOCK, by the stage of the life that it is applied to: while including, the last one answers what waits, and what is left of requests
abbrev pub IsFinalAnswer : {Dir : Type 0} → Fixed Dir → Live Dir → (last : Bool) → Block Dir → Entry → Type 0
IsFinalAnswer c st true b line = IsWaitedAnswer c st line ⊎ ((number : ℕ) × OfRequest st number (λ r. line ≡ Answer number (Unavailable Finished)))
IsFinalAnswer c st false b line = InRound st (λ round. IsReadAnswer c (included c round b st) line)

abbrev pub IsBlockAnswer : {Dir : Type 0} → Fixed Dir → Live Dir → Block Dir → Stage → Entry → Type 0
IsBlockAnswer c st b Deals line = IsReadAnswer c (dealt_behind c b (given_itself c st)) line
IsBlockAnswer c st b Includes line = IsFinalAnswer c st (is_last_height c b.height) b line
IsBlockAnswer c st b Follows line = ⊥
IsBlockAnswer c st b Ends line = ⊥

-- .. and a commit that it tells is that of the carried info, with the share that is taken
abbrev pub IsBlockLineThrough : {Dir : Type 0} → Fixed Dir → OfShares → Live Dir → Block Dir → Entry → Type 0
IsBlockLineThrough c stored st b (Answer number answer) = IsBlockAnswer c st b st.participation.stage (Answer number answer)
IsBlockLineThrough c stored st b (Committed epoch share) =
    IsSomeAnd (info_of b.payload) (λ info. (info.epoch ≡ epoch) × ((h : Held) × IsShareTaken c stored st h info share st.participation.stage))
IsBlockLineThrough c stored st b line = Unit {0}

abbrev pub IsLineThrough : {Dir : Type 0} → Fixed Dir → OfShares → Live Dir → Message Dir → Entry → Type 0
IsLineThrough c stored st (Finalized b) line = IsBlockLineThrough c stored st b line
IsLineThrough c stored st (Mailed mail) line = IsMailEntry c st mail line

-- ANY STEP says such lines alone.
abbrev pub StepsSayThroughAt : {Dir : Type 0} → Fixed Dir → OfShares → Type 0
StepsSayThroughAt {Dir} c stored = (st : Live Dir) (message : Message Dir) (ended : Ended Fault (Live Dir)) (old new : List Entry) → IsFormThrough c → ReadsShare c stored None
    → IsTakenThrough c message st → IsLiveThrough c stored st → Said (on_devices (step c message st)) ended old new
    → (added : List Entry) × (new ≡ old ++ added) × AllByRecursion (IsLineThrough c stored st message) added

abbrev pub StepsSayThrough : Type 0 → Type 1
StepsSayThrough Dir = (c : Fixed Dir) (stored : OfShares) → StepsSayThroughAt c stored
