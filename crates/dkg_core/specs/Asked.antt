-- What a life has of requests, verifications and artifacts, and what stops it where it reads a request.
use Rattle.std.specs.Prelude.{◌≡◌, ◌<◌, ◌≤◌, ◌+◌, ◌++◌, ◌^◌, ℕ, Bool, true, false, List, [], ◌∷◌, length, Option, Some, None, IsSomeAnd, is_some, if◌then◌else◌, option_map, Ok}
use Rattle.dkg_values.specs.Rising.{lookup}
use Rattle.dkg_ceremony.specs.declared.output.Output.{Output}
use Rattle.dkg_ceremony.specs.declared.round.RoundParts.{RoundParts as Round}
use Rattle.dkg_ceremony.specs.Outcomes.{LogMap}
use Rattle.dkg_infos.specs.declared.fault.Fault.{Fault}
use Rattle.dkg_infos.specs.declared.fault.Fault.TheVariants.{HeightRange, InvalidParticipants, DirectoryMismatch, LocalState}
use Rattle.dkg_infos.specs.declared.fault.LocalCause.TheVariants.{StoredDealing}
use Rattle.dkg_infos.specs.declared.fault.ParticipantsCause.TheVariants.{ProviderEmpty, ProviderAbove}
use Rattle.dkg_infos.specs.declared.info.EpochInfo.{EpochInfo}
use Rattle.dkg_infos.specs.NextInfos.{next_info}
use Rattle.dkg_store.specs.Acts.{Held}
use Rattle.dkg_core.specs.Fixed.{Fixed, has}
use Rattle.dkg_core.specs.Live.{Live, Includes, Follows, Inclusion, Request, Job, Verified, VerifiedLogs, Artifact, Cached, with_inclusion}
use Rattle.dkg_core.specs.Setup.{refused_in}
use Rattle.dkg_core.specs.Logs.{canonical, filled_by}
use Rattle.dkg_core.specs.Including.{Found, is_need, read_of, can_finish, job_for, cached_for, retained_for, info_peers, artifact, advanced, Continuation}
use Rattle.dkg_core.specs.Laws.{IsAmong}
use Rattle.dkg_core.specs.Endings.{validity}
use Rattle.dkg_core.specs.Forms.{IsForm, ComesOver, FindsHeld, round_for}

-- RESULTS AND ARTIFACTS

-- what is said of an epoch and of the share that is read of it
abbrev pub OfShares : Type 1
OfShares = ℕ → Option ℕ → Type 0

-- whatever is read
abbrev pub read_somewhere : {Dir : Type 0} → Fixed Dir → OfShares
read_somewhere c epoch share = (h : Held) × (share ≡ lookup epoch (c.seen h).shares)

-- The read of an epoch's share finds what is said of it.
abbrev pub ReadsShare : {Dir : Type 0} → Fixed Dir → OfShares → Option Held → Type 0
ReadsShare c stored devices = (h : Held) (epoch : ℕ) → FindsHeld devices h → stored epoch (lookup epoch (c.seen h).shares)

-- The epoch after the next is in range, and the provider names somebody for it, and not too many.
pub record IsProvided {Dir : Type 0} (c : Fixed Dir) (info : EpochInfo Dir) : Type 0 where
  pub in_range : info.epoch + 2 < 2 ^ 64
  pub some : 1 ≤ length (c.provided.participants (info.epoch + 2))
  pub in_bound : length (c.provided.participants (info.epoch + 2)) ≤ c.limit

-- What an artifact is, of some logs of the epoch: the info that follows, whose directory is one of its peers. Its share fits the outcome, and is there where this node
-- has a player for the logs (plays); or it is what is stored and carried on.
pub record IsArtifactOf {Dir : Type 0} (c : Fixed Dir) (stored : OfShares) (round : Round) (info : EpochInfo Dir) (plays : Bool) (logs : LogMap) (made : Artifact Dir) : Type 0 where
  pub provided : IsProvided c info
  pub info_is : made.info ≡ Some (next_info c.rules.outcome_of c.provided info round logs)
  pub matched : (its : EpochInfo Dir) → made.info ≡ Some its → c.directories.matches its.directory (info_peers its) ≡ true
  pub success : (output : Output) → c.rules.outcome_of round logs ≡ Some output
      → (is_some made.share ≡ plays) × ((share : ℕ) → made.share ≡ Some share → c.rules.partial_public_of output c.me ≡ Some (c.rules.share_public_of share))
  pub failure : c.rules.outcome_of round logs ≡ None
      → (has info.output.players c.me ≡ true → stored info.epoch made.share) × (has info.output.players c.me ≡ false → made.share ≡ None)

-- A result, whoever found it: it is of this node where that has a player for the logs, and has the outcome, and the player's share of it.
pub record IsResultOf {Dir : Type 0} (c : Fixed Dir) (round : Round) (plays : Bool) (r : VerifiedLogs) : Type 0 where
  pub me_is : r.me ≡ (if plays then Some c.me else None)
  pub outcome : option_map (λ v. v.output) r.result ≡ c.rules.outcome_of round r.logs
  pub shared : (v : Verified) → r.result ≡ Some v → is_some v.share ≡ plays
  pub fits : (v : Verified) (share : ℕ) → r.result ≡ Some v → v.share ≡ Some share → c.rules.partial_public_of v.output c.me ≡ Some (c.rules.share_public_of share)

-- .. in a life
abbrev pub IsArtifactIn : {Dir : Type 0} → Fixed Dir → OfShares → Round → EpochInfo Dir → Live Dir → LogMap → Artifact Dir → Type 0
IsArtifactIn c stored round info st logs made = IsArtifactOf c stored round info (can_finish c round logs st) logs made

abbrev pub IsResultIn : {Dir : Type 0} → Fixed Dir → Round → Live Dir → VerifiedLogs → Type 0
IsResultIn c round st r = IsResultOf c round (can_finish c round r.logs st) r

-- The job is what would be made of its logs now, and no recorded dealing of its player is refused.
abbrev pub IsJobIn : {Dir : Type 0} → Fixed Dir → Round → Live Dir → Job → Type 0
IsJobIn c round st job = (job ≡ job_for c round job.logs st) × (can_finish c round job.logs st ≡ true → refused_in c round st ≡ None)

-- P of the life's round, which there is
abbrev pub InRound : {Dir : Type 0} → Live Dir → (Round → Type 0) → Type 0
InRound st P = (round : Round) × (st.participation.round ≡ Some round) × P round

-- P of the round and the current info
abbrev pub InEpoch : {Dir : Type 0} → Live Dir → (Round → EpochInfo Dir → Type 0) → Type 0
InEpoch {Dir} st P = (round : Round) × (info : EpochInfo Dir) × (st.participation.round ≡ Some round) × (st.participation.current ≡ Some info) × P round info

-- WHAT A LIFE HAS OF REQUESTS

-- More than this is needed of the first request.
abbrev pub FirstNeeds : {Dir : Type 0} → Fixed Dir → Round → Live Dir → List (Request Dir) → Type 0
FirstNeeds c round st [] = Unit {0}
FirstNeeds c round st (r ∷ rs) = is_need (read_of c round st r) ≡ true

-- Before inclusion there is nothing but requests, and none while following; a request waits for a job that runs. The job, the retained result and the cached
-- artifact are what they would be now: dealings don't change while including.
pub record HasAsked {Dir : Type 0} (c : Fixed Dir) (stored : OfShares) (st : Live Dir) : Type 0 where
  pub served : (st.participation.stage ≡ Includes → ⊥) → st.inclusion.served ≡ None
  pub none : st.participation.stage ≡ Follows → st.inclusion.queue ≡ []
  pub early : (st.participation.stage ≡ Includes → ⊥) → (st.inclusion.running ≡ None) × (st.inclusion.retained ≡ None) × (st.inclusion.cached ≡ None)
  pub waits : st.inclusion.running ≡ None → st.inclusion.waiter ≡ None
  pub runs : (job : Job) → st.inclusion.running ≡ Some job → InRound st (λ round. IsJobIn c round st job)
  pub kept : (r : VerifiedLogs) → st.inclusion.retained ≡ Some r → InRound st (λ round. IsResultIn c round st r)
  pub made : (d : Cached Dir) → st.inclusion.cached ≡ Some d → InEpoch st (λ round info. IsArtifactIn c stored round info st d.logs d.artifact)

-- .. and while including, where no verification runs, the first request was read: it needs more.
pub record IsAsked {Dir : Type 0} (c : Fixed Dir) (stored : OfShares) (st : Live Dir) : Type 0 where
  pub has : HasAsked c stored st
  pub read : st.participation.stage ≡ Includes → st.inclusion.running ≡ None → (round : Round) → st.participation.round ≡ Some round → FirstNeeds c round st st.inclusion.queue

-- nothing of all that: only which requests were used, and what they were told
pub record IsEmptied {Dir : Type 0} (i : Inclusion Dir) : Type 0 where
  pub served : i.served ≡ None
  pub queue : i.queue ≡ []
  pub running : i.running ≡ None
  pub waiter : i.waiter ≡ None
  pub retained : i.retained ≡ None
  pub cached : i.cached ≡ None

-- The current info of a life that takes part is that of its epoch, is valid, and makes its round.
abbrev pub IsInformed : {Dir : Type 0} → Fixed Dir → Live Dir → Type 0
IsInformed c st =
    (round : Round) → st.participation.round ≡ Some round
    → IsSomeAnd st.participation.current (λ info. (info.epoch ≡ st.participation.epoch) × (validity c info ≡ Ok tt) × (round_for c st.participation.epoch info ≡ Ok round))

-- WHAT STOPS IT

-- What follows an info can't be made, by its cause: the epoch after the next lies out of range, the provider names nobody or too many for it, the directory
-- isn't one of the info's peers, or a recorded dealing is refused where this node's player verifies.
abbrev pub IsDeriveStop : {Dir : Type 0} → Fixed Dir → Round → EpochInfo Dir → Live Dir → Fault → Type 0
IsDeriveStop c round info st HeightRange = 2 ^ 64 ≤ info.epoch + 2
IsDeriveStop c round info st (InvalidParticipants ProviderEmpty) = length (c.provided.participants (info.epoch + 2)) ≡ 0
IsDeriveStop c round info st (InvalidParticipants (ProviderAbove count most)) =
    (count ≡ length (c.provided.participants (info.epoch + 2))) × (most ≡ c.limit) × (c.limit < count)
IsDeriveStop c round info st (DirectoryMismatch epoch) =
    (epoch ≡ info.epoch + 1)
    × ((logs : LogMap) × (c.directories.matches (next_info c.rules.outcome_of c.provided info round logs).directory (info_peers (next_info c.rules.outcome_of c.provided info round logs)) ≡ false))
IsDeriveStop c round info st (LocalState (StoredDealing number dealer)) =
    (number ≡ round.number) × ((logs : LogMap) × (can_finish c round logs st ≡ true)) × (refused_in c round st ≡ Some dealer)
IsDeriveStop c round info st fault = ⊥

-- .. where a life reads a request
abbrev pub IsAskStop : {Dir : Type 0} → Fixed Dir → Live Dir → Fault → Type 0
IsAskStop c st fault = InEpoch st (λ round info. IsDeriveStop c round info st fault)

-- THE ARTIFACT

-- The life in which an artifact of these logs is cached. Beside what is cached nothing has changed.
pub record IsMadeIn {Dir : Type 0} (c : Fixed Dir) (stored : OfShares) (round : Round) (info : EpochInfo Dir) (st : Live Dir) (logs : LogMap) (made : Artifact Dir) (at : Live Dir) : Type 0 where
  pub artifact : IsArtifactIn c stored round info st logs made
  pub same : at ≡ with_inclusion (record st.inclusion { cached = at.inclusion.cached }) st
  pub is : cached_for at.inclusion.cached logs ≡ Some made
  pub all : (d : Cached Dir) → at.inclusion.cached ≡ Some d → IsArtifactIn c stored round info st d.logs d.artifact

-- THE ARTIFACT OF A RESULT, cached or made now, is that of its logs, and a course goes on by it; or it can't be made. It reads once at most.
abbrev pub ArtifactsLead : Type 0 → Type 1
ArtifactsLead Dir = (c : Fixed Dir) (stored : OfShares) (round : Round) (info : EpochInfo Dir) (r : VerifiedLogs) (st : Live Dir) (next : Continuation Dir) (devices : Option Held)
    (stops : Fault → Type 0) (goes : Live Dir → Option Held → Type 0) → IsForm c → ReadsShare c stored devices → HasAsked c stored st → st.participation.round ≡ Some round
    → st.participation.current ≡ Some info → IsResultIn c round st r → ((fault : Fault) → IsDeriveStop c round info st fault → stops fault)
    → ((made : Artifact Dir) (at : Live Dir) → IsMadeIn c stored round info st r.logs made at → ComesOver stops goes (next made at) devices)
    → ComesOver stops goes (artifact c r st next) devices

-- READING REQUESTS

-- The verification of this job started for a request: its logs were found, and they had neither a cached artifact nor a retained result.
pub record IsStarted {Dir : Type 0} (c : Fixed Dir) (round : Round) (st end : Live Dir) (job : Job) : Type 0 where
  pub request : Request Dir
  pub among : IsAmong request st.inclusion.queue
  pub found : LogMap
  pub read : read_of c round st request ≡ Found found
  pub logs : job.logs ≡ filled_by (canonical c st) found
  pub waits : end.inclusion.waiter ≡ Some request.number
  pub uncached : cached_for end.inclusion.cached job.logs ≡ None
  pub unretained : retained_for end.inclusion.retained job.logs ≡ None

-- Requests were read, the first of them first: beside what the life has of them nothing has changed, and no log was served or released. While a verification
-- runs none is read.
pub record IsReadOn {Dir : Type 0} (c : Fixed Dir) (stored : OfShares) (st end : Live Dir) : Type 0 where
  pub asked : IsAsked c stored end
  pub same : end ≡ with_inclusion end.inclusion st
  pub served : end.inclusion.served ≡ st.inclusion.served
  pub used : end.inclusion.used ≡ st.inclusion.used
  pub retained : end.inclusion.retained ≡ st.inclusion.retained
  pub gone : List (Request Dir)
  pub rest : st.inclusion.queue ≡ gone ++ end.inclusion.queue
  pub busy : (job : Job) → st.inclusion.running ≡ Some job → end ≡ st
  pub starts : (job : Job) → st.inclusion.running ≡ None → end.inclusion.running ≡ Some job → InRound st (λ round. IsStarted c round st end job)

-- REQUESTS ARE READ until one needs more, none is left, or a verification runs. It stops where the next info can't be made alone, and touches no device: it
-- reads them by a retained result alone.
abbrev pub AdvancesLeadAt : {Dir : Type 0} → Fixed Dir → OfShares → Type 0
AdvancesLeadAt {Dir} c stored = (st : Live Dir) (devices : Option Held) → IsForm c
    → ((r : VerifiedLogs) → st.inclusion.retained ≡ Some r → ReadsShare c stored devices) → IsInformed c st → HasAsked c stored st
    → ComesOver (IsAskStop c st) (λ end left. (left ≡ devices) × IsReadOn c stored st end) (advanced c st) devices

abbrev pub AdvancesLead : Type 0 → Type 1
AdvancesLead Dir = (c : Fixed Dir) (stored : OfShares) → AdvancesLeadAt c stored
