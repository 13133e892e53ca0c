-- The parts of the relation's inclusion that the functions here are, one by one.
use Rattle.std.specs.Prelude.{ℕ, true, List, [], ◌∷◌, ◌++◌, ◌+◌, ◌^◌, ◌==◌, ◌≡◌, nat_le, nat_lt, length, Option, Some, None, IsSome, IsSomeAnd, option_map, option_and_then, if◌then◌else◌}
use Rattle.dkg_values.specs.Rising.{lookup}
use Rattle.dkg_ceremony.specs.declared.output.Output.{Output}
use Rattle.dkg_ceremony.specs.declared.round.RoundParts.{RoundParts as Round}
use Rattle.dkg_ceremony.specs.Outcomes.{LogMap}
use Rattle.dkg_types.specs.Blocks.{Block}
use Rattle.dkg_infos.specs.NextInfos.{info_by}
use Rattle.dkg_types.specs.PayloadCodes.{info_payload}
use Rattle.dkg_infos.specs.declared.entry.Why.TheVariants.{Short}
use Rattle.dkg_infos.specs.declared.fault.Fault.{Fault}
use Rattle.dkg_infos.specs.declared.fault.Fault.TheVariants.{HeightRange, InvalidParticipants, DirectoryMismatch}
use Rattle.dkg_infos.specs.declared.fault.ParticipantsCause.TheVariants.{ProviderEmpty, ProviderAbove}
use Rattle.dkg_infos.specs.declared.info.EpochInfo.{EpochInfo}
use Rattle.dkg_infos.specs.declared.outcome.EpochOutcome.{EpochOutcome}
use Rattle.dkg_infos.specs.declared.outcome.EpochOutcome.TheVariants.{Success, Failure}
use Rattle.dkg_artifact.specs.Scans.{Check, feeds}
use Rattle.dkg_artifact.specs.Scans as scans
use Rattle.dkg_artifact.specs.declared.artifact.Artifact as artifact
use Rattle.dkg_artifact.specs.declared.scan.Fed as scan
use Rattle.dkg_artifact.specs.declared.scan.Fed.TheVariants as fed
use Rattle.dkg_artifact.specs.declared.verified.Verified as verified
use Rattle.dkg_core.specs.Blocks as blocks
use Rattle.dkg_core.specs.Courses.{Course, Goes, Stops, bind}
use Rattle.dkg_core.specs.Fixed.{Fixed, has}
use Rattle.dkg_core.specs.Including as including
use Rattle.dkg_core.specs.Including.{Fed, Need, Found, Lacks}
use Rattle.dkg_core.specs.Live as core
use Rattle.dkg_core.specs.Live.{Live, GaveInfo, with_inclusion, with_queue, with_told}
use Rattle.dkg_core.specs.Logs.{canonical}
use Rattle.dkg_core.specs.Dealing.{with_round}
use Rattle.dkg_core.specs.Setup.{looks}
use Rattle.dkg_verifying.specs.declared.inclusion.Hand.{Hand}
use Rattle.dkg_verifying.specs.declared.inclusion.Inclusion.{Inclusion}
use Rattle.dkg_life.specs.declared.life.Life.{Life}
use Rattle.dkg_life.specs.declared.life.Stage.TheVariants as stage
use Rattle.dkg_verifying.specs.InclusionOf.{cached_of}
use Rattle.dkg_life.specs.LiveOf.{awaited_of}

-- SCANS

-- what a scan answered, in the relation's words
abbrev pub fed_of : scan.Fed → Fed
fed_of fed.Need = Need
fed_of (fed.Logs found) = Found found
fed_of (fed.Unavailable why) = Lacks why

-- what a block is to the request in hand, where it has this number
abbrev pub feeds_hand : {C Dir Signer Cfg : Type 0} → Check → (request : ℕ) → Block Dir → (old : Inclusion C Dir Signer Cfg) → Option (Hand Dir Cfg) → scan.Fed × Inclusion C Dir Signer Cfg
feeds_hand check request b old None = (fed.Need, old)
feeds_hand check request b old (Some hand) =
    if hand.request.number == request
    then ((feeds check hand.scan b).0, record old { hand = Some (record hand { request = record hand.request { blocks = hand.request.blocks ++ b ∷ [] }; scan = (feeds check hand.scan b).1 }) })
    else (fed.Need, old)

abbrev pub FeedsHand : {C Dir Signer Cfg : Type 0} → Check → (request : ℕ) → Block Dir → (old new : Inclusion C Dir Signer Cfg) → scan.Fed → Type 0
FeedsHand check request b old new its = feeds_hand check request b old old.hand ≡ (its, new)

-- .. and the end of its ancestry
abbrev pub ends_hand : {C Dir Signer Cfg : Type 0} → (request : ℕ) → (old : Inclusion C Dir Signer Cfg) → Option (Hand Dir Cfg) → scan.Fed × Inclusion C Dir Signer Cfg
ends_hand request old None = (fed.Need, old)
ends_hand request old (Some hand) =
    if hand.request.number == request
    then (fed.Unavailable Short, record old { hand = Some (record hand { request = record hand.request { ended = true }; scan = scans.closes hand.scan }) })
    else (fed.Need, old)

abbrev pub EndsHand : {C Dir Signer Cfg : Type 0} → (request : ℕ) → (old new : Inclusion C Dir Signer Cfg) → scan.Fed → Type 0
EndsHand request old new its = ends_hand request old old.hand ≡ (its, new)

-- the request in hand, unless it has this number
abbrev pub unless_of : {Dir Cfg : Type 0} → (request : ℕ) → Option (Hand Dir Cfg) → Option (Hand Dir Cfg)
unless_of request None = None
unless_of request (Some hand) = if hand.request.number == request then None else Some hand

-- REQUESTS

abbrev pub on_fed : {Dir : Type 0} → Fixed Dir → Round → (request : ℕ) → Fed → Live Dir → Course Dir Fault (Live Dir)
on_fed c round request its st = including.fed c round request st its

abbrev pub behind_first : {A : Type 0} → List A → List A
behind_first [] = []
behind_first (r ∷ rs) = rs

-- The first request that waits is read.
abbrev pub reads_next : {Dir : Type 0} → Fixed Dir → Live Dir → Course Dir Fault (Live Dir)
reads_next c st = with_round st (λ round. including.reads_first c round (λ st. Goes st) st)

-- .. by what its scan answers, and then those behind it are
abbrev pub answers_first : {Dir : Type 0} → Fixed Dir → (request : ℕ) → Fed → Live Dir → Course Dir Fault (Live Dir)
answers_first c request its st = with_round st (λ round.
    bind (including.fed c round request (with_queue (behind_first st.inclusion.queue) st) its) (λ now. including.advances c (length (behind_first st.inclusion.queue)) now))

-- .. unless that needs more
abbrev pub goes_on : {Dir : Type 0} → Fixed Dir → (request : ℕ) → Fed → Live Dir → Course Dir Fault (Live Dir)
goes_on c request Need st = Goes st
goes_on c request (Found logs) st = answers_first c request (Found logs) st
goes_on c request (Lacks why) st = answers_first c request (Lacks why) st

-- what inclusion has, without the request that a scan has answered
abbrev pub behind_answer : {C Dir Signer Cfg : Type 0} → scan.Fed → Inclusion C Dir Signer Cfg → Inclusion C Dir Signer Cfg
behind_answer fed.Need old = old
behind_answer (fed.Logs found) old = record old { hand = None }
behind_answer (fed.Unavailable why) old = record old { hand = None }

-- The request in hand has this number, while requests are read.
pub record IsHandOf {C Dir Signer Cfg : Type 0} (life : Life Dir) (its : Inclusion C Dir Signer Cfg) (request : ℕ) : Type 0 where
  pub hand : IsSomeAnd its.hand (λ hand. hand.request.number ≡ request)
  pub includes : life.stage ≡ stage.Including
  pub round : IsSome life.round
  pub free : its.verification.running ≡ None

-- THE ARTIFACT

abbrev pub stops_by : {Dir F S : Type 0} → Option F → Course Dir F S → Course Dir F S
stops_by None acts = acts
stops_by (Some fault) acts = Stops fault

-- why there is no set of participants for the epoch after the one that follows
abbrev pub unprovided : (participants : ℕ → List ℕ) → (limit epoch : ℕ) → Option Fault
unprovided participants limit epoch =
    if nat_le (2 ^ 64) (epoch + 2) then Some HeightRange
    else if length (participants (epoch + 2)) == 0 then Some (InvalidParticipants ProviderEmpty)
    else if nat_lt limit (length (participants (epoch + 2))) then Some (InvalidParticipants (ProviderAbove (length (participants (epoch + 2))) limit))
    else None

-- the share that an artifact has: a result's own, or the one that is stored for the epoch
abbrev pub reads_share : {Dir : Type 0} → Fixed Dir → EpochInfo Dir → Option core.Verified → Course Dir Fault (Option ℕ)
reads_share c info (Some found) = Goes found.share
reads_share c info None = if has info.output.players c.me then looks c (λ s. Goes (lookup info.epoch s.shares)) else Goes None

abbrev pub ended_by : (carried : Output) → Option verified.Verified → EpochOutcome × Output
ended_by carried None = (Failure, carried)
ended_by carried (Some found) = (Success, found.output)

abbrev pub mismatch_of : {Dir : Type 0} → Fixed Dir → EpochInfo Dir → Option Fault
mismatch_of c info = if c.directories.matches info.directory (including.info_peers info) then None else Some (DirectoryMismatch info.epoch)

-- the artifact of a result, over the current info (`derives_next`)
abbrev pub derives_in : {Dir : Type 0} → Fixed Dir → EpochInfo Dir → core.VerifiedLogs → Course Dir Fault (core.Artifact Dir)
derives_in c info r =
    let made = info_by c.provided info (option_map (λ found. found.output) r.result) in
    stops_by (unprovided c.provided.participants c.limit info.epoch)
    (bind (reads_share c info r.result) (λ share. stops_by (mismatch_of c made) (Goes (record { info = Some made; share = share }))))

-- the life with this cache
abbrev pub caching : {Dir : Type 0} → Option (LogMap × artifact.Artifact Dir) → Live Dir → Live Dir
caching cache st = with_inclusion (record st.inclusion { cached = option_map cached_of cache }) st

abbrev pub EndsCaching : {Dir : Type 0} → Option (LogMap × artifact.Artifact Dir) → Live Dir → (Live Dir → Type 0) → Type 0
EndsCaching cache st P = P (caching cache st)

-- the request is told what the cached artifact has
abbrev pub telling : {Dir : Type 0} → (request : ℕ) → Live Dir → Live Dir
telling request st = with_told request (GaveInfo (option_and_then (λ d. option_map info_payload d.artifact.info) st.inclusion.cached)) st

-- THE FINAL BLOCK: the artifact, before it is compared with what the block carries

abbrev pub with_cached_in : {Dir : Type 0} → LogMap → Live Dir → core.Artifact Dir → Course Dir Fault (core.Artifact Dir × Live Dir)
with_cached_in logs st made = Goes (made, including.with_cached logs made st)

abbrev pub artifact_over : {Dir : Type 0} → Fixed Dir → core.VerifiedLogs → Live Dir → Option (core.Artifact Dir) → Option (EpochInfo Dir) → Course Dir Fault (core.Artifact Dir × Live Dir)
artifact_over c r st (Some made) current = Goes (made, st)
artifact_over c r st None None = Stops HeightRange
artifact_over c r st None (Some info) = bind (derives_in c info r) (with_cached_in r.logs st)

-- the artifact of a result: the one that is cached, or a new one, which is then
abbrev pub artifact_in : {Dir : Type 0} → Fixed Dir → core.VerifiedLogs → Live Dir → Course Dir Fault (core.Artifact Dir × Live Dir)
artifact_in c r st = artifact_over c r st (including.cached_for st.inclusion.cached r.logs) st.participation.current

-- A verification that the final block needs starts and ends in its step.
abbrev pub verifies_in : {Dir : Type 0} → Fixed Dir → Round → LogMap → Live Dir → Course Dir Fault (core.Artifact Dir × Live Dir)
verifies_in c round logs st =
    let found = including.verified c (including.job_for c round logs st) in
    bind (including.starts_verifying c round logs None st) (λ st. artifact_in c found (including.retains c found st))

abbrev pub derives_now_by : {Dir : Type 0} → Fixed Dir → Round → LogMap → Option core.VerifiedLogs → Live Dir → Course Dir Fault (core.Artifact Dir × Live Dir)
derives_now_by c round logs (Some r) st = artifact_in c r st
derives_now_by c round logs None st = verifies_in c round logs st

-- by the result that is retained for these logs, or one that is found now
abbrev pub derives_now : {Dir : Type 0} → Fixed Dir → Round → LogMap → Live Dir → Course Dir Fault (core.Artifact Dir × Live Dir)
derives_now c round logs st = derives_now_by c round logs (including.retained_for st.inclusion.retained logs) st

abbrev pub derives_by_in : {Dir : Type 0} → Fixed Dir → Round → LogMap → (before now : Option (core.Artifact Dir)) → Live Dir → Course Dir Fault (core.Artifact Dir × Live Dir)
derives_by_in c round logs (Some made) now st = Goes (made, st)
derives_by_in c round logs None (Some made) st = Goes (made, st)
derives_by_in c round logs None None st = derives_now c round logs st

-- by an artifact that was cached before, one that is cached now, or that of a result
abbrev pub derives_by : {Dir : Type 0} → Fixed Dir → Round → LogMap → (before : Option (core.Artifact Dir)) → Live Dir → Course Dir Fault (core.Artifact Dir × Live Dir)
derives_by c round logs before st = derives_by_in c round logs before (including.cached_for st.inclusion.cached logs) st

-- The running verification ends, and the artifact of the canonical logs is derived: `final_block` is this, and then `concludes`.
abbrev pub derives_final : {Dir : Type 0} → Fixed Dir → Round → Live Dir → Course Dir Fault (core.Artifact Dir × Live Dir)
derives_final c round st =
    let logs = canonical c st in
    let before = including.cached_for st.inclusion.cached logs in
    bind (including.ends_verifying c None st) (λ st. derives_by c round logs before st)

abbrev pub applies_included : {Dir : Type 0} → Fixed Dir → Block Dir → Live Dir → Course Dir Fault (Live Dir)
applies_included c b st = blocks.applies_in c b st core.Includes

-- The block is the one that is awaited.
abbrev pub IsNextBlock : {Dir : Type 0} → Life Dir → Block Dir → Type 0
IsNextBlock life b = b.height ≡ awaited_of life
