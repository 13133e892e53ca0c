-- An event of a request, or of the own log, touches no device.
use Rattle.std.proofs.Common.{◌≡◌, ℕ, zero, suc, Bool, true, false, nat_le, List, [], ◌∷◌, Option, Some, None, refl, sym, subst}
use Rattle.std.specs.Prelude.{◌+◌, ◌++◌, ◌^◌, ◌==◌, nat_lt, if◌then◌else◌, length, is_some, not, filter, option_map}
use Rattle.std.specs.Option.{option_map_or}
use Rattle.dkg_values.specs.Rising.{lookup}
use Rattle.dkg_ceremony.specs.declared.output.Output.{Output}
use Rattle.dkg_ceremony.specs.declared.round.RoundParts.{RoundParts as Round}
use Rattle.dkg_ceremony.specs.declared.signed_log.SignedDealerLog.{SignedDealerLog}
use Rattle.dkg_ceremony.specs.Outcomes.{LogMap}
use Rattle.dkg_infos.specs.declared.fault.Fault.{Fault}
use Rattle.dkg_infos.specs.declared.fault.Fault.TheVariants.{HeightRange, InvalidParticipants, DirectoryMismatch}
use Rattle.dkg_infos.specs.declared.fault.ParticipantsCause.TheVariants.{ProviderEmpty, ProviderAbove}
use Rattle.dkg_infos.specs.declared.info.EpochInfo.{EpochInfo}
use Rattle.dkg_infos.specs.NextInfos.{info_by}
use Rattle.dkg_store.specs.Acts.{Ended, went, stopped, broken}
use Rattle.dkg_core.specs.Courses.{Course, Goes, Stops, bind, under}
use Rattle.dkg_core.specs.Fixed.{Fixed, OneShot, has}
use Rattle.dkg_core.specs.Live.{Live, Waiting, NodeStop, Faulted, Stage, Deals, Includes, Follows, Ends, Inclusion, Request, Job, Verified, VerifiedLogs, Artifact, Mail, Peer, NextLog, ReleaseLog, EpochInfoOf, Feed, Over, Cancel, Work, Mailed, with_inclusion, with_queue, with_used}
use Rattle.dkg_core.specs.Logs.{canonical, filled_by}
use Rattle.dkg_core.specs.Setup.{looks, refused_in}
use Rattle.dkg_core.specs.Including as inc
use Rattle.dkg_core.specs.Including.{Fed, Need, Found, Lacks, Continuation, can_finish, is_need, job_for, read_of}
use Rattle.dkg_core.specs.Core.{step}
use Rattle.dkg_core.specs.Entering as half
use Rattle.dkg_core.specs.Node.{unless_once}
use Rattle.dkg_core.specs.Behind.{OnlySays}
use Rattle.dkg_core.specs.Laws.{IsOther}
use Rattle.dkg_core.specs.Endings.{CameTo}
use Rattle.dkg_laws.specs.Idle.{IsAskedEntry, MailsAreIdle}
use Rattle.dkg_core.proofs.Behind.{IfGoes, leaves_devices, only_behind, only_if, only_option, only_under}

module _ {Dir : Type 0} (c : Fixed Dir) (st : Live Dir) where
  abbrev with : Inclusion Dir → Live Dir
  with i = with_inclusion i st

  -- beside what the life has of requests nothing changes
  abbrev pub Beside : Live Dir → Type 0
  Beside end = end ≡ with end.inclusion

  abbrev Only : Course Dir Fault (Live Dir) → Type 0
  Only course = OnlySays IsAskedEntry Beside course

  abbrev GoesOn : Continuation Dir → Type 0
  GoesOn next = (made : Artifact Dir) (i : Inclusion Dir) → Only (next made (with i))

  -- a course that goes on from such a life
  behind : (course : Course Dir Fault (Live Dir)) (next : Live Dir → Course Dir Fault (Live Dir)) → Only course → ((i : Inclusion Dir) → Only (next (with i))) → Only (bind course next)
  behind course next only so = only_behind IsAskedEntry Beside Beside course next only (λ end is. subst (λ (x : Live Dir). Only (next x)) (sym is) (so end.inclusion))

  -- THE ARTIFACT

  in_directory : (info : EpochInfo Dir) (acts : Course Dir Fault (Live Dir)) → Only acts → Only (inc.with_directory c info acts)
  in_directory info acts only = only_if IsAskedEntry Beside (c.directories.matches info.directory (inc.info_peers info)) acts (Stops (DirectoryMismatch info.epoch)) only tt

  shared : (info : EpochInfo Dir) (found : Option Verified) (f : Option ℕ → Course Dir Fault (Live Dir)) → ((share : Option ℕ) → Only (f share)) → Only (inc.share_by c info found f)
  shared info (Some found) f each = each found.share
  shared info None f each = only_if IsAskedEntry Beside (has info.output.players c.me) (looks c (λ s. f (lookup info.epoch s.shares))) (f None) (λ h. each (lookup info.epoch (c.seen h).shares)) (each None)

  provided : (epoch : ℕ) (acts : Course Dir Fault (Live Dir)) → Only acts → Only (inc.with_provided c epoch acts)
  provided epoch acts only =
      let count = length (c.provided.participants epoch) in
      let few : Course Dir Fault (Live Dir) = if nat_lt c.limit count then Stops (InvalidParticipants (ProviderAbove count c.limit)) else acts in
      let some : Course Dir Fault (Live Dir) = if count == 0 then Stops (InvalidParticipants ProviderEmpty) else few in
      only_if IsAskedEntry Beside (nat_le (2 ^ 64) epoch) (Stops HeightRange) some tt
      (only_if IsAskedEntry Beside (count == 0) (Stops (InvalidParticipants ProviderEmpty)) few tt
      (only_if IsAskedEntry Beside (nat_lt c.limit count) (Stops (InvalidParticipants (ProviderAbove count c.limit))) acts tt only))

  keeps : (logs : LogMap) (next : Continuation Dir) → GoesOn next → GoesOn (inc.keeping_artifact logs next)
  keeps logs next so made i = so made (inc.with_cached logs made (with i)).inclusion

  once : (o : OneShot Dir) (output : Output) (share : Option ℕ) (i : Inclusion Dir) (next : Continuation Dir) → GoesOn next → Only (inc.oneshot_with c o output share (with i) next)
  once o output None i next so = tt
  once o output (Some share) i next so =
      in_directory (inc.oneshot_made o output) (next (record { info = Some (inc.oneshot_made o output); share = Some share }) (with i)) (so (record { info = Some (inc.oneshot_made o output); share = Some share }) i)

  derived : (o : Option (OneShot Dir)) (r : VerifiedLogs) (i : Inclusion Dir) (next : Continuation Dir) → GoesOn next → Only (inc.derives c o r (with i) next)
  derived (Some o) r i next so =
      only_option IsAskedEntry Beside (λ (found : Verified). inc.oneshot_with c o found.output found.share (with i) (inc.keeping_artifact r.logs next)) r.result
      (inc.keeping_artifact r.logs next (record { info = None; share = None }) (with i)) (λ found. once o found.output found.share i (inc.keeping_artifact r.logs next) (keeps r.logs next so))
      (keeps r.logs next so (record { info = None; share = None }) i)
  derived None r i next so =
      only_option IsAskedEntry Beside (λ (info : EpochInfo Dir). inc.derives_next c info r (with i) (inc.keeping_artifact r.logs next)) st.participation.current (Stops HeightRange)
      (λ info. let made : EpochInfo Dir = info_by c.provided info (option_map (λ (found : Verified). found.output) r.result) in
      provided (info.epoch + 2) (inc.share_by c info r.result (λ share. inc.with_directory c made (inc.keeping_artifact r.logs next (record { info = Some made; share = share }) (with i))))
      (shared info r.result (λ share. inc.with_directory c made (inc.keeping_artifact r.logs next (record { info = Some made; share = share }) (with i)))
      (λ share. in_directory made (inc.keeping_artifact r.logs next (record { info = Some made; share = share }) (with i)) (keeps r.logs next so (record { info = Some made; share = share }) i)))) tt

  by_artifact : (r : VerifiedLogs) (cached : Option (Artifact Dir)) (i : Inclusion Dir) (next : Continuation Dir) → GoesOn next → Only (inc.artifact_by c r cached (with i) next)
  by_artifact r (Some made) i next so = so made i
  by_artifact r None i next so = derived c.oneshot r i next so

  pub artifact : (r : VerifiedLogs) (i : Inclusion Dir) (next : Continuation Dir) → GoesOn next → Only (inc.artifact c r (with i) next)
  artifact r i next so = by_artifact r (inc.cached_for i.cached r.logs) i next so

  -- READING

  starts : (job : Job) (waiter refused : Option ℕ) (i : Inclusion Dir) → Only (inc.starts_unless job waiter refused (with i))
  starts job waiter (Some who) i = tt
  starts job waiter None i = refl

  asks_for : (round : Round) (request : ℕ) (logs : LogMap) (cached : Option (Artifact Dir)) (retained : Option VerifiedLogs) (i : Inclusion Dir) → Only (inc.asks_for_by c round request logs cached retained (with i))
  asks_for round request logs (Some made) retained i = (tt, refl)
  asks_for round request logs None (Some r) i = artifact r i (inc.answers_request c request) (λ made now. (tt, refl))
  asks_for round request logs None None i = starts (job_for c round logs (with i)) (Some request) (if can_finish c round logs (with i) then refused_in c round (with i) else None) i

  fed : (round : Round) (request : ℕ) (i : Inclusion Dir) (f : Fed) → Only (inc.fed c round request (with i) f)
  fed round request i Need = refl
  fed round request i (Lacks reason) = (tt, refl)
  fed round request i (Found logs) =
      let all = filled_by (canonical c (with i)) logs in asks_for round request all (inc.cached_for i.cached all) (inc.retained_for i.retained all) i

  reads : (round : Round) (next : Live Dir → Course Dir Fault (Live Dir)) (i : Inclusion Dir) (stage : Stage) (running : Option Job) (queue : List (Request Dir)) → ((now : Inclusion Dir) → Only (next (with now)))
      → Only (inc.reads_first_in c round next (with i) stage running queue)
  reads round next i Deals running queue so = refl
  reads round next i Includes None [] so = refl
  reads round next i Includes None (r ∷ rs) so =
      only_if IsAskedEntry Beside (is_need (read_of c round (with i) r)) (Goes (with i)) (bind (inc.fed c round r.number (with_queue rs (with i)) (read_of c round (with i) r)) next) refl
      (behind (inc.fed c round r.number (with_queue rs (with i)) (read_of c round (with i) r)) next (fed round r.number (record i { queue = rs }) (read_of c round (with i) r)) so)
  reads round next i Includes (Some job) queue so = refl
  reads round next i Follows running queue so = refl
  reads round next i Ends running queue so = refl

  advances : (most : ℕ) (i : Inclusion Dir) → Only (inc.advances c most (with i))
  advances zero i = refl
  advances (suc most) i =
      only_option IsAskedEntry Beside (λ (round : Round). inc.reads_first c round (λ now. inc.advances c most now) (with i)) st.participation.round (Goes (with i))
      (λ round. reads round (λ now. inc.advances c most now) i st.participation.stage i.running i.queue (λ now. advances most now)) refl

  pub advanced : (i : Inclusion Dir) → Only (inc.advanced c (with i))
  advanced i = advances (length i.queue) i

  -- THE EVENTS

  gives : (request height : ℕ) (found : Option SignedDealerLog) (i : Inclusion Dir) → Only (inc.gives_log c request height found (with i))
  gives request height None i = (tt, refl)
  gives request height (Some log) i = (tt, refl)

  releases : (height : ℕ) → Beside (inc.releases height st)
  releases height = either (inc.is_served_at height st)
    where
      either : (t : Bool) → (if t then with_inclusion (record st.inclusion { served = None }) st else st) ≡ with_inclusion (if t then with_inclusion (record st.inclusion { served = None }) st else st).inclusion st
      either true = refl
      either false = refl

  asks : (request : ℕ) (stage : Stage) → Only (inc.asks_in c request (with_used request st) stage)
  asks request Deals = refl
  asks request Includes = advanced (inc.queued request (with_used request st)).inclusion
  asks request Follows = (tt, refl)
  asks request Ends = (tt, refl)

  completes : (r : VerifiedLogs) (waiter : Option ℕ) → Only (inc.completes_in c r st waiter)
  completes r None = refl
  completes r (Some request) =
      artifact r st.inclusion (λ made now. bind (inc.answers_request c request made now) (λ now. Goes (inc.retains c r now))) (λ made i. (tt, refl))

  pub ends : (handed : Option VerifiedLogs) (running : Option Job) → Only (inc.ends_verifying_in c handed st running)
  ends handed None = refl
  ends handed (Some job) = completes (inc.job_result_of c handed job) st.inclusion.waiter

  pub mails : (mail : Mail Dir) → IsOther (Mailed mail) → Only (step c (Mailed mail) st)
  mails (Peer from bytes) other = absurd other
  mails (NextLog request height) other = gives request height (inc.served_now (with_used request st)) (with_used request st).inclusion
  mails (ReleaseLog height) other = releases height
  mails (EpochInfoOf request) other = asks request st.participation.stage
  mails (Feed request block) other = advanced (inc.changed request (λ r. if r.ended then r else record r { blocks = r.blocks ++ block ∷ [] }) st).inclusion
  mails (Over request) other = advanced (inc.changed request (λ r. record r { ended = true }) st).inclusion
  mails (Cancel request) other =
      only_if IsAskedEntry Beside (option_map_or (λ n. n == request) st.inclusion.waiter false) (Goes (with_inclusion (record st.inclusion { waiter = None }) st))
      (inc.advanced c (with_queue (filter (λ r. not (r.number == request)) st.inclusion.queue) st)) refl (advanced (record st.inclusion { queue = filter (λ r. not (r.number == request)) st.inclusion.queue }))
  mails (Work handed) other =
      only_if IsAskedEntry Beside (is_some st.inclusion.running) (bind (inc.ends_verifying c handed st) (λ now. inc.advanced c now)) (Goes st)
      (behind (inc.ends_verifying c handed st) (λ now. inc.advanced c now) (ends handed st.inclusion.running) (λ i. advanced i)) refl

  -- A NODE

  again : st.orchestrator.waiting ≡ None → (i : Inclusion Dir) → OnlySays IsAskedEntry Beside (unless_once c (half.asks_again c (with i)) (Goes (with i)))
  again none i =
      only_if IsAskedEntry Beside (is_some c.oneshot) (Goes (with i)) (half.asks_again c (with i)) refl
      (subst (λ (o : Option (Waiting Dir)). OnlySays IsAskedEntry Beside (option_map_or (λ w. bind (half.enters c w (with i)) (half.acked_late w.block)) o (Goes (with i)))) (sym none) refl)

  nodes : (mail : Mail Dir) → IsOther (Mailed mail) → st.orchestrator.waiting ≡ None → OnlySays IsAskedEntry Beside (bind (under Faulted (step c (Mailed mail) st)) (λ end. unless_once c (half.asks_again c end) (Goes end)))
  nodes mail other none =
      only_behind IsAskedEntry Beside Beside (under Faulted (step c (Mailed mail) st)) (λ end. unless_once c (half.asks_again c end) (Goes end))
      (only_under IsAskedEntry Beside Faulted (step c (Mailed mail) st) (mails mail other))
      (λ end is. subst (λ (x : Live Dir). OnlySays IsAskedEntry Beside (unless_once c (half.asks_again c x) (Goes x))) (sym is) (again none end.inclusion))

  came : (ended : Ended NodeStop (Live Dir)) → IfGoes Beside ended → CameTo (λ stop. Unit {0}) Beside ended
  came (went end) goes = goes
  came (stopped stop) goes = tt
  came (broken cause) goes = tt

pub mails_are_idle : {Dir : Type 0} → MailsAreIdle Dir
mails_are_idle c mail st ended w new other none run =
    let its = leaves_devices IsAskedEntry (Beside c st) (bind (under Faulted (step c (Mailed mail) st)) (λ end. unless_once c (half.asks_again c end) (Goes end))) ended w new (nodes c st mail other none) run in
    record { held = its.held; fuse = its.fuse; lines = its.lines; out = its.out; says = its.says; goes = came c st ended its.goes }
