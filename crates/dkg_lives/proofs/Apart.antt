-- No two requests of a life have one number: not two that wait in its queue, nor one of them and the one whose verification runs.
use Rattle.std.proofs.Common.{◌≡◌, inl, inr, ℕ, zero, suc, ◌+◌, ◌==◌, ◌++◌, List, [], ◌∷◌, Option, Some, None, Bool, true, false, refl, sym, ◌∙◌, ap, subst, length}
use Rattle.std.specs.Prelude.{⊤, ◌⊎◌, ◌^◌, filter, is_some, map, not, nat_le, nat_lt, IfSome, if◌then◌else◌, option_map, option_and_then}
use Rattle.std.specs.List.{AllByRecursion}
use Rattle.std.specs.Option.{option_map_or}
use Rattle.dkg_values.specs.Rising.{lookup}
use Rattle.dkg_ceremony.specs.Outcomes.{LogMap}
use Rattle.dkg_ceremony.specs.Schedule.{last, midpoint}
use Rattle.dkg_ceremony.specs.declared.round.RoundParts.{RoundParts as Round}
use Rattle.dkg_ceremony.specs.declared.signed_log.SignedDealerLog.{SignedDealerLog}
use Rattle.dkg_fence.specs.declared.fence.Waited.{Waited}
use Rattle.dkg_fence.specs.declared.fence.Waited.TheVariants as waits
use Rattle.dkg_fence.specs.Fence.{waited}
use Rattle.dkg_types.specs.BlockCodes.{info_of}
use Rattle.dkg_types.specs.Blocks.{Block}
use Rattle.dkg_infos.specs.NextInfos.{info_by}
use Rattle.dkg_types.specs.PayloadCodes.{its_log}
use Rattle.dkg_infos.specs.declared.directory.Unit as directory
use Rattle.dkg_infos.specs.declared.entry.Entry.TheVariants.{Acked, Entered}
use Rattle.dkg_infos.specs.declared.fault.Fault.{Fault}
use Rattle.dkg_infos.specs.declared.fault.Fault.TheVariants.{DirectoryMismatch, HeightRange, InvalidParticipants, MissingEpochInfo, SkippedHeight, WrongEpoch}
use Rattle.dkg_infos.specs.declared.fault.ParticipantsCause.TheVariants.{ProviderEmpty, ProviderAbove}
use Rattle.dkg_infos.specs.declared.info.EpochInfo.{EpochInfo}
use Rattle.dkg_types.specs.declared.scheme.SchemeInfo.{SchemeInfo}
use Rattle.dkg_core.specs.Behind.{event_of}
use Rattle.dkg_core.specs.Blocks as b
use Rattle.dkg_core.specs.Core.{step}
use Rattle.dkg_core.specs.Courses.{Course, Say, Do, CallOutside, Ask, Goes, Stops, Genesis, bind, under}
use Rattle.dkg_core.specs.Dealing as d
use Rattle.dkg_core.specs.Endings.{ComesTo}
use Rattle.dkg_core.specs.Entering as half
use Rattle.dkg_core.specs.Entering.{LifeAndAnswer, HalfAnswer, AcknowledgesBlock, Withholds, active, takes_delivered}
use Rattle.dkg_core.specs.Fixed.{Fixed, OneShot, has}
use Rattle.dkg_core.specs.Forms.{Applied, judged_block}
use Rattle.dkg_core.specs.Including as i
use Rattle.dkg_core.specs.Including.{Fed, Need, Found, Lacks, can_finish, cached_for, is_need, job_for, read_of, job_result_of, retained_for, retains}
use Rattle.dkg_core.specs.Live.{Artifact, Cancel, Deals, Ends, EpochInfoOf, Faulted, Feed, Finalized, Follows, Inclusion, Includes, Job, Live, Mail, Message, NextLog, NodeStop, Orchestrator, Over, Peer, ReleaseLog, Request, Mailed, Stage, VerifiedLogs, Verified, Waiting, Work, is_last_height, recorded_at, with_inclusion, with_participation, with_queue, with_tip, with_used}
use Rattle.dkg_core.specs.Logs.{canonical, filled_by, is_accepted, carried_log_event}
use Rattle.dkg_core.specs.Node.{node_step, unless_once}
use Rattle.dkg_core.specs.Setup as s
use Rattle.dkg_core.specs.Stepping.{IsDealingStop, given_itself}
use Rattle.dkg_core.proofs.Applied.{judged_is}
use Rattle.dkg_core.proofs.Counting.{comes_as, comes_if}
use Rattle.dkg_core.proofs.Splitting.{comes_behind}
use Rattle.dkg_core.proofs.StepDealing as dealing

abbrev U : Type 0
U = directory.Unit

-- THEIR NUMBERS

-- none of these requests has the number
abbrev pub LacksNumber : ℕ → List (Request U) → Type 0
LacksNumber number rs = AllByRecursion (λ r. r.number ≡ number → ⊥) rs

abbrev pub AreApart : List (Request U) → Type 0
AreApart [] = Unit {0}
AreApart (r ∷ rs) = LacksNumber r.number rs × AreApart rs

pub record IsApart (its : Inclusion U) : Type 0 where
  pub queue : AreApart its.queue
  pub waiter : IfSome its.waiter (λ number. LacksNumber number its.queue)

pub none_apart : (its : Inclusion U) → its.queue ≡ [] → its.waiter ≡ None → IsApart its
none_apart its queue waiter = record { queue = subst AreApart (sym queue) tt; waiter = subst (λ (o : Option ℕ). IfSome o (λ number. LacksNumber number its.queue)) (sym waiter) tt }

pub as_apart : (its other : Inclusion U) → other.queue ≡ its.queue → other.waiter ≡ its.waiter → IsApart its → IsApart other
as_apart its other queue waiter apart = record {
  queue = subst AreApart (sym queue) apart.queue;
  waiter = subst (λ (o : Option ℕ). IfSome o (λ number. LacksNumber number other.queue)) (sym waiter) (subst (λ (rs : List (Request U)). IfSome its.waiter (λ number. LacksNumber number rs)) (sym queue) apart.waiter);
}

pub if_some : (P Q : ℕ → Type 0) (o : Option ℕ) → ((number : ℕ) → P number → Q number) → IfSome o P → IfSome o Q
if_some P Q None so is = tt
if_some P Q (Some number) so is = so number is

-- one request more
module _ (r : Request U) where
  lacks_more : (number : ℕ) (rs : List (Request U)) → LacksNumber number rs → (r.number ≡ number → ⊥) → LacksNumber number (rs ++ r ∷ [])
  lacks_more number [] lacks other = (other, tt)
  lacks_more number (x ∷ rs) lacks other = (lacks.0, lacks_more number rs lacks.1 other)

  one_more : (rs : List (Request U)) → AreApart rs → LacksNumber r.number rs → AreApart (rs ++ r ∷ [])
  one_more [] apart lacks = (tt, tt)
  one_more (x ∷ rs) apart lacks = (lacks_more x.number rs apart.0 (λ same. lacks.0 (sym same)), one_more rs apart.1 lacks.1)

-- others of the same numbers
module _ (g : Request U → Request U) (same : (r : Request U) → (g r).number ≡ r.number) where
  pub lacks_as : (number : ℕ) (rs : List (Request U)) → LacksNumber number rs → LacksNumber number (map g rs)
  lacks_as number [] lacks = tt
  lacks_as number (r ∷ rs) lacks = ((λ e. lacks.0 (sym (same r) ∙ e)), lacks_as number rs lacks.1)

  pub apart_as : (rs : List (Request U)) → AreApart rs → AreApart (map g rs)
  apart_as [] apart = tt
  apart_as (r ∷ rs) apart = (subst (λ (number : ℕ). LacksNumber number (map g rs)) (sym (same r)) (lacks_as r.number rs apart.0), apart_as rs apart.1)

-- some of them
module _ (keep : Request U → Bool) where
  pub lacks_kept : (number : ℕ) (rs : List (Request U)) → LacksNumber number rs → LacksNumber number (filter keep rs)
  lacks_kept number [] lacks = tt
  lacks_kept number (r ∷ rs) lacks = by_test (keep r) (lacks_kept number rs lacks.1)
    where
      by_test : (t : Bool) → LacksNumber number (filter keep rs) → LacksNumber number (if t then r ∷ filter keep rs else filter keep rs)
      by_test true rest = (lacks.0, rest)
      by_test false rest = rest

  pub apart_kept : (rs : List (Request U)) → AreApart rs → AreApart (filter keep rs)
  apart_kept [] apart = tt
  apart_kept (r ∷ rs) apart = by_test (keep r) (lacks_kept r.number rs apart.0) (apart_kept rs apart.1)
    where
      by_test : (t : Bool) → LacksNumber r.number (filter keep rs) → AreApart (filter keep rs) → AreApart (if t then r ∷ filter keep rs else filter keep rs)
      by_test true lacks rest = (lacks, rest)
      by_test false lacks rest = rest

-- WHERE COURSES COME TO

abbrev Any : {F : Type 0} → F → Type 0
Any fault = ⊤

-- what holds of every end
module _ {F S : Type 0} (goes : S → Type 0) (so : (end : S) → goes end) where
  comes_so : (course : Course U F S) → ComesTo Any goes course
  comes_so (Say line course) = comes_so course
  comes_so (Do op course) = comes_so course
  comes_so (CallOutside outer course) = comes_so course
  comes_so (Ask f) = λ h. comes_so (f h)
  comes_so (Goes end) = so end
  comes_so (Stops fault) = tt

any_under : {F G S : Type 0} (goes : S → Type 0) (name : F → G) (course : Course U F S) → ComesTo Any goes course → ComesTo Any goes (under name course)
any_under goes name (Say line course) comes = any_under goes name course comes
any_under goes name (Do op course) comes = any_under goes name course comes
any_under goes name (CallOutside outer course) comes = any_under goes name course comes
any_under goes name (Ask f) comes = λ h. any_under goes name (f h) (comes h)
any_under goes name (Goes end) comes = comes
any_under goes name (Stops fault) comes = tt

module _ (c : Fixed U) (reshare : c.oneshot ≡ None) where
  abbrev EndsApart : Live U → Type 0
  EndsApart end = IsApart end.inclusion

  abbrev To : Course U Fault (Live U) → Type 0
  To course = ComesTo Any EndsApart course

  to_if : (t : Bool) (x y : Course U Fault (Live U)) → (t ≡ true → To x) → (t ≡ false → To y) → To (if t then x else y)
  to_if t x y one other = comes_if Any EndsApart t x y one other

  to_option : {A : Type 0} (f : A → Course U Fault (Live U)) (o : Option A) (none : Course U Fault (Live U)) → ((a : A) → o ≡ Some a → To (f a)) → To none → To (option_map_or f o none)
  to_option f None none some without = without
  to_option f (Some a) none some without = some a refl

  -- THE ARTIFACT
  module _ (r : VerifiedLogs) (st : Live U) (apart : IsApart st.inclusion) (next : Artifact U → Live U → Course U Fault (Live U)) (so : (made : Artifact U) (now : Live U) → IsApart now.inclusion → To (next made now)) where
    kept : (made : Artifact U) → To (next made (i.with_cached r.logs made st))
    kept made = so made (i.with_cached r.logs made st) (record { queue = apart.queue; waiter = apart.waiter })

    with_directory : (info made_info : EpochInfo U) (share : Option ℕ) → To (i.with_directory c made_info (i.keeping_artifact r.logs next (record { info = Some info; share = share }) st))
    with_directory info made_info share =
        to_if (c.directories.matches made_info.directory (i.info_peers made_info)) (i.keeping_artifact r.logs next (record { info = Some info; share = share }) st) (Stops (DirectoryMismatch made_info.epoch))
        (λ e. kept (record { info = Some info; share = share })) (λ e. tt)

    provided : (epoch : ℕ) (acts : Course U Fault (Live U)) → To acts → To (i.with_provided c epoch acts)
    provided epoch acts to =
        let count : ℕ = length (c.provided.participants epoch) in
        let above : Course U Fault (Live U) = if nat_lt c.limit count then Stops (InvalidParticipants (ProviderAbove count c.limit)) else acts in
        let some : Course U Fault (Live U) = if count == 0 then Stops (InvalidParticipants ProviderEmpty) else above in
        to_if (nat_le (2 ^ 64) epoch) (Stops HeightRange) some (λ e. tt)
        (λ e. to_if (count == 0) (Stops (InvalidParticipants ProviderEmpty)) above (λ e. tt)
        (λ e. to_if (nat_lt c.limit count) (Stops (InvalidParticipants (ProviderAbove count c.limit))) acts (λ e. tt) (λ e. to)))

    shared : (info : EpochInfo U) (result : Option Verified) (f : Option ℕ → Course U Fault (Live U)) → ((share : Option ℕ) → To (f share)) → To (i.share_by c info result f)
    shared info (Some found) f to = to found.share
    shared info None f to = to_if (has info.output.players c.me) (s.looks c (λ seen. f (lookup info.epoch seen.shares))) (f None) (λ e h. to (lookup info.epoch (c.seen h).shares)) (λ e. to None)

    derived : To (i.derives c c.oneshot r st next)
    derived =
        subst (λ (o : Option (OneShot U)). To (i.derives c o r st next)) (sym reshare)
        (to_option (λ (info : EpochInfo U). i.derives_next c info r st (i.keeping_artifact r.logs next)) st.participation.current (Stops HeightRange)
        (λ info e. let made : EpochInfo U = info_by c.provided info (option_map (λ (found : Verified). found.output) r.result) in
        provided (info.epoch + 2) (i.share_by c info r.result (λ share. i.with_directory c made (i.keeping_artifact r.logs next (record { info = Some made; share = share }) st)))
        (shared info r.result (λ share. i.with_directory c made (i.keeping_artifact r.logs next (record { info = Some made; share = share }) st)) (λ share. with_directory made made share))) tt)

    artifact_to : To (i.artifact c r st next)
    artifact_to = by_cached (cached_for st.inclusion.cached r.logs)
      where
        by_cached : (cached : Option (Artifact U)) → To (i.artifact_by c r cached st next)
        by_cached (Some made) = so made st apart
        by_cached None = derived

  -- READING

  as_told : (st : Live U) → IsApart st.inclusion → (request : ℕ) (made : Artifact U) → To (i.answers_request c request made st)
  as_told st apart request made = record { queue = apart.queue; waiter = apart.waiter }

  module _ (round : Round) (request : ℕ) (st : Live U) (apart : IsApart st.inclusion) (lacks : LacksNumber request st.inclusion.queue) where
    starts : (job : Job) (refused : Option ℕ) → To (i.starts_unless job (Some request) refused st)
    starts job (Some who) = tt
    starts job None = record { queue = apart.queue; waiter = lacks }

    asks_by : (logs : LogMap) (cached : Option (Artifact U)) (retained : Option VerifiedLogs) → To (i.asks_for_by c round request logs cached retained st)
    asks_by logs (Some made) retained = as_told st apart request made
    asks_by logs None (Some r) = artifact_to r st apart (i.answers_request c request) (λ made now its. as_told now its request made)
    asks_by logs None None = starts (job_for c round logs st) (if can_finish c round logs st then s.refused_in c round st else None)

    fed_to : (f : Fed) → To (i.fed c round request st f)
    fed_to Need = apart
    fed_to (Lacks reason) = record { queue = apart.queue; waiter = apart.waiter }
    fed_to (Found found) =
        asks_by (filled_by (canonical c st) found) (cached_for st.inclusion.cached (filled_by (canonical c st) found)) (retained_for st.inclusion.retained (filled_by (canonical c st) found))

  advances_to : (most : ℕ) (st : Live U) → IsApart st.inclusion → To (i.advances c most st)
  advances_to zero st apart = apart
  advances_to (suc most) st apart = to_option (λ (round : Round). i.reads_first c round (λ now. i.advances c most now) st) st.participation.round (Goes st)
      (λ round e. by_stage (λ end its. advances_to most end its) round st.participation.stage st.inclusion.running st.inclusion.queue refl) apart
    where
      next : Live U → Course U Fault (Live U)
      next now = i.advances c most now

      first : (r : Request U) (rs : List (Request U)) → st.inclusion.queue ≡ r ∷ rs → IsApart (with_queue rs st).inclusion × LacksNumber r.number rs
      first r rs queue =
          let all : AreApart (r ∷ rs) = subst AreApart queue apart.queue in
          let waits : IfSome st.inclusion.waiter (λ number. LacksNumber number (r ∷ rs)) = subst (λ (q : List (Request U)). IfSome st.inclusion.waiter (λ number. LacksNumber number q)) queue apart.waiter in
          (record { queue = all.1; waiter = if_some (λ number. LacksNumber number (r ∷ rs)) (λ number. LacksNumber number rs) st.inclusion.waiter (λ number lacks. lacks.1) waits }, all.0)

      by_stage : ((end : Live U) → IsApart end.inclusion → To (i.advances c most end)) → (round : Round) (stage : Stage) (running : Option Job) (queue : List (Request U)) → st.inclusion.queue ≡ queue → To (i.reads_first_in c round next st stage running queue)
      by_stage again round Includes None (r ∷ rs) queue =
          to_if (is_need (read_of c round st r)) (Goes st) (bind (i.fed c round r.number (with_queue rs st) (read_of c round st r)) next) (λ e. apart)
          (λ e. comes_behind Any EndsApart EndsApart (i.fed c round r.number (with_queue rs st) (read_of c round st r)) next
          (fed_to round r.number (with_queue rs st) (first r rs queue).0 (first r rs queue).1 (read_of c round st r)) again)
      by_stage again round Includes None [] queue = apart
      by_stage again round Includes (Some job) queue is = apart
      by_stage again round Deals running queue is = apart
      by_stage again round Follows running queue is = apart
      by_stage again round Ends running queue is = apart

  advanced_to : (st : Live U) → IsApart st.inclusion → To (i.advanced c st)
  advanced_to st apart = advances_to (length st.inclusion.queue) st apart

  -- MAIL

  -- a new request's number is that of none
  abbrev pub IsNewOne : Live U → Mail U → Type 0
  IsNewOne st (EpochInfoOf request) = LacksNumber request st.inclusion.queue × IfSome st.inclusion.waiter (λ number. request ≡ number → ⊥)
  IsNewOne st mail = Unit {0}

  module _ (st : Live U) (apart : IsApart st.inclusion) where
    log_given : (request height : ℕ) (found : Option SignedDealerLog) → To (i.gives_log c request height found (with_used request st))
    log_given request height None = record { queue = apart.queue; waiter = apart.waiter }
    log_given request height (Some log) = record { queue = apart.queue; waiter = apart.waiter }

    released : (height : ℕ) → IsApart (i.releases height st).inclusion
    released height = by_test (i.is_served_at height st)
      where
        by_test : (t : Bool) → IsApart (if t then with_inclusion (record st.inclusion { served = None }) st else st).inclusion
        by_test true = record { queue = apart.queue; waiter = apart.waiter }
        by_test false = apart

    pub queued_apart : (request : ℕ) → LacksNumber request st.inclusion.queue → IfSome st.inclusion.waiter (λ number. request ≡ number → ⊥) → IsApart (i.queued request (with_used request st)).inclusion
    queued_apart request lacks other =
        let r : Request U = record { number = request; blocks = []; ended = false } in
        record { queue = one_more r st.inclusion.queue apart.queue lacks; waiter = waits st.inclusion.waiter apart.waiter other }
      where
        waits : (o : Option ℕ) → IfSome o (λ number. LacksNumber number st.inclusion.queue) → IfSome o (λ number. request ≡ number → ⊥)
            → IfSome o (λ number. LacksNumber number (st.inclusion.queue ++ record { number = request; blocks = []; ended = false } ∷ []))
        waits None its other = tt
        waits (Some number) its other = lacks_more (record { number = request; blocks = []; ended = false }) number st.inclusion.queue its other

    asks_to : (request : ℕ) → LacksNumber request st.inclusion.queue → IfSome st.inclusion.waiter (λ number. request ≡ number → ⊥) → (stage : Stage) → To (i.asks_in c request (with_used request st) stage)
    asks_to request lacks other Deals = queued_apart request lacks other
    asks_to request lacks other Includes = advanced_to (i.queued request (with_used request st)) (queued_apart request lacks other)
    asks_to request lacks other Follows = record { queue = apart.queue; waiter = apart.waiter }
    asks_to request lacks other Ends = record { queue = apart.queue; waiter = apart.waiter }

    changed_to : (request : ℕ) (f : Request U → Request U) → ((r : Request U) → (f r).number ≡ r.number) → To (i.advanced c (i.changed request f st))
    changed_to request f same = advanced_to (i.changed request f st) (record {
      queue = apart_as its its_same st.inclusion.queue apart.queue;
      waiter = if_some (λ number. LacksNumber number st.inclusion.queue) (λ number. LacksNumber number (map its st.inclusion.queue)) st.inclusion.waiter (λ number lacks. lacks_as its its_same number st.inclusion.queue lacks) apart.waiter;
    })
      where
        its : Request U → Request U
        its r = if r.number == request then f r else r

        its_same : (r : Request U) → (its r).number ≡ r.number
        its_same r = by_test (r.number == request)
          where
            by_test : (t : Bool) → (if t then f r else r).number ≡ r.number
            by_test true = same r
            by_test false = refl

    cancels_to : (request : ℕ) → To (i.cancels c request st)
    cancels_to request = by_test (option_map_or (λ n. n == request) st.inclusion.waiter false)
      where
        keep : Request U → Bool
        keep r = not (r.number == request)

        by_test : (t : Bool) → To (if t then Goes (with_inclusion (record st.inclusion { waiter = None }) st) else i.advanced c (with_queue (filter (λ r. not (r.number == request)) st.inclusion.queue) st))
        by_test true = record { queue = apart.queue; waiter = tt }
        by_test false = advanced_to (with_queue (filter keep st.inclusion.queue) st) (record {
          queue = apart_kept keep st.inclusion.queue apart.queue;
          waiter = if_some (λ number. LacksNumber number st.inclusion.queue) (λ number. LacksNumber number (filter keep st.inclusion.queue)) st.inclusion.waiter (λ number lacks. lacks_kept keep number st.inclusion.queue lacks) apart.waiter;
        })

    completes_to : (r : VerifiedLogs) (waiter : Option ℕ) → To (i.completes_in c r st waiter)
    completes_to r None = record { queue = apart.queue; waiter = tt }
    completes_to r (Some request) =
        artifact_to r st apart (λ made now. bind (i.answers_request c request made now) (λ now. Goes (retains c r now))) (λ made now its. record { queue = its.queue; waiter = tt })

    works_to : (handed : Option VerifiedLogs) → To (i.works c handed st)
    works_to handed =
        to_if (is_some st.inclusion.running) (bind (i.ends_verifying c handed st) (λ now. i.advanced c now)) (Goes st)
        (λ e. comes_behind Any EndsApart EndsApart (i.ends_verifying c handed st) (λ now. i.advanced c now) (by_running st.inclusion.running) (λ end its. advanced_to end its)) (λ e. apart)
      where
        by_running : (running : Option Job) → To (i.ends_verifying_in c handed st running)
        by_running None = apart
        by_running (Some job) = completes_to (job_result_of c handed job) st.inclusion.waiter

    fed_same : (block : Block U) (r : Request U) → (if r.ended then r else record r { blocks = r.blocks ++ block ∷ [] }).number ≡ r.number
    fed_same block r = by_test r.ended
      where
        by_test : (t : Bool) → (if t then r else record r { blocks = r.blocks ++ block ∷ [] }).number ≡ r.number
        by_test true = refl
        by_test false = refl

    -- of any mail but a peer's
    mail_to : (mail : Mail U) → IsNewOne st mail → ((from : ℕ) (bytes : List ℕ) → mail ≡ Peer from bytes → ⊥) → To (step c (Mailed mail) st)
    mail_to (Peer from bytes) new other = absurd (other from bytes refl)
    mail_to (NextLog request height) new other = log_given request height (i.served_now (with_used request st))
    mail_to (ReleaseLog height) new other = released height
    mail_to (EpochInfoOf request) new other = asks_to request new.0 new.1 st.participation.stage
    mail_to (Feed request block) new other = changed_to request (λ r. if r.ended then r else record r { blocks = r.blocks ++ block ∷ [] }) (fed_same block)
    mail_to (Over request) new other = changed_to request (λ r. record r { ended = true }) (λ r. refl)
    mail_to (Cancel request) new other = cancels_to request
    mail_to (Work handed) new other = works_to handed

    -- A BLOCK

    module _ (block : Block U) where
      -- it is applied while dealing, or while including below the epoch's last
      abbrev pub IsReadAt : Type 0
      IsReadAt = (judged_block c block st ≡ Applied) × ((st.participation.stage ≡ Deals) ⊎ ((st.participation.stage ≡ Includes) × (is_last_height c block.height ≡ false)))

      abbrev Where : Live U → Type 0
      Where end = IsReadAt → IsApart end.inclusion

      wherever : (course : Course U Fault (Live U)) → (IsReadAt → ⊥) → ComesTo Any Where course
      wherever course none = comes_so Where (λ end read. absurd (none read)) course

      in_any : (course : Course U Fault (Live U)) → To course → ComesTo Any Where course
      in_any course to = comes_as Any Any EndsApart Where course (λ fault any. any) (λ end its read. its) to

      deals_to : To (b.deals_at c block st)
      deals_to =
          let mid : Live U = given_itself c st in
          let next : Live U → Course U Fault (Live U) =
          λ now. if block.height + 1 == midpoint c.blocks_per_epoch now.participation.epoch then i.advanced c (s.begins_inclusion c (with_tip block now)) else Goes (with_tip block now) in
          comes_behind Any (λ end. end ≡ mid) EndsApart (d.deals c st) next (comes_as (IsDealingStop c st) Any (λ end. end ≡ mid) (λ end. end ≡ mid) (d.deals c st) (λ fault stop. tt) (λ end its. its) (dealing.deals c st))
          (λ end its. subst (λ (x : Live U). To (next x)) (sym its)
          (to_if (block.height + 1 == midpoint c.blocks_per_epoch mid.participation.epoch) (i.advanced c (s.begins_inclusion c (with_tip block mid))) (Goes (with_tip block mid))
          (λ e. advanced_to (s.begins_inclusion c (with_tip block mid)) (record { queue = given.queue; waiter = given.waiter })) (λ e. given)))
        where
          given : IsApart (given_itself c st).inclusion
          given = subst IsApart (sym (dealing.given_same c st).inclusion) apart

      cleared : (dealer : ℕ) (now : Live U) → (b.without_own_log c dealer now).inclusion ≡ now.inclusion
      cleared dealer now = by_test (dealer == c.me)
        where
          by_test : (t : Bool) → (if t then with_participation (record now.participation { dealer = option_map b.unoffered now.participation.dealer }) now else now).inclusion ≡ now.inclusion
          by_test true = refl
          by_test false = refl

      pub observes_to : (round : Round) (log : Option SignedDealerLog) → ComesTo Any (λ end. end.inclusion ≡ st.inclusion) (b.observes c round block st log)
      observes_to round None = refl
      observes_to round (Some log) = by_tests (is_accepted c round log) (is_some (recorded_at st.records.logs round.number log.dealer))
        where
          by_tests : (one two : Bool) → ComesTo {Dir = U} {F = Fault} Any (λ (end : Live U). end.inclusion ≡ st.inclusion)
              (if one then bind (if two then Goes st else d.appends round.number (carried_log_event log.dealer block.height log.log) (Goes (b.with_log_at round.number log.dealer block.height log.log st)))
              (λ now. Goes (b.without_own_log c log.dealer now)) else Goes st)
          by_tests true true = cleared log.dealer st
          by_tests true false = cleared log.dealer (b.with_log_at round.number log.dealer block.height log.log st)
          by_tests false two = refl

      includes_to : (round : Round) → To (b.includes c round block st)
      includes_to round =
          comes_behind Any (λ end. end.inclusion ≡ st.inclusion) EndsApart (b.observes c round block st (option_and_then its_log block.payload)) (λ now. i.advanced c (with_tip block (b.unserved block.height now)))
          (observes_to round (option_and_then its_log block.payload))
          (λ end same. let its : IsApart end.inclusion = subst IsApart (sym same) apart in
          advanced_to (with_tip block (b.unserved block.height end)) (record { queue = its.queue; waiter = its.waiter }))

      applies_to : (stage : Stage) → st.participation.stage ≡ stage → ComesTo Any Where (b.applies_in c block st stage)
      applies_to Deals is = in_any (b.deals_at c block st) deals_to
      applies_to Includes is = by_round st.participation.round
        where
          by_round : (o : Option Round) → ComesTo Any Where (option_map_or (λ round. if is_last_height c block.height then b.final_block c round block st else b.includes c round block st) o (Goes st))
          by_round None = λ read. apart
          by_round (Some round) =
              comes_if Any Where (is_last_height c block.height) (b.final_block c round block st) (b.includes c round block st)
              (λ e. wherever (b.final_block c round block st) (λ read. at_last e read.1)) (λ e. in_any (b.includes c round block st) (includes_to round))
            where
              at_last : is_last_height c block.height ≡ true → (st.participation.stage ≡ Deals) ⊎ ((st.participation.stage ≡ Includes) × (is_last_height c block.height ≡ false)) → ⊥
              at_last e (inl deals) = let no : ◌≡◌ {A = Stage} Includes Deals = sym is ∙ deals in cc
              at_last e (inr other) = let no : ◌≡◌ {A = Bool} true false = sym e ∙ other.1 in cc
      applies_to Follows is = wherever (b.follows_at c block st) (λ read. neither read.1)
        where
          neither : (st.participation.stage ≡ Deals) ⊎ ((st.participation.stage ≡ Includes) × (is_last_height c block.height ≡ false)) → ⊥
          neither (inl deals) = let no : ◌≡◌ {A = Stage} Follows Deals = sym is ∙ deals in cc
          neither (inr other) = let no : ◌≡◌ {A = Stage} Follows Includes = sym is ∙ other.0 in cc
      applies_to Ends is = λ read. apart

      block_to : ComesTo Any Where (step c (Finalized block) st)
      block_to =
          judged_is c block st (λ course. ComesTo Any Where course) (λ t x y one other. comes_if Any Where t x y one other) (λ fault is. tt) (λ is read. apart) (λ is. applies_to st.participation.stage refl) (λ is read. apart)

  -- THE ORCHESTRATOR'S HALF changes nothing of requests

  module _ (its : Inclusion U) where
    abbrev HalfTo : Course U NodeStop (LifeAndAnswer U) → Type 0
    HalfTo course = ComesTo Any (λ left. left.live.inclusion ≡ its) course

    abbrev LifeTo : Course U NodeStop (Live U) → Type 0
    LifeTo course = ComesTo Any (λ end. end.inclusion ≡ its) course

    engine : (o : Orchestrator U) (w : Waiting U) (found : Option SchemeInfo) (st : Live U) → st.inclusion ≡ its → HalfTo (half.starts_engine o w found st)
    engine o w None st same = tt
    engine o w (Some scheme) st same = stopped o.entered
      where
        stopped : (old : Option ℕ) → HalfTo (half.stops_engine old (Say (Entered w.epoch) (half.leaves (half.with_entered w.epoch o) AcknowledgesBlock st)))
        stopped None = same
        stopped (Some old) = same

    tracks : (o : Orchestrator U) (w : Waiting U) (lacking : Option ℕ) (st : Live U) → st.inclusion ≡ its → HalfTo (half.tracks_peers o w lacking st)
    tracks o w (Some peer) st same = tt
    tracks o w None st same = engine o w (lookup w.epoch o.schemes) st same

    waits_to : (o : Orchestrator U) (w : Waiting U) (answer : Waited) (st : Live U) → st.inclusion ≡ its → HalfTo (half.waited_for c o w answer st)
    waits_to o w waits.Ready st same = tracks o w (c.directories.lacking w.info.directory (half.peers_for w)) st same
    waits_to o w waits.Pending st same = same
    waits_to o w waits.Closed st same = same

    enters : (w : Waiting U) (st : Live U) → st.inclusion ≡ its → HalfTo (half.enters c w st)
    enters w st same =
        let answer = half.wait_for st.orchestrator.fence w.epoch in waits_to (record st.orchestrator { fence = waited w.epoch answer st.orchestrator.fence }) w answer st same

    enters_at : (block : Block U) (epoch : ℕ) (height : Option ℕ) (st : Live U) → st.inclusion ≡ its → HalfTo (half.enters_at c block epoch height st)
    enters_at block epoch height st same = by_info (info_of block.payload)
      where
        goes : EpochInfo U → Course U NodeStop (LifeAndAnswer U)
        goes info = half.enters c (record { epoch = epoch; info = info; floor = Genesis block.digest; block = height }) st

        by_info : (o : Option (EpochInfo U)) → HalfTo (option_map_or (λ info. if info.epoch == epoch then goes info else Stops (Faulted (WrongEpoch epoch info.epoch))) o (Stops (Faulted (MissingEpochInfo block.height))))
        by_info None = tt
        by_info (Some info) =
            comes_if Any (λ left. left.live.inclusion ≡ its) (info.epoch == epoch) (goes info) (Stops (Faulted (WrongEpoch epoch info.epoch)))
            (λ e. enters (record { epoch = epoch; info = info; floor = Genesis block.digest; block = height }) st same) (λ e. tt)

    acked : (height : ℕ) (answer : HalfAnswer) (st : Live U) → st.inclusion ≡ its → LifeTo (half.acked_at height answer st)
    acked height AcknowledgesBlock st same = same
    acked height Withholds st same = same

    acked_late : (height : Option ℕ) (left : LifeAndAnswer U) → left.live.inclusion ≡ its → LifeTo (half.acked_late height left)
    acked_late None left same = same
    acked_late (Some height) left same = acked height left.answer left.live same

    again : (st : Live U) → st.inclusion ≡ its → LifeTo (half.asks_again c st)
    again st same = by_waiting st.orchestrator.waiting
      where
        by_waiting : (o : Option (Waiting U)) → LifeTo (option_map_or (λ w. bind (half.enters c w st) (half.acked_late w.block)) o (Goes st))
        by_waiting None = same
        by_waiting (Some w) =
            comes_behind Any (λ left. left.live.inclusion ≡ its) (λ end. end.inclusion ≡ its) (half.enters c w st) (half.acked_late w.block) (enters w st same) (λ left is. acked_late w.block left is)

    delivers_in : (block : Block U) (st : Live U) → st.inclusion ≡ its → (found : Option ℕ) → HalfTo (half.delivered_in c block st found)
    delivers_in block st same None = same
    delivers_in block st same (Some epoch) =
        let low : Course U NodeStop (LifeAndAnswer U) = if nat_lt block.height (last c.blocks_per_epoch epoch) then half.leaves st.orchestrator AcknowledgesBlock st else half.enters_at c block (epoch + 1) (Some block.height) st in
        comes_if Any (λ left. left.live.inclusion ≡ its) (nat_lt (last c.blocks_per_epoch epoch) block.height) (Stops (Faulted (SkippedHeight (last c.blocks_per_epoch epoch) block.height))) low (λ e. tt)
        (λ e. comes_if Any (λ left. left.live.inclusion ≡ its) (nat_lt block.height (last c.blocks_per_epoch epoch)) (half.leaves st.orchestrator AcknowledgesBlock st) (half.enters_at c block (epoch + 1) (Some block.height) st) (λ e. same)
        (λ e. enters_at block (epoch + 1) (Some block.height) st same))

    delivers : (block : Block U) (st : Live U) → st.inclusion ≡ its → HalfTo (takes_delivered c block st)
    delivers block st same =
        comes_behind Any (λ now. now.inclusion ≡ its) (λ left. left.live.inclusion ≡ its) (half.asks_again c st) (λ now. half.delivered_in c block now (active now.orchestrator)) (again st same)
        (λ now is. delivers_in block now is (active now.orchestrator))

    pub behind_mail : (st : Live U) → st.inclusion ≡ its → LifeTo (unless_once c (half.asks_again c st) (Goes st))
    behind_mail st same = comes_if Any (λ end. end.inclusion ≡ its) (is_some c.oneshot) (Goes st) (half.asks_again c st) (λ e. same) (λ e. again st same)

    pub behind_block : (block : Block U) (st : Live U) → st.inclusion ≡ its
        → LifeTo (unless_once c (bind (takes_delivered c block st) (λ left. half.acked_at block.height left.answer left.live)) (Say (Acked block.height) (Goes st)))
    behind_block block st same =
        comes_if Any (λ end. end.inclusion ≡ its) (is_some c.oneshot) (Say (Acked block.height) (Goes st)) (bind (takes_delivered c block st) (λ left. half.acked_at block.height left.answer left.live)) (λ e. same)
        (λ e. comes_behind Any (λ left. left.live.inclusion ≡ its) (λ end. end.inclusion ≡ its) (takes_delivered c block st) (λ left. half.acked_at block.height left.answer left.live) (delivers block st same)
        (λ left is. acked block.height left.answer left.live is))

  -- A NODE'S STEP, where requests are read

  module _ (st : Live U) (apart : IsApart st.inclusion) where
    -- an event that isn't a peer's message, or a block by which requests are read
    abbrev pub Reads : Message U → Type 0
    Reads (Finalized block) = IsReadAt st apart block
    Reads (Mailed (Peer from bytes)) = ⊥
    Reads (Mailed mail) = Unit {0}

    mail_apart : (mail : Mail U) → IsNewOne st mail → ((from : ℕ) (bytes : List ℕ) → mail ≡ Peer from bytes → ⊥) → ComesTo (λ (stop : NodeStop). ⊤) EndsApart (node_step c (event_of (Mailed mail)) st)
    mail_apart mail new other =
        comes_behind Any EndsApart EndsApart (under Faulted (step c (Mailed mail) st)) (λ now. unless_once c (half.asks_again c now) (Goes now))
        (any_under EndsApart Faulted (step c (Mailed mail) st) (mail_to st apart mail new other))
        (λ now its. comes_as Any Any (λ end. end.inclusion ≡ now.inclusion) EndsApart (unless_once c (half.asks_again c now) (Goes now)) (λ stop any. any)
        (λ end same. subst IsApart (sym same) its) (behind_mail now.inclusion now refl))

    abbrev WhereRead : Message U → Live U → Type 0
    WhereRead message end = Reads message → IsApart end.inclusion

    read_mail : (mail : Mail U) → IsNewOne st mail → ((from : ℕ) (bytes : List ℕ) → mail ≡ Peer from bytes → ⊥) → ComesTo (λ (stop : NodeStop). ⊤) (WhereRead (Mailed mail)) (node_step c (event_of (Mailed mail)) st)
    read_mail mail new other =
        comes_as (λ (stop : NodeStop). ⊤) (λ (stop : NodeStop). ⊤) EndsApart (WhereRead (Mailed mail)) (node_step c (event_of (Mailed mail)) st) (λ stop any. any) (λ end its reads. its) (mail_apart mail new other)

    pub node_apart : (message : Message U) → ((mail : Mail U) → message ≡ Mailed mail → IsNewOne st mail) → ComesTo (λ (stop : NodeStop). ⊤) (WhereRead message) (node_step c (event_of message) st)
    node_apart (Finalized block) new =
        comes_behind Any (Where st apart block) (WhereRead (Finalized block)) (under Faulted (step c (Finalized block) st))
        (λ now. unless_once c (bind (takes_delivered c block now) (λ left. half.acked_at block.height left.answer left.live)) (Say (Acked block.height) (Goes now)))
        (any_under (Where st apart block) Faulted (step c (Finalized block) st) (block_to st apart block))
        (λ now its. comes_as Any Any (λ end. end.inclusion ≡ now.inclusion) (WhereRead (Finalized block))
        (unless_once c (bind (takes_delivered c block now) (λ left. half.acked_at block.height left.answer left.live)) (Say (Acked block.height) (Goes now))) (λ stop any. any)
        (λ end same reads. subst IsApart (sym same) (its reads)) (behind_block now.inclusion block now refl))
    node_apart (Mailed (Peer from bytes)) new = comes_so (WhereRead (Mailed (Peer from bytes))) (λ end reads. absurd reads) (node_step c (event_of (Mailed (Peer from bytes))) st)
    node_apart (Mailed (NextLog request height)) new = read_mail (NextLog request height) tt (λ from bytes e. cc)
    node_apart (Mailed (ReleaseLog height)) new = read_mail (ReleaseLog height) tt (λ from bytes e. cc)
    node_apart (Mailed (EpochInfoOf request)) new = read_mail (EpochInfoOf request) (new (EpochInfoOf request) refl) (λ from bytes e. cc)
    node_apart (Mailed (Feed request block)) new = read_mail (Feed request block) tt (λ from bytes e. cc)
    node_apart (Mailed (Over request)) new = read_mail (Over request) tt (λ from bytes e. cc)
    node_apart (Mailed (Cancel request)) new = read_mail (Cancel request) tt (λ from bytes e. cc)
    node_apart (Mailed (Work handed)) new = read_mail (Work handed) tt (λ from bytes e. cc)

    -- Where none runs the end of a verification changes nothing of requests.
    pub idle_work : (handed : Option VerifiedLogs) → st.inclusion.running ≡ None → ComesTo (λ (stop : NodeStop). ⊤) (λ end. end.inclusion ≡ st.inclusion) (node_step c (event_of (Mailed (Work handed))) st)
    idle_work handed idle =
        comes_behind Any (λ end. end ≡ st) (λ end. end.inclusion ≡ st.inclusion) (under Faulted (step c (Mailed (Work handed)) st)) (λ now. unless_once c (half.asks_again c now) (Goes now))
        (any_under (λ end. end ≡ st) Faulted (step c (Mailed (Work handed)) st)
        (comes_if Any (λ end. end ≡ st) (is_some st.inclusion.running) (bind (i.ends_verifying c handed st) (λ now. i.advanced c now)) (Goes st)
        (λ e. absurd (let no : ◌≡◌ {A = Bool} false true = sym (ap is_some idle) ∙ e in cc)) (λ e. refl)))
        (λ now same. behind_mail st.inclusion now (ap (λ (x : Live U). x.inclusion) same))
