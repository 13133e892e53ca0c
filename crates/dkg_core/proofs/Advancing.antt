-- Requests are read until one needs more.
use Rattle.std.proofs.Common.{◌≡◌, ◌≤◌, inl, inr, ℕ, zero, suc, Bool, true, false, List, [], ◌∷◌, Option, Some, None, refl, sym, ◌∙◌, ap, subst, arith}
use Rattle.std.specs.Prelude.{◌==◌, nat_lt, not, if◌then◌else◌, length, IsSomeAnd, option_map, Ok}
use Rattle.std.specs.Option.{option_map_or}
use Rattle.dkg_ceremony.specs.declared.round.RoundParts.{RoundParts as Round}
use Rattle.dkg_ceremony.specs.Outcomes.{LogMap}
use Rattle.dkg_types.specs.Blocks.{Block}
use Rattle.dkg_infos.specs.declared.entry.Why.TheVariants.{WrongHeight, Unlinked, Detached}
use Rattle.dkg_infos.specs.declared.fault.Fault.{Fault}
use Rattle.dkg_infos.specs.declared.info.EpochInfo.{EpochInfo}
use Rattle.dkg_types.specs.PayloadCodes.{info_payload}
use Rattle.dkg_store.specs.Acts.{Held}
use Rattle.dkg_core.specs.Courses.{Course, Goes, bind}
use Rattle.dkg_core.specs.Sources.{Tip}
use Rattle.dkg_core.specs.Fixed.{Fixed}
use Rattle.dkg_core.specs.Live.{Live, Stage, Deals, Includes, Follows, Ends, Inclusion, Request, Job, VerifiedLogs, Artifact, Cached, RequestAnswer, GaveInfo, GaveNone, with_inclusion, with_queue, with_told}
use Rattle.dkg_core.specs.Logs.{canonical, filled_by}
use Rattle.dkg_core.specs.Same.{same_logs}
use Rattle.dkg_core.specs.Setup.{refused_in}
use Rattle.dkg_core.specs.Including as inc
use Rattle.dkg_core.specs.Including.{Fed, Need, Found, Lacks, can_finish, job_for, cached_for, retained_for, is_need, read_of}
use Rattle.dkg_core.specs.Laws.{IsAmong}
use Rattle.dkg_core.specs.Endings.{validity}
use Rattle.dkg_core.specs.Forms.{IsForm, ComesOver, round_for}
use Rattle.dkg_core.specs.Asked.{OfShares, ReadsShare, IsArtifactIn, IsResultIn, IsJobIn, InRound, InEpoch, FirstNeeds, HasAsked, IsInformed, IsAskStop, IsMadeIn, IsStarted, IsReadOn, AdvancesLead}
use Rattle.dkg_core.proofs.Artifacts.{artifacts_lead}
use Rattle.dkg_core.proofs.Counting.{some_is}
use Rattle.dkg_core.proofs.Setups.{over_if, over_as, over_behind}

none_apart : {A : Type 0} (a : A) → ◌≡◌ {A = Option A} None (Some a) → ⊥
none_apart a e = cc

deals_apart : ◌≡◌ {A = Stage} Deals Includes → ⊥
deals_apart e = cc

follows_apart : ◌≡◌ {A = Stage} Follows Includes → ⊥
follows_apart e = cc

ends_apart : ◌≡◌ {A = Stage} Ends Includes → ⊥
ends_apart e = cc

includes_apart : ◌≡◌ {A = Stage} Includes Follows → ⊥
includes_apart e = cc

nothing_of : {A : Type 0} (xs : List A) → length xs ≤ 0 → xs ≡ []
nothing_of [] low = refl
nothing_of (x ∷ xs) low = absurd (omega (arith, low))

one_less : (n most : ℕ) → suc n ≤ suc most → n ≤ most
one_less n most low = omega (arith, low)

all_of : (n : ℕ) → n ≤ n
all_of n = omega arith

pub some_of : {A : Type 0} (P : A → Type 0) (o : Option A) → IsSomeAnd o P → (a : A) × (o ≡ Some a) × P a
some_of P None so = absurd so
some_of P (Some a) so = (a, refl, so)

-- a result that is retained for some logs is the retained one
pub retained_is : (retained : Option VerifiedLogs) (logs : LogMap) (r : VerifiedLogs) → retained_for retained logs ≡ Some r → retained ≡ Some r
retained_is None logs r e = absurd (none_apart r e)
retained_is (Some its) logs r e = either (same_logs its.logs logs) e
  where
    either : (t : Bool) → (if t then Some its else None) ≡ Some r → ◌≡◌ {A = Option VerifiedLogs} (Some its) (Some r)
    either true e = e
    either false e = absurd (none_apart r e)

-- a test and what was found where it passed
pub both_found : {A : Type 0} (t : Bool) (o : Option A) (a : A) → (if t then o else None) ≡ Some a → (t ≡ true) × (o ≡ Some a)
both_found true o a e = (refl, e)
both_found false o a e = absurd (none_apart a e)

pub none_found : {A : Type 0} (t : Bool) (o : Option A) → (if t then o else None) ≡ None → t ≡ true → o ≡ None
none_found true o e is = e
none_found false o e is = absurd (let no : ◌≡◌ {A = Bool} false true = is in cc)

-- the life's round is one
pub of_round : {Dir : Type 0} (st : Live Dir) (P : Round → Type 0) (round : Round) → st.participation.round ≡ Some round → InRound st P → P round
of_round st P round of_epoch its = subst P (some_is its.0 round (sym its.1 ∙ of_epoch)) its.2

-- What is read of a request follows from the tip and the epoch alone.
module _ {Dir : Type 0} (c : Fixed Dir) (round : Round) (st other : Live Dir) (tip : other.tip ≡ st.tip) (epoch : other.participation.epoch ≡ st.participation.epoch) where
  abbrev with_these : Option Tip → ℕ → Live Dir
  with_these its_tip its_epoch = record st { tip = its_tip; participation = record st.participation { epoch = its_epoch } }

  -- one block, by what is found behind it
  abbrev reads_block : Live Dir → Option (Block Dir) → LogMap → Block Dir → Fed → (LogMap → Fed) → Fed
  reads_block now above found b final next =
      if inc.is_final_read c now above b then final
      else if not (b.height == inc.next_height c now above) then Lacks (WrongHeight (inc.next_height c now above) b.height)
      else if inc.is_unlinked above b then Lacks (Unlinked b.height)
      else if nat_lt (inc.lowest_needed c now) b.height then next (inc.with_lower_log c round now b found)
      else if inc.is_detached c now b then Lacks (Detached b.height)
      else Found (inc.with_lower_log c round now b found)

  scan_as : (above : Option (Block Dir)) (found : LogMap) (bs : List (Block Dir)) (ended : Bool) → inc.scan c round other above found bs ended ≡ inc.scan c round st above found bs ended
  scan_as above found [] ended = refl
  scan_as above found (b ∷ bs) ended =
      ap (λ (f : Fed). reads_block other above found b f (λ l. inc.scan c round other (Some b) l bs ended)) (scan_as (Some b) found bs ended)
      ∙ ap (λ (f : Fed). reads_block other above found b (inc.scan c round st (Some b) found bs ended) (λ l. f)) (scan_as (Some b) (inc.with_lower_log c round other b found) bs ended)
      ∙ ap (λ (t : Option Tip). reads_block (with_these t other.participation.epoch) above found b (inc.scan c round st (Some b) found bs ended) (λ l. inc.scan c round st (Some b) l bs ended)) tip
      ∙ ap (λ (e : ℕ). reads_block (with_these st.tip e) above found b (inc.scan c round st (Some b) found bs ended) (λ l. inc.scan c round st (Some b) l bs ended)) epoch

  pub read_as : (r : Request Dir) → read_of c round other r ≡ read_of c round st r
  read_as r =
      ap (λ (f : Fed). if inc.final_height c other == 0 then Found [] else f) (scan_as None [] r.blocks r.ended)
      ∙ ap (λ (e : ℕ). if inc.final_height c (with_these st.tip e) == 0 then Found [] else inc.scan c round st None [] r.blocks r.ended) epoch

  pub needs_as : (queue : List (Request Dir)) → FirstNeeds c round st queue → FirstNeeds c round other queue
  needs_as [] needs = tt
  needs_as (r ∷ rs) needs = ap is_need (read_as r) ∙ needs

-- .. so whatever was asked, it is the same
pub read_again : {Dir : Type 0} (c : Fixed Dir) (round : Round) (st : Live Dir) (i : Inclusion Dir) (r : Request Dir) → read_of c round (with_inclusion i st) r ≡ read_of c round st r
read_again c round st i r = read_as c round st (with_inclusion i st) refl refl r

pub needs_again : {Dir : Type 0} (c : Fixed Dir) (round : Round) (st : Live Dir) (i : Inclusion Dir) (queue : List (Request Dir)) → FirstNeeds c round st queue → FirstNeeds c round (with_inclusion i st) queue
needs_again c round st i queue needs = needs_as c round st (with_inclusion i st) refl refl queue needs

-- The life with an inclusion.
module _ {Dir : Type 0} (c : Fixed Dir) (stored : OfShares) (st : Live Dir) where
  abbrev pub at : Inclusion Dir → Live Dir
  at i = with_inclusion i st

  -- while including nothing is asked but of a job, a result and an artifact
  pub included : (i : Inclusion Dir) → st.participation.stage ≡ Includes → (i.running ≡ None → i.waiter ≡ None) → ((job : Job) → i.running ≡ Some job → InRound st (λ round. IsJobIn c round st job))
      → ((r : VerifiedLogs) → i.retained ≡ Some r → InRound st (λ round. IsResultIn c round st r))
      → ((d : Cached Dir) → i.cached ≡ Some d → InEpoch st (λ round info. IsArtifactIn c stored round info st d.logs d.artifact)) → HasAsked c stored (at i)
  included i includes waits runs kept made = record {
    served = λ apart. absurd (apart includes);
    none = λ follows. absurd (includes_apart (sym includes ∙ follows));
    early = λ apart. absurd (apart includes);
    waits = waits;
    runs = runs;
    kept = kept;
    made = made;
  }

  -- other requests, used numbers and answers
  pub requeued : (i : Inclusion Dir) (queue : List (Request Dir)) (used : List ℕ) (told : List (ℕ × RequestAnswer Dir)) → HasAsked c stored (at i) → (st.participation.stage ≡ Follows → queue ≡ [])
      → HasAsked c stored (at (record i { queue = queue; used = used; told = told }))
  requeued i queue used told has none = record { served = has.served; none = none; early = has.early; waits = has.waits; runs = has.runs; kept = has.kept; made = has.made }

module _ {Dir : Type 0} (c : Fixed Dir) (stored : OfShares) (st : Live Dir) (devices : Option Held) (form : IsForm c)
    (reads : (r : VerifiedLogs) → st.inclusion.retained ≡ Some r → ReadsShare c stored devices) (informed : IsInformed c st) where
  abbrev Stop : Fault → Type 0
  Stop = IsAskStop c st

  abbrev with : Inclusion Dir → Live Dir
  with i = with_inclusion i st

  -- the verification of this job started for the request
  abbrev Starts : Round → Request Dir → Inclusion Dir → Inclusion Dir → Job → Type 0
  Starts round r i now job =
      (found : LogMap) × (read_of c round (with i) r ≡ Found found) × (job.logs ≡ filled_by (canonical c (with i)) found) × (now.waiter ≡ Some r.number)
      × (cached_for now.cached job.logs ≡ None) × (retained_for now.retained job.logs ≡ None)

  -- a request was read, while none ran
  pub record IsOn (round : Round) (r : Request Dir) (i : Inclusion Dir) (end : Live Dir) (left : Option Held) : Type 0 where
    pub untouched : left ≡ devices
    pub now : Inclusion Dir
    pub is : end ≡ with now
    pub has : HasAsked c stored (with now)
    pub queue_is : now.queue ≡ i.queue
    pub served : now.served ≡ i.served
    pub used : now.used ≡ i.used
    pub retained : now.retained ≡ i.retained
    pub starts : (job : Job) → now.running ≡ Some job → Starts round r i now job

  -- READING ONE

  module _ (round : Round) (of_epoch : st.participation.round ≡ Some round) (includes : st.participation.stage ≡ Includes) where
    none_following : (queue : List (Request Dir)) → st.participation.stage ≡ Follows → queue ≡ []
    none_following queue follows = absurd (includes_apart (sym includes ∙ follows))

    known : (info : EpochInfo Dir) × (st.participation.current ≡ Some info)
    known =
        let its = some_of (λ (info : EpochInfo Dir). (info.epoch ≡ st.participation.epoch) × (validity c info ≡ Ok tt) × (round_for c st.participation.epoch info ≡ Ok round))
        st.participation.current (informed round of_epoch) in
        (its.0, its.1)

    module _ (r : Request Dir) (i : Inclusion Dir) (has : HasAsked c stored (with i)) (idle : i.running ≡ None) (still : i.retained ≡ st.inclusion.retained) where
      abbrev Next_to : Live Dir → Option Held → Type 0
      Next_to = IsOn round r i

      told : (answer : RequestAnswer Dir) → Next_to (with_told r.number answer (with i)) devices
      told answer = record {
        untouched = refl;
        now = record i { told = (r.number, answer) ∷ i.told };
        is = refl;
        has = requeued c stored st i i.queue i.used ((r.number, answer) ∷ i.told) has (none_following i.queue);
        queue_is = refl;
        served = refl;
        used = refl;
        retained = refl;
        starts = λ job e. absurd (none_apart job (sym idle ∙ e));
      }

      module _ (logs : LogMap) where
        -- by a result that was retained
        by_retained : (result : VerifiedLogs) → i.retained ≡ Some result → ComesOver Stop Next_to (inc.artifact c result (with i) (inc.answers_request c r.number)) devices
        by_retained result is =
            artifacts_lead c stored round known.0 result (with i) (inc.answers_request c r.number) devices Stop Next_to form (reads result (sym still ∙ is)) has of_epoch known.1
            (of_round st (λ x. IsResultIn c x (with i) result) round of_epoch (has.kept result is)) (λ fault stop. (round, known.0, of_epoch, known.1, stop))
            (λ made here its. answered made here its)
          where
            answered : (made : Artifact Dir) (here : Live Dir) → IsMadeIn c stored round known.0 (with i) result.logs made here → ComesOver Stop Next_to (inc.answers_request c r.number made here) devices
            answered made here its =
                let answer : RequestAnswer Dir = GaveInfo (option_map info_payload made.info) in
                let now : Inclusion Dir = record i { cached = here.inclusion.cached; told = (r.number, answer) ∷ i.told } in
                record {
                  untouched = refl;
                  now = now;
                  is = ap (λ (x : Live Dir). with_told r.number answer x) its.same;
                  has = included c stored st now includes has.waits has.runs has.kept (λ d at. (round, known.0, of_epoch, known.1, its.all d at));
                  queue_is = refl;
                  served = refl;
                  used = refl;
                  retained = refl;
                  starts = λ job e. absurd (none_apart job (sym idle ∙ e));
                }

        -- by a verification that starts
        starts : (found : LogMap) → read_of c round (with i) r ≡ Found found → logs ≡ filled_by (canonical c (with i)) found → cached_for i.cached logs ≡ None → retained_for i.retained logs ≡ None
            → (refused : Option ℕ) → (if can_finish c round logs (with i) then refused_in c round (with i) else None) ≡ refused
            → ComesOver Stop Next_to (inc.starts_unless (job_for c round logs (with i)) (Some r.number) refused (with i)) devices
        starts found read logs_are uncached unretained (Some who) is =
            let both = both_found (can_finish c round logs (with i)) (refused_in c round (with i)) who is in
            (round, known.0, of_epoch, known.1, (refl, (logs, both.0), both.1))
        starts found read logs_are uncached unretained None is =
            let job : Job = job_for c round logs (with i) in
            let now : Inclusion Dir = record i { running = Some job; waiter = Some r.number } in
            let its : IsJobIn c round st job = (refl, none_found (can_finish c round logs (with i)) (refused_in c round (with i)) is) in
            record {
              untouched = refl;
              now = now;
              is = refl;
              has = included c stored st now includes (λ none. absurd (none_apart job (sym none)))
                  (λ other e. (round, of_epoch, subst (λ (x : Job). IsJobIn c round st x) (some_is job other e) its)) has.kept has.made;
              queue_is = refl;
              served = refl;
              used = refl;
              retained = refl;
              starts = λ other e. subst (λ (x : Job). Starts round r i now x) (some_is job other e) (found, read, logs_are, refl, uncached, unretained);
            }

        asks : (found : LogMap) → read_of c round (with i) r ≡ Found found → logs ≡ filled_by (canonical c (with i)) found
            → (cached : Option (Artifact Dir)) (retained : Option VerifiedLogs) → cached_for i.cached logs ≡ cached → retained_for i.retained logs ≡ retained
            → ComesOver Stop Next_to (inc.asks_for_by c round r.number logs cached retained (with i)) devices
        asks found read logs_are (Some made) retained is at = told (GaveInfo (option_map info_payload made.info))
        asks found read logs_are None (Some result) is at = by_retained result (retained_is i.retained logs result at)
        asks found read logs_are None None is at = starts found read logs_are is at (if can_finish c round logs (with i) then refused_in c round (with i) else None) refl

      -- by what is read
      pub fed : (f : Fed) → read_of c round (with i) r ≡ f → ComesOver Stop Next_to (inc.fed c round r.number (with i) f) devices
      fed Need read =
          record { untouched = refl; now = i; is = refl; has = has; queue_is = refl; served = refl; used = refl; retained = refl; starts = λ job e. absurd (none_apart job (sym idle ∙ e)) }
      fed (Lacks reason) read = told (GaveNone reason)
      fed (Found found) read =
          let logs = filled_by (canonical c (with i)) found in asks logs found read refl (cached_for i.cached logs) (retained_for i.retained logs) refl refl

  -- READING ALL

  abbrev To : Inclusion Dir → Live Dir → Option Held → Type 0
  To i end left = (left ≡ devices) × IsReadOn c stored (with i) end

  stays : (i : Inclusion Dir) → HasAsked c stored (with i)
      → (st.participation.stage ≡ Includes → i.running ≡ None → (round : Round) → st.participation.round ≡ Some round → FirstNeeds c round (with i) i.queue) → To i (with i) devices
  stays i has read = (
    refl,
    record {
      asked = record { has = has; read = read };
      same = refl;
      served = refl;
      used = refl;
      retained = refl;
      gone = [];
      rest = refl;
      busy = λ job e. refl;
      starts = λ job none e. absurd (none_apart job (sym none ∙ e));
    },
  )

  -- behind a request that was read others are
  module _ (round : Round) (of_epoch : st.participation.round ≡ Some round) (r : Request Dir) (rs : List (Request Dir)) (i : Inclusion Dir) (queue_is : i.queue ≡ r ∷ rs) where
    abbrev others : Inclusion Dir
    others = record i { queue = rs }

    among : (other : Request Dir) → IsAmong other (r ∷ rs) → IsAmong other i.queue
    among other is = subst (IsAmong other) (sym queue_is) is

    module _ (at : Live Dir) (left : Option Held) (on : IsOn round r others at left) (end : Live Dir) (its : IsReadOn c stored (with on.now) end) where
      -- started now
      started_now : (job its_job : Job) → on.now.running ≡ Some its_job → end.inclusion.running ≡ Some job → IsStarted c round (with i) end job
      started_now job its_job runs e =
          subst (λ (x : Live Dir). IsStarted c round (with i) x job) (sym same) (record {
            request = r;
            among = among r (inl refl);
            found = by.0;
            read = read_again c round st i r ∙ sym (read_again c round st others r) ∙ by.1;
            logs = by.2;
            waits = by.3;
            uncached = by.4;
            unretained = by.5;
          })
        where
          same : end ≡ with on.now
          same = its.busy its_job runs

          by : Starts round r others on.now job
          by = on.starts job (sym (ap (λ (x : Live Dir). x.inclusion.running) same) ∙ e)

      -- .. or behind it
      started : (runs : Option Job) → on.now.running ≡ runs → (job : Job) → end.inclusion.running ≡ Some job → InRound (with i) (λ x. IsStarted c x (with i) end job)
      started (Some its_job) runs job e = (round, of_epoch, started_now job its_job runs e)
      started None runs job e =
          let by = its.starts job runs e in (
            by.0,
            by.1,
            record {
              request = by.2.request;
              among = among by.2.request (inr (subst (IsAmong by.2.request) on.queue_is by.2.among));
              found = by.2.found;
              read = read_again c by.0 st i by.2.request ∙ sym (read_again c by.0 st on.now by.2.request) ∙ by.2.read;
              logs = by.2.logs;
              waits = by.2.waits;
              uncached = by.2.uncached;
              unretained = by.2.unretained;
            },
          )

      joined : i.running ≡ None → IsReadOn c stored (with i) end
      joined idle = record {
        asked = its.asked;
        same = its.same;
        served = its.served ∙ on.served;
        used = its.used ∙ on.used;
        retained = its.retained ∙ on.retained;
        gone = r ∷ its.gone;
        rest = queue_is ∙ ap (λ (q : List (Request Dir)). r ∷ q) (sym on.queue_is ∙ its.rest);
        busy = λ job e. absurd (none_apart job (sym idle ∙ e));
        starts = λ job none e. started on.now.running refl job e;
      }

  abbrev Advances : ℕ → Type 0
  Advances most = (i : Inclusion Dir) → HasAsked c stored (with i) → i.retained ≡ st.inclusion.retained → length i.queue ≤ most → ComesOver Stop (To i) (inc.advances c most (with i)) devices

  one_more : (most : ℕ) → Advances most → Advances (suc most)
  one_more most again i has still low = by_round st.participation.round refl
    where
      next : Live Dir → Course Dir Fault (Live Dir)
      next now = inc.advances c most now

      reads_one : (round : Round) (r : Request Dir) (rs : List (Request Dir)) → st.participation.round ≡ Some round → st.participation.stage ≡ Includes → i.running ≡ None → i.queue ≡ r ∷ rs
          → ComesOver Stop (To i) (bind (inc.fed c round r.number (with_queue rs (with i)) (read_of c round (with i) r)) next) devices
      reads_one round r rs of_epoch includes idle queue_is =
          let has_others = requeued c stored st i rs i.used i.told has (none_following round of_epoch includes rs) in
          over_behind Stop (IsOn round r (record i { queue = rs })) (To i) (inc.fed c round r.number (with (record i { queue = rs })) (read_of c round (with i) r)) next devices
          (fed round of_epoch includes r (record i { queue = rs }) has_others idle still (read_of c round (with i) r) (read_again c round st (record i { queue = rs }) r ∙ sym (read_again c round st i r)))
          (λ end left on. subst (λ (x : Live Dir). ComesOver Stop (To i) (next x) left) (sym on.is) (subst (λ (l : Option Held). ComesOver Stop (To i) (next (with on.now)) l) (sym on.untouched)
          (over_as Stop Stop (To on.now) (To i) (next (with on.now)) devices (λ fault stop. stop)
          (λ last held its. (its.0, joined round of_epoch r rs i queue_is end left on last its.1 idle))
          (again on.now on.has (on.retained ∙ still) (subst (λ (q : List (Request Dir)). length q ≤ most) (sym on.queue_is) (one_less (length rs) most (subst (λ (q : List (Request Dir)). length q ≤ suc most) queue_is low)))))))

      by_stage : (round : Round) (stage : Stage) (running : Option Job) (queue : List (Request Dir)) → st.participation.round ≡ Some round → st.participation.stage ≡ stage → i.running ≡ running → i.queue ≡ queue
          → ComesOver Stop (To i) (inc.reads_first_in c round next (with i) stage running queue) devices
      by_stage round Deals running queue of_epoch is at queue_is = stays i has (λ includes. absurd (deals_apart (sym is ∙ includes)))
      by_stage round Includes None [] of_epoch is at queue_is = stays i has (λ includes none other e. subst (FirstNeeds c other (with i)) (sym queue_is) tt)
      by_stage round Includes None (r ∷ rs) of_epoch is at queue_is =
          over_if Stop (To i) devices (is_need (read_of c round (with i) r)) (Goes (with i)) (bind (inc.fed c round r.number (with_queue rs (with i)) (read_of c round (with i) r)) next)
          (λ e. stays i has (λ includes none other its. subst (FirstNeeds c other (with i)) (sym queue_is)
          (subst (λ (x : Round). is_need (read_of c x (with i) r) ≡ true) (some_is round other (sym of_epoch ∙ its)) e)))
          (λ e. reads_one round r rs of_epoch is at queue_is)
      by_stage round Includes (Some job) queue of_epoch is at queue_is = stays i has (λ includes none. absurd (none_apart job (sym none ∙ at)))
      by_stage round Follows running queue of_epoch is at queue_is = stays i has (λ includes. absurd (follows_apart (sym is ∙ includes)))
      by_stage round Ends running queue of_epoch is at queue_is = stays i has (λ includes. absurd (ends_apart (sym is ∙ includes)))

      by_round : (found : Option Round) → st.participation.round ≡ found → ComesOver Stop (To i) (option_map_or (λ round. inc.reads_first c round next (with i)) found (Goes (with i))) devices
      by_round None none = stays i has (λ includes idle round is. absurd (none_apart round (sym none ∙ is)))
      by_round (Some round) is = by_stage round st.participation.stage i.running i.queue is refl refl refl

  advances : (most : ℕ) → Advances most
  advances zero i has still low = stays i has (λ includes none round is. subst (FirstNeeds c round (with i)) (sym (nothing_of i.queue low)) tt)
  advances (suc most) i has still low = one_more most (advances most) i has still low

pub advances_lead : {Dir : Type 0} → AdvancesLead Dir
advances_lead c stored st devices form reads informed has =
    advances c stored st devices form reads informed (length st.inclusion.queue) st.inclusion has refl (all_of (length st.inclusion.queue))
