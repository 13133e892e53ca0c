-- How a verification starts, answers its request and ends, in memory and in the relation.
use Rattle.std.proofs.Common.{◌≡◌, ◌≢◌, inl, inr, ℕ, Bool, true, false, List, Option, Some, None, Result, is_some, refl, sym, ◌∙◌, ap, subst}
use Rattle.std.specs.Prelude.{◌⊎◌, ◌&&◌, not, IfSome, IsSome, IsSomeAnd, option_and_then, option_map, if◌then◌else◌}
use Rattle.std.specs.FinMap as maps
use Rattle.std.specs.FinMap.{FinMap}
use Rattle.std.specs.Option.{option_map_or}
use Rattle.std.specs.Ordering.{nat_cmp}
use Rattle.dkg_ceremony.specs.declared.round.RoundParts.{RoundParts as Round}
use Rattle.dkg_ceremony.specs.Outcomes.{LogMap}
use Rattle.dkg_ceremony.specs.Schedule.{midpoint}
use Rattle.dkg_fence.specs.Readiness.{Readiness}
use Rattle.dkg_journal.specs.Names.{Files}
use Rattle.dkg_types.specs.PayloadCodes.{info_payload}
use Rattle.dkg_infos.specs.declared.entry.Entry.{Entry}
use Rattle.dkg_infos.specs.declared.fault.Fault.{Fault}
use Rattle.dkg_infos.specs.declared.fault.Fault.TheVariants.{LocalState, NoMemory}
use Rattle.dkg_infos.specs.declared.fault.LocalCause.TheVariants.{StoredDealing}
use Rattle.dkg_types.specs.declared.payload.Payload.{Payload}
use Rattle.dkg_artifact.specs.Results.{Checked}
use Rattle.dkg_artifact.specs.Seen.{Verification}
use Rattle.dkg_artifact.specs.declared.artifact.Artifact as artifact
use Rattle.dkg_artifact.specs.declared.job.Job as job
use Rattle.dkg_secrets.specs.Secrets.{Secrets}
use Rattle.dkg_store.specs.Acts.{went}
use Rattle.dkg_store.specs.declared.devices.Devices.{Devices}
use Rattle.dkg_core.specs.Courses.{Course, Goes, bind}
use Rattle.dkg_core.specs.Fixed.{Fixed}
use Rattle.dkg_core.specs.Including as including
use Rattle.dkg_core.specs.Live as core
use Rattle.dkg_core.specs.Live.{Live, GaveInfo, with_told}
use Rattle.dkg_core.specs.Logs.{canonical}
use Rattle.dkg_core.specs.Same.{same_logs}
use Rattle.dkg_core.proofs.Same.{logs_decide, one_logs}
use Rattle.dkg_verifying.specs.declared.inclusion.Inclusion.{Inclusion}
use Rattle.dkg_life.specs.declared.life.Life.{Life}
use Rattle.dkg_life.specs.declared.life.Stage.{Stage}
use Rattle.dkg_life.specs.declared.life.Stage.TheVariants.{Including, Following}
use Rattle.dkg_life.specs.declared.stop.Stop.{Stop}
use Rattle.dkg_life.specs.declared.stop.Stop.TheVariants.{Fault as Faulted}
use Rattle.dkg_verifying.specs.declared.told.EpochInfoResponse.TheVariants.{Available}
use Rattle.dkg_verifying.specs.declared.told.Told.{Told}
use Rattle.dkg_verifying.specs.declared.told.Told.TheVariants as told
use Rattle.dkg_life.specs.Ends.{by_stop, ends_in}
use Rattle.dkg_verifying.specs.Including.{caching, telling}
use Rattle.dkg_verifying.specs.InclusionOf.{IsReadyInclusion, IsRunnable, IsSeen, artifact_of, cached_of, job_of, checked_result_of}
use Rattle.dkg_life.specs.LiveOf.{Beside, EndsWith, IsPlaced, live_of}
use Rattle.dkg_life.specs.Made.{Makes, Speaks, Tells}
use Rattle.dkg_verifying.specs.Refusing.{refusal_for}
use Rattle.dkg_life.specs.Rules.{CheckLogOf, DealingOf, FinishOf}
use Rattle.dkg_life.proofs.Burning.{makes_nothing, speaks_makes}
use Rattle.dkg_life.proofs.Chained.{early_makes, early_told, then_makes, then_told}
use Rattle.dkg_life.proofs.Committing.{goes_told, same_made, same_told}
use Rattle.dkg_verifying.proofs.Deriving.{artifact_kept, artifact_then, by_cached}
use Rattle.dkg_life.proofs.Said.{speaks_tells}
use Rattle.dkg_life.proofs.Speaking.{gives_speaks, goes_speaks, wants_speaks}
use Rattle.dkg_verifying.proofs.Telling.{ends_beside, ends_with, seen_told}
use Rattle.dkg_verifying.proofs.Within.{NoMore}

-- IT STARTS

module _ {Dir : Type 0} (c : Fixed Dir) (round : Round) (logs : LogMap) (request : ℕ) (beside : Beside Dir) (fence : Readiness) (life : Life Dir) where
  abbrev starting : Course Dir Fault (Live Dir)
  starting = including.starts_verifying c round logs (Some request) (live_of beside fence life)

  starts_as : (refused : Option ℕ) → refusal_for c round logs (live_of beside fence life) ≡ refused
      → starting ≡ including.starts_unless (including.job_for c round logs (live_of beside fence life)) (Some request) refused (live_of beside fence life)
  starts_as refused is =
      ap (λ (r : Option ℕ). including.starts_unless (including.job_for c round logs (live_of beside fence life)) (Some request) r (live_of beside fence life)) is

  module _ {C Signer Cfg : Type 0} (its : Inclusion C Dir Signer Cfg) (seen : IsSeen its beside.inclusion) (j : job.Job) (v : Verification) (runs : v.running ≡ Some j) (kept : v.kept ≡ its.verification.kept) where
    abbrev running_now : core.Inclusion Dir
    running_now = record beside.inclusion { running = Some (job_of j); waiter = Some request }

    pub seen_started : IsSeen (record its { verification = v; waiter = Some request }) running_now
    seen_started = record {
      served = seen.served;
      queue = seen.queue;
      running = ap (λ (x : Option job.Job). option_map job_of x) (sym runs);
      waiter = refl;
      retained = seen.retained ∙ ap (λ (x : Option Checked). option_map checked_result_of x) (sym kept);
      cached = seen.cached;
      told = seen.told;
      used = seen.used;
    }

    pub started : job_of j ≡ including.job_for c round logs (live_of beside fence life) → refusal_for c round logs (live_of beside fence life) ≡ None
        → EndsWith beside (λ i. IsSeen (record its { verification = v; waiter = Some request }) i) NoMore (λ now. (out : List Entry) → Speaks starting (went (live_of now fence life)) out out)
    started is passes =
        ends_with beside running_now seen_started refl
        (λ out. goes_speaks starting (live_of (record beside { inclusion = running_now }) fence life)
        (including.verifying (including.job_for c round logs (live_of beside fence life)) (Some request) (live_of beside fence life)) (starts_as None passes)
        (ap (λ (x : core.Job). including.verifying x (Some request) (live_of beside fence life)) is) out)

  pub unstarted : {IsNow : core.Inclusion Dir → Type 0} (stop : Stop)
      → (stop ≡ Faulted NoMemory) ⊎ ((dealer : ℕ) × (stop ≡ Faulted (LocalState (StoredDealing round.number dealer))) × (refusal_for c round logs (live_of beside fence life) ≡ Some dealer))
      → IsNow beside.inclusion → EndsWith beside IsNow NoMore (λ now. (out : List Entry) → Speaks starting (by_stop stop) out out)
  unstarted stop (inl none) is = ends_beside beside is refl (λ out. wants_speaks starting stop none out out refl)
  unstarted stop (inr a) is =
      ends_beside beside is refl (λ out. gives_speaks starting stop (LocalState (StoredDealing round.number a.0)) a.1 (starts_as (Some a.0) a.2) refl out)

-- IT ANSWERS ITS REQUEST

module _ {Dir : Type 0} (c : Fixed Dir) (reshare : c.oneshot ≡ None) (r : core.VerifiedLogs) (request : ℕ) (st : Live Dir) where
  abbrev answering : Course Dir Fault (Live Dir)
  answering = including.artifact c r st (including.answers_request c request)

  abbrev keeping : Course Dir Fault (Live Dir)
  keeping = including.artifact c r st (λ made s. Goes s)

  abbrev behind : Live Dir → Course Dir Fault (Live Dir)
  behind s = by_cached c reshare r.logs (including.answers_request c request) s

  answers_kept : answering ≡ bind keeping behind
  answers_kept = artifact_kept c reshare r st (including.answers_request c request)

  module _ {D X : Type 0} (files : D → Files) (image : D → Files → Type 0) (held : X → Secrets) (old new : Devices D X) where
    pub unkept_makes : (stop : Stop) (out now : List Entry) → Makes files image held keeping (by_stop stop) old new out now → Makes files image held answering (by_stop stop) old new out now
    unkept_makes stop out now made = same_made answers_kept (early_makes keeping behind stop made)

  pub unkept_told : (stop : Stop) {out now : List Entry} → Tells keeping (by_stop stop) out now → Tells answering (by_stop stop) out now
  unkept_told stop told = same_told answers_kept (early_told keeping behind stop told)

  module _ (cache : Option (LogMap × artifact.Artifact Dir)) (k : LogMap × artifact.Artifact Dir) (is : cache ≡ Some k) (of : k.0 ≡ r.logs) where
    abbrev kept_st : Live Dir
    kept_st = caching cache st

    cached_here : including.cached_for (option_map cached_of cache) r.logs ≡ Some (artifact_of k.1)
    cached_here =
        ap (λ (q : Option (LogMap × artifact.Artifact Dir)). including.cached_for (option_map cached_of q) r.logs) is
        ∙ ap (λ (b : Bool). if b then Some (artifact_of k.1) else None) ((logs_decide k.0 r.logs).1 of)

    behind_is : behind kept_st ≡ including.answers_request c request (artifact_of k.1) kept_st
    behind_is = ap (λ (q : Option (core.Artifact Dir)). option_map_or (λ made. including.answers_request c request made kept_st) q (Goes kept_st)) cached_here

    telling_is : telling request kept_st ≡ with_told request (GaveInfo (option_map info_payload k.1.info)) kept_st
    telling_is =
        ap (λ (q : Option (LogMap × artifact.Artifact Dir)). with_told request (GaveInfo (option_and_then (λ d. option_map info_payload d.artifact.info) (option_map cached_of q))) kept_st) is

    abbrev said_of : Live Dir → Result (Unit {0}) Stop → List Entry → List Entry → Type 0
    said_of end result out now = Speaks (including.answers_request c request (artifact_of k.1) kept_st) (ends_in end result) out now

    says_behind : (result : Result (Unit {0}) Stop) (out now : List Entry) → said_of (with_told request (GaveInfo (option_map info_payload k.1.info)) kept_st) result out now
        → Speaks (behind kept_st) (ends_in (telling request kept_st) result) out now
    says_behind result out now says =
        subst (λ (x : Course Dir Fault (Live Dir)). Speaks x (ends_in (telling request kept_st) result) out now) (sym behind_is)
        (subst (λ (end : Live Dir). said_of end result out now) (sym telling_is) says)

    module _ {D X : Type 0} (files : D → Files) (image : D → Files → Type 0) (held : X → Secrets) (old new : Devices D X) where
      pub answered_makes : (result : Result (Unit {0}) Stop) (out mid now : List Entry) → Makes files image held keeping (went kept_st) old new out mid
          → Speaks (including.answers_request c request (artifact_of k.1) kept_st) (ends_in (with_told request (GaveInfo (option_map info_payload k.1.info)) kept_st) result) mid now
          → Makes files image held answering (ends_in (telling request kept_st) result) old new out now
      answered_makes result out mid now made says =
          let how = ends_in (telling request kept_st) result in
          same_made answers_kept (then_makes keeping behind kept_st how made (speaks_makes (behind kept_st) how (files new.disk.now) (image new.disk.now) (says_behind result mid now says)))

    pub answered_told : (result : Result (Unit {0}) Stop) (out mid now : List Entry) → Tells keeping (went kept_st) out mid
        → Speaks (including.answers_request c request (artifact_of k.1) kept_st) (ends_in (with_told request (GaveInfo (option_map info_payload k.1.info)) kept_st) result) mid now
        → Tells answering (ends_in (telling request kept_st) result) out now
    answered_told result out mid now told says =
        let how = ends_in (telling request kept_st) result in
        same_told answers_kept (then_told keeping behind kept_st how told (speaks_tells (behind kept_st) how (says_behind result mid now says)))

-- the artifact of some logs that is kept
pub kept_here : {Dir : Type 0} (cache : Option (LogMap × artifact.Artifact Dir)) (logs : LogMap) (made : artifact.Artifact Dir) → IsSomeAnd cache (λ k. k.0 ≡ logs)
    → Some made ≡ option_map (λ k. k.1) cache → cache ≡ Some (logs, made)
kept_here None logs made has is = absurd has
kept_here {Dir} (Some k) logs made has is = let same : made ≡ k.1 = cc in λ i. Some (has i, sym same i)

-- .. and memory has it
module _ {C Dir Signer Cfg : Type 0} (its : Inclusion C Dir Signer Cfg) (beside : Beside Dir) (fence : Readiness) (life : Life Dir) (seen : IsSeen its beside.inclusion)
    (cache : Option (LogMap × artifact.Artifact Dir)) (answers : FinMap nat_cmp (Told Dir)) (request : ℕ) (logs : LogMap)
  where
    abbrev cached_now : core.Inclusion Dir
    cached_now = (caching cache (live_of beside fence life)).inclusion

    seen_cached : IsSeen (record its { cache = cache }) cached_now
    seen_cached = record { served = seen.served; queue = seen.queue; running = seen.running; waiter = seen.waiter; retained = seen.retained; cached = refl; told = seen.told; used = seen.used }

    abbrev told_by : Option (LogMap × artifact.Artifact Dir) → Option (Payload Dir)
    told_by q = option_and_then (λ d. option_map info_payload d.artifact.info) (option_map cached_of q)

    seen_by : (k : LogMap × artifact.Artifact Dir) → cache ≡ Some k → answers ≡ maps.insert its.told request (told.Info (Available (option_map info_payload k.1.info)))
        → IsSeen (record its { cache = cache; told = answers }) (telling request (caching cache (live_of beside fence life))).inclusion
    seen_by k is tells =
        subst (λ (m : FinMap nat_cmp (Told Dir)). IsSeen (record its { cache = cache; told = m }) (telling request (caching cache (live_of beside fence life))).inclusion) (sym tells)
        (seen_told (record its { cache = cache }) cached_now request (told.Info (Available (option_map info_payload k.1.info))) (GaveInfo (told_by cache))
        (ap (λ (q : Option (LogMap × artifact.Artifact Dir)). Some (GaveInfo (told_by q))) (sym is)) seen_cached)

    pub seen_answered : IsSomeAnd cache (λ k. (k.0 ≡ logs) × (answers ≡ maps.insert its.told request (told.Info (Available (option_map info_payload k.1.info)))))
        → IsSeen (record its { cache = cache; told = answers }) (telling request (caching cache (live_of beside fence life))).inclusion
    seen_answered has = by_cache cache refl has
      where
        by_cache : (q : Option (LogMap × artifact.Artifact Dir)) → cache ≡ q → IsSomeAnd q (λ k. (k.0 ≡ logs) × (answers ≡ maps.insert its.told request (told.Info (Available (option_map info_payload k.1.info)))))
            → IsSeen (record its { cache = cache; told = answers }) (telling request (caching cache (live_of beside fence life))).inclusion
        by_cache None is has = absurd has
        by_cache (Some k) is has = seen_by k is has.1

-- THE RESULT IS KEPT

both_bools : {A : Type 0} (x : A) (a b : Bool) (y : A) → a ≡ true → b ≡ false → (if a && not b then x else y) ≡ x
both_bools x a b y one other = λ i. if one i && not (other i) then x else y

second_bool : {A : Type 0} (x : A) (a b : Bool) (y : A) → b ≡ true → (if a && not b then x else y) ≡ y
second_bool x true b y is = λ i. if not (is i) then x else y
second_bool x false b y is = refl

first_bool : {A : Type 0} (x : A) (a b : Bool) (y : A) → a ≡ false → (if a && not b then x else y) ≡ y
first_bool x a b y is = λ i. if is i && not b then x else y

module _ (kept now : Option Checked) (logs : LogMap) (its : Checked) where
  abbrev Fits : Type 0
  Fits = IsSomeAnd kept (λ r. r.logs ≡ logs)

  abbrev fits : Option Checked → Bool
  fits q = is_some (including.retained_for (option_map checked_result_of q) logs)

  some_if : (r : core.VerifiedLogs) (b : Bool) → is_some (if b then Some r else None) ≡ b
  some_if r true = refl
  some_if r false = refl

  fitting : (q : Option Checked) → fits q ≡ true → IsSomeAnd q (λ r. r.logs ≡ logs)
  fitting None is = absurd (let h : false ≡ true = is in cc)
  fitting (Some k) is = one_logs k.logs logs (sym (some_if (checked_result_of k) (same_logs k.logs logs)) ∙ is)

  fitted : (q : Option Checked) → IsSomeAnd q (λ r. r.logs ≡ logs) → fits q ≡ true
  fitted None is = absurd is
  fitted (Some k) is = some_if (checked_result_of k) (same_logs k.logs logs) ∙ (logs_decide k.logs logs).1 is

  abbrev retained_by : core.VerifiedLogs → Option core.VerifiedLogs → LogMap → Option core.VerifiedLogs
  retained_by r retained canon = if is_some (including.retained_for retained canon) && not (same_logs r.logs canon) then retained else Some r

  module _ (same : its.logs ≡ logs → now ≡ Some its) (stays : Fits → its.logs ≢ logs → now ≡ kept) (replaces : (Fits → ⊥) → now ≡ Some its) where
    abbrev is_kept : Type 0
    is_kept = retained_by (checked_result_of its) (option_map checked_result_of kept) logs ≡ option_map checked_result_of now

    by_fit : (b : Bool) → fits kept ≡ b → same_logs its.logs logs ≡ false → is_kept
    by_fit true is other =
        both_bools (option_map checked_result_of kept) (fits kept) (same_logs its.logs logs) (Some (checked_result_of its)) is other
        ∙ ap (λ (q : Option Checked). option_map checked_result_of q) (sym (stays (fitting kept is) (λ e. absurd (let h : false ≡ true = sym other ∙ (logs_decide its.logs logs).1 e in cc))))
    by_fit false is other =
        first_bool (option_map checked_result_of kept) (fits kept) (same_logs its.logs logs) (Some (checked_result_of its)) is
        ∙ ap (λ (q : Option Checked). option_map checked_result_of q) (sym (replaces (λ has. absurd (let h : false ≡ true = sym is ∙ fitted kept has in cc))))

    by_same : (b : Bool) → same_logs its.logs logs ≡ b → is_kept
    by_same true is =
        second_bool (option_map checked_result_of kept) (fits kept) (same_logs its.logs logs) (Some (checked_result_of its)) is
        ∙ ap (λ (q : Option Checked). option_map checked_result_of q) (sym (same (one_logs its.logs logs is)))
    by_same false is = by_fit (fits kept) refl is

    pub retained_is : is_kept
    retained_is = by_same (same_logs its.logs logs) refl

module _ {C Dir Signer Cfg : Type 0} (c : Fixed Dir) (beside : Beside Dir) (fence : Readiness) (life : Life Dir) (old : Inclusion C Dir Signer Cfg) (seen : IsSeen old beside.inclusion) (its : Checked)
    (logs : LogMap) (canon : logs ≡ canonical c (live_of beside fence life)) (v : Verification) (idle : v.running ≡ None)
  where
    pub seen_retained : (its.logs ≡ logs → v.kept ≡ Some its) → (IsSomeAnd old.verification.kept (λ r. r.logs ≡ logs) → its.logs ≢ logs → v.kept ≡ old.verification.kept)
        → ((IsSomeAnd old.verification.kept (λ r. r.logs ≡ logs) → ⊥) → v.kept ≡ Some its)
        → IsSeen (record old { verification = v; waiter = None }) (including.retains c (checked_result_of its) (live_of beside fence life)).inclusion
    seen_retained same stays replaces = record {
      served = seen.served;
      queue = seen.queue;
      running = ap (λ (x : Option job.Job). option_map job_of x) (sym idle);
      waiter = refl;
      retained =
          (λ i. retained_by old.verification.kept v.kept logs its (checked_result_of its) (seen.retained i) (sym canon i))
          ∙ retained_is old.verification.kept v.kept logs its same stays replaces;
      cached = seen.cached;
      told = seen.told;
      used = seen.used;
    }

-- IT ENDS

module _ {Dir : Type 0} (c : Fixed Dir) (reshare : c.oneshot ≡ None) (r : core.VerifiedLogs) (beside : Beside Dir) (fence : Readiness) (life : Life Dir) where
  abbrev st : Live Dir
  st = live_of beside fence life

  abbrev completing : Course Dir Fault (Live Dir)
  completing = including.completes c r st

  abbrev keeps : Live Dir → Course Dir Fault (Live Dir)
  keeps s = Goes (including.retains c r s)

  -- for nobody
  module _ (nobody : beside.inclusion.waiter ≡ None) where
    alone : completing ≡ Goes (including.retains c r st)
    alone = ap (λ (w : Option ℕ). including.completes_in c r st w) nobody

    pub alone_speaks : {IsNow : core.Inclusion Dir → Type 0} → IsNow (including.retains c r st).inclusion → (out : List Entry)
        → EndsWith beside IsNow NoMore (λ now. Speaks completing (went (live_of now fence life)) out out)
    alone_speaks is out =
        ends_with beside (including.retains c r st).inclusion is refl (goes_speaks completing (including.retains c r st) (including.retains c r st) alone refl out)

  -- for a request
  module _ (request : ℕ) (waits : beside.inclusion.waiter ≡ Some request) where
    abbrev answers : Course Dir Fault (Live Dir)
    answers = including.artifact c r st (including.answers_request c request)

    for_request : completing ≡ bind answers keeps
    for_request = ap (λ (w : Option ℕ). including.completes_in c r st w) waits ∙ artifact_then c reshare r st (including.answers_request c request) keeps

    module _ (cache : Option (LogMap × artifact.Artifact Dir)) where
      abbrev answered : Live Dir
      answered = telling request (caching cache st)

      abbrev ended : core.Inclusion Dir
      ended = (including.retains c r answered).inclusion

      module _ {D X : Type 0} (files : D → Files) (image : D → Files → Type 0) (held : X → Secrets) (old new : Devices D X) (out now : List Entry) {IsNow : core.Inclusion Dir → Type 0} where
        pub completed_makes : IsNow ended → Makes files image held answers (went answered) old new out now
            → EndsWith beside IsNow NoMore (λ b. Makes files image held completing (went (live_of b fence life)) old new out now)
        completed_makes is made =
            ends_with beside ended is refl (same_made for_request (then_makes answers keeps answered (went (including.retains c r answered)) made
            (makes_nothing (files new.disk.now) (image new.disk.now) _ refl)))

        pub forgotten_makes : (stop : Stop) → stop ≡ Faulted NoMemory → IsNow beside.inclusion → Makes files image held answers (went answered) old new out now
            → EndsWith beside IsNow NoMore (λ b. Makes files image held completing (by_stop stop) old new out now)
        forgotten_makes stop is now_is made =
            ends_beside beside now_is refl (same_made for_request (then_makes answers keeps answered (by_stop stop) made
            (speaks_makes (keeps answered) (by_stop stop) (files new.disk.now) (image new.disk.now) (wants_speaks (keeps answered) stop is now now refl))))

        pub unanswered_makes : (stop : Stop) → IsNow beside.inclusion → Makes files image held answers (by_stop stop) old new out now
            → EndsWith beside IsNow NoMore (λ b. Makes files image held completing (by_stop stop) old new out now)
        unanswered_makes stop now_is made = ends_beside beside now_is refl (same_made for_request (early_makes answers keeps stop made))

      pub completed_told : {IsNow : core.Inclusion Dir → Type 0} (out now : List Entry) → IsNow ended → Tells answers (went answered) out now → EndsWith beside IsNow NoMore (λ b. Tells completing (went (live_of b fence life)) out now)
      completed_told out now is told =
          ends_with beside ended is refl (same_told for_request (then_told answers keeps answered (went (including.retains c r answered)) told (goes_told Dir (including.retains c r answered) now)))

      pub forgotten_told : {IsNow : core.Inclusion Dir → Type 0} (stop : Stop) → stop ≡ Faulted NoMemory → (out now : List Entry) → IsNow beside.inclusion → Tells answers (went answered) out now
          → EndsWith beside IsNow NoMore (λ b. Tells completing (by_stop stop) out now)
      forgotten_told stop is out now now_is told =
          ends_beside beside now_is refl (same_told for_request (then_told answers keeps answered (by_stop stop) told
          (speaks_tells (keeps answered) (by_stop stop) (wants_speaks (keeps answered) stop is now now refl))))

      pub unanswered_told : {IsNow : core.Inclusion Dir → Type 0} (stop : Stop) (out now : List Entry) → IsNow beside.inclusion → Tells answers (by_stop stop) out now → EndsWith beside IsNow NoMore (λ b. Tells completing (by_stop stop) out now)
      unanswered_told stop out now now_is told = ends_beside beside now_is refl (same_told for_request (early_told answers keeps stop told))

-- THE RUNNING ONE

module _ {Dir : Type 0} (c : Fixed Dir) (handed : Option core.VerifiedLogs) (beside : Beside Dir) (fence : Readiness) (life : Life Dir) where
  abbrev ending : Course Dir Fault (Live Dir)
  ending = including.ends_verifying c handed (live_of beside fence life)

  ending_as : (running : Option core.Job) → beside.inclusion.running ≡ running → ending ≡ including.ends_verifying_in c handed (live_of beside fence life) running
  ending_as running is = ap (λ (x : Option core.Job). including.ends_verifying_in c handed (live_of beside fence life) x) is

  pub none_ends : beside.inclusion.running ≡ None → ending ≡ Goes (live_of beside fence life)
  none_ends is = ending_as None is

  pub one_ends : (j : core.Job) (r : core.VerifiedLogs) → beside.inclusion.running ≡ Some j → r ≡ including.job_result_of c handed j → ending ≡ including.completes c r (live_of beside fence life)
  one_ends j r runs is = ending_as (Some j) runs ∙ ap (λ (x : core.VerifiedLogs). including.completes c x (live_of beside fence life)) (sym is)

-- WHAT HOLDS WHILE ONE RUNS, AND BEHIND IT

apart_stages : {A : Type 0} (s : Stage) → s ≡ Including → s ≡ Following → A
apart_stages s includes follows = absurd (let h : ◌≡◌ {A = Stage} Including Following = sym includes ∙ follows in cc)

pub middle_now : {Dir : Type 0} (c : Fixed Dir) (n : ℕ) (life : Life Dir) → c.blocks_per_epoch ≡ n → life.stage ≡ Including → IsPlaced n life → midpoint c.blocks_per_epoch life.epoch ≡ life.midpoint
middle_now c n life same includes placed = ap (λ (m : ℕ). midpoint m life.epoch) same ∙ sym (placed.midpoint_is (λ follows. apart_stages life.stage includes follows))

module _ {C Dir Signer Cfg : Type 0} (check_log_of : CheckLogOf) (dealing_of : DealingOf) (finish_of : FinishOf) (n : ℕ) (life : Life Dir) (its : Inclusion C Dir Signer Cfg)
    (ready : IsReadyInclusion check_log_of dealing_of finish_of n life its)
  where
    running_includes : (o : Option job.Job) → IsSome o → IfSome o (λ j. (life.stage ≡ Including) × (life.round ≡ Some j.round) × IsRunnable dealing_of finish_of j) → life.stage ≡ Including
    running_includes None some runs = absurd (let h : false ≡ true = some in cc)
    running_includes (Some j) some runs = runs.0

    pub includes_now : IsSome its.verification.running → life.stage ≡ Including
    includes_now some = running_includes its.verification.running some ready.runs

    pub ready_behind : (v : Verification) (waiter : Option ℕ) (cache : Option (LogMap × artifact.Artifact Dir)) (answers : FinMap nat_cmp (Told Dir)) → v.running ≡ None
        → IsReadyInclusion check_log_of dealing_of finish_of n life (record its { verification = v; waiter = waiter; cache = cache; told = answers })
    ready_behind v waiter cache answers idle = record {
      hand = ready.hand;
      free = λ some. idle;
      runs = subst (λ (o : Option job.Job). IfSome o (λ j. (life.stage ≡ Including) × (life.round ≡ Some j.round) × IsRunnable dealing_of finish_of j)) (sym idle) tt;
      idle = ready.idle;
      current = ready.current;
      unserved = ready.unserved;
    }
