-- Requests that are read and answered: what a call makes of them, from what its parts made.
use Rattle.std.proofs.Common.{◌≡◌, inl, inr, ℕ, ◌+◌, ◌-◌, ◌≤◌, ◌<◌, Bool, true, false, List, [], ◌∷◌, ◌++◌, length, Option, Some, None, is_some, Result, Ok, Err, refl, sym, ◌∙◌, ap, subst, arith}
use Rattle.std.specs.Prelude.{◌==◌, ◌⊎◌, ◌↔◌, Contains, map, filter, not, IsSome, IsSomeAnd, OnOk, option_and_then, option_map, if◌then◌else◌}
use Rattle.std.specs.Option.{option_map_or}
use Rattle.std.specs.FinMap as maps
use Rattle.std.specs.FinMap.{FinMap}
use Rattle.std.specs.Ordering.{nat_cmp}
use Rattle.std.proofs.lemmas.Bool.{eqb-true}
use Rattle.std.proofs.lemmas.Bool.Decides.{nat_tests}
use Rattle.std.proofs.lemmas.List.{length-map, map-append}
use Rattle.std.proofs.lemmas.List.Elements.{Contains-append_left, Contains-append_right, Contains-push}
use Rattle.std.proofs.lemmas.Map.Made.{Contains-tail}
use Rattle.dkg_values.specs.Rising.{lookup}
use Rattle.dkg_journal.specs.Names.{Files}
use Rattle.dkg_ceremony.specs.declared.round.RoundParts.{RoundParts as Round}
use Rattle.dkg_ceremony.specs.Outcomes.{LogMap}
use Rattle.dkg_fence.specs.Readiness.{Readiness}
use Rattle.dkg_types.specs.PayloadCodes.{info_payload}
use Rattle.dkg_infos.specs.declared.entry.Entry.{Entry}
use Rattle.dkg_infos.specs.declared.fault.Fault.{Fault}
use Rattle.dkg_artifact.specs.Requested as requested
use Rattle.dkg_artifact.specs.Requested.{is_other}
use Rattle.dkg_artifact.specs.Results.{Checked}
use Rattle.dkg_artifact.specs.declared.artifact.Artifact as artifact
use Rattle.dkg_artifact.specs.declared.scan.Fed as scan
use Rattle.dkg_secrets.specs.Secrets.{Secrets}
use Rattle.dkg_store.specs.Acts.{Ended, went}
use Rattle.dkg_store.specs.declared.devices.Devices.{Devices}
use Rattle.dkg_core.specs.Courses.{Course, Goes, bind}
use Rattle.dkg_core.specs.Fixed.{Fixed}
use Rattle.dkg_core.specs.Including as including
use Rattle.dkg_core.specs.Including.{advanced, advances, asks_logs}
use Rattle.dkg_core.specs.Live as core
use Rattle.dkg_core.specs.Live.{Live, with_told}
use Rattle.dkg_verifying.specs.declared.inclusion.Hand.{Hand}
use Rattle.dkg_verifying.specs.declared.inclusion.Inclusion.{Inclusion}
use Rattle.dkg_life.specs.declared.life.Life.{Life}
use Rattle.dkg_life.specs.declared.life.Stage.TheVariants as stage
use Rattle.dkg_life.specs.declared.stop.Stop.{Stop}
use Rattle.dkg_verifying.specs.declared.told.EpochInfoResponse.TheVariants.{Available}
use Rattle.dkg_verifying.specs.declared.told.Told.{Told}
use Rattle.dkg_verifying.specs.declared.told.Told.TheVariants.{Info}
use Rattle.dkg_life.specs.Ends.{by_stop, ends_in}
use Rattle.dkg_verifying.specs.Including.{EndsCaching, behind_first, caching, fed_of, goes_on, on_fed, reads_next, telling, unless_of}
use Rattle.dkg_verifying.specs.InclusionOf.{IsSeen, answer_or, artifact_of, cached_of, in_front, job_of, kept_of, posted_in, waiting_request_of, checked_result_of}
use Rattle.dkg_life.specs.LiveOf.{Beside, EndsWith, live_of, stage_of}
use Rattle.dkg_life.specs.Made.{Makes, Tells}
use Rattle.dkg_inclusion.proofs.Advancing.{ReadsFirst, Waits, WaitsBy, advances_next, advances_over, goes_by, next_is, waits_advances, waits_next}
use Rattle.dkg_life.proofs.Burning.{makes_nothing}
use Rattle.dkg_life.proofs.Chained.{early_makes, early_told, then_makes, then_told}
use Rattle.dkg_life.proofs.Committing.{goes_told}
use Rattle.dkg_verifying.proofs.Keeping.{cached_none, cached_some, kept_none, kept_some}
use Rattle.dkg_inclusion.proofs.Requesting.{seen_queue}
use Rattle.dkg_verifying.proofs.Telling.{ends_with, got_then, seen_told}
use Rattle.dkg_verifying.proofs.Within.{NoMore}

-- COURSES THAT WERE MADE, over devices or by their lines alone

-- what holds of them as they come one behind another
pub record Joins {Dir W : Type 0} (R : Course Dir Fault (Live Dir) → Ended Fault (Live Dir) → W → W → Type 0) : Type 0 where
  pub nothing : (st : Live Dir) (x : W) → R (Goes st) (went st) x x
  pub next : (course : Course Dir Fault (Live Dir)) (f : Live Dir → Course Dir Fault (Live Dir)) (end : Live Dir) (how : Ended Fault (Live Dir)) (x y z : W)
      → R course (went end) x y → R (f end) how y z → R (bind course f) how x z
  pub early : (course : Course Dir Fault (Live Dir)) (f : Live Dir → Course Dir Fault (Live Dir)) (its : Stop) (x y : W) → R course (by_stop its) x y → R (bind course f) (by_stop its) x y

module _ {Dir D X : Type 0} (files : D → Files) (image : D → Files → Type 0) (held : X → Secrets) where
  abbrev pub MakesOver : Course Dir Fault (Live Dir) → Ended Fault (Live Dir) → Devices D X × List Entry → Devices D X × List Entry → Type 0
  MakesOver course how x y = Makes files image held course how x.0 y.0 x.1 y.1

  pub makes_joins : Joins MakesOver
  makes_joins = record {
    nothing = λ st x. makes_nothing (files x.0.disk.now) (image x.0.disk.now) _ refl;
    next = λ course f end how x y z first second. then_makes course f end how first second;
    early = λ course f its x y first. early_makes course f its first;
  }

module _ {Dir : Type 0} where
  abbrev pub TellsOver : Course Dir Fault (Live Dir) → Ended Fault (Live Dir) → List Entry → List Entry → Type 0
  TellsOver course how x y = Tells course how x y

  pub tells_joins : Joins TellsOver
  tells_joins = record {
    nothing = λ st x. goes_told Dir st x;
    next = λ course f end how x y z first second. then_told course f end how first second;
    early = λ course f its x y first. early_told course f its first;
  }

module _ {Dir W : Type 0} (R : Course Dir Fault (Live Dir) → Ended Fault (Live Dir) → W → W → Type 0) where
  -- the same course
  pub joined_as : {its course : Course Dir Fault (Live Dir)} {how : Ended Fault (Live Dir)} {x y : W} → its ≡ course → R course how x y → R its how x y
  joined_as {its} {course} {how} {x} {y} same made = subst (λ (a : Course Dir Fault (Live Dir)). R a how x y) (sym same) made

  module _ (joins : Joins R) (c : Fixed Dir) where
    -- ONE REQUEST BEHIND ANOTHER

    -- one more
    pub one_more : (i : ℕ) (st now : Live Dir) (how : Ended Fault (Live Dir)) (x y z : W) → R (advances c i st) (went now) x y → R (reads_next c now) how y z → R (advances c (i + 1) st) how x z
    one_more i st now how x y z first second = joined_as (advances_next c i st) (joins.next (advances c i st) (λ s. reads_next c s) now how x y z first second)

    -- no other can be read
    pub no_more : (i most : ℕ) → i ≤ most → (st now : Live Dir) (x y : W) → R (advances c i st) (went now) x y → Waits c now → R (advances c most st) (went now) x y
    no_more i most le st now x y first waits =
        joined_as (advances_over c i (most - i) most (omega arith) st)
        (joins.next (advances c i st) (λ s. advances c (most - i) s) now (went now) x y y first (joined_as (waits_advances c (most - i) now waits) (joins.nothing now y)))

    -- it stopped
    pub stopped_at : (i most : ℕ) → i ≤ most → (st : Live Dir) (its : Stop) (x y : W) → R (advances c i st) (by_stop its) x y → R (advances c most st) (by_stop its) x y
    stopped_at i most le st its x y first =
        joined_as (advances_over c i (most - i) most (omega arith) st) (joins.early (advances c i st) (λ s. advances c (most - i) s) its x y first)

-- IN MEMORY

pub not_some : {A : Type 0} (o : Option A) → ((x : A) → o ≡ Some x → ⊥) → IsSome o → ⊥
not_some None apart some = cc
not_some (Some x) apart some = apart x refl

module _ {C Dir Signer Cfg : Type 0} (its : Inclusion C Dir Signer Cfg) (i : core.Inclusion Dir) (seen : IsSeen its i) where
  pub seen_cached : (cache : Option (LogMap × artifact.Artifact Dir)) → IsSeen (record its { cache = cache }) (record i { cached = option_map cached_of cache })
  seen_cached cache = record {
    served = seen.served;
    queue = seen.queue;
    running = seen.running;
    waiter = seen.waiter;
    retained = seen.retained;
    cached = refl;
    told = seen.told;
    used = seen.used;
  }

  pub seen_requests : (requests : List (requested.WaitingRequest Dir)) → requests ≡ its.requests → IsSeen (record its { requests = requests }) i
  seen_requests requests same = seen_queue its i its.hand requests i.queue (seen.queue ∙ ap (λ (rs : List (requested.WaitingRequest Dir)). map waiting_request_of (in_front its.hand rs)) (sym same)) seen

  -- nobody waits for the verification
  pub seen_nobody : IsSeen (record its { waiter = None }) (record i { waiter = None })
  seen_nobody = record {
    served = seen.served;
    queue = seen.queue;
    running = seen.running;
    waiter = refl;
    retained = seen.retained;
    cached = seen.cached;
    told = seen.told;
    used = seen.used;
  }

  -- the requests behind the one in hand
  pub seen_behind : IsSeen (record its { hand = None }) (record i { queue = map waiting_request_of its.requests })
  seen_behind = seen_queue its i None its.requests (map waiting_request_of its.requests) refl seen

  front_more : (hand : Option (Hand Dir Cfg)) (r : requested.WaitingRequest Dir) → in_front hand its.requests ++ r ∷ [] ≡ in_front hand (its.requests ++ r ∷ [])
  front_more None r = refl
  front_more (Some hand) r = refl

  -- a request more
  pub seen_more : (r : requested.WaitingRequest Dir) → IsSeen (record its { requests = its.requests ++ r ∷ [] }) (record i { queue = i.queue ++ waiting_request_of r ∷ [] })
  seen_more r =
      seen_queue its i its.hand (its.requests ++ r ∷ []) (i.queue ++ waiting_request_of r ∷ [])
      (ap (λ (q : List (core.Request Dir)). q ++ waiting_request_of r ∷ []) seen.queue
      ∙ sym (map-append waiting_request_of (in_front its.hand its.requests) (r ∷ []))
      ∙ ap (λ (rs : List (requested.WaitingRequest Dir)). map waiting_request_of rs) (front_more its.hand r)) seen

-- others than these
module _ {Dir : Type 0} (request : ℕ) where
  others_kept : (rs : List (requested.WaitingRequest Dir)) → filter (λ r. not (r.number == request)) (map waiting_request_of rs) ≡ map waiting_request_of (filter (is_other request) rs)
  others_kept [] = refl
  others_kept (r ∷ rs) = by_test (r.number == request) (others_kept rs)
    where
      by_test : (same : Bool) → filter (λ r. not (r.number == request)) (map waiting_request_of rs) ≡ map waiting_request_of (filter (is_other request) rs)
          → (if not same then waiting_request_of r ∷ filter (λ r. not (r.number == request)) (map waiting_request_of rs) else filter (λ r. not (r.number == request)) (map waiting_request_of rs))
          ≡ map waiting_request_of (if not same then r ∷ filter (is_other request) rs else filter (is_other request) rs)
      by_test true rest = rest
      by_test false rest = ap (λ (l : List (core.Request Dir)). waiting_request_of r ∷ l) rest

  others_in_front : {Cfg : Type 0} (hand : Option (Hand Dir Cfg)) (rs : List (requested.WaitingRequest Dir)) → filter (is_other request) (in_front hand rs) ≡ in_front (unless_of request hand) (filter (is_other request) rs)
  others_in_front None rs = refl
  others_in_front {Cfg} (Some hand) rs = by_test (hand.request.number == request)
    where
      by_test : (same : Bool) → (if not same then hand.request ∷ filter (is_other request) rs else filter (is_other request) rs) ≡ in_front {Cfg = Cfg} (if same then None else Some hand) (filter (is_other request) rs)
      by_test true = refl
      by_test false = refl

  pub seen_others : {C Signer Cfg : Type 0} (its : Inclusion C Dir Signer Cfg) (i : core.Inclusion Dir) → IsSeen its i
      → IsSeen (record its { hand = unless_of request its.hand; requests = filter (is_other request) its.requests }) (record i { queue = filter (λ r. not (r.number == request)) i.queue })
  seen_others its i seen =
      seen_queue its i (unless_of request its.hand) (filter (is_other request) its.requests) (filter (λ r. not (r.number == request)) i.queue)
      (ap (λ (q : List (core.Request Dir)). filter (λ r. not (r.number == request)) q) seen.queue
      ∙ others_kept (in_front its.hand its.requests)
      ∙ ap (λ (rs : List (requested.WaitingRequest Dir)). map waiting_request_of rs) (others_in_front its.hand its.requests)) seen

-- ANSWERS

module _ {C Dir Signer Cfg W : Type 0} (R : Course Dir Fault (Live Dir) → Ended Fault (Live Dir) → W → W → Type 0) (beside : Beside Dir) (fence : Readiness) (life : Life Dir) (its : Inclusion C Dir Signer Cfg)
    (seen : IsSeen its beside.inclusion) (request : ℕ) (result : Result (Unit {0}) Stop) (course : Course Dir Fault (Live Dir)) (x y : W)
  where
    abbrev EndsBy : Inclusion C Dir Signer Cfg → Type 0
    EndsBy new = EndsWith beside (λ i. OnOk result (IsSeen new i)) NoMore (λ now. R course (ends_in (live_of now fence life) result) x y)

    -- it was told this
    pub told_ends : (what : Told Dir) (answer : core.RequestAnswer Dir) → kept_of what ≡ Some answer → (told : FinMap nat_cmp (Told Dir)) → OnOk result (told ≡ maps.insert its.told request what)
        → R course (ends_in (with_told request answer (live_of beside fence life)) result) x y → EndsBy (record its { told = told })
    told_ends what answer kept told is made = ends_with beside (record beside.inclusion { told = (request, answer) ∷ beside.inclusion.told }) (by_result result is) refl made
      where
        by_result : (r : Result (Unit {0}) Stop) → OnOk r (told ≡ maps.insert its.told request what) → OnOk r (IsSeen (record its { told = told }) (record beside.inclusion { told = (request, answer) ∷ beside.inclusion.told }))
        by_result (Ok done) is =
            subst (λ (t : FinMap nat_cmp (Told Dir)). IsSeen (record its { told = t }) (record beside.inclusion { told = (request, answer) ∷ beside.inclusion.told })) (sym is)
            (seen_told its beside.inclusion request what answer kept seen)
        by_result (Err stop) is = tt

    -- .. by an artifact that is cached then
    pub cached_ends : (cache : Option (LogMap × artifact.Artifact Dir)) (told : FinMap nat_cmp (Told Dir)) (logs : LogMap)
        → OnOk result (IsSomeAnd cache (λ k. (k.0 ≡ logs) × (told ≡ maps.insert its.told request (Info (Available (option_map info_payload k.1.info))))))
        → EndsCaching cache (live_of beside fence life) (λ now. R course (ends_in (telling request now) result) x y) → EndsBy (record its { cache = cache; told = told })
    cached_ends cache told logs is made = ends_with beside (telling request (caching cache (live_of beside fence life))).inclusion (by_result result is) refl made
      where
        by_cache : (k : Option (LogMap × artifact.Artifact Dir)) → IsSomeAnd k (λ k. (k.0 ≡ logs) × (told ≡ maps.insert its.told request (Info (Available (option_map info_payload k.1.info)))))
            → IsSeen (record its { cache = k; told = told }) (telling request (caching k (live_of beside fence life))).inclusion
        by_cache None is = absurd is
        by_cache (Some k) is =
            subst (λ (t : FinMap nat_cmp (Told Dir)). IsSeen (record its { cache = Some k; told = t }) (telling request (caching (Some k) (live_of beside fence life))).inclusion) (sym is.1)
            (seen_told (record its { cache = Some k }) (record beside.inclusion { cached = Some (cached_of k) }) request (Info (Available (option_map info_payload k.1.info))) (core.GaveInfo (option_map info_payload k.1.info)) refl
            (seen_cached its beside.inclusion seen (Some k)))

        by_result : (r : Result (Unit {0}) Stop) → OnOk r (IsSomeAnd cache (λ k. (k.0 ≡ logs) × (told ≡ maps.insert its.told request (Info (Available (option_map info_payload k.1.info))))))
            → OnOk r (IsSeen (record its { cache = cache; told = told }) (telling request (caching cache (live_of beside fence life))).inclusion)
        by_result (Ok done) is = by_cache cache is
        by_result (Err stop) is = tt

-- WHERE AN ANSWER COMES FROM

module _ {C Dir Signer Cfg : Type 0} (c : Fixed Dir) (round : Round) (request : ℕ) (logs : LogMap) (beside : Beside Dir) (fence : Readiness) (life : Life Dir) (its : Inclusion C Dir Signer Cfg)
    (seen : IsSeen its beside.inclusion)
  where
    abbrev st : Live Dir
    st = live_of beside fence life

    asks_by : (cached : Option (core.Artifact Dir)) (retained : Option core.VerifiedLogs) → including.cached_for st.inclusion.cached logs ≡ cached → including.retained_for st.inclusion.retained logs ≡ retained
        → asks_logs c round request logs st ≡ including.asks_for_by c round request logs cached retained st
    asks_by cached retained of_cache of_kept = λ i. including.asks_for_by c round request logs (of_cache i) (of_kept i) st

    uncached : (IsSomeAnd its.cache (λ k. k.0 ≡ logs) → ⊥) → including.cached_for st.inclusion.cached logs ≡ None
    uncached apart = ap (λ (d : Option (core.Cached Dir)). including.cached_for d logs) seen.cached ∙ sym (cached_none logs its.cache apart)

    retained : including.retained_for st.inclusion.retained logs ≡ including.retained_for (option_map checked_result_of its.verification.kept) logs
    retained = ap (λ (r : Option core.VerifiedLogs). including.retained_for r logs) seen.retained

    -- from the cache,
    pub from_cache : IsSomeAnd its.cache (λ k. k.0 ≡ logs) → (made : artifact.Artifact Dir) → Some made ≡ option_map (λ k. k.1) its.cache → asks_logs c round request logs st ≡ including.answers_request c request (artifact_of made) st
    from_cache is made kept =
        asks_by (Some (artifact_of made)) (including.retained_for st.inclusion.retained logs) (ap (λ (d : Option (core.Cached Dir)). including.cached_for d logs) seen.cached ∙ sym (cached_some logs its.cache is made kept)) refl

    -- .. from the result that is kept,
    pub from_kept : (IsSomeAnd its.cache (λ k. k.0 ≡ logs) → ⊥) → IsSomeAnd its.verification.kept (λ r. r.logs ≡ logs) → (found : Checked) → Some found ≡ its.verification.kept
        → asks_logs c round request logs st ≡ including.artifact c (checked_result_of found) st (including.answers_request c request)
    from_kept apart is found kept = asks_by None (Some (checked_result_of found)) (uncached apart) (retained ∙ kept_some logs its.verification.kept is ∙ sym (ap (λ (o : Option Checked). option_map checked_result_of o) kept))

    -- .. or from a verification that starts
    pub from_none : (IsSomeAnd its.cache (λ k. k.0 ≡ logs) → ⊥) → (IsSomeAnd its.verification.kept (λ r. r.logs ≡ logs) → ⊥) → asks_logs c round request logs st ≡ including.starts_verifying c round logs (Some request) st
    from_none apart unkept = asks_by None None (uncached apart) (retained ∙ kept_none logs its.verification.kept unkept)

-- THE FIRST THAT WAITS

module _ {C Dir Signer Cfg : Type 0} (c : Fixed Dir) (beside : Beside Dir) (fence : Readiness) (life : Life Dir) (its : Inclusion C Dir Signer Cfg) (seen : IsSeen its beside.inclusion)
    (includes : life.stage ≡ stage.Including) (none : its.hand ≡ None) (free : its.verification.running ≡ None) (r : requested.WaitingRequest Dir) (rs : List (requested.WaitingRequest Dir)) (first : its.requests ≡ r ∷ rs)
  where
    -- what inclusion has without it
    abbrev pub behind_it : Beside Dir
    behind_it = record beside { inclusion = record beside.inclusion { queue = map waiting_request_of rs } }

    front_none : (hand : Option (Hand Dir Cfg)) (waiting : List (requested.WaitingRequest Dir)) → hand ≡ None → in_front hand waiting ≡ waiting
    front_none hand waiting is = ap (λ (o : Option (Hand Dir Cfg)). in_front o waiting) is

    pub seen_popped : IsSeen (record its { requests = rs }) behind_it.inclusion
    seen_popped = seen_queue its beside.inclusion its.hand rs (map waiting_request_of rs) (ap (λ (l : List (requested.WaitingRequest Dir)). map waiting_request_of l) (sym (front_none its.hand rs none))) seen

    queue_is : beside.inclusion.queue ≡ waiting_request_of r ∷ map waiting_request_of rs
    queue_is = seen.queue ∙ ap (λ (l : List (requested.WaitingRequest Dir)). map waiting_request_of l) (front_none its.hand its.requests none ∙ first)

    -- It is in hand.
    pub seen_held : (hand : Hand Dir Cfg) → hand.request ≡ r → IsSeen (record its { hand = Some hand; requests = rs }) beside.inclusion
    seen_held hand is = seen_queue its beside.inclusion (Some hand) rs beside.inclusion.queue (queue_is ∙ ap (λ (q : requested.WaitingRequest Dir). waiting_request_of q ∷ map waiting_request_of rs) (sym is)) seen

    pub reads_it : (round : Round) → life.round ≡ Some round → ReadsFirst c (live_of beside fence life) round (waiting_request_of r) (map waiting_request_of rs)
    reads_it round has = record {
      round_is = has;
      includes = ap stage_of includes;
      free = seen.running ∙ ap (option_map job_of) free;
      queue = queue_is;
    }

    -- It is answered.
    pub answered_next : (round : Round) → life.round ≡ Some round → (x : scan.Fed) → including.read_of c round (live_of beside fence life) (waiting_request_of r) ≡ fed_of x → including.is_need (fed_of x) ≡ false
        → reads_next c (live_of beside fence life) ≡ on_fed c round r.number (fed_of x) (live_of behind_it fence life)
    answered_next round has x is answered = next_is c (live_of beside fence life) round (waiting_request_of r) (map waiting_request_of rs) (reads_it round has) (fed_of x) is answered

    -- .. or needs more.
    pub needed_next : (round : Round) → life.round ≡ Some round → (x : scan.Fed) → including.read_of c round (live_of beside fence life) (waiting_request_of r) ≡ fed_of x → including.is_need (fed_of x) ≡ true
        → reads_next c (live_of beside fence life) ≡ Goes (live_of beside fence life)
    needed_next round has x is needs = waits_next c (live_of beside fence life) (λ its had.
        let same : round ≡ its = one_round round its (sym has ∙ had) in
        subst (λ (q : Round). WaitsBy c q (live_of beside fence life) (stage_of life.stage) beside.inclusion.running beside.inclusion.queue) same
        (let w = reads_it round has in
        subst (λ (s : core.Stage). WaitsBy c round (live_of beside fence life) s beside.inclusion.running beside.inclusion.queue) (sym w.includes)
        (subst (λ (j : Option core.Job). WaitsBy c round (live_of beside fence life) core.Includes j beside.inclusion.queue) (sym w.free)
        (subst (λ (q : List (core.Request Dir)). WaitsBy c round (live_of beside fence life) core.Includes None q) (sym w.queue) (ap including.is_need is ∙ needs)))))
      where
        one_round : (a b : Round) → ◌≡◌ {A = Option Round} (Some a) (Some b) → a ≡ b
        one_round a b e = cc

-- no round, no reading
pub roundless_next : {Dir : Type 0} (c : Fixed Dir) (st : Live Dir) → st.participation.round ≡ None → reads_next c st ≡ Goes st
roundless_next c st none = waits_next c st (λ round has. absurd (let e : ◌≡◌ {A = Option Round} None (Some round) = sym none ∙ has in cc))

-- WHAT IS IN HAND WAS ANSWERED

module _ {C Dir Signer Cfg W : Type 0} (R : Course Dir Fault (Live Dir) → Ended Fault (Live Dir) → W → W → Type 0) (joins : Joins R) (c : Fixed Dir) (request : ℕ) (beside : Beside Dir) (fence : Readiness) (life : Life Dir)
    (its : Inclusion C Dir Signer Cfg) (seen : IsSeen its beside.inclusion) (hand : Hand Dir Cfg) (has : its.hand ≡ Some hand) (round : Round) (joined : life.round ≡ Some round) (x : scan.Fed) (answered : including.is_need (fed_of x) ≡ false)
  where
    -- without it
    abbrev pub behind_hand : Beside Dir
    behind_hand = record beside { inclusion = record beside.inclusion { queue = map waiting_request_of its.requests } }

    behind_is : behind_first beside.inclusion.queue ≡ map waiting_request_of its.requests
    behind_is = ap (λ (q : List (core.Request Dir)). behind_first q) (seen.queue ∙ ap (λ (o : Option (Hand Dir Cfg)). map waiting_request_of (in_front o its.requests)) has)

    abbrev answers_in : List (core.Request Dir) → Round → Course Dir Fault (Live Dir)
    answers_in rest round = bind (including.fed c round request (core.with_queue rest (live_of beside fence life)) (fed_of x)) (λ now. advances c (length rest) now)

    goes_is : goes_on c request (fed_of x) (live_of beside fence life) ≡ bind (on_fed c round request (fed_of x) (live_of behind_hand fence life)) (λ now. advances c (length (map waiting_request_of its.requests)) now)
    goes_is =
        goes_by c request (live_of beside fence life) (fed_of x) answered
        ∙ ap (λ (o : Option Round). option_map_or (answers_in (behind_first beside.inclusion.queue)) o (Goes (live_of beside fence life))) joined
        ∙ ap (λ (rest : List (core.Request Dir)). answers_in rest round) behind_is

    -- the answer stopped
    pub answer_stopped : (its : Stop) (a z : W) → R (on_fed c round request (fed_of x) (live_of behind_hand fence life)) (by_stop its) a z → R (goes_on c request (fed_of x) (live_of beside fence life)) (by_stop its) a z
    answer_stopped stop a z made = joined_as R goes_is (joins.early (on_fed c round request (fed_of x) (live_of behind_hand fence life)) (λ now. advances c (length (map waiting_request_of its.requests)) now) stop a z made)

    -- the others behind it
    pub answer_then : (mid : Inclusion C Dir Signer Cfg) → mid.hand ≡ None → mid.requests ≡ its.requests → (now : Beside Dir) → IsSeen mid now.inclusion → (how : Ended Fault (Live Dir)) (later : Life Dir) (a b z : W)
        → R (on_fed c round request (fed_of x) (live_of behind_hand fence life)) (went (live_of now fence later)) a b → R (advanced c (live_of now fence later)) how b z
        → R (goes_on c request (fed_of x) (live_of beside fence life)) how a z
    answer_then mid none same now seen_now how later a b z first second =
        joined_as R goes_is
        (joins.next (on_fed c round request (fed_of x) (live_of behind_hand fence life)) (λ now. advances c (length (map waiting_request_of its.requests)) now) (live_of now fence later) how a b z first
        (subst (λ (q : List (core.Request Dir)). R (advances c (length q) (live_of now fence later)) how b z)
        (seen_now.queue ∙ (λ i. map waiting_request_of (in_front (none i) (same i)))) second))

-- THOSE THAT WAIT are no more than there are in all

pub front_length : {Dir Cfg : Type 0} (hand : Option (Hand Dir Cfg)) (requests : List (requested.WaitingRequest Dir)) → length requests ≤ length (map waiting_request_of (in_front hand requests))
front_length None requests = omega (arith, length-map requests waiting_request_of)
front_length (Some hand) requests = omega (arith, length-map requests waiting_request_of)

-- one fewer waits behind the first
pub behind_length : {A : Type 0} (rs now : List A) (turn count : ℕ) → now ≡ behind_first rs → length rs + turn ≤ count → turn < count → length now + (turn + 1) ≤ count
behind_length [] now turn count is left in_time = let e : length now ≡ 0 = ap length is in omega (arith, e, left, in_time)
behind_length (r ∷ rs) now turn count is left in_time = let e : length now ≡ length rs = ap length is in omega (arith, e, left, in_time)

-- A REQUEST IS MADE

module _ {C Dir Signer Cfg : Type 0} (its : Inclusion C Dir Signer Cfg) (i : core.Inclusion Dir) (seen : IsSeen its i) (request : ℕ) where
  kept_or : (o : Option (Told Dir)) → kept_of (answer_or o) ≡ option_and_then kept_of o
  kept_or None = refl
  kept_or (Some its) = refl

  -- What it was told before stays.
  pub seen_posted : IsSeen (record its { told = posted_in request its.told }) (record i { used = request ∷ i.used })
  seen_posted = record {
    served = seen.served;
    queue = seen.queue;
    running = seen.running;
    waiter = seen.waiter;
    retained = seen.retained;
    cached = seen.cached;
    told = λ q. told_by q (request == q) refl ∙ ap (λ (o : Option (Told Dir)). option_and_then kept_of o) (sym (got_then its.told request (answer_or (maps.get its.told request)) q));
    used = λ q. subst (λ (o : Option (Told Dir)). (Contains (request ∷ i.used) q ⊎ IsSome (lookup q i.told)) ↔ IsSome o) (sym (got_then its.told request (answer_or (maps.get its.told request)) q)) (used_by q (request == q) refl);
  }
    where
      told_by : (q : ℕ) (same : Bool) → (request == q) ≡ same → lookup q i.told ≡ option_and_then kept_of (if same then Some (answer_or (maps.get its.told request)) else maps.get its.told q)
      told_by q true same = subst (λ (k : ℕ). lookup k i.told ≡ kept_of (answer_or (maps.get its.told request))) (eqb-true request q same) (seen.told request ∙ sym (kept_or (maps.get its.told request)))
      told_by q false same = seen.told q

      first_used : (q : ℕ) → request ≡ q → Contains (request ∷ i.used) q
      first_used q same = subst (λ (k : ℕ). Contains (request ∷ i.used) k) same (Contains-append_left (request ∷ []) i.used request (Contains-push [] request))

      there : (q : ℕ) → (request == q) ≡ false → Contains (request ∷ i.used) q ⊎ IsSome (lookup q i.told) → IsSome (maps.get its.told q)
      there q same (inl has) = (seen.used q).0 (inl (Contains-tail request i.used q (λ e. grind (arith, nat_tests)) has))
      there q same (inr has) = (seen.used q).0 (inr has)

      back : (q : ℕ) → Contains i.used q ⊎ IsSome (lookup q i.told) → Contains (request ∷ i.used) q ⊎ IsSome (lookup q i.told)
      back q (inl has) = inl (Contains-append_right (request ∷ []) i.used q has)
      back q (inr has) = inr has

      used_by : (q : ℕ) (same : Bool) → (request == q) ≡ same
          → (Contains (request ∷ i.used) q ⊎ IsSome (lookup q i.told)) ↔ IsSome (if same then Some (answer_or (maps.get its.told request)) else maps.get its.told q)
      used_by q true same = (λ any. refl, λ any. inl (first_used q (eqb-true request q same)))
      used_by q false same = (there q same, λ has. back q ((seen.used q).1 has))

-- A VERIFICATION ENDS, if one runs

module _ {Dir : Type 0} (c : Fixed Dir) (handed : Option core.VerifiedLogs) (st : Live Dir) where
  abbrev works_in : Bool → Course Dir Fault (Live Dir)
  works_in runs = if runs then bind (including.ends_verifying c handed st) (λ st. advanced c st) else Goes st

  pub works_by : (runs : Bool) → is_some st.inclusion.running ≡ runs → including.works c handed st ≡ works_in runs
  works_by runs is = ap (λ (b : Bool). works_in b) is
