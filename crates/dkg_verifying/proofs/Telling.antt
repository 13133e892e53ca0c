-- What a request is told, in memory and in the relation.
use Rattle.std.proofs.Common.{◌≡◌, inl, inr, ℕ, Bool, true, false, cond, List, [], ◌∷◌, ◌++◌, Bor, Option, Some, None, Result, Ok, Err, is_some, refl, sym, ◌∙◌, ap, subst, arith}
use Rattle.std.specs.Option.{option_copied}
use Rattle.std.specs.Prelude.{◌==◌, ◌&&◌, ◌⊎◌, ◌↔◌, Contains, IfOk, IsSome, if◌then◌else◌, option_and_then, option_map}
use Rattle.std.specs.Cmp.{nat_cmp_total}
use Rattle.std.specs.FinMap.{FinMap, get, get-insert, insert}
use Rattle.std.specs.Ordering.{eq_by_cmp, nat_cmp}
use Rattle.std.proofs.lemmas.Bool.Decides.{nat_tests}
use Rattle.std.proofs.lemmas.List.Elements.{Contains-append_right}
use Rattle.std.proofs.lemmas.Map.Made.{Contains-tail}
use Rattle.dkg_values.specs.Rising.{lookup}
use Rattle.dkg_ceremony.specs.Outcomes.{LogMap}
use Rattle.dkg_ceremony.specs.declared.signed_log.SignedDealerLog.{SignedDealerLog}
use Rattle.dkg_artifact.specs.declared.artifact.Artifact as artifact
use Rattle.dkg_fence.specs.Readiness.{Readiness}
use Rattle.dkg_types.specs.PayloadCodes.{log_payload, payload_spelling}
use Rattle.dkg_infos.specs.declared.entry.Entry.{Entry}
use Rattle.dkg_infos.specs.declared.entry.Entry.TheVariants.{Log}
use Rattle.dkg_infos.specs.declared.fault.Fault.{Fault}
use Rattle.dkg_infos.specs.declared.fault.Fault.TheVariants.{NoMemory}
use Rattle.dkg_types.specs.declared.payload.Payload.{Payload}
use Rattle.dkg_types.specs.declared.scheme.SchemeInfo.{SchemeInfo}
use Rattle.dkg_store.specs.Acts as acts_of
use Rattle.dkg_store.specs.Acts.{broken, by_want, went}
use Rattle.dkg_store.proofs.Acts.{breaks_none}
use Rattle.dkg_core.specs.Core.{no_inclusion}
use Rattle.dkg_core.specs.Courses.{Course, Goes, Say}
use Rattle.dkg_core.specs.Fixed.{Fixed}
use Rattle.dkg_core.specs.Including as including
use Rattle.dkg_core.specs.Live as core
use Rattle.dkg_core.specs.Live.{Live}
use Rattle.dkg_verifying.specs.declared.inclusion.Inclusion.{Inclusion}
use Rattle.dkg_life.specs.declared.life.Life.{Life}
use Rattle.dkg_life.specs.declared.life.Stage as declared
use Rattle.dkg_life.specs.declared.life.Stage.TheVariants as stage
use Rattle.dkg_life.specs.declared.stop.Stop.{Stop}
use Rattle.dkg_life.specs.declared.stop.Stop.TheVariants.{Fault as Faulted}
use Rattle.dkg_verifying.specs.declared.told.Told.{Told}
use Rattle.dkg_verifying.specs.declared.told.Told.TheVariants as told
use Rattle.dkg_life.specs.Ends.{by_stop}
use Rattle.dkg_verifying.specs.InclusionOf.{IsSeen, cached_of, kept_of}
use Rattle.dkg_life.specs.LiveOf.{Beside, EndsWith, live_of, no_fence, nothing_beside, stage_of}
use Rattle.dkg_life.specs.Made.{Speaks}
use Rattle.dkg_life.proofs.Speaking.{says_speaks, wants_speaks}

-- A MAP WITH ONE KEY MORE

equal_alike : (q k : ℕ) → eq_by_cmp nat_cmp q k ≡ (k == q)
equal_alike q k = grind (arith, nat_tests)

pub got_then : {V : Type 0} (m : FinMap nat_cmp V) (k : ℕ) (v : V) (q : ℕ) → get (insert m k v) q ≡ (if k == q then Some v else get m q)
got_then m k v q = get-insert nat_cmp_total m k v q ∙ ap (λ (b : Bool). cond b (Some v) (get m q)) (equal_alike q k)

apart : (a b : ℕ) → (a == b) ≡ false → a ≡ b → ⊥
apart a b is same = grind (arith, nat_tests)

-- A REQUEST IS TOLD

module _ {C Dir Signer Cfg : Type 0} (its : Inclusion C Dir Signer Cfg) (i : core.Inclusion Dir) (request : ℕ) (what : Told Dir) (answer : core.RequestAnswer Dir) (kept : kept_of what ≡ Some answer) (seen : IsSeen its i) where
  told_alike : (q : ℕ) → lookup q ((request, answer) ∷ i.told) ≡ option_and_then kept_of (get (insert its.told request what) q)
  told_alike q = alike (request == q) ∙ ap (λ (o : Option (Told Dir)). option_and_then kept_of o) (sym (got_then its.told request what q))
    where
      alike : (b : Bool) → ◌≡◌ {A = Option (core.RequestAnswer Dir)} (if b then Some answer else lookup q i.told) (option_and_then kept_of (if b then Some what else get its.told q))
      alike true = sym kept
      alike false = seen.told q

  -- one whose number is used
  pub seen_told : IsSeen (record its { told = insert its.told request what }) (record i { told = (request, answer) ∷ i.told })
  seen_told = record {
    served = seen.served;
    queue = seen.queue;
    running = seen.running;
    waiter = seen.waiter;
    retained = seen.retained;
    cached = seen.cached;
    told = told_alike;
    used = λ q. subst (λ (o : Option (Told Dir)). (Contains i.used q ⊎ IsSome (lookup q ((request, answer) ∷ i.told))) ↔ IsSome o) (sym (got_then its.told request what q)) (alike q (request == q));
  }
    where
      alike : (q : ℕ) (b : Bool) → (Contains i.used q ⊎ IsSome (if b then Some answer else lookup q i.told)) ↔ IsSome (if b then Some what else get its.told q)
      alike q true = (λ any. refl, λ any. inr refl)
      alike q false = seen.used q

  -- .. and one that is made with it
  pub seen_made : (served : Option ℕ) → IsSeen (record its { served = served; told = insert its.told request what }) (record i { served = served; used = request ∷ i.used; told = (request, answer) ∷ i.told })
  seen_made served = record {
    served = refl;
    queue = seen.queue;
    running = seen.running;
    waiter = seen.waiter;
    retained = seen.retained;
    cached = seen.cached;
    told = told_alike;
    used = λ q. subst (λ (o : Option (Told Dir)). (Contains (request ∷ i.used) q ⊎ IsSome (lookup q ((request, answer) ∷ i.told))) ↔ IsSome o) (sym (got_then its.told request what q)) (alike q (request == q) refl);
  }
    where
      alike : (q : ℕ) (b : Bool) → (request == q) ≡ b → (Contains (request ∷ i.used) q ⊎ IsSome (if b then Some answer else lookup q i.told)) ↔ IsSome (if b then Some what else get its.told q)
      alike q true is = (λ any. refl, λ any. inr refl)
      alike q false is = (there, back)
        where
          there : Contains (request ∷ i.used) q ⊎ IsSome (lookup q i.told) → IsSome (get its.told q)
          there (inl has) = (seen.used q).0 (inl (Contains-tail request i.used q (apart request q is) has))
          there (inr has) = (seen.used q).0 (inr has)

          back_in : Contains i.used q ⊎ IsSome (lookup q i.told) → Contains (request ∷ i.used) q ⊎ IsSome (lookup q i.told)
          back_in (inl has) = inl (Contains-append_right (request ∷ []) i.used q has)
          back_in (inr has) = inr has

          back : IsSome (get its.told q) → Contains (request ∷ i.used) q ⊎ IsSome (lookup q i.told)
          back has = back_in ((seen.used q).1 has)

-- the same, served for another height
pub seen_served : {C Dir Signer Cfg : Type 0} (its : Inclusion C Dir Signer Cfg) (i : core.Inclusion Dir) (here there : Option ℕ) → there ≡ here → IsSeen its i → IsSeen (record its { served = here }) (record i { served = there })
seen_served its i here there same seen = record {
  served = same;
  queue = seen.queue;
  running = seen.running;
  waiter = seen.waiter;
  retained = seen.retained;
  cached = seen.cached;
  told = seen.told;
  used = seen.used;
}

-- .. with this cache
pub seen_cached : {C Dir Signer Cfg : Type 0} (its : Inclusion C Dir Signer Cfg) (i : core.Inclusion Dir) (cache : Option (LogMap × artifact.Artifact Dir)) → IsSeen its i
    → IsSeen (record its { cache = cache }) (record i { cached = option_map cached_of cache })
seen_cached its i cache seen = record {
  served = seen.served;
  queue = seen.queue;
  running = seen.running;
  waiter = seen.waiter;
  retained = seen.retained;
  cached = refl;
  told = seen.told;
  used = seen.used;
}

-- WHAT IT BECAME

module _ {Dir : Type 0} (beside : Beside Dir) {IsNow : core.Inclusion Dir → Type 0} {TookThese : List (ℕ × SchemeInfo) → Type 0} {P : Beside Dir → Type 0} where
  pub ends_with : (i : core.Inclusion Dir) → IsNow i → TookThese [] → P (record beside { inclusion = i }) → EndsWith beside IsNow TookThese P
  ends_with i is took holds = record { now = record beside { inclusion = i }; inclusion = is; more = []; schemes = refl; took = took; probe = refl; orchestrator = refl; holds = holds }

  -- nothing became of it
  pub ends_beside : IsNow beside.inclusion → TookThese [] → P beside → EndsWith beside IsNow TookThese P
  ends_beside is took holds = record { now = beside; inclusion = is; more = []; schemes = refl; took = took; probe = refl; orchestrator = refl; holds = holds }

-- A LINE, and then no memory

module _ {Dir S : Type 0} (course : Course Dir Fault S) (line : Entry) (its : S) (is : course ≡ Say line (Goes its)) where
  pub said_wants : (stop : Stop) → stop ≡ Faulted NoMemory → (out now : List Entry) → now ≡ out ++ line ∷ [] → Speaks course (by_stop stop) out now
  said_wants stop ends out now told =
      subst (λ (s : Stop). Speaks course (by_stop {S = S} s) out now) (sym ends)
      (subst (λ (x : Course Dir Fault S). Speaks x (broken by_want) out now) (sym is)
      (subst (λ (l : List Entry). Speaks {Dir = Dir} {F = Fault} (Say line (Goes its)) (broken by_want) out l) (sym told)
      (λ h f. inr (breaks_none {F = Fault} by_want tt (acts_of.Goes its) (record { out = out ++ line ∷ []; held = h; fuse = f })))))

-- THE OWN LOG IS SERVED

module _ {C Dir Signer Cfg : Type 0} (c : Fixed Dir) (spelling : Dir → List ℕ) (spells : c.directories.spelling ≡ spelling) (request height : ℕ) (beside : Beside Dir) (fence : Readiness) (life : Life Dir)
    (its : Inclusion C Dir Signer Cfg) (seen : IsSeen its beside.inclusion)
  where
    abbrev st : Live Dir
    st = live_of beside fence life

    abbrev pub serving : Course Dir Fault (Live Dir)
    serving = including.serves_log c request height st

    abbrev payload_in : Option SignedDealerLog → Option (Payload Dir)
    payload_in o = option_map log_payload o

    abbrev served_by : Option SignedDealerLog → Option ℕ → Option ℕ
    served_by o served = if is_some (payload_in o) then Some height else served

    abbrev given : Option SignedDealerLog → core.Inclusion Dir
    given o = record st.inclusion { served = served_by o st.inclusion.served; used = request ∷ st.inclusion.used; told = (request, core.GaveLog (payload_in o)) ∷ st.inclusion.told }

    abbrev line_of : Option SignedDealerLog → Entry
    line_of o = Log request (option_map (payload_spelling spelling) (payload_in o))

    lines_alike : (o : Option SignedDealerLog) → line_of o ≡ Log request (option_map (λ log. including.payload_bytes c (log_payload log)) o)
    lines_alike None = refl
    lines_alike (Some log) = λ i. Log request (Some (payload_spelling (sym spells i) (log_payload log)))

    gives_as : (o : Option SignedDealerLog) → including.gives_log c request height o (core.with_used request st) ≡ Say (line_of o) (Goes (record st { inclusion = given o }))
    gives_as None = refl
    gives_as (Some log) = ap (λ (line : Entry). let its : Course Dir Fault (Live Dir) = Say line (Goes (record st { inclusion = given (Some log) })) in its) (sym (lines_alike (Some log)))

    seen_given : (o : Option SignedDealerLog) → IsSeen (record its { served = served_by o its.served; told = insert its.told request (told.Log (payload_in o)) }) (given o)
    seen_given o =
        subst (λ (s : Option ℕ). IsSeen (record its { served = served_by o its.served; told = insert its.told request (told.Log (payload_in o)) }) (record (given o) { served = s })) (ap (λ (s : Option ℕ). served_by o s) (sym seen.served))
        (seen_made its beside.inclusion request (told.Log (payload_in o)) (core.GaveLog (payload_in o)) refl seen (served_by o its.served))

    module _ (payload : Option (Payload Dir)) (offers : payload ≡ option_map log_payload (including.served_now st)) (line : Option (List ℕ)) (spelled : line ≡ option_map (payload_spelling spelling) payload) (out now : List Entry)
        (said : now ≡ out ++ Log request line ∷ [])
      where
        abbrev o : Option SignedDealerLog
        o = including.served_now st

        said_it : now ≡ out ++ line_of o ∷ []
        said_it = said ∙ ap (λ (l : Option (List ℕ)). out ++ Log request l ∷ []) (spelled ∙ ap (option_map (payload_spelling spelling)) offers)

        pub served_speaks : (new : Inclusion C Dir Signer Cfg) → new ≡ record its { served = (if is_some payload then Some height else its.served); told = insert its.told request (told.Log payload) }
            → EndsWith beside (λ i. IsSeen new i) (λ more. more ≡ []) (λ b. Speaks serving (went (live_of b fence life)) out now)
        served_speaks new is =
            ends_with beside (given o)
            (subst (λ (x : Inclusion C Dir Signer Cfg). IsSeen x (given o)) (sym (is ∙ ap (λ (p : Option (Payload Dir)). record its { served = (if is_some p then Some height else its.served); told = insert its.told request (told.Log p) }) offers)) (seen_given o)) refl
            (says_speaks serving (line_of o) (record st { inclusion = given o }) (record st { inclusion = given o }) (gives_as o) refl out now said_it)

        pub unserved_speaks : (stop : Stop) → stop ≡ Faulted NoMemory → Speaks serving (by_stop stop) out now
        unserved_speaks stop ends = said_wants serving (line_of o) (record st { inclusion = given o }) (gives_as o) stop ends out now said_it

    -- no memory before the line
    pub unspoken : (stop : Stop) → stop ≡ Faulted NoMemory → (out now : List Entry) → now ≡ out → Speaks serving (by_stop stop) out now
    unspoken stop ends out now same = wants_speaks serving stop ends out now same

-- .. AND TAKEN BACK

module _ {C Dir Signer Cfg : Type 0} (height : ℕ) (beside : Beside Dir) (fence : Readiness) (life : Life Dir) (its : Inclusion C Dir Signer Cfg) (seen : IsSeen its beside.inclusion) where
  abbrev taken_back : Bool → core.Inclusion Dir
  taken_back is = (if is then core.with_inclusion (record beside.inclusion { served = None }) (live_of beside fence life) else live_of beside fence life).inclusion

  pub back_seen : (is : Bool) → including.is_served_at height (live_of beside fence life) ≡ is → IsSeen (record its { served = (if is then None else its.served) }) (including.releases height (live_of beside fence life)).inclusion
  back_seen is served = subst (λ (b : Bool). IsSeen (record its { served = (if is then None else its.served) }) (taken_back b)) (sym served) (alike is)
    where
      alike : (is : Bool) → IsSeen (record its { served = (if is then None else its.served) }) (taken_back is)
      alike true = seen_served its beside.inclusion None None refl seen
      alike false = seen_served its beside.inclusion its.served beside.inclusion.served seen.served seen

-- WHAT IS OFFERED

module _ {Dir : Type 0} (beside : Beside Dir) (fence : Readiness) (life : Life Dir) where
  abbrev offer_in : core.Stage → Option ℕ → Option (Payload Dir)
  offer_in stage served = option_map log_payload (including.served_now_in (live_of beside fence life) stage served)

  none_served : (stage : core.Stage) (served : Option ℕ) → is_some served ≡ true → ◌≡◌ {A = Option (Payload Dir)} None (offer_in stage served)
  none_served stage None is = absurd cc
  none_served core.Deals (Some height) is = refl
  none_served core.Includes (Some height) is = refl
  none_served core.Follows (Some height) is = refl
  none_served core.Ends (Some height) is = refl

  -- it is served already
  pub served_offers : (served : Option ℕ) → beside.inclusion.served ≡ served → is_some served ≡ true → ◌≡◌ {A = Option (Payload Dir)} None (option_map log_payload (including.served_now (live_of beside fence life)))
  served_offers served same is = none_served (stage_of life.stage) beside.inclusion.served (ap (λ (o : Option ℕ). is_some o) same ∙ is)

  -- another stage
  pub apart_offers : (its : declared.Stage) → life.stage ≡ its → (its ≡ stage.Including → ⊥) → ◌≡◌ {A = Option (Payload Dir)} None (option_map log_payload (including.served_now (live_of beside fence life)))
  apart_offers stage.Dealing is apart = dealing ∙ ap (λ (s : declared.Stage). offer_in (stage_of s) beside.inclusion.served) (sym is)
    where
      dealing : ◌≡◌ {A = Option (Payload Dir)} None (offer_in core.Deals beside.inclusion.served)
      dealing = refl
  apart_offers stage.Following is apart = following ∙ ap (λ (s : declared.Stage). offer_in (stage_of s) beside.inclusion.served) (sym is)
    where
      following : ◌≡◌ {A = Option (Payload Dir)} None (offer_in core.Follows beside.inclusion.served)
      following = refl
  apart_offers stage.Including is apart = absurd (apart refl)

  -- its own
  pub own_offers : life.stage ≡ stage.Including → (served : Option ℕ) → beside.inclusion.served ≡ served → is_some served ≡ false → (own : Option SignedDealerLog) → own ≡ including.own_log (live_of beside fence life)
      → ◌≡◌ {A = Option (Payload Dir)} (option_map log_payload own) (option_map log_payload (including.served_now (live_of beside fence life)))
  own_offers is served same none own owns =
      ap (λ (o : Option SignedDealerLog). option_map (log_payload {Dir = Dir}) o) owns
      ∙ ap (offer_in core.Includes) (sym (not_some served none) ∙ sym same)
      ∙ ap (λ (s : declared.Stage). offer_in (stage_of s) beside.inclusion.served) (sym is)
    where
      not_some : (o : Option ℕ) → is_some o ≡ false → o ≡ None
      not_some None is = refl
      not_some (Some x) is = absurd cc

  -- WHETHER IT IS SERVED FOR A HEIGHT

  abbrev test_in : ℕ → core.Stage → Option ℕ → Bool
  test_in height stage served = including.is_served_at_in height (live_of beside fence life) stage served

  pub tested_in : (height : ℕ) (served : Option ℕ) → beside.inclusion.served ≡ served → (result : Bool) (its : declared.Stage) → life.stage ≡ its → result ≡ test_in height (stage_of its) served
      → result ≡ including.is_served_at height (live_of beside fence life)
  tested_in height served same result its is tests = tests ∙ (λ i. test_in height (stage_of (sym is i)) (sym same i))

  -- at this height, where a log is there
  pub served_for : (height at : ℕ) (served : Option ℕ) → beside.inclusion.served ≡ served → served ≡ Some at → (at == height) ≡ true → (found : Option (Bor SignedDealerLog)) → option_copied found ≡ including.own_log (live_of beside fence life)
      → (result : Bool) → result ≡ is_some found → life.stage ≡ stage.Including → result ≡ including.is_served_at height (live_of beside fence life)
  served_for height at served same is equal found own result some includes =
      tested_in height served same result stage.Including includes
      (some ∙ copied found ∙ ap (λ (o : Option SignedDealerLog). is_some o) own ∙ ap (λ (t : Bool). t && is_some (including.own_log (live_of beside fence life))) (sym equal)
      ∙ ap (test_in height core.Includes) (sym is))
    where
      copied : (o : Option (Bor SignedDealerLog)) → is_some o ≡ is_some (option_copied o)
      copied None = refl
      copied (Some x) = refl

  -- outside of inclusion for none
  pub unserved_apart : (height : ℕ) (its : declared.Stage) → life.stage ≡ its → (its ≡ stage.Including → ⊥) → including.is_served_at height (live_of beside fence life) ≡ false
  unserved_apart height stage.Dealing is apart = ap (λ (s : declared.Stage). test_in height (stage_of s) beside.inclusion.served) is
  unserved_apart height stage.Following is apart = ap (λ (s : declared.Stage). test_in height (stage_of s) beside.inclusion.served) is
  unserved_apart height stage.Including is apart = absurd (apart refl)

pub unserved_outside : {Dir : Type 0} (height : ℕ) (life : Life Dir) (served : Option ℕ) (test : Bool)
    → ((beside : Beside Dir) (fence : Readiness) → beside.inclusion.served ≡ served → test ≡ including.is_served_at height (live_of beside fence life)) → (life.stage ≡ stage.Including → ⊥) → test ≡ false
unserved_outside {Dir} height life served test tests apart =
    let its : Beside Dir = record (nothing_beside {Dir = Dir}) { inclusion = record (no_inclusion {Dir = Dir}) { served = served } } in
    tests its no_fence refl ∙ unserved_apart its no_fence life height life.stage refl apart

-- What is copied of an offer is that offer.
pub copied_offers : {Dir E : Type 0} (life : Life Dir) (Seen : Beside Dir → Type 0) (r : Result (Option (Payload Dir)) E) (offer : Option (Payload Dir))
    → ((beside : Beside Dir) (fence : Readiness) → Seen beside → offer ≡ option_map log_payload (including.served_now (live_of beside fence life))) → IfOk r (λ made. made ≡ offer)
    → IfOk r (λ made. (beside : Beside Dir) (fence : Readiness) → Seen beside → made ≡ option_map log_payload (including.served_now (live_of beside fence life)))
copied_offers life Seen (Ok made) offer offers is = λ beside fence seen. is ∙ offers beside fence seen
copied_offers life Seen (Err e) offer offers is = tt
