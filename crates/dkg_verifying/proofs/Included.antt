-- What inclusion has between the parts of a call: what it is seen as, and what holds of it.
use Rattle.std.proofs.Common.{◌≡◌, ℕ, Bool, true, false, [], Option, Some, None, refl, sym, ◌∙◌, ap, subst}
use Rattle.std.specs.Prelude.{◌+◌, IfSome, IsSome, IsSomeAnd, if◌then◌else◌, option_map}
use Rattle.std.specs.Option.{option_map_or}
use Rattle.dkg_ceremony.specs.Schedule.{bounds_at}
use Rattle.dkg_ceremony.specs.declared.round.RoundParts.{RoundParts as Round}
use Rattle.dkg_artifact.specs.declared.job.Job.{Job}
use Rattle.dkg_fence.specs.Readiness.{Readiness}
use Rattle.dkg_core.specs.Including as including
use Rattle.dkg_core.specs.Live as core
use Rattle.dkg_core.specs.Sources.{Tip}
use Rattle.dkg_verifying.specs.declared.inclusion.Hand.{Hand}
use Rattle.dkg_verifying.specs.declared.inclusion.Inclusion.{Inclusion}
use Rattle.dkg_life.specs.declared.life.Life.{Life}
use Rattle.dkg_life.specs.declared.life.Stage.{Stage}
use Rattle.dkg_life.specs.declared.life.Stage.TheVariants.{Dealing, Including, Following}
use Rattle.dkg_verifying.specs.InclusionOf.{IsInHand, IsReadyInclusion, IsRunnable, IsSeen, IsSettledInclusion, in_front, tip_of}
use Rattle.dkg_life.specs.LiveOf.{Beside, live_of}
use Rattle.dkg_life.specs.Rules.{CheckLogOf, DealingOf, FinishOf}
use Rattle.dkg_verifying.specs.Scanned.{IsFed}
use Rattle.dkg_life.proofs.Beside.{emptied}

-- SEEN

pub seen_as : {C Dir Signer Cfg : Type 0} (old new : Inclusion C Dir Signer Cfg) (i : core.Inclusion Dir) → new ≡ old → IsSeen old i → IsSeen new i
seen_as {C} {Dir} {Signer} {Cfg} old new i same seen = subst (λ (its : Inclusion C Dir Signer Cfg). IsSeen its i) (sym same) seen

-- what an epoch begins with
abbrev pub renewed : {C Dir Signer Cfg : Type 0} → Inclusion C Dir Signer Cfg → Inclusion C Dir Signer Cfg
renewed its = record its { served = None; hand = None; requests = []; verification = record { running = None; kept = None }; waiter = None; cache = None }

module _ {C Dir Signer Cfg : Type 0} (its : Inclusion C Dir Signer Cfg) (i : core.Inclusion Dir) (seen : IsSeen its i) where
  -- The own log counts as served for another height, or for none.
  pub seen_served : (there here : Option ℕ) → there ≡ here → IsSeen (record its { served = here }) (record i { served = there })
  seen_served there here same = record { served = same; queue = seen.queue; running = seen.running; waiter = seen.waiter; retained = seen.retained; cached = seen.cached; told = seen.told; used = seen.used }

  -- The request in hand is put back.
  pub seen_back : (new : Inclusion C Dir Signer Cfg) → new ≡ record its { hand = None; requests = in_front its.hand its.requests } → IsSeen new i
  seen_back new same = seen_as (record its { hand = None; requests = in_front its.hand its.requests }) new i same (record { served = seen.served; queue = seen.queue; running = seen.running; waiter = seen.waiter; retained = seen.retained; cached = seen.cached; told = seen.told; used = seen.used })

  -- An epoch begins.
  pub seen_anew : (new : Inclusion C Dir Signer Cfg) → new ≡ renewed its → IsSeen new (emptied i)
  seen_anew new same = seen_as (renewed its) new (emptied i) same (record { served = refl; queue = refl; running = refl; waiter = refl; retained = refl; cached = refl; told = seen.told; used = seen.used })

-- no request is in hand then
pub back_idle : {C Dir Signer Cfg : Type 0} (its new : Inclusion C Dir Signer Cfg) → new ≡ record its { hand = None; requests = in_front its.hand its.requests } → new.hand ≡ None
back_idle {C} {Dir} {Signer} {Cfg} its new same = ap (λ (i : Inclusion C Dir Signer Cfg). i.hand) same

-- WHAT HOLDS OF IT

apart_stages : {A : Type 0} (s : Stage) → s ≡ Dealing → s ≡ Following → A
apart_stages s deals follows = absurd (let h : ◌≡◌ {A = Stage} Dealing Following = sym deals ∙ follows in cc)

includes_deals : {A : Type 0} (s : Stage) → s ≡ Including → s ≡ Dealing → A
includes_deals s includes deals = absurd (let h : ◌≡◌ {A = Stage} Including Dealing = sym includes ∙ deals in cc)

includes_follows : {A : Type 0} (s : Stage) → s ≡ Including → s ≡ Following → A
includes_follows s includes follows = absurd (let h : ◌≡◌ {A = Stage} Including Following = sym includes ∙ follows in cc)

pub none_in : {A : Type 0} (P : Type 0) (o : Option A) → o ≡ None → IsSome o → P
none_in P None none some = absurd (let e : ◌≡◌ {A = Bool} false true = some in cc)
none_in {A} P (Some x) none some = absurd (let e : ◌≡◌ {A = Option A} (Some x) None = none in cc)

no_hand : {Dir Cfg : Type 0} (check_log_of : CheckLogOf) (blocks_per_epoch : ℕ) (life : Life Dir) (hand : Option (Hand Dir Cfg)) → hand ≡ None → IfSome hand (IsInHand check_log_of blocks_per_epoch life)
no_hand {Dir} {Cfg} check_log_of blocks_per_epoch life hand none = subst (λ (o : Option (Hand Dir Cfg)). IfSome o (IsInHand check_log_of blocks_per_epoch life)) (sym none) tt

-- the running verification is one of this life
abbrev RunsIn : {Dir : Type 0} → DealingOf → FinishOf → Life Dir → Job → Type 0
RunsIn dealing_of finish_of life j = (life.stage ≡ Including) × (life.round ≡ Some j.round) × IsRunnable dealing_of finish_of j

no_job : {Dir : Type 0} (dealing_of : DealingOf) (finish_of : FinishOf) (life : Life Dir) (job : Option Job) → job ≡ None → IfSome job (RunsIn dealing_of finish_of life)
no_job dealing_of finish_of life job none = subst (λ (o : Option Job). IfSome o (RunsIn dealing_of finish_of life)) (sym none) tt

module _ {C Dir Signer Cfg : Type 0} (check_log_of : CheckLogOf) (dealing_of : DealingOf) (finish_of : FinishOf) (blocks_per_epoch : ℕ) where
  abbrev IsReady : Life Dir → Inclusion C Dir Signer Cfg → Type 0
  IsReady life its = IsReadyInclusion check_log_of dealing_of finish_of blocks_per_epoch life its

  abbrev IsSettled : Life Dir → Inclusion C Dir Signer Cfg → Type 0
  IsSettled life its = IsSettledInclusion check_log_of dealing_of finish_of blocks_per_epoch life its

  pub ready_as : (life : Life Dir) (old new : Inclusion C Dir Signer Cfg) → new ≡ old → IsReady life old → IsReady life new
  ready_as life old new same ready = subst (λ (its : Inclusion C Dir Signer Cfg). IsReady life its) (sym same) ready

  pub settled_as : (life : Life Dir) (old new : Inclusion C Dir Signer Cfg) → new ≡ old → IsSettled life old → IsSettled life new
  settled_as life old new same settled = subst (λ (its : Inclusion C Dir Signer Cfg). IsSettled life its) (sym same) settled

  -- NOTHING WAITS

  pub empty_settled : (life : Life Dir) (its : Inclusion C Dir Signer Cfg) → its.hand ≡ None → its.requests ≡ [] → its.verification.running ≡ None → its.served ≡ None
      → ((life.stage ≡ Following → ⊥) → IsSome life.store.current) → IsSettled life its
  empty_settled life its hand requests running served current = record {
    ready = record {
      hand = no_hand check_log_of blocks_per_epoch life its.hand hand;
      free = λ some. running;
      runs = no_job dealing_of finish_of life its.verification.running running;
      idle = λ follows. requests;
      current = current;
      unserved = λ apart. served;
    };
    settled = λ includes has free idle. requests;
  }

  -- .. as an epoch begins
  pub anew_settled : (life : Life Dir) (old new : Inclusion C Dir Signer Cfg) → new ≡ renewed old → ((life.stage ≡ Following → ⊥) → IsSome life.store.current) → IsSettled life new
  anew_settled life old new same current = settled_as life (renewed old) new same (empty_settled life (renewed old) refl refl refl refl current)

  -- IN ANOTHER LIFE

  module _ (old new : Life Dir) (its : Inclusion C Dir Signer Cfg) (ready : IsReady old its) where
    current_then : new.stage ≡ old.stage → (IsSome old.store.current → IsSome new.store.current) → (new.stage ≡ Following → ⊥) → IsSome new.store.current
    current_then stage current apart = current (ready.current (λ follows. apart (stage ∙ follows)))

    out_of_hand : (old.stage ≡ Including → ⊥) → (hand : Option (Hand Dir Cfg)) → IfSome hand (IsInHand check_log_of blocks_per_epoch old) → hand ≡ None
    out_of_hand apart None is = refl
    out_of_hand apart (Some hand) is = absurd (apart is.includes)

    pub none_in_hand : (old.stage ≡ Including → ⊥) → its.hand ≡ None
    none_in_hand apart = out_of_hand apart its.hand ready.hand

    out_of_work : (old.stage ≡ Including → ⊥) → (job : Option Job) → IfSome job (RunsIn dealing_of finish_of old) → job ≡ None
    out_of_work apart None is = refl
    out_of_work apart (Some job) is = absurd (apart is.0)

    pub none_runs : (old.stage ≡ Including → ⊥) → its.verification.running ≡ None
    none_runs apart = out_of_work apart its.verification.running ready.runs

    -- one that doesn't include, in the same stage
    pub apart_settled : (old.stage ≡ Including → ⊥) → new.stage ≡ old.stage → (IsSome old.store.current → IsSome new.store.current) → IsSettled new its
    apart_settled apart stage current = record {
      ready = record {
        hand = no_hand check_log_of blocks_per_epoch new its.hand (none_in_hand apart);
        free = λ some. none_runs apart;
        runs = no_job dealing_of finish_of new its.verification.running (none_runs apart);
        idle = λ follows. ready.idle (sym stage ∙ follows);
        current = current_then stage current;
        unserved = λ not_in. ready.unserved apart;
      };
      settled = λ includes has free idle. absurd (apart (sym stage ∙ includes));
    }

    -- inclusion begins
    pub begun_ready : old.stage ≡ Dealing → new.stage ≡ Including → (IsSome old.store.current → IsSome new.store.current) → IsReady new (record its { served = None })
    begun_ready deals includes current =
        let apart : old.stage ≡ Including → ⊥ = λ is. includes_deals old.stage is deals in
        record {
          hand = no_hand check_log_of blocks_per_epoch new its.hand (none_in_hand apart);
          free = λ some. none_runs apart;
          runs = no_job dealing_of finish_of new its.verification.running (none_runs apart);
          idle = λ follows. includes_follows new.stage includes follows;
          current = λ part. current (ready.current (λ follows. apart_stages old.stage deals follows));
          unserved = λ not_in. refl;
        }

    job_then : new.stage ≡ old.stage → new.round ≡ old.round → (job : Option Job) → IfSome job (RunsIn dealing_of finish_of old) → IfSome job (RunsIn dealing_of finish_of new)
    job_then stage round None is = tt
    job_then stage round (Some job) is = (stage ∙ is.0, round ∙ is.1, is.2)

    -- while including, over another tip: none is in hand
    pub moved_ready : old.stage ≡ Including → its.hand ≡ None → (served : Option ℕ) → new.stage ≡ old.stage → new.round ≡ old.round → (IsSome old.store.current → IsSome new.store.current)
        → IsReady new (record its { served = served })
    moved_ready includes hand served stage round current = record {
      hand = no_hand check_log_of blocks_per_epoch new its.hand hand;
      free = λ some. none_in (its.verification.running ≡ None) its.hand hand some;
      runs = job_then stage round its.verification.running ready.runs;
      idle = λ follows. includes_follows old.stage includes (sym stage ∙ follows);
      current = current_then stage current;
      unserved = λ not_in. absurd (not_in (stage ∙ includes));
    }

    abbrev Stands : Option Round → Option Tip → Hand Dir Cfg → Type 0
    Stands o t hand = IsSomeAnd o (λ round. IsFed check_log_of round (bounds_at blocks_per_epoch (option_map_or (λ x. x.height + 1) t 0)) (option_map tip_of t) hand.request.blocks hand.scan)

    stands_then : (o p : Option Round) → p ≡ o → (t u : Option Tip) → u ≡ t → (hand : Hand Dir Cfg) → Stands o t hand → Stands p u hand
    stands_then o p same t u alike hand is = subst (λ (x : Option Round). Stands x u hand) (sym same) (subst (λ (x : Option Tip). Stands o x hand) (sym alike) is)

    hand_then : new.stage ≡ old.stage → new.round ≡ old.round → new.tip ≡ old.tip → (hand : Option (Hand Dir Cfg)) → IfSome hand (IsInHand check_log_of blocks_per_epoch old)
        → IfSome hand (IsInHand check_log_of blocks_per_epoch new)
    hand_then stage round tip None is = tt
    hand_then stage round tip (Some hand) is = record {
      includes = stage ∙ is.includes;
      goes_on = is.goes_on;
      stands = stands_then old.round new.round round old.tip new.tip tip hand is.stands;
    }

    -- where nothing changed of where it stands
    pub stays_settled : new.stage ≡ old.stage → new.round ≡ old.round → new.tip ≡ old.tip → (IsSome old.store.current → IsSome new.store.current) → IsSettled old its → IsSettled new its
    stays_settled stage round tip current settled = record {
      ready = record {
        hand = hand_then stage round tip its.hand ready.hand;
        free = ready.free;
        runs = job_then stage round its.verification.running ready.runs;
        idle = λ follows. ready.idle (sym stage ∙ follows);
        current = current_then stage current;
        unserved = λ not_in. ready.unserved (λ includes. not_in (stage ∙ includes));
      };
      settled = λ includes has free idle. settled.settled (sym stage ∙ includes) (subst (λ (o : Option Round). IsSome o) round has) free idle;
    }

  -- ITSELF

  module _ (life : Life Dir) (its : Inclusion C Dir Signer Cfg) (ready : IsReady life its) where
    -- the request in hand is put back
    pub back_ready : (new : Inclusion C Dir Signer Cfg) → new ≡ record its { hand = None; requests = in_front its.hand its.requests } → IsReady life new
    back_ready new same = ready_as life (record its { hand = None; requests = in_front its.hand its.requests }) new same (record {
      hand = tt;
      free = λ some. none_in {A = Hand Dir Cfg} (its.verification.running ≡ None) None refl some;
      runs = ready.runs;
      idle = λ follows. waits its.hand ready.hand follows;
      current = ready.current;
      unserved = ready.unserved;
    })
      where
        waits : (hand : Option (Hand Dir Cfg)) → IfSome hand (IsInHand check_log_of blocks_per_epoch life) → life.stage ≡ Following → in_front hand its.requests ≡ []
        waits None is follows = ready.idle follows
        waits (Some hand) is follows = includes_follows life.stage is.includes follows

    -- answers came, and the own log counts as served, while including, or as before
    pub served_settled : (new : Inclusion C Dir Signer Cfg) → new ≡ record its { served = new.served; told = new.told } → ((life.stage ≡ Including → ⊥) → new.served ≡ its.served) → IsSettled life its → IsSettled life new
    served_settled new rest served settled = settled_as life (record its { served = new.served; told = new.told }) new rest (record {
      ready = record { hand = ready.hand; free = ready.free; runs = ready.runs; idle = ready.idle; current = ready.current; unserved = λ apart. served apart ∙ ready.unserved apart };
      settled = settled.settled;
    })

    pub released_settled : (new : Inclusion C Dir Signer Cfg) → new ≡ record its { served = new.served } → ((life.stage ≡ Including → ⊥) → new.served ≡ its.served) → IsSettled life its → IsSettled life new
    released_settled new rest served settled =
        served_settled new (rest ∙ (λ i. record its { served = new.served; told = sym (ap (λ (x : Inclusion C Dir Signer Cfg). x.told) rest) i })) served settled

-- A height counts as served no more.
pub released_live : {Dir : Type 0} (height : ℕ) (beside : Beside Dir) (fence : Readiness) (life : Life Dir)
    → live_of (record beside { inclusion = (including.releases height (live_of beside fence life)).inclusion }) fence life ≡ including.releases height (live_of beside fence life)
released_live {Dir} height beside fence life = by_test (including.is_served_at height (live_of beside fence life))
  where
    by_test : (is : Bool)
        → live_of (record beside { inclusion = (if is then core.with_inclusion (record beside.inclusion { served = None }) (live_of beside fence life) else live_of beside fence life).inclusion }) fence life
        ≡ (if is then core.with_inclusion (record beside.inclusion { served = None }) (live_of beside fence life) else live_of beside fence life)
    by_test true = refl
    by_test false = refl
