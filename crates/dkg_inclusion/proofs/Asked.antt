-- A request that is made or taken away: what inclusion has then, and the relation's course.
use Rattle.std.proofs.Common.{◌≡◌, ℕ, Bool, true, false, List, [], ◌∷◌, ◌++◌, Option, Some, None, refl, sym, ◌∙◌, ap, subst}
use Rattle.std.specs.Prelude.{◌==◌, nat_eq, filter, not, IfSome, IsSome, if◌then◌else◌}
use Rattle.std.specs.FinMap.{FinMap}
use Rattle.std.specs.Option.{option_eq, option_map_or}
use Rattle.std.specs.Ordering.{nat_cmp}
use Rattle.dkg_fence.specs.Readiness.{Readiness}
use Rattle.dkg_infos.specs.declared.entry.Why.TheVariants as why
use Rattle.dkg_infos.specs.declared.fault.Fault.{Fault}
use Rattle.dkg_artifact.specs.Requested as requested
use Rattle.dkg_artifact.specs.Requested.{is_other}
use Rattle.dkg_core.specs.Courses.{Course, Goes}
use Rattle.dkg_core.specs.Fixed.{Fixed}
use Rattle.dkg_core.specs.Including as including
use Rattle.dkg_core.specs.Live as core
use Rattle.dkg_core.specs.Live.{Live}
use Rattle.dkg_verifying.specs.declared.inclusion.Hand.{Hand}
use Rattle.dkg_verifying.specs.declared.inclusion.Inclusion.{Inclusion}
use Rattle.dkg_life.specs.declared.life.Life.{Life}
use Rattle.dkg_life.specs.declared.life.Stage.{Stage}
use Rattle.dkg_life.specs.declared.life.Stage.TheVariants.{Dealing, Including, Following}
use Rattle.dkg_verifying.specs.declared.told.Told.{Told}
use Rattle.dkg_verifying.specs.Including.{unless_of}
use Rattle.dkg_verifying.specs.InclusionOf.{IsInHand, IsReadyInclusion, IsSeen, IsSettledInclusion, posted_in}
use Rattle.dkg_life.specs.LiveOf.{Beside, live_of, stage_of}
use Rattle.dkg_life.specs.Rules.{CheckLogOf, DealingOf, FinishOf}
use Rattle.dkg_inclusion.proofs.Asking.{seen_more, seen_others, seen_posted}
use Rattle.dkg_verifying.proofs.Included.{ready_as, seen_as}

-- IT IS MADE

-- a request that was fed nothing yet
abbrev pub new_request : {Dir : Type 0} → (number : ℕ) → requested.WaitingRequest Dir
new_request number = record { number = number; blocks = []; ended = false }

module _ {Dir : Type 0} (request : ℕ) (beside : Beside Dir) where
  -- Its number is used,
  abbrev pub used_beside : Beside Dir
  used_beside = record beside { inclusion = record beside.inclusion { used = request ∷ beside.inclusion.used } }

  -- .. and it waits behind the others.
  abbrev pub asked_beside : Beside Dir
  asked_beside = record beside {
    inclusion = record beside.inclusion { queue = beside.inclusion.queue ++ record { number = request; blocks = []; ended = false } ∷ []; used = request ∷ beside.inclusion.used };
  }

  module _ (c : Fixed Dir) (fence : Readiness) (life : Life Dir) where
    asks_at : (s : Stage) → life.stage ≡ s → including.asks_request c request (live_of beside fence life) ≡ including.asks_in c request (live_of used_beside fence life) (stage_of s)
    asks_at s is = ap (λ (x : Stage). including.asks_in c request (live_of used_beside fence life) (stage_of x)) is

    pub asks_dealing : life.stage ≡ Dealing → including.asks_request c request (live_of beside fence life) ≡ Goes (live_of asked_beside fence life)
    asks_dealing is = asks_at Dealing is

    pub asks_including : life.stage ≡ Including → including.asks_request c request (live_of beside fence life) ≡ including.advanced c (live_of asked_beside fence life)
    asks_including is = asks_at Including is

    pub asks_following : life.stage ≡ Following → including.asks_request c request (live_of beside fence life) ≡ including.answers_none request why.Following (live_of used_beside fence life)
    asks_following is = asks_at Following is

  module _ {C Signer Cfg : Type 0} (its : Inclusion C Dir Signer Cfg) (seen : IsSeen its beside.inclusion) (told : FinMap nat_cmp (Told Dir)) (posted : told ≡ posted_in request its.told) where
    pub seen_used : IsSeen (record its { told = told }) used_beside.inclusion
    seen_used = subst (λ (t : FinMap nat_cmp (Told Dir)). IsSeen (record its { told = t }) used_beside.inclusion) (sym posted) (seen_posted its beside.inclusion seen request)

    pub seen_asked : (new : Inclusion C Dir Signer Cfg) → new ≡ record its { told = told; requests = its.requests ++ new_request request ∷ [] } → IsSeen new asked_beside.inclusion
    seen_asked new is =
        seen_as (record its { told = told; requests = its.requests ++ new_request request ∷ [] }) new asked_beside.inclusion is
        (seen_more (record its { told = told }) used_beside.inclusion seen_used (new_request request))

module _ {C Dir Signer Cfg : Type 0} (check_log_of : CheckLogOf) (dealing_of : DealingOf) (finish_of : FinishOf) (n : ℕ) (life : Life Dir) (its : Inclusion C Dir Signer Cfg) where
  abbrev Ready : Inclusion C Dir Signer Cfg → Type 0
  Ready new = IsReadyInclusion check_log_of dealing_of finish_of n life new

  abbrev Settled : Inclusion C Dir Signer Cfg → Type 0
  Settled new = IsSettledInclusion check_log_of dealing_of finish_of n life new

  module _ (told : FinMap nat_cmp (Told Dir)) (requests : List (requested.WaitingRequest Dir)) (new : Inclusion C Dir Signer Cfg) (is : new ≡ record its { told = told; requests = requests }) where
    -- A request waits, where one may.
    pub ready_asked : (life.stage ≡ Following → ⊥) → Ready its → Ready new
    ready_asked apart ready = ready_as check_log_of dealing_of finish_of n life (record its { told = told; requests = requests }) new is (record {
      hand = ready.hand;
      free = ready.free;
      runs = ready.runs;
      idle = λ follows. absurd (apart follows);
      current = ready.current;
      unserved = ready.unserved;
    })

    pub ready_including : life.stage ≡ Including → Ready its → Ready new
    ready_including includes = ready_asked (λ follows. let e : ◌≡◌ {A = Stage} Including Following = sym includes ∙ follows in cc)

    -- While dealing none is read.
    pub settled_dealing : life.stage ≡ Dealing → Ready its → Settled new
    settled_dealing deals ready = record {
      ready = ready_asked (λ follows. let e : ◌≡◌ {A = Stage} Dealing Following = sym deals ∙ follows in cc) ready;
      settled = λ includes round none free. absurd (let e : ◌≡◌ {A = Stage} Dealing Including = sym deals ∙ includes in cc);
    }

-- IT IS TAKEN AWAY

-- Nobody waits for the verification.
abbrev pub alone_beside : {Dir : Type 0} → Beside Dir → Beside Dir
alone_beside beside = record beside { inclusion = record beside.inclusion { waiter = None } }

-- .. or others wait alone.
abbrev pub others_beside : {Dir : Type 0} → (request : ℕ) → Beside Dir → Beside Dir
others_beside request beside = record beside { inclusion = record beside.inclusion { queue = filter (λ r. not (r.number == request)) beside.inclusion.queue } }

module _ {Dir : Type 0} (c : Fixed Dir) (request : ℕ) (beside : Beside Dir) (fence : Readiness) (life : Life Dir) where
  abbrev pub cancels_by : Bool → Course Dir Fault (Live Dir)
  cancels_by waits = if waits then Goes (live_of (alone_beside beside) fence life) else including.advanced c (live_of (others_beside request beside) fence life)

  waits_is : (waiter : Option ℕ) → option_map_or (λ n. n == request) waiter false ≡ option_eq nat_eq waiter (Some request)
  waits_is None = refl
  waits_is (Some n) = refl

  -- by whether it waits for the verification
  pub cancels_at : (waiter : Option ℕ) → beside.inclusion.waiter ≡ waiter → (waits : Bool) → option_eq nat_eq waiter (Some request) ≡ waits → including.cancels c request (live_of beside fence life) ≡ cancels_by waits
  cancels_at waiter has waits is = ap (λ (o : Option ℕ). cancels_by (option_map_or (λ n. n == request) o false)) has ∙ ap cancels_by (waits_is waiter ∙ is)

module _ {C Dir Signer Cfg : Type 0} (check_log_of : CheckLogOf) (dealing_of : DealingOf) (finish_of : FinishOf) (n : ℕ) (life : Life Dir) (its : Inclusion C Dir Signer Cfg) where
  pub settled_alone : IsSettledInclusion check_log_of dealing_of finish_of n life its → IsSettledInclusion check_log_of dealing_of finish_of n life (record its { waiter = None })
  settled_alone settled =
      let ready = settled.ready in
      record {
        ready = record { hand = ready.hand; free = ready.free; runs = ready.runs; idle = ready.idle; current = ready.current; unserved = ready.unserved };
        settled = settled.settled;
      }

  module _ (request : ℕ) (new : Inclusion C Dir Signer Cfg) (is : new ≡ record its { hand = unless_of request its.hand; requests = filter (is_other request) its.requests }) where
    hand_left : (hand : Option (Hand Dir Cfg)) → IfSome hand (IsInHand check_log_of n life) → IfSome (unless_of request hand) (IsInHand check_log_of n life)
    hand_left None in_hand = tt
    hand_left (Some hand) in_hand = by_test (hand.request.number == request)
      where
        by_test : (same : Bool) → IfSome (if same then None else Some hand) (IsInHand check_log_of n life)
        by_test true = tt
        by_test false = in_hand

    had_hand : (hand : Option (Hand Dir Cfg)) → IsSome (unless_of request hand) → IsSome hand
    had_hand None some = some
    had_hand (Some hand) some = refl

    pub ready_withdrawn : IsReadyInclusion check_log_of dealing_of finish_of n life its → IsReadyInclusion check_log_of dealing_of finish_of n life new
    ready_withdrawn ready =
        ready_as check_log_of dealing_of finish_of n life (record its { hand = unless_of request its.hand; requests = filter (is_other request) its.requests }) new is (record {
          hand = hand_left its.hand ready.hand;
          free = λ some. ready.free (had_hand its.hand some);
          runs = ready.runs;
          idle = λ follows. ap (λ (rs : List (requested.WaitingRequest Dir)). filter (is_other request) rs) (ready.idle follows);
          current = ready.current;
          unserved = ready.unserved;
        })

    pub seen_withdrawn : (i : core.Inclusion Dir) → IsSeen its i → IsSeen new (record i { queue = filter (λ r. not (r.number == request)) i.queue })
    seen_withdrawn i seen =
        seen_as (record its { hand = unless_of request its.hand; requests = filter (is_other request) its.requests }) new (record i { queue = filter (λ r. not (r.number == request)) i.queue }) is (seen_others request its i seen)
