-- Requests in memory, and as the relation has them.
use Rattle.std.proofs.Common.{◌≡◌, ℕ, Bool, true, false, List, [], ◌∷◌, ◌++◌, Option, Some, None, refl, sym, ◌∙◌, ap, subst}
use Rattle.std.specs.Prelude.{◌==◌, ◌&&◌, not, map, IfSome, IsSome, IsSomeAnd, option_map, if◌then◌else◌}
use Rattle.std.proofs.lemmas.Bool.{eqb-true}
use Rattle.dkg_ceremony.specs.declared.epocher.Bounds.{Bounds}
use Rattle.dkg_ceremony.specs.declared.round.RoundParts.{RoundParts as Round}
use Rattle.dkg_ceremony.specs.Schedule.{bounds_at, epoch_of, last, midpoint}
use Rattle.dkg_fence.specs.Readiness.{Readiness}
use Rattle.dkg_types.specs.Blocks.{Block}
use Rattle.dkg_infos.specs.declared.entry.Why.TheVariants.{Short}
use Rattle.dkg_artifact.specs.Requested as requested
use Rattle.dkg_artifact.specs.Requested.{ended_for, fed_for}
use Rattle.dkg_artifact.specs.Scans as scans
use Rattle.dkg_artifact.specs.Scans.{feeds}
use Rattle.dkg_artifact.specs.Seen.{Scan}
use Rattle.dkg_artifact.specs.declared.job.Job as job
use Rattle.dkg_artifact.specs.declared.scan.Fed as scan
use Rattle.dkg_artifact.specs.declared.scan.Fed.TheVariants as fed
use Rattle.dkg_artifact.specs.declared.scan.Tip.{Tip}
use Rattle.dkg_core.specs.Fixed.{Fixed}
use Rattle.dkg_core.specs.Including as including
use Rattle.dkg_core.specs.Live as core
use Rattle.dkg_core.specs.Live.{Live, Includes}
use Rattle.dkg_verifying.specs.declared.inclusion.Hand.{Hand}
use Rattle.dkg_verifying.specs.declared.inclusion.Inclusion.{Inclusion}
use Rattle.dkg_life.specs.declared.life.Life.{Life}
use Rattle.dkg_life.specs.declared.life.Stage.{Stage}
use Rattle.dkg_life.specs.declared.life.Stage.TheVariants as stage
use Rattle.dkg_verifying.specs.Including.{IsHandOf, behind_answer, ends_hand, fed_of, feeds_hand, goes_on}
use Rattle.dkg_verifying.specs.InclusionOf.{IsInHand, IsReadyInclusion, IsSeen, IsSettledInclusion, in_front, job_of, waiting_request_of, tip_of}
use Rattle.dkg_life.specs.LiveOf.{Beside, IsPlaced, awaited_of, live_of, stage_of}
use Rattle.dkg_life.specs.Rules.{CheckLogOf, DealingOf, FinishOf}
use Rattle.dkg_verifying.specs.Scanned.{IsFed, fed_all}
use Rattle.dkg_inclusion.proofs.Advancing.{ReadsFirst, Waits, WaitsBy, goes_as, waits_advances}
use Rattle.dkg_inclusion.proofs.Scans.{closed_by, fed_behind, feeds_awaits, read_is, read_more, read_on, read_short}

-- WORDS

pub at_some : {A : Type 0} (P : A → Type 0) (o : Option A) (x : A) → o ≡ Some x → IfSome o P → P x
at_some {A} P o x is has = subst (λ (q : Option A). IfSome q P) is has

pub at_some_and : {A : Type 0} (P : A → Type 0) (o : Option A) (x : A) → o ≡ Some x → IsSomeAnd o P → P x
at_some_and {A} P o x is has = subst (λ (q : Option A). IsSomeAnd q P) is has

pub some_and : {A : Type 0} (P : A → Type 0) (o : Option A) → IsSomeAnd o P → IsSome o
some_and P None has = absurd has
some_and P (Some x) has = refl

pub none_some : {A : Type 0} (P : Type 0) (o : Option A) → o ≡ None → IsSome o → P
none_some {A} P o none some = absurd (let e : false ≡ true = subst (λ (q : Option A). IsSome q) none some in cc)

-- AS THE RELATION HAS THEM

-- what inclusion has, with other requests
pub seen_queue : {C Dir Signer Cfg : Type 0} (its : Inclusion C Dir Signer Cfg) (i : core.Inclusion Dir) (hand : Option (Hand Dir Cfg)) (requests : List (requested.WaitingRequest Dir)) (queue : List (core.Request Dir))
    → queue ≡ map waiting_request_of (in_front hand requests) → IsSeen its i → IsSeen (record its { hand = hand; requests = requests }) (record i { queue = queue })
seen_queue its i hand requests queue same seen = record {
  served = seen.served;
  queue = same;
  running = seen.running;
  waiter = seen.waiter;
  retained = seen.retained;
  cached = seen.cached;
  told = seen.told;
  used = seen.used;
}

module _ {Dir : Type 0} (f : core.Request Dir → core.Request Dir) (g : requested.WaitingRequest Dir → requested.WaitingRequest Dir) (alike : (r : requested.WaitingRequest Dir) → f (waiting_request_of r) ≡ waiting_request_of (g r)) where
  pub map_alike : (rs : List (requested.WaitingRequest Dir)) → map f (map waiting_request_of rs) ≡ map waiting_request_of (map g rs)
  map_alike [] = refl
  map_alike (r ∷ rs) = λ i. alike r i ∷ map_alike rs i

module _ {Dir : Type 0} (request : ℕ) where
  -- one block more
  abbrev pub feeding : Block Dir → core.Request Dir → core.Request Dir
  feeding b r = if r.number == request then (if r.ended then r else record r { blocks = r.blocks ++ b ∷ [] }) else r

  pub fed_alike : (b : Block Dir) (r : requested.WaitingRequest Dir) → feeding b (waiting_request_of r) ≡ waiting_request_of (fed_for request b r)
  fed_alike b r = by_test (r.number == request) r.ended
    where
      by_test : (is ended : Bool) → (if is then (if ended then waiting_request_of r else waiting_request_of (record r { blocks = r.blocks ++ b ∷ [] })) else waiting_request_of r)
          ≡ waiting_request_of (if is && not ended then record r { blocks = r.blocks ++ b ∷ [] } else r)
      by_test true true = refl
      by_test true false = refl
      by_test false ended = refl

  -- the end
  abbrev pub ending : core.Request Dir → core.Request Dir
  ending r = if r.number == request then record r { ended = true } else r

  pub ended_alike : (r : requested.WaitingRequest Dir) → ending (waiting_request_of r) ≡ waiting_request_of (ended_for request r)
  ended_alike r = by_test (r.number == request)
    where
      by_test : (is : Bool) → (if is then waiting_request_of (record r { ended = true }) else waiting_request_of r) ≡ waiting_request_of (if is then record r { ended = true } else r)
      by_test true = refl
      by_test false = refl

-- WHERE NOTHING CAN BE READ

module _ {Dir : Type 0} (check : CheckLogOf) (n : ℕ) (life : Life Dir) (placed : IsPlaced n life) where
  includes_is : life.stage ≡ stage.Including → life.epoch ≡ epoch_of n (awaited_of life)
  includes_is is = placed.epoch_is (λ follows. let e : stage.Including ≡ stage.Following = sym is ∙ follows in cc)

  module _ (c : Fixed Dir) (blocks : c.blocks_per_epoch ≡ n) (checks : c.rules.check_log_of ≡ check) (beside : Beside Dir) (fence : Readiness) where
    last_is : life.stage ≡ stage.Including → (bounds_at n (awaited_of life)).last ≡ including.final_height c (live_of beside fence life)
    last_is is = λ i. last (sym blocks i) (sym (includes_is is) i)

    middle_is : life.stage ≡ stage.Including → (bounds_at n (awaited_of life)).midpoint ≡ midpoint c.blocks_per_epoch life.epoch
    middle_is is = λ i. midpoint (sym blocks i) (sym (includes_is is) i)

    -- The request in hand needs more.
    pub hand_needs : {Cfg : Type 0} (hand : Hand Dir Cfg) → IsInHand check n life hand → (round : Round) → life.round ≡ Some round → including.read_of c round (live_of beside fence life) (waiting_request_of hand.request) ≡ including.Need
    hand_needs hand in_hand round has =
        let its = at_some_and (λ (r : Round). IsFed check r (bounds_at n (awaited_of life)) (option_map tip_of life.tip) hand.request.blocks hand.scan) life.round round has in_hand.stands in
        ap (λ (ended : Bool). including.read_of c round (live_of beside fence life) (record { number = hand.request.number; blocks = hand.request.blocks; ended = ended })) in_hand.goes_on
        ∙ read_on c round (live_of beside fence life) check checks (bounds_at n (awaited_of life)) (last_is in_hand.includes) (middle_is in_hand.includes) hand.request.number hand.request.blocks hand.scan its.fed

    -- A request is read from the start of its ancestry.
    pub read_by : life.stage ≡ stage.Including → (round : Round) (number : ℕ) (blocks : List (Block Dir)) (ended : Bool) (bounds : Bounds) → bounds ≡ bounds_at n (awaited_of life) → (tip : Option Tip) → tip ≡ option_map tip_of life.tip
        → (s : Scan) (first : scan.Fed) → s ≡ scans.starts round bounds tip → first ≡ scans.first_answer bounds.last → (its : scan.Fed) (now : Scan) → (its, now) ≡ fed_all check s first blocks
        → including.read_of c round (live_of beside fence life) (record { number = number; blocks = blocks; ended = ended }) ≡ closed_by ended its
    read_by includes round number blocks ended bounds at tip above s first starts answers its now fed =
        read_is c round (live_of beside fence life) check checks (bounds_at n (awaited_of life)) (last_is includes) (middle_is includes) number blocks ended
        ∙ ap (λ (p : scan.Fed × Scan). closed_by ended p.0)
        (sym (fed ∙ (λ i. fed_all check (starts i) (answers i) blocks) ∙ (λ i. fed_all check (scans.starts round (at i) (above i)) (scans.first_answer (at i).last) blocks)))

module _ {C Dir Signer Cfg : Type 0} (check : CheckLogOf) (dealing_of : DealingOf) (finish_of : FinishOf) (n : ℕ) (life : Life Dir) (placed : IsPlaced n life) where
  abbrev Ready : Inclusion C Dir Signer Cfg → Type 0
  Ready its = IsReadyInclusion check dealing_of finish_of n life its

  abbrev Settled : Inclusion C Dir Signer Cfg → Type 0
  Settled its = IsSettledInclusion check dealing_of finish_of n life its

  module _ (c : Fixed Dir) (blocks : c.blocks_per_epoch ≡ n) (checks : c.rules.check_log_of ≡ check) (beside : Beside Dir) (fence : Readiness) where
    pub settled_waits : (its : Inclusion C Dir Signer Cfg) → IsSeen its beside.inclusion → Settled its → Waits c (live_of beside fence life)
    settled_waits its seen settled = λ round has. by_stage round has life.stage refl
      where
        by_hand : (round : Round) → life.round ≡ Some round → life.stage ≡ stage.Including → its.verification.running ≡ None → (hand : Option (Hand Dir Cfg)) → its.hand ≡ hand
            → WaitsBy c round (live_of beside fence life) Includes None (map waiting_request_of (in_front hand its.requests))
        by_hand round has includes free None is =
            subst (λ (rs : List (requested.WaitingRequest Dir)). WaitsBy c round (live_of beside fence life) Includes None (map waiting_request_of rs)) (sym (settled.settled includes (subst (λ (o : Option Round). IsSome o) (sym has) refl) is free)) tt
        by_hand round has includes free (Some hand) is = ap including.is_need (hand_needs check n life placed c blocks checks beside fence hand (at_some (IsInHand check n life) its.hand hand is settled.ready.hand) round has)

        by_running : (round : Round) → life.round ≡ Some round → life.stage ≡ stage.Including → (running : Option job.Job) → its.verification.running ≡ running
            → WaitsBy c round (live_of beside fence life) Includes (option_map job_of running) (map waiting_request_of (in_front its.hand its.requests))
        by_running round has includes None free = by_hand round has includes free its.hand refl
        by_running round has includes (Some j) is = tt

        by_stage : (round : Round) → life.round ≡ Some round → (s : Stage) → life.stage ≡ s → WaitsBy c round (live_of beside fence life) (stage_of s) beside.inclusion.running beside.inclusion.queue
        by_stage round has stage.Dealing is = tt
        by_stage round has stage.Including is =
            subst (λ (j : Option core.Job). WaitsBy c round (live_of beside fence life) Includes j beside.inclusion.queue) (sym seen.running)
            (subst (λ (q : List (core.Request Dir)). WaitsBy c round (live_of beside fence life) Includes (option_map job_of its.verification.running) q) (sym seen.queue) (by_running round has is its.verification.running refl))
        by_stage round has stage.Following is = tt

  -- A REQUEST THAT IS FED, or whose ancestry has ended

  -- what then has to be done
  pub record Answers (request : ℕ) (its : scan.Fed) (new : Inclusion C Dir Signer Cfg) : Type 0 where
    pub needs : its ≡ fed.Need → Settled new
    pub answers : Ready (behind_answer its new)
    pub hand : (its ≡ fed.Need → ⊥) → IsHandOf life new request

  -- .. by the relation
  pub record GoesBy (c : Fixed Dir) (request : ℕ) (st : Live Dir) (its : scan.Fed) (new : Inclusion C Dir Signer Cfg) : Type 0 where
    pub seen : IsSeen new st.inclusion
    pub goes : including.advanced c st ≡ goes_on c request (fed_of its) st

  ready_changed : (its : Inclusion C Dir Signer Cfg) (g : requested.WaitingRequest Dir → requested.WaitingRequest Dir) → Ready its → Ready (record its { requests = map g its.requests })
  ready_changed its g ready = record {
    hand = ready.hand;
    free = ready.free;
    runs = ready.runs;
    idle = λ follows. ap (λ (rs : List (requested.WaitingRequest Dir)). map g rs) (ready.idle follows);
    current = ready.current;
    unserved = ready.unserved;
  }

  -- It goes to a request that isn't in hand.
  settled_changed : (its : Inclusion C Dir Signer Cfg) (g : requested.WaitingRequest Dir → requested.WaitingRequest Dir) → Settled its → Settled (record its { requests = map g its.requests })
  settled_changed its g settled = record {
    ready = ready_changed its g settled.ready;
    settled = λ includes round none free. ap (λ (rs : List (requested.WaitingRequest Dir)). map g rs) (settled.settled includes round none free);
  }

  answers_none : (request : ℕ) (its : Inclusion C Dir Signer Cfg) (g : requested.WaitingRequest Dir → requested.WaitingRequest Dir) → Settled its → Answers request fed.Need (record its { requests = map g its.requests })
  answers_none request its g settled = record {
    needs = λ needs. settled_changed its g settled;
    answers = ready_changed its g settled.ready;
    hand = λ no. absurd (no refl);
  }

  module _ (request : ℕ) (its : Inclusion C Dir Signer Cfg) (hand : Hand Dir Cfg) (has : its.hand ≡ Some hand) (settled : Settled its) where
    in_hand : IsInHand check n life hand
    in_hand = at_some (IsInHand check n life) its.hand hand has settled.ready.hand

    is_free : its.verification.running ≡ None
    is_free = settled.ready.free (subst (λ (o : Option (Hand Dir Cfg)). IsSome o) (sym has) refl)

    -- the request in hand is another then
    abbrev with_hand : (g : requested.WaitingRequest Dir → requested.WaitingRequest Dir) → Hand Dir Cfg → Inclusion C Dir Signer Cfg
    with_hand g now = record its { hand = Some now; requests = map g its.requests }

    ready_hand : (g : requested.WaitingRequest Dir → requested.WaitingRequest Dir) (now : Hand Dir Cfg) → IsInHand check n life now → Ready (with_hand g now)
    ready_hand g now is = record {
      hand = is;
      free = λ some. is_free;
      runs = settled.ready.runs;
      idle = λ follows. ap (λ (rs : List (requested.WaitingRequest Dir)). map g rs) (settled.ready.idle follows);
      current = settled.ready.current;
      unserved = settled.ready.unserved;
    }

    ready_behind : (g : requested.WaitingRequest Dir → requested.WaitingRequest Dir) → Ready (record its { hand = None; requests = map g its.requests })
    ready_behind g = record {
      hand = tt;
      free = λ some. is_free;
      runs = settled.ready.runs;
      idle = λ follows. ap (λ (rs : List (requested.WaitingRequest Dir)). map g rs) (settled.ready.idle follows);
      current = settled.ready.current;
      unserved = settled.ready.unserved;
    }

    settled_hand : (g : requested.WaitingRequest Dir → requested.WaitingRequest Dir) (now : Hand Dir Cfg) → IsInHand check n life now → Settled (with_hand g now)
    settled_hand g now is = record { ready = ready_hand g now is; settled = λ includes round none free. let e : ◌≡◌ {A = Option (Hand Dir Cfg)} (Some now) None = none in absurd cc }

    hand_of : (g : requested.WaitingRequest Dir → requested.WaitingRequest Dir) (now : Hand Dir Cfg) → now.request.number ≡ request → IsHandOf life (with_hand g now) request
    hand_of g now same = record {
      hand = same;
      includes = in_hand.includes;
      round = some_and (λ (r : Round). IsFed check r (bounds_at n (awaited_of life)) (option_map tip_of life.tip) hand.request.blocks hand.scan) life.round in_hand.stands;
      free = is_free;
    }

    -- by what the scan answered
    answers_by : (g : requested.WaitingRequest Dir → requested.WaitingRequest Dir) (now : Hand Dir Cfg) → now.request.number ≡ request → (x : scan.Fed) → (x ≡ fed.Need → IsInHand check n life now) → Answers request x (with_hand g now)
    answers_by g now same fed.Need is = record { needs = λ needs. settled_hand g now (is refl); answers = ready_hand g now (is refl); hand = λ no. hand_of g now same }
    answers_by g now same (fed.Logs found) is = record { needs = λ needs. absurd (let e : fed.Logs found ≡ fed.Need = needs in cc); answers = ready_behind g; hand = λ no. hand_of g now same }
    answers_by g now same (fed.Unavailable why) is = record { needs = λ needs. absurd (let e : fed.Unavailable why ≡ fed.Need = needs in cc); answers = ready_behind g; hand = λ no. hand_of g now same }

    -- one block more
    abbrev fed_hand : Block Dir → Hand Dir Cfg
    fed_hand b = record hand { request = record hand.request { blocks = hand.request.blocks ++ b ∷ [] }; scan = (feeds check hand.scan b).1 }

    fed_in_hand : (b : Block Dir) → (feeds check hand.scan b).0 ≡ fed.Need → IsInHand check n life (fed_hand b)
    fed_in_hand b needs = record { includes = in_hand.includes; goes_on = in_hand.goes_on; stands = by_round life.round in_hand.stands }
      where
        by_round : (o : Option Round) → IsSomeAnd o (λ r. IsFed check r (bounds_at n (awaited_of life)) (option_map tip_of life.tip) hand.request.blocks hand.scan)
            → IsSomeAnd o (λ r. IsFed check r (bounds_at n (awaited_of life)) (option_map tip_of life.tip) (hand.request.blocks ++ b ∷ []) (feeds check hand.scan b).1)
        by_round None is = absurd is
        by_round (Some r) is =
            fed_behind check r (bounds_at n (awaited_of life)) (option_map tip_of life.tip) hand.request.blocks b hand.scan (feeds check hand.scan b).1 is
            (ap (λ (x : scan.Fed). (x, (feeds check hand.scan b).1)) needs) (feeds_awaits check hand.scan b is.awaits needs)

  -- What a block is to the requests that wait.
  pub block_answers : (request : ℕ) (b : Block Dir) (its : Inclusion C Dir Signer Cfg) → Settled its → (x : scan.Fed) (new : Inclusion C Dir Signer Cfg)
      → feeds_hand check request b (record its { requests = map (fed_for request b) its.requests }) its.hand ≡ (x, new) → Answers request x new
  block_answers request b its settled x new is =
      subst (λ (p : scan.Fed × Inclusion C Dir Signer Cfg). Answers request p.0 p.1) is (by_hand its.hand refl)
    where
      by_number : (hand : Hand Dir Cfg) → its.hand ≡ Some hand → (same : Bool) → (hand.request.number == request) ≡ same
          → let old : Inclusion C Dir Signer Cfg = record its { requests = map (fed_for request b) its.requests } in
          let p : scan.Fed × Inclusion C Dir Signer Cfg = (if same then ((feeds check hand.scan b).0, record old { hand = Some (record hand { request = record hand.request { blocks = hand.request.blocks ++ b ∷ [] }; scan = (feeds check hand.scan b).1 }) }) else (fed.Need, old)) in
          Answers request p.0 p.1
      by_number hand has true same =
          answers_by request its hand has settled (fed_for request b) (fed_hand request its hand has settled b) (eqb-true hand.request.number request same) (feeds check hand.scan b).0
          (fed_in_hand request its hand has settled b)
      by_number hand has false same = answers_none request its (fed_for request b) settled

      by_hand : (hand : Option (Hand Dir Cfg)) → its.hand ≡ hand
          → let p = feeds_hand check request b (record its { requests = map (fed_for request b) its.requests }) hand in Answers request p.0 p.1
      by_hand None has = answers_none request its (fed_for request b) settled
      by_hand (Some hand) has = by_number hand has (hand.request.number == request) refl

  -- .. and the end of an ancestry
  pub end_answers : (request : ℕ) (its : Inclusion C Dir Signer Cfg) → Settled its → (x : scan.Fed) (new : Inclusion C Dir Signer Cfg)
      → ends_hand request (record its { requests = map (ended_for request) its.requests }) its.hand ≡ (x, new) → Answers request x new
  end_answers request its settled x new is =
      subst (λ (p : scan.Fed × Inclusion C Dir Signer Cfg). Answers request p.0 p.1) is (by_hand its.hand refl)
    where
      by_number : (hand : Hand Dir Cfg) → its.hand ≡ Some hand → (same : Bool) → (hand.request.number == request) ≡ same
          → let old : Inclusion C Dir Signer Cfg = record its { requests = map (ended_for request) its.requests } in
          let p : scan.Fed × Inclusion C Dir Signer Cfg = (if same then (fed.Unavailable Short, record old { hand = Some (record hand { request = record hand.request { ended = true }; scan = scans.closes hand.scan }) }) else (fed.Need, old)) in
          Answers request p.0 p.1
      by_number hand has true same =
          answers_by request its hand has settled (ended_for request) (record hand { request = record hand.request { ended = true }; scan = scans.closes hand.scan }) (eqb-true hand.request.number request same) (fed.Unavailable Short)
          (λ e. absurd (let h : fed.Unavailable Short ≡ fed.Need = e in cc))
      by_number hand has false same = answers_none request its (ended_for request) settled

      by_hand : (hand : Option (Hand Dir Cfg)) → its.hand ≡ hand → let p = ends_hand request (record its { requests = map (ended_for request) its.requests }) hand in Answers request p.0 p.1
      by_hand None has = answers_none request its (ended_for request) settled
      by_hand (Some hand) has = by_number hand has (hand.request.number == request) refl

  -- BY THE RELATION

  module _ (c : Fixed Dir) (blocks : c.blocks_per_epoch ≡ n) (checks : c.rules.check_log_of ≡ check) (beside : Beside Dir) (fence : Readiness) (request : ℕ) (its : Inclusion C Dir Signer Cfg)
      (seen : IsSeen its beside.inclusion) (settled : Settled its)
    where
      -- what inclusion has, with each request that waits changed
      abbrev as_changed : (core.Request Dir → core.Request Dir) → core.Inclusion Dir
      as_changed f = record beside.inclusion { queue = map f beside.inclusion.queue }

      abbrev beside_changed : (core.Request Dir → core.Request Dir) → Beside Dir
      beside_changed f = record beside { inclusion = as_changed f }

      abbrev live_changed : (core.Request Dir → core.Request Dir) → Live Dir
      live_changed f = live_of (beside_changed f) fence life

      module _ (f : core.Request Dir → core.Request Dir) (g : requested.WaitingRequest Dir → requested.WaitingRequest Dir) (alike : (r : requested.WaitingRequest Dir) → f (waiting_request_of r) ≡ waiting_request_of (g r)) where
        -- each of them
        changed_queue : (hand : Option (Hand Dir Cfg)) (now : Option (Hand Dir Cfg)) → map g (in_front hand its.requests) ≡ in_front now (map g its.requests) → its.hand ≡ hand
            → map f beside.inclusion.queue ≡ map waiting_request_of (in_front now (map g its.requests))
        changed_queue hand now same has =
            ap (λ (q : List (core.Request Dir)). map f q) seen.queue
            ∙ map_alike f g alike (in_front its.hand its.requests)
            ∙ ap (λ (o : Option (Hand Dir Cfg)). map waiting_request_of (map g (in_front o its.requests))) has
            ∙ ap (λ (rs : List (requested.WaitingRequest Dir)). map waiting_request_of rs) same

        seen_changed : (hand : Option (Hand Dir Cfg)) (now : Option (Hand Dir Cfg)) → map g (in_front hand its.requests) ≡ in_front now (map g its.requests) → its.hand ≡ hand
            → IsSeen (record its { hand = now; requests = map g its.requests }) (as_changed f)
        seen_changed hand now same has = seen_queue its beside.inclusion now (map g its.requests) (map f beside.inclusion.queue) (changed_queue hand now same has) seen

        -- Nothing in hand was changed: nothing can be read.
        goes_none : (new : Inclusion C Dir Signer Cfg) → IsSeen new (as_changed f) → Settled new → GoesBy c request (live_changed f) fed.Need new
        goes_none new is still = record { seen = is; goes = waits_advances c _ (live_changed f) (settled_waits c blocks checks (beside_changed f) fence new is still) }

        none_kept : its.hand ≡ None → IsSeen (record its { requests = map g its.requests }) (as_changed f)
        none_kept has = subst (λ (o : Option (Hand Dir Cfg)). IsSeen (record its { hand = o; requests = map g its.requests }) (as_changed f)) (sym has) (seen_changed None None refl has)

        other_kept : (hand : Hand Dir Cfg) → its.hand ≡ Some hand → g hand.request ≡ hand.request → IsSeen (record its { requests = map g its.requests }) (as_changed f)
        other_kept hand has same =
            subst (λ (o : Option (Hand Dir Cfg)). IsSeen (record its { hand = o; requests = map g its.requests }) (as_changed f)) (sym has)
            (seen_changed (Some hand) (Some hand) (ap (λ (r : requested.WaitingRequest Dir). r ∷ map g its.requests) same) has)

        -- The one in hand was: it is read.
        module _ (hand : Hand Dir Cfg) (has : its.hand ≡ Some hand) (now : Hand Dir Cfg) (same : g hand.request ≡ now.request) (number : now.request.number ≡ request) (x : scan.Fed)
            (reads : (round : Round) → life.round ≡ Some round → including.read_of c round (live_changed f) (waiting_request_of now.request) ≡ fed_of x)
          where
            seen_now : IsSeen (record its { hand = Some now; requests = map g its.requests }) (as_changed f)
            seen_now = seen_changed (Some hand) (Some now) (ap (λ (r : requested.WaitingRequest Dir). r ∷ map g its.requests) same) has

            reads_first : (round : Round) → life.round ≡ Some round → ReadsFirst c (live_changed f) round (waiting_request_of now.request) (map waiting_request_of (map g its.requests))
            reads_first round is = record {
              round_is = is;
              includes = ap stage_of (in_hand request its hand has settled).includes;
              free = seen.running ∙ ap (option_map job_of) (is_free request its hand has settled);
              queue = seen_now.queue;
            }

            goes_answered : including.is_need (fed_of x) ≡ false → (o : Option Round) → life.round ≡ o → IsSome o → including.advanced c (live_changed f) ≡ goes_on c request (fed_of x) (live_changed f)
            goes_answered answered None is some = absurd (let e : false ≡ true = some in cc)
            goes_answered answered (Some round) is some =
                goes_as c (live_changed f) round (waiting_request_of now.request) (map waiting_request_of (map g its.requests)) (reads_first round is) (fed_of x) (reads round is) answered request number

            has_round : IsSome life.round
            has_round = some_and (λ (r : Round). IsFed check r (bounds_at n (awaited_of life)) (option_map tip_of life.tip) hand.request.blocks hand.scan) life.round (in_hand request its hand has settled).stands

        goes_hand : (hand : Hand Dir Cfg) (has : its.hand ≡ Some hand) (now : Hand Dir Cfg) → g hand.request ≡ now.request → now.request.number ≡ request → (x : scan.Fed)
            → ((round : Round) → life.round ≡ Some round → including.read_of c round (live_changed f) (waiting_request_of now.request) ≡ fed_of x)
            → Answers request x (with_hand request its hand has settled g now) → GoesBy c request (live_changed f) x (with_hand request its hand has settled g now)
        goes_hand hand has now same number fed.Need reads answers = goes_none (with_hand request its hand has settled g now) (seen_now hand has now same number fed.Need reads) (answers.needs refl)
        goes_hand hand has now same number (fed.Logs found) reads answers =
            record { seen = seen_now hand has now same number (fed.Logs found) reads; goes = goes_answered hand has now same number (fed.Logs found) reads refl life.round refl (has_round hand has now same number (fed.Logs found) reads) }
        goes_hand hand has now same number (fed.Unavailable why) reads answers =
            record { seen = seen_now hand has now same number (fed.Unavailable why) reads; goes = goes_answered hand has now same number (fed.Unavailable why) reads refl life.round refl (has_round hand has now same number (fed.Unavailable why) reads) }

      -- ONE BLOCK MORE

      fed_reads : (b : Block Dir) (hand : Hand Dir Cfg) (has : its.hand ≡ Some hand) (round : Round) → life.round ≡ Some round
          → including.read_of c round (live_changed (feeding request b)) (waiting_request_of (fed_hand request its hand has settled b).request) ≡ fed_of (feeds check hand.scan b).0
      fed_reads b hand has round is =
          let is_in = in_hand request its hand has settled in
          let at = at_some_and (λ (r : Round). IsFed check r (bounds_at n (awaited_of life)) (option_map tip_of life.tip) hand.request.blocks hand.scan) life.round round is is_in.stands in
          ap (λ (ended : Bool). including.read_of c round (live_changed (feeding request b)) (record { number = hand.request.number; blocks = hand.request.blocks ++ b ∷ []; ended = ended })) is_in.goes_on
          ∙ read_more c round (live_changed (feeding request b)) check checks (bounds_at n (awaited_of life)) (last_is check n life placed c blocks checks (beside_changed (feeding request b)) fence is_in.includes)
          (middle_is check n life placed c blocks checks (beside_changed (feeding request b)) fence is_in.includes) hand.request.number hand.request.blocks b hand.scan at.fed

      same_fed : (b : Block Dir) (hand : Hand Dir Cfg) → hand.request.ended ≡ false → (hand.request.number == request) ≡ true → fed_for request b hand.request ≡ record hand.request { blocks = hand.request.blocks ++ b ∷ [] }
      same_fed b hand on same = λ i. if same i && not (on i) then record hand.request { blocks = hand.request.blocks ++ b ∷ [] } else hand.request

      other_fed : (b : Block Dir) (hand : Hand Dir Cfg) → (hand.request.number == request) ≡ false → fed_for request b hand.request ≡ hand.request
      other_fed b hand same = ap (λ (v : Bool). if v && not hand.request.ended then record hand.request { blocks = hand.request.blocks ++ b ∷ [] } else hand.request) same

      pub block_goes : (b : Block Dir) (x : scan.Fed) (new : Inclusion C Dir Signer Cfg)
          → feeds_hand check request b (record its { requests = map (fed_for request b) its.requests }) its.hand ≡ (x, new) → GoesBy c request (live_changed (feeding request b)) x new
      block_goes b x new is = subst (λ (p : scan.Fed × Inclusion C Dir Signer Cfg). GoesBy c request (live_changed (feeding request b)) p.0 p.1) is (by_hand its.hand refl)
        where
          by_number : (hand : Hand Dir Cfg) → its.hand ≡ Some hand → (same : Bool) → (hand.request.number == request) ≡ same
              → let old : Inclusion C Dir Signer Cfg = record its { requests = map (fed_for request b) its.requests } in
              let p : scan.Fed × Inclusion C Dir Signer Cfg = (if same then ((feeds check hand.scan b).0, record old { hand = Some (record hand { request = record hand.request { blocks = hand.request.blocks ++ b ∷ [] }; scan = (feeds check hand.scan b).1 }) }) else (fed.Need, old)) in
              GoesBy c request (live_changed (feeding request b)) p.0 p.1
          by_number hand has true same =
              goes_hand (feeding request b) (fed_for request b) (fed_alike request b) hand has (fed_hand request its hand has settled b) (same_fed b hand (in_hand request its hand has settled).goes_on same)
              (eqb-true hand.request.number request same) (feeds check hand.scan b).0 (fed_reads b hand has)
              (answers_by request its hand has settled (fed_for request b) (fed_hand request its hand has settled b) (eqb-true hand.request.number request same) (feeds check hand.scan b).0 (fed_in_hand request its hand has settled b))
          by_number hand has false same =
              goes_none (feeding request b) (fed_for request b) (fed_alike request b) (record its { requests = map (fed_for request b) its.requests })
              (other_kept (feeding request b) (fed_for request b) (fed_alike request b) hand has (other_fed b hand same)) (settled_changed its (fed_for request b) settled)

          by_hand : (hand : Option (Hand Dir Cfg)) → its.hand ≡ hand
              → let p = feeds_hand check request b (record its { requests = map (fed_for request b) its.requests }) hand in GoesBy c request (live_changed (feeding request b)) p.0 p.1
          by_hand None has =
              goes_none (feeding request b) (fed_for request b) (fed_alike request b) (record its { requests = map (fed_for request b) its.requests }) (none_kept (feeding request b) (fed_for request b) (fed_alike request b) has)
              (settled_changed its (fed_for request b) settled)
          by_hand (Some hand) has = by_number hand has (hand.request.number == request) refl

      -- THE END OF AN ANCESTRY

      abbrev over_hand : Hand Dir Cfg → Hand Dir Cfg
      over_hand hand = record hand { request = record hand.request { ended = true }; scan = scans.closes hand.scan }

      end_reads : (hand : Hand Dir Cfg) (has : its.hand ≡ Some hand) (round : Round) → life.round ≡ Some round
          → including.read_of c round (live_changed (ending request)) (waiting_request_of (over_hand hand).request) ≡ fed_of (fed.Unavailable Short)
      end_reads hand has round is =
          let is_in = in_hand request its hand has settled in
          let at = at_some_and (λ (r : Round). IsFed check r (bounds_at n (awaited_of life)) (option_map tip_of life.tip) hand.request.blocks hand.scan) life.round round is is_in.stands in
          read_short c round (live_changed (ending request)) check checks (bounds_at n (awaited_of life)) (last_is check n life placed c blocks checks (beside_changed (ending request)) fence is_in.includes)
          (middle_is check n life placed c blocks checks (beside_changed (ending request)) fence is_in.includes) hand.request.number hand.request.blocks hand.scan at.fed

      pub end_goes : (x : scan.Fed) (new : Inclusion C Dir Signer Cfg)
          → ends_hand request (record its { requests = map (ended_for request) its.requests }) its.hand ≡ (x, new) → GoesBy c request (live_changed (ending request)) x new
      end_goes x new is = subst (λ (p : scan.Fed × Inclusion C Dir Signer Cfg). GoesBy c request (live_changed (ending request)) p.0 p.1) is (by_hand its.hand refl)
        where
          by_number : (hand : Hand Dir Cfg) → its.hand ≡ Some hand → (same : Bool) → (hand.request.number == request) ≡ same
              → let old : Inclusion C Dir Signer Cfg = record its { requests = map (ended_for request) its.requests } in
              let p : scan.Fed × Inclusion C Dir Signer Cfg = (if same then (fed.Unavailable Short, record old { hand = Some (record hand { request = record hand.request { ended = true }; scan = scans.closes hand.scan }) }) else (fed.Need, old)) in
              GoesBy c request (live_changed (ending request)) p.0 p.1
          by_number hand has true same =
              goes_hand (ending request) (ended_for request) (ended_alike request) hand has (over_hand hand) (ap (λ (v : Bool). if v then record hand.request { ended = true } else hand.request) same)
              (eqb-true hand.request.number request same) (fed.Unavailable Short) (end_reads hand has)
              (answers_by request its hand has settled (ended_for request) (over_hand hand) (eqb-true hand.request.number request same) (fed.Unavailable Short) (λ e. absurd (let h : fed.Unavailable Short ≡ fed.Need = e in cc)))
          by_number hand has false same =
              goes_none (ending request) (ended_for request) (ended_alike request) (record its { requests = map (ended_for request) its.requests })
              (other_kept (ending request) (ended_for request) (ended_alike request) hand has (ap (λ (v : Bool). if v then record hand.request { ended = true } else hand.request) same)) (settled_changed its (ended_for request) settled)

          by_hand : (hand : Option (Hand Dir Cfg)) → its.hand ≡ hand
              → let p = ends_hand request (record its { requests = map (ended_for request) its.requests }) hand in GoesBy c request (live_changed (ending request)) p.0 p.1
          by_hand None has =
              goes_none (ending request) (ended_for request) (ended_alike request) (record its { requests = map (ended_for request) its.requests }) (none_kept (ending request) (ended_for request) (ended_alike request) has)
              (settled_changed its (ended_for request) settled)
          by_hand (Some hand) has = by_number hand has (hand.request.number == request) refl
