-- The requests that an epoch's last block leaves, answered one behind another.
use Rattle.std.proofs.Common.{◌≡◌, inl, inr, ℕ, List, [], ◌∷◌, ◌++◌, Option, None, refl, sym, ◌∙◌, ap, subst}
use Rattle.std.specs.Prelude.{map}
use Rattle.std.specs.FinMap.{insert}
use Rattle.dkg_fence.specs.Readiness.{Readiness}
use Rattle.dkg_journal.specs.Burn.{Burn}
use Rattle.dkg_infos.specs.declared.entry.Entry.{Entry}
use Rattle.dkg_infos.specs.declared.entry.Why.TheVariants.{Finished}
use Rattle.dkg_infos.specs.declared.fault.Fault.{Fault}
use Rattle.dkg_infos.specs.declared.fault.Fault.TheVariants.{NoMemory}
use Rattle.dkg_artifact.specs.Requested.{WaitingRequest}
use Rattle.dkg_store.specs.Acts as acts_of
use Rattle.dkg_store.specs.Acts.{Breaks, Ended, Held, Runs, World, broken, by_want, stopped, went}
use Rattle.dkg_store.proofs.Acts.{breaks_none}
use Rattle.dkg_core.specs.Blocks as blocks
use Rattle.dkg_core.specs.Courses.{Course, Goes, Say, on_devices}
use Rattle.dkg_core.specs.Including as including
use Rattle.dkg_core.specs.Live as core
use Rattle.dkg_core.specs.Live.{Live, GaveNone, with_told}
use Rattle.dkg_life.specs.Ends.{by_stop}
use Rattle.dkg_verifying.specs.InclusionOf.{IsSeen, in_front, waiting_request_of}
use Rattle.dkg_life.specs.LiveOf.{Beside, EndsWith, live_of}
use Rattle.dkg_life.specs.Made.{Speaks}
use Rattle.dkg_verifying.specs.declared.inclusion.Hand.{Hand}
use Rattle.dkg_verifying.specs.declared.inclusion.Inclusion.{Inclusion}
use Rattle.dkg_life.specs.declared.life.Life.{Life}
use Rattle.dkg_life.specs.declared.stop.Stop.{Stop}
use Rattle.dkg_life.specs.declared.stop.Stop.TheVariants.{Fault as Faulted}
use Rattle.dkg_verifying.specs.declared.told.EpochInfoResponse.TheVariants.{Unavailable}
use Rattle.dkg_verifying.specs.declared.told.Told.TheVariants.{Info}
use Rattle.dkg_life.proofs.Said.{nothing_held}
use Rattle.dkg_life.proofs.Speaking.{goes_speaks}
use Rattle.dkg_verifying.proofs.Telling.{ends_with, seen_told}

-- A LINE, and what stands behind it

abbrev world_of : List Entry → Held → Burn → World
world_of out h f = record { out = out; held = h; fuse = f }

module _ {Dir S T : Type 0} (line : Entry) (its : S) (next : Course Dir Fault T) where
  told_line : (end : S) (out mid : List Entry) → Speaks {Dir = Dir} {F = Fault} (Say line (Goes its)) (went end) out mid → mid ≡ out ++ line ∷ []
  told_line end out mid first = let f : Burn = record { call = 0; pick = 0; spent = 0 } in ap (λ (w : World). w.out) ((first nothing_held f).0)

  behind_line : (how : Ended Fault T) (w new : World) → Runs (on_devices next) how (acts_of.says w line) new → Runs (acts_of.Say line (on_devices next)) how w new
  behind_line (went end) w new runs = runs
  behind_line (stopped fault) w new runs = runs
  behind_line (broken cause) w new runs = inr runs

  pub line_then : (end : S) (how : Ended Fault T) (out mid now : List Entry) → Speaks {Dir = Dir} {F = Fault} (Say line (Goes its)) (went end) out mid → Speaks next how mid now → Speaks (Say line next) how out now
  line_then end how out mid now first second = λ h f.
      behind_line how (world_of out h f) (world_of now h f)
      (subst (λ (l : List Entry). Runs (on_devices next) how (world_of l h f) (world_of now h f)) (told_line end out mid first) (second h f))

  wanting : (w new : World) → Breaks {F = Fault} by_want (acts_of.Say line (acts_of.Goes its)) w new → Breaks by_want (acts_of.Say line (on_devices next)) w new
  wanting w new (inl none) = inl none
  wanting w new (inr more) = inr (subst (λ (x : World). Breaks by_want (on_devices next) (acts_of.says w line) x) (sym more.1) (breaks_none by_want tt (on_devices next) (acts_of.says w line)))

  pub line_wants : (stop : Stop) → stop ≡ Faulted NoMemory → (out mid : List Entry) → Speaks {Dir = Dir} {F = Fault} (Say line (Goes its)) (by_stop stop) out mid → Speaks (Say line next) (by_stop stop) out mid
  line_wants stop ends out mid first =
      subst (λ (s : Stop). Speaks (Say line next) (by_stop s) out mid) (sym ends)
      (λ h f. wanting (world_of out h f) (world_of mid h f) (subst (λ (s : Stop). Speaks {Dir = Dir} {F = Fault} (Say line (Goes its)) (by_stop s) out mid) ends first h f))

-- SOME REQUESTS ARE LEFT: of those before them each was told, and to answer these is to answer all.

-- with this in the relation's memory
abbrev pub with_its : {Dir : Type 0} → Beside Dir → Readiness → Life Dir → core.Inclusion Dir → Live Dir
with_its beside fence life i = live_of (record beside { inclusion = i }) fence life

module _ {C Dir Signer Cfg : Type 0} (beside : Beside Dir) (fence : Readiness) (life : Life Dir) where
  pub record IsLeft (its : Inclusion C Dir Signer Cfg) (out told : List Entry) : Type 0 where
    pub now : core.Inclusion Dir
    pub seen : IsSeen its (record now { queue = map waiting_request_of its.requests })
    pub on : (how : Ended Fault (Live Dir)) (last : List Entry) → Speaks (blocks.answers_all (map waiting_request_of its.requests) (with_its beside fence life now)) how told last
        → Speaks (blocks.answers_all beside.inclusion.queue (live_of beside fence life)) how out last

  -- all of them
  pub all_left : (its : Inclusion C Dir Signer Cfg) → its.hand ≡ None → IsSeen its beside.inclusion → (out : List Entry) → IsLeft its out out
  all_left its none seen out =
      let queue : beside.inclusion.queue ≡ map waiting_request_of its.requests = seen.queue ∙ ap (λ (h : Option (Hand Dir Cfg)). map waiting_request_of (in_front h its.requests)) none in
      record {
        now = beside.inclusion;
        seen = subst (λ (q : List (core.Request Dir)). IsSeen its (record beside.inclusion { queue = q })) queue seen;
        on = λ how last speaks. subst (λ (q : List (core.Request Dir)). Speaks (blocks.answers_all q (live_of beside fence life)) how out last) (sym queue) speaks;
      }

  module _ (its : Inclusion C Dir Signer Cfg) (out told : List Entry) (left : IsLeft its out told) (none : its.hand ≡ None) (request : WaitingRequest Dir) (rest : List (WaitingRequest Dir)) (are : its.requests ≡ request ∷ rest) where
    abbrev then_live : Live Dir
    then_live = with_told request.number (GaveNone Finished) (with_its beside fence life left.now)

    first_on : (how : Ended Fault (Live Dir)) (last : List Entry) → Speaks (blocks.answers_all (map waiting_request_of (request ∷ rest)) (with_its beside fence life left.now)) how told last
        → Speaks (blocks.answers_all beside.inclusion.queue (live_of beside fence life)) how out last
    first_on how last speaks = left.on how last (subst (λ (rs : List (WaitingRequest Dir)). Speaks (blocks.answers_all (map waiting_request_of rs) (with_its beside fence life left.now)) how told last) (sym are) speaks)

    told_first : (new : Inclusion C Dir Signer Cfg) → new ≡ record its { requests = rest; told = insert its.told request.number (Info (Unavailable Finished)) } → (more : List Entry)
        → Speaks (including.answers_none request.number Finished (with_its beside fence life left.now)) (went then_live) told more → IsLeft new out more
    told_first new same more speaks = subst (λ (x : Inclusion C Dir Signer Cfg). IsLeft x out more) (sym same) (record {
      now = record left.now { told = (request.number, GaveNone Finished) ∷ left.now.told };
      seen = shorter (seen_told its (record left.now { queue = map waiting_request_of its.requests }) request.number (Info (Unavailable Finished)) (GaveNone Finished) refl left.seen);
      on = λ how last behind. first_on how last (line_then _ then_live (blocks.answers_all (map waiting_request_of rest) then_live) then_live how told more last speaks behind);
    })
      where
        shorter : {i : core.Inclusion Dir} → IsSeen (record its { told = insert its.told request.number (Info (Unavailable Finished)) }) i
            → IsSeen (record its { requests = rest; told = insert its.told request.number (Info (Unavailable Finished)) }) (record i { queue = map waiting_request_of rest })
        shorter seen = record {
          served = seen.served;
          queue = ap (λ (h : Option (Hand Dir Cfg)). map waiting_request_of (in_front h rest)) (sym none);
          running = seen.running;
          waiter = seen.waiter;
          retained = seen.retained;
          cached = seen.cached;
          told = seen.told;
          used = seen.used;
        }

    found_none : (stop : Stop) → stop ≡ Faulted NoMemory → (more : List Entry) → Speaks (including.answers_none request.number Finished (with_its beside fence life left.now)) (by_stop stop) told more
        → Speaks (blocks.answers_all beside.inclusion.queue (live_of beside fence life)) (by_stop stop) out more
    found_none stop ends more speaks = first_on (by_stop stop) more (line_wants _ then_live (blocks.answers_all (map waiting_request_of rest) then_live) stop ends told more speaks)

    -- the first, which has this number, was told, ..
    pub one_less : (n : ℕ) → n ≡ request.number → (new : Inclusion C Dir Signer Cfg) → new ≡ record its { requests = rest; told = insert its.told n (Info (Unavailable Finished)) } → (more : List Entry)
        → Speaks (including.answers_none n Finished (with_its beside fence life left.now)) (went (with_told n (GaveNone Finished) (with_its beside fence life left.now))) told more → IsLeft new out more
    one_less n number =
        subst (λ (k : ℕ). (new : Inclusion C Dir Signer Cfg) → new ≡ record its { requests = rest; told = insert its.told k (Info (Unavailable Finished)) } → (more : List Entry)
        → Speaks (including.answers_none k Finished (with_its beside fence life left.now)) (went (with_told k (GaveNone Finished) (with_its beside fence life left.now))) told more → IsLeft new out more)
        (sym number) told_first

    -- .. or found no memory
    pub none_more : (n : ℕ) → n ≡ request.number → (stop : Stop) → stop ≡ Faulted NoMemory → (more : List Entry)
        → Speaks (including.answers_none n Finished (with_its beside fence life left.now)) (by_stop stop) told more → Speaks (blocks.answers_all beside.inclusion.queue (live_of beside fence life)) (by_stop stop) out more
    none_more n number =
        subst (λ (k : ℕ). (stop : Stop) → stop ≡ Faulted NoMemory → (more : List Entry) → Speaks (including.answers_none k Finished (with_its beside fence life left.now)) (by_stop stop) told more
        → Speaks (blocks.answers_all beside.inclusion.queue (live_of beside fence life)) (by_stop stop) out more) (sym number) found_none

  -- NONE IS LEFT
  pub none_left : (its : Inclusion C Dir Signer Cfg) (out told : List Entry) → IsLeft its out told → its.requests ≡ []
      → EndsWith beside (λ i. IsSeen its i) (λ more. more ≡ []) (λ now. Speaks (blocks.answers_all beside.inclusion.queue (live_of beside fence life)) (went (live_of now fence life)) out told)
  none_left its out told left empty =
      ends_with beside (record left.now { queue = [] })
      (subst (λ (rs : List (WaitingRequest Dir)). IsSeen its (record left.now { queue = map waiting_request_of rs })) empty left.seen) refl
      (left.on (went (with_its beside fence life (record left.now { queue = [] }))) told
      (subst (λ (rs : List (WaitingRequest Dir)). Speaks (blocks.answers_all (map waiting_request_of rs) (with_its beside fence life left.now)) (went (with_its beside fence life (record left.now { queue = [] }))) told told) (sym empty)
      (goes_speaks (blocks.answers_all [] (with_its beside fence life left.now)) (with_its beside fence life (record left.now { queue = [] })) (with_its beside fence life (record left.now { queue = [] })) refl refl told)))

  pub none_behind : (its new : Inclusion C Dir Signer Cfg) (out told : List Entry) → IsLeft its out told → its.requests ≡ [] → new ≡ record its { requests = [] }
      → EndsWith beside (λ i. IsSeen new i) (λ more. more ≡ []) (λ now. Speaks (blocks.answers_all beside.inclusion.queue (live_of beside fence life)) (went (live_of now fence life)) out told)
  none_behind its new out told left empty same =
      subst (λ (x : Inclusion C Dir Signer Cfg). EndsWith beside (λ i. IsSeen x i) (λ more. more ≡ []) (λ now. Speaks (blocks.answers_all beside.inclusion.queue (live_of beside fence life)) (went (live_of now fence life)) out told))
      (sym (same ∙ (λ i. record its { requests = sym empty i }))) (none_left its out told left empty)
