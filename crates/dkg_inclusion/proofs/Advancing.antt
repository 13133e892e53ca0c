-- Requests are read one after another, until one needs more or a verification runs.
use Rattle.std.proofs.Common.{◌≡◌, ℕ, zero, suc, ◌+◌, Bool, true, false, List, [], ◌∷◌, length, Option, Some, None, refl, sym, ◌∙◌, ap, subst, arith}
use Rattle.std.specs.Prelude.{if◌then◌else◌}
use Rattle.std.specs.Option.{option_map_or}
use Rattle.dkg_ceremony.specs.declared.round.RoundParts.{RoundParts as Round}
use Rattle.dkg_infos.specs.declared.fault.Fault.{Fault}
use Rattle.dkg_core.specs.Courses.{Course, Goes, bind}
use Rattle.dkg_core.specs.Fixed.{Fixed}
use Rattle.dkg_core.specs.Including.{Fed, Need, Found, Lacks, advances, advanced, fed, is_need, read_of, reads_first, reads_first_in}
use Rattle.dkg_core.specs.Live.{Live, Stage, Deals, Includes, Follows, Ends, Request, Job, with_queue}
use Rattle.dkg_verifying.specs.Including.{answers_first, behind_first, goes_on, reads_next}
use Rattle.dkg_life.proofs.Offered.{bind_again, bind_goes}

module _ {Dir : Type 0} (c : Fixed Dir) where
  -- No request can be read: the first needs more, or a verification runs, or nothing waits.
  abbrev pub WaitsBy : Round → Live Dir → Stage → Option Job → List (Request Dir) → Type 0
  WaitsBy round st Includes None (r ∷ rs) = is_need (read_of c round st r) ≡ true
  WaitsBy round st stage running queue = Unit {0}

  abbrev pub Waits : Live Dir → Type 0
  Waits st = (round : Round) → st.participation.round ≡ Some round → WaitsBy round st st.participation.stage st.inclusion.running st.inclusion.queue

  reads_none : (round : Round) (next : Live Dir → Course Dir Fault (Live Dir)) (st : Live Dir) (s : Stage) (j : Option Job) (q : List (Request Dir)) → WaitsBy round st s j q → reads_first_in c round next st s j q ≡ Goes st
  reads_none round next st Deals j q is = refl
  reads_none round next st Includes None [] is = refl
  reads_none round next st Includes None (r ∷ rs) is = ap (λ (b : Bool). if b then Goes st else bind (fed c round r.number (with_queue rs st) (read_of c round st r)) next) is
  reads_none round next st Includes (Some job) q is = refl
  reads_none round next st Follows j q is = refl
  reads_none round next st Ends j q is = refl

  in_round : (f : Round → Course Dir Fault (Live Dir)) (end : Course Dir Fault (Live Dir)) (o : Option Round) → ((round : Round) → o ≡ Some round → f round ≡ end) → option_map_or f o end ≡ end
  in_round f end None so = refl
  in_round f end (Some round) so = so round refl

  -- then nothing is
  pub waits_advances : (most : ℕ) (st : Live Dir) → Waits st → advances c most st ≡ Goes st
  waits_advances zero st is = refl
  waits_advances (suc most) st is =
      in_round (λ (round : Round). reads_first c round (λ st. advances c most st) st) (Goes st) st.participation.round
      (λ round has. reads_none round (λ st. advances c most st) st st.participation.stage st.inclusion.running st.inclusion.queue (is round has))

  pub waits_next : (st : Live Dir) → Waits st → reads_next c st ≡ Goes st
  waits_next st is =
      in_round (λ (round : Round). reads_first c round (λ st. Goes st) st) (Goes st) st.participation.round
      (λ round has. reads_none round (λ st. Goes st) st st.participation.stage st.inclusion.running st.inclusion.queue (is round has))

  -- ONE MORE

  module _ (most : ℕ) (st : Live Dir) where
    abbrev next : Live Dir → Course Dir Fault (Live Dir)
    next st = advances c most st

    same_round : (a b : Round) → ◌≡◌ {A = Option Round} (Some a) (Some b) → a ≡ b
    same_round a b e = cc

    waits_by : (round : Round) (s : Stage) (j : Option Job) (q : List (Request Dir)) → st.participation.round ≡ Some round → st.participation.stage ≡ s → st.inclusion.running ≡ j → st.inclusion.queue ≡ q
        → WaitsBy round st s j q → Waits st
    waits_by round s j q has es ej eq is = λ its had.
        let same : round ≡ its = same_round round its (sym has ∙ had) in
        subst (λ (r : Round). WaitsBy r st st.participation.stage st.inclusion.running st.inclusion.queue) same
        (subst (λ (x : Stage). WaitsBy round st x st.inclusion.running st.inclusion.queue) (sym es)
        (subst (λ (x : Option Job). WaitsBy round st s x st.inclusion.queue) (sym ej)
        (subst (λ (x : List (Request Dir)). WaitsBy round st s j x) (sym eq) is)))

    more_by : (round : Round) (s : Stage) (j : Option Job) (q : List (Request Dir)) → st.participation.round ≡ Some round → st.participation.stage ≡ s → st.inclusion.running ≡ j → st.inclusion.queue ≡ q
        → reads_first_in c round next st s j q ≡ bind (reads_first_in c round (λ st. Goes st) st s j q) next
    more_by round Deals j q has es ej eq = sym (waits_advances most st (waits_by round Deals j q has es ej eq tt))
    more_by round Includes None [] has es ej eq = sym (waits_advances most st (waits_by round Includes None [] has es ej eq tt))
    more_by round Includes None (r ∷ rs) has es ej eq = by_test (is_need (read_of c round st r)) refl
      where
        by_test : (b : Bool) → is_need (read_of c round st r) ≡ b
            → (if b then Goes st else bind (fed c round r.number (with_queue rs st) (read_of c round st r)) next)
            ≡ bind (if b then Goes st else bind (fed c round r.number (with_queue rs st) (read_of c round st r)) (λ st. Goes st)) next
        by_test true is = sym (waits_advances most st (waits_by round Includes None (r ∷ rs) has es ej eq is))
        by_test false is = ap (λ (x : Course Dir Fault (Live Dir)). bind x next) (sym (bind_goes (fed c round r.number (with_queue rs st) (read_of c round st r))))
    more_by round Includes (Some job) q has es ej eq = sym (waits_advances most st (waits_by round Includes (Some job) q has es ej eq tt))
    more_by round Follows j q has es ej eq = sym (waits_advances most st (waits_by round Follows j q has es ej eq tt))
    more_by round Ends j q has es ej eq = sym (waits_advances most st (waits_by round Ends j q has es ej eq tt))

    more_in : (o : Option Round) → st.participation.round ≡ o
        → option_map_or (λ (round : Round). reads_first c round next st) o (Goes st) ≡ bind (option_map_or (λ (round : Round). reads_first c round (λ st. Goes st) st) o (Goes st)) next
    more_in None has = sym (waits_advances most st (λ round had. absurd (let e : ◌≡◌ {A = Option Round} None (Some round) = sym has ∙ had in cc)))
    more_in (Some round) has = more_by round st.participation.stage st.inclusion.running st.inclusion.queue has refl refl refl

    -- the first of them, and then the others
    pub advances_more : advances c (suc most) st ≡ bind (reads_next c st) next
    advances_more = more_in st.participation.round refl

  -- IT IS READ

  -- The first request is read: inclusion lasts, and no verification runs.
  pub record ReadsFirst (st : Live Dir) (round : Round) (r : Request Dir) (rs : List (Request Dir)) : Type 0 where
    pub round_is : st.participation.round ≡ Some round
    pub includes : st.participation.stage ≡ Includes
    pub free : st.inclusion.running ≡ None
    pub queue : st.inclusion.queue ≡ r ∷ rs

  module _ (st : Live Dir) (round : Round) (r : Request Dir) (rs : List (Request Dir)) (first : ReadsFirst st round r rs) (its : Fed) (is : read_of c round st r ≡ its) (answered : is_need its ≡ false) where
    first_is : (next : Live Dir → Course Dir Fault (Live Dir)) → option_map_or (λ (round : Round). reads_first c round next st) st.participation.round (Goes st) ≡ bind (fed c round r.number (with_queue rs st) its) next
    first_is next =
        ap (λ (o : Option Round). option_map_or (λ (round : Round). reads_first c round next st) o (Goes st)) first.round_is
        ∙ (λ i. reads_first_in c round next st (first.includes i) (first.free i) (first.queue i))
        ∙ (λ i. if is_need (is i) then Goes st else bind (fed c round r.number (with_queue rs st) (is i)) next)
        ∙ ap (λ (b : Bool). if b then Goes st else bind (fed c round r.number (with_queue rs st) its) next) answered

    pub next_is : reads_next c st ≡ fed c round r.number (with_queue rs st) its
    next_is = first_is (λ st. Goes st) ∙ bind_goes (fed c round r.number (with_queue rs st) its)

    -- .. and those behind it are
    pub advanced_is : advanced c st ≡ bind (fed c round r.number (with_queue rs st) its) (λ st. advances c (length rs) st)
    advanced_is = ap (λ (q : List (Request Dir)). advances c (length q) st) first.queue ∙ first_is (λ st. advances c (length rs) st)

    abbrev answers_in : Round → ℕ → List (Request Dir) → Course Dir Fault (Live Dir)
    answers_in round request queue = bind (fed c round request (with_queue (behind_first queue) st) its) (λ now. advances c (length (behind_first queue)) now)

    pub answers_is : (request : ℕ) → r.number ≡ request → answers_first c request its st ≡ bind (fed c round r.number (with_queue rs st) its) (λ st. advances c (length rs) st)
    answers_is request same =
        ap (λ (o : Option Round). option_map_or (λ (round : Round). answers_in round request st.inclusion.queue) o (Goes st)) first.round_is
        ∙ (λ i. answers_in round (sym same i) (first.queue i))

  pub goes_by : (request : ℕ) (st : Live Dir) (its : Fed) → is_need its ≡ false → goes_on c request its st ≡ answers_first c request its st
  goes_by request st Need answered = absurd (let e : true ≡ false = answered in cc)
  goes_by request st (Found logs) answered = refl
  goes_by request st (Lacks why) answered = refl

  -- What the first request's scan answered goes on as all of them do.
  pub goes_as : (st : Live Dir) (round : Round) (r : Request Dir) (rs : List (Request Dir)) → ReadsFirst st round r rs → (its : Fed) → read_of c round st r ≡ its → is_need its ≡ false → (request : ℕ) → r.number ≡ request
      → advanced c st ≡ goes_on c request its st
  goes_as st round r rs first its is answered request same =
      advanced_is st round r rs first its is answered ∙ sym (answers_is st round r rs first its is answered request same) ∙ sym (goes_by request st its answered)

  -- SO MANY, and then so many more
  pub advances_over : (i k n : ℕ) → n ≡ i + k → (st : Live Dir) → advances c n st ≡ bind (advances c i st) (λ st. advances c k st)
  advances_over zero k n is st = ap (λ (m : ℕ). advances c m st) (let e : n ≡ k = omega (arith, is) in e)
  advances_over (suc i) k n is st =
      ap (λ (m : ℕ). advances c m st) (let e : n ≡ suc (i + k) = omega (arith, is) in e)
      ∙ advances_more (i + k) st
      ∙ (λ p. bind (reads_next c st) (λ st. advances_over i k (i + k) refl st p))
      ∙ sym (bind_again (reads_next c st) (λ st. advances c i st) (λ st. advances c k st))
      ∙ ap (λ (x : Course Dir Fault (Live Dir)). bind x (λ st. advances c k st)) (sym (advances_more i st))

  -- and then one more
  pub advances_next : (i : ℕ) (st : Live Dir) → advances c (i + 1) st ≡ bind (advances c i st) (λ st. reads_next c st)
  advances_next i st =
      advances_over i (suc zero) (i + 1) (omega arith) st
      ∙ (λ p. bind (advances c i st) (λ st. (advances_more zero st ∙ bind_goes (reads_next c st)) p))
