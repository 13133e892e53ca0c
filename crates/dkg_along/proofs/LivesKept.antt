-- A run of lives over many epochs keeps the dealings that are current: each life begins with what the one before left, wherever that ended.
use Rattle.std.proofs.Common.{◌≡◌, ◌⊎◌, inl, inr, ℕ, suc, ◌+◌, ◌-◌, ◌<◌, ◌≤◌, List, [], ◌∷◌, ◌++◌, Option, Some, None, Bool, true, false, cond, refl, sym, ◌∙◌, ap, subst, length, arith, add-one, append_assoc, append-nil, length-append}
use Rattle.std.specs.Prelude.{slice_get, Result, Ok, Err, ◌==◌}
use Rattle.std.specs.FinMap.{get}
use Rattle.std.proofs.lemmas.Bool.{eq-eqb, eqb-true}
use Rattle.std.proofs.lemmas.Bool.Decides.{nat_tests}
use Rattle.dkg_journal.specs.Burn.{Burn}
use Rattle.dkg_journal.specs.Names.{Files}
use Rattle.dkg_infos.specs.declared.directory.Unit as directory
use Rattle.dkg_infos.specs.declared.entry.Entry.{Entry}
use Rattle.dkg_infos.specs.declared.entry.Entry.TheVariants as entry
use Rattle.dkg_infos.specs.declared.entry.Restored.{Restored}
use Rattle.dkg_infos.specs.declared.fault.Fault.TheVariants.{NoMemory}
use Rattle.dkg_text.specs.declared.script.Cut as cut
use Rattle.dkg_text.specs.declared.script.Event as script
use Rattle.dkg_text.specs.declared.script.Life.{Life}
use Rattle.dkg_store.specs.Acts.{Held, World, by_cut, Ended, went, broken, notes, says}
use Rattle.dkg_journal.specs.Records.{SectionEntry as Note}
use Rattle.dkg_store.specs.Noted.{Notes, logs_in}
use Rattle.dkg_store.specs.declared.recorded_log.RecordedLog.{RecordedLog}
use Rattle.dkg_store.specs.Pairs.{IsWhole}
use Rattle.dkg_script.specs.Kept.{AllCurrent, Gives}
use Rattle.dkg_script.specs.LogsKnown.{LogsKnown}
use Rattle.dkg_script.specs.OwnMarks.{IsKnownAt, IsKnownInStep}
use Rattle.dkg_script.specs.Position.{awaited_before, awaited_epoch, begun, begun_before, event_of_step, events_taken}
use Rattle.dkg_script.specs.Progress.{Progress, read, is_last_step, with_life_ended}
use Rattle.dkg_script.specs.Setting.{Setting, CutAt, is_oneshot, life_at}
use Rattle.dkg_core.specs.Courses.{Course, EndsSo}
use Rattle.dkg_core.specs.Heard.{recovered_in}
use Rattle.dkg_core.specs.Live.{Live, NodeStop}
use Rattle.dkg_core.specs.Node.{node_opening}
use Rattle.dkg_core.specs.Seen.{Seen}
use Rattle.dkg_core.proofs.Counted.{cuts_fall}
use Rattle.dkg_life.specs.declared.stop.Stop.{Stop}
use Rattle.dkg_life.specs.declared.stop.Stop.TheVariants.{Cut, Fault as FaultOf}
use Rattle.dkg_lives.specs.Ended.{by_node_stop}
use Rattle.dkg_lives.specs.Epochs.{IsLifeInForm}
use Rattle.dkg_lives.specs.Given.{Lived, at_step, lived, step_of}
use Rattle.dkg_lives.specs.Lives.{LivesSo, Steps, TakesAll, Wants, fuse_for, fuse_within, never}
use Rattle.dkg_lives.specs.Ways.{StaysHeld, by_worlds}
use Rattle.dkg_lives.proofs.Awaiting.{IsBefore, before_all, before_next, reached_lit}
use Rattle.dkg_lives.proofs.Currently.{MayBeKept, RestsIn, begun_behind, begun_more, current_later, may_of, may_still}
use Rattle.dkg_lives.proofs.Former.{IsMessage, event_in_form, message_in}
use Rattle.dkg_along.proofs.LifeSteps.{IsGoing, IsLifeOfSetting, OpeningLeaves, StepLeaves, opening_goes, step_goes}
use Rattle.dkg_along.proofs.Marked.{Comes, comes_behind, comes_first, comes_none, comes_of}
use Rattle.dkg_along.proofs.Owed.{no_opening_due}
use Rattle.dkg_along.proofs.AwaitedRises.{begun_rises}
use Rattle.dkg_along.proofs.KeptSteps.{AnyCall, IsAtStep, IsSaved, Reaches, WithinCall, saved_carried}

abbrev U : Type 0
U = directory.Unit

none_some : {A : Type 0} (a : A) → ◌≡◌ {A = Option A} None (Some a) → ⊥
none_some a e = cc

some_is : {A : Type 0} (a b : A) → ◌≡◌ {A = Option A} (Some a) (Some b) → a ≡ b
some_is a b e = cc

-- WHERE A LIFE STANDS

-- these events, the first of which is step j, are the rest of the life's
abbrev pub Rest : Life → ℕ → List script.Event → Type 0
Rest life j [] = j ≡ length life.events + 1
Rest life j (event ∷ events) = (event_of_step life j ≡ Some event) × (j ≤ length life.events) × Rest life (j + 1) events

-- between two lives
pub record IsBetween (l : ℕ) (s : Setting) (p : Progress) : Type 0 where
  pub lives : length p.cuts ≡ l
  pub step : p.step ≡ 0
  pub nothing : p.written ≡ []

-- before the first of these events, or behind the life
abbrev pub StandsAt : ℕ → Life → List (Option CutAt) → ℕ → List script.Event → Setting → Progress → Type 0
StandsAt l life cuts j [] s p = IsBetween (l + 1) s p × (p.cuts ≡ cuts ++ None ∷ [])
StandsAt l life cuts j (event ∷ events) s p = IsAtStep l life j s p × (p.cuts ≡ cuts)

length-more : {A : Type 0} (xs : List A) (x : A) → length (xs ++ x ∷ []) ≡ length xs + 1
length-more [] x = refl
length-more (y ∷ xs) x = let rest : length (xs ++ x ∷ []) ≡ length xs + 1 = length-more xs x in omega (arith, rest)

-- the end of a step: the next one, or the life's end
module _ (s : Setting) (l : ℕ) (life : Life) (cuts : List (Option CutAt)) (j : ℕ) (q : Progress) (life_is : life_at s l ≡ Some life) (lives : length q.cuts ≡ l) (step : q.step ≡ j) (cuts_are : q.cuts ≡ cuts) where
  last_is : is_last_step s q ≡ (j == length life.events)
  last_is = rw (lives, life_is, step) refl

  pub behind : (events : List script.Event) → Rest life (j + 1) events → StandsAt l life cuts (j + 1) events s (read s q (entry.Step j))
  behind [] rest = subst (λ (last : Bool). StandsAt l life cuts (j + 1) [] s (cond last (with_life_ended q None) (record q { step = suc q.step; written = [] }))) (sym (last_is ∙ eq-eqb j (length life.events) (omega (arith, rest))))
      (record { lives = length-more q.cuts None ∙ ap (λ (n : ℕ). n + 1) lives; step = refl; nothing = refl }, ap (λ (x : List (Option CutAt)). x ++ None ∷ []) cuts_are)
  behind (event ∷ events) rest = subst (λ (last : Bool). StandsAt l life cuts (j + 1) (event ∷ events) s (cond last (with_life_ended q None) (record q { step = suc q.step; written = [] }))) (sym (last_is ∙ differs))
      (record { life_is = life_is; lives = lives; step = let is : q.step ≡ j = step in omega (arith, is); nothing = refl }, cuts_are)
    where
      differs : (j == length life.events) ≡ false
      differs = by_case (j == length life.events) refl
        where
          by_case : (b : Bool) → (j == length life.events) ≡ b → b ≡ false
          by_case false e = refl
          by_case true e = let same : j ≡ length life.events = eqb-true j (length life.events) e in let low : j + 1 ≤ length life.events = rest.1 in absurd (omega (arith, same, low))

  -- what is recorded is the same
  step_recorded : (read s q (entry.Step j)).recorded ≡ q.recorded
  step_recorded = by_case (is_last_step s q)
    where
      by_case : (last : Bool) → (cond last (with_life_ended q None) (record q { step = suc q.step; written = [] })).recorded ≡ q.recorded
      by_case true = refl
      by_case false = refl

  step_opened : (read s q (entry.Step j)).opened ≡ q.opened
  step_opened = by_case (is_last_step s q)
    where
      by_case : (last : Bool) → (cond last (with_life_ended q None) (record q { step = suc q.step; written = [] })).opened ≡ q.opened
      by_case true = refl
      by_case false = refl

-- the events of a life are its rest from the first on
rest_of : (life : Life) (front events : List script.Event) → life.events ≡ front ++ events → Rest life (length front + 1) events
rest_of life front [] is = let all : length life.events ≡ length front = ap length is ∙ ap length (append-nil front) in omega (arith, all)
rest_of life front (event ∷ events) is = (there front life.events is, low, subst (λ (n : ℕ). Rest life n events) next (rest_of life (front ++ event ∷ []) events (is ∙ sym (append_assoc front (event ∷ []) events))))
  where
    there : (front all : List script.Event) → all ≡ front ++ event ∷ events → event_of_step (record life { events = all }) (length front + 1) ≡ Some event
    there front all is = subst (λ (n : ℕ). event_of_step (record life { events = all }) n ≡ Some event) (one_more (length front)) (ap (λ (xs : List script.Event). slice_get xs (length front)) is ∙ at front)
      where
        one_more : (n : ℕ) → suc n ≡ n + 1
        one_more n = omega arith

        at : (front : List script.Event) → slice_get (front ++ event ∷ events) (length front) ≡ Some event
        at [] = refl
        at (x ∷ front) = at front

    next : length (front ++ event ∷ []) + 1 ≡ length front + 1 + 1
    next = ap (λ (n : ℕ). n + 1) (length-more front event)

    low : length front + 1 ≤ length life.events
    low = let all : length life.events ≡ length (front ++ event ∷ events) = ap length is in let sum : length (front ++ event ∷ events) ≡ length front + length (event ∷ events) = length-append front (event ∷ events) in omega (arith, all, sum)

pub all_rest : (life : Life) → Rest life 1 life.events
all_rest life = rest_of life [] life.events refl

-- WHERE A LIFE STOPS

-- what a cut leaves taken
abbrev pub taken_by : Life → cut.Cut → ℕ
taken_by life its = events_taken life (Some (record { step = its.step; call = its.call }))

-- Nothing that is current is lost, and where the script cuts the life there, that is told then; logs are known by what is known when it is.
pub record IsStopped (l : ℕ) (life : Life) (stop : Stop) (h : Held) (s : Setting) (marks : Type 0) (p : Progress) : Type 0 where
  pub lives : length p.cuts ≡ l
  pub whole : IsWhole (notes h) h.secrets
  pub gives : AllCurrent (begun s p.cuts l p.step) (Gives (recovered_in h)) p.recorded
  pub at_cut : stop ≡ Cut → (its : cut.Cut) → life.cut ≡ Some its
      → MayBeKept (begun s p.cuts l (taken_by life its)) s (read s p (entry.Cut its.step its.call)) (recovered_in h)
      × ((marks × IsKnownAt s p (entry.Cut its.step its.call)) → LogsKnown s (begun s p.cuts l (taken_by life its)) p.recorded (logs_in (notes h)))

abbrev pub LeavesLife : ℕ → Life → Result (Unit {0}) Stop → Held → Setting → Type 0 → Progress → Type 0
LeavesLife l life (Ok done) h s marks p = IsBetween (l + 1) s p × RestsIn h s p × (marks → LogsKnown s (begun_before s p.cuts (length p.cuts)) p.recorded (logs_in (notes h)))
LeavesLife l life (Err stop) h s marks p = IsStopped l life stop h s marks p

pub logs_later : (s : Setting) (b c : ℕ) (pairs : List Restored) (logs : Notes RecordedLog) → b ≤ c → LogsKnown s b pairs logs → LogsKnown s c pairs logs
logs_later s b c pairs logs low known = λ key noted now there. known key noted (omega (arith, low, now)) there

pub may_later : (b c : ℕ) (s : Setting) (p : Progress) (m : _) → b ≤ c → MayBeKept b s p m → MayBeKept c s p m
may_later b c s p m low may = record { given = current_later b c (Gives m) low p.recorded may.given; known = may.known; first = may.first }

pub stops_saved : (Call : ℕ → Type 0) (b l : ℕ) (life : Life) (j : ℕ) (stop : Stop) (h : Held) (s : Setting) (marks : Type 0) (p : Progress) → length p.cuts ≡ l → p.step ≡ j → b ≤ begun s p.cuts l j
    → (stop ≡ Cut → (its : cut.Cut) → life.cut ≡ Some its → (its.step ≡ j) × Call its.call × (b ≤ begun s p.cuts l (taken_by life its)))
    → ((its : cut.Cut) → Call its.call → (marks × IsKnownAt s p (entry.Cut its.step its.call)) → LogsKnown s b p.recorded (logs_in (notes h))) → IsSaved Call b h s p → IsStopped l life stop h s marks p
stops_saved Call b l life j stop h s marks p lives step low is_cut logs saved = record {
  lives = lives;
  whole = saved.whole;
  gives = current_later b (begun s p.cuts l p.step) (Gives (recovered_in h)) (subst (λ (n : ℕ). b ≤ begun s p.cuts l n) (sym step) low) p.recorded saved.gives;
  at_cut = λ cuts its is.
      let where_is = is_cut cuts its is in (
        may_later b (begun s p.cuts l (taken_by life its)) s (read s p (entry.Cut its.step its.call)) (recovered_in h) where_is.2 (saved.at_cut its.step its.call (step ∙ sym where_is.0) where_is.1),
        λ known. logs_later s b (begun s p.cuts l (taken_by life its)) p.recorded (logs_in (notes h)) where_is.2 (logs its where_is.1 known),
      );
}

memory_no_cut : (P : Type 0) → ◌≡◌ {A = Stop} (FaultOf NoMemory) Cut → P
memory_no_cut P e = absurd (apart e)
  where
    apart : ◌≡◌ {A = Stop} (FaultOf NoMemory) Cut → ⊥
    apart e = cc

-- DEVICES that stay as they were

module _ (old new : Held) (stays : StaysHeld old new) where
  pub held_whole : IsWhole (notes old) old.secrets → IsWhole (notes new) new.secrets
  held_whole whole = rw (stays.entries, stays.secrets) whole

  pub held_pairs : recovered_in new ≡ recovered_in old
  held_pairs = rw (stays.entries, stays.secrets) refl

-- FUSES

-- a step that isn't begun is the one before which the script cuts
pub cut_before : (o : Option cut.Cut) (j : ℕ) → fuse_for o j ≡ None → (its : cut.Cut) → o ≡ Some its → (its.step ≡ j) × ((its.call == 0) ≡ true)
cut_before None j fuse its is = absurd (none_some its is)
cut_before (Some at) j fuse its is = subst (λ (x : cut.Cut). (x.step ≡ j) × ((x.call == 0) ≡ true)) (some_is at its is) (by_step (at.step == j) refl fuse)
  where
    by_call : (t : Bool) → cond {A = Option Burn} t None (Some (record { call = at.call; pick = at.pick; spent = 0 })) ≡ None → t ≡ true
    by_call true e = refl
    by_call false e = absurd (none_some _ (sym e))

    by_step : (b : Bool) → (at.step == j) ≡ b → cond b (fuse_within at) (Some never) ≡ None → (at.step ≡ j) × ((at.call == 0) ≡ true)
    by_step true e fuse = (eqb-true at.step j e, by_call (at.call == 0) fuse)
    by_step false e fuse = absurd (none_some never (sym fuse))

-- a step with a fuse that can burn is the one within which it does
pub cut_within : (o : Option cut.Cut) (j : ℕ) (f : Burn) → fuse_for o j ≡ Some f → f.spent < f.call → (its : cut.Cut) → o ≡ Some its → (its.step ≡ j) × (0 < its.call)
cut_within None j f fuse burns its is = absurd (none_some its is)
cut_within (Some at) j f fuse burns its is = subst (λ (c : cut.Cut). (c.step ≡ j) × (0 < c.call)) (some_is at its is) (by_step (at.step == j) refl fuse)
  where
    cold : never ≡ f → ⊥
    cold same = let none : 0 < 0 = subst (λ (g : Burn). g.spent < g.call) (sym same) burns in omega (arith, none)

    by_call : (b : Bool) → cond b None (Some (record { call = at.call; pick = at.pick; spent = 0 })) ≡ Some f → 0 < at.call
    by_call true e = absurd (none_some f e)
    by_call false e = subst (λ (g : Burn). g.spent < g.call) (sym (some_is _ f e)) burns

    by_step : (b : Bool) → (at.step == j) ≡ b → cond b (fuse_within at) (Some never) ≡ Some f → (at.step ≡ j) × (0 < at.call)
    by_step true e fuse = (eqb-true at.step j e, by_call (at.call == 0) fuse)
    by_step false e fuse = absurd (cold (some_is never f fuse))

-- how many events a cut leaves taken
pub taken_before : (life : Life) (its : cut.Cut) (j : ℕ) → its.step ≡ j → (its.call == 0) ≡ true → taken_by life its ≡ j - 1
taken_before life its j step none = ap (λ (t : Bool). cond t (its.step - 1) its.step) none ∙ ap (λ (n : ℕ). n - 1) step

pub taken_within : (life : Life) (its : cut.Cut) (j : ℕ) → its.step ≡ j → 0 < its.call → taken_by life its ≡ j
taken_within life its j step some = ap (λ (t : Bool). cond t (its.step - 1) its.step) (is_some its.call some) ∙ step
  where
    is_some : (n : ℕ) → 0 < n → (n == 0) ≡ false
    is_some n low = grind (arith, nat_tests)

-- A LIFE

module _ (s : Setting) (ends : List (Option CutAt)) (l : ℕ) (life : Life) (seen : Held → Seen) (files : Files) where
  abbrev g : Lived
  g = lived s.script l life seen files

  module _ (here : IsLifeInForm g) (meant : IsLifeOfSetting s ends g) (cuts : List (Option CutAt)) (never_back : awaited_before s cuts l ≤ awaited_epoch s l life 0 + 1) (lives_before : length cuts ≡ l) (reshares : is_oneshot s ≡ false) where
    abbrev b : ℕ → ℕ
    b i = begun s cuts l i

    abbrev Going : Type 0 → ℕ → Live U → Held → Progress → Type 0
    Going marks i st h p = IsGoing s ends l life seen files here meant cuts never_back marks i st h p

    life_is : life_at s l ≡ Some life
    life_is = here.life_is

    abbrev Ends : Result (Unit {0}) Stop → Held → Type 0 → Progress → Type 0
    Ends how h marks q = LeavesLife l life how h s marks q

    -- the cut of a course is the fuse's
    burns : {S : Type 0} (course : Course U NodeStop S) (f : Burn) (w new : World) (stop : Stop) → EndsSo course (by_node_stop stop) (record w { fuse = f }) new → stop ≡ Cut → f.spent < f.call
    burns {S} course f w new stop run is = (cuts_fall course (broken by_cut) (record w { fuse = f }) new (subst (λ (x : Stop). EndsSo course (by_node_stop {S = S} x) (record w { fuse = f }) new) is run)).0

    -- behind a step's entry, by which more is known
    pub told_going : (marks later : Type 0) (i j : ℕ) (end : Live U) (h : Held) (q : Progress) → (later → marks) → length q.cuts ≡ l → q.step ≡ j → q.cuts ≡ cuts → Going marks i end h q
        → Going later i end h (read s q (entry.Step j))
    told_going marks later i j end h q before lives step cuts_are going = record {
      carries = record {
        half = record {
          knows = going.carries.half.knows;
          agreed = going.carries.half.agreed;
          are = rw (step_recorded s l life cuts j q life_is lives step cuts_are) going.carries.half.are;
          current = going.carries.half.current;
          in_round = going.carries.half.in_round;
          valid = going.carries.half.valid;
        };
        opened = step_opened s l life cuts j q life_is lives step cuts_are ∙ going.carries.opened;
        live = going.carries.live;
        active = going.carries.active;
      };
      at = going.at;
      of_round = going.of_round;
      in_bound = going.in_bound;
      plays = λ known. going.plays (before known);
      logs = λ known. subst (λ (pairs : List Restored). LogsKnown s (b i) pairs (logs_in (notes h))) (sym (step_recorded s l life cuts j q life_is lives step cuts_are)) (going.logs (before known));
    }

    -- what has begun, over the cuts of this progress
    pub at_cuts : (p : Progress) (i j : ℕ) → p.cuts ≡ cuts → b i ≤ b j → b i ≤ begun s p.cuts l j
    at_cuts p i j are low = subst (λ (x : List (Option CutAt)). b i ≤ begun s x l j) (sym are) low

    same_or : (a c : ℕ) → a ≡ c → a ≤ c
    same_or a c is = omega (arith, is)

    takes_kept : (events : List script.Event) (marks : Type 0) (i : ℕ) (st : Live U) (w : World) (how : Result (Unit {0}) Stop) (new : World) (p : Progress) → Rest life (suc i) events
        → StandsAt l life cuts (suc i) events s p → Going marks i st w.held p → IsBefore life.cut (suc i) → TakesAll by_worlds g (suc i) events st w how new → Comes s marks p w.out new.out (Ends how new.held)
    takes_kept [] marks i st w how new p rest stands going before takes =
        comes_none s marks p w.out new.out (Ends how new.held) (ap (λ (x : World). x.out) takes.1)
        (rw (takes.0, takes.1) (stands.0, rests, λ known. logs_later s (b i) (begun_before s p.cuts (length p.cuts)) p.recorded (logs_in (notes w.held)) low (going.logs known)))
      where
        low : b i ≤ begun_before s p.cuts (length p.cuts)
        low = same_or (b i) (begun_before s p.cuts (length p.cuts))
            (ap b (omega (arith, rest)) ∙ sym (begun_behind s reshares cuts l life None lives_before life_is) ∙ ap (begun_before s (cuts ++ None ∷ [])) (sym (add-one l) ∙ sym (stands.0).lives)
            ∙ ap (λ (x : List (Option CutAt)). begun_before s x (length p.cuts)) (sym stands.1))

        rests : RestsIn w.held s p
        rests = record {
          whole = going.carries.half.agreed.whole;
          may = may_later (b i) (begun_before s p.cuts (length p.cuts)) s p (recovered_in w.held) low (may_of (b i) s p l (recovered_in w.held) going.carries.opened going.carries.half.are);
        }
    takes_kept (event ∷ events) marks i st w how new p rest stands going before takes =
        by_fuse (λ later end mid r stands going before more. takes_kept events later (suc i) end mid how new r (subst (λ (n : ℕ). Rest life n events) (add-one (suc i)) rest.2) stands going before
        (subst (λ (n : ℕ). TakesAll by_worlds g n events end mid how new) (add-one (suc i)) more)) (fuse_for life.cut (suc i)) refl takes
      where
        at : IsAtStep l life (suc i) s p
        at = stands.0

        rises : b i ≤ b (suc i)
        rises = begun_rises s reshares l life life_is cuts (some_blocks here.long) never_back i
          where
            some_blocks : {n : ℕ} → 2 ≤ n → 1 ≤ n
            some_blocks long = omega (arith, long)

        itself : (x : ℕ) → x ≤ x
        itself x = omega arith

        m : IsMessage g event
        m = message_in g event (event_in_form g here i event rest.0)

        Next : Live U → World → Type 0
        Next end mid = TakesAll by_worlds g (suc i + 1) events end mid how new

        saved_here : IsSaved AnyCall (b i) w.held s p
        saved_here = saved_carried AnyCall (at_step g i) (b i) _ l st w.held s p going.carries

        not_begun : fuse_for life.cut (suc i) ≡ None → how ≡ Err Cut → new ≡ w → Comes s marks p w.out new.out (Ends how new.held)
        not_begun fuse is same = comes_none s marks p w.out new.out (Ends how new.held) (ap (λ (x : World). x.out) same)
            (rw (is, same) (stops_saved AnyCall (b i) l life (suc i) Cut w.held s marks p at.lives at.step (at_cuts p i (suc i) stands.1 rises)
            (λ e its there.
            let its_cut = cut_before life.cut (suc i) fuse its there in
            (its_cut.0, tt, at_cuts p i (taken_by life its) stands.1 (subst (λ (n : ℕ). b i ≤ b n) (sym (taken_before life its (suc i) its_cut.0 its_cut.1 ∙ back)) (itself (b i))))) (λ its any known. going.logs known.0) saved_here))
          where
            back : suc i - 1 ≡ i
            back = omega arith

        Again : Type 1
        Again = (later : Type 0) (end : Live U) (mid : World) (r : Progress) → StandsAt l life cuts (suc (suc i)) events s r → Going later (suc i) end mid.held r → IsBefore life.cut (suc (suc i))
            → TakesAll by_worlds g (suc i + 1) events end mid how new → Comes s later r mid.out new.out (Ends how new.held)

        Left : Ended NodeStop (Live U) → Held → Progress → Type 0
        Left ended h q = StepLeaves s ends l life seen files here meant cuts never_back marks i ended h p q

        step_left : (f : Burn) → fuse_for life.cut (suc i) ≡ Some f → (ended : Ended NodeStop (Live U)) (mid : World) → EndsSo (step_of g (suc i) event st) ended (record w { fuse = f }) mid → Reaches s p w.out mid.out (Left ended mid.held)
        step_left f fuse ended mid run =
            step_goes s ends l life seen files here meant cuts never_back marks i event rest.0 (reached_lit life.cut (suc i) f fuse before) st (record w { fuse = f }) p
            going at ended mid m (subst (λ (course : Course U NodeStop (Live U)). EndsSo course ended (record w { fuse = f }) mid) (m.course (suc i) st) run)

        -- behind a step that left this
        stop_left : (later : Type 0) → (later → marks) → (stop : Stop) (ended : Ended NodeStop (Live U)) (h : Held) (q : Progress)
            → (stop ≡ Cut → (its : cut.Cut) → life.cut ≡ Some its → (its.step ≡ suc i) × (0 < its.call)) → Left ended h q → IsStopped l life stop h s later q
        stop_left later earlier stop ended h q is_cut left =
            let are : q.cuts ≡ cuts = left.cuts_are ∙ stands.1 in
            stops_saved WithinCall (b (suc i)) l life (suc i) stop h s later q (ap length left.cuts_are ∙ at.lives) (left.step ∙ at.step) (at_cuts q (suc i) (suc i) are (itself (b (suc i))))
            (λ e its there.
            let its_cut = is_cut e its there in
            (its_cut.0, its_cut.1, at_cuts q (suc i) (taken_by life its) are (subst (λ (n : ℕ). b (suc i) ≤ b n) (sym (taken_within life its (suc i) its_cut.0 its_cut.1)) (itself (b (suc i))))))
            (λ its within known. left.logs (earlier known.0) (known.1 within)) left.saved

        by_fuse : Again → (o : Option Burn) → fuse_for life.cut (suc i) ≡ o → Steps by_worlds (entry.Step (suc i)) o (step_of g (suc i) event st) w how new Next → Comes s marks p w.out new.out (Ends how new.held)
        by_fuse again None fuse steps = not_begun fuse steps.0 steps.1
        by_fuse again (Some f) fuse (inl wants) = comes_none s marks p w.out new.out (Ends how new.held) (ap (λ (x : World). x.out) wants.1)
            (rw (wants.0, wants.1) (stops_saved AnyCall (b i) l life (suc i) (FaultOf NoMemory) w.held s marks p at.lives at.step (at_cuts p i (suc i) stands.1 rises) (λ e its there. memory_no_cut _ e)
            (λ its any known. going.logs known.0) saved_here))
        by_fuse again (Some f) fuse (inr (inl stops)) =
            comes_of s marks p w.out new.out (Left (by_node_stop stops.0) new.held) (Ends how new.held)
            (λ q later earlier left. rw stops.1 (stop_left later earlier stops.0 (by_node_stop stops.0) new.held q
            (λ e its there. cut_within life.cut (suc i) f fuse (burns (step_of g (suc i) event st) f w new stops.0 stops.2.0 e) its there) left))
            (step_left f fuse (by_node_stop stops.0) new stops.2.0)
        by_fuse again (Some f) fuse (inr (inr done)) = by_next done.3
          where
            first : Reaches s p w.out done.1.out (Left (went done.0) done.1.held)
            first = step_left f fuse (went done.0) done.1 done.2.0

            by_next : Wants how done.1 new ⊎ TakesAll by_worlds g (suc i + 1) events done.0 (says done.1 (entry.Step (suc i))) how new → Comes s marks p w.out new.out (Ends how new.held)
            by_next (inl wants) = comes_behind s marks p w.out done.1.out new.out (Left (went done.0) done.1.held) (Ends how new.held) first
                (λ q later earlier left. comes_none s later q done.1.out new.out (Ends how new.held) (ap (λ (x : World). x.out) wants.1)
                (rw (wants.0, wants.1) (stop_left later earlier (FaultOf NoMemory) (went done.0) done.1.held q (λ e its there. memory_no_cut _ e) left)))
            by_next (inr more) = comes_behind s marks p w.out done.1.out new.out (Left (went done.0) done.1.held) (Ends how new.held) first
                (λ q later earlier left.
                let lives : length q.cuts ≡ l = ap length left.cuts_are ∙ at.lives in
                let step : q.step ≡ suc i = left.step ∙ at.step in
                let are : q.cuts ≡ cuts = left.cuts_are ∙ stands.1 in
                comes_first s later q done.1.out new.out (Ends how new.held) (entry.Step (suc i)) (tt, λ known due. left.went.1 (earlier known) due)
                (again (later × IsKnownAt s q (entry.Step (suc i))) done.0 (says done.1 (entry.Step (suc i))) (read s q (entry.Step (suc i)))
                (subst (λ (n : ℕ). StandsAt l life cuts n events s (read s q (entry.Step (suc i)))) (add-one (suc i)) (behind s l life cuts (suc i) q life_is lives step are events rest.2))
                (told_going (marks × IsKnownInStep s q) (later × IsKnownAt s q (entry.Step (suc i))) (suc i) (suc i) done.0 done.1.held q (λ known. (earlier known.0, known.1)) lives step are left.went.0)
                (subst (λ (n : ℕ). IsBefore life.cut n) (add-one (suc i)) (before_next life.cut (suc i) (reached_lit life.cut (suc i) f fuse before))) more))

    -- ITS OPENING

    saved_rests : (h : Held) (p : Progress) → RestsIn h s p → IsSaved AnyCall (begun_before s p.cuts (length p.cuts)) h s p
    saved_rests h p rests = record {
      whole = rests.whole;
      gives = rests.may.given;
      at_cut = λ step call here any. may_still b0 b0 s p (read s p (entry.Cut step call)) (Some (record { step = step; call = call })) (recovered_in h) (itself b0) refl refl refl rests.may;
    }
      where
        b0 : ℕ
        b0 = begun_before s p.cuts (length p.cuts)

        itself : (x : ℕ) → x ≤ x
        itself x = omega arith

    -- what has begun before the life, has begun in it
    before_low : (p : Progress) (i : ℕ) → length p.cuts ≡ l → begun_before s p.cuts (length p.cuts) ≤ begun s p.cuts l i
    before_low p i lives = subst (λ (x : ℕ). begun_before s p.cuts x ≤ begun s p.cuts l i) (sym lives) (begun_more s reshares p.cuts l life i life_is)

    pub lives_kept : (its_files : Files) (marks : Type 0) (w : World) (how : Result (Unit {0}) Stop) (new : World) (p : Progress) → IsAtStep l life 0 s p → p.cuts ≡ cuts → RestsIn w.held s p
        → (marks → LogsKnown s (begun_before s p.cuts (length p.cuts)) p.recorded (logs_in (notes w.held))) → LivesSo by_worlds g its_files w how new → Comes s marks p w.out new.out (Ends how new.held)
    lives_kept its_files marks w how new p stands are rests logs (inr refused) = comes_none s marks p w.out new.out (Ends how new.held) refused.1.2.1 (rw refused.1.1 (record {
      lives = stands.lives;
      whole = held_whole w.held new.held stays rests.whole;
      gives = rw same (current_later b0 (begun s p.cuts l p.step) (Gives (recovered_in w.held)) (before_low p p.step stands.lives) p.recorded rests.may.given);
      at_cut = λ e its there. (
        rw same (may_still b0 (begun s p.cuts l (taken_by life its)) s p (read s p (entry.Cut its.step its.call)) (Some (record { step = its.step; call = its.call })) (recovered_in w.held) (before_low p (taken_by life its) stands.lives) refl refl refl rests.may),
        λ known. logs_same (begun s p.cuts l (taken_by life its)) (logs_later s b0 (begun s p.cuts l (taken_by life its)) p.recorded (logs_in (notes w.held)) (before_low p (taken_by life its) stands.lives) (logs known.0)),
      );
    }))
      where
        b0 : ℕ
        b0 = begun_before s p.cuts (length p.cuts)

        stays : StaysHeld w.held new.held
        stays = refused.1.2.2

        same : recovered_in new.held ≡ recovered_in w.held
        same = held_pairs w.held new.held stays

        logs_same : (x : ℕ) → LogsKnown s x p.recorded (logs_in (notes w.held)) → LogsKnown s x p.recorded (logs_in (notes new.held))
        logs_same x its key noted now there = its key noted now (subst (λ (es : List Note). get (logs_in es) key ≡ Some noted) stays.entries there)
    lives_kept its_files marks w how new p stands are rests logs (inl lives) = by_fuse (fuse_for life.cut 0) refl lives
      where
        b0 : ℕ
        b0 = begun_before s p.cuts (length p.cuts)

        itself : (x : ℕ) → x ≤ x
        itself x = omega arith

        Next : Live U → World → Type 0
        Next end mid = TakesAll by_worlds g 1 life.events end mid how new

        Left : Ended NodeStop (Live U) → Held → Progress → Type 0
        Left ended h q = OpeningLeaves s ends l life seen files here meant cuts never_back marks ended h p q

        opening_left : (f : Burn) (ended : Ended NodeStop (Live U)) (mid : World) → EndsSo (node_opening (at_step g 0)) ended (record w { fuse = f }) mid → Reaches s p w.out mid.out (Left ended mid.held)
        opening_left f ended mid run = opening_goes s ends l life seen files here meant cuts never_back marks (record w { fuse = f }) p are stands.lives rests logs ended mid run

        stop_left : (later : Type 0) → (later → marks) → (stop : Stop) (ended : Ended NodeStop (Live U)) (h : Held) (q : Progress)
            → (stop ≡ Cut → (its : cut.Cut) → life.cut ≡ Some its → (its.step ≡ 0) × (0 < its.call)) → Left ended h q → IsStopped l life stop h s later q
        stop_left later earlier stop ended h q is_cut left =
            let its_are : q.cuts ≡ cuts = left.cuts_are ∙ are in
            stops_saved AnyCall (b 0) l life 0 stop h s later q (ap length left.cuts_are ∙ stands.lives) (left.step ∙ stands.step) (at_cuts q 0 0 its_are (itself (b 0)))
            (λ e its there.
            let its_cut = is_cut e its there in
            (its_cut.0, tt, at_cuts q 0 (taken_by life its) its_are (subst (λ (n : ℕ). b 0 ≤ b n) (sym (taken_within life its 0 its_cut.0 its_cut.1)) (itself (b 0))))) (λ its any known. left.logs (earlier known.0)) left.saved

        by_fuse : (o : Option Burn) → fuse_for life.cut 0 ≡ o → Steps by_worlds (entry.Step 0) o (node_opening (at_step g 0)) w how new Next → Comes s marks p w.out new.out (Ends how new.held)
        by_fuse None fuse steps = comes_none s marks p w.out new.out (Ends how new.held) (ap (λ (x : World). x.out) steps.1)
            (rw (steps.0, steps.1) (stops_saved AnyCall b0 l life 0 Cut w.held s marks p stands.lives stands.step (before_low p 0 stands.lives)
            (λ e its there. ((cut_before life.cut 0 fuse its there).0, tt, before_low p (taken_by life its) stands.lives)) (λ its any known. logs known.0) (saved_rests w.held p rests)))
        by_fuse (Some f) fuse (inl wants) = comes_none s marks p w.out new.out (Ends how new.held) (ap (λ (x : World). x.out) wants.1)
            (rw (wants.0, wants.1) (stops_saved AnyCall b0 l life 0 (FaultOf NoMemory) w.held s marks p stands.lives stands.step (before_low p 0 stands.lives) (λ e its there. memory_no_cut _ e)
            (λ its any known. logs known.0) (saved_rests w.held p rests)))
        by_fuse (Some f) fuse (inr (inl stops)) =
            comes_of s marks p w.out new.out (Left (by_node_stop stops.0) new.held) (Ends how new.held)
            (λ q later earlier left. rw stops.1 (stop_left later earlier stops.0 (by_node_stop stops.0) new.held q
            (λ e its there. cut_within life.cut 0 f fuse (burns (node_opening (at_step g 0)) f w new stops.0 stops.2.0 e) its there) left))
            (opening_left f (by_node_stop stops.0) new stops.2.0)
        by_fuse (Some f) fuse (inr (inr done)) = by_next done.3
          where
            first : Reaches s p w.out done.1.out (Left (went done.0) done.1.held)
            first = opening_left f (went done.0) done.1 done.2.0

            by_next : Wants how done.1 new ⊎ TakesAll by_worlds g 1 life.events done.0 (says done.1 (entry.Step 0)) how new → Comes s marks p w.out new.out (Ends how new.held)
            by_next (inl wants) = comes_behind s marks p w.out done.1.out new.out (Left (went done.0) done.1.held) (Ends how new.held) first
                (λ q later earlier left. comes_none s later q done.1.out new.out (Ends how new.held) (ap (λ (x : World). x.out) wants.1)
                (rw (wants.0, wants.1) (stop_left later earlier (FaultOf NoMemory) (went done.0) done.1.held q (λ e its there. memory_no_cut _ e) left)))
            by_next (inr more) = comes_behind s marks p w.out done.1.out new.out (Left (went done.0) done.1.held) (Ends how new.held) first
                (λ q later earlier left.
                let lives_are : length q.cuts ≡ l = ap length left.cuts_are ∙ stands.lives in
                let step : q.step ≡ 0 = left.step ∙ stands.step in
                let its_are : q.cuts ≡ cuts = left.cuts_are ∙ are in
                comes_first s later q done.1.out new.out (Ends how new.held) (entry.Step 0) (tt, λ known due. absurd (no_opening_due s q step due))
                (takes_kept life.events (later × IsKnownAt s q (entry.Step 0)) 0 done.0 (says done.1 (entry.Step 0)) how new (read s q (entry.Step 0)) (all_rest life)
                (behind s l life cuts 0 q life_is lives_are step its_are life.events (all_rest life))
                (told_going marks (later × IsKnownAt s q (entry.Step 0)) 0 0 done.0 done.1.held q (λ known. earlier known.0) lives_are step its_are left.went)
                (before_next life.cut 0 (reached_lit life.cut 0 f fuse (before_all life.cut))) more))
