-- Each entry of a life stands in order, and leads to the next.
use Rattle.std.proofs.Common.{ℕ, suc, ◌+◌, ◌<◌, ◌≤◌, Bool, true, false, Option, Some, None, List, [], ◌∷◌, ◌++◌, ◌≡◌, ◌≢◌, inr, refl, sym, ap, ◌∙◌, length, arith, length-append, add-one}
use Rattle.std.specs.Prelude.{fold, IfSome, IsSomeAnd, ◌||◌, ◌==◌, slice_get}
use Rattle.std.specs.List.{AllByRecursion, list_any}
use Rattle.std.proofs.lemmas.Bool.Decides.{nat_tests}
use Rattle.dkg_infos.specs.declared.entry.Entry.{Entry}
use Rattle.dkg_infos.specs.declared.entry.Entry.TheVariants as entry
use Rattle.dkg_infos.specs.declared.entry.Restored.{Restored}
use Rattle.dkg_text.specs.declared.script.Cut as cut
use Rattle.dkg_text.specs.declared.script.Life.{Life}
use Rattle.dkg_script.specs.Ends.{EndsWell, is_fault}
use Rattle.dkg_script.specs.Order.{IsInOrder, InLife, LetsBegin, is_opened}
use Rattle.dkg_script.specs.Progress.{Progress, read, is_last_step}
use Rattle.dkg_script.specs.Setting.{Setting, life_at}
use Rattle.dkg_life.specs.declared.stop.Stop.{Stop}
use Rattle.dkg_life.specs.declared.stop.Stop.TheVariants.{Cut as AtCut, Failed, Fault as Faulted}
use Rattle.dkg_core.specs.Laws.{IsQuiet}
use Rattle.dkg_lives.proofs.Standing.{Each, Moves, AddsQuiet, AddsOpening, IsBetween, IsBefore, IsWithin, IsAtCut, IsStopped, IsBehind, IsCutBefore, IsCutWithin}
use Rattle.dkg_lives.proofs.Moving.{moves_one}

-- CUTS, over variables

not_yet : (its : Option cut.Cut) (j : ℕ) → IfSome its (λ c. c.call ≡ 0 → j ≤ c.step) → (IsCutBefore its j → ⊥) → IfSome its (λ c. c.call ≡ 0 → j < c.step)
not_yet None j reached not = tt
not_yet (Some c) j reached not = λ zero_call. less (reached zero_call) (λ same. not (same, zero_call))
  where
    less : {a b : ℕ} → a ≤ b → (b ≡ a → ⊥) → a < b
    less below apart = omega arith

passed : (its : Option cut.Cut) (j : ℕ) → IfSome its (λ c. c.call ≡ 0 → j < c.step) → IfSome its (λ c. c.call ≡ 0 → j + 1 ≤ c.step)
passed None j begins = tt
passed (Some c) j begins = λ zero_call. let below = begins zero_call in omega arith

from_zero : (its : Option cut.Cut) → IfSome its (λ c. c.call ≡ 0 → 0 ≤ c.step)
from_zero None = tt
from_zero (Some c) = λ zero_call. omega arith

pub some_cut : (its : Option cut.Cut) (P : cut.Cut → Type 0) → IsSomeAnd its P → (c : cut.Cut) × (its ≡ Some c) × P c
some_cut None P is = absurd is
some_cut (Some c) P is = (c, refl, is)

-- BEFORE A STEP

pub begins : (life : Life) (l j : ℕ) (s : Setting) (p : Progress) → (IsCutBefore life.cut j → ⊥) → IsBefore life l j s p → IsWithin life l j false s p
begins life l j s p not is = record {
  life_is = is.life_is;
  lives = is.lives;
  step = is.step;
  begins = not_yet life.cut j is.reached not;
  opened_is = rw is.nothing refl;
}

pub cut_before : (life : Life) (l j : ℕ) (s : Setting) (p : Progress) → IsCutBefore life.cut j → IsBefore life l j s p → IsAtCut life l s p
cut_before life l j s p its is = let found = some_cut life.cut (λ c. (c.step ≡ j) × (c.call ≡ 0)) its in record {
  its = found.0;
  its_is = found.1;
  life_is = is.life_is;
  lives = is.lives;
  step = is.step ∙ sym found.2.0;
  nothing = λ zero_call. is.nothing;
}

-- WITHIN A STEP

pub cut_within : (life : Life) (l j : ℕ) (opened : Bool) (s : Setting) (p : Progress) → IsCutWithin life.cut j → IsWithin life l j opened s p → IsAtCut life l s p
cut_within life l j opened s p its is = let found = some_cut life.cut (λ c. (c.step ≡ j) × (c.call ≢ 0)) its in record {
  its = found.0;
  its_is = found.1;
  life_is = is.life_is;
  lives = is.lives;
  step = is.step ∙ sym found.2.0;
  nothing = λ zero_call. absurd (found.2.1 zero_call);
}

module _ (life : Life) (l j : ℕ) (s : Setting) (p : Progress) where
  in_life : (P : Life → Type 0) → life_at s l ≡ Some life → length p.cuts ≡ l → P life → InLife s p P
  in_life P life_is lives is = rw (lives, life_is) is

  begun : (opened : Bool) → IsWithin life l j opened s p → LetsBegin p life
  begun opened is = rw is.step is.begins

  one_more : (one : Entry) (w : List Entry) → is_opened one ≡ false → list_any is_opened (w ++ one ∷ []) ≡ list_any is_opened w
  one_more one [] not = rw not refl
  one_more one (x ∷ w) not = ap (λ b. is_opened x || b) (one_more one w not)

  now_opened : (one : Entry) (w : List Entry) → is_opened one ≡ true → list_any is_opened (w ++ one ∷ []) ≡ true
  now_opened one [] is = rw is refl
  now_opened one (x ∷ w) is = rw (now_opened one w is) (or_true (is_opened x))
    where
      or_true : (b : Bool) → (b || true) ≡ true
      or_true false = refl
      or_true true = refl

  within_still : (opened : Bool) (one : Entry) (q : Progress) → is_opened one ≡ false → q.cuts ≡ p.cuts → q.step ≡ p.step → q.written ≡ p.written ++ one ∷ []
      → IsWithin life l j opened s p → IsWithin life l j opened s q
  within_still opened one q not cuts step written is = record {
    life_is = is.life_is;
    lives = ap length cuts ∙ is.lives;
    step = step ∙ is.step;
    begins = is.begins;
    opened_is = ap (list_any is_opened) written ∙ one_more one p.written not ∙ is.opened_is;
  }

  quiet_in_order : (opened : Bool) (one : Entry) → IsQuiet one → IsWithin life l j opened s p → IsInOrder s p one
  quiet_in_order opened (entry.Opened n restored) quiet is = absurd quiet
  quiet_in_order opened (entry.Cut step call) quiet is = absurd quiet
  quiet_in_order opened (entry.Step step) quiet is = absurd quiet
  quiet_in_order opened (entry.Fault fault) quiet is = absurd quiet
  quiet_in_order opened _ quiet is = in_life (LetsBegin p) is.life_is is.lives (begun opened is)

  quiet_still : (opened : Bool) (one : Entry) → IsQuiet one → IsWithin life l j opened s p → IsWithin life l j opened s (read s p one)
  quiet_still opened (entry.Opened n restored) quiet is = absurd quiet
  quiet_still opened (entry.Cut step call) quiet is = absurd quiet
  quiet_still opened (entry.Step step) quiet is = absurd quiet
  quiet_still opened (entry.Fault fault) quiet is = absurd quiet
  quiet_still opened one quiet is = within_still opened one (read s p one) refl refl refl refl is

  -- OPENINGS

  opens : (restored : List Restored) → IsWithin life l 0 false s p → IsInOrder s p (entry.Opened l restored)
  opens restored is = record {
    in_life = in_life (λ its. (l ≡ length p.cuts) × LetsBegin p its) is.life_is is.lives (sym is.lives, rw is.step is.begins);
    at_opening = is.step;
    once = is.opened_is;
  }

  opened_now : (restored : List Restored) → IsWithin life l 0 false s p → IsWithin life l 0 true s (read s p (entry.Opened l restored))
  opened_now restored is = record {
    life_is = is.life_is;
    lives = is.lives;
    step = is.step;
    begins = is.begins;
    opened_is = now_opened (entry.Opened l restored) p.written refl;
  }

  -- THE END OF A STEP

  step_in_order : (opened : Bool) → (j ≡ 0 → opened ≡ true) → IsWithin life l j opened s p → IsInOrder s p (entry.Step j)
  step_in_order opened has is = in_life _ is.life_is is.lives (record {
    in_hand = sym is.step;
    begins = begun opened is;
    has_opened = λ first. is.opened_is ∙ has first;
  })

  last_is : (opened : Bool) → IsWithin life l j opened s p → is_last_step s p ≡ (j == length life.events)
  last_is opened is = rw (is.lives, is.life_is, is.step) refl

  before_next : (opened : Bool) → IsWithin life l j opened s p → j < length life.events → IsBefore life l (j + 1) s (read s p (entry.Step j))
  before_next opened is more =
      let not : is_last_step s p ≡ false = last_is opened is ∙ differs more
      in rw not (record {
        life_is = is.life_is;
        lives = is.lives;
        step = ap suc is.step ∙ sym (add-one j);
        nothing = refl;
        reached = passed life.cut j is.begins;
      })
    where
      differs : {a b : ℕ} → a < b → (a == b) ≡ false
      differs below = grind (arith, nat_tests)

  at_end : (opened : Bool) → IsWithin life l j opened s p → j ≡ length life.events → IsBetween (l + 1) s (read s p (entry.Step j))
  at_end opened is last =
      let so : is_last_step s p ≡ true = last_is opened is ∙ equals last
      in rw so (record {
        lives = length-append p.cuts (None ∷ []) ∙ ap (λ n. n + 1) is.lives;
        step = refl;
        nothing = refl;
      })
    where
      equals : {a b : ℕ} → a ≡ b → (a == b) ≡ true
      equals same = grind (arith, nat_tests)

  behind : (opened : Bool) → IsWithin life l j opened s p → IsBehind life l j s (read s p (entry.Step j))
  behind opened is = record { next = before_next opened is; last = at_end opened is }

  -- CUTS

  cut_in_order : (its : cut.Cut) → life.cut ≡ Some its → IsAtCut life l s p → IsInOrder s p (entry.Cut its.step its.call)
  cut_in_order its its_is is = let same : is.its ≡ its = cc in
      in_life _ is.life_is is.lives (record {
        in_hand = sym (is.step ∙ ap (λ (c : cut.Cut). c.step) same);
        of_script = rw its_is (refl, refl);
        before_step = λ zero_call. is.nothing (ap (λ (c : cut.Cut). c.call) same ∙ zero_call);
      })

  cut_ends : (step call : ℕ) → IsAtCut life l s p → IsBetween (l + 1) s (read s p (entry.Cut step call))
  cut_ends step call is = record {
    lives = length-append p.cuts (Some (record { step = step; call = call }) ∷ []) ∙ ap (λ n. n + 1) is.lives;
    step = refl;
    nothing = refl;
  }

-- within a step, where the script cuts the life there, or where a fault may be told
pub stopped_within : (life : Life) (l j : ℕ) (opened : Bool) (s : Setting) (p : Progress) (stop : Stop) → (stop ≡ AtCut → IsCutWithin life.cut j)
    → IsWithin life l j opened s p → IsStopped life l stop s p
stopped_within life l j opened s p AtCut its is = cut_within life l j opened s p (its refl) is
stopped_within life l j opened s p (Faulted fault) its is =
    inr (inr (in_life life l j s p (LetsBegin p) is.life_is is.lives (begun life l j s p opened is)))
stopped_within life l j opened s p Failed its is = tt

-- ALL ENTRIES OF A STEP

quiet_each : (life : Life) (l j : ℕ) (opened : Bool) (s : Setting) (added : List Entry) (p : Progress) → AllByRecursion IsQuiet added
    → IsWithin life l j opened s p → Each s (IsInOrder s) p added × IsWithin life l j opened s (fold (read s) p added)
quiet_each life l j opened s [] p quiet is = (tt, is)
quiet_each life l j opened s (one ∷ added) p quiet is =
    let more = quiet_each life l j opened s added (read s p one) quiet.1 (quiet_still life l j s p opened one quiet.0 is)
    in ((quiet_in_order life l j s p opened one quiet.0 is, more.0), more.1)

quiet_no_fault : (one : Entry) → IsQuiet one → is_fault one ≡ false
quiet_no_fault (entry.Fault fault) quiet = absurd quiet
quiet_no_fault _ quiet = refl

quiet_well : (added : List Entry) → AllByRecursion IsQuiet added → EndsWell added
quiet_well [] quiet = refl
quiet_well (one ∷ added) quiet = rw (quiet_no_fault one quiet.0) (quiet_well added quiet.1)

pub moves_quiet : (life : Life) (l j : ℕ) (opened : Bool) (old new : List Entry) → AddsQuiet old new
    → Moves IsInOrder (IsWithin life l j opened) (IsWithin life l j opened) old new
moves_quiet life l j opened old new adds = record {
  added = adds.added;
  parts = adds.parts;
  each = λ s p is. (quiet_each life l j opened s adds.added p adds.quiet is).0;
  to = λ s p is. (quiet_each life l j opened s adds.added p adds.quiet is).1;
  no_fault = quiet_well adds.added adds.quiet;
}

pub moves_opening : (life : Life) (l : ℕ) (old new : List Entry) → AddsOpening l old new
    → Moves IsInOrder (IsWithin life l 0 false) (IsWithin life l 0 true) old new
moves_opening life l old new adds = record {
  added = entry.Opened l adds.restored ∷ adds.more;
  parts = adds.parts;
  each = λ s p is. (
    opens life l 0 s p adds.restored is,
    (quiet_each life l 0 true s adds.more (read s p (entry.Opened l adds.restored)) adds.quiet (opened_now life l 0 s p adds.restored is)).0,
  );
  to = λ s p is.
      (quiet_each life l 0 true s adds.more (read s p (entry.Opened l adds.restored)) adds.quiet (opened_now life l 0 s p adds.restored is)).1;
  no_fault = quiet_well adds.more adds.quiet;
}

pub moves_step : (life : Life) (l j : ℕ) (opened : Bool) (old new : List Entry) → (j ≡ 0 → opened ≡ true) → new ≡ old ++ entry.Step j ∷ []
    → Moves IsInOrder (IsWithin life l j opened) (IsBehind life l j) old new
moves_step life l j opened old new has is =
    moves_one IsInOrder (IsWithin life l j opened) (IsBehind life l j) old new (entry.Step j) is
    (λ s p at. step_in_order life l j s p opened has at) (λ s p at. behind life l j s p opened at) refl

pub moves_cut : (life : Life) (l : ℕ) (its : cut.Cut) (old new : List Entry) → life.cut ≡ Some its → new ≡ old ++ entry.Cut its.step its.call ∷ []
    → Moves IsInOrder (IsAtCut life l) (IsBetween (l + 1)) old new
moves_cut life l its old new its_is is =
    moves_one IsInOrder (IsAtCut life l) (IsBetween (l + 1)) old new (entry.Cut its.step its.call) is
    (λ s p at. cut_in_order life l its.step s p its its_is at) (λ s p at. cut_ends life l its.step s p its.step its.call at) refl

-- LIVES

-- the next life of the script
pub life_begins : (life : Life) (l : ℕ) (s : Setting) (p : Progress) → slice_get s.script.lives l ≡ Some life → IsBetween l s p → IsBefore life l 0 s p
life_begins life l s p life_is is = record {
  life_is = life_is;
  lives = is.lives;
  step = is.step;
  nothing = is.nothing;
  reached = from_zero life.cut;
}
