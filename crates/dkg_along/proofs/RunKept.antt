-- A run of the lives of a script over many epochs keeps the dealings that are current, and answers what is due.
use Rattle.std.proofs.Common.{◌≡◌, ◌⊎◌, inl, inr, ℕ, zero, suc, ◌+◌, ◌<◌, ◌≤◌, List, [], ◌∷◌, ◌++◌, Option, Some, None, Bool, true, false, cond, refl, sym, ◌∙◌, ap, subst, length, arith, append_assoc, append-nil, length-append}
use Rattle.std.specs.Prelude.{fold, slice_get, Result, Ok, Err, IsSomeAnd}
use Rattle.std.specs.Option.{option_map_or}
use Rattle.std.proofs.lemmas.List.Sums.{fold-append}
use Rattle.dkg_journal.specs.Burn.{Burn}
use Rattle.dkg_journal.specs.Names.{Files}
use Rattle.dkg_infos.specs.declared.directory.Unit as directory
use Rattle.dkg_infos.specs.declared.entry.Entry.{Entry}
use Rattle.dkg_infos.specs.declared.entry.Entry.TheVariants as entry
use Rattle.dkg_infos.specs.declared.fault.Fault.{Fault}
use Rattle.dkg_infos.specs.declared.fault.Fault.TheVariants.{NoMemory}
use Rattle.dkg_text.specs.declared.script.Cut as cut
use Rattle.dkg_text.specs.declared.script.Event as script
use Rattle.dkg_text.specs.declared.script.Life.{Life}
use Rattle.dkg_text.specs.declared.script.Script.{Script}
use Rattle.dkg_store.specs.Acts.{Held, World, Ended, went, notes, says}
use Rattle.dkg_store.specs.Noted.{logs_in}
use Rattle.dkg_store.specs.Pairs.{IsWhole}
use Rattle.dkg_script.specs.Consistent.{IsConsistentScript}
use Rattle.dkg_script.specs.Kept.{AllCurrent, Gives}
use Rattle.dkg_script.specs.LogsKnown.{LogsKnown}
use Rattle.dkg_script.specs.OwnMarks.{IsKnownAt}
use Rattle.dkg_script.specs.Position.{awaited_before, awaited_epoch, awaited_epoch_in, begun, begun_before}
use Rattle.dkg_script.specs.Progress.{Progress, read, is_last_step, with_life_ended}
use Rattle.dkg_script.specs.Setting.{Setting, CutAt, is_oneshot, life_at}
use Rattle.dkg_core.specs.Courses.{Course, EndsSo}
use Rattle.dkg_core.specs.Heard.{recovered_in}
use Rattle.dkg_core.specs.Live.{Live, NodeStop}
use Rattle.dkg_core.specs.Node.{node_opening}
use Rattle.dkg_core.specs.Seen.{Seen}
use Rattle.dkg_core.proofs.Lines.{runs_add_deeds}
use Rattle.dkg_life.specs.declared.stop.Stop.{Stop}
use Rattle.dkg_life.specs.declared.stop.Stop.TheVariants.{Cut, Failed, Fault as FaultOf}
use Rattle.dkg_lives.specs.Ended.{by_node_stop}
use Rattle.dkg_lives.specs.Epochs.{IsLifeInForm}
use Rattle.dkg_lives.specs.Given.{Lived, at_step, lived, step_of}
use Rattle.dkg_lives.specs.Lives.{AnyFiles, EndsLife, LivesFrom, LivesSo, RunsAllSo, RunsSo, Steps, TakesAll, TellsEnd, Wants, fuse_for}
use Rattle.dkg_lives.specs.Ways.{by_worlds}
use Rattle.dkg_lives.proofs.Currently.{RestsIn, before_front, begun_behind, current_later}
use Rattle.dkg_along.proofs.LifeSteps.{IsLifeOfSetting}
use Rattle.dkg_along.proofs.LivesKept.{IsBetween, IsStopped, LeavesLife, lives_kept, taken_by}
use Rattle.dkg_along.proofs.Marked.{Comes, comes_first, comes_none, comes_then, marks_after}

abbrev U : Type 0
U = directory.Unit

-- A TRANSCRIPT GROWS

abbrev pub Grows : World → World → Type 0
Grows w new = (added : List Entry) × (new.out ≡ w.out ++ added)

grows_same : (w new : World) → new.out ≡ w.out → Grows w new
grows_same w new same = ([], same ∙ sym (append-nil w.out))

grows_then : (w mid new : World) → Grows w mid → Grows mid new → Grows w new
grows_then w mid new a b = (a.0 ++ b.0, b.1 ∙ ap (λ (xs : List Entry). xs ++ b.0) a.1 ∙ append_assoc w.out a.0 b.0)

course_grows : {F S : Type 0} (course : Course U F S) (ended : Ended F S) (f : Burn) (w new : World) → EndsSo course ended (record w { fuse = f }) new → Grows w new
course_grows course ended f w new run = let adds = runs_add_deeds course ended (record w { fuse = f }) new run in (adds.added, adds.out)

steps_grow : (line : Entry) (o : Option Burn) (course : Course U NodeStop (Live U)) (w : World) (how : Result (Unit {0}) Stop) (new : World) (next : Live U → World → Type 0)
    → ((end : Live U) (mid : World) → next end mid → Grows mid new) → Steps by_worlds line o course w how new next → Grows w new
steps_grow line None course w how new next on steps = grows_same w new (ap (λ (x : World). x.out) steps.1)
steps_grow line (Some f) course w how new next on (inl wants) = grows_same w new (ap (λ (x : World). x.out) wants.1)
steps_grow line (Some f) course w how new next on (inr (inl stops)) = course_grows course (by_node_stop stops.0) f w new stops.2.0
steps_grow line (Some f) course w how new next on (inr (inr done)) = grows_then w done.1 new (course_grows course (went done.0) f w done.1 done.2.0) (by_next done.3)
  where
    by_next : Wants how done.1 new ⊎ next done.0 (says done.1 line) → Grows done.1 new
    by_next (inl wants) = grows_same done.1 new (ap (λ (x : World). x.out) wants.1)
    by_next (inr more) = grows_then done.1 (says done.1 line) new (line ∷ [], refl) (on done.0 (says done.1 line) more)

takes_grow : (g : Lived) (events : List script.Event) (j : ℕ) (st : Live U) (w : World) (how : Result (Unit {0}) Stop) (new : World) → TakesAll by_worlds g j events st w how new → Grows w new
takes_grow g [] j st w how new takes = grows_same w new (ap (λ (x : World). x.out) takes.1)
takes_grow g (event ∷ events) j st w how new takes =
    steps_grow (entry.Step j) (fuse_for g.life.cut j) (step_of g j event st) w how new (λ end mid. TakesAll by_worlds g (j + 1) events end mid how new) (λ end mid more. takes_grow g events (j + 1) end mid how new more) takes

lives_grow : (g : Lived) (files : Files) (w : World) (how : Result (Unit {0}) Stop) (new : World) → LivesSo by_worlds g files w how new → Grows w new
lives_grow g files w how new (inl lives) =
    steps_grow (entry.Step 0) (fuse_for g.life.cut 0) (node_opening (at_step g 0)) w how new (λ end mid. TakesAll by_worlds g 1 g.life.events end mid how new) (λ end mid more. takes_grow g g.life.events 1 end mid how new more) lives
lives_grow g files w how new (inr refused) = grows_same w new refused.1.2.1

ends_grow : (life : Life) (how : Result (Unit {0}) Stop) (mid : World) (result : Result (Unit {0}) Fault) (new : World) (next : World → Type 0) → ((w : World) → next w → Grows w new) → EndsLife by_worlds life how mid result new next → Grows mid new
ends_grow life (Ok done) mid result new next on ends = on mid ends
ends_grow life (Err Cut) mid result new next on ends = by_cut life.cut ends
  where
    by_cut : (o : Option cut.Cut) → IsSomeAnd o (λ its. ((result ≡ Err NoMemory) × (new ≡ mid)) ⊎ next (says mid (entry.Cut its.step its.call))) → Grows mid new
    by_cut None ends = absurd ends
    by_cut (Some its) (inl wants) = grows_same mid new (ap (λ (x : World). x.out) wants.1)
    by_cut (Some its) (inr more) = grows_then mid (says mid (entry.Cut its.step its.call)) new (entry.Cut its.step its.call ∷ [], refl) (on (says mid (entry.Cut its.step its.call)) more)
ends_grow life (Err (FaultOf fault)) mid result new next on ends = grows_same mid new (ap (λ (x : World). x.out) ends.1)
ends_grow life (Err Failed) mid result new next on ends = absurd ends

pub from_grow : (script : Script) (first : Files → Type 0) (l : ℕ) (lives : List Life) (w : World) (result : Result (Unit {0}) Fault) (new : World) → LivesFrom by_worlds script first l lives w result new → Grows w new
from_grow script first l [] w result new ends = grows_same w new (ap (λ (x : World). x.out) ends.1)
from_grow script first l (life ∷ lives) w result new here =
    grows_then w here.3 new (lives_grow (lived script l life here.0 here.1) here.1 w here.2 here.3 here.7)
    (ends_grow life here.2 here.3 result new (λ mid. LivesFrom by_worlds script AnyFiles (l + 1) lives mid result new) (λ mid more. from_grow script AnyFiles (l + 1) lives mid result new more) here.8)

-- .. AND SO DO THE CUTS that it tells

cuts_one : (s : Setting) (p : Progress) (one : Entry) → (more : List (Option CutAt)) × ((read s p one).cuts ≡ p.cuts ++ more)
cuts_one s p (entry.Cut step call) = (Some (record { step = step; call = call }) ∷ [], refl)
cuts_one s p (entry.Step step) = by_last (is_last_step s p)
  where
    by_last : (last : Bool) → (more : List (Option CutAt)) × ((cond last (with_life_ended p None) (record p { step = suc p.step; written = [] })).cuts ≡ p.cuts ++ more)
    by_last true = (None ∷ [], refl)
    by_last false = ([], sym (append-nil p.cuts))
cuts_one s p (entry.Opened life restored) = ([], sym (append-nil p.cuts))
cuts_one s p (entry.Recorded epoch dealer public private) = ([], sym (append-nil p.cuts))
cuts_one s p other = ([], sym (append-nil p.cuts))

pub cuts_all : (s : Setting) (entries : List Entry) (p : Progress) → (more : List (Option CutAt)) × ((fold (read s) p entries).cuts ≡ p.cuts ++ more)
cuts_all s [] p = ([], sym (append-nil p.cuts))
cuts_all s (one ∷ entries) p =
    let first = cuts_one s p one in
    let rest = cuts_all s entries (read s p one) in
    (first.0 ++ rest.0, rest.1 ∙ ap (λ (x : List (Option CutAt)). x ++ rest.0) first.1 ∙ append_assoc p.cuts first.0 rest.0)

below_length : {A : Type 0} (xs : List A) (i : ℕ) (x : A) → slice_get xs i ≡ Some x → i < length xs
below_length [] i x is = absurd (let no : ◌≡◌ {A = Option _} None (Some x) = is in cc)
below_length (y ∷ xs) zero x is = omega arith
below_length (y ∷ xs) (suc i) x is = let more : i < length xs = below_length xs i x is in omega (arith, more)

-- these are the script's lives from number l on
abbrev pub AreLives : Setting → ℕ → List Life → Type 0
AreLives s l [] = Unit {0}
AreLives s l (life ∷ lives) = (life_at s l ≡ Some life) × AreLives s (l + 1) lives

-- what a run leaves: whole devices, which give back each recorded dealing that is current
abbrev pub LeavesRun : Held → Setting → Progress → Type 0
LeavesRun h s p = IsWhole (notes h) h.secrets × AllCurrent (begun s p.cuts (length p.cuts) p.step) (Gives (recovered_in h)) p.recorded

-- THE LIVES

module _ (s : Setting) (ends : List (Option CutAt)) (reshares : is_oneshot s ≡ false) (consistent : IsConsistentScript s ends)
    (meant : (l : ℕ) (life : Life) (seen : Held → Seen) (files : Files) → life_at s l ≡ Some life → by_worlds.reads seen → IsLifeInForm (lived s.script l life seen files) × IsLifeOfSetting s ends (lived s.script l life seen files)) where
  -- the entries that come, whatever they are, tell these ends
  abbrev pub EndSo : World → World → Progress → Type 0
  EndSo w new p = (added : List Entry) → new.out ≡ w.out ++ added → (fold (read s) p added).cuts ≡ ends

  pub front : (w new : World) (p : Progress) → Grows w new → EndSo w new p → (more : List (Option CutAt)) × (ends ≡ p.cuts ++ more)
  front w new p grows fin = let its = cuts_all s grows.0 p in (its.0, sym (fin grows.0 grows.1) ∙ its.1)

  pub end_then : (w mid new : World) (p : Progress) (added : List Entry) → mid.out ≡ w.out ++ added → EndSo w new p → EndSo mid new (fold (read s) p added)
  end_then w mid new p added is fin = λ more out. subst (λ (q : Progress). q.cuts ≡ ends) (fold-append (read s) p added more)
      (fin (added ++ more) (out ∙ ap (λ (xs : List Entry). xs ++ more) is ∙ append_assoc w.out added more))

  pub never_back_at : (p : Progress) (l : ℕ) (life : Life) → life_at s l ≡ Some life → length p.cuts ≡ l → (more : List (Option CutAt)) × (ends ≡ p.cuts ++ more) → awaited_before s p.cuts l ≤ awaited_epoch s l life 0 + 1
  never_back_at p l life is lives its = bound (awaited_before s p.cuts l) (awaited_before s ends l) (awaited_epoch_in s l 0) (awaited_epoch s l life 0)
      (sym (before_front s p.cuts its.0 l (same_or l (length p.cuts) (sym lives))) ∙ ap (λ (x : List (Option CutAt)). awaited_before s x l) (sym its.1))
      (ap (λ (o : Option Life). option_map_or (λ x. awaited_epoch s l x 0) o 0) is)
      (consistent.never_back l (below_length s.script.lives l life is) (began (length p.cuts) l (length ends) (length its.0) lives (ap length its.1 ∙ length-append p.cuts its.0)))
    where
      same_or : (a c : ℕ) → a ≡ c → a ≤ c
      same_or a c is = omega (arith, is)

      began : (x l y z : ℕ) → x ≡ l → y ≡ x + z → l ≤ y
      began x l y z a b = omega (arith, a, b)

      bound : (a c x y : ℕ) → a ≡ c → x ≡ y → c ≤ x + 1 → a ≤ y + 1
      bound a c x y p q low = omega (arith, p, q, low)

  least : (cuts : List (Option CutAt)) (l j : ℕ) → begun_before s cuts l ≤ begun s cuts l j
  least cuts l j = rw reshares (omega arith)

  stopped_run : (l : ℕ) (life : Life) (stop : Stop) (h : Held) (marks : Type 0) (q : Progress) → IsStopped l life stop h s marks q → LeavesRun h s q
  stopped_run l life stop h marks q its = (its.whole, subst (λ (x : ℕ). AllCurrent (begun s q.cuts x q.step) (Gives (recovered_in h)) q.recorded) (sym its.lives) its.gives)

  length_more : (xs : List (Option CutAt)) (x : Option CutAt) → length (xs ++ x ∷ []) ≡ suc (length xs)
  length_more [] x = refl
  length_more (y ∷ xs) x = ap suc (length_more xs x)

  -- behind a cut
  module _ (l : ℕ) (life : Life) (life_is : life_at s l ≡ Some life) (its : cut.Cut) (cut_is : life.cut ≡ Some its) (h : Held) (marks : Type 0) (q : Progress) (stopped : IsStopped l life Cut h s marks q) where
    abbrev r : Progress
    r = read s q (entry.Cut its.step its.call)

    begun_is : begun_before s r.cuts (length r.cuts) ≡ begun s q.cuts l (taken_by life its)
    begun_is = ap (begun_before s r.cuts) (length_more q.cuts (Some (record { step = its.step; call = its.call })) ∙ ap suc stopped.lives)
        ∙ begun_behind s reshares q.cuts l life (Some (record { step = its.step; call = its.call })) stopped.lives life_is

    pub rests_then : RestsIn h s r
    rests_then = record { whole = stopped.whole; may = rw begun_is (stopped.at_cut refl its cut_is).0 }

    pub logs_then : (marks × IsKnownAt s q (entry.Cut its.step its.call)) → LogsKnown s (begun_before s r.cuts (length r.cuts)) r.recorded (logs_in (notes h))
    logs_then known = subst (λ (n : ℕ). LogsKnown s n q.recorded (logs_in (notes h))) (sym begun_is) ((stopped.at_cut refl its cut_is).1 known)

    between_then : IsBetween (l + 1) s r
    between_then = record { lives = length_more q.cuts (Some (record { step = its.step; call = its.call })) ∙ ap suc stopped.lives ∙ one l; step = refl; nothing = refl }
      where
        one : (n : ℕ) → suc n ≡ n + 1
        one n = omega arith

  -- whatever is known then
  abbrev pub Leaves : Held → Type 0 → Progress → Type 0
  Leaves h marks q = LeavesRun h s q

  pub from_kept : (lives : List Life) (first : Files → Type 0) (l : ℕ) (marks : Type 0) (w : World) (result : Result (Unit {0}) Fault) (new : World) (p : Progress) → AreLives s l lives → IsBetween l s p → RestsIn w.held s p
      → (marks → LogsKnown s (begun_before s p.cuts (length p.cuts)) p.recorded (logs_in (notes w.held))) → EndSo w new p → LivesFrom by_worlds s.script first l lives w result new → Comes s marks p w.out new.out (Leaves new.held)
  from_kept [] first l marks w result new p are between rests logs fin ends_so =
      comes_none s marks p w.out new.out (Leaves new.held) (ap (λ (x : World). x.out) ends_so.1)
      (rw ends_so.1 (rests.whole, current_later (begun_before s p.cuts (length p.cuts)) (begun s p.cuts (length p.cuts) p.step) (Gives (recovered_in w.held)) (least p.cuts (length p.cuts) p.step) p.recorded rests.may.given))
  from_kept (life ∷ lives) first l marks w result new p are between rests logs fin here =
      comes_then s marks p w.out here.3.out new.out (LeavesLife l life here.2 here.3.held s) (Leaves new.held)
      (lives_kept s ends l life here.0 here.1 both.0 both.1 p.cuts (never_back_at p l life are.0 between.lives (front w new p grows fin)) between.lives reshares here.1 marks w here.2 here.3 p
      (record { life_is = are.0; lives = between.lives; step = between.step; nothing = between.nothing }) refl rests logs here.7)
      (λ added out leaves. by_how (λ later q mid between rests logs fin more. from_kept lives AnyFiles (l + 1) later mid result new q are.1 between rests logs fin more) here.2
      (marks_after s marks p added) (fold (read s) p added) (end_then w here.3 new p added out fin) leaves here.8)
    where
      both : IsLifeInForm (lived s.script l life here.0 here.1) × IsLifeOfSetting s ends (lived s.script l life here.0 here.1)
      both = meant l life here.0 here.1 are.0 here.4

      grows : Grows w new
      grows = from_grow s.script first l (life ∷ lives) w result new here

      Rests : World → Type 0
      Rests mid = LivesFrom by_worlds s.script AnyFiles (l + 1) lives mid result new

      On : Type 1
      On = (later : Type 0) (q : Progress) (mid : World) → IsBetween (l + 1) s q → RestsIn mid.held s q → (later → LogsKnown s (begun_before s q.cuts (length q.cuts)) q.recorded (logs_in (notes mid.held))) → EndSo mid new q → Rests mid
          → Comes s later q mid.out new.out (Leaves new.held)

      by_cut : On → (o : Option cut.Cut) → life.cut ≡ o → (later : Type 0) (q : Progress) → EndSo here.3 new q → IsStopped l life Cut here.3.held s later q
          → IsSomeAnd o (λ its. ((result ≡ Err NoMemory) × (new ≡ here.3)) ⊎ Rests (says here.3 (entry.Cut its.step its.call))) → Comes s later q here.3.out new.out (Leaves new.held)
      by_cut on None is later q fin its_stop ends_so = absurd ends_so
      by_cut on (Some its) is later q fin its_stop (inl wants) =
          comes_none s later q here.3.out new.out (Leaves new.held) (ap (λ (x : World). x.out) wants.1) (rw wants.1 (stopped_run l life Cut here.3.held later q its_stop))
      by_cut on (Some its) is later q fin its_stop (inr more) =
          comes_first s later q here.3.out new.out (Leaves new.held) (entry.Cut its.step its.call) (tt, tt)
          (on (later × IsKnownAt s q (entry.Cut its.step its.call)) (read s q (entry.Cut its.step its.call)) (says here.3 (entry.Cut its.step its.call)) (between_then l life are.0 its is here.3.held later q its_stop)
          (rests_then l life are.0 its is here.3.held later q its_stop) (logs_then l life are.0 its is here.3.held later q its_stop)
          (λ rest out. fin (entry.Cut its.step its.call ∷ rest) (out ∙ append_assoc here.3.out (entry.Cut its.step its.call ∷ []) rest)) more)

      by_how : On → (how : Result (Unit {0}) Stop) (later : Type 0) (q : Progress) → EndSo here.3 new q → LeavesLife l life how here.3.held s later q → EndsLife by_worlds life how here.3 result new Rests
          → Comes s later q here.3.out new.out (Leaves new.held)
      by_how on (Ok done) later q fin leaves ends_so = on later q here.3 leaves.0 leaves.1 leaves.2 fin ends_so
      by_how on (Err Cut) later q fin leaves ends_so = by_cut on life.cut refl later q fin leaves ends_so
      by_how on (Err (FaultOf fault)) later q fin leaves ends_so =
          comes_none s later q here.3.out new.out (Leaves new.held) (ap (λ (x : World). x.out) ends_so.1) (rw ends_so.1 (stopped_run l life (FaultOf fault) here.3.held later q leaves))
      by_how on (Err Failed) later q fin leaves ends_so = absurd ends_so

  -- THE RUN

  pub run_mid : (result answered : Result (Unit {0}) Fault) (w mid new : World) (p : Progress) → TellsEnd by_worlds result answered mid new → EndSo w new p → EndSo w mid p
  run_mid (Ok done) answered w mid new p told fin = λ added out. fin added (ap (λ (x : World). x.out) told.1 ∙ out)
  run_mid (Err fault) answered w mid new p (inl wants) fin = λ added out. fin added (ap (λ (x : World). x.out) wants.1 ∙ out)
  run_mid (Err fault) answered w mid new p (inr told) fin = λ added out.
      sym (ap (λ (q : Progress). q.cuts) (fold-append (read s) p added (entry.Fault fault ∷ [])))
      ∙ fin (added ++ entry.Fault fault ∷ []) (ap (λ (x : World). x.out) told.2 ∙ ap (λ (xs : List Entry). xs ++ entry.Fault fault ∷ []) out ∙ append_assoc w.out added (entry.Fault fault ∷ []))

  pub run_kept : (first : Files → Type 0) (marks : Type 0) (w : World) (answered : Result (Unit {0}) Fault) (new : World) (p : Progress) → AreLives s 0 s.script.lives → IsBetween 0 s p → RestsIn w.held s p
      → (marks → LogsKnown s (begun_before s p.cuts (length p.cuts)) p.recorded (logs_in (notes w.held))) → EndSo w new p → RunsSo by_worlds s.script first w answered new → Comes s marks p w.out new.out (Leaves new.held)
  run_kept first marks w answered new p are between rests logs fin run = by_lives run.lives
    where
      mid_fin : EndSo w run.mid p
      mid_fin = run_mid run.result answered w run.mid new p run.told fin

      lives : Comes s marks p w.out run.mid.out (Leaves run.mid.held) → Comes s marks p w.out new.out (Leaves new.held)
      lives a = comes_then s marks p w.out run.mid.out new.out (Leaves run.mid.held) (Leaves new.held) a
          (λ added out leaves. by_end run.result run.told (marks_after s marks p added) (fold (read s) p added) leaves)
        where
          by_end : (result : Result (Unit {0}) Fault) → TellsEnd by_worlds result answered run.mid new → (later : Type 0) (q : Progress) → LeavesRun run.mid.held s q → Comes s later q run.mid.out new.out (Leaves new.held)
          by_end (Ok done) told later q leaves = comes_none s later q run.mid.out new.out (Leaves new.held) (ap (λ (x : World). x.out) told.1) (rw told.1 leaves)
          by_end (Err fault) (inl wants) later q leaves = comes_none s later q run.mid.out new.out (Leaves new.held) (ap (λ (x : World). x.out) wants.1) (rw wants.1 leaves)
          by_end (Err fault) (inr told) later q leaves =
              comes_first s later q run.mid.out new.out (Leaves new.held) (entry.Fault fault) (tt, tt)
              (comes_none s (later × IsKnownAt s q (entry.Fault fault)) (read s q (entry.Fault fault)) (run.mid.out ++ entry.Fault fault ∷ []) new.out (Leaves new.held) (ap (λ (x : World). x.out) told.2) (rw told.2 leaves))

      -- no life began
      untouched : run.mid ≡ w → Comes s marks p w.out new.out (Leaves new.held)
      untouched same = lives (comes_none s marks p w.out run.mid.out (Leaves run.mid.held) (ap (λ (x : World). x.out) same)
          (rw same (rests.whole, current_later (begun_before s p.cuts (length p.cuts)) (begun s p.cuts (length p.cuts) p.step) (Gives (recovered_in w.held)) (least p.cuts (length p.cuts) p.step) p.recorded rests.may.given)))

      by_lives : RunsAllSo by_worlds s.script first w run.result run.mid → Comes s marks p w.out new.out (Leaves new.held)
      by_lives (inl (fault, refused, is, same)) = untouched same
      by_lives (inr (checked, inl wants)) = untouched wants.1
      by_lives (inr (checked, inr more)) = lives (from_kept s.script.lives first 0 marks w run.result run.mid p are between rests logs mid_fin more)
