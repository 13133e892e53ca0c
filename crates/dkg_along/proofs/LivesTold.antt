-- Line by line over worlds, with what a life keeps of recorded dealings and of logs; and a clause with what it adds to that.
use Rattle.std.proofs.Common.{◌≡◌, ℕ, true, suc, ◌+◌, ◌-◌, ◌<◌, ◌≤◌, List, [], ◌∷◌, ◌++◌, Option, Some, None, false, refl, sym, ◌∙◌, ap, subst, length, arith, add-one, length-append}
use Rattle.std.specs.Prelude.{slice_get, ◌==◌}
use Rattle.std.specs.FinMap.{get}
use Rattle.std.proofs.lemmas.List.Sums.{fold-append}
use Rattle.dkg_journal.specs.Burn.{Burn}
use Rattle.dkg_journal.specs.Names.{Files}
use Rattle.dkg_journal.specs.Records.{SectionEntry as Note}
use Rattle.dkg_infos.specs.declared.directory.Unit as directory
use Rattle.dkg_infos.specs.declared.entry.Entry.{Entry}
use Rattle.dkg_infos.specs.declared.entry.Entry.TheVariants as entry
use Rattle.dkg_text.specs.declared.script.Cut as cut
use Rattle.dkg_text.specs.declared.script.Event as script
use Rattle.dkg_text.specs.declared.script.Life.{Life}
use Rattle.dkg_script.specs.Consistent.{IsConsistentScript}
use Rattle.dkg_script.specs.Kept.{AllCurrent, Gives}
use Rattle.dkg_script.specs.LogsKnown.{LogsKnown}
use Rattle.dkg_script.specs.OwnMarks.{IsKnownAt, IsKnownInStep}
use Rattle.dkg_script.specs.Position.{awaited_before, awaited_epoch, begun, begun_before}
use Rattle.dkg_script.specs.Progress.{Progress, read}
use Rattle.dkg_script.specs.Setting.{CutAt, Setting, blocks_per_epoch, is_oneshot, life_at}
use Rattle.dkg_store.specs.Acts.{Ended, Held, World, broken, notes, says, stopped, went}
use Rattle.dkg_store.specs.Noted.{logs_in}
use Rattle.dkg_core.specs.Courses.{Course, EndsSo}
use Rattle.dkg_core.specs.Heard.{recovered_in}
use Rattle.dkg_core.specs.Live.{Live, NodeStop}
use Rattle.dkg_core.specs.Node.{node_opening}
use Rattle.dkg_core.specs.Seen.{Seen}
use Rattle.dkg_core.specs.Transcripts.{IfWentTo}
use Rattle.dkg_life.specs.declared.stop.Stop.TheVariants.{Cut}
use Rattle.dkg_lives.specs.Epochs.{IsLifeInForm}
use Rattle.dkg_lives.specs.Given.{Lived, at_step, lived, step_of}
use Rattle.dkg_lives.specs.Ways.{StaysHeld, by_worlds}
use Rattle.dkg_lives.proofs.Awaiting.{IsReached}
use Rattle.dkg_along.proofs.AwaitedRises.{begun_rises}
use Rattle.dkg_lives.proofs.Currently.{MayBeKept, RestsIn, begun_behind, begun_more, current_later, may_of, may_still}
use Rattle.dkg_lives.proofs.Former.{IsMessage, event_in_form, message_in}
use Rattle.dkg_along.proofs.KeptSteps.{AnyCall, IsAtStep, Reaches, WithinCall, saved_carried}
use Rattle.dkg_along.proofs.LifeSteps.{IsGoing, IsLifeOfSetting, IsSettled, OpeningLeaves, StepLeaves, opening_goes, step_goes}
use Rattle.dkg_along.proofs.EntryLives.{After, CutThen, EachTold, KnownAfter, LeadsOn, Left, Told, come, come_more, known_before}
use Rattle.dkg_along.proofs.LivesKept.{IsBetween, IsStopped, held_pairs, held_whole, logs_later, may_later, stops_saved, taken_before, taken_by, taken_within, told_going}
use Rattle.dkg_along.proofs.RunKept.{logs_then, rests_then}

abbrev U : Type 0
U = directory.Unit

some_is : {A : Type 0} {x y : A} → ◌≡◌ {A = Option A} (Some x) (Some y) → x ≡ y
some_is e = cc

-- nothing is said of a line
abbrev pub Anything : Type 0 → List Entry → Entry → Type 0
Anything marks before line = Unit {0}

pub all_told : (s : Setting) (lines : List Entry) (marks : Type 0) (before : List Entry) → EachTold s Anything marks before lines
all_told s [] marks before = tt
all_told s (line ∷ lines) marks before = (tt, all_told s lines (marks × IsKnownAt s (come s before) line) (before ++ line ∷ []))

itself : (x : ℕ) → x ≤ x
itself x = omega arith

module _ (s : Setting) (ends : List (Option CutAt)) (reshares : is_oneshot s ≡ false) (consistent : IsConsistentScript s ends)
    (meant : (l : ℕ) (life : Life) (seen : Held → Seen) (files : Files) → life_at s l ≡ Some life → by_worlds.reads seen → IsLifeInForm (lived s.script l life seen files) × IsLifeOfSetting s ends (lived s.script l life seen files)) where
  -- THE BASE: what the devices give back, and logs that are known, where no log so far bears an acknowledgement that this node never gave

  abbrev pub BaseBetween : Type 0 → ℕ → World → List Entry → Type 0
  BaseBetween marks l w b = RestsIn w.held s (come s b) × (marks → LogsKnown s (begun_before s (come s b).cuts (length (come s b).cuts)) (come s b).recorded (logs_in (notes w.held)))

  abbrev pub BaseHere : (l : ℕ) (life : Life) (seen : Held → Seen) (files : Files) → life_at s l ≡ Some life → by_worlds.reads seen → (cuts : List (Option CutAt)) → awaited_before s cuts l ≤ awaited_epoch s l life 0 + 1 → Type 0 → ℕ → Live U
      → World → List Entry → Type 0
  BaseHere l life seen files life_is reads cuts back marks i st w b =
      IsGoing s ends l life seen files (meant l life seen files life_is reads).0 (meant l life seen files life_is reads).1 cuts back marks i st w.held (come s b)

  module _ (l : ℕ) (life : Life) (seen : Held → Seen) (files : Files) (life_is : life_at s l ≡ Some life) (reads : by_worlds.reads seen) (cuts : List (Option CutAt)) (back : awaited_before s cuts l ≤ awaited_epoch s l life 0 + 1) where
    abbrev g : Lived
    g = lived s.script l life seen files

    abbrev here : IsLifeInForm g
    here = (meant l life seen files life_is reads).0

    abbrev its : IsLifeOfSetting s ends g
    its = (meant l life seen files life_is reads).1

    abbrev b : ℕ → ℕ
    b i = begun s cuts l i

    some : 1 ≤ blocks_per_epoch s
    some = one (blocks_per_epoch s) here.long
      where
        one : (n : ℕ) → 2 ≤ n → 1 ≤ n
        one n long = omega (arith, long)

    rises : (i : ℕ) → b i ≤ b (suc i)
    rises i = begun_rises s reshares l life life_is cuts some back i

    abbrev Going : Type 0 → ℕ → Live U → Held → Progress → Type 0
    Going marks i st h p = IsGoing s ends l life seen files here its cuts back marks i st h p

    -- behind a cut
    cut_then : (marks : Type 0) (w : World) (before : List Entry) (at : cut.Cut) → life.cut ≡ Some at → IsStopped l life Cut w.held s marks (come s before) → CutThen s Anything ends reshares consistent meant BaseBetween BaseHere l marks w before at
    cut_then marks w before at is its_stop =
        subst (λ (p : Progress). RestsIn w.held s p × ((marks × IsKnownAt s (come s before) (entry.Cut at.step at.call)) → LogsKnown s (begun_before s p.cuts (length p.cuts)) p.recorded (logs_in (notes w.held))))
        (sym (come_more s before (entry.Cut at.step at.call)))
        (rests_then s ends reshares consistent meant l life life_is at is w.held marks (come s before) its_stop, logs_then s ends reshares consistent meant l life life_is at is w.held marks (come s before) its_stop)

    -- the cut that the life has
    module _ (at : cut.Cut) (is : life.cut ≡ Some at) where
      of_cut : (P : cut.Cut → Type 0) (other : cut.Cut) → life.cut ≡ Some other → P at → P other
      of_cut P other there so = subst P (some_is (sym is ∙ there)) so

    -- the same state behind the line that tells a step
    told_here : (marks later : Type 0) (i : ℕ) (end : Live U) (new : World) (c : List Entry) → (later → marks) → length (come s c).cuts ≡ l → (come s c).step ≡ i → (come s c).cuts ≡ cuts → Going marks i end new.held (come s c)
        → BaseHere l life seen files life_is reads cuts back later i end (says new (entry.Step i)) (c ++ entry.Step i ∷ [])
    told_here marks later i end new c earlier lives step are going =
        subst (Going later i end new.held) (sym (come_more s c (entry.Step i)))
        (told_going s ends l life seen files here its cuts back (ap length (sym are) ∙ lives) reshares marks later i i end new.held (come s c) earlier lives step are going)

    pub base_leads : LeadsOn s Anything ends reshares consistent meant BaseBetween BaseHere l life seen files life_is reads cuts back
    base_leads = record {
      opening = λ marks w before at are between reached f ended new run. opened marks w before at are between f ended new run;
      step = λ marks i event is reached st w before at are going f ended new run. stepped marks i event is reached st w before at are going f ended new run;
      over = over;
      unstepped = λ marks i st w before at are going c is there none. unstepped marks i st w before at are going c is there none;
      unopened = unopened;
    }
      where
        LeftBy : (before : List Entry) → ℕ → Ended NodeStop (Live U) → World → Type 0 → List Entry → Type 0
        LeftBy = Left s Anything ends reshares consistent meant BaseBetween BaseHere l life seen files life_is reads cuts back

        AfterIt : ℕ → Ended NodeStop (Live U) → World → Type 0 → List Entry → Type 0
        AfterIt = After s Anything ends reshares consistent meant BaseBetween BaseHere l life seen files life_is reads cuts back

        -- AN OPENING
        opened : (marks : Type 0) (w : World) (before : List Entry) → IsAtStep l life 0 s (come s before) → (come s before).cuts ≡ cuts → BaseBetween marks l w before → (f : Burn) (ended : Ended NodeStop (Live U)) (new : World)
            → EndsSo (node_opening (at_step g 0)) ended (record w { fuse = f }) new → Told s Anything marks before w.out new.out (LeftBy before 0 ended new)
        opened marks w before at are between f ended new run =
            record { added = r.added; out = r.out; each = all_told s r.added marks before; to = left (KnownAfter s marks before r.added) (before ++ r.added) (known_before s r.added marks before) (subst Opens (sym (fold-append (read s) _ before r.added)) r.to) }
          where
            Opens : Progress → Type 0
            Opens q = OpeningLeaves s ends l life seen files here its cuts back marks ended new.held (come s before) q

            r : Reaches s (come s before) w.out new.out Opens
            r = opening_goes s ends l life seen files here its cuts back marks (record w { fuse = f }) (come s before) are at.lives between.0 between.1 ended new run

            low : (c : List Entry) → (come s c).cuts ≡ cuts → b 0 ≤ begun s (come s c).cuts l 0
            low c its_are = subst (λ (x : List (Option CutAt)). b 0 ≤ begun s x l 0) (sym its_are) (itself (b 0))

            left : (later : Type 0) (c : List Entry) → (later → marks) → Opens (come s c) → LeftBy before 0 ended new later c
            left later c earlier so = (so.cuts_are, so.step, by_end ended so.went)
              where
                lives : length (come s c).cuts ≡ l
                lives = ap length so.cuts_are ∙ at.lives

                its_are : (come s c).cuts ≡ cuts
                its_are = so.cuts_are ∙ are

                by_end : (x : Ended NodeStop (Live U)) → IfWentTo x (λ end. Going marks 0 end new.held (come s c)) → AfterIt 0 x new later c
                by_end (went end) going = told_here marks (later × IsKnownAt s (come s c) (entry.Step 0)) 0 end new c (λ known. earlier known.0) lives (so.step ∙ at.step) its_are going
                by_end (stopped stop) none = tt
                by_end (broken cause) none = λ at_cut is there within.
                    cut_then later new c at_cut is
                    (stops_saved AnyCall (b 0) l life 0 Cut new.held s later (come s c) lives (so.step ∙ at.step) (low c its_are)
                    (λ e other known. (
                      of_cut at_cut is (λ x. x.step ≡ 0) other known there,
                      tt,
                      of_cut at_cut is (λ x. b 0 ≤ begun s (come s c).cuts l (taken_by life x)) other known
                          (subst (λ (n : ℕ). b 0 ≤ begun s (come s c).cuts l n) (sym (taken_within life at_cut 0 there within)) (low c its_are)),
                    ))
                    (λ other any known. so.logs (earlier known.0)) so.saved)

        -- A STEP
        stepped : (marks : Type 0) (i : ℕ) (event : script.Event) → slice_get life.events i ≡ Some event → IsReached life.cut (suc i) → (st : Live U) (w : World) (before : List Entry) → IsAtStep l life (suc i) s (come s before)
            → (come s before).cuts ≡ cuts → BaseHere l life seen files life_is reads cuts back marks i st w before
            → (f : Burn) (ended : Ended NodeStop (Live U)) (new : World) → EndsSo (step_of g (suc i) event st) ended (record w { fuse = f }) new → Told s Anything marks before w.out new.out (LeftBy before (suc i) ended new)
        stepped marks i event is reached st w before at are going f ended new run =
            record { added = r.added; out = r.out; each = all_told s r.added marks before; to = left (KnownAfter s marks before r.added) (before ++ r.added) (known_before s r.added marks before) (subst Leaves (sym (fold-append (read s) _ before r.added)) r.to) }
          where
            Leaves : Progress → Type 0
            Leaves q = StepLeaves s ends l life seen files here its cuts back marks i ended new.held (come s before) q

            m : IsMessage g event
            m = message_in g event (event_in_form g here i event is)

            r : Reaches s (come s before) w.out new.out Leaves
            r = step_goes s ends l life seen files here its cuts back marks i event is reached st (record w { fuse = f }) (come s before) going at ended new m
                (subst (λ (course : Course U NodeStop (Live U)). EndsSo course ended (record w { fuse = f }) new) (m.course (suc i) st) run)

            left : (later : Type 0) (c : List Entry) → (later → marks) → Leaves (come s c) → LeftBy before (suc i) ended new later c
            left later c earlier so = (so.cuts_are, so.step, by_end ended so.went)
              where
                lives : length (come s c).cuts ≡ l
                lives = ap length so.cuts_are ∙ at.lives

                its_are : (come s c).cuts ≡ cuts
                its_are = so.cuts_are ∙ are

                low : b (suc i) ≤ begun s (come s c).cuts l (suc i)
                low = subst (λ (x : List (Option CutAt)). b (suc i) ≤ begun s x l (suc i)) (sym its_are) (itself (b (suc i)))

                Settles : Progress → Type 0
                Settles q = IsSettled marks s q

                by_end : (x : Ended NodeStop (Live U)) → IfWentTo x (λ end. Going (marks × IsKnownInStep s (come s c)) (suc i) end new.held (come s c) × Settles (come s c)) → AfterIt (suc i) x new later c
                by_end (went end) both =
                    told_here (marks × IsKnownInStep s (come s c)) (later × IsKnownAt s (come s c) (entry.Step (suc i))) (suc i) end new c (λ known. (earlier known.0, known.1)) lives (so.step ∙ at.step) its_are both.0
                by_end (stopped stop) none = tt
                by_end (broken cause) none = λ at_cut is there within.
                    cut_then later new c at_cut is
                    (stops_saved WithinCall (b (suc i)) l life (suc i) Cut new.held s later (come s c) lives (so.step ∙ at.step) low
                    (λ e other known. (
                      of_cut at_cut is (λ x. x.step ≡ suc i) other known there,
                      of_cut at_cut is (λ x. 0 < x.call) other known within,
                      of_cut at_cut is (λ x. b (suc i) ≤ begun s (come s c).cuts l (taken_by life x)) other known
                          (subst (λ (n : ℕ). b (suc i) ≤ begun s (come s c).cuts l n) (sym (taken_within life at_cut (suc i) there within)) low),
                    ))
                    (λ other within known. so.logs (earlier known.0) (known.1 within)) so.saved)

        -- BEHIND THE LIFE
        over : (marks : Type 0) (st : Live U) (w : World) (c : List Entry) → IsBetween (l + 1) s (come s c) → (come s c).cuts ≡ cuts ++ None ∷ [] → BaseHere l life seen files life_is reads cuts back marks (length life.events) st w c
            → BaseBetween marks (l + 1) w c
        over marks st w c between are going = (
          record {
            whole = going.carries.half.agreed.whole;
            may = may_later (b n) (begun_before s (come s c).cuts (length (come s c).cuts)) s (come s c) (recovered_in w.held) low (may_of (b n) s (come s c) l (recovered_in w.held) going.carries.opened going.carries.half.are);
          },
          λ known. logs_later s (b n) (begun_before s (come s c).cuts (length (come s c).cuts)) (come s c).recorded (logs_in (notes w.held)) low (going.logs known),
        )
          where
            n : ℕ
            n = length life.events

            lives_before : length cuts ≡ l
            lives_before = less (length cuts) l (sym (length-append cuts (None ∷ [])) ∙ ap length (sym are) ∙ between.lives)
              where
                less : (x y : ℕ) → x + 1 ≡ y + 1 → x ≡ y
                less x y e = omega (arith, e)

            low : b n ≤ begun_before s (come s c).cuts (length (come s c).cuts)
            low = same_or (b n) (begun_before s (come s c).cuts (length (come s c).cuts))
                (sym (begun_behind s reshares cuts l life None lives_before life_is) ∙ ap (begun_before s (cuts ++ None ∷ [])) (sym (add-one l) ∙ sym between.lives)
                ∙ ap (λ (x : List (Option CutAt)). begun_before s x (length (come s c).cuts)) (sym are))
              where
                same_or : (x y : ℕ) → x ≡ y → x ≤ y
                same_or x y is = omega (arith, is)

        -- BEFORE A STEP that isn't begun
        unstepped : (marks : Type 0) (i : ℕ) (st : Live U) (w : World) (c : List Entry) → IsAtStep l life (suc i) s (come s c) → (come s c).cuts ≡ cuts → BaseHere l life seen files life_is reads cuts back marks i st w c
            → (at_cut : cut.Cut) → life.cut ≡ Some at_cut → at_cut.step ≡ suc i → (at_cut.call == 0) ≡ true → CutThen s Anything ends reshares consistent meant BaseBetween BaseHere l marks w c at_cut
        unstepped marks i st w c at are going at_cut is there none =
            cut_then marks w c at_cut is
            (stops_saved AnyCall (b i) l life (suc i) Cut w.held s marks (come s c) at.lives at.step (low (suc i) (rises i))
            (λ e other known. (
              of_cut at_cut is (λ x. x.step ≡ suc i) other known there,
              tt,
              of_cut at_cut is (λ x. b i ≤ begun s (come s c).cuts l (taken_by life x)) other known
                  (subst (λ (n : ℕ). b i ≤ begun s (come s c).cuts l n) (sym (taken_before life at_cut (suc i) there none ∙ back_one)) (low i (itself (b i)))),
            ))
            (λ other any known. going.logs known.0) (saved_carried AnyCall (at_step g i) (b i) _ l st w.held s (come s c) going.carries))
          where
            back_one : suc i - 1 ≡ i
            back_one = omega arith

            low : (j : ℕ) → b i ≤ b j → b i ≤ begun s (come s c).cuts l j
            low j under = subst (λ (x : List (Option CutAt)). b i ≤ begun s x l j) (sym are) under

        -- .. AND BEFORE IT OPENED, where the devices stay as they were
        unopened : (marks : Type 0) (w new : World) (c : List Entry) → IsAtStep l life 0 s (come s c) → (come s c).cuts ≡ cuts → BaseBetween marks l w c → new.out ≡ w.out → StaysHeld w.held new.held → (at_cut : cut.Cut) → life.cut ≡ Some at_cut
            → CutThen s Anything ends reshares consistent meant BaseBetween BaseHere l marks new c at_cut
        unopened marks w new c at are between same stays at_cut is = cut_then marks new c at_cut is (record {
          lives = at.lives;
          whole = held_whole w.held new.held stays between.0.whole;
          gives = subst (λ pairs. AllCurrent (begun s p.cuts l p.step) (Gives pairs) p.recorded) (sym pairs_are) (current_later b0 (begun s p.cuts l p.step) (Gives (recovered_in w.held)) (low p.step) p.recorded between.0.may.given);
          at_cut = λ e other known. (
            subst (λ pairs. MayBeKept (begun s p.cuts l (taken_by life other)) s (read s p (entry.Cut other.step other.call)) pairs) (sym pairs_are)
                (may_still b0 (begun s p.cuts l (taken_by life other)) s p (read s p (entry.Cut other.step other.call)) (Some (record { step = other.step; call = other.call })) (recovered_in w.held) (low (taken_by life other)) refl refl refl between.0.may),
            λ marked. logs_same (begun s p.cuts l (taken_by life other)) (logs_later s b0 (begun s p.cuts l (taken_by life other)) p.recorded (logs_in (notes w.held)) (low (taken_by life other)) (between.1 marked.0)),
          );
        })
          where
            p : Progress
            p = come s c

            b0 : ℕ
            b0 = begun_before s p.cuts (length p.cuts)

            pairs_are : recovered_in new.held ≡ recovered_in w.held
            pairs_are = held_pairs w.held new.held stays

            low : (i : ℕ) → b0 ≤ begun s p.cuts l i
            low i = subst (λ (x : ℕ). begun_before s p.cuts x ≤ begun s p.cuts l i) (sym at.lives) (begun_more s reshares p.cuts l life i life_is)

            logs_same : (x : ℕ) → LogsKnown s x p.recorded (logs_in (notes w.held)) → LogsKnown s x p.recorded (logs_in (notes new.held))
            logs_same x known key noted now there = known key noted now (subst (λ (es : List Note). get (logs_in es) key ≡ Some noted) stays.entries there)
