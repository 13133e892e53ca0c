-- What is recorded of the chain's logs, beside what a run of lives keeps, line by line over worlds: between lives and behind each step, where the lines so far are in order and tell how lives ended.
use Rattle.std.proofs.Common.{◌≡◌, ◌<◌, ◌≤◌, ◌+◌, ◌-◌, ◌==◌, ◌++◌, ◌∷◌, [], ℕ, suc, Bool, true, false, List, Option, Some, None, length, arith, refl, sym, ◌∙◌, ap, subst, append_assoc, length-append}
use Rattle.std.specs.Prelude.{slice_get, IsSomeAnd, if◌then◌else◌}
use Rattle.std.specs.FinMap as maps
use Rattle.std.proofs.lemmas.List.Sums.{fold-append}
use Rattle.dkg_journal.specs.Burn.{Burn}
use Rattle.dkg_journal.specs.Names.{Files}
use Rattle.dkg_journal.specs.Records.{SectionEntry as Record}
use Rattle.dkg_types.specs.Blocks as made
use Rattle.dkg_infos.specs.Units.{unit_spelling}
use Rattle.dkg_infos.specs.declared.directory.Unit as directory
use Rattle.dkg_infos.specs.declared.entry.Entry.{Entry}
use Rattle.dkg_infos.specs.declared.entry.Entry.TheVariants as entry
use Rattle.dkg_text.specs.declared.script.Cut as cut
use Rattle.dkg_text.specs.declared.script.Event as script
use Rattle.dkg_text.specs.declared.script.Life.{Life}
use Rattle.dkg_script.specs.Blocks.{numbered_block}
use Rattle.dkg_script.specs.History.{WasSeen}
use Rattle.dkg_script.specs.Order.{InLife, IsInOrder, IsOrderedCut}
use Rattle.dkg_script.specs.Position.{awaited_before, awaited_epoch, begun, begun_before}
use Rattle.dkg_script.specs.Progress.{AtEachEntry, Progress, at_start, progress, read}
use Rattle.dkg_script.specs.Setting.{CutAt, Setting, is_oneshot, life_at}
use Rattle.dkg_script.specs.Views.{seen_block}
use Rattle.dkg_store.specs.Acts.{Ended, Held, World, broken, notes, stopped, went}
use Rattle.dkg_store.specs.Noted.{Notes, logs_in}
use Rattle.dkg_store.specs.declared.recorded_log.RecordedLog.{RecordedLog}
use Rattle.dkg_core.specs.Behind.{event_of}
use Rattle.dkg_core.specs.Courses.{Course, EndsSo}
use Rattle.dkg_core.specs.Live.{Live, NodeStop}
use Rattle.dkg_core.specs.Node.{node_opening, node_step}
use Rattle.dkg_core.specs.Seen.{Seen}
use Rattle.dkg_lives.specs.Epochs.{IsLifeInForm}
use Rattle.dkg_lives.specs.Given.{Lived, at_step, blocks_in, lived, step_of}
use Rattle.dkg_promises.specs.SharesStand.{IsWholePast}
use Rattle.dkg_lives.specs.Ways.{StaysHeld, by_worlds}
use Rattle.dkg_lives.proofs.Awaiting.{IsReached}
use Rattle.dkg_lives.proofs.Currently.{begun_more}
use Rattle.dkg_lives.proofs.Former.{IsMessage, event_in_form, message_in}
use Rattle.dkg_along.proofs.KeptSteps.{IsAtStep}
use Rattle.dkg_along.proofs.LifeSteps.{IsLifeOfSetting}
use Rattle.dkg_along.proofs.EntryLives.{After, KnownAfter, Left, come, come_more}
use Rattle.dkg_along.proofs.LivesKept.{IsBetween, taken_before, taken_by, taken_within}
use Rattle.dkg_along.proofs.LivesTold.{Anything, BaseBetween, BaseHere, all_told}
use Rattle.dkg_promises.proofs.NotedFirst.{AreNoted, noted_same}
use Rattle.dkg_promises.proofs.RecordingLives as lives
use Rattle.dkg_promises.proofs.RecordingLives.{left_noted}
use Rattle.dkg_promises.proofs.RecordingSteps.{IsRecording, Saw, saw_first}
use Rattle.dkg_along.proofs.RunKept.{cuts_all}
use Rattle.dkg_along.proofs.ToldBeside.{Adds}

abbrev U : Type 0
U = directory.Unit

some_is : {A : Type 0} {x y : A} → ◌≡◌ {A = Option A} (Some x) (Some y) → x ≡ y
some_is e = cc

-- LINES so far that are in order, and tell the first of these ends
pub record IsFront (s : Setting) (ends : List (Option CutAt)) (b : List Entry) : Type 0 where
  pub ordered : AtEachEntry s (IsInOrder s) b
  pub ends_so : (more : List (Option CutAt)) × (ends ≡ (come s b).cuts ++ more)

pub front_of : (s : Setting) (ends : List (Option CutAt)) (b more : List Entry) → IsFront s ends (b ++ more) → IsFront s ends b
front_of s ends b more front =
    let grown = cuts_all s more (come s b) in
    let cuts_are : (come s (b ++ more)).cuts ≡ (come s b).cuts ++ grown.0 = ap (λ (p : Progress). p.cuts) (fold-append (read s) (at_start s) b more) ∙ grown.1 in
    record {
      ordered = λ before one after is. front.ordered before one (after ++ more) (ap (λ (es : List Entry). es ++ more) is ∙ append_assoc before (one ∷ after) more);
      ends_so = (grown.0 ++ front.ends_so.0, front.ends_so.1 ∙ ap (λ (cs : List (Option CutAt)). cs ++ front.ends_so.0) cuts_are ∙ append_assoc (come s b).cuts grown.0 front.ends_so.0);
    }

module _ (s : Setting) (ends : List (Option CutAt)) (reshares : is_oneshot s ≡ false) (whole : IsWholePast s ends)
    (meant : (l : ℕ) (life : Life) (seen : Held → Seen) (files : Files) → life_at s l ≡ Some life → by_worlds.reads seen → IsLifeInForm (lived s.script l life seen files) × IsLifeOfSetting s ends (lived s.script l life seen files))
    (seen_at : (number : ℕ) (b : made.Block U) → slice_get (blocks_in s.script) number ≡ Some b → numbered_block s number ≡ Some (seen_block unit_spelling b)) where
  -- what the devices note between lives,
  abbrev pub RecordsBetween : Type 0 → ℕ → World → List Entry → Type 0
  RecordsBetween marks l w b = IsFront s ends b → AreNoted s (begun_before s (come s b).cuts l) (WasSeen s ends l) (logs_in (notes w.held))

  -- .. and within one
  abbrev pub RecordsHere : (l : ℕ) (life : Life) (seen : Held → Seen) (files : Files) → life_at s l ≡ Some life → by_worlds.reads seen → (cuts : List (Option CutAt)) → awaited_before s cuts l ≤ awaited_epoch s l life 0 + 1 → Type 0 → ℕ → Live U
      → World → List Entry → Type 0
  RecordsHere l life seen files life_is reads cuts back marks i st w b = IsFront s ends b → IsRecording s ends l life cuts i (logs_in (notes w.held))

  module _ (l : ℕ) (life : Life) (seen : Held → Seen) (files : Files) (life_is : life_at s l ≡ Some life) (reads : by_worlds.reads seen) (cuts : List (Option CutAt)) (back : awaited_before s cuts l ≤ awaited_epoch s l life 0 + 1) where
    abbrev g : Lived
    g = lived s.script l life seen files

    abbrev here : IsLifeInForm g
    here = (meant l life seen files life_is reads).0

    abbrev its_own : IsLifeOfSetting s ends g
    its_own = (meant l life seen files life_is reads).1

    abbrev logs : World → Notes RecordedLog
    logs w = logs_in (notes w.held)

    abbrev cut_at : cut.Cut → CutAt
    cut_at at = record { step = at.step; call = at.call }

    -- BEHIND THE LINE OF A CUT
    cut_cuts : (c : List Entry) → (come s c).cuts ≡ cuts → (at : cut.Cut) → (come s (c ++ entry.Cut at.step at.call ∷ [])).cuts ≡ cuts ++ Some (cut_at at) ∷ []
    cut_cuts c are at = ap (λ (p : Progress). p.cuts) (come_more s c (entry.Cut at.step at.call)) ∙ ap (λ (cs : List (Option CutAt)). cs ++ Some (cut_at at) ∷ []) are

    cut_noted : (c : List Entry) → (come s c).cuts ≡ cuts → length cuts ≡ l → (at : cut.Cut) (taken done : ℕ) → taken_by life at ≡ taken → ((step : ℕ) → step < at.step → step ≤ done) → (m : Notes RecordedLog)
        → AreNoted s (begun s cuts l taken) (Saw s ends l life done) m → IsFront s ends (c ++ entry.Cut at.step at.call ∷ [])
        → AreNoted s (begun_before s (come s (c ++ entry.Cut at.step at.call ∷ [])).cuts (l + 1)) (WasSeen s ends (l + 1)) m
    cut_noted c are count at taken done takes upto m noted front =
        subst (λ (cs : List (Option CutAt)). AreNoted s (begun_before s cs (l + 1)) (WasSeen s ends (l + 1)) m) (sym (cut_cuts c are at))
        (left_noted s ends cuts front.ends_so.0 l life (Some (cut_at at)) m taken done reshares life_is count (front.ends_so.1 ∙ ap (λ (cs : List (Option CutAt)). cs ++ front.ends_so.0) (cut_cuts c are at)) takes
        (λ step within low. upto step low) noted)

    pub records_add : Adds s ends reshares whole.consistent meant Anything (BaseBetween s ends reshares whole.consistent meant) (BaseHere s ends reshares whole.consistent meant) Anything RecordsBetween RecordsHere l life seen files life_is reads cuts back
    unfolding progress
    records_add = record {
      opening = λ marks w before at are base records reached f ended new run added out left.
          (all_told s added marks before, opened marks w before at are records f ended new run added left);
      step = λ marks i event is reached st w before at are going records f ended new run added out left.
          (all_told s added marks before, stepped marks i event is reached st w before at are going records f ended new run added left);
      over = λ marks st w b between are going records front. behind_life w b between are (records front) front;
      unstepped = λ marks i st w b at are going records its there step none front.
          cut_noted b are (count_of b at.lives are) its i i (taken_before life its (suc i) step none ∙ less_one i) (λ k low. let of = step in omega (arith, low, of)) (logs w)
          (records (front_of s ends b (entry.Cut its.step its.call ∷ []) front)).noted front;
      unopened = λ marks w new b at are base records same stays its there front. unopened w new b at are records stays its front;
    }
      where
        BaseIt : Type 0 → ℕ → Live U → World → List Entry → Type 0
        BaseIt = BaseHere s ends reshares whole.consistent meant l life seen files life_is reads cuts back

        LeftBase : (before : List Entry) → ℕ → Ended NodeStop (Live U) → World → Type 0 → List Entry → Type 0
        LeftBase = Left s Anything ends reshares whole.consistent meant (BaseBetween s ends reshares whole.consistent meant) (BaseHere s ends reshares whole.consistent meant) l life seen files life_is reads cuts back

        AlsoAfter : ℕ → Ended NodeStop (Live U) → World → Type 0 → List Entry → Type 0
        AlsoAfter = After s Anything ends reshares whole.consistent meant RecordsBetween RecordsHere l life seen files life_is reads cuts back

        less_one : (k : ℕ) → suc k - 1 ≡ k
        less_one k = omega arith

        count_of : (b : List Entry) → length (come s b).cuts ≡ l → (come s b).cuts ≡ cuts → length cuts ≡ l
        count_of b lives are = ap length (sym are) ∙ lives

        -- AN OPENING
        opened : (marks : Type 0) (w : World) (before : List Entry) → IsAtStep l life 0 s (come s before) → (come s before).cuts ≡ cuts → RecordsBetween marks l w before → (f : Burn) (ended : Ended NodeStop (Live U)) (new : World)
            → EndsSo (node_opening (at_step g 0)) ended (record w { fuse = f }) new → (added : List Entry) → LeftBase before 0 ended new (KnownAfter s marks before added) (before ++ added)
            → AlsoAfter 0 ended new (KnownAfter s marks before added) (before ++ added)
        opened marks w before at are records f ended new run added left = by_end ended left
          where
            recording : IsFront s ends before → IsRecording s ends l life cuts 0 (logs new)
            recording front = lives.opening_records s ends whole l life seen files here its_own cuts back seen_at (record w { fuse = f })
                (subst (λ (cs : List (Option CutAt)). AreNoted s (begun_before s cs l) (WasSeen s ends l) (logs w)) are (records front)) ended new run

            by_end : (x : Ended NodeStop (Live U)) → LeftBase before 0 x new (KnownAfter s marks before added) (before ++ added) → AlsoAfter 0 x new (KnownAfter s marks before added) (before ++ added)
            by_end (went end) left = λ front. recording (front_of s ends before added (front_of s ends (before ++ added) (entry.Step 0 ∷ []) front))
            by_end (stopped stop) left = tt
            by_end (broken cause) left = λ its there step within front.
                let its_are = left.0 ∙ are in
                cut_noted (before ++ added) its_are (count_of before at.lives are) its 0 0 (taken_within life its 0 step within) (λ k low. let of = step in absurd (omega (arith, low, of))) (logs new)
                (recording (front_of s ends before added (front_of s ends (before ++ added) (entry.Cut its.step its.call ∷ []) front))).noted front

        -- A STEP
        stepped : (marks : Type 0) (i : ℕ) (event : script.Event) → slice_get life.events i ≡ Some event → IsReached life.cut (suc i) → (st : Live U) (w : World) (before : List Entry) → IsAtStep l life (suc i) s (come s before)
            → (come s before).cuts ≡ cuts → BaseIt marks i st w before → RecordsHere l life seen files life_is reads cuts back marks i st w before → (f : Burn) (ended : Ended NodeStop (Live U)) (new : World)
            → EndsSo (step_of g (suc i) event st) ended (record w { fuse = f }) new → (added : List Entry) → LeftBase before (suc i) ended new (KnownAfter s marks before added) (before ++ added)
            → AlsoAfter (suc i) ended new (KnownAfter s marks before added) (before ++ added)
        stepped marks i event is reached st w before at are going records f ended new run added left = by_end ended refl left
          where
            m : IsMessage g event
            m = message_in g event (event_in_form g here i event is)

            run_here : EndsSo (node_step (at_step g (suc i)) (event_of m.message) st) ended (record w { fuse = f }) new
            run_here = subst (λ (course : Course U NodeStop (Live U)). EndsSo course ended (record w { fuse = f }) new) (m.course (suc i) st) run

            by_end : (x : Ended NodeStop (Live U)) → ended ≡ x → LeftBase before (suc i) x new (KnownAfter s marks before added) (before ++ added) → AlsoAfter (suc i) x new (KnownAfter s marks before added) (before ++ added)
            by_end (went end) same left = λ front.
                lives.step_records s ends whole l life seen files here its_own cuts back seen_at marks i event is reached st (record w { fuse = f }) (come s before) going
                (records (front_of s ends before added (front_of s ends (before ++ added) (entry.Step (suc i) ∷ []) front))) ended new m run_here end same
            by_end (stopped stop) same left = tt
            by_end (broken cause) same left = λ its there step within front.
                let its_are = left.0 ∙ are in
                cut_noted (before ++ added) its_are (count_of before at.lives are) its (suc i) i (taken_within life its (suc i) step within) (λ k low. let of = step in omega (arith, low, of)) (logs new)
                (lives.step_notes s ends whole l life seen files here its_own cuts back seen_at marks i event is reached st (record w { fuse = f }) (come s before) going
                (records (front_of s ends before added (front_of s ends (before ++ added) (entry.Cut its.step its.call ∷ []) front))) ended new m run_here) front

        -- BEHIND THE LIFE
        behind_life : (w : World) (b : List Entry) → IsBetween (l + 1) s (come s b) → (come s b).cuts ≡ cuts ++ None ∷ [] → IsRecording s ends l life cuts (length life.events) (logs w) → IsFront s ends b
            → AreNoted s (begun_before s (come s b).cuts (l + 1)) (WasSeen s ends (l + 1)) (logs w)
        behind_life w b between are recording front =
            subst (λ (cs : List (Option CutAt)). AreNoted s (begun_before s cs (l + 1)) (WasSeen s ends (l + 1)) (logs w)) (sym are)
            (left_noted s ends cuts front.ends_so.0 l life None (logs w) (length life.events) (length life.events) reshares life_is
            (less (length cuts) l (sym (length-append cuts (None ∷ [])) ∙ ap length (sym are) ∙ between.lives)) (front.ends_so.1 ∙ ap (λ (cs : List (Option CutAt)). cs ++ front.ends_so.0) are) refl (λ step low any. low) recording.noted)
          where
            less : (x y : ℕ) → x + 1 ≡ y + 1 → x ≡ y
            less x y e = omega (arith, e)

        -- ONE THAT DIDN'T OPEN, which the script cuts before or within its opening
        unopened : (w new : World) (b : List Entry) → IsAtStep l life 0 s (come s b) → (come s b).cuts ≡ cuts → (IsFront s ends b → AreNoted s (begun_before s (come s b).cuts l) (WasSeen s ends l) (logs w)) → StaysHeld w.held new.held
            → (its : cut.Cut) → IsFront s ends (b ++ entry.Cut its.step its.call ∷ [])
            → AreNoted s (begun_before s (come s (b ++ entry.Cut its.step its.call ∷ [])).cuts (l + 1)) (WasSeen s ends (l + 1)) (logs new)
        unopened w new b at are records stays its front =
            cut_noted b are (count_of b at.lives are) its 0 0 taken (λ k low. let of = step_is in absurd (omega (arith, low, of))) (logs new)
            (noted_same s (begun_before s cuts l) (begun s cuts l 0) (WasSeen s ends l) (Saw s ends l life 0) (logs w) (logs new) (begun_more s reshares cuts l life 0 life_is) was_seen
            (λ key now. ap (λ (es : List Record). maps.get (logs_in es) key) stays.entries)
            (subst (λ (cs : List (Option CutAt)). AreNoted s (begun_before s cs l) (WasSeen s ends l) (logs w)) are (records (front_of s ends b (entry.Cut its.step its.call ∷ []) front)))) front
          where
            ordered : InLife s (come s b) (IsOrderedCut (come s b) its.step its.call)
            ordered = front.ordered b (entry.Cut its.step its.call) [] refl

            step_is : its.step ≡ 0
            step_is = by_life (life_at s (length (come s b).cuts)) ordered
              where
                by_life : (o : Option Life) → IsSomeAnd o (IsOrderedCut (come s b) its.step its.call) → its.step ≡ 0
                by_life None none = absurd none
                by_life (Some x) one = one.in_hand ∙ at.step

            taken : taken_by life its ≡ 0
            taken = by_test (its.call == 0)
              where
                by_test : (t : Bool) → (if t then its.step - 1 else its.step) ≡ 0
                by_test true = ap (λ (k : ℕ). k - 1) step_is
                by_test false = step_is

            was_seen : (epoch height : ℕ) → Saw s ends l life 0 epoch height → WasSeen s ends l epoch height
            was_seen epoch height saw = saw_first s ends l life epoch height saw
