-- Each answer of a run over devices that tell is from the path: line by line, with what the lives record.
use Rattle.std.proofs.Common.{◌≡◌, ◌⊎◌, inl, inr, ℕ, suc, false, ◌+◌, ◌≤◌, List, [], ◌∷◌, ◌++◌, Option, Some, sym, ◌∙◌, ap, subst, length, arith, length-append}
use Rattle.std.specs.Prelude.{slice_get}
use Rattle.std.specs.List.{AllByRecursion}
use Rattle.std.proofs.lemmas.List.{append_cancel_left}
use Rattle.dkg_ceremony.specs.declared.round.RoundParts.{RoundParts as Round}
use Rattle.dkg_journal.specs.Burn.{Burn}
use Rattle.dkg_journal.specs.Names.{Files}
use Rattle.dkg_infos.specs.declared.directory.Unit as directory
use Rattle.dkg_infos.specs.declared.entry.Entry.{Entry}
use Rattle.dkg_infos.specs.declared.entry.Entry.TheVariants as entry
use Rattle.dkg_text.specs.declared.script.Event as script
use Rattle.dkg_text.specs.declared.script.Life.{Life}
use Rattle.dkg_script.specs.Consistent.{MayEndSo}
use Rattle.dkg_script.specs.History.{IsWholeHistory}
use Rattle.dkg_script.specs.Inclusion.{IsFormOfInclusion}
use Rattle.dkg_script.specs.OwnMarks.{IsKnownAt}
use Rattle.dkg_script.specs.Position.{awaited_before, awaited_epoch}
use Rattle.dkg_script.specs.Progress.{Progress}
use Rattle.dkg_script.specs.Setting.{CutAt, Setting, is_oneshot, life_at}
use Rattle.dkg_store.specs.Acts.{Ended, Held, World, broken, notes, stopped, went}
use Rattle.dkg_store.specs.Noted.{logs_in}
use Rattle.dkg_core.specs.Behind.{event_of}
use Rattle.dkg_core.specs.Courses.{Course, EndsSo, on_devices}
use Rattle.dkg_core.specs.Forms.{IsNodeBegun, held_behind}
use Rattle.dkg_core.specs.Laws.{IsQuiet}
use Rattle.dkg_core.specs.Live.{Live, Message, NodeStop}
use Rattle.dkg_core.specs.Node.{node_opening, node_step}
use Rattle.dkg_core.specs.Said.{Said}
use Rattle.dkg_core.specs.Seen.{Seen}
use Rattle.dkg_laws.proofs.NodeThrough.{node_steps_lead_through_over}
use Rattle.dkg_laws.proofs.Openings.{node_openings_lead_over}
use Rattle.dkg_laws.proofs.Said.{runs_say}
use Rattle.dkg_promises.specs.Answers.{IsPathAnswer}
use Rattle.dkg_lives.specs.Epochs.{IsLifeInForm, any_shares, epoch_by}
use Rattle.dkg_lives.specs.Given.{AreBytes, Lived, at_step, lived, step_of}
use Rattle.dkg_promises.specs.SharesStand.{IsWholePast}
use Rattle.dkg_lives.specs.Ways.{by_worlds}
use Rattle.dkg_along.proofs.Alone.{epoch_alike}
use Rattle.dkg_lives.proofs.Awaiting.{IsReached}
use Rattle.dkg_promises.proofs.Blaming.{same_position}
use Rattle.dkg_lives.proofs.Former.{BringsBlock, BringsMail, IsMessage, brings_so, event_in_form, form_at, lacks_nobody, life_in, live_at, message_in, step_taken, through_at}
use Rattle.dkg_along.proofs.KeptSteps.{IsAtStep}
use Rattle.dkg_along.proofs.LifeSteps.{IsGoing, IsLifeOfSetting}
use Rattle.dkg_along.proofs.EntryLives.{After, EachTold, KnownAfter, LeadsOn, Left, come, come_more}
use Rattle.dkg_along.proofs.LivesTold.{Anything, BaseBetween, BaseHere, base_leads}
use Rattle.dkg_along.proofs.Ordered.{step_is_quiet}
use Rattle.dkg_promises.proofs.PathsAsked.{IsPathSaid, IsPathState, path_answer, state_lines, state_next, state_opens}
use Rattle.dkg_promises.proofs.ReadLogs.{IsRecordedTo}
use Rattle.dkg_promises.proofs.ReadingRecords.{block_recorded, mail_recorded}
use Rattle.dkg_promises.proofs.RecordsBeside.{IsFront, RecordsBetween, RecordsHere, front_of, records_add}
use Rattle.dkg_promises.proofs.Requested.{IsReadFor}
use Rattle.dkg_along.proofs.SeenBlocks.{seen_at}
use Rattle.dkg_lives.proofs.Standing.{AddsQuiet}
use Rattle.dkg_along.proofs.ToldBeside.{Adds, BothBetween, BothHere, OfLines, OfRests, OfSteps, both_leads}
use Rattle.dkg_lives.proofs.Unanswered.{IsUnanswered, opening_lines}

abbrev U : Type 0
U = directory.Unit

module _ (s : Setting) (ends : List (Option CutAt)) where
  -- WHAT IS TOLD OF A LINE: an answer is from the path, where the lines up to it are the first ones of those that tell how the lives ended.
  abbrev pub PathEntry : OfLines
  PathEntry marks before line = IsFront s ends (before ++ line ∷ []) → IsPathAnswer s (come s before) line

  unanswered_path : (p : Progress) (line : Entry) → IsUnanswered line → IsPathAnswer s p line
  unanswered_path p (entry.Answer request answer) none = absurd none
  unanswered_path p line none = tt

  unanswered_told : (lines : List Entry) (marks : Type 0) (before : List Entry) → AllByRecursion IsUnanswered lines → EachTold s PathEntry marks before lines
  unanswered_told [] marks before none = tt
  unanswered_told (line ∷ lines) marks before none = ((λ front. unanswered_path (come s before) line none.0), unanswered_told lines (marks × IsKnownAt s (come s before) line) (before ++ line ∷ []) none.1)

  -- lines that leave the step in hand
  quiet_told : (l j : ℕ) (first : List Entry) (P : Entry → Type 0) → ((p : Progress) (line : Entry) → length p.cuts ≡ l → p.step ≡ j → P line → IsPathAnswer s p line) → (lines : List Entry) (marks : Type 0) (before : List Entry)
      → (IsFront s ends before → IsFront s ends first) → length (come s before).cuts ≡ l → (come s before).step ≡ j → AllByRecursion IsQuiet lines → (IsFront s ends first → AllByRecursion P lines) → EachTold s PathEntry marks before lines
  quiet_told l j first P so [] marks before earlier lives step quiet said = tt
  quiet_told l j first P so (line ∷ lines) marks before earlier lives step quiet said = (
    λ front. so (come s before) line lives step (said (earlier (front_of s ends before (line ∷ []) front))).0,
    quiet_told l j first P so lines (marks × IsKnownAt s (come s before) line) (before ++ line ∷ []) (λ front. earlier (front_of s ends before (line ∷ []) front))
        (ap (λ (p : Progress). length p.cuts) (come_more s before line) ∙ ap length (same_position s (come s before) line quiet.0).0 ∙ lives)
        (ap (λ (p : Progress). p.step) (come_more s before line) ∙ (same_position s (come s before) line quiet.0).1 ∙ step) quiet.1 (λ front. (said front).1),
  )

-- a whole history is such a past
abbrev pub past_of : (s : Setting) (ends : List (Option CutAt)) → IsWholeHistory s ends → IsWholePast s ends
past_of s ends history = record { consistent = history.consistent; logs = history.logs; missed = history.missed }

-- what is kept of recorded dealings and logs, and what is noted of the chain's
module _ (s : Setting) (ends : List (Option CutAt)) (reshares : is_oneshot s ≡ false) (past : IsWholePast s ends) (form : IsFormOfInclusion s.script) (bytes : AreBytes s.script.blocks)
    (meant : (l : ℕ) (life : Life) (seen : Held → Seen) (files : Files) → life_at s l ≡ Some life → by_worlds.reads seen → IsLifeInForm (lived s.script l life seen files) × IsLifeOfSetting s ends (lived s.script l life seen files)) where
  abbrev pub FirstBetween : OfRests
  FirstBetween = BothBetween s ends reshares past.consistent meant Anything (BaseBetween s ends reshares past.consistent meant) (BaseHere s ends reshares past.consistent meant) Anything
      (RecordsBetween s ends reshares past meant (seen_at s form bytes)) (RecordsHere s ends reshares past meant (seen_at s form bytes))

  abbrev pub FirstHere : OfSteps s
  FirstHere = BothHere s ends reshares past.consistent meant Anything (BaseBetween s ends reshares past.consistent meant) (BaseHere s ends reshares past.consistent meant) Anything
      (RecordsBetween s ends reshares past meant (seen_at s form bytes)) (RecordsHere s ends reshares past meant (seen_at s form bytes))

module _ (s : Setting) (ends : List (Option CutAt)) (reshares : is_oneshot s ≡ false) (history : IsWholeHistory s ends) (form : IsFormOfInclusion s.script) (bytes : AreBytes s.script.blocks) (may : MayEndSo s.script.lives ends)
    (meant : (l : ℕ) (life : Life) (seen : Held → Seen) (files : Files) → life_at s l ≡ Some life → by_worlds.reads seen → IsLifeInForm (lived s.script l life seen files) × IsLifeOfSetting s ends (lived s.script l life seen files)) where
  abbrev pub Nothing : OfRests
  Nothing marks l w b = Unit {0}

  abbrev past : IsWholePast s ends
  past = past_of s ends history

  abbrev RecordsFirst : OfRests
  RecordsFirst = FirstBetween s ends reshares past form bytes meant

  abbrev RecordsIn : OfSteps s
  RecordsIn = FirstHere s ends reshares past form bytes meant

  -- what is known of requests where they are read
  abbrev pub PathsHere : OfSteps s
  PathsHere l life seen files life_is reads cuts back marks i st w b =
      IsFront s ends b → (begun : l ≤ length ends)
      → IsPathState s ends history form bytes may l life begun ((meant l life seen files life_is reads).1).none_found seen files (meant l life seen files life_is reads).0 i st

  module _ (l : ℕ) (life : Life) (seen : Held → Seen) (files : Files) (life_is : life_at s l ≡ Some life) (reads : by_worlds.reads seen) (cuts : List (Option CutAt)) (back : awaited_before s cuts l ≤ awaited_epoch s l life 0 + 1) where
    abbrev g : Lived
    g = lived s.script l life seen files

    abbrev here : IsLifeInForm g
    here = (meant l life seen files life_is reads).0

    abbrev its : IsLifeOfSetting s ends g
    its = (meant l life seen files life_is reads).1

    -- so many lives ended before it
    begun_of : (b : List Entry) → length (come s b).cuts ≡ l → IsFront s ends b → l ≤ length ends
    begun_of b lives front =
        at_least l (length (come s b).cuts) (length front.ends_so.0) (length ends) lives (ap length front.ends_so.1 ∙ length-append (come s b).cuts front.ends_so.0)
      where
        at_least : (a b c d : ℕ) → b ≡ a → d ≡ b + c → a ≤ d
        at_least a b c d one two = omega (arith, one, two)

    abbrev LeftFirst : (before : List Entry) → ℕ → Ended NodeStop (Live U) → World → Type 0 → List Entry → Type 0
    LeftFirst = Left s Anything ends reshares history.consistent meant RecordsFirst RecordsIn l life seen files life_is reads cuts back

    abbrev AfterIt : ℕ → Ended NodeStop (Live U) → World → Type 0 → List Entry → Type 0
    AfterIt = After s (PathEntry s ends) ends reshares history.consistent meant Nothing PathsHere l life seen files life_is reads cuts back

    -- AN OPENING answers nothing, and leaves such a state.
    opened : (marks : Type 0) (w : World) (before : List Entry) (f : Burn) (ended : Ended NodeStop (Live U)) (new : World) → EndsSo (node_opening (at_step g 0)) ended (record w { fuse = f }) new → (added : List Entry) → new.out ≡ w.out ++ added
        → EachTold s (PathEntry s ends) marks before added × AfterIt 0 ended new (KnownAfter s marks before added) (before ++ added)
    opened marks w before f ended new run added out = (
      unanswered_told s ends added marks before (subst (AllByRecursion IsUnanswered) (append_cancel_left w.out lines.0 added (sym lines.1 ∙ out)) lines.2),
      by_end ended (KnownAfter s marks before added) run,
    )
      where
        begun_world : World
        begun_world = record w { fuse = f }

        lines : (added : List Entry) × (new.out ≡ w.out ++ added) × AllByRecursion IsUnanswered added
        lines = opening_lines (at_step g 0) (form_at g here 0).reshare ended w.out new.out (runs_say (on_devices (node_opening (at_step g 0))) ended begun_world new run)

        begun_node : (end : Live U) → EndsSo (node_opening (at_step g 0)) (went end) begun_world new → IsNodeBegun (at_step g 0) ((at_step g 0).seen (held_behind (at_step g 0) w.held)) (held_behind (at_step g 0) w.held) end
        begun_node end run = (node_openings_lead_over (at_step g 0) (went end) begun_world new (form_at g here 0) (lacks_nobody g 0) run).0

        by_end : (x : Ended NodeStop (Live U)) (later : Type 0) → EndsSo (node_opening (at_step g 0)) x begun_world new → AfterIt 0 x new later (before ++ added)
        by_end (went end) later run = λ front begun.
            state_opens s ends history form bytes may l life begun its.none_found seen files here ((at_step g 0).seen (held_behind (at_step g 0) w.held)) (held_behind (at_step g 0) w.held) end (begun_node end run)
        by_end (stopped stop) later run = tt
        by_end (broken cause) later run = λ at_cut is there within. tt

    -- A STEP answers from the path, and leaves such a state.
    stepped : (marks : Type 0) (i : ℕ) (event : script.Event) → slice_get life.events i ≡ Some event → IsReached life.cut (suc i) → (st : Live U) (w : World) (before : List Entry) → IsAtStep l life (suc i) s (come s before)
        → RecordsIn l life seen files life_is reads cuts back marks i st w before → PathsHere l life seen files life_is reads cuts back marks i st w before
        → (f : Burn) (ended : Ended NodeStop (Live U)) (new : World) → EndsSo (step_of g (suc i) event st) ended (record w { fuse = f }) new → (added : List Entry) → new.out ≡ w.out ++ added
        → EachTold s (PathEntry s ends) marks before added × AfterIt (suc i) ended new (KnownAfter s marks before added) (before ++ added)
    stepped marks i event is reached st w before at first state f ended new run added out = (
      quiet_told s ends l (suc i) before (IsPathSaid s l life (suc i)) (path_answer s l life life_is (suc i)) added marks before (λ front. front) at.lives at.step
          (subst (AllByRecursion IsQuiet) (append_cancel_left w.out quiet.added added (sym quiet.parts ∙ out)) quiet.quiet) lines,
      by_end ended (KnownAfter s marks before added) run said,
    )
      where
        begun_world : World
        begun_world = record w { fuse = f }

        said : Said (on_devices (step_of g (suc i) event st)) ended w.out new.out
        said = runs_say (on_devices (step_of g (suc i) event st)) ended begun_world new run

        quiet : AddsQuiet w.out new.out
        quiet = step_is_quiet g (suc i) event st ended w.out new.out said

        m : IsMessage g event
        m = message_in g event (event_in_form g here i event is)

        going : IsGoing s ends l life seen files here its cuts back marks i st w.held (come s before)
        going = first.0

        run_of : (x : Ended NodeStop (Live U)) → EndsSo (step_of g (suc i) event st) x begun_world new → EndsSo (node_step (at_step g (suc i)) (event_of m.message) st) x begun_world new
        run_of x run = subst (λ (course : Course U NodeStop (Live U)). EndsSo course x begun_world new) (m.course (suc i) st) run

        -- what is recorded where requests are read
        recorded : IsFront s ends before → (x : Live U) → IsReadFor (at_step g (suc i)) st m.message x → (round : Round) → st.participation.round ≡ Some round → IsRecordedTo s (epoch_by g i) round x
        recorded front x in_it round of =
            subst (λ (e : ℕ). IsRecordedTo s e round x) (epoch_alike s l life (life_in g here).no_sync its.none_found i) (by_brought (brings_so g event m.message m.brings))
          where
            by_brought : BringsBlock g event m.message ⊎ BringsMail event m.message → IsRecordedTo s (awaited_epoch s l life i) round x
            by_brought (inr (mail, sent, none)) =
                mail_recorded s ends past l life seen files here its.none_found cuts back i event is reached st going.at going.of_round (logs_in (notes w.held)) going.carries.half.agreed.logs (first.1 front) mail x
                (subst (λ (y : Message U). IsReadFor (at_step g (suc i)) st y x) sent in_it) round of
            by_brought (inl (number, made_it, final, sent)) =
                block_recorded s ends past l life seen files here its.none_found cuts back i event is reached st going.at going.of_round (logs_in (notes w.held)) going.carries.half.agreed.logs (first.1 front) number made_it.block
                (is ∙ ap (λ (y : script.Event). Some y) final) (seen_at s form bytes number made_it.block made_it.is) x (subst (λ (y : Message U). IsReadFor (at_step g (suc i)) st y x) sent in_it) round of

        -- its lines
        lines : IsFront s ends before → AllByRecursion (IsPathSaid s l life (suc i)) added
        lines front =
            let begun = begun_of before at.lives front in
            let its_lines = state_lines s ends history form bytes may l life begun its.none_found seen files here i event is reached st (state front begun) (recorded front) ended w.out new.out said in
            subst (AllByRecursion (IsPathSaid s l life (suc i))) (append_cancel_left w.out its_lines.0 added (sym its_lines.1 ∙ out)) its_lines.2

        by_end : (x : Ended NodeStop (Live U)) (later : Type 0) → EndsSo (step_of g (suc i) event st) x begun_world new → Said (on_devices (step_of g (suc i) event st)) x w.out new.out → AfterIt (suc i) x new later (before ++ added)
        by_end (went end) later run said = λ front begun.
            let at_before : IsFront s ends before = front_of s ends before added (front_of s ends (before ++ added) (entry.Step (suc i) ∷ []) front) in
            state_next s ends history form bytes may l life begun its.none_found seen files here i event is reached st (state at_before begun) (recorded at_before) w.out new.out (Some w.held) end (Some new.held) said
            (node_steps_lead_through_over (at_step g (suc i)) any_shares st m.message (went end) begun_world new (through_at g here (suc i)) (lacks_nobody g (suc i)) (λ h epoch found. tt)
            (step_taken g event m.message m.brings (at_step g (suc i)) st) (live_at g i (suc i) st going.at.live) going.at.active (run_of (went end) run))
        by_end (stopped stop) later run said = tt
        by_end (broken cause) later run said = λ at_cut is_cut there within. tt

    -- WHAT THE CLAUSE ADDS
    pub paths_add : Adds s ends reshares history.consistent meant Anything RecordsFirst RecordsIn (PathEntry s ends) Nothing PathsHere l life seen files life_is reads cuts back
    paths_add = record {
      opening = λ marks w before at are first none reached f ended new run added out left. opened marks w before f ended new run added out;
      step = λ marks i event is reached st w before at are first state f ended new run added out left. stepped marks i event is reached st w before at first state f ended new run added out;
      over = λ marks st w b between are first state. tt;
      unstepped = λ marks i st w b at are first state at_cut is there none. tt;
      unopened = λ marks w new b at are first none same stays at_cut is. tt;
    }

    -- The law: a life leads on so.
    pub path_leads : LeadsOn s (PathEntry s ends) ends reshares history.consistent meant (BothBetween s ends reshares history.consistent meant Anything RecordsFirst RecordsIn (PathEntry s ends) Nothing PathsHere)
        (BothHere s ends reshares history.consistent meant Anything RecordsFirst RecordsIn (PathEntry s ends) Nothing PathsHere) l life seen files life_is reads cuts back
    path_leads =
        both_leads s ends reshares history.consistent meant Anything RecordsFirst RecordsIn (PathEntry s ends) Nothing PathsHere l life seen files life_is reads cuts back
        (both_leads s ends reshares history.consistent meant Anything (BaseBetween s ends reshares history.consistent meant) (BaseHere s ends reshares history.consistent meant) Anything
        (RecordsBetween s ends reshares past meant (seen_at s form bytes)) (RecordsHere s ends reshares past meant (seen_at s form bytes)) l life seen files life_is reads cuts back
        (base_leads s ends reshares history.consistent meant l life seen files life_is reads cuts back) (records_add s ends reshares past meant (seen_at s form bytes) l life seen files life_is reads cuts back))
        paths_add
