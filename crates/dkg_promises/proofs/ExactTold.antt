-- Each line that commits the epoch behind one that its life takes part in has a share just where it stands: line by line, with what the lives record.
use Rattle.std.proofs.Common.{◌≡◌, ◌⊎◌, inl, inr, ℕ, suc, true, false, ◌+◌, ◌-◌, ◌*◌, ◌<◌, ◌≤◌, List, [], ◌∷◌, ◌++◌, Option, Some, None, refl, sym, ◌∙◌, ap, subst, length, arith, append-nil, append_assoc}
use Rattle.std.specs.Prelude.{◌↔◌, IsSome, IsSomeAnd, is_some, slice_get}
use Rattle.std.specs.FinMap.{get}
use Rattle.std.specs.List.{AllByRecursion}
use Rattle.std.proofs.lemmas.List.{append_cancel_left}
use Rattle.std.proofs.lemmas.List.Elements.{Contains-append_cases}
use Rattle.std.proofs.lemmas.List.Sums.{fold-append}
use Rattle.dkg_ceremony.specs.Schedule.{epoch_of, last}
use Rattle.dkg_ceremony.specs.declared.round.RoundParts.{RoundParts as Round}
use Rattle.dkg_journal.specs.Burn.{Burn}
use Rattle.dkg_journal.specs.Names.{Files}
use Rattle.dkg_types.specs.BlockCodes.{info_of}
use Rattle.dkg_types.specs.Blocks as made
use Rattle.dkg_infos.specs.Units.{unit_spelling}
use Rattle.dkg_infos.specs.declared.directory.Unit as directory
use Rattle.dkg_infos.specs.declared.entry.Entry.{Entry}
use Rattle.dkg_infos.specs.declared.entry.Entry.TheVariants as entry
use Rattle.dkg_infos.specs.declared.entry.Part.{Part}
use Rattle.dkg_infos.specs.declared.info.EpochInfo.{EpochInfo}
use Rattle.dkg_infos.specs.declared.outcome.EpochOutcome.{EpochOutcome}
use Rattle.dkg_infos.specs.declared.outcome.EpochOutcome.TheVariants.{Success, Failure}
use Rattle.dkg_text.specs.declared.script.Event as script
use Rattle.dkg_text.specs.declared.script.Event.TheVariants as event
use Rattle.dkg_text.specs.declared.script.Life.{Life}
use Rattle.dkg_script.specs.Blocks.{ScriptBlock, numbered_block, known_info}
use Rattle.dkg_script.specs.Consistent.{MayEndSo}
use Rattle.dkg_script.specs.History.{CarriesNext}
use Rattle.dkg_script.specs.Inclusion.{IsFormOfInclusion}
use Rattle.dkg_script.specs.OwnMarks.{IsKnownAt}
use Rattle.dkg_script.specs.Position.{awaited_before, awaited_epoch, event_of_step, life_follows}
use Rattle.dkg_script.specs.Progress.{Progress, progress, read}
use Rattle.dkg_script.specs.Readings.{Info}
use Rattle.dkg_script.specs.Setting.{CutAt, Setting, blocks_per_epoch, is_oneshot, life_at}
use Rattle.dkg_script.specs.Views.{seen_block, seen_provided}
use Rattle.dkg_store.specs.Acts.{Ended, Held, World, broken, notes, stopped, went}
use Rattle.dkg_store.specs.Noted.{logs_in}
use Rattle.dkg_core.specs.Asked.{OfShares}
use Rattle.dkg_core.specs.Courses.{EndsSo, on_devices}
use Rattle.dkg_core.specs.Fixed.{Fixed}
use Rattle.dkg_core.specs.Forms.{Applied, judged_block}
use Rattle.dkg_core.specs.Laws.{IsQuiet}
use Rattle.dkg_core.specs.Live.{Finalized, Live, Message, NodeStop, Mailed, is_last_height}
use Rattle.dkg_core.specs.Node.{node_opening}
use Rattle.dkg_core.specs.Seen.{Seen}
use Rattle.dkg_core.specs.Stepping.{next_epoch}
use Rattle.dkg_core.specs.Storing.{ReadsSecrets}
use Rattle.dkg_core.specs.Through.{IsShareTaken}
use Rattle.dkg_core.specs.Transcripts.{BeginsOpened}
use Rattle.dkg_core.proofs.Heights.{epoch_is}
use Rattle.dkg_laws.proofs.Said.{runs_say}
use Rattle.dkg_lives.specs.Epochs.{IsLifeInForm}
use Rattle.dkg_lives.specs.Given.{AreBytes, Lived, at_step, lived, provided_by, step_of}
use Rattle.dkg_promises.specs.SharesStand.{EndsEpoch, EndsHonestly, HeldShare, IsWholePast, StandsBy, StandsSo, WasCutInto}
use Rattle.dkg_lives.specs.Ways.{by_worlds}
use Rattle.dkg_lives.proofs.Awaiting.{IsReached}
use Rattle.dkg_promises.proofs.Blaming.{same_position}
use Rattle.dkg_along.proofs.CommitsOver.{IsTakenShare, Tells}
use Rattle.dkg_along.proofs.Drawn.{all_join}
use Rattle.dkg_promises.proofs.ExactLine.{line_stands}
use Rattle.dkg_promises.proofs.ExactSteps.{ExactBetween, ExactHere, Never, SomeAt, begun_left, commits_told, cut_left, cut_opening, held_more, over_left, shares_told, unopened_left, unstepped_left, went_left}
use Rattle.dkg_lives.proofs.Former.{BringsBlock, BringsMail, IsMadeOf, IsMessage, brings_so, event_in_form, message_in}
use Rattle.dkg_along.proofs.KeptSteps.{IsAtStep}
use Rattle.dkg_along.proofs.LifeSteps.{IsGoing, IsLifeOfSetting}
use Rattle.dkg_along.proofs.EntryLives.{After, EachTold, KnownAfter, LeadsOn, Left, come, come_more}
use Rattle.dkg_along.proofs.LivesTold.{Anything, BaseBetween, BaseHere, base_leads}
use Rattle.dkg_promises.proofs.OfferedHalves.{all_of}
use Rattle.dkg_along.proofs.Ordered.{opened_in, step_is_quiet}
use Rattle.dkg_promises.proofs.PathsTold.{FirstBetween, FirstHere}
use Rattle.dkg_promises.proofs.ReadLogs.{IsRecordedTo}
use Rattle.dkg_promises.proofs.ReadingRecords.{recorded_here}
use Rattle.dkg_promises.proofs.RecordsBeside.{IsFront, RecordsBetween, RecordsHere, front_of, records_add}
use Rattle.dkg_along.proofs.SeenBlocks.{seen_at}
use Rattle.dkg_promises.proofs.SetUps.{last_line, set_up_last, set_up_there}
use Rattle.dkg_lives.proofs.Standing.{AddsQuiet}
use Rattle.dkg_promises.proofs.StoredTold.{AtCommits, TellsShare}
use Rattle.dkg_along.proofs.ToldBeside.{Adds, BothBetween, BothHere, OfLines, OfRests, OfSteps, both_leads}

abbrev U : Type 0
U = directory.Unit

some_is : {A : Type 0} {x y : A} → ◌≡◌ {A = Option A} (Some x) (Some y) → x ≡ y
some_is e = cc

none_some : {A : Type 0} {x : A} → ◌≡◌ {A = Option A} None (Some x) → ⊥
none_some e = cc

-- how lives ended, told of more lines
cuts_as : (s : Setting) (before passed : List Entry) → (come s (before ++ passed)).cuts ≡ (come s before).cuts → (progress s before).cuts ≡ (progress s (before ++ passed)).cuts
unfolding progress
cuts_as s before passed same = sym same

-- WHAT IS TOLD OF A LINE: a share that is committed stands exactly, where the lines up to it are the first ones of those that tell how the lives ended.
abbrev pub IsExactLine : Setting → Type 0 → List Entry → Entry → Type 0
IsExactLine s marks before (entry.Committed epoch share) =
    (ended : ℕ) → epoch ≡ ended + 1 → (ends_it : EndsEpoch s (come s before) ended)
    → IsSomeAnd (known_info s (ended + 1)) (λ info. StandsSo s before ended share (EndsHonestly s (come s before) ended ends_it) marks info.outcome)
IsExactLine s marks before line = Unit {0}

module _ (s : Setting) (ends : List (Option CutAt)) where
  abbrev pub ExactEntry : OfLines
  ExactEntry marks before line = IsFront s ends (before ++ line ∷ []) → IsExactLine s marks before line

  -- no step is in hand in an opening
  line_opening : (marks : Type 0) (before : List Entry) (line : Entry) → (come s before).step ≡ 0 → ExactEntry marks before line
  line_opening marks before (entry.Committed epoch share) first front = λ ended same its.
      absurd (none_some (sym (ap (event_of_step its.life) first) ∙ its.event))
  line_opening marks before line first front = tt

  quiet_opening : (lines : List Entry) (marks : Type 0) (before : List Entry) → (come s before).step ≡ 0 → AllByRecursion IsQuiet lines → EachTold s ExactEntry marks before lines
  quiet_opening [] marks before first quiet = tt
  quiet_opening (line ∷ lines) marks before first quiet = (
    line_opening marks before line first,
    quiet_opening lines (marks × IsKnownAt s (come s before) line) (before ++ line ∷ []) (ap (λ (p : Progress). p.step) (come_more s before line) ∙ (same_position s (come s before) line quiet.0).1 ∙ first) quiet.1,
  )

  opening_told : (number : ℕ) (ended : Ended NodeStop (Live U)) (lines : List Entry) (marks : Type 0) (before : List Entry) → (come s before).step ≡ 0 → BeginsOpened number lines ended → EachTold s ExactEntry marks before lines
  opening_told number ended [] marks before first begins = tt
  opening_told number ended (entry.Opened life restored ∷ lines) marks before first begins = (
    line_opening marks before (entry.Opened life restored) first,
    quiet_opening lines (marks × IsKnownAt s (come s before) (entry.Opened life restored)) (before ++ entry.Opened life restored ∷ []) (ap (λ (p : Progress). p.step) (come_more s before (entry.Opened life restored)) ∙ first) begins.1,
  )
  opening_told number ended (line ∷ lines) marks before first begins = absurd begins

  -- lines that commit nothing
  uncommitted_told : (lines : List Entry) (last : Option (ℕ × Part)) (marks : Type 0) (before : List Entry) → AtCommits Never last lines → EachTold s ExactEntry marks before lines
  uncommitted_told [] last marks before none = tt
  uncommitted_told (entry.Committed epoch share ∷ lines) last marks before none = absurd none.0
  uncommitted_told (line ∷ lines) last marks before none = ((λ front. tt), uncommitted_told lines (last_line last line) (marks × IsKnownAt s (come s before) line) (before ++ line ∷ []) none.1)

module _ (s : Setting) (ends : List (Option CutAt)) (reshares : is_oneshot s ≡ false) (history : IsWholePast s ends) (form : IsFormOfInclusion s.script) (bytes : AreBytes s.script.blocks)
    (may : MayEndSo s.script.lives ends) (secrets : (seen : Held → Seen) → by_worlds.reads seen → ReadsSecrets seen)
    (meant : (l : ℕ) (life : Life) (seen : Held → Seen) (files : Files) → life_at s l ≡ Some life → by_worlds.reads seen → IsLifeInForm (lived s.script l life seen files) × IsLifeOfSetting s ends (lived s.script l life seen files)) where
  -- beside what is kept of recorded dealings and logs, and what is noted of the chain's: shares, between lives and within one
  abbrev pub SharesBetween : OfRests
  SharesBetween marks l w b = ExactBetween s w b

  abbrev pub SharesHere : OfSteps s
  SharesHere l life seen files life_is reads cuts back marks i st w b =
      ExactHere s ends form reshares history.consistent secrets l life seen files life_is reads (meant l life seen files life_is reads).0 (meant l life seen files life_is reads).1 cuts back i st w b

  abbrev First : OfRests
  First = FirstBetween s ends reshares history form bytes meant

  abbrev FirstIn : OfSteps s
  FirstIn = FirstHere s ends reshares history form bytes meant

  module _ (l : ℕ) (life : Life) (seen : Held → Seen) (files : Files) (life_is : life_at s l ≡ Some life) (reads : by_worlds.reads seen) (cuts : List (Option CutAt)) (back : awaited_before s cuts l ≤ awaited_epoch s l life 0 + 1) where
    abbrev g : Lived
    g = lived s.script l life seen files

    abbrev here : IsLifeInForm g
    here = (meant l life seen files life_is reads).0

    abbrev its : IsLifeOfSetting s ends g
    its = (meant l life seen files life_is reads).1

    abbrev n : ℕ
    n = blocks_per_epoch s

    blocks_are : (i : ℕ) → (at_step g (suc i)).blocks_per_epoch ≡ n
    unfolding at_step
    blocks_are i = refl

    abbrev LeftFirst : (before : List Entry) → ℕ → Ended NodeStop (Live U) → World → Type 0 → List Entry → Type 0
    LeftFirst = Left s Anything ends reshares history.consistent meant First FirstIn l life seen files life_is reads cuts back

    abbrev AfterIt : ℕ → Ended NodeStop (Live U) → World → Type 0 → List Entry → Type 0
    AfterIt = After s (ExactEntry s ends) ends reshares history.consistent meant SharesBetween SharesHere l life seen files life_is reads cuts back

    -- AN OPENING
    opened : (marks : Type 0) (w : World) (before : List Entry) → IsAtStep l life 0 s (come s before) → (come s before).cuts ≡ cuts → ExactBetween s w before → (f : Burn) (ended : Ended NodeStop (Live U)) (new : World)
        → EndsSo (node_opening (at_step g 0)) ended (record w { fuse = f }) new → (added : List Entry) → new.out ≡ w.out ++ added → (come s (before ++ added)).cuts ≡ (come s before).cuts
        → EachTold s (ExactEntry s ends) marks before added × AfterIt 0 ended new (KnownAfter s marks before added) (before ++ added)
    opened marks w before at are between f ended new run added out same_cuts = (
      opening_told s ends l ended added marks before at.step (subst (λ (ls : List Entry). BeginsOpened l ls ended) (append_cancel_left w.out lines.0 added (sym lines.1 ∙ out)) lines.2),
      by_end ended refl (KnownAfter s marks before added),
    )
      where
        lines : (added : List Entry) × (new.out ≡ w.out ++ added) × BeginsOpened l added ended
        lines = opened_in g ended w.out new.out (runs_say (on_devices (node_opening (at_step g 0))) ended (record w { fuse = f }) new run)

        by_end : (x : Ended NodeStop (Live U)) → ended ≡ x → (later : Type 0) → AfterIt 0 x new later (before ++ added)
        by_end (went end) is_end later =
            begun_left s ends form reshares history.consistent secrets l life seen files life_is reads here its cuts back w before at are between f ended new run added out same_cuts end is_end
        by_end (stopped stop) is_end later = tt
        by_end (broken cause) is_end later = λ at_cut is_cut there within.
            cut_opening s ends form reshares history.consistent secrets l life seen files life_is reads here its cuts back w before at are between f ended new run added out same_cuts cause is_end at_cut there within

    -- A STEP
    module _ (marks : Type 0) (i : ℕ) (one : script.Event) (is : slice_get life.events i ≡ Some one) (reached : IsReached life.cut (suc i)) (st : Live U) (w : World) (before : List Entry) (at : IsAtStep l life (suc i) s (come s before))
        (are : (come s before).cuts ≡ cuts) (first : FirstIn l life seen files life_is reads cuts back marks i st w before)
        (also : ExactHere s ends form reshares history.consistent secrets l life seen files life_is reads here its cuts back i st w before)
        (f : Burn) (ended : Ended NodeStop (Live U)) (new : World) (run : EndsSo (step_of g (suc i) one st) ended (record w { fuse = f }) new) (added : List Entry) (out : new.out ≡ w.out ++ added)
        (same_cuts : (come s (before ++ added)).cuts ≡ (come s before).cuts) where
      abbrev C : Fixed U
      C = at_step g (suc i)

      abbrev m : IsMessage g one
      m = message_in g one (event_in_form g here i one is)

      abbrev e : ℕ
      e = awaited_epoch s l life i

      abbrev Stored : OfShares
      Stored = SomeAt e (is_some (get w.held.secrets.shares e))

      going : IsGoing s ends l life seen files here its cuts back marks i st w.held (come s before)
      going = first.0

      recorded : IsFront s ends before → (round : Round) → st.participation.round ≡ Some round → IsRecordedTo s e round st
      recorded front round there =
          recorded_here s ends history l life seen files here its.none_found cuts back i one is reached st going.at going.of_round (logs_in (notes w.held)) going.carries.half.agreed.logs (first.1 front) round there

      quiet : AllByRecursion IsQuiet added
      quiet =
          let its_lines : AddsQuiet w.out new.out = step_is_quiet g (suc i) one st ended w.out new.out (runs_say (on_devices (step_of g (suc i) one st)) ended (record w { fuse = f }) new run) in
          subst (AllByRecursion IsQuiet) (append_cancel_left w.out its_lines.added added (sym its_lines.parts ∙ out)) its_lines.quiet

      -- WHERE A LAST BLOCK IS APPLIED
      module _ (number : ℕ) (made_it : IsMadeOf g.script number) (final : one ≡ event.Final number) (sent : m.message ≡ Finalized made_it.block) (applied : judged_block C made_it.block st ≡ Applied) where
        abbrev block : made.Block U
        block = made_it.block

        abbrev TakenLine : Entry → Type 0
        TakenLine = Tells (IsTakenShare C Stored block st w.held)

        abbrev Carries : ScriptBlock → Type 0
        Carries = CarriesNext s (seen_provided unit_spelling (provided_by s.script))

        abbrev Honest : Type 0
        Honest = Carries (seen_block unit_spelling block)

        -- what is known of where a line stands
        pub record IsPlaced (b : List Entry) (ended_epoch : ℕ) (so : EndsEpoch s (come s b) ended_epoch) : Type 0 where
          pub epoch : ended_epoch ≡ e
          pub delivers : block.height ≡ last n e
          pub honest : EndsHonestly s (come s b) ended_epoch so ↔ Honest
          pub part : life_follows s l life e ≡ false

        placed : (b : List Entry) → length (come s b).cuts ≡ l → (come s b).step ≡ suc i → (ended_epoch : ℕ) → (so : EndsEpoch s (come s b) ended_epoch) → IsPlaced b ended_epoch so
        placed b lives step ended_epoch so = record {
          epoch = sym same_epoch;
          delivers = delivered_so ∙ ap (last n) (sym same_epoch);
          honest = ((λ its_carries. subst (λ (o : Option ScriptBlock). IsSomeAnd o Carries) block_there its_carries), (λ its_carries. subst (λ (o : Option ScriptBlock). IsSomeAnd o Carries) (sym block_there) its_carries));
          part = ap (life_follows s l life) same_epoch ∙ ap (λ (k : ℕ). life_follows s k life ended_epoch) (sym lives) ∙ ap (λ (x : Life). life_follows s (length (come s b).cuts) x ended_epoch) (sym same_life) ∙ so.takes_part;
        }
          where
            same_life : so.life ≡ life
            same_life = some_is (sym so.life_is ∙ ap (life_at s) lives ∙ life_is)

            back_one : (k j : ℕ) → k ≡ suc j → j ≡ k - 1
            back_one k j same = omega (arith, same)

            same_epoch : e ≡ ended_epoch
            same_epoch =
                ap (λ (k : ℕ). awaited_epoch s k life i) (sym lives) ∙ ap (λ (x : Life). awaited_epoch s (length (come s b).cuts) x i) (sym same_life)
                ∙ ap (awaited_epoch s (length (come s b).cuts) so.life) (back_one (come s b).step i step) ∙ so.awaited

            same_event : ◌≡◌ {A = Option script.Event} (Some (event.Final number)) (Some (event.Final so.number))
            same_event =
                ap (λ (x : script.Event). Some x) (sym final) ∙ sym is ∙ ap (λ (x : Life). slice_get x.events i) (sym same_life) ∙ ap (event_of_step so.life) (sym step) ∙ so.event

            same_number : number ≡ so.number
            same_number = of_event same_event
              where
                of_event : ◌≡◌ {A = Option script.Event} (Some (event.Final number)) (Some (event.Final so.number)) → number ≡ so.number
                of_event same = cc

            block_there : numbered_block s so.number ≡ Some (seen_block unit_spelling block)
            block_there = ap (numbered_block s) (sym same_number) ∙ seen_at s form bytes number block made_it.is

            delivered_so : block.height ≡ last n ended_epoch
            delivered_so =
                subst (λ (o : Option ScriptBlock). IsSomeAnd o (λ b. b.height ≡ last n ended_epoch)) block_there so.delivers

        -- no share of the epoch itself is told
        none_told : block.height ≡ last n e → (lines : List Entry) → AllByRecursion TakenLine lines → TellsShare lines e → ⊥
        none_told delivers lines all tells = by_info (info_of block.payload) (all_of TakenLine lines (entry.Committed e (Some tells.0)) all tells.1).1
          where
            next_is : next_epoch C block ≡ e + 1
            next_is = ap (λ (k : ℕ). k + 1) (ap (λ (h : ℕ). epoch_of C.blocks_per_epoch h) delivers ∙ at_last)
              where
                low : (m k : ℕ) → 1 ≤ k → m ≤ m + k - 1
                low m k some = omega (arith, some)

                high : (m k : ℕ) → 1 ≤ k → m + k - 1 < m + k
                high m k some = omega (arith, some)

                some : (k : ℕ) → 2 ≤ k → 1 ≤ k
                some k long = omega (arith, long)

                at_last : epoch_of C.blocks_per_epoch (last n e) ≡ e
                at_last = subst (λ (k : ℕ). epoch_of k (last n e) ≡ e) (sym (blocks_are i)) (epoch_is n e (last n e) (low (e * n) n (some n here.long)) (high (e * n) n (some n here.long)))

            apart : (k : ℕ) → k ≡ e → k ≡ e + 1 → ⊥
            apart k one other = omega (arith, one, other)

            by_info : (o : Option (EpochInfo U)) → IsSomeAnd o (λ info. (info.epoch ≡ e) × (info.epoch ≡ next_epoch C block) × IsShareTaken C Stored st w.held info (Some tells.0) st.participation.stage) → ⊥
            by_info None none = absurd none
            by_info (Some info) so = apart info.epoch so.0 (so.1 ∙ next_is)

        -- what stands before the step stands before the line
        stands_then : block.height ≡ last n e → (passed : List Entry) → AllByRecursion TakenLine passed → (come s (before ++ passed)).cuts ≡ (come s before).cuts → (later : Type 0) → (later → marks) → (part : Part) (share : Option ℕ) (outcome : EpochOutcome)
            → StandsBy s before e part share marks outcome → StandsBy s (before ++ passed) e part share later outcome
        stands_then delivers passed all same its_marks known part share Success so = λ its. so (known its)
        stands_then delivers passed all same its_marks known part share Failure so = (
          λ told. so.0 (before_it told),
          λ some. later (so.1 some),
        )
          where
            before_it : HeldShare s (before ++ passed) e → HeldShare s before e
            before_it (inl handed) = inl handed
            before_it (inr tells) = elim (Contains-append_cases before passed (entry.Committed e (Some tells.0)) tells.1) [
              | inl earlier ↦ inr (tells.0, earlier)
              | inr here_it ↦ absurd (none_told delivers passed all (tells.0, here_it))
            ]

            later : HeldShare s before e ⊎ WasCutInto s (progress s before).cuts e → HeldShare s (before ++ passed) e ⊎ WasCutInto s (progress s (before ++ passed)).cuts e
            later (inl held) = inl (held_more s before passed e held)
            later (inr was) = inr (subst (λ (cs : List (Option CutAt)). WasCutInto s cs e) (cuts_as s before passed same) was)

        -- THE LINES, one by one
        last_told : (passed more : List Entry) (later : Type 0) → (later → marks) → (IsFront s ends (before ++ passed) → IsFront s ends before) → AllByRecursion TakenLine passed
            → length (come s (before ++ passed)).cuts ≡ l → (come s (before ++ passed)).cuts ≡ (come s before).cuts → (come s (before ++ passed)).step ≡ suc i
            → AtCommits (λ x. x ≡ set_up_last None before) (set_up_last None (before ++ passed)) more → AllByRecursion TakenLine more → AllByRecursion IsQuiet more → EachTold s (ExactEntry s ends) later (before ++ passed) more
        last_told passed [] later known earlier all lives same step at_it taken silent = tt
        last_told passed (line ∷ more) later known earlier all lives same step at_it taken silent = (
          line_told line at_it taken,
          subst (λ (b : List Entry). EachTold s (ExactEntry s ends) (later × IsKnownAt s (come s (before ++ passed)) line) b more) (sym longer)
              (last_told (passed ++ line ∷ []) more (later × IsKnownAt s (come s (before ++ passed)) line) (λ so. known so.0)
              (λ front. earlier (front_of s ends (before ++ passed) (line ∷ []) (subst (IsFront s ends) (sym longer) front))) (all_join TakenLine passed (line ∷ []) all (taken.0, tt))
              (ap length cuts_now ∙ lives) (cuts_now ∙ same) (ap (λ (p : Progress). p.step) read_more ∙ kept.1 ∙ step)
              (subst (λ (x : Option (ℕ × Part)). AtCommits (λ y. y ≡ set_up_last None before) x more) (sym last_now) at_it.1) taken.1 silent.1),
        )
          where
            longer : (before ++ passed) ++ line ∷ [] ≡ before ++ (passed ++ line ∷ [])
            longer = append_assoc before passed (line ∷ [])

            read_more : come s (before ++ (passed ++ line ∷ [])) ≡ read s (come s (before ++ passed)) line
            read_more = ap (come s) (sym longer) ∙ come_more s (before ++ passed) line

            kept : ((read s (come s (before ++ passed)) line).cuts ≡ (come s (before ++ passed)).cuts) × ((read s (come s (before ++ passed)) line).step ≡ (come s (before ++ passed)).step)
            kept = same_position s (come s (before ++ passed)) line silent.0

            cuts_now : (come s (before ++ (passed ++ line ∷ []))).cuts ≡ (come s (before ++ passed)).cuts
            cuts_now = ap (λ (p : Progress). p.cuts) read_more ∙ kept.0

            last_now : set_up_last None (before ++ (passed ++ line ∷ [])) ≡ last_line (set_up_last None (before ++ passed)) line
            last_now = ap (set_up_last None) (sym longer) ∙ fold-append last_line None (before ++ passed) (line ∷ [])

            committed : (epoch : ℕ) (share : Option ℕ) → set_up_last None (before ++ passed) ≡ set_up_last None before → IsTakenShare C Stored block st w.held epoch share
                → IsFront s ends ((before ++ passed) ++ line ∷ []) → IsExactLine s later (before ++ passed) (entry.Committed epoch share)
            committed epoch share at_commit is_taken front ended_epoch same_epoch ends_it =
                subst (λ (k : ℕ). IsSomeAnd (known_info s (k + 1)) (λ info. StandsSo s (before ++ passed) k share ItsHonest later info.outcome)) (sym where_it.epoch) (by_known (known_info s (e + 1)) stands)
              where
                ItsHonest : Type 0
                ItsHonest = EndsHonestly s (come s (before ++ passed)) ended_epoch ends_it

                where_it : IsPlaced (before ++ passed) ended_epoch ends_it
                where_it = placed (before ++ passed) lives step ended_epoch ends_it

                its_front : IsFront s ends before
                its_front = earlier (front_of s ends (before ++ passed) (line ∷ []) front)

                stands : IsSomeAnd (known_info s (e + 1)) (λ info. (part : Part) × (set_up_last None before ≡ Some (e, part)) × (IsSome share → Honest) × (Honest → StandsBy s before e part share marks info.outcome))
                stands =
                    line_stands s ends form bytes reshares history.consistent secrets l life seen files life_is reads here its cuts back marks i one is reached st w before going also number final block made_it.is
                    where_it.part applied where_it.delivers (recorded its_front) share
                    (subst (λ (k : ℕ). IsTakenShare C Stored block st w.held k share) (same_epoch ∙ ap (λ (k : ℕ). k + 1) where_it.epoch) is_taken)

                by_known : (o : Option Info) → IsSomeAnd o (λ info. (part : Part) × (set_up_last None before ≡ Some (e, part)) × (IsSome share → Honest) × (Honest → StandsBy s before e part share marks info.outcome))
                    → IsSomeAnd o (λ info. StandsSo s (before ++ passed) e share ItsHonest later info.outcome)
                by_known None none = absurd none
                by_known (Some info) (part, is_set_up, only, by_it) = (
                  part,
                  set_up_there e part (before ++ passed) (at_commit ∙ is_set_up),
                  (λ some_share. where_it.honest.1 (only some_share)),
                  (λ honest. stands_then where_it.delivers passed all same later known part share info.outcome (by_it (where_it.honest.0 honest))),
                )

            line_told : (x : Entry) → AtCommits (λ y. y ≡ set_up_last None before) (set_up_last None (before ++ passed)) (x ∷ more) → AllByRecursion TakenLine (x ∷ more)
                → IsFront s ends ((before ++ passed) ++ line ∷ []) → IsExactLine s later (before ++ passed) x
            line_told (entry.Committed epoch share) at_x taken_x = λ front. committed epoch share at_x.0 taken_x.0 front
            line_told x at_x taken_x = λ front. tt

      its_lines : EachTold s (ExactEntry s ends) marks before added
      its_lines = by_kind (commits_told s ends form reshares history.consistent secrets l life seen files life_is reads here its cuts back marks i one is reached st w before at are going also f ended new run added out same_cuts)
        where
          by_brought : (block : made.Block U) → m.message ≡ Finalized block → judged_block C block st ≡ Applied → AtCommits (λ x. x ≡ set_up_last None before) (set_up_last None before) added → BringsBlock g one m.message ⊎ BringsMail one m.message
              → EachTold s (ExactEntry s ends) marks before added
          by_brought block is_block applied commits (inr mail) = absurd (let wrong : ◌≡◌ {A = Message U} (Mailed mail.0) (Finalized block) = sym mail.1 ∙ is_block in cc)
          by_brought block is_block applied commits (inl (number, made_it, final, sent)) =
              subst (λ (b : List Entry). EachTold s (ExactEntry s ends) marks b added) (append-nil before)
              (last_told number made_it final sent (subst (λ (b : made.Block U). judged_block C b st ≡ Applied) (the_block (sym is_block ∙ sent)) applied) [] added marks (λ known. known)
              (subst (IsFront s ends) (append-nil before)) tt (subst (λ (b : List Entry). length (come s b).cuts ≡ l) (sym (append-nil before)) at.lives)
              (ap (λ (b : List Entry). (come s b).cuts) (append-nil before)) (subst (λ (b : List Entry). (come s b).step ≡ suc i) (sym (append-nil before)) at.step)
              (subst (λ (b : List Entry). AtCommits (λ x. x ≡ set_up_last None before) (set_up_last None b) added) (sym (append-nil before)) commits)
              (shares_told s ends form reshares history.consistent secrets l life seen files life_is reads here its cuts back marks i one is reached st w before at are going also f ended new run added out same_cuts made_it.block sent) quiet)
            where
              the_block : {x y : made.Block U} → ◌≡◌ {A = Message U} (Finalized x) (Finalized y) → x ≡ y
              the_block same = cc

          by_kind : ((block : made.Block U) × (m.message ≡ Finalized block) × (judged_block C block st ≡ Applied) × (is_last_height C block.height ≡ true)) × AtCommits (λ x. x ≡ set_up_last None before) (set_up_last None before) added
              ⊎ AtCommits Never (set_up_last None before) added → EachTold s (ExactEntry s ends) marks before added
          by_kind (inr never) = uncommitted_told s ends added (set_up_last None before) marks before never
          by_kind (inl ((block, is_block, applied, last_one), commits)) = by_brought block is_block applied commits (brings_so g one m.message m.brings)

    stepped : (marks : Type 0) (i : ℕ) (one : script.Event) (is : slice_get life.events i ≡ Some one) (reached : IsReached life.cut (suc i)) (st : Live U) (w : World) (before : List Entry) (at : IsAtStep l life (suc i) s (come s before))
        (are : (come s before).cuts ≡ cuts) (first : FirstIn l life seen files life_is reads cuts back marks i st w before)
        (also : ExactHere s ends form reshares history.consistent secrets l life seen files life_is reads here its cuts back i st w before)
        (f : Burn) (ended : Ended NodeStop (Live U)) (new : World) (run : EndsSo (step_of g (suc i) one st) ended (record w { fuse = f }) new) (added : List Entry) (out : new.out ≡ w.out ++ added)
        → LeftFirst before (suc i) ended new (KnownAfter s marks before added) (before ++ added)
        → EachTold s (ExactEntry s ends) marks before added × AfterIt (suc i) ended new (KnownAfter s marks before added) (before ++ added)
    stepped marks i one is reached st w before at are first also f ended new run added out left =
        (its_lines marks i one is reached st w before at are first also f ended new run added out left.0, by_end ended refl left (KnownAfter s marks before added))
      where
        by_end : (x : Ended NodeStop (Live U)) → ended ≡ x → LeftFirst before (suc i) x new (KnownAfter s marks before added) (before ++ added) → (later : Type 0) → AfterIt (suc i) x new later (before ++ added)
        by_end (went end) is_end its_left later =
            went_left s ends form reshares history.consistent secrets l life seen files life_is reads here its cuts back marks i one is reached st w before at are first.0 also f ended new run added out its_left.0 end is_end its_left.2.0.at
        by_end (stopped stop) is_end its_left later = tt
        by_end (broken cause) is_end its_left later = λ at_cut is_cut there within.
            cut_left s ends form reshares history.consistent secrets l life seen files life_is reads here its cuts back marks i one is reached st w before at are first.0 also f ended new run added out its_left.0 cause is_end at_cut there within

    -- WHAT THE CLAUSE ADDS
    pub exact_add : Adds s ends reshares history.consistent meant Anything First FirstIn (ExactEntry s ends) SharesBetween SharesHere l life seen files life_is reads cuts back
    exact_add = record {
      opening = λ marks w before at are first between reached f ended new run added out left. opened marks w before at are between f ended new run added out left.0;
      step = λ marks i one is reached st w before at are first also f ended new run added out left. stepped marks i one is reached st w before at are first also f ended new run added out left;
      over = λ marks st w b between are first also. over_left s ends form reshares history.consistent secrets l life seen files life_is reads here its cuts back st w b between are also;
      unstepped = λ marks i st w b at are first also at_cut is there none.
          unstepped_left s ends form reshares history.consistent secrets l life seen files life_is reads here its cuts back i st w b at are also at_cut there none;
      unopened = λ marks w new b at are first between same stays at_cut is.
          unopened_left s ends form reshares history.consistent secrets l life seen files life_is reads here its cuts back w new b at are between stays at_cut;
    }

    -- The law: a life leads on so.
    pub exact_leads : LeadsOn s (ExactEntry s ends) ends reshares history.consistent meant (BothBetween s ends reshares history.consistent meant Anything First FirstIn (ExactEntry s ends) SharesBetween SharesHere)
        (BothHere s ends reshares history.consistent meant Anything First FirstIn (ExactEntry s ends) SharesBetween SharesHere) l life seen files life_is reads cuts back
    exact_leads =
        both_leads s ends reshares history.consistent meant Anything First FirstIn (ExactEntry s ends) SharesBetween SharesHere l life seen files life_is reads cuts back
        (both_leads s ends reshares history.consistent meant Anything (BaseBetween s ends reshares history.consistent meant) (BaseHere s ends reshares history.consistent meant) Anything
        (RecordsBetween s ends reshares history meant (seen_at s form bytes)) (RecordsHere s ends reshares history meant (seen_at s form bytes)) l life seen files life_is reads cuts back
        (base_leads s ends reshares history.consistent meant l life seen files life_is reads cuts back) (records_add s ends reshares history meant (seen_at s form bytes) l life seen files life_is reads cuts back))
        exact_add
