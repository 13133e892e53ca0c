-- Each life records the chain's first logs, over devices that tell: its opening and each of its steps, wherever they end, and what it leaves to the lives behind it.
use Rattle.std.proofs.Common.{◌≡◌, ◌⊎◌, inl, inr, ◌<◌, ◌≤◌, ◌+◌, ◌*◌, ◌-◌, ◌/◌, ◌==◌, ◌++◌, ◌∷◌, [], ℕ, zero, suc, Bool, true, false, List, Option, Some, None, max, length, arith, refl, sym, ◌∙◌, ap, subst, add-one, append_assoc}
use Rattle.std.specs.Prelude.{is_some, slice_get, IfSome}
use Rattle.std.specs.FinMap.{entries, get}
use Rattle.std.specs.Option.{option_flatten}
use Rattle.std.proofs.Math.Nat.{suc-mul}
use Rattle.std.proofs.lemmas.Bool.{cases_lt}
use Rattle.std.proofs.lemmas.Bool.Decides.{nat_tests}
use Rattle.dkg_ceremony.specs.Schedule.{epoch_of, last, midpoint}
use Rattle.dkg_journal.specs.Names.{Files}
use Rattle.dkg_store.specs.Acts.{Ended, Held, World, notes, went}
use Rattle.dkg_store.specs.Noted.{Notes, logs_in}
use Rattle.dkg_store.specs.declared.recorded_log.RecordedLog.{RecordedLog}
use Rattle.dkg_types.specs.Blocks as made
use Rattle.dkg_infos.specs.Units.{unit_spelling}
use Rattle.dkg_infos.specs.declared.directory.Unit as directory
use Rattle.dkg_text.specs.declared.script.Event as script
use Rattle.dkg_text.specs.declared.script.Event.TheVariants as event
use Rattle.dkg_text.specs.declared.script.Life.{Life}
use Rattle.dkg_script.specs.Blocks.{numbered_block, delivered_number}
use Rattle.dkg_script.specs.Epochs.{alone}
use Rattle.dkg_script.specs.History.{WasSeen}
use Rattle.dkg_script.specs.Position.{awaited_before, awaited_epoch, awaited_height_after, begun, begun_before, cut_of, event_of_step, events_taken, life_follows}
use Rattle.dkg_script.specs.Progress.{Progress}
use Rattle.dkg_script.specs.Setting.{Setting, CutAt, blocks_per_epoch, is_oneshot, life_at}
use Rattle.dkg_script.specs.Views.{seen_block}
use Rattle.dkg_core.specs.Agreeing.{AreAgreed, CanRecord}
use Rattle.dkg_core.specs.Behind.{event_of}
use Rattle.dkg_core.specs.Courses.{EndsSo}
use Rattle.dkg_core.specs.Endings.{first_epoch}
use Rattle.dkg_core.specs.Fixed.{Fixed}
use Rattle.dkg_core.specs.Forms.{Applied, Judged, Passed, Refusal, judged_block}
use Rattle.dkg_core.specs.Laws.{reach_of}
use Rattle.dkg_core.specs.Live as core
use Rattle.dkg_core.specs.Live.{Finalized, Follows, Live, Mail, Message, NodeStop, Participation, Mailed, is_last_height}
use Rattle.dkg_laws.specs.LogsRecorded.{IsNotedNow}
use Rattle.dkg_core.specs.Node.{node_opening, node_step}
use Rattle.dkg_laws.specs.NodeThrough.{IsNodeThrough}
use Rattle.dkg_core.specs.Seen.{Seen}
use Rattle.dkg_core.specs.Through.{IsBlockThrough, IsEndThrough, IsLiveThrough}
use Rattle.dkg_core.proofs.Heights.{next_last}
use Rattle.dkg_laws.proofs.NodeKept.{node_steps_agree}
use Rattle.dkg_laws.proofs.NodeThrough.{node_steps_lead_through_over}
use Rattle.dkg_laws.proofs.RecordingLogs.{node_steps_record_logs}
use Rattle.dkg_lives.specs.Epochs.{IsLifeInForm, StandsInScript, any_shares}
use Rattle.dkg_lives.specs.Given.{Lived, at_step, blocks_in, lived}
use Rattle.dkg_promises.specs.SharesStand.{IsWholePast}
use Rattle.dkg_along.proofs.Alone.{epoch_alike, follows_alike}
use Rattle.dkg_along.proofs.Asking.{same_epoch}
use Rattle.dkg_lives.proofs.Awaiting.{HasHeight, IsReached, event_behind, has_height}
use Rattle.dkg_along.proofs.AwaitedRises.{awaited_begun, block_reach}
use Rattle.dkg_lives.proofs.Currently.{begun_behind}
use Rattle.dkg_along.proofs.FewPlayers.{own_fits}
use Rattle.dkg_lives.proofs.Former.{BringsBlock, BringsMail, IsMessage, IsMadeOf, brings_so, form_at, lacks_nobody, life_in, live_at, step_taken, through_at}
use Rattle.dkg_along.proofs.LifeSteps.{IsGoing, IsLifeOfSetting}
use Rattle.dkg_lives.proofs.LogsBehind.{LogsBehind, node_logs}
use Rattle.dkg_lives.proofs.NextLives.{GoesOn, TakesOver, applied_high, next_so}
use Rattle.dkg_promises.proofs.NotedFirst.{AreNoted, noted_same}
use Rattle.dkg_lives.proofs.OpeningsLeave.{opening_notes}
use Rattle.dkg_promises.proofs.RecordingSteps as steps
use Rattle.dkg_promises.proofs.RecordingSteps.{IsRecording, Saw, WasGiven}
use Rattle.dkg_lives.proofs.Started.{first_epoch_is}
use Rattle.dkg_lives.proofs.Stood.{step_stands}

abbrev U : Type 0
U = directory.Unit

some_is : {A : Type 0} {x y : A} → ◌≡◌ {A = Option A} (Some x) (Some y) → x ≡ y
some_is e = cc

none_some : {A : Type 0} {x : A} → ◌≡◌ {A = Option A} None (Some x) → ⊥
none_some e = cc

bools_apart : (t : Bool) → t ≡ true → t ≡ false → ⊥
bools_apart t x y = let wrong : true ≡ false = sym x ∙ y in cc

-- the height above an epoch's last one isn't above the next one's midpoint
first_low : (n height : ℕ) → 1 ≤ n → (height == last n (epoch_of n height)) ≡ true → height + 1 ≤ midpoint n (epoch_of n (height + 1))
first_low n height some test =
    subst (λ (x : ℕ). height + 1 ≤ midpoint n x) (sym (next_last n height some test))
    (low (epoch_of n height * n) ((epoch_of n height + 1) * n) n (n / 2) height (ap (λ (x : ℕ). x * n) (add-one (epoch_of n height)) ∙ suc-mul (epoch_of n height) n) (same height (last n (epoch_of n height)) test) some)
  where
    same : (a b : ℕ) → (a == b) ≡ true → a ≡ b
    same a b e = grind (arith, nat_tests)

    low : (m q n half h : ℕ) → q ≡ m + n → h ≡ m + n - 1 → 1 ≤ n → h + 1 ≤ q + half
    low m q n half h product at some = omega (arith, product, at, some)

below_some : {A : Type 0} (xs : List A) (k : ℕ) (x : A) → slice_get xs k ≡ Some x → k < length xs
below_some [] k x is = absurd (none_some is)
below_some (y ∷ ys) zero x is = omega arith
below_some (y ∷ ys) (suc k) x is = let rest = below_some ys k x is in omega (arith, rest)

item_behind : {A : Type 0} (xs : List A) (x : A) (more : List A) → slice_get (xs ++ x ∷ more) (length xs) ≡ Some x
item_behind [] x more = refl
item_behind (y ∷ ys) x more = item_behind ys x more

module _ (s : Setting) (ends : List (Option CutAt)) (whole : IsWholePast s ends) (l : ℕ) (life : Life) (seen : Held → Seen) (files : Files) where
  abbrev g : Lived
  g = lived s.script l life seen files

  module _ (here : IsLifeInForm g) (meant : IsLifeOfSetting s ends g) (cuts : List (Option CutAt)) (never_back : awaited_before s cuts l ≤ awaited_epoch s l life 0 + 1)
      (seen_at : (number : ℕ) (b : made.Block U) → slice_get (blocks_in s.script) number ≡ Some b → numbered_block s number ≡ Some (seen_block unit_spelling b)) where
    abbrev n : ℕ
    n = blocks_per_epoch s

    abbrev e : ℕ → ℕ
    e i = awaited_epoch s l life i

    abbrev h : ℕ → ℕ
    h i = awaited_height_after s l life i

    abbrev b : ℕ → ℕ
    b i = begun s cuts l i

    abbrev c : ℕ → Fixed U
    c i = at_step g i

    abbrev logs : World → Notes RecordedLog
    logs w = logs_in (notes w.held)

    some : 1 ≤ n
    some = one n here.long
      where
        one : (n : ℕ) → 2 ≤ n → 1 ≤ n
        one n long = omega (arith, long)

    reshares : is_oneshot s ≡ false
    reshares = ap is_some here.form.reshares

    life_is : life_at s l ≡ Some life
    life_is = here.life_is

    no_sync : life.sync ≡ None
    no_sync = (life_in g here).no_sync

    -- AN OPENING, wherever it ends
    pub opening_records : (w : World) → AreNoted s (begun_before s cuts l) (WasSeen s ends l) (logs w) → (ended : Ended NodeStop (Live U)) (new : World) → EndsSo (node_opening (c 0)) ended w new → IsRecording s ends l life cuts 0 (logs new)
    opening_records w noted ended new run =
        steps.opening_records s ends whole l life seen files here meant.none_found cuts never_back (logs w) (logs new) noted
        (λ key left. opening_notes (c 0) (form_at g here 0) w ended new run key (under (first_epoch (c 0)) (e 0) (b 0) key.0 (first_epoch_is g here 0 ∙ sym (epoch_alike s l life no_sync meant.none_found 0))
        (awaited_begun s reshares l life life_is cuts some never_back 0) left))
      where
        under : (x y z k : ℕ) → x ≡ y → y ≤ z → z < k + 2 → x - 1 ≤ k
        under x y z k one two three = omega (arith, one, two, three)

    -- A STEP
    module _ (marks : Type 0) (i : ℕ) (its : script.Event) (is : slice_get life.events i ≡ Some its) (reached : IsReached life.cut (suc i)) (st : Live U) (w : World) (p : Progress)
        (going : IsGoing s ends l life seen files here meant cuts never_back marks i st w.held p) (recording : IsRecording s ends l life cuts i (logs w)) (ended : Ended NodeStop (Live U)) (new : World) (m : IsMessage g its)
        (run : EndsSo (node_step (c (suc i)) (event_of m.message) st) ended w new) where
      abbrev C : Fixed U
      C = c (suc i)

      live : IsLiveThrough C any_shares st
      live = live_at g i (suc i) st going.at.live

      can : CanRecord C st m.message
      can = record { acks = meant.acks (suc i); dealing = own_fits g here (suc i) st live going.in_bound; brings = meant.brings i its is m }

      agreed : AreAgreed st.records w.held
      agreed = going.carries.half.agreed

      noted_now : reach_of C m.message ≤ b (suc i) - 1 → (key : ℕ × ℕ) → b (suc i) < key.0 + 2 → IsNotedNow C st m.message key (get (logs w) key) (get (logs new) key)
      noted_now low key now = node_steps_record_logs C st m.message ended (b (suc i) - 1) w new low agreed can run key (omega (arith, now))

      abbrev Any : Type 0
      Any = AreNoted s (b (suc i)) (Saw s ends l life i) (logs new)

      abbrev Done : Live U → Type 0
      Done end = ended ≡ went end → IsRecording s ends l life cuts (suc i) (logs new)

      -- where it went
      module _ (end : Live U) (went_to : ended ≡ went end) where
        run_to : EndsSo (node_step C (event_of m.message) st) (went end) w new
        run_to = subst (λ (x : Ended NodeStop (Live U)). EndsSo (node_step C (event_of m.message) st) x w new) went_to run

        node : IsNodeThrough C any_shares st m.message (Some w.held) end (Some new.held)
        node = node_steps_lead_through_over C any_shares st m.message (went end) w new (through_at g here (suc i)) (lacks_nobody g (suc i)) (λ h epoch found. tt) (step_taken g its m.message m.brings C st) live going.at.active run_to

        end_memory : end.records.logs ≡ entries (logs new)
        end_memory = (node_steps_agree C st end m.message w new agreed can run_to).logs

        behind : StandsInScript g (suc i) end
        behind = step_stands g here i its is reached m st live going.at.stands (Some w.held) end (Some new.held) node

        same_part : end.participation ≡ (node.mid).participation
        same_part = ap (λ (x : Live U). x.participation) node.same

        -- it takes part in the same epoch on, or stands at the first height of another
        goes : (block : made.Block U) → m.message ≡ Finalized block → h (suc i) ≡ max (h i) (block.height + 1) → core.awaited_height st ≡ h i → life_follows s l life (e (suc i)) ≡ false
            → (e (suc i) ≡ e i) ⊎ (h (suc i) ≤ midpoint n (e (suc i)))
        unfolding at_step
        goes block sent next stands part = by_next (next_so C any_shares st m.message (Some w.held) node.mid (Some new.held) (form_at g here (suc i)) live node.next)
          where
            apart : (node.mid).participation.stage ≡ Follows → ⊥
            apart stage =
                bools_apart (life_follows s l life (e (suc i)))
                (follows_alike s l life no_sync meant.none_found (e (suc i)) ∙ ap (life_follows (alone s.script) l life) (epoch_alike s l life no_sync meant.none_found (suc i)) ∙ behind.blind (ap (λ (x : Participation U). x.stage) same_part ∙ stage)) part

            the_block : {x y : made.Block U} → ◌≡◌ {A = Message U} (Finalized x) (Finalized y) → x ≡ y
            the_block e = cc

            by_next : GoesOn C st m.message node.mid ⊎ TakesOver C any_shares st m.message (Some w.held) node.mid (Some new.held) → (e (suc i) ≡ e i) ⊎ (h (suc i) ≤ midpoint n (e (suc i)))
            by_next (inl on) = inl (
                epoch_alike s l life no_sync meant.none_found (suc i) ∙ same_epoch g here i its is m st live going.at.stands (Some w.held) end (Some new.held) node behind on apart
                ∙ sym (epoch_alike s l life no_sync meant.none_found i))
            by_next (inr over) =
                let same_block : block ≡ over.block = the_block (sym sent ∙ over.is) in
                inr (at_first (subst (λ (x : made.Block U). judged_block C x st ≡ Applied) (sym same_block) over.applied) (subst (λ (x : made.Block U). is_last_height C x.height ≡ true) (sym same_block) over.last))
              where
                at_first : judged_block C block st ≡ Applied → is_last_height C block.height ≡ true → h (suc i) ≤ midpoint n (e (suc i))
                at_first applied at_last =
                    let high : h i ≤ block.height = subst (λ (x : ℕ). x ≤ block.height) stands (applied_high C block st applied) in
                    let same : h (suc i) ≡ block.height + 1 = top (h (suc i)) (h i) (block.height) next high in
                    subst (λ (x : ℕ). x ≤ midpoint n (epoch_of n x)) (sym same) (first_low n block.height some at_last)
                  where
                    top : (x y z : ℕ) → x ≡ max y (z + 1) → y ≤ z → x ≡ z + 1
                    top x y z is low = omega (arith, is, low)

      -- A MESSAGE
      module _ (mail : Mail U) (sent : m.message ≡ Mailed mail) (none : delivered_number its ≡ None) where
        same_height : h (suc i) ≡ h i
        same_height = event_behind s l life i its is reached none

        same_notes : (key : ℕ × ℕ) → b (suc i) < key.0 + 2 → get (logs new) key ≡ get (logs w) key
        same_notes key now =
            subst (λ (x : Message U). IsNotedNow C st x key (get (logs w) key) (get (logs new) key)) sent
            (noted_now (subst (λ (x : Message U). reach_of C x ≤ b (suc i) - 1) (sym sent) (omega arith)) key now)

        given_before : (epoch height : ℕ) → WasGiven s l life (suc i) epoch height → WasGiven s l life i epoch height
        given_before epoch height given = by_step (cases_lt given.step (suc i))
          where
            by_step : (given.step < suc i) ⊎ (suc i ≤ given.step) → WasGiven s l life i epoch height
            by_step (inl before) = record {
              step = given.step;
              upto = omega (arith, before);
              number = given.number;
              block = given.block;
              is = given.is;
              block_is = given.block_is;
              height_is = given.height_is;
              awaited = given.awaited;
              took_part = given.took_part;
            }
            by_step (inr at_least) =
                let of : given.step ≡ suc i = (let most = given.upto in omega (arith, at_least, most)) in
                absurd (none_some (sym none ∙ ap delivered_number (some_is (sym is ∙ ap (event_of_step life) (sym of) ∙ given.is))))

        by_mail : IsRecording s ends l life cuts (suc i) (logs new)
        by_mail = steps.mail_records s ends whole l life seen files here meant.none_found cuts never_back i its is reached st going.at going.of_round (logs w) agreed.logs recording (logs new) same_height given_before same_notes

        mail_any : Any
        mail_any = noted_same s (b (suc i)) (b (suc i)) (Saw s ends l life (suc i)) (Saw s ends l life i) (logs new) (logs new) (omega arith) (λ epoch height saw. more epoch height saw) (λ key now. refl) by_mail.noted
          where
            more : (epoch height : ℕ) → Saw s ends l life i epoch height → Saw s ends l life (suc i) epoch height
            more epoch height (inl seen) = inl seen
            more epoch height (inr given) = inr (record {
              step = given.step;
              upto = let low = given.upto in omega (arith, low);
              number = given.number;
              block = given.block;
              is = given.is;
              block_is = given.block_is;
              height_is = given.height_is;
              awaited = given.awaited;
              took_part = given.took_part;
            })

      -- A BLOCK
      module _ (number : ℕ) (made_it : IsMadeOf s.script number) (final : its ≡ event.Final number) (sent : m.message ≡ Finalized made_it.block) where
        abbrev block : made.Block U
        block = made_it.block

        its_is : slice_get life.events i ≡ Some (event.Final number)
        its_is = is ∙ ap (λ (x : script.Event). Some x) final

        there : numbered_block s number ≡ Some (seen_block unit_spelling block)
        there = seen_at number block made_it.is

        its_height : HasHeight s number block
        its_height = has_height s number block made_it.line made_it.line_is made_it.is

        low : reach_of C (Finalized block) ≤ b (suc i) - 1
        unfolding at_step
        low = block_reach s reshares l life life_is cuts some never_back i number block its_height its_is reached

        noted_by : (key : ℕ × ℕ) → b (suc i) < key.0 + 2 → IsNotedNow C st (Finalized block) key (get (logs w) key) (get (logs new) key)
        noted_by key now = subst (λ (x : Message U). IsNotedNow C st x key (get (logs w) key) (get (logs new) key)) sent (noted_now (subst (λ (x : Message U). reach_of C x ≤ b (suc i) - 1) (sym sent) low) key now)

        block_any : Any
        block_any = steps.block_notes s ends whole l life seen files here meant.none_found cuts never_back i its is reached st going.at going.of_round (logs w) agreed.logs recording number block its_is there (logs new) noted_by

        by_block : (end : Live U) → ended ≡ went end → IsRecording s ends l life cuts (suc i) (logs new)
        by_block end went_to =
            steps.block_records s ends whole l life seen files here meant.none_found cuts never_back i its is reached st going.at going.of_round (logs w) agreed.logs recording number block its_is there (logs new) noted_by
            end (subst (λ (x : Message U). LogsBehind C st x end) sent (node_logs C any_shares st (Some w.held) end (Some new.held) m.message (node end went_to))) (end_memory end went_to)
            (judged (judged_block C block st) refl (subst (λ (x : Message U). IsEndThrough C any_shares st x (Some w.held) (node end went_to).mid (Some new.held)) sent ((node end went_to).next).is))
            (goes end went_to block sent
            (steps.next_height s ends whole l life seen files here meant.none_found cuts never_back i its is reached st going.at going.of_round (logs w) agreed.logs recording number block its_is there)
            (steps.stands_at s ends whole l life seen files here meant.none_found cuts never_back i its is reached st going.at going.of_round (logs w) agreed.logs recording))
          where
            judged : (j : Judged) → judged_block C block st ≡ j → IsBlockThrough C any_shares block st (Some w.held) j (node end went_to).mid (Some new.held) → (judged_block C block st ≡ Passed) ⊎ (judged_block C block st ≡ Applied)
            judged (Refusal fault) of none = absurd none
            judged Passed of same = inl of
            judged Applied of next = inr of

      -- ANY, wherever it ends, and where it is completed
      pub step_notes : Any
      step_notes = by_brought (brings_so g its m.message m.brings)
        where
          by_brought : BringsBlock g its m.message ⊎ BringsMail its m.message → Any
          by_brought (inl brought) = block_any brought.0 brought.1 brought.2 brought.3
          by_brought (inr mail) = mail_any mail.0 mail.1 mail.2

      pub step_records : (end : Live U) → ended ≡ went end → IsRecording s ends l life cuts (suc i) (logs new)
      step_records end went_to = by_brought (brings_so g its m.message m.brings)
        where
          by_brought : BringsBlock g its m.message ⊎ BringsMail its m.message → IsRecording s ends l life cuts (suc i) (logs new)
          by_brought (inl brought) = by_block brought.0 brought.1 brought.2 brought.3 end went_to
          by_brought (inr mail) = by_mail mail.0 mail.1 mail.2

-- BEHIND A LIFE that ended so, where so many of its steps were completed at least
pub left_noted : (s : Setting) (ends cuts more : List (Option CutAt)) (l : ℕ) (life : Life) (end : Option CutAt) (m : Notes RecordedLog) (taken done : ℕ) → is_oneshot s ≡ false → life_at s l ≡ Some life → length cuts ≡ l
    → ends ≡ (cuts ++ end ∷ []) ++ more → events_taken life end ≡ taken → ((step : ℕ) → step ≤ length life.events → IfSome end (λ at. step < at.step) → step ≤ done) → AreNoted s (begun s cuts l taken) (Saw s ends l life done) m
    → AreNoted s (begun_before s (cuts ++ end ∷ []) (l + 1)) (WasSeen s ends (l + 1)) m
left_noted s ends cuts more l life end m taken done reshares life_is lives is takes upto noted =
    noted_same s (begun s cuts l taken) (begun_before s (cuts ++ end ∷ []) (l + 1)) (Saw s ends l life done) (WasSeen s ends (l + 1)) m m low was (λ key now. refl) noted
  where
    low : begun s cuts l taken ≤ begun_before s (cuts ++ end ∷ []) (l + 1)
    low = same_or (begun s cuts l taken) (begun_before s (cuts ++ end ∷ []) (l + 1))
        (sym (ap (begun s cuts l) takes) ∙ sym (begun_behind s reshares cuts l life end lives life_is) ∙ ap (begun_before s (cuts ++ end ∷ [])) (sym (add-one l)))
      where
        same_or : (x y : ℕ) → x ≡ y → x ≤ y
        same_or x y is = omega (arith, is)

    its_end : cut_of ends l ≡ end
    its_end = ap option_flatten (ap (λ (xs : List (Option CutAt)). slice_get xs l) (is ∙ append_assoc cuts (end ∷ []) more) ∙ ap (slice_get (cuts ++ end ∷ more)) (sym lives) ∙ item_behind cuts end more)

    was : (epoch height : ℕ) → WasSeen s ends (l + 1) epoch height → Saw s ends l life done epoch height
    was epoch height seen = by_life (cases_lt seen.before l)
      where
        by_life : (seen.before < l) ⊎ (l ≤ seen.before) → Saw s ends l life done epoch height
        by_life (inl earlier) = inl (record {
          before = seen.before;
          earlier = earlier;
          life = seen.life;
          life_is = seen.life_is;
          step = seen.step;
          number = seen.number;
          block = seen.block;
          event = seen.event;
          completed = seen.completed;
          block_is = seen.block_is;
          height_is = seen.height_is;
          awaited = seen.awaited;
          took_part = seen.took_part;
        })
        by_life (inr least) = inr (record {
          step = seen.step;
          upto = upto seen.step (within life seen.step event_here) (subst (λ (o : Option CutAt). IfSome o (λ at. seen.step < at.step)) (ap (cut_of ends) of ∙ its_end) seen.completed);
          number = seen.number;
          block = seen.block;
          is = event_here;
          block_is = seen.block_is;
          height_is = seen.height_is;
          awaited = subst (λ (x : Life). awaited_epoch s l x (seen.step - 1) ≡ epoch) same_life (subst (λ (x : ℕ). awaited_epoch s x seen.life (seen.step - 1) ≡ epoch) of seen.awaited);
          took_part = subst (λ (x : Life). life_follows s l x epoch ≡ false) same_life (subst (λ (x : ℕ). life_follows s x seen.life epoch ≡ false) of seen.took_part);
        })
          where
            of : seen.before ≡ l
            of = let low = seen.earlier in omega (arith, least, low)

            same_life : seen.life ≡ life
            same_life = some_is (sym seen.life_is ∙ ap (life_at s) of ∙ life_is)

            event_here : event_of_step life seen.step ≡ Some (event.Final seen.number)
            event_here = ap (λ (x : Life). event_of_step x seen.step) (sym same_life) ∙ seen.event

            within : (its : Life) (step : ℕ) → event_of_step its step ≡ Some (event.Final seen.number) → step ≤ length its.events
            within its zero is = absurd (none_some is)
            within its (suc k) is = let low = below_some its.events k (event.Final seen.number) is in omega (arith, low)
