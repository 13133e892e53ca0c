-- A life over many epochs keeps the dealings that are current: its opening and each of its steps.
use Rattle.std.proofs.Common.{◌≡◌, ◌⊎◌, inl, inr, ℕ, suc, ◌+◌, ◌-◌, ◌<◌, ◌≤◌, List, [], ◌∷◌, Option, Some, None, Bool, true, false, refl, sym, ◌∙◌, ap, subst, length, arith}
use Rattle.std.specs.Prelude.{is_some, slice_get, Ok, ◌==◌, ◌^◌}
use Rattle.std.specs.FinMap.{get}
use Rattle.std.specs.List.{AllByRecursion, list_any}
use Rattle.std.specs.Option.{option_map_or}
use Rattle.std.proofs.lemmas.Bool.{and_parts, eqb-true}
use Rattle.dkg_ceremony.specs.Dealings.{dealing_of}
use Rattle.dkg_ceremony.specs.Schedule.{epoch_of, midpoint}
use Rattle.dkg_ceremony.specs.declared.dealer_log.DealerLog.{DealerLog}
use Rattle.dkg_ceremony.specs.declared.round.RoundParts.{RoundParts as Round}
use Rattle.dkg_journal.specs.Names.{Files}
use Rattle.dkg_journal.specs.Records.{entries}
use Rattle.dkg_types.specs.Blocks as made
use Rattle.dkg_infos.specs.declared.directory.Unit as directory
use Rattle.dkg_infos.specs.declared.entry.Restored.{Restored}
use Rattle.dkg_text.specs.declared.script.Event as script
use Rattle.dkg_text.specs.declared.script.Event.TheVariants as event
use Rattle.dkg_text.specs.declared.script.Life.{Life}
use Rattle.dkg_store.specs.Acts.{Held, World, Ended, went, stopped, broken, notes}
use Rattle.dkg_store.specs.Events.{IsEvent}
use Rattle.dkg_store.specs.declared.event.Event.TheVariants as events
use Rattle.dkg_store.specs.declared.recorded_log.RecordedLog.{RecordedLog}
use Rattle.dkg_store.specs.Noted.{logs_in}
use Rattle.dkg_store.specs.Recorded.{restored_list}
use Rattle.dkg_script.specs.Consistent.{IsConsistentScript}
use Rattle.dkg_script.specs.Blocks.{delivered_number, round_at}
use Rattle.dkg_script.specs.Due.{IsDueNow, IsDueEvent, WroteAck, is_ack}
use Rattle.dkg_script.specs.Epochs.{alone}
use Rattle.dkg_script.specs.Inclusion.{IsEventIn}
use Rattle.dkg_script.specs.Kept.{AllCurrent, Gives}
use Rattle.dkg_script.specs.LogsKnown.{LogsKnown}
use Rattle.dkg_script.specs.OwnMarks.{IsKnownInStep, IsOwnMarkKnown}
use Rattle.dkg_script.specs.Position.{awaited_before, awaited_epoch, awaited_height_after, begun, begun_before, event_of_step, life_follows}
use Rattle.dkg_script.specs.Progress.{Progress}
use Rattle.dkg_script.specs.Setting.{Setting, CutAt, blocks_per_epoch, found, is_oneshot, life_at, me}
use Rattle.dkg_core.specs.Agreeing.{AreAgreed, BringsRecords, CanRecord}
use Rattle.dkg_core.specs.Behind.{event_of}
use Rattle.dkg_core.specs.Courses.{EndsSo}
use Rattle.dkg_core.specs.Fixed.{Fixed}
use Rattle.dkg_core.specs.Forms.{Applied, IsNodeBegun, held_behind, judged_block}
use Rattle.dkg_core.specs.Heard.{recovered_in}
use Rattle.dkg_core.specs.Laws as node
use Rattle.dkg_core.specs.Laws.{IsOther, reach_of}
use Rattle.dkg_core.specs.Live as core
use Rattle.dkg_core.specs.Live.{Stage, Deals, Includes, Follows, Ends, Finalized, Live, Mail, Message, NodeStop, Participation, Records, Peer, NextLog, ReleaseLog, EpochInfoOf, Feed, Over, Cancel, Work, Mailed, phase_of}
use Rattle.dkg_core.specs.Blocks.{is_in_window_in}
use Rattle.dkg_core.specs.Sources.{Tip}
use Rattle.dkg_ceremony.specs.declared.phase.Phase.{Phase}
use Rattle.dkg_ceremony.specs.declared.phase.Phase.TheVariants.{Early, Midpoint, Late}
use Rattle.dkg_core.specs.Meant.{ReadsRecords}
use Rattle.dkg_core.specs.Node.{node_opening, node_step}
use Rattle.dkg_laws.specs.NodeKept.{BeginsRestored}
use Rattle.dkg_core.specs.Seen.{Seen}
use Rattle.dkg_core.specs.Setup.{WasCommitted}
use Rattle.dkg_laws.specs.LogsRecorded.{IsNotedNow, IsRecordedNow}
use Rattle.dkg_laws.specs.NodeThrough.{IsActiveThrough, IsNodeThrough}
use Rattle.dkg_core.specs.Through.{IsLiveThrough, IsTakenThrough, unasked}
use Rattle.dkg_core.specs.Endings.{first_epoch, stage_in}
use Rattle.dkg_core.specs.Transcripts.{IfWentTo}
use Rattle.dkg_laws.proofs.NodeKept.{node_openings_agree, node_openings_restore, node_steps_agree}
use Rattle.dkg_laws.proofs.Openings.{node_openings_lead_over}
use Rattle.dkg_laws.proofs.NodeThrough.{node_openings_through, node_steps_lead_through_over}
use Rattle.dkg_laws.proofs.RecordingLogs.{node_steps_record_logs}
use Rattle.dkg_lives.specs.Epochs.{IsAtEvent, IsLifeInForm, any_shares}
use Rattle.dkg_lives.specs.Given.{Lived, at_step, lived}
use Rattle.dkg_along.proofs.Alone.{epoch_alike, follows_alike, height_alike}
use Rattle.dkg_lives.proofs.Awaiting.{HasHeight, IsReached, has_height}
use Rattle.dkg_along.proofs.BlockLogs.{known_in_step}
use Rattle.dkg_lives.proofs.BlocksLeave.{gives_no_other}
use Rattle.dkg_lives.proofs.Currently.{IsGrown, RestsIn, begun_more}
use Rattle.dkg_along.proofs.Drawn.{HasRoundOf, begun_round, step_round}
use Rattle.dkg_along.proofs.FewPlayers.{HasFew, begun_few, next_few, own_fits}
use Rattle.dkg_lives.proofs.Former.{Brings, IsMadeOf, IsMessage, event_in_form, form_at, lacks_nobody, life_in, live_at, step_taken, through_at}
use Rattle.dkg_lives.proofs.Heard.{IsSameStep, Knows, ValidAt}
use Rattle.dkg_along.proofs.Marked.{still_known}
use Rattle.dkg_along.proofs.MarksAt.{gives_recorded}
use Rattle.dkg_lives.proofs.NextLives.{GoesOn, IsApplied, TakesOver, applied_so, has_round, next_so, with_round}
use Rattle.dkg_lives.proofs.NoOthers.{IsOwnDealt}
use Rattle.dkg_along.proofs.KeptOpenings.{IsOpenedBy, Opens, opening_kept}
use Rattle.dkg_lives.proofs.OpeningsLeave.{opening_gives, opening_keeps, opening_logs, opening_unsaid, opening_whole}
use Rattle.dkg_along.proofs.Owed.{no_event_due, owed}
use Rattle.dkg_lives.proofs.PeerForms.{IsUndue}
use Rattle.dkg_along.proofs.Plays.{HoldsKnown, PlaysWhere, begun_plays, begun_valid, deals_early, plays_on, seated_plays, seated_valid}
use Rattle.dkg_along.proofs.AwaitedRises.{awaited_begun, begun_rises, block_current, block_reach, is_current, mail_begun, mail_epoch}
use Rattle.dkg_along.proofs.Seated.{own_valid}
use Rattle.dkg_lives.proofs.Started.{first_epoch_is}
use Rattle.dkg_along.proofs.KeptSteps.{AnyCall, CarriesAt, IsAtStep, IsBehindStep, IsLeftBy, IsSaved, Reaches, WithinCall, block_kept, mail_kept, message_kept, reaches_as}
use Rattle.dkg_lives.proofs.Stood.{begun_stands, step_stands}

abbrev U : Type 0
U = directory.Unit

some_is : {A : Type 0} {x y : A} → ◌≡◌ {A = Option A} (Some x) (Some y) → x ≡ y
some_is e = cc

-- the acknowledgement that was due is written, where this is known of logs
abbrev pub IsSettled : Type 0 → Setting → Progress → Type 0
IsSettled marks s q = marks → IsDueNow s q → WroteAck q.written

-- WHAT A LIFE IS GIVEN, of this setting: its script is consistent where its first lives ended so
pub record IsLifeOfSetting (s : Setting) (ends : List (Option CutAt)) (g : Lived) : Type 0 where
  pub script_is : g.script ≡ s.script
  pub consistent : IsConsistentScript s ends
  pub none_found : found s g.number ≡ None
  pub reads : ReadsRecords g.seen
  -- its own acknowledgements, and what its events bring, fit a record
  pub acks : (n : ℕ) (round : Round) (public : List ℕ) → IsEvent (events.Ack (at_step g n).me ((at_step g n).rules.ack_of (at_step g n).me round (at_step g n).me public))
  pub brings : (i : ℕ) (its : script.Event) → slice_get g.life.events i ≡ Some its → (m : IsMessage g its) → BringsRecords (at_step g (suc i)) m.message

module _ (s : Setting) (ends : List (Option CutAt)) (l : ℕ) (life : Life) (seen : Held → Seen) (files : Files) where
  abbrev g : Lived
  g = lived s.script l life seen files

  module _ (here : IsLifeInForm g) (meant : IsLifeOfSetting s ends g) (cuts : List (Option CutAt)) (never_back : awaited_before s cuts l ≤ awaited_epoch s l life 0 + 1) where
    abbrev n : ℕ
    n = blocks_per_epoch s

    some : 1 ≤ n
    some = one n here.long
      where
        one : (n : ℕ) → 2 ≤ n → 1 ≤ n
        one n long = omega (arith, long)

    reshares : is_oneshot s ≡ false
    reshares = ap is_some here.form.reshares

    life_is : life_at s l ≡ Some life
    life_is = here.life_is

    abbrev e : ℕ → ℕ
    e i = awaited_epoch s l life i

    abbrev b : ℕ → ℕ
    b i = begun s cuts l i

    abbrev c : ℕ → Fixed U
    c i = at_step g i

    no_sync : life.sync ≡ None
    no_sync = (life_in g here).no_sync

    knows : (i : ℕ) → Knows (c i) s
    unfolding at_step
    knows i = record { me_is = refl; limit_is = rw here.form.reshares refl; rules_are = refl }

    -- A STATE behind the first i events, up to which this is known of logs
    pub record IsGoing (marks : Type 0) (i : ℕ) (st : Live U) (h : Held) (p : Progress) : Type 0 where
      pub carries : CarriesAt (c i) (b i) (e i) l st h s p
      pub at : IsAtEvent g i st
      pub of_round : HasRoundOf s st
      pub in_bound : HasFew st
      pub plays : marks → PlaysWhere s st
      pub logs : marks → LogsKnown s (b i) p.recorded (logs_in (notes h))

    -- its round is that of the awaited epoch
    module _ (i : ℕ) (st : Live U) (at : IsAtEvent g i st) (of_round : HasRoundOf s st) (round : Round) (is : st.participation.round ≡ Some round) where
      number_is : round.number ≡ e i
      number_is = ((at.live).stands).numbered round is ∙ at.stands.epoch (with_round (c i) (unasked st) round (at.live).stands is) ∙ sym (epoch_alike s l life no_sync meant.none_found i)

      round_is : round_at s (e i) ≡ Some round
      round_is = ap (round_at s) (sym number_is) ∙ of_round round is

    -- the same memory at the next step
    over : (i : ℕ) (st : Live U) (h : Held) (p : Progress) → CarriesAt (c i) (b i) (e i) l st h s p → CarriesAt (c (suc i)) (b i) (e i) l st h s p
    over i st h p carries = record {
      half = record { knows = knows (suc i); agreed = carries.half.agreed; are = carries.half.are; current = carries.half.current; in_round = carries.half.in_round; valid = carries.half.valid };
      opened = carries.opened;
      live = live_at g i (suc i) st carries.live;
      active = carries.active;
    }

    -- what the devices hold of an epoch that is current
    holds : (i : ℕ) (h : Held) (q : Progress) (epoch : ℕ) → b i < epoch + 2 → AllCurrent (b i) (Gives (recovered_in h)) q.recorded → LogsKnown s (b i) q.recorded (logs_in (notes h)) → HoldsKnown s q.recorded h epoch
    holds i h q epoch now given logs = record {
      dealings = gives_recorded (b i) epoch (recovered_in h) q.recorded now given;
      logs = λ dealer noted there. logs (epoch, dealer) noted now there;
    }

    -- A STEP

    pub record StepLeaves (marks : Type 0) (i : ℕ) (ended : Ended NodeStop (Live U)) (h : Held) (p q : Progress) : Type 0 where
      pub cuts_are : q.cuts ≡ p.cuts
      pub step : q.step ≡ p.step
      pub saved : IsSaved WithinCall (b (suc i)) h s q
      pub logs : marks → IsKnownInStep s q → LogsKnown s (b (suc i)) q.recorded (logs_in (notes h))
      pub went : IfWentTo ended (λ end. IsGoing (marks × IsKnownInStep s q) (suc i) end h q × IsSettled marks s q)

    module _ (marks : Type 0) (i : ℕ) (its : script.Event) (is : slice_get life.events i ≡ Some its) (reached : IsReached life.cut (suc i)) (st : Live U) (w : World) (p : Progress) (going : IsGoing marks i st w.held p)
        (stands : IsAtStep l life (suc i) s p) (ended : Ended NodeStop (Live U)) (new : World) (m : IsMessage g its) (run : EndsSo (node_step (c (suc i)) (event_of m.message) st) ended w new) where
      live : IsLiveThrough (c (suc i)) any_shares st
      live = live_at g i (suc i) st going.at.live

      taken : IsTakenThrough (c (suc i)) m.message st
      taken = step_taken g its m.message m.brings (c (suc i)) st

      can : CanRecord (c (suc i)) st m.message
      can = record { acks = meant.acks (suc i); dealing = own_fits g here (suc i) st live going.in_bound; brings = meant.brings i its is m }

      -- the life that it goes to
      pub record IsFollowed (end : Live U) : Type 0 where
        pub through : IsNodeThrough (c (suc i)) any_shares st m.message (Some w.held) end (Some new.held)
        pub at : IsAtEvent g (suc i) end
        pub of_round : HasRoundOf s end
        pub in_bound : HasFew end

      followed : IfWentTo ended IsFollowed
      followed = by_end ended run
        where
          by_end : (its_end : Ended NodeStop (Live U)) → EndsSo (node_step (c (suc i)) (event_of m.message) st) its_end w new → IfWentTo its_end IsFollowed
          by_end (went end) run =
              let led = node_steps_lead_through_over (c (suc i)) any_shares st m.message (went end) w new (through_at g here (suc i)) (lacks_nobody g (suc i)) (λ h epoch found. tt) taken live going.at.active run in
              record {
                through = led;
                at = record { live = led.live; active = led.active; stands = step_stands g here i its is reached m st live going.at.stands (Some w.held) end (Some new.held) led };
                of_round = step_round s ends here.form meant.consistent l life seen files life_is i its is reached m st live (Some w.held) end (Some new.held) (form_at g here (suc i)) led going.of_round;
                in_bound = next_few g here (suc i) st end m.message (Some w.held) (Some new.held) live led going.in_bound;
              }
          by_end (stopped stop) run = tt
          by_end (broken cause) run = tt

      -- behind the reshare half it goes on, or has taken an epoch over
      module _ (end : Live U) (its_end : IsFollowed end) where
        abbrev mid : Live U
        mid = (its_end.through).mid

        same_part : end.participation ≡ mid.participation
        same_part = ap (λ (x : Live U). x.participation) (its_end.through).same

        goes_so : GoesOn (c (suc i)) st m.message mid ⊎ TakesOver (c (suc i)) any_shares st m.message (Some w.held) mid (Some new.held)
        goes_so = next_so (c (suc i)) any_shares st m.message (Some w.held) mid (Some new.held) (form_at g here (suc i)) live (its_end.through).next

        mid_agreed : AreAgreed end.records new.held → AreAgreed mid.records new.held
        mid_agreed agreed = subst (λ (r : Records). AreAgreed r new.held) (ap (λ (x : Live U). x.records) (its_end.through).same) agreed

        mid_round : HasRoundOf s (unasked mid)
        mid_round round there = its_end.of_round round (ap (λ (x : Participation U). x.round) same_part ∙ there)

      agreed_then : (end : Live U) → ended ≡ went end → AreAgreed end.records new.held
      agreed_then end same = node_steps_agree (c (suc i)) st end m.message w new going.carries.half.agreed can (subst (λ (x : Ended NodeStop (Live U)). EndsSo (node_step (c (suc i)) (event_of m.message) st) x w new) same run)

      -- ITS LOGS

      -- one that was noted before is known by what is recorded then
      was_known : (q : Progress) → IsGrown p.recorded q.recorded → marks → (key : ℕ × ℕ) (noted : RecordedLog) → b (suc i) < key.0 + 2 → get (logs_in (notes w.held)) key ≡ Some noted
          → IsOwnMarkKnown s q.recorded key.0 key.1 noted.log
      was_known q grown known key noted now there =
          let rises : b i ≤ b (suc i) = begun_rises s reshares l life life_is cuts some never_back i in
          still_known s p.recorded q.recorded grown key.0 key.1 noted.log (going.logs known key noted (omega (arith, rises, now)) there)

      noted_now : reach_of (c (suc i)) m.message ≤ b (suc i) - 1 → (key : ℕ × ℕ) → b (suc i) < key.0 + 2
          → IsNotedNow (c (suc i)) st m.message key (get (logs_in (notes w.held)) key) (get (logs_in (notes new.held)) key)
      noted_now low key now =
          let above : b (suc i) - 1 ≤ key.0 = omega (arith, now) in
          node_steps_record_logs (c (suc i)) st m.message ended (b (suc i) - 1) w new low going.carries.half.agreed can run key above

      -- a message notes none
      mail_logs : (mail : Mail U) → m.message ≡ Mailed mail → (q : Progress) → IsGrown p.recorded q.recorded → marks → LogsKnown s (b (suc i)) q.recorded (logs_in (notes new.held))
      mail_logs mail message_is q grown known key noted now there =
          let low : reach_of (c (suc i)) m.message ≤ b (suc i) - 1 = subst (λ (x : Message U). reach_of (c (suc i)) x ≤ b (suc i) - 1) (sym message_is) (omega arith) in
          let same : get (logs_in (notes new.held)) key ≡ get (logs_in (notes w.held)) key
          = subst (λ (x : Message U). IsNotedNow (c (suc i)) st x key (get (logs_in (notes w.held)) key) (get (logs_in (notes new.held)) key)) message_is (noted_now low key now) in
          was_known q grown known key noted now (sym same ∙ there)

      -- a life of the same round plays on; one that took an epoch over plays as it was seated
      plays_then : (end : Live U) → ended ≡ went end → IsFollowed end → (q : Progress) → marks → AllCurrent (b (suc i)) (Gives (recovered_in new.held)) q.recorded
          → LogsKnown s (b (suc i)) q.recorded (logs_in (notes new.held)) → PlaysWhere s end
      plays_then end same its_end q known given logs = either (goes_so end its_end)
        where
          part : end.participation ≡ (mid end its_end).participation
          part = same_part end its_end

          either : GoesOn (c (suc i)) st m.message (mid end its_end) ⊎ TakesOver (c (suc i)) any_shares st m.message (Some w.held) (mid end its_end) (Some new.held) → PlaysWhere s end
          either (inl goes) =
              plays_on s st end (ap (λ (x : Participation U). x.round) part ∙ (goes.same).round) (ap (λ (x : Participation U). x.seat) part ∙ (goes.same).seat) (going.plays known)
          either (inr taken_over) =
              let seated = (taken_over.taken).seated in
              let number : (seated.round).number ≡ e (suc i) = number_is (suc i) end its_end.at its_end.of_round seated.round (ap (λ (x : Participation U). x.round) part ∙ seated.in_round) in
              plays_on s (unasked (mid end its_end)) end (ap (λ (x : Participation U). x.round) part) (ap (λ (x : Participation U). x.seat) part)
              (seated_plays s l life seen files (suc i) WasCommitted _ _ _ _ (unasked (mid end its_end)) seated new.held (mid_agreed end its_end (agreed_then end same)) q.recorded
              (holds (suc i) new.held q (seated.round).number (subst (λ (x : ℕ). b (suc i) < x + 2) (sym number) (is_current s reshares l life life_is cuts some never_back (suc i))) given logs)
              (mid_round end its_end))

      -- what follows of what the step left
      leaves : (Unanswered : Type 0) (q : Progress) → (marks → IsKnownInStep s q → LogsKnown s (b (suc i)) q.recorded (logs_in (notes new.held)))
          → IsLeftBy (c (suc i)) (b (suc i)) (e (suc i)) l Unanswered ended new.held s p q → (Unanswered → IsSettled marks s q) → StepLeaves marks i ended new.held p q
      leaves Unanswered q logs left settles = record { cuts_are = left.same.cuts; step = left.same.step; saved = left.saved; logs = logs; went = by_end ended refl left.went followed }
        where
          by_end : (x : Ended NodeStop (Live U)) → ended ≡ x → IfWentTo x (λ end. CarriesAt (c (suc i)) (b (suc i)) (e (suc i)) l end new.held s q × (Unanswered ⊎ (list_any is_ack q.written ≡ true))) → IfWentTo x IsFollowed
              → IfWentTo x (λ end. IsGoing (marks × IsKnownInStep s q) (suc i) end new.held q × IsSettled marks s q)
          by_end (went end) same so its_end = (
            record {
              carries = so.0;
              at = its_end.at;
              of_round = its_end.of_round;
              in_bound = its_end.in_bound;
              plays = λ known. plays_then end same its_end q known.0 left.saved.gives (logs known.0 known.1);
              logs = λ known. logs known.0 known.1;
            },
            elim so.1 [ inl unanswered ↦ settles unanswered | inr wrote ↦ (λ known due. wrote) ],
          )
          by_end (stopped stop) same so its_end = tt
          by_end (broken cause) same so its_end = tt

      -- the life in hand, and its step
      life_then : (q : Progress) → IsSameStep p q → life_at s (length q.cuts) ≡ Some life
      life_then q same = ap (life_at s) (ap length same.cuts ∙ stands.lives) ∙ life_is

      step_then : (q : Progress) → IsSameStep p q → q.step ≡ suc i
      step_then q same = same.step ∙ stands.step

      -- where nothing is delivered, the same has begun and is awaited
      moved : (Unanswered : Type 0) (q : Progress) → e (suc i) ≡ e i → b (suc i) ≡ b i → IsLeftBy (c (suc i)) (b i) (e i) l Unanswered ended new.held s p q
          → IsLeftBy (c (suc i)) (b (suc i)) (e (suc i)) l Unanswered ended new.held s p q
      moved Unanswered q same_epoch same_begun left = subst (λ (x : ℕ). IsLeftBy (c (suc i)) x (e (suc i)) l Unanswered ended new.held s p q) (sym same_begun)
          (subst (λ (x : ℕ). IsLeftBy (c (suc i)) (b i) x l Unanswered ended new.held s p q) (sym same_epoch) left)

      back : suc i - 1 ≡ i
      back = omega arith

      awaits : e i ≡ awaited_epoch s l life (suc i - 1)
      awaits = ap (λ (x : ℕ). awaited_epoch s l life x) (sym back)

      -- A MESSAGE
      module _ (from : ℕ) (bytes : List ℕ) (its_is : slice_get life.events i ≡ Some (event.Peer from bytes)) (message_is : m.message ≡ Mailed (Peer from bytes)) (small : from < 2 ^ 32) where
        abbrev message_mail : Mail U
        message_mail = Peer from bytes

        abbrev message : Message U
        message = Mailed message_mail

        event_is : event_of_step life (suc i) ≡ Some (event.Peer from bytes)
        event_is = its_is

        goes_on : IfWentTo ended (λ end. (end.participation.round ≡ st.participation.round) × (end.participation.seat ≡ st.participation.seat) × IsLiveThrough (c (suc i)) any_shares end × IsActiveThrough end)
        goes_on = by_end ended followed
          where
            no_block : (x : made.Block U) → ◌≡◌ {A = Message U} (Mailed (Peer from bytes)) (Finalized x) → ⊥
            no_block x e = cc

            by_end : (x : Ended NodeStop (Live U)) → IfWentTo x IsFollowed
                → IfWentTo x (λ end. (end.participation.round ≡ st.participation.round) × (end.participation.seat ≡ st.participation.seat) × IsLiveThrough (c (suc i)) any_shares end × IsActiveThrough end)
            by_end (went end) its_end = elim (goes_so end its_end) [
              | inl goes ↦ (
                ap (λ (x : Participation U). x.round) (same_part end its_end) ∙ (goes.same).round,
                ap (λ (x : Participation U). x.seat) (same_part end its_end) ∙ (goes.same).seat,
                its_end.at.live,
                its_end.at.active,
              )
              | inr taken_over ↦ absurd (no_block taken_over.block (sym message_is ∙ taken_over.is))
            ]
            by_end (stopped stop) its_end = tt
            by_end (broken cause) its_end = tt

        same_epoch : e (suc i) ≡ e i
        same_epoch = mail_epoch s reshares l life life_is cuts some never_back i (event.Peer from bytes) its_is reached refl

        same_begun : b (suc i) ≡ b i
        same_begun = mail_begun s reshares l life life_is cuts some never_back i (event.Peer from bytes) its_is reached refl

        its_can : CanRecord (c (suc i)) st message
        its_can = subst (λ (x : Message U). CanRecord (c (suc i)) st x) message_is can

        its_run : EndsSo (node_step (c (suc i)) (event_of message) st) ended w new
        its_run = subst (λ (x : Message U). EndsSo (node_step (c (suc i)) (event_of x) st) ended w new) message_is run

        its_carries : CarriesAt (c (suc i)) (b i) (e i) l st w.held s p
        its_carries = over i st w.held p going.carries

        kept : Reaches s p w.out new.out (λ q. IsLeftBy (c (suc i)) (b i) (e i) l (IsUndue (c (suc i)) st from bytes × (q.recorded ≡ p.recorded)) ended new.held s p q)
        kept = message_kept (c (suc i)) (b i) (e i) l life (suc i) from bytes st ended w new s p stands event_is awaits its_carries its_can small goes_on its_run

        -- what is due is due by the node's course
        due_then : (q : Progress) → length q.cuts ≡ l → q.step ≡ suc i → q.recorded ≡ p.recorded → marks → IsDueNow s q → node.IsDue (c (suc i)) st from bytes
        unfolding at_step
        due_then q lives step same known due =
            owed (c (suc i)) (b i) (e i) st w.held s p q life l (suc i) from bytes its_carries.half awaits life_is lives step event_is same deals in_round (going.plays known) due
          where
            deals : awaited_height_after s l life (suc i - 1) < midpoint (blocks_per_epoch s) (e i) → (round : Round) → st.participation.round ≡ Some round → st.participation.stage ≡ Deals
            deals low round there = early (subst (λ (x : ℕ). awaited_height_after s l life x < midpoint n (e i)) back low) round there
              where
                stands_at : core.awaited_height st ≡ awaited_height_after s l life i
                stands_at = going.at.stands.awaits ∙ sym (height_alike s l life no_sync meant.none_found i)

                early : awaited_height_after s l life i < midpoint n (e i) → (round : Round) → st.participation.round ≡ Some round → st.participation.stage ≡ Deals
                early low round there = deals_early (c i) (unasked st) round (going.at.live).stands there (subst (λ (x : ℕ). x < midpoint n (epoch_of n x)) (sym stands_at) low)

            in_round : life_follows s l life (e i) ≡ false → (round : Round) × (st.participation.round ≡ Some round)
            in_round part = has_round (c i) (unasked st) (going.at.live).stands (λ stage. bools_apart (life_follows s l life (e i)) (follows_alike s l life no_sync meant.none_found (e i) ∙ ap (life_follows (alone s.script) l life) (epoch_alike s l life no_sync meant.none_found i) ∙ going.at.stands.blind stage) part)
              where
                bools_apart : (t : Bool) → t ≡ true → t ≡ false → ⊥
                bools_apart t x y = let wrong : true ≡ false = sym x ∙ y in cc

        pub message_goes : Reaches s p w.out new.out (StepLeaves marks i ended new.held p)
        message_goes = reaches_as s p w.out new.out (λ q. IsLeftBy (c (suc i)) (b i) (e i) l (IsUndue (c (suc i)) st from bytes × (q.recorded ≡ p.recorded)) ended new.held s p q) (StepLeaves marks i ended new.held p)
            (λ q left. leaves (IsUndue (c (suc i)) st from bytes × (q.recorded ≡ p.recorded)) q (λ known of_step. mail_logs message_mail message_is q left.grown known)
            (moved (IsUndue (c (suc i)) st from bytes × (q.recorded ≡ p.recorded)) q same_epoch same_begun left)
            (λ passed known due. absurd (passed.0 (due_then q (ap length left.same.cuts ∙ stands.lives) (step_then q left.same) passed.1 known due)))) kept

      -- ANY OTHER MESSAGE
      module _ (one : script.Event) (its_is : slice_get life.events i ≡ Some one) (none : delivered_number one ≡ None) (undue : (q : Progress) (epoch : ℕ) → IsDueEvent s q epoch one → ⊥)
          (mail : Mail U) (message_is : m.message ≡ Mailed mail) (other : IsOther (Mailed mail)) where
        lives_on : IfWentTo ended (λ end. IsLiveThrough (c (suc i)) any_shares end × IsActiveThrough end)
        lives_on = by_end ended followed
          where
            by_end : (x : Ended NodeStop (Live U)) → IfWentTo x IsFollowed → IfWentTo x (λ end. IsLiveThrough (c (suc i)) any_shares end × IsActiveThrough end)
            by_end (went end) its_end = (its_end.at.live, its_end.at.active)
            by_end (stopped stop) its_end = tt
            by_end (broken cause) its_end = tt

        still_kept : Reaches s p w.out new.out (IsLeftBy (c (suc i)) (b i) (e i) l (Unit {0}) ended new.held s p)
        still_kept = mail_kept (c (suc i)) (b i) (e i) l life (suc i) mail st ended w new s p stands (over i st w.held p going.carries) (subst (λ (x : Message U). CanRecord (c (suc i)) st x) message_is can) other lives_on
            (subst (λ (x : Message U). EndsSo (node_step (c (suc i)) (event_of x) st) ended w new) message_is run)

        pub mail_goes : Reaches s p w.out new.out (StepLeaves marks i ended new.held p)
        mail_goes = reaches_as s p w.out new.out (IsLeftBy (c (suc i)) (b i) (e i) l (Unit {0}) ended new.held s p) (StepLeaves marks i ended new.held p)
            (λ q left. leaves (Unit {0}) q (λ known of_step. mail_logs mail message_is q left.grown known)
            (moved (Unit {0}) q (mail_epoch s reshares l life life_is cuts some never_back i one its_is reached none) (mail_begun s reshares l life life_is cuts some never_back i one its_is reached none) left)
            (λ any known due. absurd (no_event_due s q life (suc i) one (life_then q left.same) (step_then q left.same) its_is (undue q) due))) still_kept

      -- A BLOCK
      module _ (number : ℕ) (made_it : IsMadeOf s.script number) (its_is : slice_get life.events i ≡ Some (event.Final number)) (message_is : m.message ≡ Finalized made_it.block) where
        abbrev block : made.Block U
        block = made_it.block

        its_height : HasHeight s number block
        its_height = has_height s number block made_it.line made_it.line_is made_it.is

        block_can : CanRecord (c (suc i)) st (Finalized block)
        block_can = subst (λ (x : Message U). CanRecord (c (suc i)) st x) message_is can

        block_run : EndsSo (node_step (c (suc i)) (event_of (Finalized block)) st) ended w new
        block_run = subst (λ (x : Message U). EndsSo (node_step (c (suc i)) (event_of x) st) ended w new) message_is run

        block_carries : CarriesAt (c (suc i)) (b i) (e i) l st w.held s p
        block_carries = over i st w.held p going.carries

        low : reach_of (c (suc i)) (Finalized block) ≤ b (suc i) - 1
        unfolding at_step
        low = block_reach s reshares l life life_is cuts some never_back i number block its_height its_is reached

        -- a block that is applied while dealing is of the epoch that was awaited
        same_epoch_as : judged_block (c (suc i)) block st ≡ Applied → (round : Round) → st.participation.round ≡ Some round → epoch_of n block.height ≡ e i
        unfolding at_step
        same_epoch_as applied round there = by_tip st.tip refl
          where
            its_applied : IsApplied (c (suc i)) block st
            its_applied = applied_so (c (suc i)) block st applied

            apart : st.participation.stage ≡ Follows → ⊥
            apart = with_round (c (suc i)) (unasked st) round live.stands there

            stands_at : core.awaited_height st ≡ awaited_height_after s l life i
            stands_at = going.at.stands.awaits ∙ sym (height_alike s l life no_sync meant.none_found i)

            epoch_there : st.participation.epoch ≡ e i
            epoch_there = going.at.stands.epoch apart ∙ sym (epoch_alike s l life no_sync meant.none_found i)

            by_tip : (o : Option Tip) → st.tip ≡ o → epoch_of n block.height ≡ e i
            by_tip (Some t) tip = ap (epoch_of n) (its_applied.over t tip ∙ ap (λ (x : Option Tip). option_map_or (λ (y : Tip). y.height + 1) x 0) (sym tip) ∙ stands_at)
            by_tip None tip = window st.participation.stage refl (its_applied.anew tip)
              where
                no_end : (phase : Phase) → stage_in phase ≡ Ends → ⊥
                no_end Early x = cc
                no_end Midpoint x = cc
                no_end Late x = cc

                window : (stage : Stage) → st.participation.stage ≡ stage → is_in_window_in (c (suc i)) block st stage ≡ true → epoch_of n block.height ≡ e i
                window Deals is test = eqb-true (epoch_of n block.height) st.participation.epoch (and_parts (epoch_of n block.height == st.participation.epoch) _ test).0 ∙ epoch_there
                window Includes is test = eqb-true (epoch_of n block.height) st.participation.epoch (and_parts (epoch_of n block.height == st.participation.epoch) _ test).0 ∙ epoch_there
                window Follows is test = absurd (apart is)
                window Ends is test = absurd (no_end (phase_of (c (suc i)) (core.awaited_height st)) (sym ((live.stands).in_round round there) ∙ is))

        dealing : judged_block (c (suc i)) block st ≡ Applied → (round : Round) → st.participation.round ≡ Some round → b (suc i) < e i + 2
        dealing applied round there = block_current s reshares l life life_is cuts some never_back i number block its_height its_is reached (same_epoch_as applied round there)

        -- recorded dealings of the epoch that is awaited behind it pass
        valid_then : (end : Live U) → ended ≡ went end → IsFollowed end → ValidAt (e (suc i)) end new.held s
        valid_then end same its_end = either (goes_so end its_end)
          where
            part : end.participation ≡ (mid end its_end).participation
            part = same_part end its_end

            either : GoesOn (c (suc i)) st m.message (mid end its_end) ⊎ TakesOver (c (suc i)) any_shares st m.message (Some w.held) (mid end its_end) (Some new.held) → ValidAt (e (suc i)) end new.held s
            either (inl goes) round dealer pair there plays small got =
                let before : st.participation.round ≡ Some round = sym (goes.same).round ∙ sym (ap (λ (x : Participation U). x.round) part) ∙ there in
                let now_is : round.number ≡ e (suc i) = number_is (suc i) end its_end.at its_end.of_round round there in
                let was_is : round.number ≡ e i = number_is i st going.at going.of_round round before in
                let same_epoch : e (suc i) ≡ e i = sym now_is ∙ was_is in
                elim (gives_no_other (c (suc i)) st block w going.carries.half.agreed block_can ended new block_run (e (suc i), dealer) pair got) [
                  | inl was ↦ going.carries.half.valid round dealer pair before (sym (goes.same).seat ∙ sym (ap (λ (x : Participation U). x.seat) part) ∙ plays) small
                      (subst (λ (x : ℕ). get (recovered_in w.held) (x, dealer) ≡ Some pair) same_epoch was)
                  | inr own ↦ own_passes round dealer pair before own
                ]
              where
                own_passes : (round : Round) (dealer : ℕ) (pair : List ℕ × ℕ) → st.participation.round ≡ Some round → IsOwnDealt (c (suc i)) st (e (suc i), dealer) pair → dealing_of round (me s) dealer pair.0 pair.1 ≡ Ok tt
                own_passes round dealer pair before own =
                    let dealer_is : dealer ≡ me s = ap (λ (k : ℕ × ℕ). k.1) own.at ∙ (knows (suc i)).me_is in
                    subst (λ (x : ℕ). dealing_of round (me s) x pair.0 pair.1 ≡ Ok tt) (sym dealer_is)
                    (subst (λ (r : Round). dealing_of r (me s) (me s) pair.0 pair.1 ≡ Ok tt) (some_is (sym own.of_epoch ∙ before))
                    (own_valid (c (suc i)) any_shares s st (e (suc i), dealer) pair (form_at g here (suc i)) live (knows (suc i)) own))
            either (inr taken_over) round dealer pair there plays small got =
                seated_valid s l life seen files (suc i) WasCommitted _ _ _ _ (unasked (mid end its_end)) (taken_over.taken).seated new.held (mid_agreed end its_end (agreed_then end same)) round dealer pair
                (sym (ap (λ (x : Participation U). x.round) part) ∙ there) (sym (ap (λ (x : Participation U). x.seat) part) ∙ plays) small
                (subst (λ (x : ℕ). get (recovered_in new.held) (x, dealer) ≡ Some pair) (sym (number_is (suc i) end its_end.at its_end.of_round round there)) got)

        behind_it : IfWentTo ended (λ end. IsBehindStep (c (suc i)) (e (suc i)) end new.held s)
        behind_it = by_end ended refl followed
          where
            by_end : (x : Ended NodeStop (Live U)) → ended ≡ x → IfWentTo x IsFollowed → IfWentTo x (λ end. IsBehindStep (c (suc i)) (e (suc i)) end new.held s)
            by_end (went end) same its_end = record {
              in_round = λ round there. (round_is (suc i) end its_end.at its_end.of_round round there, number_is (suc i) end its_end.at its_end.of_round round there);
              valid = valid_then end same its_end;
              live = its_end.at.live;
              active = its_end.at.active;
            }
            by_end (stopped stop) same its_end = tt
            by_end (broken cause) same its_end = tt

        block_left : Reaches s p w.out new.out (IsLeftBy (c (suc i)) (b (suc i)) (e (suc i)) l (Unit {0}) ended new.held s p)
        block_left = block_kept (c (suc i)) (b i) (e i) (b (suc i)) (e (suc i)) l life (suc i) number block st ended w new s p (form_at g here (suc i)) stands its_is awaits block_carries block_can
            (begun_rises s reshares l life life_is cuts some never_back i) low (is_current s reshares l life life_is cuts some never_back (suc i)) dealing behind_it block_run

        -- the log that it notes is known by what the step's end says
        new_known : (q : Progress) → IsSameStep p q → IsKnownInStep s q → (key : ℕ × ℕ) (noted : RecordedLog) → get (logs_in (notes new.held)) key ≡ Some noted
            → IsRecordedNow (c (suc i)) st block key (get (logs_in (notes new.held)) key) → IsOwnMarkKnown s q.recorded key.0 key.1 noted.log
        new_known q same of_step key noted there now =
            let base : IsOwnMarkKnown s q.recorded (epoch_of n block.height) now.log.dealer now.log.log
            = known_in_step s here.form number made_it now.log now.carried life q (life_then q same) (ap (event_of_step life) (step_then q same) ∙ its_is) of_step in
            let epoch_is : key.0 ≡ epoch_of n block.height
            = ap (λ (k : ℕ × ℕ). k.0) now.at ∙ number_is i st going.at going.of_round now.round now.of_epoch ∙ sym (same_epoch_as now.applied now.round now.of_epoch) in
            let dealer_is : key.1 ≡ now.log.dealer = ap (λ (k : ℕ × ℕ). k.1) now.at in
            let log_is : noted.log ≡ now.log.log = ap (λ (r : RecordedLog). r.log) (some_is (sym there ∙ now.is)) in
            subst (λ (x : ℕ). IsOwnMarkKnown s q.recorded x key.1 noted.log) (sym epoch_is)
            (subst (λ (x : ℕ). IsOwnMarkKnown s q.recorded (epoch_of n block.height) x noted.log) (sym dealer_is)
            (subst (λ (x : DealerLog). IsOwnMarkKnown s q.recorded (epoch_of n block.height) now.log.dealer x) (sym log_is) base))

        block_logs : (q : Progress) → IsSameStep p q → IsGrown p.recorded q.recorded → marks → IsKnownInStep s q → LogsKnown s (b (suc i)) q.recorded (logs_in (notes new.held))
        block_logs q same grown known of_step key noted now there =
            elim (subst (λ (x : Message U). IsNotedNow (c (suc i)) st x key (get (logs_in (notes w.held)) key) (get (logs_in (notes new.held)) key)) message_is
            (noted_now (subst (λ (x : Message U). reach_of (c (suc i)) x ≤ b (suc i) - 1) (sym message_is) low) key now)) [
              | inl was ↦ was_known q grown known key noted now (sym was ∙ there)
              | inr its_own ↦ new_known q same of_step key noted there its_own
            ]

        pub block_goes : Reaches s p w.out new.out (StepLeaves marks i ended new.held p)
        block_goes = reaches_as s p w.out new.out (IsLeftBy (c (suc i)) (b (suc i)) (e (suc i)) l (Unit {0}) ended new.held s p) (StepLeaves marks i ended new.held p)
            (λ q left. leaves (Unit {0}) q (block_logs q left.same left.grown) left
            (λ any known due. absurd (no_event_due s q life (suc i) (event.Final number) (life_then q left.same) (step_then q left.same) its_is (λ epoch none. none) due))) block_left

      -- ANY EVENT
      pub step_goes : Reaches s p w.out new.out (StepLeaves marks i ended new.held p)
      step_goes = by_event its refl (event_in_form g here i its is) m.message m.brings refl
        where
          by_event : (x : script.Event) → its ≡ x → IsEventIn s.script.blocks x → (message : Message U) → Brings g x message → m.message ≡ message → Reaches s p w.out new.out (StepLeaves marks i ended new.held p)
          by_event (event.Peer from bytes) same form its_message brings message_is = message_goes from bytes (is ∙ ap (λ (y : script.Event). Some y) same) (message_is ∙ brings) form
          by_event (event.Final number) same form its_message brings message_is = block_goes number brings.0 (is ∙ ap (λ (y : script.Event). Some y) same) (message_is ∙ brings.1)
          by_event (event.Next request height) same form its_message brings message_is =
              mail_goes (event.Next request height) (is ∙ ap (λ (y : script.Event). Some y) same) refl (λ q epoch due. due) (NextLog request height) (message_is ∙ brings) tt
          by_event (event.Release height) same form its_message brings message_is =
              mail_goes (event.Release height) (is ∙ ap (λ (y : script.Event). Some y) same) refl (λ q epoch due. due) (ReleaseLog height) (message_is ∙ brings) tt
          by_event (event.Info request) same form its_message brings message_is =
              mail_goes (event.Info request) (is ∙ ap (λ (y : script.Event). Some y) same) refl (λ q epoch due. due) (EpochInfoOf request) (message_is ∙ brings) tt
          by_event (event.Feed request number) same form its_message brings message_is =
              mail_goes (event.Feed request number) (is ∙ ap (λ (y : script.Event). Some y) same) refl (λ q epoch due. due) (Feed request (brings.0).block) (message_is ∙ brings.1) tt
          by_event (event.Over request) same form its_message brings message_is =
              mail_goes (event.Over request) (is ∙ ap (λ (y : script.Event). Some y) same) refl (λ q epoch due. due) (Over request) (message_is ∙ brings) tt
          by_event (event.Cancel request) same form its_message brings message_is =
              mail_goes (event.Cancel request) (is ∙ ap (λ (y : script.Event). Some y) same) refl (λ q epoch due. due) (Cancel request) (message_is ∙ brings) tt
          by_event event.Work same form its_message brings message_is = mail_goes event.Work (is ∙ ap (λ (y : script.Event). Some y) same) refl (λ q epoch due. due) (Work None) (message_is ∙ brings) tt
          by_event other same form its_message brings message_is = absurd brings

    -- AN OPENING

    pub record OpeningLeaves (marks : Type 0) (ended : Ended NodeStop (Live U)) (h : Held) (p q : Progress) : Type 0 where
      pub cuts_are : q.cuts ≡ p.cuts
      pub step : q.step ≡ p.step
      pub saved : IsSaved AnyCall (b 0) h s q
      pub logs : marks → LogsKnown s (b 0) q.recorded (logs_in (notes h))
      pub went : IfWentTo ended (λ end. IsGoing marks 0 end h q)

    module _ (marks : Type 0) (w : World) (p : Progress) (cuts_are : p.cuts ≡ cuts) (lives : length p.cuts ≡ l) (rests : RestsIn w.held s p)
        (logs : marks → LogsKnown s (begun_before s p.cuts (length p.cuts)) p.recorded (logs_in (notes w.held))) (ended : Ended NodeStop (Live U)) (new : World) (run : EndsSo (node_opening (c 0)) ended w new) where
      reads : ReadsRecords (c 0).seen
      unfolding at_step
      reads = meant.reads

      number_of : (c 0).life ≡ l
      unfolding at_step
      number_of = refl

      later : begun_before s p.cuts (length p.cuts) ≤ b 0
      later = subst (λ (x : List (Option CutAt)). begun_before s x (length p.cuts) ≤ b 0) (sym cuts_are) (subst (λ (x : ℕ). begun_before s cuts x ≤ b 0) (sym lives) (begun_more s reshares cuts l life 0 life_is))

      first_is : first_epoch (c 0) ≡ e 0
      first_is = first_epoch_is g here 0 ∙ sym (epoch_alike s l life no_sync meant.none_found 0)

      prunes_low : first_epoch (c 0) - 1 ≤ b 0 - 1
      prunes_low = so (first_epoch (c 0)) (e 0) (b 0) first_is (awaited_begun s reshares l life life_is cuts some never_back 0)
        where
          so : (x y z : ℕ) → x ≡ y → y ≤ z → x - 1 ≤ z - 1
          so x y z p q = omega (arith, p, q)

      -- the life that is opened
      pub record IsBegun (end : Live U) : Type 0 where
        pub read : Seen
        pub k : Held
        pub begun_so : IsNodeBegun (c 0) read k end
        pub at : IsAtEvent g 0 end
        pub of_round : HasRoundOf s end
        pub in_bound : HasFew end
        pub agreed : AreAgreed end.records new.held

      opens_to : IfWentTo ended IsBegun
      opens_to = by_end ended run
        where
          by_end : (x : Ended NodeStop (Live U)) → EndsSo (node_opening (c 0)) x w new → IfWentTo x IsBegun
          by_end (went end) run =
              let led = (node_openings_lead_over (c 0) (went end) w new (form_at g here 0) (lacks_nobody g 0) run).0 in
              let lives = node_openings_through (c 0) any_shares ((c 0).seen (held_behind (c 0) w.held)) (held_behind (c 0) w.held) end (form_at g here 0) led in
              record {
                read = (c 0).seen (held_behind (c 0) w.held);
                k = held_behind (c 0) w.held;
                begun_so = led;
                at = record { live = lives.0; active = lives.1; stands = begun_stands g here ((c 0).seen (held_behind (c 0) w.held)) (held_behind (c 0) w.held) end led };
                of_round = begun_round s ends here.form meant.consistent l life seen files life_is ((c 0).seen (held_behind (c 0) w.held)) (held_behind (c 0) w.held) end led;
                in_bound = begun_few g here ((c 0).seen (held_behind (c 0) w.held)) (held_behind (c 0) w.held) end led;
                agreed = node_openings_agree (c 0) end w new reads rests.whole run;
              }
          by_end (stopped stop) run = tt
          by_end (broken cause) run = tt

      -- it notes no log
      logs_opened : (q : Progress) → IsGrown p.recorded q.recorded → marks → LogsKnown s (b 0) q.recorded (logs_in (notes new.held))
      logs_opened q grown known key noted now there =
          still_known s p.recorded q.recorded grown key.0 key.1 noted.log
          (logs known key noted (before (begun_before s p.cuts (length p.cuts)) (b 0) key.0 later now) (opening_logs (c 0) (form_at g here 0) w ended new run key noted there))
        where
          before : (x y z : ℕ) → x ≤ y → y < z + 2 → x < z + 2
          before x y z p q = omega (arith, p, q)

      behind_opening : IfWentTo ended (λ end. Opens (c 0) (e 0) end new.held s)
      behind_opening = by_end ended opens_to
        where
          by_end : (x : Ended NodeStop (Live U)) → IfWentTo x IsBegun → IfWentTo x (λ end. Opens (c 0) (e 0) end new.held s)
          by_end (went end) its = record {
            agreed = its.agreed;
            behind = record {
              in_round = λ round there. (round_is 0 end its.at its.of_round round there, number_is 0 end its.at its.of_round round there);
              valid = λ round dealer pair there plays small got. begun_valid s l life seen files its.read its.k end its.begun_so new.held its.agreed round dealer pair there plays small
                  (subst (λ (x : ℕ). get (recovered_in new.held) (x, dealer) ≡ Some pair) (sym (number_is 0 end its.at its.of_round round there)) got);
              live = its.at.live;
              active = its.at.active;
            };
          }
          by_end (stopped stop) its = tt
          by_end (broken cause) its = tt

      opened : Reaches s p w.out new.out (IsOpenedBy (c 0) (b 0) (e 0) l ended new.held s p)
      opened =
          let listed = node_openings_restore (c 0) ended w new reads run in
          opening_kept (c 0) (b 0) (e 0) l ended w new s p lives rests (knows 0) (first_epoch (c 0) - 1) prunes_low later (is_current s reshares l life life_is cuts some never_back 0)
          (opening_keeps (c 0) (form_at g here 0) w ended new run) (opening_gives (c 0) (form_at g here 0) w ended new run rests.whole) (opening_whole (c 0) (form_at g here 0) w ended new run rests.whole)
          (opening_unsaid (c 0) (form_at g here 0) w ended new run) behind_opening listed.0 listed.1
          (subst (λ (x : ℕ). BeginsRestored x (restored_list (recovered_in w.held)) listed.0 ended) number_of listed.2)

      pub opening_goes : Reaches s p w.out new.out (OpeningLeaves marks ended new.held p)
      opening_goes = reaches_as s p w.out new.out (IsOpenedBy (c 0) (b 0) (e 0) l ended new.held s p) (OpeningLeaves marks ended new.held p)
          (λ q left. record { cuts_are = left.cuts; step = left.step; saved = left.saved; logs = logs_opened q left.grown; went = by_end q ended left left.went opens_to }) opened
        where
          by_end : (q : Progress) (x : Ended NodeStop (Live U)) → IsOpenedBy (c 0) (b 0) (e 0) l ended new.held s p q → IfWentTo x (λ end. CarriesAt (c 0) (b 0) (e 0) l end new.held s q) → IfWentTo x IsBegun
              → IfWentTo x (λ end. IsGoing marks 0 end new.held q)
          by_end q (went end) left carries its = record {
            carries = carries;
            at = its.at;
            of_round = its.of_round;
            in_bound = its.in_bound;
            plays = λ known. begun_plays s l life seen files its.read its.k end its.begun_so new.held its.agreed q.recorded
                (λ round there. holds 0 new.held q round.number (subst (λ (x : ℕ). b 0 < x + 2) (sym (number_is 0 end its.at its.of_round round there)) (is_current s reshares l life life_is cuts some never_back 0)) left.saved.gives
                (logs_opened q left.grown known)) its.of_round;
            logs = logs_opened q left.grown;
          }
          by_end q (stopped stop) left carries its = tt
          by_end q (broken cause) left carries its = tt
