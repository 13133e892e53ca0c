-- Why the lives of a run stop, why their requests are answered, and that they commit each epoch that they come into: its lines tell it, whatever the devices tell.
use Rattle.std.proofs.Common.{◌≡◌, ◌⊎◌, inl, inr, Bool, true, false, ℕ, suc, ◌+◌, ◌-◌, ◌<◌, ◌≤◌, ◌++◌, ◌∷◌, [], List, Option, Some, None, Result, Ok, Err, arith, refl, sym, ◌∙◌, ap, subst, add-one, append_assoc, append-nil, drop, length, take}
use Rattle.std.specs.Prelude.{⊤, fold, slice_get, IsSomeAnd}
use Rattle.std.specs.List.{AllByRecursion}
use Rattle.std.specs.Option.{option_map_or}
use Rattle.std.proofs.lemmas.List.{append_cancel_left, length-drop}
use Rattle.std.proofs.lemmas.List.Sums.{fold-append}
use Rattle.dkg_journal.specs.Burn.{Burn}
use Rattle.dkg_journal.specs.Names.{Files}
use Rattle.dkg_secrets.specs.Secrets.{Secrets}
use Rattle.dkg_types.specs.Blocks.{Block}
use Rattle.dkg_infos.specs.declared.directory.Unit as directory
use Rattle.dkg_infos.specs.declared.entry.Entry.{Entry}
use Rattle.dkg_infos.specs.declared.entry.Entry.TheVariants as entry
use Rattle.dkg_infos.specs.declared.fault.Fault.{Fault}
use Rattle.dkg_infos.specs.declared.fault.Fault.TheVariants as fault
use Rattle.dkg_infos.specs.declared.fault.LocalCause.TheVariants as local
use Rattle.dkg_infos.specs.declared.fault.Fault.TheVariants.{NoMemory}
use Rattle.dkg_text.specs.declared.script.Cut as cut
use Rattle.dkg_text.specs.declared.script.Event.{Event}
use Rattle.dkg_text.specs.declared.script.Event.TheVariants as event
use Rattle.dkg_text.specs.declared.script.Life.{Life}
use Rattle.dkg_text.specs.declared.script.Script.{Script}
use Rattle.dkg_script.specs.Blocks.{delivered_number}
use Rattle.dkg_script.specs.Ends.{EndsWell}
use Rattle.dkg_script.specs.Epochs.{alone}
use Rattle.dkg_script.specs.Order.{IsInOrder}
use Rattle.dkg_script.specs.Position.{awaited_epoch}
use Rattle.dkg_script.specs.Progress.{AtEachEntry, Progress, progress, read, at_start}
use Rattle.dkg_script.specs.Promise.{Adds}
use Rattle.dkg_script.specs.Setting.{Setting, setting_of}
use Rattle.dkg_script.proofs.EachEntry.{at_each}
use Rattle.dkg_store.specs.Acts.{Ended, Held, broken, by_cut, stopped, went}
use Rattle.dkg_core.specs.Asked.{OfShares}
use Rattle.dkg_core.specs.Courses.{Course, on_devices}
use Rattle.dkg_core.specs.Fixed.{Fixed}
use Rattle.dkg_core.specs.Forms.{IsNodeBegun, IsOpeningStop}
use Rattle.dkg_core.specs.Laws.{IsQuiet}
use Rattle.dkg_core.specs.Live.{Cancel, EpochInfoOf, Faulted, Feed, Finalized, Inclusion, Live, Message, NodeStop, NextLog, Over, ReleaseLog, Mailed, Work}
use Rattle.dkg_core.specs.Behind.{event_of}
use Rattle.dkg_core.specs.Node.{node_opening, node_step}
use Rattle.dkg_core.specs.NodeEndings.{IsFaultBy}
use Rattle.dkg_laws.specs.NodeThrough.{IsNodeThrough}
use Rattle.dkg_core.specs.Said.{Said}
use Rattle.dkg_core.specs.Seen.{Seen}
use Rattle.dkg_core.specs.Sources.{Tip, position}
use Rattle.dkg_core.specs.Through.{IsEndThrough, IsLiveThrough, IsStopThrough}
use Rattle.dkg_core.specs.Endings.{CameTo, tip_behind}
use Rattle.dkg_laws.proofs.Openings.{node_openings_lead}
use Rattle.dkg_laws.proofs.NodeThrough.{node_openings_through, node_steps_come_through}
use Rattle.dkg_core.proofs.Setups.{comes_anywhere}
use Rattle.dkg_core.proofs.Splitting.{came_to}
use Rattle.dkg_life.specs.declared.stop.Stop.{Stop}
use Rattle.dkg_life.specs.declared.stop.Stop.TheVariants.{Cut as AtCut, Failed, Fault as FaultOf}
use Rattle.dkg_core.specs.Splitting.{fault_named}
use Rattle.dkg_life.specs.Ends.{by_fault}
use Rattle.dkg_promises.specs.Answers.{AnswersSo, IsAnswer, IsAnsweredSo}
use Rattle.dkg_lives.specs.Blamed.{BlamesSo, IsAskedOwn, IsBlamedSo, IsBlockCause, IsBlockOwn, IsCause, IsClear, IsFromOutside, IsOwn, IsProviderCause, IsReadingEvent, IsWhy, IsWhyNow, MayRead, OnBlock, tip_in, tip_over}
use Rattle.dkg_lives.specs.Causes.{IfFault}
use Rattle.dkg_lives.specs.Ended.{by_node_stop}
use Rattle.dkg_lives.specs.Epochs.{IsAtEvent, IsChecked, IsLifeInForm, StandsInScript, any_shares, epoch_by}
use Rattle.dkg_lives.specs.Given.{Lived, anchor_in, at_step, blocks_in, lived, step_of}
use Rattle.dkg_lives.specs.Lives.{LivesSo, RunsAllSo, RunsSo, Steps, TakesAll, TellsEnd, fuse_for}
use Rattle.dkg_promises.specs.SharesStand.{ComesInto, TellsCommit}
use Rattle.dkg_lives.specs.Ways.{ReadsSomething, Trace, by_entries}
use Rattle.dkg_promises.proofs.Answered.{IsSaidAt, answered_so, step_answers, unanswered_so}
use Rattle.dkg_lives.proofs.Apart.{IsApart, Reads, node_apart}
use Rattle.dkg_along.proofs.Asking.{AreMade, IsCarried, info_later, opening_carried, opening_made, step_carried, step_made}
use Rattle.dkg_lives.proofs.Awaiting.{IsBefore as IsUncut, IsReached, before_all, one_more, reached_lit}
use Rattle.dkg_along.proofs.Causing.{block_cause, block_clear, info_cause, mail_cause, opening_cause, opening_clear}
use Rattle.dkg_promises.proofs.Committing.{CommitsInto, TellsInto, commit_over, opening_commits_first, opening_tells, step_commits, step_tells}
use Rattle.dkg_along.proofs.Following.{EndsBy, RunEndsBy, all_move, item_at, rest_at}
use Rattle.dkg_lives.proofs.Former.{Brings, BringsBlock, BringsMail, IsMessage, brings_so, event_in_form, form_at, lacks_nobody, live_at, message_in, step_taken, through_at}
use Rattle.dkg_along.proofs.InOrder.{begins, cut_before, cut_within, moves_cut, moves_step}
use Rattle.dkg_lives.proofs.LivesStand.{before_suc}
use Rattle.dkg_lives.proofs.NextLives.{next_tip}
use Rattle.dkg_along.proofs.Ordered.{lit_begins, lit_within, opened_in, opening_added, step_is_quiet, tells_fault, unlit, went_opened}
use Rattle.dkg_lives.proofs.Moving.{each_of_both, moves_none, moves_then, moves_within}
use Rattle.dkg_promises.proofs.Requested.{AreHeld, Knows, KnowsRead, none_held, sent_new, step_apart, step_held, untold}
use Rattle.dkg_along.proofs.Runs.{each_after, starts}
use Rattle.dkg_lives.proofs.Standing.{AddsOpening, AddsQuiet, Each, IsAtCut, IsBefore, IsBehind, IsBetween, IsBetweenOf, IsCutBefore, IsCutWithin, IsWithin, Moves, TellsFault}
use Rattle.dkg_along.proofs.Steps.{Opening, opened_so_far, quiet_so_far}
use Rattle.dkg_lives.proofs.Stood.{begun_stands, step_stands}
use Rattle.dkg_lives.proofs.Unanswered.{IsUnanswered, opening_lines}

-- a fault that doesn't come from outside is the course's own
own_or_outside : {S : Type 0} (its : Fault) → IsFromOutside its ⊎ (fault_named {S = S} Faulted (by_fault its) ≡ stopped (Faulted its))
own_or_outside fault.NoMemory = inl tt
own_or_outside fault.Disk = inl tt
own_or_outside fault.Secrets = inl tt
own_or_outside (fault.Corrupt name place) = inl tt
own_or_outside its = inr refl

own_fault : {x y : Fault} → Faulted x ≡ Faulted y → x ≡ y
own_fault e = cc

-- of something that is there
pub of_there : {A : Type 0} (P : A → Type 0) (o : Option A) (x : A) → o ≡ Some x → P x → IsSomeAnd o P
of_there P o x is so = subst (λ (o : Option _). IsSomeAnd o P) (sym is) so

pub at_there : {A : Type 0} (P : A → Type 0) (o : Option A) (x : A) → o ≡ Some x → IsSomeAnd o P → P x
at_there P o x is so = subst (λ (o : Option _). IsSomeAnd o P) is so

-- A LIFE, step by step

module _ (g : Lived) (here : IsLifeInForm g) where
  abbrev pub Why : (step : ℕ) → Fault → Type 0
  Why step its = IsWhy g.script g.number g.life step its

  abbrev Clear : (step : ℕ) → Type 0
  Clear step = IsClear g.script g.number g.life step

  -- where it stands behind so many steps
  pub record Stood (i : ℕ) (st : Live directory.Unit) : Type 0 where
    pub at : IsAtEvent g i st
    pub tip : st.tip ≡ tip_in g.script g.life i
    pub made : AreMade g i st
    pub carried : IsCarried g i st

  -- .. with what it has of requests
  pub record Known (i : ℕ) (st : Live directory.Unit) : Type 0 where
    pub stood : Stood i st
    pub held : AreHeld g untold i st

  abbrev Came : (Fault → Type 0) → (Live directory.Unit → Type 0) → Ended NodeStop (Live directory.Unit) → Type 0
  Came P Next ended = CameTo (λ (stop : NodeStop). (own : Fault) × (stop ≡ Faulted own) × P own) Next ended

  -- AN OPENING

  first_tip : tip_in g.script g.life 0 ≡ position (anchor_in (blocks_in g.script) g.life.anchor)
  first_tip = by_events g.life.events
    where
      by_events : (events : List Event) → fold (tip_over (blocks_in g.script)) (position (anchor_in (blocks_in g.script) g.life.anchor)) (take 0 events) ≡ position (anchor_in (blocks_in g.script) g.life.anchor)
      by_events [] = refl
      by_events (e ∷ events) = refl

  pub opened_stood : (seen : Seen) (k : Held) (st : Live directory.Unit) → IsNodeBegun (at_step g 0) seen k st → Stood 0 st
  unfolding at_step
  opened_stood seen k st begun =
      let lives = node_openings_through (at_step g 0) any_shares seen k st (form_at g here 0) begun in
      record {
        at = record { live = lives.0; active = lives.1; stands = begun_stands g here seen k st begun };
        tip = ap (λ (x : Live directory.Unit). x.tip) (begun.entered).same ∙ (begun.opened).tip ∙ sym first_tip;
        made = opening_made g here seen k st begun;
        carried = opening_carried g here seen k st begun lives.0;
      }

  pub opened_held : (Told : Knows) (seen : Seen) (k : Held) (st : Live directory.Unit) → IsNodeBegun (at_step g 0) seen k st → AreHeld g Told 0 st
  opened_held Told seen k st begun =
      let same = (begun.entered).same in
      let idle = ((begun.opened).live).idle in
      none_held g Told 0 st (ap (λ (x : Live directory.Unit). x.inclusion.queue) same ∙ ap (λ (x : Inclusion directory.Unit). x.queue) idle)
      (ap (λ (x : Live directory.Unit). x.inclusion.waiter) same ∙ ap (λ (x : Inclusion directory.Unit). x.waiter) idle)

  pub opening_comes : (ended : Ended NodeStop (Live directory.Unit)) (out now : List Entry) → Said (on_devices (node_opening (at_step g 0))) ended out now → Came (Why 0) (λ end. Known 0 end × Clear 0) ended
  opening_comes ended out now said = by_end ended (node_openings_lead (at_step g 0) ended out now (form_at g here 0) (lacks_nobody g 0) said)
    where
      by_end : (ended : Ended NodeStop (Live directory.Unit))
          → CameTo (λ stop. (own : Fault) × (stop ≡ Faulted own) × ((h k : Held) × IsOpeningStop (at_step g 0) ((at_step g 0).seen h) k own)) (λ st. (h k : Held) × IsNodeBegun (at_step g 0) ((at_step g 0).seen h) k st) ended
          → Came (Why 0) (λ end. Known 0 end × Clear 0) ended
      by_end (went end) (h, k, begun) = (record { stood = opened_stood ((at_step g 0).seen h) k end begun; held = opened_held untold ((at_step g 0).seen h) k end begun }, opening_clear g here ((at_step g 0).seen h) k end begun)
      by_end (stopped stop) (own, is, (h, k, why)) = (own, is, either (opening_cause g here ((at_step g 0).seen h) k own why))
        where
          either : IsCause g.script g.number g.life 0 own ⊎ IsOwn g.script g.number g.life 0 own → Why 0 own
          either (inl cause) = inr (inl (inl cause))
          either (inr its_own) = inr (inr (inl its_own))
      by_end (broken its) came = tt

  -- A STEP

  module _ (i : ℕ) (e : Event) (e_is : slice_get g.life.events i ≡ Some e) (reached : IsReached g.life.cut (suc i)) (st : Live directory.Unit) (stood : Stood i st) where
    abbrev pub m : IsMessage g e
    m = message_in g e (event_in_form g here i e e_is)

    pub its_live : IsLiveThrough (at_step g (suc i)) any_shares st
    its_live = live_at g i (suc i) st (stood.at).live

    -- a cause, or a reason of its own, of this step
    at_event : (P : Event → Type 0) → P e → IsSomeAnd (slice_get g.life.events i) P
    at_event P so = of_there P (slice_get g.life.events i) e e_is so

    -- where requests are read
    reads_why : (own : Fault) → MayRead g.script g.number g.life i × (IsProviderCause g.script (epoch_by g i) own ⊎ IsAskedOwn g.script g.life i (epoch_by g i) own) → Why (suc i) own
    reads_why own (may, inl provider) = inr (inl (inr (may, provider)))
    reads_why own (may, inr asked) = inr (inr (inr (may, asked_later own asked)))
      where
        asked_later : (own : Fault) → IsAskedOwn g.script g.life i (epoch_by g i) own → IsAskedOwn g.script g.life (suc i) (epoch_by g i) own
        asked_later (fault.LocalState (local.StoredDealing number dealer)) asked = (asked.0, info_later g i (epoch_by g i) asked.0 asked.1, asked.2)
        asked_later other asked = absurd asked

    pub step_why : (stored : OfShares) (devices : Option Held) (own : Fault) → IsStopThrough (at_step g (suc i)) stored st m.message devices own → Why (suc i) own
    step_why stored devices own stop = by_event e refl m.message m.brings stop
      where
        as_brought : (message other : Message directory.Unit) → message ≡ other → IsStopThrough (at_step g (suc i)) stored st message devices own → IsStopThrough (at_step g (suc i)) stored st other devices own
        as_brought message other same stop = subst (λ (x : Message directory.Unit). IsStopThrough (at_step g (suc i)) stored st x devices own) same stop

        reading : (its : Event) → e ≡ its → IsReadingEvent its → IsReadingEvent e
        reading its is so = subst IsReadingEvent (sym is) so

        by_event : (its : Event) → e ≡ its → (message : Message directory.Unit) → Brings g its message → IsStopThrough (at_step g (suc i)) stored st message devices own → Why (suc i) own
        by_event (event.Peer from bytes) is message brings stop = absurd (subst (λ (x : Message directory.Unit). IsStopThrough (at_step g (suc i)) stored st x devices own) brings stop)
        by_event (event.Final number) is message brings stop =
            either (block_cause g here i e e_is reached m st its_live (stood.at).stands stood.tip stood.carried number is (brings.0).block (brings.0).is stood.made stored devices own
            (as_brought message (Finalized (brings.0).block) brings.1 stop))
          where
            at_block : (P : Block directory.Unit → Type 0) → P (brings.0).block → IsSomeAnd (slice_get g.life.events i) (λ x. OnBlock g.script x P)
            at_block P so = at_event (λ x. OnBlock g.script x P) (subst (λ (x : Event). OnBlock g.script x P) (sym is) (of_there P (slice_get (blocks_in g.script) number) (brings.0).block (brings.0).is so))

            either : IsBlockCause g.script g.number g.life i (brings.0).block own
                ⊎ (IsBlockOwn g.script g.number g.life i (brings.0).block own ⊎ (MayRead g.script g.number g.life i × (IsProviderCause g.script (epoch_by g i) own ⊎ IsAskedOwn g.script g.life i (epoch_by g i) own))) → Why (suc i) own
            either (inl its) = inr (inl (inl (at_block (λ b. IsBlockCause g.script g.number g.life i b own) its)))
            either (inr (inl its)) = inr (inr (inl (at_block (λ b. IsBlockOwn g.script g.number g.life i b own) its)))
            either (inr (inr reads)) = reads_why own reads
        by_event (event.Next request height) is message brings stop = absurd (as_brought message (Mailed (NextLog request height)) brings stop)
        by_event (event.Release height) is message brings stop = absurd (as_brought message (Mailed (ReleaseLog height)) brings stop)
        by_event (event.Info request) is message brings stop =
            let its = as_brought message (Mailed (EpochInfoOf request)) brings stop in
            reads_why own (info_cause g here i e e_is reached m st its_live (stood.at).stands stood.tip stood.carried (reading (event.Info request) is tt) (ap delivered_number is) request is its.0 own its.1)
        by_event (event.Feed request number) is message brings stop =
            let its = as_brought message (Mailed (Feed request (brings.0).block)) brings.1 stop in
            reads_why own (mail_cause g here i e e_is reached m st its_live (stood.at).stands stood.tip stood.carried (reading (event.Feed request number) is tt) (ap delivered_number is) stood.made its.0 own its.1)
        by_event (event.Over request) is message brings stop =
            let its = as_brought message (Mailed (Over request)) brings stop in
            reads_why own (mail_cause g here i e e_is reached m st its_live (stood.at).stands stood.tip stood.carried (reading (event.Over request) is tt) (ap delivered_number is) stood.made its.0 own its.1)
        by_event (event.Cancel request) is message brings stop =
            let its = as_brought message (Mailed (Cancel request)) brings stop in
            reads_why own (mail_cause g here i e e_is reached m st its_live (stood.at).stands stood.tip stood.carried (reading (event.Cancel request) is tt) (ap delivered_number is) stood.made its.0 own its.1)
        by_event event.Work is message brings stop =
            let its = as_brought message (Mailed (Work None)) brings stop in
            reads_why own (mail_cause g here i e e_is reached m st its_live (stood.at).stands stood.tip stood.carried (reading event.Work is tt) (ap delivered_number is) stood.made its.0 own its.1)
        by_event other is message brings stop = absurd brings

    step_clear : (devices : Option Held) (end : Live directory.Unit) (left : Option Held) → IsEndThrough (at_step g (suc i)) any_shares st m.message devices end left → Clear (suc i)
    step_clear devices end left next own why =
        by_event e refl m.message m.brings next (at_there (λ x. OnBlock g.script x (λ b. IsBlockCause g.script g.number g.life i b own)) (slice_get g.life.events i) e e_is why)
      where
        by_event : (its : Event) → e ≡ its → (message : Message directory.Unit) → Brings g its message → IsEndThrough (at_step g (suc i)) any_shares st message devices end left
            → OnBlock g.script e (λ b. IsBlockCause g.script g.number g.life i b own) → ⊥
        by_event (event.Final number) is message brings next on =
            block_clear g here i e e_is reached m st its_live (stood.at).stands stood.tip (brings.0).block devices end left
            (subst (λ (x : Message directory.Unit). IsEndThrough (at_step g (suc i)) any_shares st x devices end left) brings.1 next) own
            (at_there (λ b. IsBlockCause g.script g.number g.life i b own) (slice_get (blocks_in g.script) number) (brings.0).block (brings.0).is (subst (λ (x : Event). OnBlock g.script x (λ b. IsBlockCause g.script g.number g.life i b own)) is on))
        by_event other is message brings next on = subst (λ (x : Event). OnBlock g.script x (λ b. IsBlockCause g.script g.number g.life i b own)) is on

    tip_next : tip_in g.script g.life (suc i) ≡ tip_over (blocks_in g.script) (tip_in g.script g.life i) e
    tip_next = ap (λ (es : List Event). fold (tip_over (blocks_in g.script)) (position (anchor_in (blocks_in g.script) g.life.anchor)) es) (one_more g.life.events i e e_is)
        ∙ fold-append (tip_over (blocks_in g.script)) (position (anchor_in (blocks_in g.script) g.life.anchor)) (take i g.life.events) (e ∷ [])

    -- an event that delivers nothing moves no tip
    unmoved : (its : Event) → delivered_number its ≡ None → st.tip ≡ tip_over (blocks_in g.script) st.tip its
    unmoved (event.Final number) none = absurd (let wrong : ◌≡◌ {A = Option ℕ} (Some number) None = none in cc)
    unmoved other none = refl

    behind : tip_behind m.message st.tip ≡ tip_over (blocks_in g.script) st.tip e
    behind = by_brought (brings_so g e m.message m.brings)
      where
        by_brought : BringsBlock g e m.message ⊎ BringsMail e m.message → tip_behind m.message st.tip ≡ tip_over (blocks_in g.script) st.tip e
        by_brought (inr mail) = ap (λ (x : Message directory.Unit). tip_behind x st.tip) mail.1 ∙ unmoved e mail.2
        by_brought (inl b) =
            ap (λ (x : Message directory.Unit). tip_behind x st.tip) b.3
            ∙ sym (ap (λ (o : Option (Block directory.Unit)). option_map_or (λ b. tip_behind (Finalized b) st.tip) o st.tip) (b.1).is)
            ∙ ap (tip_over (blocks_in g.script) st.tip) (sym b.2)

    pub step_next : (devices : Option Held) (end : Live directory.Unit) (left : Option Held) → IsNodeThrough (at_step g (suc i)) any_shares st m.message devices end left → Stood (suc i) end
    step_next devices end left node =
        let its_stands : StandsInScript g (suc i) end = step_stands g here i e e_is reached m st its_live (stood.at).stands devices end left node in
        record {
          at = record { live = node.live; active = node.active; stands = its_stands };
          tip = ap (λ (x : Live directory.Unit). x.tip) node.same ∙ next_tip (at_step g (suc i)) st any_shares m.message devices node.mid left node.next ∙ behind
              ∙ ap (λ (o : Option Tip). tip_over (blocks_in g.script) o e) stood.tip ∙ sym tip_next;
          made = step_made g here i e e_is m st its_live (stood.at).stands devices end left node its_stands stood.made;
          carried = step_carried g here i e e_is m st its_live (stood.at).stands devices end left node its_stands stood.carried;
        }

    abbrev its_step : Course directory.Unit NodeStop (Live directory.Unit)
    its_step = node_step (at_step g (suc i)) (event_of m.message) st

    -- WHAT IT HAS OF REQUESTS, where this is known of the recorded logs by which they are read
    module _ {Told : Knows} (asked : AreHeld g Told i st) (told : KnowsRead g Told i st m.message) where
      -- its lines
      pub told_lines : (ended : Ended NodeStop (Live directory.Unit)) (out now : List Entry) → Said (on_devices (step_of g (suc i) e st)) ended out now
          → (added : List Entry) × (now ≡ out ++ added) × AllByRecursion (IsSaidAt Told g.script g.number g.life (suc i)) added
      told_lines ended out now said =
          step_answers g here i e e_is reached m st its_live (stood.at).stands stood.tip stood.carried asked (behind ∙ ap (λ (o : Option Tip). tip_over (blocks_in g.script) o e) stood.tip ∙ sym tip_next) told ended out now
          (subst (λ (k : Course directory.Unit NodeStop (Live directory.Unit)). Said (on_devices k) ended out now) (m.course (suc i) st) said)

      -- their numbers stay apart where they are read
      pub told_apart : (ended : Ended NodeStop (Live directory.Unit)) (out now : List Entry) → Said (on_devices (step_of g (suc i) e st)) ended out now
          → CameTo (λ (stop : NodeStop). ⊤) (λ end. Reads (at_step g (suc i)) (form_at g here (suc i)).reshare st asked.apart m.message → IsApart end.inclusion) ended
      told_apart ended out now said =
          came_to (λ (stop : NodeStop). ⊤) (λ end. Reads (at_step g (suc i)) (form_at g here (suc i)).reshare st asked.apart m.message → IsApart end.inclusion) its_step ended out now
          (node_apart (at_step g (suc i)) (form_at g here (suc i)).reshare st asked.apart m.message (λ mail sent. sent_new g here i e e_is st asked m (at_step g (suc i)) (form_at g here (suc i)).reshare mail sent))
          (subst (λ (k : Course directory.Unit NodeStop (Live directory.Unit)). Said (on_devices k) ended out now) (m.course (suc i) st) said)

      -- .. and what it has of them behind the step
      pub told_next : (devices : Option Held) (end : Live directory.Unit) (left : Option Held) → IsNodeThrough (at_step g (suc i)) any_shares st m.message devices end left
          → (Reads (at_step g (suc i)) (form_at g here (suc i)).reshare st asked.apart m.message → IsApart end.inclusion) → AreHeld g Told (suc i) end
      told_next devices end left node apart =
          let next : Stood (suc i) end = step_next devices end left node in
          step_held g here i e e_is m st its_live (stood.at).stands asked devices end left node (next.at).stands next.tip told
          (step_apart g here i e e_is m st its_live (stood.at).stands asked devices end left node (next.at).stands next.tip told (form_at g here (suc i)).reshare apart)

    -- .. and where nothing is
    module _ (held : AreHeld g untold i st) where
      abbrev c : Fixed directory.Unit
      c = at_step g (suc i)

      pub reshare : c.oneshot ≡ None
      reshare = (form_at g here (suc i)).reshare

      on_course : (ended : Ended NodeStop (Live directory.Unit)) (out now : List Entry) → Said (on_devices (step_of g (suc i) e st)) ended out now → Said (on_devices its_step) ended out now
      on_course ended out now said = subst (λ (k : Course directory.Unit NodeStop (Live directory.Unit)). Said (on_devices k) ended out now) (m.course (suc i) st) said

      -- its lines
      pub step_lines : (ended : Ended NodeStop (Live directory.Unit)) (out now : List Entry) → Said (on_devices (step_of g (suc i) e st)) ended out now → (added : List Entry) × (now ≡ out ++ added) × AllByRecursion (IsSaidAt untold g.script g.number g.life (suc i)) added
      step_lines ended out now said =
          told_lines held (λ x read at of_epoch round of. tt) ended out now said

      pub next_known : (end : Live directory.Unit) → IsNodeThrough c any_shares st m.message None end None → (Reads c reshare st held.apart m.message → IsApart end.inclusion) → Known (suc i) end
      next_known end node apart =
          record { stood = step_next None end None node; held = told_next held (λ x read at of_epoch round of. tt) None end None node apart }

      step_comes : (ended : Ended NodeStop (Live directory.Unit)) (out now : List Entry) → Said (on_devices (step_of g (suc i) e st)) ended out now → Came (Why (suc i)) (λ end. Known (suc i) end × Clear (suc i)) ended
      step_comes ended out now said =
          by_end ended (came_to (IsFaultBy (IsStopThrough c any_shares st m.message None)) (λ end. IsNodeThrough c any_shares st m.message None end None) its_step ended out now
          (comes_anywhere (IsFaultBy (IsStopThrough c any_shares st m.message None)) (IsNodeThrough c any_shares st m.message None) its_step
          (node_steps_come_through c any_shares st m.message None (through_at g here (suc i)) (lacks_nobody g (suc i)) (λ h epoch found. tt)
          (step_taken g e m.message m.brings c st) its_live (stood.at).active))
          (on_course ended out now said))
          (told_apart held (λ x read at of_epoch round of. tt) ended out now said)
        where
          by_end : (ended : Ended NodeStop (Live directory.Unit))
              → CameTo (IsFaultBy (IsStopThrough c any_shares st m.message None)) (λ end. IsNodeThrough c any_shares st m.message None end None) ended
              → CameTo (λ (stop : NodeStop). ⊤) (λ end. Reads c reshare st held.apart m.message → IsApart end.inclusion) ended
              → Came (Why (suc i)) (λ end. Known (suc i) end × Clear (suc i)) ended
          by_end (went end) node apart = (next_known end node apart, step_clear None node.mid None (node.next).is)
          by_end (stopped stop) (own, is, why) apart = (own, is, step_why any_shares None own why)
          by_end (broken its) came apart = tt

-- WHAT IS TOLD on the way

-- each entry has its cause
abbrev pub Judges : Script → Setting → Progress → Entry → Type 0
Judges script s p one = IsBlamedSo script p one

-- .. and each answer is so, and what a step that was completed has told
abbrev Says : Script → Setting → Progress → Entry → Type 0
Says script s p one = IsBlamedSo script p one × (IsAnswer script p one × TellsCommit (alone script) p one)

-- entries that are in order lead on, where each of them is judged
judged_by : (script : Script) (P Q : Setting → Progress → Type 0) (out now added : List Entry) → now ≡ out ++ added → ((s : Setting) (p : Progress) → P s p → Each s (Says script s) p added)
    → Moves IsInOrder P Q out now → Moves (Says script) P Q out now
judged_by script P Q out now added is each moves = record {
  added = added;
  parts = is;
  each = each;
  to = subst (λ (xs : List Entry). (s : Setting) (p : Progress) → P s p → Q s (fold (read s) p xs)) same moves.to;
  no_fault = subst EndsWell same moves.no_fault;
}
  where
    same : moves.added ≡ added
    same = append_cancel_left out moves.added added (sym moves.parts ∙ is)

one_quiet : (script : Script) (p : Progress) (one : Entry) → IsQuiet one → IsBlamedSo script p one
one_quiet script p (entry.Step step) quiet = absurd quiet
one_quiet script p (entry.Fault its) quiet = absurd quiet
one_quiet script p one quiet = tt

-- such entries are what the step in hand has written
quiet_written : (s : Setting) (p : Progress) (one : Entry) → IsQuiet one → (read s p one).written ≡ p.written ++ one ∷ []
quiet_written s p (entry.Opened life restored) quiet = absurd quiet
quiet_written s p (entry.Cut step call) quiet = absurd quiet
quiet_written s p (entry.Step step) quiet = absurd quiet
quiet_written s p (entry.Fault its) quiet = absurd quiet
quiet_written s p one quiet = refl

all_written : (s : Setting) (added : List Entry) (p : Progress) → AllByRecursion IsQuiet added → (fold (read s) p added).written ≡ p.written ++ added
all_written s [] p quiet = sym (append-nil p.written)
all_written s (one ∷ added) p quiet =
    all_written s added (read s p one) quiet.1 ∙ ap (λ (xs : List Entry). xs ++ added) (quiet_written s p one quiet.0) ∙ append_assoc p.written (one ∷ []) added

-- it leaves the life and the step in hand
pub same_position : (s : Setting) (p : Progress) (one : Entry) → IsQuiet one → ((read s p one).cuts ≡ p.cuts) × ((read s p one).step ≡ p.step)
same_position s p (entry.Opened life restored) quiet = absurd quiet
same_position s p (entry.Cut step call) quiet = absurd quiet
same_position s p (entry.Step step) quiet = absurd quiet
same_position s p (entry.Fault its) quiet = absurd quiet
same_position s p one quiet = (refl, refl)

-- where a fault is told
abbrev pub TellsWhy : Script → Fault → Setting → Progress → Type 0
TellsWhy script its s p = IsWhyNow script p its

-- a course that stops by its own faults for this reason is ended for it, or from outside
stop_why : (Reason : Fault → Type 0) (outside : (its : Fault) → IsFromOutside its → Reason its) (course : Course directory.Unit NodeStop (Live directory.Unit)) (Next : Live directory.Unit → Type 0)
    → ((ended : Ended NodeStop (Live directory.Unit)) (out now : List Entry) → Said (on_devices course) ended out now → CameTo (λ (stop : NodeStop). (own : Fault) × (stop ≡ Faulted own) × Reason own) Next ended)
    → (stop : Stop) (out now : List Entry) → Said (on_devices course) (by_node_stop stop) out now → IfFault stop Reason
stop_why Reason outside course Next comes AtCut out now said = tt
stop_why Reason outside course Next comes Failed out now said = tt
stop_why Reason outside course Next comes (FaultOf its) out now said = by_kind (own_or_outside its)
  where
    by_kind : IsFromOutside its ⊎ (by_node_stop {S = Live directory.Unit} (FaultOf its) ≡ stopped (Faulted its)) → Reason its
    by_kind (inl out) = outside its out
    by_kind (inr own) =
        let came = comes (stopped (Faulted its)) out now (subst (λ (e : Ended NodeStop (Live directory.Unit)). Said (on_devices course) e out now) own said) in
        subst Reason (sym (own_fault came.1)) came.2

module _ (script : Script) (life : Life) (l : ℕ) (life_is : slice_get script.lives l ≡ Some life) where
  -- what is said of the step in hand
  here_now : (P : (l : ℕ) → Life → (step : ℕ) → Type 0) (j : ℕ) (p : Progress) → length p.cuts ≡ l → p.step ≡ j → P l life j → IsSomeAnd (slice_get script.lives (length p.cuts)) (λ its. P (length p.cuts) its p.step)
  here_now P j p lives step so =
      subst (λ (n : ℕ). IsSomeAnd (slice_get script.lives n) (λ its. P n its p.step)) (sym lives)
      (subst (λ (o : Option Life). IsSomeAnd o (λ its. P l its p.step)) (sym life_is) (subst (λ (k : ℕ). P l life k) (sym step) so))

  said_now : (j : ℕ) (p : Progress) (one : Entry) → length p.cuts ≡ l → p.step ≡ j → IsSaidAt untold script l life j one → IsAnswer script p one
  said_now j p (entry.Answer request answer) lives step said = here_now (λ n x k. IsAnsweredSo script n x (awaited_epoch (alone script) n x (k - 1)) k request answer) j p lives step (answered_so untold script l life (awaited_epoch (alone script) l life (j - 1)) j request answer said)
  said_now j p one lives step said = tt

  commit_now : (j : ℕ) (p : Progress) (one : Entry) → length p.cuts ≡ l → p.step ≡ j → IsQuiet one → CommitsInto script l life j one → TellsCommit (alone script) p one
  commit_now j p (entry.Committed epoch share) lives step quiet into = here_now (λ n x k. ComesInto (alone script) n x k epoch) j p lives step into
  commit_now j p (entry.Step done) lives step quiet into = absurd quiet
  commit_now j p one lives step quiet into = tt

  all_quiet : (j : ℕ) (s : Setting) (p : Progress) (added : List Entry) → AllByRecursion IsQuiet added → AllByRecursion (IsSaidAt untold script l life j) added → AllByRecursion (CommitsInto script l life j) added → length p.cuts ≡ l → p.step ≡ j
      → Each s (Says script s) p added
  all_quiet j s p [] quiet said into lives step = tt
  all_quiet j s p (one ∷ added) quiet said into lives step =
      let same = same_position s p one quiet.0 in (
        (one_quiet script p one quiet.0, (said_now j p one lives step said.0, commit_now j p one lives step quiet.0 into.0)),
        all_quiet j s (read s p one) added quiet.1 said.1 into.1 (ap length same.0 ∙ lives) (same.1 ∙ step),
      )

  why_now : (j : ℕ) (p : Progress) (its : Fault) → length p.cuts ≡ l → p.step ≡ j → IsWhy script l life j its → IsWhyNow script p its
  why_now j p its lives step why = inr (here_now (λ n x k. IsWhy script n x k its) j p lives step why)

  abbrev Ends : Result (Unit {0}) Stop → Setting → Progress → Type 0
  Ends how s p = EndsBy (TellsWhy script) life l how s p

  stops_in : (j : ℕ) (opened : Bool) (stop : Stop) (s : Setting) (p : Progress) → (stop ≡ AtCut → IsCutWithin life.cut j) → IfFault stop (IsWhy script l life j) → IsWithin life l j opened s p → Ends (Err stop) s p
  stops_in j opened AtCut s p cuts why is = cut_within life l j opened s p (cuts refl) is
  stops_in j opened (FaultOf its) s p cuts why is = why_now j p its is.lives is.step why
  stops_in j opened Failed s p cuts why is = tt

  wanted : (P : Setting → Progress → Type 0) (t new : Trace) → new ≡ t → Moves (Says script) P (Ends (Err (FaultOf NoMemory))) t.out new.out
  wanted P t new is = moves_none (Says script) P (Ends (Err (FaultOf NoMemory))) t.out new.out (ap (λ (x : Trace). x.out) is) (λ s p at. inl tt)

  quiet_part : (j : ℕ) (out now : List Entry) → (IsCutBefore life.cut j → ⊥) → (adds : AddsQuiet out now) → AllByRecursion (IsSaidAt untold script l life j) adds.added → AllByRecursion (CommitsInto script l life j) adds.added → Moves (Says script) (IsBefore life l j) (IsWithin life l j false) out now
  quiet_part j out now not adds said into =
      judged_by script (IsBefore life l j) (IsWithin life l j false) out now adds.added adds.parts (λ s p is. all_quiet j s p adds.added adds.quiet said into is.lives is.step) (quiet_so_far life l j out now not adds)

  opening_part : (out now : List Entry) → (IsCutBefore life.cut 0 → ⊥) → (adds : AddsOpening l out now) → AllByRecursion (IsSaidAt untold script l life 0) adds.more → AllByRecursion (CommitsInto script l life 0) adds.more → Moves (Says script) (IsBefore life l 0) (IsWithin life l 0 true) out now
  opening_part out now not adds said into = judged_by script (IsBefore life l 0) (IsWithin life l 0 true) out now (entry.Opened l adds.restored ∷ adds.more) adds.parts
      (λ s p is. ((tt, (tt, tt)), all_quiet 0 s (read s p (entry.Opened l adds.restored)) adds.more adds.quiet said into is.lives is.step)) (opened_so_far life l out now not adds)

  -- behind a step's entries, which tell what they have to
  abbrev IsToldIn : (j : ℕ) (opened : Bool) → Setting → Progress → Type 0
  IsToldIn j opened s p = IsWithin life l j opened s p × TellsInto script l life j p.written

  abbrev AddsTelling : (j : ℕ) → (out now : List Entry) → Type 0
  AddsTelling j out now = (lines : List Entry) × (now ≡ out ++ lines) × TellsInto script l life j lines

  told_part : (j : ℕ) (opened : Bool) (out now added : List Entry) → now ≡ out ++ added → ((s : Setting) (p : Progress) → p.written ≡ [] → (fold (read s) p added).written ≡ added) → AddsTelling j out now
      → Moves (Says script) (IsBefore life l j) (IsWithin life l j opened) out now → Moves (Says script) (IsBefore life l j) (IsToldIn j opened) out now
  told_part j opened out now added parts written tells moves = record {
    added = moves.added;
    parts = moves.parts;
    each = moves.each;
    to = λ s p is. (moves.to s p is, subst (λ (xs : List Entry). TellsInto script l life j (fold (read s) p xs).written) same_added (subst (TellsInto script l life j) (same_lines ∙ sym (written s p is.nothing)) tells.2));
    no_fault = moves.no_fault;
  }
    where
      same_added : added ≡ moves.added
      same_added = append_cancel_left out added moves.added (sym parts ∙ moves.parts)

      same_lines : tells.0 ≡ added
      same_lines = append_cancel_left out tells.0 added (sym tells.1 ∙ parts)

  step_part : (j : ℕ) (opened : Bool) (out : List Entry) → (j ≡ 0 → opened ≡ true) → IsClear script l life j → Moves (Says script) (IsToldIn j opened) (IsBehind life l j) out (out ++ entry.Step j ∷ [])
  step_part j opened out has clear = judged_by script (IsToldIn j opened) (IsBehind life l j) out (out ++ entry.Step j ∷ []) (entry.Step j ∷ []) refl
      (λ s p is. ((here_now (λ n x k. IsClear script n x k) j p is.0.lives is.0.step clear, (tt, here_now (λ n x k. TellsInto script n x k p.written) j p is.0.lives is.0.step is.1)), tt))
      (moves_within IsInOrder (IsWithin life l j opened) (IsToldIn j opened) (IsBehind life l j) (IsBehind life l j) out (out ++ entry.Step j ∷ []) (λ s p is. is.0) (λ s p is. is)
      (moves_step life l j opened out (out ++ entry.Step j ∷ []) has refl))

  -- A STEP with its fuse, of a course whose lines keep within it; where it is lit, it is reached
  module _ (j : ℕ) (opened : Bool) (has : j ≡ 0 → opened ≡ true) (course : Course directory.Unit NodeStop (Live directory.Unit)) (Next : Live directory.Unit → Type 0) (uncut : IsUncut life.cut j)
      (comes : IsReached life.cut j → (ended : Ended NodeStop (Live directory.Unit)) (out now : List Entry) → Said (on_devices course) ended out now
      → CameTo (λ (stop : NodeStop). (own : Fault) × (stop ≡ Faulted own) × IsWhy script l life j own) (λ end. Next end × IsClear script l life j) ended)
      (early : IsReached life.cut j → (IsCutBefore life.cut j → ⊥) → (stop : Stop) (out now : List Entry) → Said (on_devices course) (by_node_stop stop) out now
      → Moves (Says script) (IsBefore life l j) (λ s p. (so : Bool) × IsWithin life l j so s p) out now)
      (whole : IsReached life.cut j → (IsCutBefore life.cut j → ⊥) → (end : Live directory.Unit) (out now : List Entry) → Said (on_devices course) (went end) out now → Moves (Says script) (IsBefore life l j) (IsToldIn j opened) out now) where
    steps_judged : (fuse : Option Burn) → fuse_for life.cut j ≡ fuse → (t new : Trace) (how : Result (Unit {0}) Stop) (next : Live directory.Unit → Trace → Type 0)
        → (IsReached life.cut j → (end : Live directory.Unit) (mid : Trace) → Next end → next end mid → Moves (Says script) (IsBehind life l j) (Ends how) mid.out new.out)
        → Steps by_entries (entry.Step j) fuse course t how new next → Moves (Says script) (IsBefore life l j) (Ends how) t.out new.out
    steps_judged None none t new how next after its = subst (λ (r : Result (Unit {0}) Stop). Moves (Says script) (IsBefore life l j) (Ends r) t.out new.out) (sym its.0)
        (moves_none (Says script) (IsBefore life l j) (IsAtCut life l) t.out new.out (ap (λ (x : Trace). x.out) its.1) (λ s p is. cut_before life l j s p (unlit life.cut j none) is))
    steps_judged (Some f) lit t new how next after (inl wants) = subst (λ (r : Result (Unit {0}) Stop). Moves (Says script) (IsBefore life l j) (Ends r) t.out new.out) (sym wants.0)
        (wanted (IsBefore life l j) t new wants.1)
    steps_judged (Some f) lit t new how next after (inr (inl (stop, is, goes))) = subst (λ (r : Result (Unit {0}) Stop). Moves (Says script) (IsBefore life l j) (Ends r) t.out new.out) (sym is)
        (moves_within (Says script) (IsBefore life l j) (IsBefore life l j) (λ s p. (so : Bool) × IsWithin life l j so s p) (Ends (Err stop)) t.out new.out (λ s p at. at)
        (λ s p at. stops_in j at.0 stop s p (cut_is stop goes.2)
        (stop_why (IsWhy script l life j) (λ own out. inl out) course (λ end. Next end × IsClear script l life j) (comes (reached_lit life.cut j f lit uncut)) stop t.out new.out goes.0) at.1)
        (early (reached_lit life.cut j f lit uncut) (lit_begins life.cut j f lit) stop t.out new.out goes.0))
      where
        cut_is : (stop : Stop) → (by_node_stop {S = Live directory.Unit} stop ≡ broken by_cut → 0 < f.call) → stop ≡ AtCut → IsCutWithin life.cut j
        cut_is stop so is_cut = lit_within life.cut j f lit (so (ap (λ (x : Stop). by_node_stop {S = Live directory.Unit} x) is_cut))
    steps_judged (Some f) lit t new how next after (inr (inr (end, mid, goes, inl wants))) = subst (λ (r : Result (Unit {0}) Stop). Moves (Says script) (IsBefore life l j) (Ends r) t.out new.out) (sym wants.0)
        (moves_then (Says script) (IsBefore life l j) (IsToldIn j opened) (Ends (Err (FaultOf NoMemory))) t.out mid.out new.out (whole (reached_lit life.cut j f lit uncut) (lit_begins life.cut j f lit) end t.out mid.out goes.0)
        (wanted (IsToldIn j opened) mid new wants.1))
    steps_judged (Some f) lit t new how next after (inr (inr (end, mid, goes, inr so))) =
        let reached = reached_lit life.cut j f lit uncut in
        let came = comes reached (went end) t.out mid.out goes.0 in
        moves_then (Says script) (IsBefore life l j) (IsToldIn j opened) (Ends how) t.out mid.out new.out (whole (reached_lit life.cut j f lit uncut) (lit_begins life.cut j f lit) end t.out mid.out goes.0)
        (moves_then (Says script) (IsToldIn j opened) (IsBehind life l j) (Ends how) mid.out (mid.out ++ entry.Step j ∷ []) new.out (step_part j opened mid.out has came.1)
        (after reached end (by_entries.says mid (entry.Step j)) came.0 so))

-- A LIFE

module _ (g : Lived) (here : IsLifeInForm g) where
  abbrev EndsHere : Result (Unit {0}) Stop → Setting → Progress → Type 0
  EndsHere how s p = EndsBy (TellsWhy g.script) g.life g.number how s p

  event_judged : (i : ℕ) (e : Event) (st : Live directory.Unit) → slice_get g.life.events i ≡ Some e → IsUncut g.life.cut (suc i) → Known g here i st → (t new : Trace) (how : Result (Unit {0}) Stop) (next : Live directory.Unit → Trace → Type 0)
      → (IsReached g.life.cut (suc i) → (end : Live directory.Unit) (mid : Trace) → Known g here (suc i) end → next end mid → Moves (Says g.script) (IsBehind g.life g.number (suc i)) (EndsHere how) mid.out new.out)
      → Steps by_entries (entry.Step (suc i)) (fuse_for g.life.cut (suc i)) (step_of g (suc i) e st) t how new next → Moves (Says g.script) (IsBefore g.life g.number (suc i)) (EndsHere how) t.out new.out
  event_judged i e st e_is uncut known t new how next after steps =
      steps_judged g.script g.life g.number here.life_is (suc i) false (λ first. absurd (later first)) (step_of g (suc i) e st) (Known g here (suc i)) uncut
      (λ reached ended out now said. step_comes g here i e e_is reached st known.stood known.held ended out now said)
      (λ reached not stop out now said. moves_within (Says g.script) (IsBefore g.life g.number (suc i)) (IsBefore g.life g.number (suc i)) (IsWithin g.life g.number (suc i) false) (λ s p. (so : Bool) × IsWithin g.life g.number (suc i) so s p) out now
      (λ s p at. at) (λ s p at. (false, at)) (part reached not (by_node_stop stop) out now said))
      (λ reached not end out now said.
      let adds : AddsQuiet out now = step_is_quiet g (suc i) e st (went end) out now said in
      told_part g.script g.life g.number here.life_is (suc i) false out now adds.added adds.parts
      (λ s p none. all_written s adds.added p adds.quiet ∙ ap (λ (xs : List Entry). xs ++ adds.added) none)
      (step_tells g here i e e_is reached (m g here i e e_is reached st known.stood) st (its_live g here i e e_is reached st known.stood) ((known.stood).at).stands (known.stood).tip end out now said)
      (part reached not (went end) out now said))
      (fuse_for g.life.cut (suc i)) refl t new how next after steps
    where
      later : suc i ≡ 0 → ⊥
      later first = omega (arith, first)

      part : IsReached g.life.cut (suc i) → (IsCutBefore g.life.cut (suc i) → ⊥) → (ended : Ended NodeStop (Live directory.Unit)) (out now : List Entry) → Said (on_devices (step_of g (suc i) e st)) ended out now
          → Moves (Says g.script) (IsBefore g.life g.number (suc i)) (IsWithin g.life g.number (suc i) false) out now
      part reached not ended out now said =
          let adds : AddsQuiet out now = step_is_quiet g (suc i) e st ended out now said in
          let lines = step_lines g here i e e_is reached st known.stood known.held ended out now said in
          let commits = step_commits g here i e e_is reached (m g here i e e_is reached st known.stood) st (its_live g here i e e_is reached st known.stood) ((known.stood).at).stands (known.stood).tip ended out now said in
          quiet_part g.script g.life g.number here.life_is (suc i) out now not adds
          (subst (λ (xs : List Entry). AllByRecursion (IsSaidAt untold g.script g.number g.life (suc i)) xs) (append_cancel_left out lines.0 adds.added (sym lines.1 ∙ adds.parts)) lines.2)
          (subst (λ (xs : List Entry). AllByRecursion (CommitsInto g.script g.number g.life (suc i)) xs) (append_cancel_left out commits.0 adds.added (sym commits.1 ∙ adds.parts)) commits.2)

  takes_judged : (i : ℕ) (events : List Event) (st : Live directory.Unit) (t new : Trace) (how : Result (Unit {0}) Stop) → i ≤ length g.life.events → events ≡ drop i g.life.events → IsUncut g.life.cut (suc i) → Known g here i st
      → TakesAll by_entries g (suc i) events st t how new → Moves (Says g.script) (IsBehind g.life g.number i) (EndsHere how) t.out new.out
  takes_judged i [] st t new how within rest uncut stood its =
      subst (λ (r : Result (Unit {0}) Stop). Moves (Says g.script) (IsBehind g.life g.number i) (EndsHere r) t.out new.out) (sym its.0)
      (moves_none (Says g.script) (IsBehind g.life g.number i) (IsBetween (g.number + 1)) t.out new.out (ap (λ (x : Trace). x.out) its.1) (λ s p at. at.last all))
    where
      all : i ≡ length g.life.events
      all = let none : 0 ≡ length g.life.events - i = ap length rest ∙ length-drop i g.life.events in omega (arith, within, none)
  takes_judged i (e ∷ events) st t new how within rest uncut stood takes =
      moves_then (Says g.script) (IsBehind g.life g.number i) (IsBefore g.life g.number (suc i)) (EndsHere how) t.out t.out new.out
      (moves_none (Says g.script) (IsBehind g.life g.number i) (IsBefore g.life g.number (suc i)) t.out t.out refl (λ s p at. subst (λ (j : ℕ). IsBefore g.life g.number j s p) (add-one i) (at.next below)))
      (event_judged i e st (item_at g.life.events i e events rest) uncut stood t new how (λ end mid. TakesAll by_entries g (suc i + 1) events end mid how new)
      (λ reached end mid next so. takes_judged (suc i) events end mid new how (omega (arith, below)) (rest_at g.life.events i e events rest) (before_suc g.life.cut (suc i) reached) next
      (subst (λ (j : ℕ). TakesAll by_entries g j events end mid how new) (add-one (suc i)) so)) takes)
    where
      below : i < length g.life.events
      below = let some : suc (length events) ≡ length g.life.events - i = ap length rest ∙ length-drop i g.life.events in omega (arith, some)

  opens_part : (IsCutBefore g.life.cut 0 → ⊥) → (ended : Ended NodeStop (Live directory.Unit)) (out now : List Entry) → Said (on_devices (node_opening (at_step g 0))) ended out now → AddsOpening g.number out now
      → Moves (Says g.script) (IsBefore g.life g.number 0) (IsWithin g.life g.number 0 true) out now
  opens_part not ended out now said adds = opening_part g.script g.life g.number here.life_is out now not adds (all_said adds.more none.1) commits.1
    where
      lines : (added : List Entry) × (now ≡ out ++ added) × AllByRecursion IsUnanswered added
      lines = opening_lines (at_step g 0) (form_at g here 0).reshare ended out now said

      none : AllByRecursion IsUnanswered (entry.Opened g.number adds.restored ∷ adds.more)
      none = subst (λ (xs : List Entry). AllByRecursion IsUnanswered xs) (append_cancel_left out lines.0 (entry.Opened g.number adds.restored ∷ adds.more) (sym lines.1 ∙ adds.parts)) lines.2

      its_commits : (added : List Entry) × (now ≡ out ++ added) × AllByRecursion (CommitsInto g.script g.number g.life 0) added
      its_commits = opening_commits_first g here ended out now said

      commits : AllByRecursion (CommitsInto g.script g.number g.life 0) (entry.Opened g.number adds.restored ∷ adds.more)
      commits = subst (λ (xs : List Entry). AllByRecursion (CommitsInto g.script g.number g.life 0) xs) (append_cancel_left out its_commits.0 (entry.Opened g.number adds.restored ∷ adds.more) (sym its_commits.1 ∙ adds.parts)) its_commits.2

      all_said : (xs : List Entry) → AllByRecursion IsUnanswered xs → AllByRecursion (IsSaidAt untold g.script g.number g.life 0) xs
      all_said [] all = tt
      all_said (one ∷ xs) all = (unanswered_so untold g 0 one all.0, all_said xs all.1)

  opens_within : (IsCutBefore g.life.cut 0 → ⊥) → (ended : Ended NodeStop (Live directory.Unit)) (out now : List Entry) → Said (on_devices (node_opening (at_step g 0))) ended out now → Opening g.number out now
      → Moves (Says g.script) (IsBefore g.life g.number 0) (λ s p. (so : Bool) × IsWithin g.life g.number 0 so s p) out now
  opens_within not ended out now said (inl same) = moves_none (Says g.script) (IsBefore g.life g.number 0) (λ s p. (so : Bool) × IsWithin g.life g.number 0 so s p) out now same (λ s p at. (false, begins g.life g.number 0 s p not at))
  opens_within not ended out now said (inr adds) = moves_within (Says g.script) (IsBefore g.life g.number 0) (IsBefore g.life g.number 0) (IsWithin g.life g.number 0 true) (λ s p. (so : Bool) × IsWithin g.life g.number 0 so s p) out now
      (λ s p at. at) (λ s p at. (true, at)) (opens_part not ended out now said adds)

  life_judged : (files : Files) (t new : Trace) (how : Result (Unit {0}) Stop) → LivesSo by_entries g files t how new → Moves (Says g.script) (IsBefore g.life g.number 0) (EndsHere how) t.out new.out
  life_judged files t new how (inl steps) =
      steps_judged g.script g.life g.number here.life_is 0 true (λ first. refl) (node_opening (at_step g 0)) (Known g here 0) (before_all g.life.cut) (λ reached. opening_comes g here)
      (λ reached not stop out now said. opens_within not (by_node_stop stop) out now said (opening_added g.number out now (by_node_stop stop) (opened_in g (by_node_stop stop) out now said)))
      (λ reached not end out now said.
      let adds : AddsOpening g.number out now = went_opened g.number out now end (opened_in g (went end) out now said) in
      told_part g.script g.life g.number here.life_is 0 true out now (entry.Opened g.number adds.restored ∷ adds.more) adds.parts
      (λ s p none. all_written s adds.more (read s p (entry.Opened g.number adds.restored)) adds.quiet ∙ ap (λ (xs : List Entry). (xs ++ entry.Opened g.number adds.restored ∷ []) ++ adds.more) none)
      (opening_tells g here end out now said) (opens_part not (went end) out now said adds))
      (fuse_for g.life.cut 0) refl t new how (λ end mid. TakesAll by_entries g 1 g.life.events end mid how new)
      (λ reached end mid next so. takes_judged 0 g.life.events end mid new how (omega arith) refl (before_suc g.life.cut 0 reached) next so) steps
  life_judged files t new how (inr refused) = absurd refused.1.2

-- ALL LIVES of a script, each of which is of the form

module _ (script : Script) (checked : IsChecked script) (each_over : (l : ℕ) (life : Life) (seen : Held → Seen) (files : Files) → slice_get script.lives l ≡ Some life → ReadsSomething seen → IsLifeInForm (lived script l life seen files)) where
  cut_judged : (life : Life) (l : ℕ) (its : cut.Cut) (out now : List Entry) → life.cut ≡ Some its → now ≡ out ++ entry.Cut its.step its.call ∷ [] → Moves (Says script) (IsAtCut life l) (IsBetween (l + 1)) out now
  cut_judged life l its out now cut_is is = judged_by script (IsAtCut life l) (IsBetween (l + 1)) out now (entry.Cut its.step its.call ∷ []) is (λ s p at. ((tt, (tt, tt)), tt)) (moves_cut life l its out now cut_is is)

  all_told : (first : Files → Type 0) (t new : Trace) (result : Result (Unit {0}) Fault) → RunsAllSo by_entries script first t result new
      → Moves (Says script) (IsBetweenOf script 0) (RunEndsBy (TellsWhy script) script result) t.out new.out
  all_told first t new result runs = all_move (Says script) (TellsWhy script) (λ s p. inl tt) cut_judged script
      (λ l life seen files at reads t mid how so. life_judged (lived script l life seen files) (each_over l life seen files at reads) files t mid how so)
      (λ its refused s p is. absurd (none_some (sym checked ∙ refused))) first t new result runs
    where
      none_some : {x : Fault} → ◌≡◌ {A = Option Fault} None (Some x) → ⊥
      none_some e = cc

  pub all_judged : (first : Files → Type 0) (t new : Trace) (result : Result (Unit {0}) Fault) → RunsAllSo by_entries script first t result new
      → Moves (Judges script) (IsBetweenOf script 0) (RunEndsBy (TellsWhy script) script result) t.out new.out
  all_judged first t new result runs =
      let moves = all_told first t new result runs in
      record { added = moves.added; parts = moves.parts; each = λ s p at. causes s p moves.added (moves.each s p at); to = moves.to; no_fault = moves.no_fault }
    where
      causes : (s : Setting) (p : Progress) (xs : List Entry) → Each s (Says script s) p xs → Each s (Judges script s) p xs
      causes s p [] each = tt
      causes s p (one ∷ xs) each = (each.0.0, causes s (read s p one) xs each.1)

  -- THE CLAUSES of causes, of answers, and of what is committed

  abbrev pub CommitsIn : List Entry → Type 0
  CommitsIn added = (files : Files) (held : Secrets) → AtEachEntry (setting_of script files held) (TellsCommit (setting_of script files held)) added

  abbrev Tells : List Entry → Type 0
  Tells added = BlamesSo script added × (AnswersSo script added × CommitsIn added)

  tells_so : (added : List Entry) → ((s : Setting) (p : Progress) → IsBetweenOf script 0 s p → Each s (Says script s) p added) → Tells added
  tells_so added each = (
    λ files held before one after is. (told files held before one after is).0,
    (λ files held before one after is. (told files held before one after is).1.0, λ files held before one after is. commit_over script files held (progress (setting_of script files held) before) one (told files held before one after is).1.1),
  )
    where
      told : (files : Files) (held : Secrets) → AtEachEntry (setting_of script files held) (Says script (setting_of script files held)) added
      told files held = let s = setting_of script files held in at_each s (Says script s) added (each_after s (Says script s) added (at_start s) (each s (at_start s) (starts script files held)))

  pub run_tells : (first : Files → Type 0) (t new : Trace) (answered : Result (Unit {0}) Fault) → RunsSo by_entries script first t answered new → Adds t.out new.out Tells
  run_tells first t new answered run = by_result run.result (all_told first t run.mid run.result run.lives) answered run.told
    where
      not_ok : (its : Fault) → TellsEnd by_entries (Err its) (Ok tt) run.mid new → ⊥
      not_ok its (inl wants) = let wrong : ◌≡◌ {A = Result (Unit {0}) Fault} (Ok tt) (Err NoMemory) = wants.0 in cc
      not_ok its (inr told) = let wrong : ◌≡◌ {A = Result (Unit {0}) Fault} (Ok tt) (Err its) = told.0 in cc

      unchanged : (Q : Setting → Progress → Type 0) → Moves (Says script) (IsBetweenOf script 0) Q t.out run.mid.out → new.out ≡ run.mid.out → Adds t.out new.out Tells
      unchanged Q moves same = (moves.added, same ∙ moves.parts, tells_so moves.added moves.each)

      faulted : (its : Fault) → Moves (Says script) (IsBetweenOf script 0) (TellsWhy script its) t.out run.mid.out → (answered : Fault) → TellsFault its answered run.mid.out new.out → Adds t.out new.out Tells
      faulted its moves answered (inl none) = unchanged (TellsWhy script its) moves none.1
      faulted its moves answered (inr told) = (
        moves.added ++ entry.Fault its ∷ [],
        told.2 ∙ ap (λ (xs : List Entry). xs ++ entry.Fault its ∷ []) moves.parts ∙ append_assoc t.out moves.added (entry.Fault its ∷ []),
        tells_so (moves.added ++ entry.Fault its ∷ []) (λ s p is. each_of_both s (Says script s) moves.added (entry.Fault its ∷ []) p (moves.each s p is) ((moves.to s p is, (tt, tt)), tt)),
      )

      by_result : (result : Result (Unit {0}) Fault) → Moves (Says script) (IsBetweenOf script 0) (RunEndsBy (TellsWhy script) script result) t.out run.mid.out
          → (answered : Result (Unit {0}) Fault) → TellsEnd by_entries result answered run.mid new → Adds t.out new.out Tells
      by_result (Ok done) moves answered told = unchanged (IsBetweenOf script (length script.lives)) moves (ap (λ (x : Trace). x.out) told.1)
      by_result (Err its) moves (Ok done) told = absurd (not_ok its told)
      by_result (Err its) moves (Err answered) told = faulted its moves answered (tells_fault its answered run.mid new told)

  pub run_blames : (first : Files → Type 0) (t new : Trace) (answered : Result (Unit {0}) Fault) → RunsSo by_entries script first t answered new → Adds t.out new.out (BlamesSo script)
  run_blames first t new answered run = let told = run_tells first t new answered run in (told.0, told.1, told.2.0)

  pub run_answers : (first : Files → Type 0) (t new : Trace) (answered : Result (Unit {0}) Fault) → RunsSo by_entries script first t answered new → Adds t.out new.out (AnswersSo script)
  run_answers first t new answered run = let told = run_tells first t new answered run in (told.0, told.1, told.2.1.0)

  pub run_commits : (first : Files → Type 0) (t new : Trace) (answered : Result (Unit {0}) Fault) → RunsSo by_entries script first t answered new → Adds t.out new.out CommitsIn
  run_commits first t new answered run = let told = run_tells first t new answered run in (told.0, told.1, told.2.1.1)
