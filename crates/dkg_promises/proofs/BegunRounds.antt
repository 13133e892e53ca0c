-- The round of a life is that of the info that begins its epoch, and its dealer deals what the share and the seed deal that are stored of it: behind an opening and behind each step, over devices
-- that tell.
use Rattle.std.proofs.Common.{◌≡◌, ◌⊎◌, inl, inr, ◌≤◌, ◌+◌, ℕ, suc, true, List, [], ◌∷◌, ◌++◌, max, Option, Some, None, refl, sym, ◌∙◌, ap, subst, arith, add-one}
use Rattle.std.specs.Prelude.{◌-◌, ◌==◌, IsSomeAnd, Ok, find, option_map, option_to_list, slice_get}
use Rattle.std.specs.FinMap.{get}
use Rattle.std.specs.List.{AllByRecursion}
use Rattle.std.proofs.lemmas.Bool.Decides.{nat_tests}
use Rattle.dkg_ceremony.specs.Schedule.{boundary, epoch_of, last}
use Rattle.dkg_ceremony.specs.declared.round.RoundParts.{RoundParts as Round}
use Rattle.dkg_secrets.specs.Secrets.{Secrets}
use Rattle.dkg_types.specs.BlockCodes.{info_of}
use Rattle.dkg_types.specs.Blocks.{Block}
use Rattle.dkg_infos.specs.declared.directory.Unit as directory
use Rattle.dkg_infos.specs.declared.info.EpochInfo.{EpochInfo}
use Rattle.dkg_store.specs.Acts.{Held, World, went}
use Rattle.dkg_text.specs.declared.script.Event.{Event}
use Rattle.dkg_text.specs.declared.script.Event.TheVariants as event
use Rattle.dkg_text.specs.declared.script.Script.{Script}
use Rattle.dkg_script.specs.Blocks.{anchor_number}
use Rattle.dkg_script.specs.Epochs.{alone}
use Rattle.dkg_core.specs.Behind.{event_of}
use Rattle.dkg_core.specs.Courses.{Course, EndsSo}
use Rattle.dkg_core.specs.Fixed.{stand_in}
use Rattle.dkg_core.specs.Forms.{IsNodeBegun, IsSeated, IsSetUpIn, LeavesHeld, held_behind, seed_read, share_read, started}
use Rattle.dkg_core.specs.Laws.{reach_of}
use Rattle.dkg_core.specs.Live.{Finalized, Live, Message, NodeStop, Participation, Mailed, is_last_height}
use Rattle.dkg_core.specs.Node.{node_opening, node_step}
use Rattle.dkg_core.specs.Seen.{Seen}
use Rattle.dkg_core.specs.Setup.{Standing, Uncommitted}
use Rattle.dkg_laws.specs.NodeThrough.{IsNodeThrough}
use Rattle.dkg_core.specs.Stepping.{OwnDiffers, next_epoch}
use Rattle.dkg_core.specs.Storing.{ReadsSecrets}
use Rattle.dkg_core.specs.Endings.{first_block, first_epoch}
use Rattle.dkg_core.specs.Through.{IsLiveThrough, IsNextThrough, IsTakenThrough, unasked}
use Rattle.dkg_laws.proofs.Openings.{node_openings_lead_over}
use Rattle.dkg_laws.proofs.NodeThrough.{node_steps_lead_through_over}
use Rattle.dkg_core.proofs.Storing.{node_steps_keep_secrets}
use Rattle.dkg_lives.specs.Blamed.{per_epoch}
use Rattle.dkg_lives.specs.Epochs.{IsAtEvent, IsLifeInForm, any_shares, awaited_by, epoch_by}
use Rattle.dkg_promises.specs.Found.{IsBegunBy, IsDealtBy}
use Rattle.dkg_lives.specs.Given.{Lived, at_step, blocks_in, step_of}
use Rattle.dkg_lives.proofs.Awaiting.{HasHeight, IsReached, block_behind, has_height}
use Rattle.dkg_lives.proofs.Delivered.{epochs_rise}
use Rattle.dkg_along.proofs.Drawn.{found_number}
use Rattle.dkg_lives.proofs.Former.{Brings, BringsBlock, BringsMail, IsMadeOf, IsMessage, brings_so, event_in_form, form_at, is_ceremony, lacks_nobody, live_at, message_in, step_taken, through_at}
use Rattle.dkg_lives.proofs.NextLives.{GoesOn, TakesOver, next_so, with_round}
use Rattle.dkg_lives.proofs.Started.{source_is}
use Rattle.dkg_lives.proofs.Stood.{step_stands}
use Rattle.dkg_promises.proofs.StoredDealers.{DealsStored, IsStoredDealer, begun_stored, step_stored, stored_on}

some_is : {A : Type 0} {x y : A} → ◌≡◌ {A = Option A} (Some x) (Some y) → x ≡ y
some_is e = cc

none_some : {A : Type 0} {x : A} → ◌≡◌ {A = Option A} None (Some x) → ⊥
none_some e = cc

-- Its round, if it has one, is drawn by the info of a block that begins that round's epoch.
abbrev pub HasDrawn : Script → Live directory.Unit → Type 0
HasDrawn script st = (round : Round) → st.participation.round ≡ Some round → IsBegunBy script round.number (λ its. its ≡ round)

begun_as : (script : Script) (epoch : ℕ) (P Q : Round → Type 0) → ((round : Round) → P round → Q round) → IsBegunBy script epoch P → IsBegunBy script epoch Q
begun_as script epoch P Q so was = record {
  number = was.number;
  block = was.block;
  is = was.is;
  begins = was.begins;
  info = was.info;
  carries = was.carries;
  draws = ((was.draws).0, (was.draws).1, ((was.draws).2.0, (was.draws).2.1, so (was.draws).2.0 (was.draws).2.2));
}

-- What its dealer deals, where another dealing is recorded, the stored share and seed deal.
module _ (g : Lived) (taken : ℕ) (st : Live directory.Unit) (h : Held) (drawn : HasDrawn g.script st) (deals : DealsStored g.script.config.me st h) where
  pub own_dealt : (epoch : ℕ) (kept dealt : List ℕ) → OwnDiffers (at_step g taken) st epoch kept dealt → (held : Secrets) → held.seeds ≡ h.secrets.seeds → held.shares ≡ h.secrets.shares
      → IsBegunBy g.script epoch (IsDealtBy g.script held epoch dealt)
  own_dealt epoch kept dealt own held seeds shares =
      subst (λ (e : ℕ). IsBegunBy g.script e (IsDealtBy g.script held e dealt)) (sym own.of_round)
      (begun_as g.script (own.round).number (λ its. its ≡ own.round) (IsDealtBy g.script held (own.round).number dealt) (λ round is. subst (IsDealtBy g.script held (own.round).number dealt) (sym is) here) (drawn own.round own.of_epoch))
    where
      stored : IsStoredDealer g.script.config.me st own.dealer h
      stored = deals own.dealer own.of_dealer

      same_round : stored.round ≡ own.round
      same_round = some_is (sym stored.of_epoch ∙ own.of_epoch)

      there : IsDealtBy g.script held (stored.round).number dealt stored.round
      there = (
        stored.seed,
        Some stored.share,
        (own.dealer).privates,
        ap (λ m. get m (stored.round).number) seeds ∙ stored.seed_is,
        inr stored.fits,
        stored.dealt ∙ ap (λ (public : List ℕ). Ok (public, (own.dealer).privates)) (sym own.is_dealt),
      )

      here : IsDealtBy g.script held (own.round).number dealt own.round
      here = subst (λ (round : Round). IsDealtBy g.script held round.number dealt round) same_round there

-- A LIFE

module _ (g : Lived) (here : IsLifeInForm g) where
  me_is : (taken : ℕ) → (at_step g taken).me ≡ g.script.config.me
  unfolding at_step
  me_is taken = refl

  all_units : (ns : List ℕ) → AllByRecursion (λ (n : ℕ). Unit {0}) ns
  all_units [] = tt
  all_units (n ∷ ns) = (tt, all_units ns)

  -- an epoch's last block begins the next
  pub last_begins : (taken : ℕ) (block : Block directory.Unit) → is_last_height (at_step g taken) block.height ≡ true → block.height ≡ boundary (per_epoch g.script) (next_epoch (at_step g taken) block)
  unfolding at_step
  last_begins taken block ends = equal block.height (last (per_epoch g.script) (epoch_of (per_epoch g.script) block.height)) ends ∙ ap (boundary (per_epoch g.script)) (sym (add-one (epoch_of (per_epoch g.script) block.height)))
    where
      equal : (x y : ℕ) → (x == y) ≡ true → x ≡ y
      equal x y e = grind (arith, nat_tests)

  -- the block that begins the epoch of an opening is one of the script
  pub first_there : (block : Block directory.Unit) → first_block (at_step g 0) ≡ Some block
      → (number : ℕ) × (slice_get (blocks_in g.script) number ≡ Some block) × Unit {0} × (block.height ≡ boundary (per_epoch g.script) (first_epoch (at_step g 0)))
  unfolding at_step
  first_there block there =
      found_number (blocks_in g.script) (boundary (per_epoch g.script) (first_epoch (at_step g 0))) (λ n. Unit {0}) block (g.life.held ++ option_to_list (option_map anchor_number g.life.anchor))
      (all_units (g.life.held ++ option_to_list (option_map anchor_number g.life.anchor)))
      (sym (ap (find (λ (x : Block directory.Unit). x.height == boundary (per_epoch g.script) (first_epoch (at_step g 0)))) (source_is (alone g.script) 0 g.life)) ∙ there)

  rules_at : (taken : ℕ) → (at_step g taken).rules ≡ stand_in
  unfolding at_step
  rules_at taken = refl

  seated_drawn : (taken : ℕ) (standing : Standing) (info : EpochInfo directory.Unit) (share : Option ℕ) (seed : List ℕ) (st end : Live directory.Unit) → IsSeated (at_step g taken) standing info share seed st end
      → (number : ℕ) (block : Block directory.Unit) → slice_get (blocks_in g.script) number ≡ Some block → block.height ≡ boundary (per_epoch g.script) st.participation.epoch → info_of block.payload ≡ Some info → HasDrawn g.script end
  unfolding at_step
  seated_drawn taken standing info share seed st end seated number block there begins carries round is =
      subst (λ (its : Round). IsBegunBy g.script its.number (λ x. x ≡ its)) (some_is (sym seated.in_round ∙ is))
      (subst (λ (epoch : ℕ). IsBegunBy g.script epoch (λ x. x ≡ seated.round)) (sym number_is)
      (record { number = number; block = block; is = there; begins = begins; info = info; carries = carries; draws = (seated.of_epoch, seated.valid, (seated.round, seated.drawn, refl)) }))
    where
      number_is : (seated.round).number ≡ st.participation.epoch
      number_is = (is_ceremony g taken).round_has _ st.participation.epoch _ _ _ _ _ seated.round seated.drawn

  -- AN OPENING

  begun_drawn : (read : Seen) (k : Held) (st : Live directory.Unit) → IsNodeBegun (at_step g 0) read k st → HasDrawn g.script st
  begun_drawn read k st begun round is = by_block (first_block (at_step g 0)) refl (begun.opened).set_up round (sym (ap (λ (x : Live directory.Unit). x.participation.round) (begun.entered).same) ∙ is)
    where
      by_info : (block : Block directory.Unit) → first_block (at_step g 0) ≡ Some block → (o : Option (EpochInfo directory.Unit)) → info_of block.payload ≡ o
          → IsSomeAnd o (λ info. IsSeated (at_step g 0) Uncommitted info (share_read (at_step g 0) info k) (seed_read (at_step g 0) info k) (started (at_step g 0) read) begun.before) → HasDrawn g.script begun.before
      by_info block there None carries none = absurd none
      by_info block there (Some info) carries seated =
          let found = first_there block there in
          seated_drawn 0 Uncommitted info (share_read (at_step g 0) info k) (seed_read (at_step g 0) info k) (started (at_step g 0) read) begun.before seated found.0 block found.1 found.3 carries

      by_block : (o : Option (Block directory.Unit)) → first_block (at_step g 0) ≡ o → IsSetUpIn (at_step g 0) read k begun.before o → HasDrawn g.script begun.before
      by_block None there set_up = λ round there. absurd (none_some (sym set_up.0 ∙ there))
      by_block (Some block) there set_up = by_info block there (info_of block.payload) refl set_up

  pub opening_deals : (st : Live directory.Unit) (w new : World) → EndsSo (node_opening (at_step g 0)) (went st) w new → HasDrawn g.script st × DealsStored g.script.config.me st new.held
  opening_deals st w new run =
      let k : Held = held_behind (at_step g 0) w.held in
      let led : IsNodeBegun (at_step g 0) ((at_step g 0).seen k) k st × LeavesHeld (at_step g 0) k new.held (first_block (at_step g 0)) = node_openings_lead_over (at_step g 0) (went st) w new (form_at g here 0) (lacks_nobody g 0) run in (
        begun_drawn ((at_step g 0).seen k) k st led.0,
        subst (λ (n : ℕ). DealsStored n st new.held) (me_is 0) (begun_stored (at_step g 0) (rules_at 0) ((at_step g 0).seen k) k new.held st led.0 led.1),
      )

  -- A STEP

  the_block : {x y : Block directory.Unit} → ◌≡◌ {A = Message directory.Unit} (Finalized x) (Finalized y) → x ≡ y
  the_block e = cc

  -- the block that it brings is one of the script
  there_of : (e : Event) (message : Message directory.Unit) → Brings g e message → (block : Block directory.Unit) → message ≡ Finalized block → (number : ℕ) × (slice_get (blocks_in g.script) number ≡ Some block)
  there_of e message brings block is = by_brought (brings_so g e message brings)
    where
      by_brought : BringsBlock g e message ⊎ BringsMail e message → (number : ℕ) × (slice_get (blocks_in g.script) number ≡ Some block)
      by_brought (inl b) = (b.0, (b.1).is ∙ ap (λ (x : Block directory.Unit). Some x) (the_block (sym b.3 ∙ is)))
      by_brought (inr mail) = absurd (let wrong : ◌≡◌ {A = Message directory.Unit} (Mailed mail.0) (Finalized block) = sym mail.1 ∙ is in cc)

  module _ (i : ℕ) (its : Event) (is : slice_get g.life.events i ≡ Some its) (reached : IsReached g.life.cut (suc i)) (st : Live directory.Unit) (at : IsAtEvent g i st) where
    abbrev m : IsMessage g its
    m = message_in g its (event_in_form g here i its is)

    live : IsLiveThrough (at_step g (suc i)) any_shares st
    live = live_at g i (suc i) st at.live

    taken : IsTakenThrough (at_step g (suc i)) m.message st
    taken = step_taken g its m.message m.brings (at_step g (suc i)) st

    reads : ReadsSecrets (at_step g (suc i)).seen
    unfolding at_step
    reads = record { shares = λ h. refl; seeds = λ h. refl }

    next_drawn : (h now : Held) (end : Live directory.Unit) → IsNextThrough (at_step g (suc i)) any_shares st m.message (Some h) end (Some now) → HasDrawn g.script st → HasDrawn g.script end
    next_drawn h now end next before = either (next_so (at_step g (suc i)) any_shares st m.message (Some h) end (Some now) (form_at g here (suc i)) live next)
      where
        either : GoesOn (at_step g (suc i)) st m.message end ⊎ TakesOver (at_step g (suc i)) any_shares st m.message (Some h) end (Some now) → HasDrawn g.script end
        either (inl goes) = λ round there. before round (sym (goes.same).round ∙ there)
        either (inr over) =
            let found = there_of its m.message m.brings over.block over.is in
            seated_drawn (suc i) _ (over.taken).on.info _ _ _ (unasked end) (over.taken).seated found.0 over.block found.1
            (last_begins (suc i) over.block over.last ∙ ap (boundary (per_epoch g.script)) (sym (over.taken).on.of_next ∙ ((over.taken).seated).of_epoch)) (over.taken).on.carried

    some : 1 ≤ per_epoch g.script
    some = one (per_epoch g.script) here.long
      where
        one : (n : ℕ) → 2 ≤ n → 1 ≤ n
        one n long = omega (arith, long)

    -- it prunes nothing of the epoch before the awaited one behind it
    reach_low : reach_of (at_step g (suc i)) m.message ≤ epoch_by g (suc i) - 1
    unfolding at_step
    reach_low = by_event its is m.message m.brings
      where
        of_height : (number : ℕ) (made : IsMadeOf g.script number) → slice_get g.life.events i ≡ Some (event.Final number) → epoch_of (per_epoch g.script) ((made.block).height + 1) - 1 ≤ epoch_by g (suc i) - 1
        of_height number made at =
            let has : HasHeight (alone g.script) number made.block = has_height (alone g.script) number made.block made.line made.line_is made.is in
            let behind = block_behind (alone g.script) g.number g.life i number has.b at reached has.there in
            let low = epochs_rise (per_epoch g.script) ((made.block).height + 1) (awaited_by g (suc i)) some (upto (made.block).height (has.b).height (awaited_by g i) (awaited_by g (suc i)) has.same behind) in
            less (epoch_of (per_epoch g.script) ((made.block).height + 1)) (epoch_by g (suc i)) low
          where
            upto : (a b c d : ℕ) → a ≡ b → d ≡ max c (b + 1) → a + 1 ≤ d
            upto a b c d one two = omega (arith, one, two)

            less : (a b : ℕ) → a ≤ b → a - 1 ≤ b - 1
            less a b low = omega (arith, low)

        by_event : (e : Event) → slice_get g.life.events i ≡ Some e → (message : Message directory.Unit) → Brings g e message → reach_of (at_step g (suc i)) message ≤ epoch_by g (suc i) - 1
        by_event e at message brings = by_brought (brings_so g e message brings)
          where
            by_brought : BringsBlock g e message ⊎ BringsMail e message → reach_of (at_step g (suc i)) message ≤ epoch_by g (suc i) - 1
            by_brought (inl b) = subst (λ (x : Message directory.Unit). reach_of (at_step g (suc i)) x ≤ epoch_by g (suc i) - 1) (sym b.3) (of_height b.0 b.1 (at ∙ ap (λ (x : Event). Some x) b.2))
            by_brought (inr mail) = subst (λ (x : Message directory.Unit). reach_of (at_step g (suc i)) x ≤ epoch_by g (suc i) - 1) (sym mail.1) (omega arith)

    pub step_deals : (end : Live directory.Unit) (w new : World) → EndsSo (step_of g (suc i) its st) (went end) w new → HasDrawn g.script st → DealsStored g.script.config.me st w.held
        → HasDrawn g.script end × DealsStored g.script.config.me end new.held
    step_deals end w new run drawn deals =
        let run_here : EndsSo (node_step (at_step g (suc i)) (event_of m.message) st) (went end) w new
        = subst (λ (course : Course directory.Unit NodeStop (Live directory.Unit)). EndsSo course (went end) w new) (m.course (suc i) st) run in
        let led : IsNodeThrough (at_step g (suc i)) any_shares st m.message (Some w.held) end (Some new.held)
        = node_steps_lead_through_over (at_step g (suc i)) any_shares st m.message (went end) w new (through_at g here (suc i)) (lacks_nobody g (suc i)) (λ h epoch found. tt) taken live at.active run_here in
        let stands = step_stands g here i its is reached m st live at.stands (Some w.held) end (Some new.held) led in
        let same : end.participation ≡ (led.mid).participation = ap (λ (x : Live directory.Unit). x.participation) led.same in
        let kept = node_steps_keep_secrets (at_step g (suc i)) st m.message (went end) (epoch_by g (suc i) - 1) w new reads reach_low run_here in
        let low : (round : Round) → (led.mid).participation.round ≡ Some round → epoch_by g (suc i) - 1 ≤ round.number
        = λ round of. upto round.number (epoch_by g (suc i)) (((led.next).live).stands.numbered round of ∙ ap (λ (p : Participation directory.Unit). p.epoch) (sym same)
        ∙ stands.epoch (λ follows. with_round (at_step g (suc i)) (unasked led.mid) round ((led.next).live).stands of (ap (λ (p : Participation directory.Unit). p.stage) (sym same) ∙ follows))) in
        let behind : DealsStored (at_step g (suc i)).me led.mid new.held
        = step_stored (at_step g (suc i)) (rules_at (suc i)) reads any_shares (form_at g here (suc i)) st m.message w.held new.held led.mid live led.next
        (subst (λ (n : ℕ). DealsStored n st w.held) (sym (me_is (suc i))) deals) (λ round of seed got. kept.0 round.number seed (low round of) got) in (
          λ round there. next_drawn w.held new.held led.mid led.next drawn round (sym (ap (λ (p : Participation directory.Unit). p.round) same) ∙ there),
          λ d there. subst (λ (n : ℕ). IsStoredDealer n end d new.held) (me_is (suc i))
              (stored_on (at_step g (suc i)).me led.mid end d d new.held new.held (ap (λ (p : Participation directory.Unit). p.round) same) refl refl (λ round of seed is. is)
              (behind d (sym (ap (λ (p : Participation directory.Unit). p.dealer) same) ∙ there))),
        )
      where
        upto : (a b : ℕ) → a ≡ b → b - 1 ≤ a
        upto a b same = omega (arith, same)
