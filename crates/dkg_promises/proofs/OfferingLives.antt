-- A life over many epochs, over devices that tell: what it offers is what this node's share and the stored seed of its epoch deal in the script's round, and the seed is stored when it ends.
use Rattle.std.proofs.Common.{◌≡◌, ◌⊎◌, inl, inr, Bool, true, false, ℕ, zero, suc, ◌+◌, ◌-◌, ◌<◌, ◌≤◌, ◌∷◌, [], List, Option, Some, None, Result, Ok, Err, cond, max, refl, sym, ◌∙◌, ap, subst, drop, length, add-one, arith, append-nil}
use Rattle.std.specs.Prelude.{IfSome, ◌==◌, if◌then◌else◌, slice_get}
use Rattle.std.specs.List.{AllByRecursion}
use Rattle.std.specs.FinMap.{get}
use Rattle.std.proofs.lemmas.Bool.Decides.{nat_tests}
use Rattle.std.proofs.lemmas.List.{length-drop}
use Rattle.dkg_journal.specs.Burn.{Burn}
use Rattle.dkg_journal.specs.Names.{Files}
use Rattle.dkg_ceremony.specs.Schedule.{epoch_of}
use Rattle.dkg_ceremony.specs.declared.round.RoundParts.{RoundParts as Round}
use Rattle.dkg_infos.specs.declared.directory.Unit as directory
use Rattle.dkg_infos.specs.declared.entry.Entry.{Entry}
use Rattle.dkg_infos.specs.declared.entry.Entry.TheVariants as entry
use Rattle.dkg_infos.specs.declared.fault.Fault.TheVariants.{NoMemory}
use Rattle.dkg_text.specs.declared.script.Cut as cut
use Rattle.dkg_text.specs.declared.script.Event.{Event}
use Rattle.dkg_text.specs.declared.script.Event.TheVariants as event
use Rattle.dkg_text.specs.declared.script.Life.{Life}
use Rattle.dkg_script.specs.Blocks.{round_at}
use Rattle.dkg_script.specs.Consistent.{IsConsistentScript}
use Rattle.dkg_script.specs.Epochs.{alone}
use Rattle.dkg_script.specs.Inclusion.{IsFormOfInclusion}
use Rattle.dkg_script.specs.Setting.{Setting, CutAt, blocks_per_epoch, life_at, me}
use Rattle.dkg_store.specs.Acts.{Ended, Held, World, broken, by_cut, says, went}
use Rattle.dkg_core.specs.Behind.{event_of}
use Rattle.dkg_core.specs.Courses.{Course, EndsSo, on_devices}
use Rattle.dkg_core.specs.Fixed.{stand_in}
use Rattle.dkg_core.specs.Forms.{IsNodeBegun, LeavesHeld, held_behind}
use Rattle.dkg_core.specs.Laws.{reach_of}
use Rattle.dkg_core.specs.Live.{Live, Message, NodeStop, Participation}
use Rattle.dkg_core.specs.Node.{node_opening, node_step}
use Rattle.dkg_laws.specs.NodeThrough.{IsNodeThrough}
use Rattle.dkg_core.specs.Through.{IsLiveThrough, IsTakenThrough, unasked}
use Rattle.dkg_core.specs.Seen.{Seen}
use Rattle.dkg_core.specs.Offering.{IsOfferOf}
use Rattle.dkg_core.specs.Storing.{KeepsSeeds, ReadsSecrets}
use Rattle.dkg_core.specs.Endings.{first_block}
use Rattle.dkg_core.proofs.Counted.{cuts_fall}
use Rattle.dkg_core.proofs.Offering.{node_offers_are_dealt}
use Rattle.dkg_laws.proofs.Openings.{node_openings_lead_over}
use Rattle.dkg_laws.proofs.Said.{runs_say}
use Rattle.dkg_laws.proofs.NodeThrough.{node_steps_lead_through_over}
use Rattle.dkg_core.proofs.Storing.{node_steps_keep_secrets}
use Rattle.dkg_life.specs.declared.stop.Stop.{Stop}
use Rattle.dkg_life.specs.declared.stop.Stop.TheVariants.{Cut, Failed, Fault as FaultOf}
use Rattle.dkg_lives.specs.Ended.{by_node_stop}
use Rattle.dkg_lives.specs.Epochs.{IsAtEvent, IsLifeInForm, any_shares, awaited_by, epoch_by}
use Rattle.dkg_lives.specs.Given.{Lived, at_step, lived, step_of}
use Rattle.dkg_lives.specs.Lives.{LivesSo, Steps, TakesAll, fuse_for, fuse_within, never}
use Rattle.dkg_lives.specs.Ways.{by_worlds}
use Rattle.dkg_lives.proofs.Awaiting.{HasHeight, IsBefore, IsReached, before_all, block_behind, has_height, reached_lit}
use Rattle.dkg_lives.proofs.Delivered.{epochs_rise, from_first}
use Rattle.dkg_along.proofs.Drawn.{HasRoundOf, begun_round, step_round}
use Rattle.dkg_lives.proofs.Former.{Brings, BringsBlock, BringsMail, IsMadeOf, IsMessage, brings_so, event_in_form, form_at, lacks_nobody, live_at, message_in, step_taken, through_at}
use Rattle.dkg_along.proofs.HeightsRise.{awaited_rise}
use Rattle.dkg_lives.proofs.LivesStand.{begun_at}
use Rattle.dkg_lives.proofs.NextLives.{with_round}
use Rattle.dkg_promises.proofs.OfferedHalves.{HasOffered, IsDealtAt, IsOfferedNow, more_offered, unoffered_now}
use Rattle.dkg_lives.proofs.OpeningsStore.{IsUnoffered, IsUpkept, openings_upkeep}
use Rattle.dkg_lives.proofs.Started.{first_epoch_is}
use Rattle.dkg_lives.proofs.Stood.{step_stands}
use Rattle.dkg_promises.proofs.StoredDealers.{DealsStored, IsStoredDealer, begun_stored, step_stored, stored_on}

some_is : {A : Type 0} {x y : A} → ◌≡◌ {A = Option A} (Some x) (Some y) → x ≡ y
some_is e = cc

none_some : {A : Type 0} {x : A} → ◌≡◌ {A = Option A} None (Some x) → ⊥
none_some e = cc

same_number : (n m : ℕ) → (n == m) ≡ true → n ≡ m
same_number n m e = grind (arith, nat_tests)

rest_at : {A : Type 0} (all : List A) (i : ℕ) (its : A) (more : List A) → its ∷ more ≡ drop i all → more ≡ drop (suc i) all
rest_at [] zero its more is = absurd (let wrong : its ∷ more ≡ [] = is in cc)
rest_at [] (suc i) its more is = absurd (let wrong : its ∷ more ≡ [] = is in cc)
rest_at (x ∷ all) zero its more is = let so : its ∷ more ≡ x ∷ all = is in cc
rest_at (x ∷ all) (suc i) its more is = rest_at all i its more is

item_at : {A : Type 0} (all : List A) (i : ℕ) (its : A) (more : List A) → its ∷ more ≡ drop i all → slice_get all i ≡ Some its
item_at [] zero its more is = absurd (let wrong : its ∷ more ≡ [] = is in cc)
item_at [] (suc i) its more is = absurd (let wrong : its ∷ more ≡ [] = is in cc)
item_at (x ∷ all) zero its more is = let so : its ∷ more ≡ x ∷ all = is in cc
item_at (x ∷ all) (suc i) its more is = item_at all i its more is

-- WHERE A LIFE ENDS

-- how many events a life took that its script cuts there
abbrev pub taken_by : cut.Cut → ℕ
taken_by its = if its.call == 0 then its.step - 1 else its.step

-- So many of its events were taken at most: where the script cuts it, those up to the cut.
abbrev pub IsTop : Life → Result (Unit {0}) Stop → ℕ → Type 0
IsTop life (Ok done) top = top ≤ length life.events
IsTop life (Err Cut) top = IfSome life.cut (λ its. top ≤ taken_by its)
IsTop life (Err stop) top = Unit {0}

-- a step that isn't begun is the one before which the script cuts
cut_before : (o : Option cut.Cut) (j top : ℕ) → top ≤ j - 1 → fuse_for o j ≡ None → IfSome o (λ its. top ≤ taken_by its)
cut_before None j top low none = tt
cut_before (Some at) j top low none = by_step (at.step == j) refl none
  where
    by_call : at.step ≡ j → (t : Bool) → (at.call == 0) ≡ t → cond {A = Option Burn} t None (Some (record { call = at.call; pick = at.pick; spent = 0 })) ≡ None → top ≤ taken_by at
    by_call same true e none = subst (λ (t : Bool). top ≤ (if t then at.step - 1 else at.step)) (sym e) (omega (arith, same, low))
    by_call same false e none = absurd (none_some (sym none))

    by_step : (t : Bool) → (at.step == j) ≡ t → cond t (fuse_within at) (Some never) ≡ None → top ≤ taken_by at
    by_step true e none = by_call (same_number at.step j e) (at.call == 0) refl none
    by_step false e none = absurd (none_some (sym none))

-- a step with a fuse that can burn is the one within which it does
cut_within : (o : Option cut.Cut) (j : ℕ) (f : Burn) → fuse_for o j ≡ Some f → f.spent < f.call → IfSome o (λ its. j ≤ taken_by its)
cut_within None j f lit burns = tt
cut_within (Some at) j f lit burns = by_step (at.step == j) refl lit
  where
    cold : never ≡ f → ⊥
    cold same = let none : 0 < 0 = subst (λ (g : Burn). g.spent < g.call) (sym same) burns in omega (arith, none)

    by_call : at.step ≡ j → (t : Bool) → (at.call == 0) ≡ t → cond {A = Option Burn} t None (Some (record { call = at.call; pick = at.pick; spent = 0 })) ≡ Some f → j ≤ taken_by at
    by_call same true e lit = absurd (none_some lit)
    by_call same false e lit = subst (λ (t : Bool). j ≤ (if t then at.step - 1 else at.step)) (sym e) (omega (arith, same))

    by_step : (t : Bool) → (at.step == j) ≡ t → cond t (fuse_within at) (Some never) ≡ Some f → j ≤ taken_by at
    by_step true e lit = by_call (same_number at.step j e) (at.call == 0) refl lit
    by_step false e lit = absurd (cold (some_is lit))

burns : {S : Type 0} (course : Course directory.Unit NodeStop S) (w new : World) (stop : Stop) → EndsSo course (by_node_stop stop) w new → stop ≡ Cut → w.fuse.spent < w.fuse.call
burns {S} course w new stop run is = (cuts_fall course (broken by_cut) w new (subst (λ (x : Stop). EndsSo course (by_node_stop {S = S} x) w new) is run)).0

stop_top : (life : Life) (j : ℕ) (stop : Stop) → (stop ≡ Cut → IfSome life.cut (λ its. j ≤ taken_by its)) → IsTop life (Err stop) j
stop_top life j Cut so = so refl
stop_top life j Failed so = tt
stop_top life j (FaultOf fault) so = tt

module _ (s : Setting) (cuts : List (Option CutAt)) (form : IsFormOfInclusion s.script) (consistent : IsConsistentScript s cuts) (l : ℕ) (life : Life) (seen : Held → Seen) (files : Files) (life_is : life_at s l ≡ Some life)
    (here : IsLifeInForm (lived s.script l life seen files)) (reads : ReadsSecrets seen) where
  abbrev g : Lived
  g = lived s.script l life seen files

  rules_at : (j : ℕ) → (at_step g j).rules ≡ stand_in
  unfolding at_step
  rules_at j = refl

  me_at : (j : ℕ) → (at_step g j).me ≡ me s
  unfolding at_step
  me_at j = refl

  reads_at : (j : ℕ) → ReadsSecrets (at_step g j).seen
  unfolding at_step
  reads_at zero = reads
  reads_at (suc j) = record { shares = λ h. refl; seeds = λ h. refl }

  some : 1 ≤ blocks_per_epoch s
  some = one (blocks_per_epoch s) here.long
    where
      one : (n : ℕ) → 2 ≤ n → 1 ≤ n
      one n long = omega (arith, long)

  -- A STATE behind the first j events, over devices that hold h
  pub record IsStanding (j : ℕ) (st : Live directory.Unit) (h : Held) : Type 0 where
    pub at : IsAtEvent g j st
    pub rounds : HasRoundOf s st
    pub deals : DealsStored (me s) st h

  -- AN OPENING

  pub opening_stands : (st : Live directory.Unit) (w new : World) → EndsSo (node_opening (at_step g 0)) (went st) w new → IsStanding 0 st new.held
  opening_stands st w new run =
      let k : Held = held_behind (at_step g 0) w.held in
      let led : IsNodeBegun (at_step g 0) ((at_step g 0).seen k) k st × LeavesHeld (at_step g 0) k new.held (first_block (at_step g 0)) = node_openings_lead_over (at_step g 0) (went st) w new (form_at g here 0) (lacks_nobody g 0) run in
      record {
        at = begun_at g here ((at_step g 0).seen k) k st led.0;
        rounds = begun_round s cuts form consistent l life seen files life_is ((at_step g 0).seen k) k st led.0;
        deals = subst (λ (n : ℕ). DealsStored n st new.held) (me_at 0) (begun_stored (at_step g 0) (rules_at 0) ((at_step g 0).seen k) k new.held st led.0 led.1);
      }

  pub opening_offers : (most next : ℕ) (base : List Entry) (ended : Ended NodeStop (Live directory.Unit)) (w new : World) → most ≤ next → epoch_by g 0 - 1 ≤ next → HasOffered s most base w
      → EndsSo (node_opening (at_step g 0)) ended w new → HasOffered s next base new
  opening_offers most next base ended w new rises low before run =
      let kept : IsUpkept (at_step g 0) (reads_at 0) next w new
      = openings_upkeep (at_step g 0) (reads_at 0) next w (form_at g here 0) (subst (λ (e : ℕ). e - 1 ≤ next) (sym (first_epoch_is g here 0)) low) ended new run in
      more_offered s most next rises base w new before kept.lines kept.out kept.seeds_held (unoffered_now s most w.held kept.lines kept.unoffered)

  -- A STEP

  module _ (i : ℕ) (its : Event) (is : slice_get life.events i ≡ Some its) (reached : IsReached life.cut (suc i)) (st : Live directory.Unit) (w : World) (standing : IsStanding i st w.held) where
    abbrev m : IsMessage g its
    m = message_in g its (event_in_form g here i its is)

    live : IsLiveThrough (at_step g (suc i)) any_shares st
    live = live_at g i (suc i) st (standing.at).live

    taken : IsTakenThrough (at_step g (suc i)) m.message st
    taken = step_taken g its m.message m.brings (at_step g (suc i)) st

    -- it prunes nothing of the epoch before the awaited one behind it
    reach_low : reach_of (at_step g (suc i)) m.message ≤ epoch_by g (suc i) - 1
    unfolding at_step
    reach_low = by_event its is m.message m.brings
      where
        of_height : (number : ℕ) (made : IsMadeOf s.script number) → slice_get life.events i ≡ Some (event.Final number) → epoch_of (blocks_per_epoch s) ((made.block).height + 1) - 1 ≤ epoch_by g (suc i) - 1
        of_height number made at =
            let has : HasHeight (alone s.script) number made.block = has_height (alone s.script) number made.block made.line made.line_is made.is in
            let behind = block_behind (alone s.script) l life i number has.b at reached has.there in
            let low = epochs_rise (blocks_per_epoch s) ((made.block).height + 1) (awaited_by g (suc i)) some (upto (made.block).height (has.b).height (awaited_by g i) (awaited_by g (suc i)) has.same behind) in
            less (epoch_of (blocks_per_epoch s) ((made.block).height + 1)) (epoch_by g (suc i)) low
          where
            upto : (a b c d : ℕ) → a ≡ b → d ≡ max c (b + 1) → a + 1 ≤ d
            upto a b c d one two = omega (arith, one, two)

            less : (a b : ℕ) → a ≤ b → a - 1 ≤ b - 1
            less a b low = omega (arith, low)

        by_event : (e : Event) → slice_get life.events i ≡ Some e → (message : Message directory.Unit) → Brings g e message → reach_of (at_step g (suc i)) message ≤ epoch_by g (suc i) - 1
        by_event e at message brings = by_brought (brings_so g e message brings)
          where
            by_brought : BringsBlock g e message ⊎ BringsMail e message → reach_of (at_step g (suc i)) message ≤ epoch_by g (suc i) - 1
            by_brought (inl b) = subst (λ (x : Message directory.Unit). reach_of (at_step g (suc i)) x ≤ epoch_by g (suc i) - 1) (sym b.3) (of_height b.0 b.1 (at ∙ ap (λ (x : Event). Some x) b.2))
            by_brought (inr mail) = subst (λ (x : Message directory.Unit). reach_of (at_step g (suc i)) x ≤ epoch_by g (suc i) - 1) (sym mail.1) (omega arith)

    module _ (ended : Ended NodeStop (Live directory.Unit)) (new : World) (run : EndsSo (step_of g (suc i) its st) ended w new) where
      run_here : EndsSo (node_step (at_step g (suc i)) (event_of m.message) st) ended w new
      run_here = subst (λ (course : Course directory.Unit NodeStop (Live directory.Unit)). EndsSo course ended w new) (m.course (suc i) st) run

      kept : (next : ℕ) → epoch_by g (suc i) - 1 ≤ next → KeepsSeeds next w.held new
      kept next low = (node_steps_keep_secrets (at_step g (suc i)) st m.message ended next w new (reads_at (suc i)) (upto (reach_of (at_step g (suc i)) m.message) (epoch_by g (suc i) - 1) next reach_low low) run_here).0
        where
          upto : (a b c : ℕ) → a ≤ b → b ≤ c → a ≤ c
          upto a b c one two = omega (arith, one, two)

      -- what is offered now its stored dealer deals
      module _ (most : ℕ) (below : most ≤ epoch_by g i) where
        one_offer : (line : Entry) → IsOfferOf (at_step g (suc i)) st line → IsOfferedNow s most w.held line
        one_offer (entry.Offer epoch player public private) offered = (here_now, dealt)
          where
            stored : IsStoredDealer (me s) st offered.dealer w.held
            stored = standing.deals offered.dealer offered.of_dealer

            same_round : offered.round ≡ stored.round
            same_round = some_is (sym offered.of_epoch ∙ stored.of_epoch)

            number_is : (stored.round).number ≡ epoch
            number_is = ap (λ (r : Round). r.number) (sym same_round) ∙ sym offered.of_round

            epoch_is : epoch ≡ epoch_by g i
            epoch_is = sym number_is ∙ (live.stands).numbered stored.round stored.of_epoch ∙ ((standing.at).stands).epoch (with_round (at_step g (suc i)) (unasked st) stored.round live.stands stored.of_epoch)

            here_now : most ≤ epoch
            here_now = subst (λ (e : ℕ). most ≤ e) (sym epoch_is) below

            dealt : IsDealtAt s w.held epoch player public private
            dealt = record {
              round = stored.round;
              round_is = subst (λ (e : ℕ). round_at s e ≡ Some stored.round) number_is (standing.rounds stored.round stored.of_epoch);
              share = stored.share;
              seed = stored.seed;
              privates = (offered.dealer).privates;
              dealt = stored.dealt ∙ ap (λ (x : List ℕ). Ok (x, (offered.dealer).privates)) (sym offered.is_public);
              half = offered.is_private;
              fits = stored.fits;
              seed_is = subst (λ (e : ℕ). get w.held.secrets.seeds e ≡ Some stored.seed) number_is stored.seed_is;
            }
        one_offer line offered = tt

        all_offers : (lines : List Entry) → AllByRecursion (IsOfferOf (at_step g (suc i)) st) lines → AllByRecursion (IsOfferedNow s most w.held) lines
        all_offers [] all = tt
        all_offers (line ∷ lines) all = (one_offer line all.0, all_offers lines all.1)

        pub step_offers : (next : ℕ) (base : List Entry) → most ≤ next → epoch_by g (suc i) - 1 ≤ next → HasOffered s most base w → HasOffered s next base new
        step_offers next base rises low before =
            let offers = node_offers_are_dealt (at_step g (suc i)) st m.message ended w.out new.out (runs_say (on_devices (node_step (at_step g (suc i)) (event_of m.message) st)) ended w new run_here) in
            let held = kept next low in
            more_offered s most next rises base w new before offers.0 offers.1 held (all_offers offers.0 offers.2)

    pub step_keeps : (end : Live directory.Unit) (new : World) → EndsSo (step_of g (suc i) its st) (went end) w new → IsStanding (suc i) end new.held
    step_keeps end new run =
        let led : IsNodeThrough (at_step g (suc i)) any_shares st m.message (Some w.held) end (Some new.held)
        = node_steps_lead_through_over (at_step g (suc i)) any_shares st m.message (went end) w new (through_at g here (suc i)) (lacks_nobody g (suc i)) (λ h epoch found. tt) taken live (standing.at).active (run_here (went end) new run) in
        let at : IsAtEvent g (suc i) end = record { live = led.live; active = led.active; stands = step_stands g here i its is reached m st live (standing.at).stands (Some w.held) end (Some new.held) led } in
        let held = kept (went end) new run (epoch_by g (suc i) - 1) (omega arith) in
        let same : end.participation ≡ (led.mid).participation = ap (λ (x : Live directory.Unit). x.participation) led.same in
        let low : (round : Round) → (led.mid).participation.round ≡ Some round → epoch_by g (suc i) - 1 ≤ round.number
        = λ round of. upto round.number (epoch_by g (suc i)) (((led.next).live).stands.numbered round of ∙ ap (λ (p : Participation directory.Unit). p.epoch) (sym same)
        ∙ (at.stands).epoch (λ follows. with_round (at_step g (suc i)) (unasked led.mid) round ((led.next).live).stands of (ap (λ (p : Participation directory.Unit). p.stage) (sym same) ∙ follows))) in
        let behind : DealsStored (at_step g (suc i)).me led.mid new.held
        = step_stored (at_step g (suc i)) (rules_at (suc i)) (reads_at (suc i)) any_shares (form_at g here (suc i)) st m.message w.held new.held led.mid live led.next
        (subst (λ (n : ℕ). DealsStored n st w.held) (sym (me_at (suc i))) standing.deals) (λ round of seed got. held round.number seed (low round of) got) in
        record {
          at = at;
          rounds = step_round s cuts form consistent l life seen files life_is i its is reached m st live (Some w.held) end (Some new.held) (form_at g here (suc i)) led standing.rounds;
          deals = λ d there. subst (λ (n : ℕ). IsStoredDealer n end d new.held) (me_at (suc i))
              (stored_on (at_step g (suc i)).me led.mid end d d new.held new.held (ap (λ (p : Participation directory.Unit). p.round) same) refl refl (λ round of seed is. is)
              (behind d (sym (ap (λ (p : Participation directory.Unit). p.dealer) same) ∙ there)));
        }
      where
        upto : (a b : ℕ) → a ≡ b → b - 1 ≤ a
        upto a b same = omega (arith, same)

  -- ALL STEPS, where what was offered before the life is known from an epoch on that isn't above its first

  -- from where it is known behind the first j events
  abbrev pub least_at : (most j : ℕ) → ℕ
  least_at most j = max most (epoch_by g j - 1)

  -- How the life left it: so many of its events were taken at most.
  pub record IsLeft (most : ℕ) (base : List Entry) (how : Result (Unit {0}) Stop) (new : World) : Type 0 where
    pub top : ℕ
    pub bound : IsTop life how top
    pub offered : HasOffered s (least_at most top) base new

  -- another count of calls
  with_fuse : (most : ℕ) (base : List Entry) (w : World) (f : Burn) → HasOffered s most base w → HasOffered s most base (record w { fuse = f })
  with_fuse most base w f its = record { added = its.added; out = its.out; same = its.same; dealt = its.dealt }

  told : (most : ℕ) (base : List Entry) (mid : World) (line : Entry) → IsUnoffered line → HasOffered s most base mid → HasOffered s most base (says mid line)
  told most base mid line none its =
      more_offered s most most (omega arith) base mid (says mid line) its (line ∷ []) refl (λ epoch seed above got. got) (unoffered_now s most mid.held (line ∷ []) (none, tt))

  before_suc : (its : Option cut.Cut) (j : ℕ) → IsReached its j → IsBefore its (suc j)
  before_suc None j reached = tt
  before_suc (Some cut) j reached = λ none. let low : j < cut.step = reached none in omega (arith, low)

  module _ (most : ℕ) (base : List Entry) (first : most ≤ epoch_by g 0) where
    below_at : (i : ℕ) → least_at most i ≤ epoch_by g i
    below_at i = under most (epoch_by g 0) (epoch_by g i) first (from_first (alone s.script) l life some i)
      where
        under : (m a b : ℕ) → m ≤ a → a ≤ b → max m (b - 1) ≤ b
        under m a b one two = omega (arith, one, two)

    rises_at : (i : ℕ) → least_at most i ≤ least_at most (suc i)
    rises_at i = more most (epoch_by g i) (epoch_by g (suc i)) (awaited_rise (alone s.script) l life some i (suc i) (omega arith))
      where
        more : (m a b : ℕ) → a ≤ b → max m (a - 1) ≤ max m (b - 1)
        more m a b low = omega (arith, low)

    has_at : (i : ℕ) → epoch_by g i - 1 ≤ least_at most i
    has_at i = omega arith

    at_top : (how its : Result (Unit {0}) Stop) (new w : World) (j : ℕ) → how ≡ its → new ≡ w → IsTop life its j → HasOffered s (least_at most j) base w → IsLeft most base how new
    at_top how its new w j is same bound offered = record { top = j; bound = subst (λ (r : Result (Unit {0}) Stop). IsTop life r j) (sym is) bound; offered = subst (HasOffered s (least_at most j) base) (sym same) offered }

    takes_offer : (events : List Event) (i : ℕ) → i ≤ length life.events → events ≡ drop i life.events → IsBefore life.cut (suc i) → (st : Live directory.Unit) (w : World) → IsStanding i st w.held
        → HasOffered s (least_at most i) base w → (how : Result (Unit {0}) Stop) (new : World) → TakesAll by_worlds g (suc i) events st w how new → IsLeft most base how new
    takes_offer [] i within rest before st w standing offered how new takes = at_top how (Ok tt) new w i takes.0 takes.1 within offered
    takes_offer (its ∷ events) i within rest before st w standing offered how new takes =
        by_fuse (λ end mid before standing offered more. takes_offer events (suc i) (omega (arith, below)) (rest_at life.events i its events rest) before end mid standing offered how new more) (fuse_for life.cut (suc i)) refl takes
      where
        below : i < length life.events
        below = let more : suc (length events) ≡ length life.events - i = ap length rest ∙ length-drop i life.events in omega (arith, more)

        is : slice_get life.events i ≡ Some its
        is = item_at life.events i its events rest

        On : Type 0
        On = (end : Live directory.Unit) (mid : World) → IsBefore life.cut (suc (suc i)) → IsStanding (suc i) end mid.held → HasOffered s (least_at most (suc i)) base mid → TakesAll by_worlds g (suc (suc i)) events end mid how new → IsLeft most base how new

        offers : (f : Burn) → fuse_for life.cut (suc i) ≡ Some f → (ended : Ended NodeStop (Live directory.Unit)) (now : World) → EndsSo (step_of g (suc i) its st) ended (record w { fuse = f }) now → HasOffered s (least_at most (suc i)) base now
        offers f lit ended now run =
            step_offers i its is (reached_lit life.cut (suc i) f lit before) st (record w { fuse = f }) standing ended now run (least_at most i) (below_at i) (least_at most (suc i)) base (rises_at i) (has_at (suc i)) (with_fuse (least_at most i) base w f offered)

        by_fuse : On → (o : Option Burn) → fuse_for life.cut (suc i) ≡ o → Steps by_worlds (entry.Step (suc i)) o (step_of g (suc i) its st) w how new (λ end mid. TakesAll by_worlds g (suc i + 1) events end mid how new) → IsLeft most base how new
        by_fuse on None lit steps = at_top how (Err Cut) new w i steps.0 steps.1 (cut_before life.cut (suc i) i (omega arith) lit) offered
        by_fuse on (Some f) lit (inl wants) = at_top how (Err (FaultOf NoMemory)) new w i wants.0 wants.1 tt offered
        by_fuse on (Some f) lit (inr (inl (stop, by, goes))) =
            at_top how (Err stop) new new (suc i) by refl (stop_top life (suc i) stop (λ e. cut_within life.cut (suc i) f lit (burns (step_of g (suc i) its st) (record w { fuse = f }) new stop goes.0 e))) (offers f lit (by_node_stop stop) new goes.0)
        by_fuse on (Some f) lit (inr (inr (end, mid, goes, inl wants))) = at_top how (Err (FaultOf NoMemory)) new mid (suc i) wants.0 wants.1 tt (offers f lit (went end) mid goes.0)
        by_fuse on (Some f) lit (inr (inr (end, mid, goes, inr more))) =
            on end (says mid (entry.Step (suc i))) (before_suc life.cut (suc i) (reached_lit life.cut (suc i) f lit before))
            (step_keeps i its is (reached_lit life.cut (suc i) f lit before) st (record w { fuse = f }) standing end mid goes.0) (told (least_at most (suc i)) base mid (entry.Step (suc i)) tt (offers f lit (went end) mid goes.0))
            (subst (λ (j : ℕ). TakesAll by_worlds g j events end (says mid (entry.Step (suc i))) how new) (add-one (suc i)) more)

    -- A LIFE, wherever it ends
    pub life_offers : (w : World) (how : Result (Unit {0}) Stop) (new : World) → HasOffered s most base w → LivesSo by_worlds g files w how new → IsLeft most base how new
    life_offers w how new offered (inr refused) =
        at_top how (Err refused.1.0) new new 0 refused.1.1 refl (stop_top life 0 refused.1.0 (λ e. none_taken life.cut))
        (more_offered s most (least_at most 0) (omega arith) base w new offered [] (refused.1.2.1 ∙ sym (append-nil w.out)) (λ epoch seed above got. ap (λ x. get x.seeds epoch) ((refused.1.2.2).secrets) ∙ got) tt)
      where
        none_taken : (o : Option cut.Cut) → IfSome o (λ its. 0 ≤ taken_by its)
        none_taken None = tt
        none_taken (Some its) = omega arith
    life_offers w how new offered (inl opens) = by_fuse (fuse_for life.cut 0) refl opens
      where
        at_first : HasOffered s (least_at most 0) base w
        at_first = more_offered s most (least_at most 0) (omega arith) base w w offered [] (sym (append-nil w.out)) (λ epoch seed above got. got) tt

        offers : (f : Burn) (ended : Ended NodeStop (Live directory.Unit)) (now : World) → EndsSo (node_opening (at_step g 0)) ended (record w { fuse = f }) now → HasOffered s (least_at most 0) base now
        offers f ended now run = opening_offers most (least_at most 0) base ended (record w { fuse = f }) now (omega arith) (has_at 0) (with_fuse most base w f offered) run

        by_fuse : (o : Option Burn) → fuse_for life.cut 0 ≡ o → Steps by_worlds (entry.Step 0) o (node_opening (at_step g 0)) w how new (λ end mid. TakesAll by_worlds g 1 life.events end mid how new) → IsLeft most base how new
        by_fuse None lit steps = at_top how (Err Cut) new w 0 steps.0 steps.1 (cut_before life.cut 0 0 (omega arith) lit) at_first
        by_fuse (Some f) lit (inl wants) = at_top how (Err (FaultOf NoMemory)) new w 0 wants.0 wants.1 tt at_first
        by_fuse (Some f) lit (inr (inl (stop, by, goes))) =
            at_top how (Err stop) new new 0 by refl (stop_top life 0 stop (λ e. cut_within life.cut 0 f lit (burns (node_opening (at_step g 0)) (record w { fuse = f }) new stop goes.0 e))) (offers f (by_node_stop stop) new goes.0)
        by_fuse (Some f) lit (inr (inr (end, mid, goes, inl wants))) = at_top how (Err (FaultOf NoMemory)) new mid 0 wants.0 wants.1 tt (offers f (went end) mid goes.0)
        by_fuse (Some f) lit (inr (inr (end, mid, goes, inr more))) =
            takes_offer life.events 0 (omega arith) refl (before_suc life.cut 0 (reached_lit life.cut 0 f lit (before_all life.cut))) end (says mid (entry.Step 0)) (opening_stands end (record w { fuse = f }) mid goes.0)
            (told (least_at most 0) base mid (entry.Step 0) tt (offers f (went end) mid goes.0)) how new more
