-- Where the dealings that the devices give back pass their rounds' checks, they do so behind each step and each life over many epochs, wherever it ends.
use Rattle.std.proofs.Common.{◌≡◌, ◌⊎◌, inl, inr, true, ℕ, zero, suc, ◌<◌, ◌≤◌, List, [], ◌∷◌, Option, Some, None, Ok, refl, sym, ◌∙◌, ap, subst, length, arith}
use Rattle.std.specs.Prelude.{Contains, slice_get}
use Rattle.std.specs.FinMap.{get}
use Rattle.dkg_values.specs.IndexLaws.{index_of-Contains}
use Rattle.dkg_ceremony.specs.Dealings.{dealing_of}
use Rattle.dkg_ceremony.specs.declared.round.RoundParts.{RoundParts as Round}
use Rattle.dkg_journal.specs.Names.{Files}
use Rattle.dkg_types.specs.Blocks.{Block}
use Rattle.dkg_infos.specs.declared.directory.Unit as directory
use Rattle.dkg_text.specs.declared.script.Event.{Event}
use Rattle.dkg_text.specs.declared.script.Life.{Life}
use Rattle.dkg_script.specs.Blocks.{round_at}
use Rattle.dkg_script.specs.Consistent.{IsConsistentScript}
use Rattle.dkg_script.specs.Inclusion.{IsFormOfInclusion}
use Rattle.dkg_script.specs.Setting.{Setting, CutAt, life_at, me}
use Rattle.dkg_store.specs.Acts.{Ended, Held, World, broken, notes, stopped, went}
use Rattle.dkg_store.specs.Events.{IsEvent}
use Rattle.dkg_store.specs.Pairs.{IsWhole, Pairs}
use Rattle.dkg_store.specs.declared.event.Event.TheVariants as events
use Rattle.dkg_core.specs.Agreeing.{AreAgreed, BringsRecords, CanRecord}
use Rattle.dkg_core.specs.Behind.{RunsBehind, event_of}
use Rattle.dkg_core.specs.Core.{step}
use Rattle.dkg_core.specs.Courses.{Course, EndsSo}
use Rattle.dkg_core.specs.Dealing.{hears_peer_in}
use Rattle.dkg_core.specs.Fixed.{Fixed, Rules, has, stand_in}
use Rattle.dkg_core.specs.Forms.{IsMine, IsNodeBegun, LeavesHeld, held_behind}
use Rattle.dkg_core.specs.Heard.{Fits, MayHave, recovered_in}
use Rattle.dkg_core.specs.Laws.{IsAmong, reach_of}
use Rattle.dkg_core.specs.Live.{Finalized, Live, Message, NodeStop, Peer, Mailed, Stage}
use Rattle.dkg_core.specs.Meant.{ReadsRecords}
use Rattle.dkg_core.specs.Node.{node_opening, node_step}
use Rattle.dkg_core.specs.Seen.{Seen}
use Rattle.dkg_core.specs.Endings.{first_block}
use Rattle.dkg_laws.specs.NodeThrough.{IsNodeThrough}
use Rattle.dkg_core.specs.Through.{IsLiveThrough, IsTakenThrough}
use Rattle.dkg_core.proofs.Behind.{steps_run_behind}
use Rattle.dkg_laws.proofs.BlocksKept.{blocks_keep}
use Rattle.dkg_laws.proofs.NodeKept.{node_openings_agree, node_peers_are_kept, node_steps_agree}
use Rattle.dkg_laws.proofs.Openings.{node_openings_lead_over}
use Rattle.dkg_laws.proofs.NodeThrough.{node_steps_lead_through_over}
use Rattle.dkg_lives.specs.Epochs.{IsAtEvent, IsLifeInForm, any_shares}
use Rattle.dkg_lives.specs.Given.{Lived, at_step, lived, step_of}
use Rattle.dkg_promises.specs.GivesBack.{PassesAll}
use Rattle.dkg_lives.proofs.Awaiting.{IsReached}
use Rattle.dkg_lives.proofs.BlocksLeave.{gives_no_other}
use Rattle.dkg_along.proofs.Drawn.{HasRoundOf, begun_round, step_round}
use Rattle.dkg_along.proofs.FewPlayers.{HasFew, begun_few, next_few, own_fits}
use Rattle.dkg_lives.proofs.Former.{BringsBlock, BringsOther, BringsPeer, IsMessage, brings_kind, event_in_form, form_at, lacks_nobody, live_at, message_in, step_taken, through_at}
use Rattle.dkg_along.proofs.GivingLives.{KeepsSo, LeavesSo}
use Rattle.dkg_lives.proofs.Idle.{goes_nothing, idle_held}
use Rattle.dkg_lives.proofs.LivesStand.{begun_at}
use Rattle.dkg_lives.proofs.NoOthers.{IsOwnDealt, inserted}
use Rattle.dkg_lives.proofs.OpeningsLeave.{opening_gives, opening_whole}
use Rattle.dkg_lives.proofs.Stood.{step_stands}

some_is : {A : Type 0} {x y : A} → ◌≡◌ {A = Option A} (Some x) (Some y) → x ≡ y
some_is e = cc

among_has : (key : ℕ) (keys : List ℕ) → IsAmong key keys → Contains keys key
among_has key [] there = absurd there
among_has key (x ∷ xs) (inl is) = (0, omega arith, is)
among_has key (x ∷ xs) (inr there) = let c = among_has key xs there in (suc c.0, next c.0 xs c.1, c.2)
  where
    next : (n : ℕ) (ys : List ℕ) → n < length ys → suc n < length (x ∷ ys)
    next n ys low = omega (arith, low)

-- WHAT IS GIVEN BACK of whole devices passes
abbrev pub PassHeld : Setting → Held → Type 0
PassHeld s h = IsWhole (notes h) h.secrets × PassesAll s (recovered_in h)

module _ (s : Setting) (cuts : List (Option CutAt)) (form : IsFormOfInclusion s.script) (consistent : IsConsistentScript s cuts) (l : ℕ) (life : Life) (seen : Held → Seen) (files : Files) (life_is : life_at s l ≡ Some life)
    (here : IsLifeInForm (lived s.script l life seen files)) (reads : ReadsRecords seen) where
  abbrev g : Lived
  g = lived s.script l life seen files

  -- its own acknowledgements, and what its events bring, fit a record
  pub record FitsRecords : Type 0 where
    pub acks : (n : ℕ) (round : Round) (public : List ℕ) → IsEvent (events.Ack (at_step g n).me ((at_step g n).rules.ack_of (at_step g n).me round (at_step g n).me public))
    pub brings : (i : ℕ) (its : Event) → slice_get life.events i ≡ Some its → (m : IsMessage g its) → BringsRecords (at_step g (suc i)) m.message

  rules_at : (j : ℕ) → (at_step g j).rules ≡ stand_in
  unfolding at_step
  rules_at j = refl

  me_at : (j : ℕ) → (at_step g j).me ≡ me s
  unfolding at_step
  me_at j = refl

  reads_at : (j : ℕ) → ReadsRecords (at_step g j).seen
  unfolding at_step
  reads_at zero = reads
  reads_at (suc j) = record { dealings = λ h. refl; acks = λ h. refl; logs = λ h. refl }

  as_known : (j : ℕ) (round : Round) (dealer : ℕ) (public : List ℕ) (private : ℕ) → (at_step g j).rules.dealing_of round (at_step g j).me dealer public private ≡ Ok tt → dealing_of round (me s) dealer public private ≡ Ok tt
  unfolding at_step
  as_known j round dealer public private is = is

  -- memory and devices agree, and what they give back passes
  pub record IsPassing (j : ℕ) (st : Live directory.Unit) (h : Held) : Type 0 where
    pub at : IsAtEvent g j st
    pub rounds : HasRoundOf s st
    pub in_bound : HasFew st
    pub agreed : AreAgreed st.records h
    pub passes : PassesAll s (recovered_in h)

  leaves : (j : ℕ) (ended : Ended NodeStop (Live directory.Unit)) (h : Held) → PassHeld s h → ((end : Live directory.Unit) → ended ≡ went end → IsPassing j end h) → LeavesSo (PassHeld s) (IsPassing j) ended h
  leaves j (went end) h pass goes = goes end refl
  leaves j (stopped stop) h pass goes = pass
  leaves j (broken cause) h pass goes = pass

  -- AN OPENING
  module _ (w new : World) (pass : PassHeld s w.held) where
    opens_passing : (ended : Ended NodeStop (Live directory.Unit)) → EndsSo (node_opening (at_step g 0)) ended w new → PassHeld s new.held
    opens_passing ended run = (
      opening_whole (at_step g 0) (form_at g here 0) w ended new run pass.0,
      λ key pair round small got made. pass.1 key pair round small (opening_gives (at_step g 0) (form_at g here 0) w ended new run pass.0 key pair got) made,
    )

    opened_passing : (st : Live directory.Unit) → EndsSo (node_opening (at_step g 0)) (went st) w new → IsPassing 0 st new.held
    opened_passing st run =
        let k : Held = held_behind (at_step g 0) w.held in
        let led : IsNodeBegun (at_step g 0) ((at_step g 0).seen k) k st × LeavesHeld (at_step g 0) k new.held (first_block (at_step g 0)) = node_openings_lead_over (at_step g 0) (went st) w new (form_at g here 0) (lacks_nobody g 0) run in
        record {
          at = begun_at g here ((at_step g 0).seen k) k st led.0;
          rounds = begun_round s cuts form consistent l life seen files life_is ((at_step g 0).seen k) k st led.0;
          in_bound = begun_few g here ((at_step g 0).seen k) k st led.0;
          agreed = node_openings_agree (at_step g 0) st w new (reads_at 0) pass.0 run;
          passes = (opens_passing (went st) run).1;
        }

  pub opening_keeps : (h : Held) → PassHeld s h → KeepsSo (PassHeld s) (IsPassing 0) (node_opening (at_step g 0)) h
  opening_keeps h pass ended w new at run =
      let before : PassHeld s w.held = subst (PassHeld s) (sym at) pass in
      leaves 0 ended new.held (opens_passing w new before ended run) (λ end is. opened_passing w new before end (subst (λ (e : Ended NodeStop (Live directory.Unit)). EndsSo (node_opening (at_step g 0)) e w new) is run))

  -- A STEP
  module _ (fits : FitsRecords) (i : ℕ) (its : Event) (is : slice_get life.events i ≡ Some its) (reached : IsReached life.cut (suc i)) (st : Live directory.Unit) (w new : World) (passing : IsPassing i st w.held) where
    abbrev c : Fixed directory.Unit
    c = at_step g (suc i)

    abbrev m : IsMessage g its
    m = message_in g its (event_in_form g here i its is)

    live : IsLiveThrough c any_shares st
    live = live_at g i (suc i) st (passing.at).live

    taken : IsTakenThrough c m.message st
    taken = step_taken g its m.message m.brings c st

    pub can : CanRecord c st m.message
    can = record { acks = fits.acks (suc i); dealing = own_fits g here (suc i) st live passing.in_bound; brings = fits.brings i its is m }

    -- one round of an epoch
    same_round : (round other : Round) (epoch : ℕ) → st.participation.round ≡ Some round → epoch ≡ round.number → round_at s epoch ≡ Some other → round ≡ other
    same_round round other epoch of number made = some_is (sym (passing.rounds round of) ∙ ap (round_at s) (sym number) ∙ made)

    -- A MESSAGE
    module _ (from : ℕ) (bytes : List ℕ) (fit : Fits c (from, bytes)) (ended : Ended NodeStop (Live directory.Unit)) (run : EndsSo (node_step c (event_of (Mailed (Peer from bytes))) st) ended w new) where
      -- without a round nothing is done
      pub unheard : st.participation.round ≡ None → new.held ≡ w.held
      unheard none =
          let b : RunsBehind (step c (Mailed (Peer from bytes)) st) ended w new = steps_run_behind c st (Mailed (Peer from bytes)) ended w new run in
          b.held ∙ ap (λ (x : World). x.held) (goes_nothing st b.half w b.mid (subst (λ (stage : Stage). EndsSo (hears_peer_in c from bytes st stage) b.half w b.mid) (live.stands.without none).0 b.run))

      more_pass : (round : Round) → st.participation.round ≡ Some round → (now : Pairs) → MayHave c st from round (recovered_in w.held) now → PassesAll s now
      more_pass round of now (inl same) = subst (PassesAll s) (sym same) passing.passes
      more_pass round of now (inr (public, private, accepted, with_it)) = λ key pair made small got there. elim (inserted (recovered_in w.held) (round.number, from) (public, private) key pair (subst (λ (pairs : Pairs). get pairs key ≡ Some pair) with_it got)) [
        | inl new_one ↦ this_one key pair made new_one there
        | inr was ↦ passing.passes key pair made small was there
      ]
        where
          this_one : (key : ℕ × ℕ) (pair : List ℕ × ℕ) (made : Round) → (key ≡ (round.number, from)) × ((public, private) ≡ pair) → round_at s key.0 ≡ Some made → dealing_of made (me s) key.1 pair.0 pair.1 ≡ Ok tt
          this_one key pair made both there =
              let number : key.0 ≡ round.number = ap (λ (k : ℕ × ℕ). k.0) both.0 in
              let accepted_round : accepted.round ≡ round = some_is (sym accepted.of_epoch ∙ of) in
              let valid : dealing_of accepted.round (me s) from public private ≡ Ok tt = as_known (suc i) accepted.round from public private accepted.valid in
              subst (λ (p : List ℕ × ℕ). dealing_of made (me s) key.1 p.0 p.1 ≡ Ok tt) both.1
              (subst (λ (k : ℕ × ℕ). dealing_of made (me s) k.1 public private ≡ Ok tt) (sym both.0)
              (subst (λ (r : Round). dealing_of r (me s) from public private ≡ Ok tt) (accepted_round ∙ same_round round made key.0 of number there) valid))

      heard : (o : Option Round) → st.participation.round ≡ o → PassHeld s new.held
      heard None none = subst (PassHeld s) (sym (unheard none)) ((passing.agreed).whole, passing.passes)
      heard (Some round) of =
          let kept = node_peers_are_kept c st from bytes round ended w new (recovered_in w.held) of (record { records = (passing.agreed).dealings; whole = (passing.agreed).whole; gives = refl; fits = fit.0; fits_ack = fit.1 }) run in
          (kept.whole, more_pass round of (recovered_in new.held) kept.gives)

    -- A BLOCK
    module _ (block : Block directory.Unit) (its_can : CanRecord c st (Finalized block)) (ended : Ended NodeStop (Live directory.Unit))
        (run : EndsSo (node_step c (event_of (Finalized block)) st) ended w new) where
      own_valid : (key : ℕ × ℕ) (pair : List ℕ × ℕ) → (own : IsOwnDealt c st key pair) → dealing_of own.round (me s) (me s) pair.0 pair.1 ≡ Ok tt
      own_valid key pair own =
          subst (λ (n : ℕ). dealing_of own.round n n pair.0 pair.1 ≡ Ok tt) (me_at (suc i))
          (sym (ap (λ (r : Rules). r.dealing_of own.round c.me c.me pair.0 pair.1) (rules_at (suc i)))
          ∙ subst (λ (public : List ℕ). c.rules.dealing_of own.round c.me c.me public pair.1 ≡ Ok tt) (sym own.public)
          (subst (λ (r : Round). c.rules.dealing_of r c.me c.me (own.dealer).public pair.1 ≡ Ok tt) same
          ((form_at g here (suc i)).ceremony.deals_pass mine.0 mine.2.share mine.2.seed (own.dealer).public (own.dealer).privates pair.1 mine.2.member plays mine.2.dealt own.private)))
        where
          mine : (round : Round) × (st.participation.round ≡ Some round) × IsMine c round st.participation.stage own.dealer
          mine = (live.stands).mine own.dealer own.of_dealer

          same : mine.0 ≡ own.round
          same = some_is (sym mine.1 ∙ own.of_epoch)

          plays : has (mine.0).players c.me ≡ true
          plays = index_of-Contains c.me (mine.0).players (among_has c.me (mine.0).players (subst (λ (r : Round). IsAmong c.me r.players) (sym same) own.plays))

      block_passes : PassHeld s new.held
      block_passes = (
        (blocks_keep c block st ended (reach_of c (Finalized block)) w new (itself (reach_of c (Finalized block))) passing.agreed its_can run).whole,
        λ key pair round small got made. elim (gives_no_other c st block w passing.agreed its_can ended new run key pair got) [
          | inl was ↦ passing.passes key pair round small was made
          | inr own ↦ of_own key pair round own made
        ],
      )
        where
          itself : (n : ℕ) → n ≤ n
          itself n = omega arith

          of_own : (key : ℕ × ℕ) (pair : List ℕ × ℕ) (round : Round) → (own : IsOwnDealt c st key pair) → round_at s key.0 ≡ Some round → dealing_of round (me s) key.1 pair.0 pair.1 ≡ Ok tt
          of_own key pair round own made =
              let number : key.0 ≡ (own.round).number = ap (λ (k : ℕ × ℕ). k.0) own.at in
              let who : key.1 ≡ me s = ap (λ (k : ℕ × ℕ). k.1) own.at ∙ me_at (suc i) in
              subst (λ (n : ℕ). dealing_of round (me s) n pair.0 pair.1 ≡ Ok tt) (sym who)
              (subst (λ (r : Round). dealing_of r (me s) (me s) pair.0 pair.1 ≡ Ok tt) (same_round own.round round key.0 own.of_epoch number made) (own_valid key pair own))

    -- ANY STEP, wherever it ends
    module _ (ended : Ended NodeStop (Live directory.Unit)) (run : EndsSo (step_of g (suc i) its st) ended w new) where
      run_here : EndsSo (node_step c (event_of m.message) st) ended w new
      run_here = subst (λ (course : Course directory.Unit NodeStop (Live directory.Unit)). EndsSo course ended w new) (m.course (suc i) st) run

      step_passes : PassHeld s new.held
      step_passes = by_kind (brings_kind g its m.message m.brings)
        where
          as_run : (message : Message directory.Unit) → m.message ≡ message → EndsSo (node_step c (event_of message) st) ended w new
          as_run message is = subst (λ (x : Message directory.Unit). EndsSo (node_step c (event_of x) st) ended w new) is run_here

          by_kind : BringsBlock g its m.message ⊎ (BringsPeer its m.message ⊎ BringsOther its m.message) → PassHeld s new.held
          by_kind (inl b) = block_passes (b.1).block (subst (λ (x : Message directory.Unit). CanRecord c st x) b.3 can) ended (as_run (Finalized (b.1).block) b.3)
          by_kind (inr (inl p)) = heard p.0 p.1 (subst (BringsRecords c) p.3 can.brings) ended (as_run (Mailed (Peer p.0 p.1)) p.3) st.participation.round refl
          by_kind (inr (inr mail)) =
              subst (PassHeld s) (sym (idle_held c mail.0 mail.2 st ended w new (passing.at).active (as_run (Mailed mail.0) mail.1))) ((passing.agreed).whole, passing.passes)

    step_goes : (end : Live directory.Unit) → EndsSo (step_of g (suc i) its st) (went end) w new → IsPassing (suc i) end new.held
    step_goes end run =
        let its_run : EndsSo (node_step c (event_of m.message) st) (went end) w new = run_here (went end) run in
        let led : IsNodeThrough c any_shares st m.message (Some w.held) end (Some new.held)
        = node_steps_lead_through_over c any_shares st m.message (went end) w new (through_at g here (suc i)) (lacks_nobody g (suc i)) (λ h epoch found. tt) taken live (passing.at).active its_run in
        record {
          at = record { live = led.live; active = led.active; stands = step_stands g here i its is reached m st live (passing.at).stands (Some w.held) end (Some new.held) led };
          rounds = step_round s cuts form consistent l life seen files life_is i its is reached m st live (Some w.held) end (Some new.held) (form_at g here (suc i)) led passing.rounds;
          in_bound = next_few g here (suc i) st end m.message (Some w.held) (Some new.held) live led passing.in_bound;
          agreed = node_steps_agree c st end m.message w new passing.agreed can its_run;
          passes = (step_passes (went end) run).1;
        }

  pub step_keeps : FitsRecords → (i : ℕ) (its : Event) (st : Live directory.Unit) (h : Held) → slice_get life.events i ≡ Some its → IsReached life.cut (suc i) → IsPassing i st h → KeepsSo (PassHeld s) (IsPassing (suc i)) (step_of g (suc i) its st) h
  step_keeps fits i its st h is reached passing ended w new at run =
      let before : IsPassing i st w.held = subst (IsPassing i st) (sym at) passing in
      leaves (suc i) ended new.held (step_passes fits i its is reached st w new before ended run)
      (λ end went_to. step_goes fits i its is reached st w new before end (subst (λ (e : Ended NodeStop (Live directory.Unit)). EndsSo (step_of g (suc i) its st) e w new) went_to run))
