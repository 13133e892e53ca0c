-- Whole devices stay whole over a run of many epochs, wherever it ends and whatever its script carries: each dealing that is recorded has its private half.
use Rattle.std.proofs.Common.{◌≡◌, ◌⊎◌, inl, inr, Some, ℕ, zero, suc, ◌≤◌, ◌<◌, ◌^◌, List, Option, None, Result, refl, sym, ◌∙◌, ap, subst, arith}
use Rattle.std.specs.Prelude.{slice_get}
use Rattle.std.specs.List.{AllByRecursion}
use Rattle.dkg_ceremony.specs.declared.round.RoundParts.{RoundParts as Round}
use Rattle.dkg_journal.specs.Disk.{Lands}
use Rattle.dkg_journal.specs.Names.{Files}
use Rattle.dkg_journal.specs.Records.{SectionEntry, entries}
use Rattle.dkg_secrets.specs.Secrets.{Secrets}
use Rattle.dkg_types.specs.Blocks.{Block}
use Rattle.dkg_infos.specs.declared.directory.Unit as directory
use Rattle.dkg_infos.specs.declared.entry.Entry.{Entry}
use Rattle.dkg_infos.specs.declared.fault.Fault.{Fault}
use Rattle.dkg_text.specs.declared.script.Event.{Event}
use Rattle.dkg_text.specs.declared.script.Life.{Life}
use Rattle.dkg_text.specs.declared.script.Script.{Script}
use Rattle.dkg_store.specs.Acts.{Ended, Held, Stands, World, at, broken, moment, notes, stopped, went}
use Rattle.dkg_store.specs.Pairs.{IsWhole}
use Rattle.dkg_core.specs.Agreeing.{AreAgreed, BringsRecords, CanRecord}
use Rattle.dkg_core.specs.Behind.{RunsBehind, event_of}
use Rattle.dkg_core.specs.Core.{step}
use Rattle.dkg_core.specs.Courses.{Course, EndsSo}
use Rattle.dkg_core.specs.Dealing.{hears_peer_in}
use Rattle.dkg_core.specs.Fixed.{Fixed}
use Rattle.dkg_core.specs.Forms.{IsNodeBegun, LeavesHeld, held_behind}
use Rattle.dkg_core.specs.Heard.{Fits, recovered_in}
use Rattle.dkg_core.specs.Laws.{reach_of}
use Rattle.dkg_core.specs.Live.{Finalized, Live, Message, NodeStop, Peer, Mailed, Stage}
use Rattle.dkg_core.specs.Meant.{ReadsRecords}
use Rattle.dkg_core.specs.Node.{node_opening, node_step}
use Rattle.dkg_core.specs.Seen.{Seen}
use Rattle.dkg_laws.specs.NodeThrough.{IsNodeThrough}
use Rattle.dkg_core.specs.Through.{IsLiveThrough, IsTakenThrough}
use Rattle.dkg_core.specs.Endings.{first_block}
use Rattle.dkg_core.proofs.Behind.{steps_run_behind}
use Rattle.dkg_laws.proofs.BlocksKept.{blocks_keep}
use Rattle.dkg_laws.proofs.NodeKept.{node_openings_agree, node_peers_are_kept, node_steps_agree}
use Rattle.dkg_laws.proofs.Openings.{node_openings_lead_over}
use Rattle.dkg_laws.proofs.NodeThrough.{node_steps_lead_through_over}
use Rattle.dkg_life.specs.declared.stop.Stop.{Stop}
use Rattle.dkg_lives.specs.Epochs.{IsAtEvent, IsLifeInForm, any_shares}
use Rattle.dkg_lives.specs.Given.{AreBytes, Lived, at_step, lived, step_of}
use Rattle.dkg_lives.specs.Lives.{LivesSo, RunsOver, RunsSo, never}
use Rattle.dkg_promises.specs.Over.{DevicesStanding}
use Rattle.dkg_lives.specs.Ways.{by_worlds}
use Rattle.dkg_lives.proofs.Awaiting.{IsReached}
use Rattle.dkg_along.proofs.FewPlayers.{HasFew, begun_few, next_few, own_fits}
use Rattle.dkg_along.proofs.FitsBrought.{acks_fit, brings_fit}
use Rattle.dkg_lives.proofs.Former.{BringsBlock, BringsOther, BringsPeer, IsMessage, brings_kind, event_in_form, form_at, lacks_nobody, live_at, message_in, step_taken, through_at}
use Rattle.dkg_along.proofs.GivingLives.{KeepsSo, LeavesSo, life_holds, run_holds}
use Rattle.dkg_lives.proofs.Idle.{goes_nothing, idle_held}
use Rattle.dkg_lives.proofs.LivesStand.{begun_at}
use Rattle.dkg_lives.proofs.OpeningsLeave.{opening_whole}
use Rattle.dkg_lives.proofs.Stood.{step_stands}

-- Each dealing that is recorded has its private half.
abbrev pub WholeHeld : Held → Type 0
WholeHeld h = IsWhole (notes h) h.secrets

-- A LIFE whose blocks are bytes at heights of 64 bits
module _ (g : Lived) (here : IsLifeInForm g) (reads : ReadsRecords g.seen) (bytes : AreBytes g.script.blocks) (heights : AllByRecursion (λ line. line.height < 2 ^ 64) g.script.blocks) where
  reads_at : (j : ℕ) → ReadsRecords (at_step g j).seen
  unfolding at_step
  reads_at zero = reads
  reads_at (suc j) = record { dealings = λ h. refl; acks = λ h. refl; logs = λ h. refl }

  -- memory and devices agree
  record IsWholeAt (j : ℕ) (st : Live directory.Unit) (h : Held) : Type 0 where
    pub at : IsAtEvent g j st
    pub in_bound : HasFew st
    pub agreed : AreAgreed st.records h

  so : (j : ℕ) (st : Live directory.Unit) (h : Held) → IsWholeAt j st h → WholeHeld h
  so j st h its = (its.agreed).whole

  leaves : (j : ℕ) (ended : Ended NodeStop (Live directory.Unit)) (h : Held) → WholeHeld h → ((end : Live directory.Unit) → ended ≡ went end → IsWholeAt j end h) → LeavesSo WholeHeld (IsWholeAt j) ended h
  leaves j (went end) h whole goes = goes end refl
  leaves j (stopped stop) h whole goes = whole
  leaves j (broken cause) h whole goes = whole

  -- AN OPENING
  opened : (w new : World) → WholeHeld w.held → (st : Live directory.Unit) → EndsSo (node_opening (at_step g 0)) (went st) w new → IsWholeAt 0 st new.held
  opened w new whole st run =
      let k : Held = held_behind (at_step g 0) w.held in
      let led : IsNodeBegun (at_step g 0) ((at_step g 0).seen k) k st × LeavesHeld (at_step g 0) k new.held (first_block (at_step g 0)) = node_openings_lead_over (at_step g 0) (went st) w new (form_at g here 0) (lacks_nobody g 0) run in
      record {
        at = begun_at g here ((at_step g 0).seen k) k st led.0;
        in_bound = begun_few g here ((at_step g 0).seen k) k st led.0;
        agreed = node_openings_agree (at_step g 0) st w new (reads_at 0) whole run;
      }

  opening_keeps : (h : Held) → WholeHeld h → KeepsSo WholeHeld (IsWholeAt 0) (node_opening (at_step g 0)) h
  opening_keeps h whole ended w new at run =
      let before : WholeHeld w.held = subst WholeHeld (sym at) whole in
      leaves 0 ended new.held (opening_whole (at_step g 0) (form_at g here 0) w ended new run before)
      (λ end is. opened w new before end (subst (λ (e : Ended NodeStop (Live directory.Unit)). EndsSo (node_opening (at_step g 0)) e w new) is run))

  -- A STEP
  module _ (i : ℕ) (its : Event) (is : slice_get g.life.events i ≡ Some its) (reached : IsReached g.life.cut (suc i)) (st : Live directory.Unit) (w new : World) (here_at : IsWholeAt i st w.held) where
    abbrev c : Fixed directory.Unit
    c = at_step g (suc i)

    abbrev m : IsMessage g its
    m = message_in g its (event_in_form g here i its is)

    live : IsLiveThrough c any_shares st
    live = live_at g i (suc i) st (here_at.at).live

    taken : IsTakenThrough c m.message st
    taken = step_taken g its m.message m.brings c st

    can : CanRecord c st m.message
    can = record { acks = acks_fit g here (suc i); dealing = own_fits g here (suc i) st live here_at.in_bound; brings = brings_fit g here bytes heights i its is m }

    -- A MESSAGE: without a round nothing is done
    module _ (from : ℕ) (sent : List ℕ) (fit : Fits c (from, sent)) (ended : Ended NodeStop (Live directory.Unit)) (run : EndsSo (node_step c (event_of (Mailed (Peer from sent))) st) ended w new) where
      unheard : st.participation.round ≡ None → new.held ≡ w.held
      unheard none =
          let b : RunsBehind (step c (Mailed (Peer from sent)) st) ended w new = steps_run_behind c st (Mailed (Peer from sent)) ended w new run in
          b.held ∙ ap (λ (x : World). x.held) (goes_nothing st b.half w b.mid (subst (λ (stage : Stage). EndsSo (hears_peer_in c from sent st stage) b.half w b.mid) (live.stands.without none).0 b.run))

      heard : (o : Option Round) → st.participation.round ≡ o → WholeHeld new.held
      heard None none = subst WholeHeld (sym (unheard none)) (here_at.agreed).whole
      heard (Some round) of =
          (node_peers_are_kept c st from sent round ended w new (recovered_in w.held) of
          (record { records = (here_at.agreed).dealings; whole = (here_at.agreed).whole; gives = refl; fits = fit.0; fits_ack = fit.1 }) run).whole

    -- A BLOCK
    block_whole : (block : Block directory.Unit) → CanRecord c st (Finalized block) → (ended : Ended NodeStop (Live directory.Unit)) → EndsSo (node_step c (event_of (Finalized block)) st) ended w new → WholeHeld new.held
    block_whole block its_can ended run = (blocks_keep c block st ended (reach_of c (Finalized block)) w new (itself (reach_of c (Finalized block))) here_at.agreed its_can run).whole
      where
        itself : (n : ℕ) → n ≤ n
        itself n = omega arith

    -- ANY STEP, wherever it ends
    module _ (ended : Ended NodeStop (Live directory.Unit)) (run : EndsSo (step_of g (suc i) its st) ended w new) where
      run_here : EndsSo (node_step c (event_of m.message) st) ended w new
      run_here = subst (λ (course : Course directory.Unit NodeStop (Live directory.Unit)). EndsSo course ended w new) (m.course (suc i) st) run

      step_whole : WholeHeld new.held
      step_whole = by_kind (brings_kind g its m.message m.brings)
        where
          as_run : (message : Message directory.Unit) → m.message ≡ message → EndsSo (node_step c (event_of message) st) ended w new
          as_run message is = subst (λ (x : Message directory.Unit). EndsSo (node_step c (event_of x) st) ended w new) is run_here

          by_kind : BringsBlock g its m.message ⊎ (BringsPeer its m.message ⊎ BringsOther its m.message) → WholeHeld new.held
          by_kind (inl b) = block_whole (b.1).block (subst (λ (x : Message directory.Unit). CanRecord c st x) b.3 can) ended (as_run (Finalized (b.1).block) b.3)
          by_kind (inr (inl p)) = heard p.0 p.1 (subst (BringsRecords c) p.3 can.brings) ended (as_run (Mailed (Peer p.0 p.1)) p.3) st.participation.round refl
          by_kind (inr (inr mail)) =
              subst WholeHeld (sym (idle_held c mail.0 mail.2 st ended w new (here_at.at).active (as_run (Mailed mail.0) mail.1))) (here_at.agreed).whole

    step_goes : (end : Live directory.Unit) → EndsSo (step_of g (suc i) its st) (went end) w new → IsWholeAt (suc i) end new.held
    step_goes end run =
        let its_run : EndsSo (node_step c (event_of m.message) st) (went end) w new = run_here (went end) run in
        let led : IsNodeThrough c any_shares st m.message (Some w.held) end (Some new.held)
        = node_steps_lead_through_over c any_shares st m.message (went end) w new (through_at g here (suc i)) (lacks_nobody g (suc i)) (λ h epoch found. tt) taken live (here_at.at).active its_run in
        record {
          at = record { live = led.live; active = led.active; stands = step_stands g here i its is reached m st live (here_at.at).stands (Some w.held) end (Some new.held) led };
          in_bound = next_few g here (suc i) st end m.message (Some w.held) (Some new.held) live led here_at.in_bound;
          agreed = node_steps_agree c st end m.message w new here_at.agreed can its_run;
        }

  step_keeps : (i : ℕ) (its : Event) (st : Live directory.Unit) (h : Held) → slice_get g.life.events i ≡ Some its → IsReached g.life.cut (suc i) → IsWholeAt i st h → KeepsSo WholeHeld (IsWholeAt (suc i)) (step_of g (suc i) its st) h
  step_keeps i its st h is reached here_at ended w new at run =
      let before : IsWholeAt i st w.held = subst (IsWholeAt i st) (sym at) here_at in
      leaves (suc i) ended new.held (step_whole i its is reached st w new before ended run)
      (λ end went_to. step_goes i its is reached st w new before end (subst (λ (e : Ended NodeStop (Live directory.Unit)). EndsSo (step_of g (suc i) its st) e w new) went_to run))

  -- wherever it ends
  life_whole : (files : Files) (w new : World) (how : Result (Unit {0}) Stop) → WholeHeld w.held → LivesSo by_worlds g files w how new → WholeHeld new.held
  life_whole files w new how whole lives =
      life_holds WholeHeld IsWholeAt so g step_keeps files w new how whole (opening_keeps w.held whole) (λ stop now refused. same_devices w.held now.held refused.2.entries refused.2.secrets whole) lives
    where
      same_devices : (h k : Held) → notes k ≡ notes h → k.secrets ≡ h.secrets → WholeHeld h → WholeHeld k
      same_devices h k records secrets whole = subst (λ (t : Secrets). IsWhole (notes k) t) (sym secrets) (subst (λ (es : List SectionEntry). IsWhole es h.secrets) (sym records) whole)

-- A RUN leaves whole devices whole
pub run_whole : (script : Script) → ((l : ℕ) (life : Life) (seen : Held → Seen) (files : Files) → slice_get script.lives l ≡ Some life → by_worlds.reads seen → IsLifeInForm (lived script l life seen files))
    → ((seen : Held → Seen) → by_worlds.reads seen → ReadsRecords seen) → AreBytes script.blocks → AllByRecursion (λ line. line.height < 2 ^ 64) script.blocks
    → (first : Files → Type 0) (w new : World) (answered : Result (Unit {0}) Fault) → WholeHeld w.held → RunsSo by_worlds script first w answered new → WholeHeld new.held
run_whole script over reads bytes heights first w new answered whole run =
    run_holds WholeHeld script over
    (λ l life seen files there read here old now how whole lives. life_whole (lived script l life seen files) here (reads seen read) bytes heights files old now how whole lives)
    first w new answered whole run

-- .. so does what a crash may leave behind it, where what a read gave before was one of what a crash might have left
pub stays_whole : (script : Script) → ((l : ℕ) (life : Life) (seen : Held → Seen) (files : Files) → slice_get script.lives l ≡ Some life → by_worlds.reads seen → IsLifeInForm (lived script l life seen files))
    → ((seen : Held → Seen) → by_worlds.reads seen → ReadsRecords seen) → AreBytes script.blocks → AllByRecursion (λ line. line.height < 2 ^ 64) script.blocks
    → (answered : Result (Unit {0}) Fault) (before now : DevicesStanding) (out out_now : List Entry) → before.image before.files
    → (Stands before.files before.image → (c : Files) → now.image c → RunsOver script answered before.files (at (moment out before.held never) before.files) (λ f. at (moment out_now now.held f) c))
    → Lands before.files before.image → IsWhole (entries before.files) before.held → (c : Files) → now.image c → IsWhole (entries c) now.held
stays_whole script over reads bytes heights answered before now out out_now here run lands whole c left =
    let its = run (record { lands = lands; itself = here }) c left in
    run_whole script over reads bytes heights (λ files. files ≡ before.files) _ _ answered whole its.so
