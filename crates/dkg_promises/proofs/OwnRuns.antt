-- A run over many epochs gives back dealings that pass their rounds' checks, and of this node's own those that the stored shares and seeds deal, where those before it were such.
use Rattle.std.proofs.Common.{◌≡◌, ◌⊎◌, inl, inr, ◌≤◌, ◌+◌, ℕ, zero, suc, List, Option, Some, None, Result, Ok, refl, sym, ◌∙◌, ap, subst, arith}
use Rattle.std.specs.Prelude.{◌-◌, option_and_then, slice_get}
use Rattle.std.specs.FinMap.{get}
use Rattle.std.specs.List.{AllByRecursion}
use Rattle.dkg_ceremony.specs.Deals.{deal_of}
use Rattle.dkg_ceremony.specs.Schedule.{epoch_of}
use Rattle.dkg_ceremony.specs.declared.round.RoundParts.{RoundParts as Round}
use Rattle.dkg_ceremony.specs.declared.signed_log.SignedDealerLog.{SignedDealerLog}
use Rattle.dkg_journal.specs.Names.{Files}
use Rattle.dkg_secrets.specs.Secrets.{Secrets}
use Rattle.dkg_types.specs.Blocks.{Block}
use Rattle.dkg_types.specs.PayloadCodes.{its_log}
use Rattle.dkg_infos.specs.declared.directory.Unit as directory
use Rattle.dkg_infos.specs.declared.fault.Fault.{Fault}
use Rattle.dkg_text.specs.declared.script.Event.{Event}
use Rattle.dkg_text.specs.declared.script.Event.TheVariants as event
use Rattle.dkg_text.specs.declared.script.Life.{Life}
use Rattle.dkg_script.specs.Blocks.{round_at}
use Rattle.dkg_script.specs.Consistent.{IsConsistentScript, IsFromAnother}
use Rattle.dkg_script.specs.Inclusion.{IsFormOfInclusion}
use Rattle.dkg_script.specs.Setting.{Setting, CutAt, life_at, me}
use Rattle.dkg_store.specs.Acts.{Ended, Held, World, broken, notes, stopped, went}
use Rattle.dkg_store.specs.Pairs.{IsWhole, Pairs, recovered}
use Rattle.dkg_store.proofs.Acts.{along_runs}
use Rattle.dkg_core.specs.Agreeing.{BringsRecords, CanRecord}
use Rattle.dkg_core.specs.Behind.{RunsBehind, event_of}
use Rattle.dkg_core.specs.Blocks as b
use Rattle.dkg_core.specs.Core.{step}
use Rattle.dkg_core.specs.Courses.{Course, EndsSo, Throughout, on_devices}
use Rattle.dkg_core.specs.Dealing as d
use Rattle.dkg_core.specs.Fixed.{Fixed}
use Rattle.dkg_core.specs.Forms.{Applied, judged_block}
use Rattle.dkg_core.specs.Heard.{Fits, MayHave, recovered_in}
use Rattle.dkg_core.specs.Live.{Deals, Ends, Finalized, Follows, Includes, Live, Message, NodeStop, Peer, Mailed, Stage}
use Rattle.dkg_core.specs.Meant.{ReadsRecords}
use Rattle.dkg_core.specs.Node.{node_opening, node_step}
use Rattle.dkg_core.specs.Seen.{Seen}
use Rattle.dkg_core.specs.Storing.{KeepsSeeds, ReadsSecrets}
use Rattle.dkg_core.proofs.Behind.{steps_run_behind}
use Rattle.dkg_laws.proofs.NodeKept.{node_peers_are_kept}
use Rattle.dkg_core.proofs.Storing.{node_steps_keep_secrets}
use Rattle.dkg_core.proofs.Walking as walk
use Rattle.dkg_life.specs.declared.stop.Stop.{Stop}
use Rattle.dkg_lives.specs.Epochs.{IsLifeInForm}
use Rattle.dkg_lives.specs.Given.{Lived, at_step, lived, step_of}
use Rattle.dkg_promises.specs.GivesBack.{PassesAll}
use Rattle.dkg_lives.specs.Lives.{LivesSo, RunsSo}
use Rattle.dkg_lives.specs.Ways.{by_worlds}
use Rattle.dkg_lives.proofs.Awaiting.{IsReached}
use Rattle.dkg_lives.proofs.BlocksLeave.{records_log}
use Rattle.dkg_lives.proofs.Former.{BringsBlock, BringsOther, BringsPeer, IsMessage, brings_kind, event_in_form, form_at, message_in}
use Rattle.dkg_promises.proofs.GivingDealings as giving
use Rattle.dkg_promises.proofs.GivingDealings.{FitsRecords, IsPassing, PassHeld}
use Rattle.dkg_along.proofs.GivingLives.{KeepsSo, LeavesSo, life_holds, run_holds}
use Rattle.dkg_lives.proofs.Idle.{idle_held}
use Rattle.dkg_lives.proofs.Living.{holds_at}
use Rattle.dkg_lives.proofs.NoOthers as others
use Rattle.dkg_lives.proofs.NoOthers.{IsNoOther, IsOwnDealt, inserted}
use Rattle.dkg_promises.proofs.OfferingLives as offering
use Rattle.dkg_promises.proofs.OfferingLives.{IsStanding}
use Rattle.dkg_along.proofs.OwnBacked.{AreBacked, HoldsStill, IsBacked, IsBackedBy, along_both, commits_any_backed, commits_backed, opening_backed, prunes_backed, said_backed, same_backed, still_backed}
use Rattle.dkg_lives.proofs.OwnSteps.{SameSecrets, deals_same, logs_same}
use Rattle.dkg_promises.proofs.StoredDealers.{IsStoredDealer}

some_is : {A : Type 0} {x y : A} → ◌≡◌ {A = Option A} (Some x) (Some y) → x ≡ y
some_is e = cc

module _ (s : Setting) (cuts : List (Option CutAt)) (form : IsFormOfInclusion s.script) (consistent : IsConsistentScript s cuts) where
  -- whole devices give back dealings that pass, and own ones that the secrets deal
  abbrev pub ValidHeld : Held → Type 0
  ValidHeld h = PassHeld s h × AreBacked s form (recovered_in h) h.secrets

  module _ (l : ℕ) (life : Life) (seen : Held → Seen) (files : Files) (life_is : life_at s l ≡ Some life) (here : IsLifeInForm (lived s.script l life seen files)) (records : ReadsRecords seen) (secrets : ReadsSecrets seen) where
    abbrev g : Lived
    g = lived s.script l life seen files

    reads_at : (j : ℕ) → ReadsSecrets (at_step g j).seen
    unfolding at_step
    reads_at zero = secrets
    reads_at (suc j) = record { shares = λ h. refl; seeds = λ h. refl }

    abbrev Passing : ℕ → Live directory.Unit → Held → Type 0
    Passing j st h = IsPassing s cuts form consistent l life seen files life_is here records j st h

    abbrev Standing : ℕ → Live directory.Unit → Held → Type 0
    Standing j st h = IsStanding s cuts form consistent l life seen files life_is here secrets j st h

    pub record IsOwning (j : ℕ) (st : Live directory.Unit) (h : Held) : Type 0 where
      pub passing : Passing j st h
      pub standing : Standing j st h
      pub own : AreBacked s form (recovered_in h) h.secrets

    pub so : (j : ℕ) (st : Live directory.Unit) (h : Held) → IsOwning j st h → ValidHeld h
    so j st h its = ((((its.passing).agreed).whole, (its.passing).passes), its.own)

    -- by what is left of the dealings and of what this node stands in
    joined : (j : ℕ) (ended : Ended NodeStop (Live directory.Unit)) (h : Held) → LeavesSo (PassHeld s) (Passing j) ended h → ((end : Live directory.Unit) → ended ≡ went end → Standing j end h) → AreBacked s form (recovered_in h) h.secrets
        → LeavesSo ValidHeld (IsOwning j) ended h
    joined j (went end) h passing standing own = record { passing = passing; standing = standing end refl; own = own }
    joined j (stopped stop) h pass standing own = (pass, own)
    joined j (broken cause) h pass standing own = (pass, own)

    pub opening_keeps : (h : Held) → ValidHeld h → KeepsSo ValidHeld (IsOwning 0) (node_opening (at_step g 0)) h
    opening_keeps h valid ended w new at run =
        let before : ValidHeld w.held = subst ValidHeld (sym at) valid in
        joined 0 ended new.held (giving.opening_keeps s cuts form consistent l life seen files life_is here records h valid.0 ended w new at run)
        (λ end is. offering.opening_stands s cuts form consistent l life seen files life_is here secrets end w new (subst (λ (e : Ended NodeStop (Live directory.Unit)). EndsSo (node_opening (at_step g 0)) e w new) is run))
        (opening_backed s form (at_step g 0) (reads_at 0) (form_at g here 0) w new ended (record { whole = before.0.0; own = before.1 }) run).own

    -- A STEP
    module _ (fits : FitsRecords s cuts form consistent l life seen files life_is here records) (i : ℕ) (its : Event) (is : slice_get life.events i ≡ Some its) (reached : IsReached life.cut (suc i)) (st : Live directory.Unit) (w new : World)
        (owning : IsOwning i st w.held) where
      abbrev c : Fixed directory.Unit
      c = at_step g (suc i)

      abbrev m : IsMessage g its
      m = message_in g its (event_in_form g here i its is)

      before : IsBacked s form w
      before = record { whole = ((owning.passing).agreed).whole; own = owning.own }

      same_kept : (x : World) (epoch : ℕ) → SameSecrets c w x → HoldsStill s form w.held.secrets x.held.secrets epoch
      same_kept x epoch same = record { seeds = λ seed got. ap (λ m. get m epoch) same.seeds ∙ got }

      -- what it deals to itself
      fresh : (x : World) → SameSecrets c w x → (key : ℕ × ℕ) (pair : List ℕ × ℕ) → IsOwnDealt c st key pair → IsBackedBy s form x.held.secrets key pair
      fresh x same key pair own round made =
          let stored : IsStoredDealer (me s) st own.dealer w.held = (owning.standing).deals own.dealer own.of_dealer in
          let number : key.0 ≡ (stored.round).number = ap (λ (k : ℕ × ℕ). k.0) own.at ∙ ap (λ (r : Round). r.number) (some_is (sym own.of_epoch ∙ stored.of_epoch)) in
          let its_round : round ≡ stored.round = some_is (sym made ∙ ap (round_at s) number ∙ (owning.passing).rounds stored.round stored.of_epoch) in (
            stored.seed,
            stored.share,
            (own.dealer).privates,
            ap (λ m. get m key.0) same.seeds ∙ ap (get w.held.secrets.seeds) number ∙ stored.seed_is,
            ap (λ (r : Round). deal_of r (me s) (Some stored.share) stored.seed) its_round ∙ stored.dealt ∙ ap (λ (public : List ℕ). Ok (public, (own.dealer).privates)) (sym own.public),
          )

      -- A BLOCK
      module _ (block : Block directory.Unit) (can : CanRecord c st (Finalized block)) where
        abbrev Backed : World → Type 0
        Backed x = IsBacked s form x

        deals_backed : Throughout Backed (d.deals c st) w
        deals_backed =
            along_both (IsNoOther (recovered_in w.held) (IsOwnDealt c st)) (SameSecrets c w) Backed
            (λ x a same. record {
              whole = a.whole;
              own = λ key pair mine got. elim (a.gives key pair got) [
                | inl was ↦ still_backed s form w.held.secrets x.held.secrets key pair (same_kept x key.0 same) (owning.own key pair mine was)
                | inr own ↦ fresh x same key pair own
              ];
            }) (d.deals c st) w
            (others.deals c st w can.acks can.dealing (owning.passing).agreed (recovered_in w.held) (record { whole = before.whole; gives = λ key pair got. inl got }))
            (deals_same c w st w (record { seeds = refl; shares = refl }))

        abbrev most : ℕ
        most = epoch_of c.blocks_per_epoch (block.height + 1) - 1

        itself : (n : ℕ) → n ≤ n
        itself n = omega arith

        abbrev NoOwn : ℕ × ℕ → List ℕ × ℕ → Type 0
        NoOwn key pair = ⊥

        -- its log is silent of dealings
        log_backed : (log : SignedDealerLog) → option_and_then its_log block.payload ≡ Some log → (epoch : ℕ) → Throughout {Dir = directory.Unit} Backed (b.records_log epoch block.height log st) w
        log_backed log there epoch =
            along_both (IsNoOther (recovered_in w.held) NoOwn) (SameSecrets c w) Backed (λ x a same. record {
              whole = a.whole;
              own = λ key pair mine got. elim (a.gives key pair got) [
                | inl was ↦ still_backed s form w.held.secrets x.held.secrets key pair (same_kept x key.0 same) (owning.own key pair mine was)
                | inr none ↦ absurd none
              ];
            }) (b.records_log epoch block.height log st) w
            (records_log (recovered_in w.held) NoOwn block.height log st w (can.brings log there) (record { whole = before.whole; gives = λ key pair got. inl got }) epoch)
            (logs_same c w block.height log st w (record { seeds = refl; shares = refl }) epoch)

        applies : judged_block c block st ≡ Applied → (stage : Stage) → st.participation.stage ≡ stage → Throughout Backed (b.applies_in c block st stage) w
        applies judged Deals at =
            walk.ends_dealing c Backed (λ x line aside q. said_backed s form x line q) most (commits_backed s form c (reads_at (suc i))) (λ min low at x q. prunes_backed s form c (reads_at (suc i)) min at x q) block (itself most) st w before deals_backed
        applies judged Follows at =
            walk.follows_at c Backed (λ x line aside q. said_backed s form x line q) most (commits_backed s form c (reads_at (suc i))) (λ min low at x q. prunes_backed s form c (reads_at (suc i)) min at x q) block (itself most) st w before
        applies judged Includes at =
            walk.including c Backed (λ x line aside q. said_backed s form x line q) most (commits_backed s form c (reads_at (suc i))) (λ min low at x q. prunes_backed s form c (reads_at (suc i)) min at x q) block (itself most)
            (commits_any_backed s form c (reads_at (suc i))) st w log_backed before
        applies judged Ends at = before

        block_backed : (ended : Ended NodeStop (Live directory.Unit)) → EndsSo (node_step c (event_of (Finalized block)) st) ended w new → Backed new
        block_backed ended run =
            let behind : RunsBehind (step c (Finalized block) st) ended w new = steps_run_behind c st (Finalized block) ended w new run in
            let mid : Backed behind.mid = along_runs Backed (on_devices (step c (Finalized block) st)) behind.half w behind.mid
            (walk.delivered c Backed (λ x line aside q. said_backed s form x line q) most (commits_backed s form c (reads_at (suc i))) (λ min low at x q. prunes_backed s form c (reads_at (suc i)) min at x q) block st w before
            (λ judged. applies judged st.participation.stage refl) st.participation.stage) behind.run in
            same_backed s form behind.mid new (ap (λ (h : Held). notes h) behind.held) (ap (λ (h : Held). h.secrets) behind.held) mid

      -- A MESSAGE, of another node
      module _ (from : ℕ) (bytes : List ℕ) (other : from ≡ me s → ⊥) (fit : Fits c (from, bytes)) (ended : Ended NodeStop (Live directory.Unit))
          (run : EndsSo (node_step c (event_of (Mailed (Peer from bytes))) st) ended w new) where
        kept : KeepsSeeds 0 w.held new
        kept = (node_steps_keep_secrets c st (Mailed (Peer from bytes)) ended 0 w new (reads_at (suc i)) (omega arith) run).0

        still : (epoch : ℕ) → HoldsStill s form w.held.secrets new.held.secrets epoch
        still epoch = record { seeds = λ seed got. kept epoch seed (omega arith) got }

        was_there : (round : Round) → MayHave c st from round (recovered_in w.held) (recovered_in new.held) → (key : ℕ × ℕ) (pair : List ℕ × ℕ) → key.1 ≡ me s → get (recovered_in new.held) key ≡ Some pair → get (recovered_in w.held) key ≡ Some pair
        was_there round (inl same) key pair mine got = sym (ap (λ (pairs : Pairs). get pairs key) same) ∙ got
        was_there round (inr (public, private, accepted, with_it)) key pair mine got = elim (inserted (recovered_in w.held) (round.number, from) (public, private) key pair (sym (ap (λ (pairs : Pairs). get pairs key) with_it) ∙ got)) [
          | inl both ↦ absurd (other (sym (ap (λ (k : ℕ × ℕ). k.1) both.0) ∙ mine))
          | inr was ↦ was
        ]

        heard_backed : (o : Option Round) → st.participation.round ≡ o → AreBacked s form (recovered_in new.held) new.held.secrets
        heard_backed None none =
            subst (λ (h : Held). AreBacked s form (recovered_in h) h.secrets)
            (sym (giving.unheard s cuts form consistent l life seen files life_is here records fits i its is reached st w new owning.passing from bytes fit ended run none)) owning.own
        heard_backed (Some round) of = λ key pair mine got.
            let gives = (node_peers_are_kept c st from bytes round ended w new (recovered_in w.held) of
            (record { records = ((owning.passing).agreed).dealings; whole = before.whole; gives = refl; fits = fit.0; fits_ack = fit.1 }) run).gives in
            still_backed s form w.held.secrets new.held.secrets key pair (still key.0) (owning.own key pair mine (was_there round gives key pair mine got))

      -- ANY STEP, wherever it ends
      step_backed : (ended : Ended NodeStop (Live directory.Unit)) → EndsSo (step_of g (suc i) its st) ended w new → AreBacked s form (recovered_in new.held) new.held.secrets
      step_backed ended run = by_kind (brings_kind g its m.message m.brings)
        where
          its_run : EndsSo (node_step c (event_of m.message) st) ended w new
          its_run = subst (λ (course : Course directory.Unit NodeStop (Live directory.Unit)). EndsSo course ended w new) (m.course (suc i) st) run

          its_can : CanRecord c st m.message
          its_can = giving.can s cuts form consistent l life seen files life_is here records fits i its is reached st w new owning.passing

          as_run : (message : Message directory.Unit) → m.message ≡ message → EndsSo (node_step c (event_of message) st) ended w new
          as_run message is = subst (λ (x : Message directory.Unit). EndsSo (node_step c (event_of x) st) ended w new) is its_run

          by_kind : BringsBlock g its m.message ⊎ (BringsPeer its m.message ⊎ BringsOther its m.message) → AreBacked s form (recovered_in new.held) new.held.secrets
          by_kind (inl b) = (block_backed (b.1).block (subst (λ (x : Message directory.Unit). CanRecord c st x) b.3 its_can) ended (as_run (Finalized (b.1).block) b.3)).own
          by_kind (inr (inl p)) =
              heard_backed p.0 p.1
              (holds_at (IsFromAnother (me s)) life.events i (event.Peer p.0 p.1) (holds_at (λ (life : Life). AllByRecursion (IsFromAnother (me s)) life.events) s.script.lives l life consistent.others life_is) (is ∙ ap (λ (e : Event). Some e) p.2))
              (subst (BringsRecords c) p.3 its_can.brings) ended (as_run (Mailed (Peer p.0 p.1)) p.3) st.participation.round refl
          by_kind (inr (inr mail)) =
              subst (λ (h : Held). AreBacked s form (recovered_in h) h.secrets) (sym (idle_held c mail.0 mail.2 st ended w new ((owning.passing).at).active (as_run (Mailed mail.0) mail.1))) owning.own

    pub step_keeps : FitsRecords s cuts form consistent l life seen files life_is here records → (i : ℕ) (its : Event) (st : Live directory.Unit) (h : Held) → slice_get life.events i ≡ Some its → IsReached life.cut (suc i) → IsOwning i st h
        → KeepsSo ValidHeld (IsOwning (suc i)) (step_of g (suc i) its st) h
    step_keeps fits i its st h is reached owning ended w new at run =
        let before : IsOwning i st w.held = subst (IsOwning i st) (sym at) owning in
        joined (suc i) ended new.held (giving.step_keeps s cuts form consistent l life seen files life_is here records fits i its st h is reached owning.passing ended w new at run)
        (λ end went_to. offering.step_keeps s cuts form consistent l life seen files life_is here secrets i its is reached st w before.standing end new (subst (λ (e : Ended NodeStop (Live directory.Unit)). EndsSo (step_of g (suc i) its st) e w new) went_to run))
        (step_backed fits i its is reached st w new before ended run)

    -- A LIFE, wherever it ends
    pub life_valid : FitsRecords s cuts form consistent l life seen files life_is here records → (w new : World) (how : Result (Unit {0}) Stop) → ValidHeld w.held → LivesSo by_worlds g files w how new → ValidHeld new.held
    life_valid fits w new how valid lives =
        life_holds ValidHeld IsOwning so g (step_keeps fits) files w new how valid (opening_keeps w.held valid) (λ stop now refused. same_devices now refused.2.entries refused.2.secrets) lives
      where
        same_devices : (now : World) → notes now.held ≡ notes w.held → now.held.secrets ≡ w.held.secrets → ValidHeld now.held
        same_devices now entries same =
            let given : recovered_in now.held ≡ recovered_in w.held = ap (λ es. recovered es now.held.secrets) entries ∙ ap (recovered (notes w.held)) same in (
              (
                subst (λ (t : Secrets). IsWhole (notes now.held) t) (sym same) (subst (λ es. IsWhole es w.held.secrets) (sym entries) valid.0.0),
                subst (PassesAll s) (sym given) valid.0.1,
              ),
              subst (λ (pairs : Pairs). AreBacked s form pairs now.held.secrets) (sym given) (subst (λ (t : Secrets). AreBacked s form (recovered_in w.held) t) (sym same) valid.1),
            )

-- A RUN
pub run_valid : (s : Setting) (cuts : List (Option CutAt)) (form : IsFormOfInclusion s.script) (consistent : IsConsistentScript s cuts)
    → (over : (l : ℕ) (life : Life) (seen : Held → Seen) (files : Files) → slice_get s.script.lives l ≡ Some life → by_worlds.reads seen → IsLifeInForm (lived s.script l life seen files))
    → (records : (seen : Held → Seen) → by_worlds.reads seen → ReadsRecords seen) (secrets : (seen : Held → Seen) → by_worlds.reads seen → ReadsSecrets seen)
    → ((l : ℕ) (life : Life) (seen : Held → Seen) (files : Files) (life_is : life_at s l ≡ Some life) (here : IsLifeInForm (lived s.script l life seen files)) (read : ReadsRecords seen) → FitsRecords s cuts form consistent l life seen files life_is here read)
    → (first : Files → Type 0) (w new : World) (answered : Result (Unit {0}) Fault) → ValidHeld s cuts form consistent w.held → RunsSo by_worlds s.script first w answered new → ValidHeld s cuts form consistent new.held
run_valid s cuts form consistent over records secrets fits first w new answered valid run =
    run_holds (ValidHeld s cuts form consistent) s.script over
    (λ l life seen files there read here old now how valid lives.
    life_valid s cuts form consistent l life seen files there here (records seen read) (secrets seen read) (fits l life seen files there here (records seen read)) old now how valid lives)
    first w new answered valid run
