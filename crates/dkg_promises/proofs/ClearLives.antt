-- A life of a valid script over valid devices is ended by nothing but its script and what comes from outside, and leaves the devices valid.
use Rattle.std.proofs.Common.{◌≡◌, ◌⊎◌, inl, inr, ℕ, suc, ◌<◌, ◌≤◌, ◌^◌, List, Option, Some, None, Result, Ok, true, arith, refl, sym, ◌∙◌, ap, subst, length}
use Rattle.std.specs.Prelude.{slice_get, IfSome, IsSomeAnd}
use Rattle.std.specs.FinMap as maps
use Rattle.std.specs.FinMap.{get, same_map}
use Rattle.dkg_ceremony.specs.Dealings.{dealing_of}
use Rattle.dkg_ceremony.specs.Deals.{deal_of}
use Rattle.dkg_ceremony.specs.declared.output.Output.{Output}
use Rattle.dkg_ceremony.specs.declared.round.RoundParts.{RoundParts as Round}
use Rattle.dkg_journal.specs.Names.{Files}
use Rattle.dkg_journal.specs.Records.{SectionEntry}
use Rattle.dkg_secrets.specs.Secrets.{Secrets}
use Rattle.dkg_secrets.proofs.Map.{exact_keys, keys_total}
use Rattle.dkg_secrets.specs.declared.secrets.SecretOp.TheVariants.{PutSeed}
use Rattle.dkg_types.specs.BlockCodes.{info_of}
use Rattle.dkg_types.specs.Blocks.{Block}
use Rattle.dkg_infos.specs.Units.{unit_spelling}
use Rattle.dkg_infos.specs.declared.directory.Unit as directory
use Rattle.dkg_infos.specs.declared.fault.Fault.{Fault}
use Rattle.dkg_infos.specs.declared.fault.Fault.TheVariants.{LocalState}
use Rattle.dkg_infos.specs.declared.fault.LocalCause.{LocalCause}
use Rattle.dkg_infos.specs.declared.fault.LocalCause.TheVariants.{OwnDealing, ShareRefused, StoredDealing}
use Rattle.dkg_infos.specs.declared.info.EpochInfo.{EpochInfo}
use Rattle.dkg_text.specs.declared.script.Event.{Event}
use Rattle.dkg_text.specs.declared.script.Event.TheVariants as event
use Rattle.dkg_text.specs.declared.script.Life.{Life}
use Rattle.dkg_text.specs.declared.script.Script.{Script}
use Rattle.dkg_script.specs.Blocks.{known_info, round_at}
use Rattle.dkg_script.specs.Epochs.{alone}
use Rattle.dkg_script.specs.Inclusion.{IsFormOfInclusion}
use Rattle.dkg_script.specs.Position.{awaited_epoch}
use Rattle.dkg_script.specs.Readings.{with_spelled}
use Rattle.dkg_script.specs.Setting.{CutAt, Setting, found, life_at, me}
use Rattle.dkg_script.specs.Valid.{ComesInTurn, ProvidesNext, IsValidCase}
use Rattle.dkg_store.specs.Acts.{Changes, Ended, Held, World, held_after, broken, notes, stopped, went}
use Rattle.dkg_store.specs.Pairs.{IsWhole, Pairs, recovered}
use Rattle.dkg_store.proofs.Halves.{recovered_at}
use Rattle.dkg_core.specs.Asked.{IsAskStop, OfShares}
use Rattle.dkg_core.specs.Courses.{Course, EndsSo}
use Rattle.dkg_core.specs.Endings.{CameTo, first_block}
use Rattle.dkg_core.specs.Fixed.{Fixed}
use Rattle.dkg_core.specs.Forms.{Applied, IsNodeBegun, IsOpeningStop, IsSetupFault, Judged, LeavesHeld, Passed, Refusal, committed_by, held_behind, judged_block, seed_read, share_read, with_share}
use Rattle.dkg_core.specs.Heard.{recovered_in}
use Rattle.dkg_core.specs.Live.{Cancel, Deals, Ends, EpochInfoOf, Faulted, Feed, Finalized, Follows, Includes, Live, Mail, Message, NextLog, NodeStop, Over, Peer, ReleaseLog, Mailed, Stage, Work, is_last_height}
use Rattle.dkg_core.specs.Meant.{ReadsRecords}
use Rattle.dkg_core.specs.Node.{node_opening}
use Rattle.dkg_core.specs.NodeEndings.{IsFaultBy}
use Rattle.dkg_laws.specs.NodeThrough.{IsActiveThrough, IsNodeThrough}
use Rattle.dkg_core.specs.Seen.{Seen}
use Rattle.dkg_core.specs.Setup.{Uncommitted}
use Rattle.dkg_core.specs.Stepping.{IsDealingStop, OwnDiffers, given_itself, next_epoch as next_of, taken_over}
use Rattle.dkg_core.specs.Storing.{ReadsSecrets}
use Rattle.dkg_core.specs.Through.{IsAppliedStopThrough, IsBlockStopThrough, IsCarriedOn, IsLiveThrough, IsPassingStop, IsStopThrough}
use Rattle.dkg_laws.proofs.NodeThrough.{node_steps_lead_through_over}
use Rattle.dkg_laws.proofs.Openings.{node_openings_lead_over}
use Rattle.dkg_core.proofs.StepDealing.{given_same}
use Rattle.dkg_life.specs.declared.stop.Stop.{Stop}
use Rattle.dkg_lives.specs.Blamed.{IsAskedOwn, IsBlockCause, IsBlockOwn, IsCause, IsFromOutside, IsMayCause, IsOwn, IsOwnCause, IsWhy, OnBlock, OnCarried, first_epoch_in, epoch_behind, opening_block}
use Rattle.dkg_lives.specs.Epochs.{IsLifeInForm, any_shares}
use Rattle.dkg_lives.specs.Given.{AreBytes, Lived, at_step, blocks_in, lived, step_of}
use Rattle.dkg_promises.specs.GivesBack.{PassesAll}
use Rattle.dkg_lives.specs.Lives.{LivesSo}
use Rattle.dkg_lives.specs.Ways.{by_worlds}
use Rattle.dkg_lives.proofs.Awaiting.{IsReached}
use Rattle.dkg_promises.proofs.Blaming.{Stood, at_there, of_there, opened_stood, step_next, step_why}
use Rattle.dkg_along.proofs.Causing.{judged_so, opening_cause, refusal}
use Rattle.dkg_lives.proofs.Former.{BringsBlock, BringsMail, IsMessage, brings_so, event_in_form, form_at, lacks_nobody, life_in, live_at, message_in, step_taken, through_at}
use Rattle.dkg_lives.proofs.GivenItself.{IsGiven, given}
use Rattle.dkg_promises.proofs.GivingDealings.{FitsRecords}
use Rattle.dkg_along.proofs.GivingLives.{LeavesSo}
use Rattle.dkg_lives.proofs.Heard.{Knows}
use Rattle.dkg_promises.proofs.LivesClear.{EndsOutside, IsClear, KeepsClear, LeavesClear, life_clear}
use Rattle.dkg_lives.proofs.NoOthers.{IsOwnDealt}
use Rattle.dkg_along.proofs.OwnBacked.{AreBacked, has_previous}
use Rattle.dkg_promises.proofs.OwnClear.{none_refused_in, own_same}
use Rattle.dkg_promises.proofs.OwnRuns as owning
use Rattle.dkg_promises.proofs.OwnRuns.{IsOwning, ValidHeld}
use Rattle.dkg_promises.proofs.OwnValid.{AreValidAt, IsStateFault, opening_valid, setup_valid}
use Rattle.dkg_along.proofs.Seated.{own_valid}
use Rattle.dkg_promises.proofs.Sharing.{fits_dealt, one_share}
use Rattle.dkg_along.proofs.SharesFit.{same_shares, share_put}
use Rattle.dkg_promises.proofs.SharesKnown.{IsFitting, IsMineAt, SharesFit, last_known, mine, opening_fits, opening_fitting, reads_shares, share_mine, step_comes, step_fits, step_fitting, there_below}
use Rattle.dkg_promises.proofs.StoredDealers.{IsStoredDealer}
use Rattle.dkg_promises.proofs.StoredFound.{own_found}
use Rattle.dkg_promises.proofs.ValidCauses.{valid_clear, valid_may}

none_some : {A : Type 0} {x : A} → ◌≡◌ {A = Option A} None (Some x) → ⊥
none_some e = cc

some_is : {A : Type 0} {x y : A} → ◌≡◌ {A = Option A} (Some x) (Some y) → x ≡ y
some_is e = cc

own_fault : {x y : Fault} → Faulted x ≡ Faulted y → x ≡ y
own_fault e = cc

some_there : {A : Type 0} (P : A → Type 0) (Q : Type 0) (o : Option A) → ((x : A) → P x → Q) → IsSomeAnd o P → Q
some_there P Q None leads so = absurd so
some_there P Q (Some x) leads so = leads x so

-- nothing is carried that leads to nothing
none_carried : (P : EpochInfo directory.Unit → Type 0) (o : Option (Block directory.Unit)) → ((info : EpochInfo directory.Unit) → P info → ⊥) → OnCarried o P → ⊥
none_carried P o never so = some_there (λ (b : Block directory.Unit). IsSomeAnd (info_of b.payload) P) ⊥ o (λ b its. some_there P ⊥ (info_of b.payload) never its) so

-- what is given back depends on the records and the private halves alone
same_given : (h k : Held) → notes k ≡ notes h → k.secrets.privates ≡ h.secrets.privates → recovered_in k ≡ recovered_in h
same_given h k entries halves =
    ap (λ (es : List SectionEntry). recovered es k.secrets) entries ∙ same_map keys_total exact_keys _ _ (λ key. recovered_at h.secrets k.secrets key (notes h) (ap (λ m. get m key) halves))

-- WHAT A COMMIT leaves
module _ (info : EpochInfo directory.Unit) (seed : List ℕ) (h : Held) where
  abbrev committed : Option ℕ → Held
  committed share = committed_by Uncommitted info share seed h

  committed_notes : (share : Option ℕ) → notes (committed share) ≡ notes h
  committed_notes None = refl
  committed_notes (Some share) = refl

  committed_halves : (share : Option ℕ) → (committed share).secrets.privates ≡ h.secrets.privates
  committed_halves None = refl
  committed_halves (Some share) = refl

  committed_given : (share : Option ℕ) → recovered_in (committed share) ≡ recovered_in h
  committed_given share = same_given h (committed share) (committed_notes share) (committed_halves share)

  committed_fits : (s : Setting) (share : Option ℕ) → SharesFit s h → IfSome share (IsMineAt s info.epoch) → SharesFit s (committed share)
  committed_fits s share fits such = by_share share such
    where
      seeded : (k : Held) → SharesFit s k → SharesFit s (held_after (Changes (PutSeed info.epoch seed)) k)
      seeded k its = same_shares (IsMineAt s) k (held_after (Changes (PutSeed info.epoch seed)) k) refl its

      by_share : (o : Option ℕ) → IfSome o (IsMineAt s info.epoch) → SharesFit s (committed o)
      by_share None such = seeded h fits
      by_share (Some share) such = seeded (with_share info.epoch (Some share) h) (share_put (IsMineAt s) h (with_share info.epoch (Some share) h) info.epoch share such refl fits)

-- WHAT STOPS IT by the node's own state is one of its causes
abbrev IsLocal : Fault → Type 0
IsLocal own = (cause : LocalCause) × (own ≡ LocalState cause)

block_local : (script : Script) (l : ℕ) (life : Life) (j : ℕ) (block : Block directory.Unit) (own : Fault) → IsBlockOwn script l life j block own → IsLocal own
block_local script l life j block (LocalState cause) so = (cause, refl)
block_local script l life j block own (inl (taken, inl carried)) = absurd (none_carried (λ info. IsOwnCause script (epoch_behind script block) info own) (Some block) (λ info its. its) carried)
block_local script l life j block own (inl (taken, inr asked)) = absurd asked.1
block_local script l life j block own (inr dealing) = absurd dealing.1

asked_local : (script : Script) (life : Life) (j epoch : ℕ) (own : Fault) → IsAskedOwn script life j epoch own → IsLocal own
asked_local script life j epoch (LocalState cause) so = (cause, refl)
asked_local script life j epoch own so = absurd so

module _ (s : Setting) (ends : List (Option CutAt)) (valid : IsValidCase s ends) (form : IsFormOfInclusion s.script) (bytes : AreBytes s.script.blocks) (unfound : (l : ℕ) → found s l ≡ None) where
  -- whole devices give back dealings that pass, own ones that the secrets deal, and hold shares that fit
  pub record HoldsAll (h : Held) : Type 0 where
    pub given : ValidHeld s ends form valid.consistent h
    pub shares : SharesFit s h

  valid_at : (h : Held) → HoldsAll h → AreValidAt s h
  valid_at h all = record {
    shares = λ epoch share info got known. all.shares epoch share got info known;
    dealings = λ round dealer pair made low got. all.given.0.1 (round.number, dealer) pair round low got made;
  }

  module _ (l : ℕ) (life : Life) (seen : Held → Seen) (files : Files) (life_is : life_at s l ≡ Some life) (here : IsLifeInForm (lived s.script l life seen files)) (records : ReadsRecords seen) (secrets : ReadsSecrets seen)
      (fits : FitsRecords s ends form valid.consistent l life seen files life_is here records) (begun : l ≤ length ends) where
    abbrev g : Lived
    g = lived s.script l life seen files

    reads_dealings : (h : Held) → ((at_step g 0).seen h).dealings ≡ maps.entries (recovered_in h)
    unfolding at_step
    reads_dealings h = records.dealings h

    in_turn : ComesInTurn s l life
    in_turn = subst (λ (o : Option Life). IfSome o (ComesInTurn s l)) life_is (valid.in_turn l begun)

    provides : ProvidesNext s l life
    provides = subst (λ (o : Option Life). IfSome o (ProvidesNext s l)) life_is (valid.provided l begun)

    -- no step that is reached has a cause in the script
    cause_clear : (step : ℕ) → IsReached life.cut step → ((i : ℕ) → i < step → (e : Event) × (slice_get life.events i ≡ Some e)) → (its : Fault) → IsCause s.script l life step its → ⊥
    cause_clear step reached all its why =
        valid_clear s ends valid form bytes here.long l life life_is here.anchor (life_in g here).no_sync (unfound l) (life_in g here).events in_turn provides step reached all its why

    -- .. nor one in which requests are read
    may_clear : (step : ℕ) → IsReached life.cut step → (its : Fault) → IsMayCause s.script l life step its → ⊥
    may_clear step reached its may =
        valid_may s ends valid form bytes here.long l life life_is here.anchor (life_in g here).no_sync (unfound l) (life_in g here).events in_turn provides step reached its may

    -- A STATE behind the first j events
    pub record IsClearAt (j : ℕ) (st : Live directory.Unit) (h : Held) : Type 0 where
      pub owns : IsOwning s ends form valid.consistent l life seen files life_is here records secrets j st h
      pub stood : Stood g here j st
      pub fitting : IsFitting s (at_step g j) st
      pub shares : SharesFit s h

    so : (j : ℕ) (st : Live directory.Unit) (h : Held) → IsClearAt j st h → HoldsAll h
    so j st h its = record { given = owning.so s ends form valid.consistent l life seen files life_is here records secrets j st h its.owns; shares = its.shares }

    -- AN OPENING

    module _ (reached : IsReached life.cut 0) (w : World) (all : HoldsAll w.held) where
      abbrev k : Held
      k = held_behind (at_step g 0) w.held

      valid_k : AreValidAt s k
      valid_k =
          let its : AreValidAt s w.held = valid_at w.held all in
          record { shares = its.shares; dealings = its.dealings }

      own_opening : (own : Fault) → IsOpeningStop (at_step g 0) ((at_step g 0).seen k) k own → IsOwn s.script l life 0 own → ⊥
      own_opening (LocalState (ShareRefused number)) stop why =
          opening_valid s ends form valid.consistent l life seen files life_is k valid_k (reads_shares s ends form valid.consistent l life seen files life_is secrets 0 k) (reads_dealings k) (LocalState (ShareRefused number)) tt stop
      own_opening (LocalState (StoredDealing number dealer)) stop why =
          opening_valid s ends form valid.consistent l life seen files life_is k valid_k (reads_shares s ends form valid.consistent l life seen files life_is secrets 0 k) (reads_dealings k) (LocalState (StoredDealing number dealer)) tt stop
      own_opening own stop why = none_carried (λ info. IsOwnCause s.script (first_epoch_in s.script l life) info own) (opening_block s.script l life) (λ info so. so) why

      opening_never : (own : Fault) → IsOpeningStop (at_step g 0) ((at_step g 0).seen k) k own → ⊥
      opening_never own stop = either (opening_cause g here ((at_step g 0).seen k) k own stop)
        where
          either : IsCause s.script l life 0 own ⊎ IsOwn s.script l life 0 own → ⊥
          either (inl cause) = cause_clear 0 reached (λ i low. absurd (omega (arith, low))) own cause
          either (inr its_own) = own_opening own stop its_own

      opening_leaves : (ended : Ended NodeStop (Live directory.Unit)) (new : World) → EndsSo (node_opening (at_step g 0)) ended w new
          → LeavesSo (ValidHeld s ends form valid.consistent) (IsOwning s ends form valid.consistent l life seen files life_is here records secrets 0) ended new.held → LeavesClear HoldsAll (IsClearAt 0) ended new.held
      opening_leaves ended new run left = by_end ended left (opening_fits s ends form valid.consistent l life seen files life_is secrets here ended w new all.shares run)
          (opening_fitting s ends form valid.consistent l life seen files life_is secrets here ended w new run)
          (node_openings_lead_over (at_step g 0) ended w new (form_at g here 0) (lacks_nobody g 0) run)
        where
          by_end : (ended : Ended NodeStop (Live directory.Unit)) → LeavesSo (ValidHeld s ends form valid.consistent) (IsOwning s ends form valid.consistent l life seen files life_is here records secrets 0) ended new.held → SharesFit s new.held → CameTo (λ stop. Unit {0}) (IsFitting s (at_step g 0)) ended
              → CameTo (IsFaultBy (IsOpeningStop (at_step g 0) ((at_step g 0).seen k) k)) (λ st. IsNodeBegun (at_step g 0) ((at_step g 0).seen k) k st × LeavesHeld (at_step g 0) k new.held (first_block (at_step g 0))) ended
              → LeavesClear HoldsAll (IsClearAt 0) ended new.held
          by_end (went end) left shares fitting came = record { owns = left; stood = opened_stood g here ((at_step g 0).seen k) k end came.0; fitting = fitting; shares = shares }
          by_end (stopped stop) left shares fitting came = (record { given = left; shares = shares }, λ own is. absurd (opening_never came.0 came.2))
          by_end (broken cause) left shares fitting came = record { given = left; shares = shares }

    opening_keeps : (h : Held) → HoldsAll h → IsReached life.cut 0 → KeepsClear HoldsAll (IsClearAt 0) (node_opening (at_step g 0)) h
    opening_keeps h all reached ended w new at run =
        opening_leaves reached w (subst HoldsAll (sym at) all) ended new run (owning.opening_keeps s ends form valid.consistent l life seen files life_is here records secrets h all.given ended w new at run)

    -- A STEP

    module _ (i : ℕ) (its : Event) (is : slice_get life.events i ≡ Some its) (reached : IsReached life.cut (suc i)) (st : Live directory.Unit) (w : World) (clear : IsClearAt i st w.held) where
      abbrev c : Fixed directory.Unit
      c = at_step g (suc i)

      abbrev m : IsMessage g its
      m = message_in g its (event_in_form g here i its is)

      live : IsLiveThrough c any_shares st
      live = live_at g i (suc i) st ((clear.stood).at).live

      all_come : (k : ℕ) → k < suc i → (e : Event) × (slice_get life.events k ≡ Some e)
      all_come k low = there_below life.events i its is k (omega (arith, low))

      before : AreValidAt s w.held
      before = valid_at w.held (so i st w.held clear)

      abbrev Stops : Message directory.Unit → LocalCause → Type 0
      Stops message cause = IsStopThrough c (mine s) st message (Some w.held) (LocalState cause)

      -- WHAT IS RECORDED passes, as it was and behind its own dealing

      abbrev AllPass : Pairs → Type 0
      AllPass pairs = (round : Round) → st.participation.round ≡ Some round → (who : ℕ) (pair : List ℕ × ℕ) → who < 2 ^ 32 → get pairs (round.number, who) ≡ Some pair → dealing_of round (me s) who pair.0 pair.1 ≡ Ok tt

      recorded_pass : AllPass (recovered_in w.held)
      recorded_pass round of who pair low got = before.dealings round who pair (((clear.owns).passing).rounds round of) low got

      itself : IsGiven c st (recovered_in w.held) (((clear.owns).passing).agreed).dealings (given_itself c st)
      itself = given c st (recovered_in w.held) (((clear.owns).passing).agreed).dealings

      knows : Knows c s
      unfolding at_step
      knows = record { me_is = refl; limit_is = rw here.form.reshares refl; rules_are = refl }

      itself_pass : AllPass itself.now
      itself_pass round of who pair low got = elim (itself.each (round.number, who) pair got) [
        | inl was ↦ recorded_pass round of who pair low was
        | inr own ↦ of_own own
      ]
        where
          of_own : IsOwnDealt c st (round.number, who) pair → dealing_of round (me s) who pair.0 pair.1 ≡ Ok tt
          of_own own =
              subst (λ (n : ℕ). dealing_of round (me s) n pair.0 pair.1 ≡ Ok tt) (sym (ap (λ (k : ℕ × ℕ). k.1) own.at ∙ knows.me_is))
              (subst (λ (r : Round). dealing_of r (me s) (me s) pair.0 pair.1 ≡ Ok tt) (some_is (sym own.of_epoch ∙ of))
              (own_valid c any_shares s st (round.number, who) pair (form_at g here (suc i)) live knows own))

      -- so no request stops it
      asked_never : (at : Live directory.Unit) (pairs : Pairs) → at.records.dealings ≡ maps.entries pairs → AllPass pairs → at.participation.round ≡ st.participation.round → (cause : LocalCause) → IsAskStop c at (LocalState cause) → ⊥
      unfolding at_step
      asked_never at pairs same passes same_round (StoredDealing number dealer) stop =
          none_some (sym (none_refused_in (me s) stop.0 at pairs same (λ who pair low got. passes stop.0 (sym same_round ∙ stop.2) who pair low got)) ∙ stop.4.2)
      asked_never at pairs same passes same_round cause stop = stop.4

      asked_here : (cause : LocalCause) → IsAskStop c st (LocalState cause) → ⊥
      asked_here cause stop = asked_never st (recovered_in w.held) (((clear.owns).passing).agreed).dealings recorded_pass refl cause stop

      -- NOR DOES ITS OWN DEALING
      own_never : (epoch : ℕ) (kept dealt : List ℕ) → OwnDiffers c st epoch kept dealt → ⊥
      own_never epoch kept dealt differs = differs.differs (same ∙ sym differs.is_dealt)
        where
          stored : IsStoredDealer (me s) st differs.dealer w.held
          stored = ((clear.owns).standing).deals differs.dealer differs.of_dealer

          found_own : (private : ℕ) × (get (recovered_in w.held) (epoch, me s) ≡ Some (kept, private))
          found_own = own_found g (suc i) st w.held (((clear.owns).passing).agreed).dealings epoch kept dealt differs

          number_is : epoch ≡ (stored.round).number
          number_is = differs.of_round ∙ ap (λ (r : Round). r.number) (some_is (sym differs.of_epoch ∙ stored.of_epoch))

          made : round_at s epoch ≡ Some stored.round
          made = ap (round_at s) number_is ∙ ((clear.owns).passing).rounds stored.round stored.of_epoch

          backed : (seed : List ℕ) × (share : ℕ) × (privates : List (ℕ × ℕ)) × (get w.held.secrets.seeds epoch ≡ Some seed) × (deal_of stored.round (me s) (Some share) seed ≡ Ok (kept, privates))
          backed = (clear.owns).own (epoch, me s) (kept, found_own.0) refl found_own.1 stored.round made

          previous : (o : Output) × ((stored.round).previous ≡ Some o)
          previous = has_previous s form epoch stored.round made

          seed_is : stored.seed ≡ backed.0
          seed_is = some_is (sym stored.seed_is ∙ sym (ap (get w.held.secrets.seeds) number_is) ∙ backed.3)

          -- there is one share that is dealt with
          share_is : stored.share ≡ backed.1
          share_is = one_share stored.round (me s) stored.share backed.1 stored.fits (fits_dealt stored.round (me s) backed.1 backed.0 (kept, backed.2) previous.0 previous.1 backed.4)

          again : deal_of stored.round (me s) (Some stored.share) stored.seed ≡ Ok (kept, backed.2)
          again = ap (deal_of stored.round (me s) (Some stored.share)) seed_is ∙ ap (λ (share : ℕ). deal_of stored.round (me s) (Some share) backed.0) share_is ∙ backed.4

          same : kept ≡ (differs.dealer).public
          same = own_same stored.round (me s) (Some stored.share) stored.seed kept (differs.dealer).public backed.2 (differs.dealer).privates again stored.dealt

      dealing_never : (cause : LocalCause) → IsDealingStop c st (LocalState cause) → ⊥
      dealing_never (OwnDealing epoch kept dealt) differs = own_never epoch kept dealt differs
      dealing_never cause stop = stop

      -- NOR DOES A BLOCK
      module _ (number : ℕ) (of : its ≡ event.Final number) (block : Block directory.Unit) (there : slice_get (blocks_in s.script) number ≡ Some block) where
        -- what is held as the next epoch is set up is valid
        committed_valid : (info : EpochInfo directory.Unit) (seed : List ℕ) (share : Option ℕ) → IfSome share (IsMineAt s info.epoch) → AreValidAt s (committed_by Uncommitted info share seed w.held)
        committed_valid info seed share such = record {
          shares = λ epoch its other got known. committed_fits info seed w.held s share clear.shares such epoch its got other known;
          dealings = λ round dealer pair made low got. before.dealings round dealer pair made low (sym (ap (λ (p : Pairs). get p (round.number, dealer)) (committed_given info seed w.held share)) ∙ got);
        }

        -- so that setup goes to its end
        passing_never : is_last_height c block.height ≡ true → (cause : LocalCause) → IsPassingStop c (mine s) block st (Some w.held) (LocalState cause) → ⊥
        passing_never last_one cause stop = by_cause cause stop.1
          where
            on : IsCarriedOn c (mine s) block st (Some w.held)
            on = stop.0

            seed : List ℕ
            seed = seed_read c on.info w.held

            such : IfSome on.share (IsMineAt s (on.info).epoch)
            such = share_mine s ends form valid.consistent l life seen files life_is secrets here i its is reached st ((clear.stood).at).active clear.fitting w clear.shares number of block there last_one on

            known : known_info s (on.info).epoch ≡ Some (with_spelled unit_spelling on.info)
            known = last_known s ends form valid.consistent l life seen files life_is secrets i number (is ∙ ap (λ (e : Event). Some e) of) reached block there last_one on.info on.carried on.of_next

            between : on.k ≡ committed_by Uncommitted on.info on.share seed w.held
            between = on.between

            gives : st.records.dealings ≡ maps.entries (recovered_in on.k)
            gives = (((clear.owns).passing).agreed).dealings
                ∙ sym (ap (λ (h : Held). maps.entries (recovered_in h)) between ∙ ap (λ (p : Pairs). maps.entries p) (committed_given on.info seed w.held on.share))

            valid_k : AreValidAt s on.k
            valid_k = subst (AreValidAt s) (sym between) (committed_valid on.info seed on.share such)

            Setup : LocalCause → Type 0
            Setup cause = IsSetupFault c (next_of c block) on.info (share_read c on.info on.k) (seed_read c on.info on.k) (taken_over c block on.info on.share st) (LocalState cause)

            of_state : (cause : LocalCause) → IsStateFault (LocalState cause) → Setup cause → ⊥
            of_state cause state why =
                setup_valid s ends form valid.consistent l life seen files life_is (suc i) (next_of c block) on.info known on.k valid_k (reads_shares s ends form valid.consistent l life seen files life_is secrets (suc i) on.k)
                (seed_read c on.info on.k) (taken_over c block on.info on.share st) gives (LocalState cause) state why

            by_cause : (cause : LocalCause) → Setup cause → ⊥
            by_cause (ShareRefused epoch) why = of_state (ShareRefused epoch) tt why
            by_cause (StoredDealing epoch dealer) why = of_state (StoredDealing epoch dealer) tt why
            by_cause cause why = why

        applied_never : (cause : LocalCause) (stage : Stage) → IsAppliedStopThrough c (mine s) block st (Some w.held) stage (LocalState cause) → ⊥
        applied_never cause Deals (inl dealing) = dealing_never cause dealing
        applied_never cause Deals (inr asked) = asked_never (given_itself c st) itself.now itself.recorded itself_pass ((given_same c st).same).round cause asked.2
        applied_never cause Includes (inl asked) = asked_here cause asked.1
        applied_never cause Includes (inr passing) = passing_never passing.0 cause passing.1
        applied_never cause Follows passing = passing_never passing.0 cause passing.1
        applied_never cause Ends stop = stop

        -- one that is refused has its cause in the script
        refused_never : (own : Fault) → judged_block c block st ≡ Refusal own → ⊥
        refused_never own judged = cause_clear (suc i) reached all_come own
            (of_there (λ e. OnBlock s.script e (λ b. IsBlockCause s.script l life i b own)) (slice_get life.events i) its is
            (subst (λ (e : Event). OnBlock s.script e (λ b. IsBlockCause s.script l life i b own)) (sym of)
            (of_there (λ b. IsBlockCause s.script l life i b own) (slice_get (blocks_in s.script) number) block there
            (inl (sym (judged_so g here i its is reached m st live ((clear.stood).at).stands (clear.stood).tip block)
            ∙ ap (refusal g here i its is reached m st live ((clear.stood).at).stands (clear.stood).tip block) judged)))))

        block_never : (cause : LocalCause) → Stops (Finalized block) cause → ⊥
        block_never cause stop = by_judged (judged_block c block st) refl stop
          where
            by_judged : (j : Judged) → judged_block c block st ≡ j → IsBlockStopThrough c (mine s) block st (Some w.held) j (LocalState cause) → ⊥
            by_judged (Refusal refused) judged why = refused_never refused judged
            by_judged Passed judged why = why
            by_judged Applied judged why = applied_never cause st.participation.stage why

      -- SO NOTHING of its own state stops it
      local_never : (cause : LocalCause) → Stops m.message cause → ⊥
      local_never cause stop = by_brought (brings_so g its m.message m.brings)
        where
          of_mail : (mail : Mail directory.Unit) → Stops (Mailed mail) cause → ⊥
          of_mail (Peer from bytes) why = why
          of_mail (NextLog request height) why = why
          of_mail (ReleaseLog height) why = why
          of_mail (EpochInfoOf request) why = asked_here cause why.1
          of_mail (Feed request fed) why = asked_here cause why.1
          of_mail (Over request) why = asked_here cause why.1
          of_mail (Cancel request) why = asked_here cause why.1
          of_mail (Work handed) why = asked_here cause why.1

          by_brought : BringsBlock g its m.message ⊎ BringsMail its m.message → ⊥
          by_brought (inl b) = block_never b.0 b.2 (b.1).block (b.1).is cause (subst (λ (x : Message directory.Unit). Stops x cause) b.3 stop)
          by_brought (inr mail) = of_mail mail.0 (subst (λ (x : Message directory.Unit). Stops x cause) mail.1 stop)

      -- what of it the script names
      own_local : (own : Fault) → IsOwn s.script l life (suc i) own → IsLocal own
      own_local own its_own = by_event its (at_there (λ e. OnBlock s.script e (λ b. IsBlockOwn s.script l life i b own)) (slice_get life.events i) its is its_own)
        where
          by_event : (e : Event) → OnBlock s.script e (λ b. IsBlockOwn s.script l life i b own) → IsLocal own
          by_event (event.Final number) on = some_there (λ b. IsBlockOwn s.script l life i b own) (IsLocal own) (slice_get (blocks_in s.script) number) (λ b. block_local s.script l life i b own) on
          by_event other on = absurd on

      -- ANY STEP stops by a fault from outside alone
      step_never : (own : Fault) → IsStopThrough c (mine s) st m.message (Some w.held) own → IsFromOutside own
      step_never own stop = either (step_why g here i its is reached st clear.stood (mine s) (Some w.held) own stop)
        where
          never : IsLocal own → ⊥
          never (cause, is_it) = local_never cause (subst (IsStopThrough c (mine s) st m.message (Some w.held)) is_it stop)

          either : IsWhy s.script l life (suc i) own → IsFromOutside own
          either (inl out) = out
          either (inr (inl (inl cause))) = absurd (cause_clear (suc i) reached all_come own cause)
          either (inr (inl (inr may))) = absurd (may_clear (suc i) reached own may)
          either (inr (inr (inl its_own))) = absurd (never (own_local own its_own))
          either (inr (inr (inr asked))) = absurd (never (asked_local s.script life (suc i) (awaited_epoch (alone s.script) l life i) own asked.1))

      abbrev Leaves : Ended NodeStop (Live directory.Unit) → Held → Type 0
      Leaves ended h = LeavesSo (ValidHeld s ends form valid.consistent) (IsOwning s ends form valid.consistent l life seen files life_is here records secrets (suc i)) ended h

      step_leaves : (ended : Ended NodeStop (Live directory.Unit)) (new : World) → EndsSo (step_of g (suc i) its st) ended w new → Leaves ended new.held → LeavesClear HoldsAll (IsClearAt (suc i)) ended new.held
      step_leaves ended new run left = by_end ended left (step_fits s ends form valid.consistent l life seen files life_is secrets here i its is reached st active clear.fitting w clear.shares ended new run)
          (step_fitting s ends form valid.consistent l life seen files life_is secrets here i its is reached st active clear.fitting w clear.shares ended new run)
          (step_comes s ends form valid.consistent l life seen files life_is secrets here i its is reached st active clear.fitting w clear.shares ended new run)
          (node_steps_lead_through_over c any_shares st m.message ended w new (through_at g here (suc i)) (lacks_nobody g (suc i)) (λ h epoch found. tt) (step_taken g its m.message m.brings c st) live active
          (subst (λ (course : Course directory.Unit NodeStop (Live directory.Unit)). EndsSo course ended w new) (m.course (suc i) st) run))
        where
          active : IsActiveThrough st
          active = ((clear.stood).at).active

          Comes : OfShares → Ended NodeStop (Live directory.Unit) → Type 0
          Comes stored ended = CameTo (IsFaultBy (IsStopThrough c stored st m.message (Some w.held))) (λ end. IsNodeThrough c stored st m.message (Some w.held) end (Some new.held)) ended

          by_end : (ended : Ended NodeStop (Live directory.Unit)) → Leaves ended new.held → SharesFit s new.held → CameTo (λ stop. Unit {0}) (IsFitting s c) ended → Comes (mine s) ended → Comes any_shares ended
              → LeavesClear HoldsAll (IsClearAt (suc i)) ended new.held
          by_end (went end) left shares fitting came stands = record {
            owns = left;
            stood = step_next g here i its is reached st clear.stood (Some w.held) end (Some new.held) stands;
            fitting = fitting;
            shares = shares;
          }
          by_end (stopped stop) left shares fitting came stands = (record { given = left; shares = shares }, λ own is. subst IsFromOutside (own_fault (sym came.1 ∙ is)) (step_never came.0 came.2))
          by_end (broken cause) left shares fitting came stands = record { given = left; shares = shares }

    step_keeps : (i : ℕ) (its : Event) (st : Live directory.Unit) (h : Held) → slice_get life.events i ≡ Some its → IsReached life.cut (suc i) → IsClearAt i st h → KeepsClear HoldsAll (IsClearAt (suc i)) (step_of g (suc i) its st) h
    step_keeps i its st h is reached clear ended w new at run =
        step_leaves i its is reached st w (subst (IsClearAt i st) (sym at) clear) ended new run
        (owning.step_keeps s ends form valid.consistent l life seen files life_is here records secrets fits i its st h is reached clear.owns ended w new at run)

    -- A LIFE, wherever it ends
    pub life_holds_all : (w new : World) (how : Result (Unit {0}) Stop) → HoldsAll w.held → LivesSo by_worlds g files w how new → HoldsAll new.held × EndsOutside how
    life_holds_all w new how all lives = (left.holds, left.outside)
      where
        same_devices : (now : World) → notes now.held ≡ notes w.held → now.held.secrets ≡ w.held.secrets → HoldsAll now.held
        same_devices now entries same =
            let given : recovered_in now.held ≡ recovered_in w.held = same_given w.held now.held entries (ap (λ (t : Secrets). t.privates) same) in
            record {
              given = (
                (
                  subst (λ (t : Secrets). IsWhole (notes now.held) t) (sym same) (subst (λ (es : List SectionEntry). IsWhole es w.held.secrets) (sym entries) all.given.0.0),
                  subst (PassesAll s) (sym given) all.given.0.1,
                ),
                subst (λ (pairs : Pairs). AreBacked s form pairs now.held.secrets) (sym given) (subst (λ (t : Secrets). AreBacked s form (recovered_in w.held) t) (sym same) all.given.1),
              );
              shares = same_shares (IsMineAt s) w.held now.held (ap (λ (t : Secrets). t.shares) same) all.shares;
            }

        left : IsClear HoldsAll IsClearAt so how new
        left = life_clear HoldsAll IsClearAt so g step_keeps files w new how all (opening_keeps w.held all) (λ stop now refused. same_devices now refused.2.entries refused.2.secrets) lives
