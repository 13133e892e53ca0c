-- Each share that a run over devices that tell tells as committed is this node's in what its epoch's info carries on, where the shares that the devices held are.
use Rattle.std.proofs.Common.{◌≡◌, inl, inr, ◌⊎◌, ℕ, suc, List, [], ◌∷◌, ◌++◌, Option, Some, None, Result, arith, refl, sym, ◌∙◌, ap, subst, append-nil, append_assoc}
use Rattle.std.specs.Prelude.{Contains, IfSome, IsSomeAnd, slice_get}
use Rattle.std.specs.FinMap as maps
use Rattle.std.specs.List.{AllByRecursion}
use Rattle.std.proofs.lemmas.List.{append_cancel_left}
use Rattle.dkg_values.specs.Rising.{lookup}
use Rattle.dkg_ceremony.specs.PartialPublics.{partial_public_of, share_public_of}
use Rattle.dkg_journal.specs.Names.{Files}
use Rattle.dkg_secrets.specs.Secrets.{Secrets}
use Rattle.dkg_types.specs.BlockCodes.{info_of}
use Rattle.dkg_types.specs.Blocks as made
use Rattle.dkg_infos.specs.Units.{unit_spelling}
use Rattle.dkg_infos.specs.declared.directory.Unit as directory
use Rattle.dkg_infos.specs.declared.entry.Entry.TheVariants as entry
use Rattle.dkg_infos.specs.declared.entry.Entry.{Entry}
use Rattle.dkg_infos.specs.declared.fault.Fault.{Fault}
use Rattle.dkg_infos.specs.declared.info.EpochInfo.{EpochInfo}
use Rattle.dkg_text.specs.declared.script.Event.TheVariants as event
use Rattle.dkg_text.specs.declared.script.Event.{Event}
use Rattle.dkg_text.specs.declared.script.Life.{Life}
use Rattle.dkg_text.specs.declared.script.Script.{Script}
use Rattle.dkg_script.specs.AsCut.{as_cut}
use Rattle.dkg_script.specs.Blocks.{known_info}
use Rattle.dkg_script.specs.Consistent.{IsConsistentScript}
use Rattle.dkg_script.specs.Inclusion.{IsFormOfInclusion}
use Rattle.dkg_script.specs.Progress.{progress}
use Rattle.dkg_script.specs.Readings.{Info, with_spelled}
use Rattle.dkg_script.specs.Setting.{CutAt, Setting, life_at, me, setting_of}
use Rattle.dkg_store.specs.Acts.{Ended, Held, World, at, broken, moment, says, stopped, went}
use Rattle.dkg_core.specs.Asked.{ReadsShare}
use Rattle.dkg_core.specs.Behind.{event_of}
use Rattle.dkg_core.specs.Courses.{Course, EndsSo}
use Rattle.dkg_core.specs.Endings.{CameTo, first_block, first_epoch}
use Rattle.dkg_core.specs.Fixed.{Fixed}
use Rattle.dkg_core.specs.Forms.{IsNodeBegun, IsOpeningStop, LeavesHeld, held_behind}
use Rattle.dkg_laws.specs.Idle.{IsAskedEntry}
use Rattle.dkg_core.specs.Live.{Finalized, Live, Message, NodeStop, Peer, Mailed}
use Rattle.dkg_core.specs.Node.{node_opening, node_step}
use Rattle.dkg_core.specs.NodeEndings.{IsFaultBy}
use Rattle.dkg_laws.specs.NodeThrough.{IsActiveThrough, IsNodeThrough}
use Rattle.dkg_core.specs.Seen.{Seen}
use Rattle.dkg_core.specs.Setup.{recovered_share}
use Rattle.dkg_core.specs.Stepping.{next_epoch}
use Rattle.dkg_core.specs.Storing.{ReadsSecrets}
use Rattle.dkg_core.specs.Through.{IsCarriedOn, IsShareTaken, IsStopThrough, held_with}
use Rattle.dkg_laws.proofs.Idle.{mails_are_idle}
use Rattle.dkg_laws.proofs.NodeThrough.{node_openings_through}
use Rattle.dkg_laws.proofs.Openings.{node_openings_lead_over}
use Rattle.dkg_life.specs.declared.stop.Stop.{Stop}
use Rattle.dkg_lives.specs.Epochs.{IsLifeInForm}
use Rattle.dkg_lives.specs.Given.{Lived, at_step, blocks_in, lived, step_of}
use Rattle.dkg_lives.specs.Lives.{LivesSo, RunsOver, RunsSo, never}
use Rattle.dkg_promises.specs.SharesStand.{CommitsFit, FitsCarried}
use Rattle.dkg_lives.specs.Ways.{by_worlds}
use Rattle.dkg_lives.proofs.Awaiting.{IsReached}
use Rattle.dkg_along.proofs.CommitsOver.{IsTakenShare, Tells, asked, block_over, opened_held, opening_over, peer_over}
use Rattle.dkg_along.proofs.Drawn.{all_join}
use Rattle.dkg_lives.proofs.Former.{BringsBlock, BringsOther, BringsPeer, IsMessage, brings_kind, event_in_form, form_at, lacks_nobody, live_through, message_in, through_at}
use Rattle.dkg_promises.proofs.OfferedHalves.{all_of}
use Rattle.dkg_along.proofs.SaysOver.{said_over}
use Rattle.dkg_along.proofs.SharesFit.{same_shares}
use Rattle.dkg_promises.proofs.SharesKnown.{IsFitting, IsMineAt, IsScripts, SharesFit, boundary_known, known_serves, last_known, mine, opening_fits, opening_fitting, said_of, share_mine, step_comes, step_fits, step_fitting}
use Rattle.dkg_along.proofs.WorldLives.{IsCounted, Keeps, Leaves, life_holds, run_holds}

all_as : (P Q : Entry → Type 0) (lines : List Entry) → ((line : Entry) → P line → Q line) → AllByRecursion P lines → AllByRecursion Q lines
all_as P Q [] so all = tt
all_as P Q (line ∷ lines) so all = (so line all.0, all_as P Q lines so all.1)

-- A share of an epoch fits, if there is one.
abbrev pub FitsAt : Setting → ℕ → Option ℕ → Type 0
FitsAt s epoch share = IfSome share (FitsCarried s epoch)

fits_of : (s : Setting) (epoch : ℕ) (info : Info) → known_info s epoch ≡ Some info → (share : Option ℕ) → IfSome share (IsMineAt s epoch) → FitsAt s epoch share
fits_of s epoch info known None its = tt
fits_of s epoch info known (Some share) its = subst (λ (o : Option Info). IsSomeAnd o (λ i. partial_public_of i.output (me s) ≡ Some (share_public_of share))) (sym known) (its info known)

-- what was added behind these entries tells shares that fit
pub record AddsFitting (s : Setting) (base out : List Entry) : Type 0 where
  pub added : List Entry
  pub is : out ≡ base ++ added
  pub fits : AllByRecursion (Tells (FitsAt s)) added

more_added : (s : Setting) (base old new lines : List Entry) → AddsFitting s base old → new ≡ old ++ lines → AllByRecursion (Tells (FitsAt s)) lines → AddsFitting s base new
more_added s base old new lines its is fits = record {
  added = its.added ++ lines;
  is = is ∙ ap (λ (ls : List Entry). ls ++ lines) its.is ∙ append_assoc base its.added lines;
  fits = all_join (Tells (FitsAt s)) its.added lines its.fits fits;
}

-- The devices hold such shares, and such are told.
abbrev pub IsFittingWorld : Setting → (base : List Entry) → World → Type 0
IsFittingWorld s base w = SharesFit s w.held × AddsFitting s base w.out

counted : (s : Setting) (line : Entry) → IsCounted line → Tells (FitsAt s) line
counted s (entry.Step step) is = tt
counted s (entry.Cut step call) is = tt
counted s (entry.Fault its) is = tt
counted s line is = absurd is

tells : (s : Setting) (base : List Entry) (w : World) (line : Entry) → IsCounted line → IsFittingWorld s base w → IsFittingWorld s base (says w line)
tells s base w line is its = (its.0, more_added s base w.out (w.out ++ line ∷ []) (line ∷ []) its.1 refl (counted s line is, tt))

-- A LIFE

module _ (s : Setting) (cuts : List (Option CutAt)) (form : IsFormOfInclusion s.script) (consistent : IsConsistentScript s cuts) (l : ℕ) (life : Life) (seen : Held → Seen) (files : Files) (life_is : life_at s l ≡ Some life)
    (here : IsLifeInForm (lived s.script l life seen files)) (reads : ReadsSecrets seen) where
  abbrev g : Lived
  g = lived s.script l life seen files

  abbrev P : Entry → Type 0
  P = Tells (FitsAt s)

  -- what lines are said
  abbrev SaysFitting : World → World → Type 0
  SaysFitting w new = (added : List Entry) × (new.out ≡ w.out ++ added) × AllByRecursion P added

  opening_says : (ended : Ended NodeStop (Live directory.Unit)) (w new : World) → SharesFit s w.held → EndsSo (node_opening (at_step g 0)) ended w new → SaysFitting w new
  opening_says ended w new q run =
      said_over P (node_opening (at_step g 0)) ended w new
      (opening_over (at_step g 0) (FitsAt s) (form_at g here 0) w.held
      (λ block info found carries same.
      let known : IsScripts s info = boundary_known s cuts form consistent l life seen files life_is reads 0 (λ i low. absurd (omega (arith, low))) (first_epoch (at_step g 0)) block info found carries same in
      fits_of s info.epoch (with_spelled unit_spelling info) known (recovered_share (at_step g 0) ((at_step g 0).seen (opened_held (at_step g 0) (FitsAt s) w.held)) info)
      (known_serves s cuts form consistent l life seen files life_is reads 0 info known (opened_held (at_step g 0) (FitsAt s) w.held) q))) run

  module _ (i : ℕ) (its : Event) (is : slice_get life.events i ≡ Some its) (reached : IsReached life.cut (suc i)) (st : Live directory.Unit) (active : IsActiveThrough st) (fitting : IsFitting s (at_step g i) st) (w : World)
      (q : SharesFit s w.held) where
    abbrev c : Fixed directory.Unit
    c = at_step g (suc i)

    abbrev m : IsMessage g its
    m = message_in g its (event_in_form g here i its is)

    found : ReadsShare c (mine s) (Some w.held)
    found h epoch same = subst (λ (x : Held). mine s epoch (lookup epoch (c.seen x).shares)) (sym same) (said_of s cuts form consistent l life seen files life_is reads (suc i) w.held q epoch)

    abbrev OfInfo : made.Block directory.Unit → ℕ → Option ℕ → EpochInfo directory.Unit → Type 0
    OfInfo block epoch share info = (info.epoch ≡ epoch) × (info.epoch ≡ next_epoch c block) × IsShareTaken c (mine s) st w.held info share st.participation.stage

    -- the share that is taken with a last block's info fits
    taken_fits : (number : ℕ) → its ≡ event.Final number → (block : made.Block directory.Unit) → slice_get (blocks_in s.script) number ≡ Some block → (epoch : ℕ) (share : Option ℕ) → IsTakenShare c (mine s) block st w.held epoch share
        → FitsAt s epoch share
    taken_fits number of block there epoch share taken = by_info (info_of block.payload) refl taken.1
      where
        by_info : (o : Option (EpochInfo directory.Unit)) → info_of block.payload ≡ o → IsSomeAnd o (OfInfo block epoch share) → FitsAt s epoch share
        by_info None carries none = absurd none
        by_info (Some info) carries so =
            let on : IsCarriedOn c (mine s) block st (Some w.held) = record {
              info = info;
              carried = carries;
              of_next = so.1;
              h = w.held;
              found = refl;
              share = share;
              shared = so.2;
              k = held_with c info share w.held;
              between = refl;
            } in
            subst (λ (n : ℕ). FitsAt s n share) so.0
            (fits_of s info.epoch (with_spelled unit_spelling info)
            (last_known s cuts form consistent l life seen files life_is reads i number (is ∙ ap (λ (e : Event). Some e) of) reached block there taken.0 info carries so.1) share
            (share_mine s cuts form consistent l life seen files life_is reads here i its is reached st active fitting w q number of block there taken.0 on))

    step_says : (ended : Ended NodeStop (Live directory.Unit)) (new : World) → EndsSo (step_of g (suc i) its st) ended w new → SaysFitting w new
    step_says ended new run = by_kind (brings_kind g its m.message m.brings)
      where
        run_of : (message : Message directory.Unit) → m.message ≡ message → EndsSo (node_step c (event_of message) st) ended w new
        run_of message same =
            subst (λ (x : Message directory.Unit). EndsSo (node_step c (event_of x) st) ended w new) same (subst (λ (course : Course directory.Unit NodeStop (Live directory.Unit)). EndsSo course ended w new) (m.course (suc i) st) run)

        by_kind : BringsBlock g its m.message ⊎ (BringsPeer its m.message ⊎ BringsOther its m.message) → SaysFitting w new
        by_kind (inl b) =
            let block = (b.1).block in
            let said = said_over (Tells (IsTakenShare c (mine s) block st w.held)) (node_step c (event_of (Finalized block)) st) ended w new
            (block_over c (through_at g here (suc i)) (mine s) block st (live_through g (mine s) i (suc i) st fitting.live) w.held found) (run_of (Finalized block) b.3) in
            (said.0, said.1, all_as (Tells (IsTakenShare c (mine s) block st w.held)) P said.0 fits said.2)
          where
            fits : (line : Entry) → Tells (IsTakenShare c (mine s) (b.1).block st w.held) line → P line
            fits (entry.Committed epoch share) taken = taken_fits b.0 b.2 (b.1).block (b.1).is epoch share taken
            fits line taken = tt
        by_kind (inr (inl p)) = said_over P (node_step c (event_of (Mailed (Peer p.0 p.1))) st) ended w new (peer_over c (FitsAt s) p.0 p.1 st w.held) (run_of (Mailed (Peer p.0 p.1)) p.3)
        by_kind (inr (inr o)) =
            let idle = mails_are_idle c o.0 st ended w new o.2 active.active.unawaited (run_of (Mailed o.0) o.1) in (idle.lines, idle.out, all_as IsAskedEntry P idle.lines (asked c (FitsAt s)) idle.says)

  module _ (base : List Entry) where
    abbrev World_so : World → Type 0
    World_so w = IsFittingWorld s base w

    abbrev Here : ℕ → Live directory.Unit → World → Type 0
    Here j st w = World_so w × IsFitting s (at_step g j) st × IsActiveThrough st

    joined : (j : ℕ) (ended : Ended NodeStop (Live directory.Unit)) (w : World) → World_so w → CameTo (λ stop. Unit {0}) (IsFitting s (at_step g j)) ended → CameTo (λ stop. Unit {0}) IsActiveThrough ended → Leaves World_so (Here j) ended w
    joined j (went end) w so fitting active = (so, fitting, active)
    joined j (stopped stop) w so fitting active = so
    joined j (broken cause) w so fitting active = so

    added : (w new : World) → World_so w → SharesFit s new.held → SaysFitting w new → World_so new
    added w new so fits said = (fits, more_added s base w.out new.out said.0 so.1 said.1 said.2)

    opening_keeps : (w : World) → World_so w → Keeps World_so (Here 0) (node_opening (at_step g 0)) w
    opening_keeps w so f ended new run =
        let begun : World = record w { fuse = f } in
        joined 0 ended new
        (added begun new so (opening_fits s cuts form consistent l life seen files life_is reads here ended begun new so.0 run) (opening_says ended begun new so.0 run))
        (opening_fitting s cuts form consistent l life seen files life_is reads here ended begun new run)
        (by_end ended new (node_openings_lead_over (at_step g 0) ended begun new (form_at g here 0) (lacks_nobody g 0) run))
      where
        by_end : (e : Ended NodeStop (Live directory.Unit)) (new : World) → CameTo (IsFaultBy (IsOpeningStop (at_step g 0) ((at_step g 0).seen (held_behind (at_step g 0) w.held)) (held_behind (at_step g 0) w.held)))
            (λ st. IsNodeBegun (at_step g 0) ((at_step g 0).seen (held_behind (at_step g 0) w.held)) (held_behind (at_step g 0) w.held) st × LeavesHeld (at_step g 0) (held_behind (at_step g 0) w.held) new.held (first_block (at_step g 0))) e
            → CameTo (λ stop. Unit {0}) IsActiveThrough e
        by_end (went end) new its = (node_openings_through (at_step g 0) (mine s) ((at_step g 0).seen (held_behind (at_step g 0) w.held)) (held_behind (at_step g 0) w.held) end (form_at g here 0) its.0).1
        by_end (stopped stop) new why = tt
        by_end (broken cause) new u = tt

    step_keeps : (i : ℕ) (its : Event) (st : Live directory.Unit) (w : World) → slice_get life.events i ≡ Some its → IsReached life.cut (suc i) → Here i st w → Keeps World_so (Here (suc i)) (step_of g (suc i) its st) w
    step_keeps i its st w is reached (so, fitting, active) f ended new run =
        let begun : World = record w { fuse = f } in
        joined (suc i) ended new
        (added begun new so (step_fits s cuts form consistent l life seen files life_is reads here i its is reached st active fitting begun so.0 ended new run) (step_says i its is reached st active fitting begun so.0 ended new run))
        (step_fitting s cuts form consistent l life seen files life_is reads here i its is reached st active fitting begun so.0 ended new run)
        (by_end ended (step_comes s cuts form consistent l life seen files life_is reads here i its is reached st active fitting begun so.0 ended new run))
      where
        message : Message directory.Unit
        message = (message_in g its (event_in_form g here i its is)).message

        by_end : (e : Ended NodeStop (Live directory.Unit)) → CameTo (IsFaultBy (IsStopThrough (at_step g (suc i)) (mine s) st message (Some w.held))) (λ end. IsNodeThrough (at_step g (suc i)) (mine s) st message (Some w.held) end (Some new.held)) e
            → CameTo (λ stop. Unit {0}) IsActiveThrough e
        by_end (went end) node = node.active
        by_end (stopped stop) why = tt
        by_end (broken cause) u = tt

    -- wherever it ends
    pub life_fits : (w new : World) (how : Result (Unit {0}) Stop) → World_so w → LivesSo by_worlds g files w how new → World_so new
    life_fits w new how so lives =
        life_holds World_so (tells s base) Here (λ j st w its. its.0) (λ j st w its. (tells s base w (entry.Step j) tt its.0, its.1, its.2)) g step_keeps files w new how so (opening_keeps w so)
        (λ stop now refused. (same_shares (IsMineAt s) w.held now.held (ap (λ (t : Secrets). t.shares) (refused.2).secrets) so.0, subst (AddsFitting s base) (sym refused.1) so.1)) lives

-- A RUN
module _ (script : Script) (files : Files) (secrets : Secrets)
    (over : (l : ℕ) (life : Life) (seen : Held → Seen) (its : Files) → slice_get script.lives l ≡ Some life → by_worlds.reads seen → IsLifeInForm (lived script l life seen its))
    (reads : (seen : Held → Seen) → by_worlds.reads seen → ReadsSecrets seen) where
  abbrev s : Setting
  s = setting_of script files secrets

  run_fits : (cuts : List (Option CutAt)) → IsFormOfInclusion script → IsConsistentScript s cuts → (first : Files → Type 0) (w new : World) (answered : Result (Unit {0}) Fault) → SharesFit s w.held
      → RunsSo by_worlds script first w answered new → AddsFitting s w.out new.out
  run_fits cuts form consistent first w new answered fit run =
      (run_holds (IsFittingWorld s w.out) (tells s w.out) script over
      (λ l life seen its there read here old now how so lives. life_fits s cuts form consistent l life seen its there here (reads seen read) w.out old now how so lives)
      first w new answered (fit, record { added = []; is = sym (append-nil w.out); fits = tt }) run).1

  pub run_commits : (form : IsFormOfInclusion script) (cuts : List (Option CutAt)) → IsConsistentScript s cuts → (answered : Result (Unit {0}) Fault) (old new added : List Entry) (secrets_now : Secrets) (c : Files) → new ≡ old ++ added
      → RunsOver script answered files (at (moment old secrets never) files) (λ f. at (moment new secrets_now f) c)
      → ((epoch share : ℕ) (info : Info) → maps.get secrets.shares epoch ≡ Some share → known_info s epoch ≡ Some info → partial_public_of info.output (me s) ≡ Some (share_public_of share))
      → (epoch share : ℕ) → Contains added (entry.Committed epoch (Some share)) → FitsCarried s epoch share
  run_commits form cuts consistent answered old new added secrets_now c is run fit epoch share has =
      all_of (Tells (FitsAt s)) adds.added (entry.Committed epoch (Some share)) adds.fits (subst (λ (ls : List Entry). Contains ls (entry.Committed epoch (Some share))) (append_cancel_left old added adds.added (sym is ∙ adds.is)) has)
    where
      adds : AddsFitting s old new
      adds = run_fits cuts form consistent (λ its. its ≡ files) (at (moment old secrets never) files) (at (moment new secrets_now run.fuse) c) answered (λ epoch share got info known. fit epoch share info got known) run.so

-- THE CLAUSE, of a run over the script as it was cut
pub commits_fit : (script : Script) (files : Files) (secrets : Secrets) (added : List Entry)
    → (let its = as_cut (progress (setting_of script files secrets) added).cuts script in
    ((l : ℕ) (life : Life) (seen : Held → Seen) (files : Files) → slice_get its.lives l ≡ Some life → by_worlds.reads seen → IsLifeInForm (lived its l life seen files)))
    → (reads : (seen : Held → Seen) → by_worlds.reads seen → ReadsSecrets seen) (answered : Result (Unit {0}) Fault) (old new : List Entry) (secrets_now : Secrets) (c : Files) → new ≡ old ++ added
    → RunsOver (as_cut (progress (setting_of script files secrets) added).cuts script) answered files (at (moment old secrets never) files) (λ f. at (moment new secrets_now f) c) → CommitsFit script files secrets added
commits_fit script files secrets added over reads answered old new secrets_now c is run = λ form consistent fit.
    let its = as_cut (progress (setting_of script files secrets) added).cuts script in
    run_commits its files secrets over reads form (progress (setting_of its files secrets) added).cuts consistent answered old new added secrets_now c is run fit
