-- What the devices show where the node's own state ends an opening or a step: a stored dealing that is refused, or another own dealing than the node deals. The devices need not be whole.
use Rattle.std.proofs.Common.{◌≡◌, ◌⊎◌, inl, inr, ◌≤◌, ◌+◌, ℕ, suc, [], Bool, true, false, List, Option, Some, None, refl, sym, ◌∙◌, ap, subst, arith}
use Rattle.std.specs.Prelude.{◌-◌, ◌^◌, ◌==◌, ◌&&◌, ⊤, IfSome, IsSomeAnd, nat_le, nat_lt, not, slice_get, if◌then◌else◌}
use Rattle.std.specs.FinMap as maps
use Rattle.std.specs.FinMap.{FinMap, get}
use Rattle.std.specs.Str.{bytes_eq}
use Rattle.dkg_values.specs.Rising.{lookup}
use Rattle.dkg_ceremony.specs.Dealings.{dealing_of}
use Rattle.dkg_ceremony.specs.Schedule.{epoch_of}
use Rattle.dkg_ceremony.specs.declared.round.RoundParts.{RoundParts as Round}
use Rattle.dkg_journal.specs.Operations.{Journaled, Prunes}
use Rattle.dkg_journal.specs.Records.{SectionEntry, from_section}
use Rattle.dkg_journal.proofs.Order.{Above}
use Rattle.dkg_secrets.specs.Keys.{key_cmp}
use Rattle.dkg_secrets.specs.Secrets.{Secrets}
use Rattle.dkg_secrets.specs.Secrets as of_secrets
use Rattle.dkg_secrets.specs.declared.secrets.SecretOp.TheVariants.{Prune, PutSeed, PutShare}
use Rattle.dkg_secrets.proofs.Tried.{all_done}
use Rattle.dkg_types.specs.BlockCodes.{info_of}
use Rattle.dkg_types.specs.Blocks.{Block}
use Rattle.dkg_infos.specs.declared.directory.Unit as directory
use Rattle.dkg_infos.specs.declared.fault.Fault.{Fault}
use Rattle.dkg_infos.specs.declared.fault.Fault.TheVariants as fault
use Rattle.dkg_infos.specs.declared.fault.LocalCause.{LocalCause}
use Rattle.dkg_infos.specs.declared.fault.LocalCause.TheVariants as local
use Rattle.dkg_infos.specs.declared.info.EpochInfo.{EpochInfo}
use Rattle.dkg_store.specs.Acts.{Cause, Changes, Ended, Held, IsDiskLeft, OnDisk, Tears, World, broken, does, notes, stopped, went}
use Rattle.dkg_store.specs.Pairs.{Pairs, recovered}
use Rattle.dkg_store.specs.Recorded.{Pair, first_refused}
use Rattle.dkg_store.proofs.Acts.{along_runs}
use Rattle.dkg_store.proofs.Halves.{prune_halves, recovered_at, seed_halves, share_halves}
use Rattle.dkg_text.specs.declared.script.Event.{Event}
use Rattle.dkg_text.specs.declared.script.Event.TheVariants as event
use Rattle.dkg_text.specs.declared.script.Script.{Script}
use Rattle.dkg_core.specs.Behind.{EndsBehind, RunsBehind, event_of}
use Rattle.dkg_core.specs.Blocks as b
use Rattle.dkg_core.specs.Core.{opening, step}
use Rattle.dkg_core.specs.Courses.{Course, EndsSo, Goes, Throughout, on_devices}
use Rattle.dkg_core.specs.Agreeing.{BringsRecords}
use Rattle.dkg_core.specs.Asked.{IsAskStop}
use Rattle.dkg_core.specs.Fixed.{Fixed, stand_in}
use Rattle.dkg_core.specs.Forms.{Applied, IsOpeningStop, IsSeated, IsSetUpIn, IsSetupFault, Judged, LeavesHeld, Passed, Refusal, StoresBoth, committed_by, held_behind, judged_block, judged_over_tip, seed_read, set_up_by, share_read, started}
use Rattle.dkg_core.specs.Heard.{KeepsFrom, recovered_in}
use Rattle.dkg_core.specs.Laws.{IsOther}
use Rattle.dkg_core.specs.Live.{Cancel, Deals, Ends, EpochInfoOf, Faulted, Feed, Finalized, Follows, Includes, Live, Mail, Message, NextLog, NodeStop, Over, Peer, Records, ReleaseLog, Mailed, Stage, Work, is_last_height, with_tip}
use Rattle.dkg_laws.specs.NodeThrough.{IsNodeThrough}
use Rattle.dkg_core.specs.Node.{node_opening, node_step}
use Rattle.dkg_core.specs.Setup as s
use Rattle.dkg_core.specs.Setup.{Uncommitted, WasCommitted}
use Rattle.dkg_core.specs.Sources.{Tip}
use Rattle.dkg_core.specs.Stepping.{IsDealingStop, given_itself, next_epoch, taken_over}
use Rattle.dkg_core.specs.Storing.{ReadsSecrets}
use Rattle.dkg_core.specs.Endings.{first_block, first_epoch}
use Rattle.dkg_core.specs.Through.{IsAppliedStopThrough, IsBlockStopThrough, IsCarriedOn, IsLiveThrough, IsPassingStop, IsStopThrough, IsTakenThrough, held_with, unasked}
use Rattle.dkg_core.proofs.Behind.{openings_run_behind, steps_run_behind}
use Rattle.dkg_core.proofs.Heights.{next_last}
use Rattle.dkg_core.proofs.Lasting.{pruned_at}
use Rattle.dkg_laws.proofs.Openings.{node_openings_lead_over, openings_lead_over}
use Rattle.dkg_core.proofs.Setups.{setups_store}
use Rattle.dkg_laws.proofs.NodeThrough.{node_steps_lead_through_over}
use Rattle.dkg_core.proofs.StepDealing.{given_same}
use Rattle.dkg_core.proofs.Upkeep.{along_option}
use Rattle.dkg_core.proofs.Walking as walk
use Rattle.dkg_lives.specs.Blamed.{Draws}
use Rattle.dkg_lives.specs.Epochs.{IsAtEvent, IsLifeInForm, any_shares}
use Rattle.dkg_promises.specs.Found.{IsBegunBy, IsDealtBy, IsFirstRefusedIn, IsRefusedBy}
use Rattle.dkg_lives.specs.Given.{AreBytes, Lived, at_step, blocks_in, step_of}
use Rattle.dkg_lives.proofs.Awaiting.{IsReached}
use Rattle.dkg_promises.proofs.BegunRounds.{HasDrawn, first_there, last_begins, own_dealt}
use Rattle.dkg_along.proofs.FewPlayers.{HasFew, own_fits}
use Rattle.dkg_along.proofs.FitsBrought.{acks_fit}
use Rattle.dkg_lives.proofs.FitsRead.{message_fits}
use Rattle.dkg_lives.proofs.Former.{Brings, IsMadeOf, IsMessage, event_in_form, form_at, lacks_nobody, live_at, message_in, through_at}
use Rattle.dkg_lives.proofs.Idle.{idle_held}
use Rattle.dkg_lives.proofs.Knowing.{Comes, IsKnown, Knows, asks, committed_first, deals_at, delivered, hears, includes_at, lands_at, lands_stopped, set_up}
use Rattle.dkg_lives.proofs.LaterRecords.{of_epoch_same}
use Rattle.dkg_lives.proofs.LogsFit.{block_fits}
use Rattle.dkg_lives.proofs.NextLives.{GoesOn, TakesOver, applied_here, applied_so, next_so}
use Rattle.dkg_lives.proofs.OpeningsLeave.{opening_keeps}
use Rattle.dkg_lives.proofs.Refusing.{IfRefused, Refuses, block_halts, halted, opening_halts}
use Rattle.dkg_promises.proofs.StoredFound.{asked_found, own_found, refused_drawn, refused_found, stored_found}
use Rattle.dkg_lives.proofs.StopsBehind.{block_stopped}
use Rattle.dkg_promises.proofs.StoredDealers.{DealsStored, seed_stored, share_stored}

-- WHAT THE DEVICES SHOW of a fault that blames the node's own state

abbrev pub ShowsIn : Script → Pairs → Secrets → Fault → Type 0
ShowsIn script pairs held (fault.LocalState (local.ShareRefused epoch)) = IsBegunBy script epoch (IsRefusedBy script held epoch)
ShowsIn script pairs held (fault.LocalState (local.StoredDealing epoch dealer)) = IsFirstRefusedIn script pairs epoch dealer
ShowsIn script pairs held (fault.LocalState (local.OwnDealing epoch kept dealt)) =
    (private : ℕ) × (get pairs (epoch, script.config.me) ≡ Some (kept, private)) × IsBegunBy script epoch (IsDealtBy script held epoch dealt)
ShowsIn script pairs held its = ⊤

-- those of one epoch alone
refused_same : (script : Script) (pairs now : Pairs) (epoch dealer : ℕ) → ((k : ℕ × ℕ) → k.0 ≡ epoch → get now k ≡ get pairs k) → IsFirstRefusedIn script pairs epoch dealer → IsFirstRefusedIn script now epoch dealer
refused_same script pairs now epoch dealer same was = record {
  number = was.number;
  block = was.block;
  is = was.is;
  begins = was.begins;
  info = was.info;
  carries = was.carries;
  refused = (
    (was.refused).0,
    (was.refused).1,
    (
      (was.refused).2.0,
      (was.refused).2.1,
      ap (λ (ps : List Pair). first_refused (dealing_of (was.refused).2.0 script.config.me) ps) (of_epoch_same epoch now pairs same) ∙ (was.refused).2.2,
    ),
  );
}

none_on : {A : Type 0} (o : Option A) → IsSomeAnd o (λ x. ⊥) → ⊥
none_on None none = none
none_on (Some x) none = none

none_carried : (o : Option (Block directory.Unit)) → IsSomeAnd o (λ b. IsSomeAnd (info_of b.payload) (λ info. ⊥)) → ⊥
none_carried None none = none
none_carried (Some b) none = none_on (info_of b.payload) none

-- WHAT AN EPOCH'S LAST BLOCK KEEPS: the dealings from an epoch on, which it prunes nothing of

module _ (most : ℕ) (held : Held) where
  abbrev K : World → Type 0
  K w = KeepsFrom most held w

  -- the same entries and private halves
  same_halves : (w new : World) → notes new.held ≡ notes w.held → new.held.secrets.privates ≡ w.held.secrets.privates → K w → K new
  same_halves w new entries same q key above =
      ap (λ (es : List SectionEntry). get (recovered es new.held.secrets) key) entries
      ∙ recovered_at w.held.secrets new.held.secrets key (notes w.held) (ap (λ (m : FinMap key_cmp ℕ). get m key) same) ∙ q key above

  commits : {Dir : Type 0} (info : EpochInfo Dir) (seed : List ℕ) (share : Option ℕ) (st : Live Dir) (w : World) → K w → Throughout {Dir = Dir} K (s.commits info seed share st) w
  commits info seed None st w q =
      let t : Secrets = of_secrets.after (PutSeed info.epoch seed) w.held.secrets in
      let done : K (does w (Changes (PutSeed info.epoch seed)))
      = same_halves w (does w (Changes (PutSeed info.epoch seed))) refl (seed_halves info.epoch seed w.held.secrets t (all_done (PutSeed info.epoch seed) w.held.secrets t refl)) q in
      (λ cause new tears. same_halves w new (ap (λ (j : Journaled). j.entries) tears.torn.0) (seed_halves info.epoch seed w.held.secrets new.held.secrets tears.torn.1) q, (done, done))
  commits info seed (Some share) st w q =
      let mid : World = does w (Changes (PutShare info.epoch share)) in
      let shared : Secrets = of_secrets.after (PutShare info.epoch share) w.held.secrets in
      let t : Secrets = of_secrets.after (PutSeed info.epoch seed) shared in
      let first : K mid = same_halves w mid refl (share_halves info.epoch share w.held.secrets shared (all_done (PutShare info.epoch share) w.held.secrets shared refl)) q in
      let done : K (does mid (Changes (PutSeed info.epoch seed)))
      = same_halves mid (does mid (Changes (PutSeed info.epoch seed))) refl (seed_halves info.epoch seed shared t (all_done (PutSeed info.epoch seed) shared t refl)) first in (
        λ cause new tears. same_halves w new (ap (λ (j : Journaled). j.entries) tears.torn.0) (share_halves info.epoch share w.held.secrets new.held.secrets tears.torn.1) q,
        (λ cause new tears. same_halves mid new (ap (λ (j : Journaled). j.entries) tears.torn.0) (seed_halves info.epoch seed shared new.held.secrets tears.torn.1) first, (done, done)),
      )

  -- entries from a section on, no later than that epoch
  upto : (least : ℕ) → least ≤ most → (w new : World) → notes new.held ≡ from_section least (notes w.held) → ((key : ℕ × ℕ) → most ≤ key.0 → get new.held.secrets.privates key ≡ get w.held.secrets.privates key) → K w → K new
  upto least low w new entries halves q key above =
      ap (λ (es : List SectionEntry). get (recovered es new.held.secrets) key) entries
      ∙ recovered_at w.held.secrets new.held.secrets key (from_section least (notes w.held)) (halves key above) ∙ pruned_at least (notes w.held) w.held.secrets key (omega (arith, low, above)) ∙ q key above

  prunes : {Dir : Type 0} (min : ℕ) → min ≤ most → (st : Live Dir) (w : World) → K w → Throughout K (s.prunes min st) w
  prunes min low st w q =
      let mid : World = does w (OnDisk (Prunes min)) in
      let t : Secrets = of_secrets.after (Prune min) w.held.secrets in (
        λ cause new tears. left cause new tears tears.torn.1,
        (
          λ cause new tears. upto min low w new (ap (λ (j : Journaled). j.entries) tears.torn.0) (λ key above. prune_halves min w.held.secrets new.held.secrets key tears.torn.1 (omega (arith, low, above))) q,
          upto min low w (does mid (Changes (Prune min))) refl (λ key above. prune_halves min w.held.secrets t key (all_done (Prune min) w.held.secrets t refl) (omega (arith, low, above))) q,
        ),
      )
    where
      still : (new : World) → new.held.secrets ≡ w.held.secrets → (key : ℕ × ℕ) → most ≤ key.0 → get new.held.secrets.privates key ≡ get w.held.secrets.privates key
      still new same key above = ap (λ (x : Secrets). get x.privates key) same

      left : (cause : Cause) (new : World) → Tears cause (OnDisk (Prunes min)) w new → IsDiskLeft (Prunes min) w.held.journaled new.held.journaled → K new
      left cause new tears (inl is) = same_halves w new (ap (λ (j : Journaled). j.entries) is) (ap (λ (x : Secrets). x.privates) tears.torn.0) q
      left cause new tears (inr (inl is)) = upto min low w new (ap (λ (j : Journaled). j.entries) is) (still new tears.torn.0) q
      left cause new tears (inr (inr part)) = upto part.0 (let least : part.0 ≤ min = part.1 in omega (arith, least, low)) w new (ap (λ (j : Journaled). j.entries) part.2) (still new tears.torn.0) q

last_keeps : {Dir : Type 0} (c : Fixed Dir) (block : Block Dir) (st : Live Dir) (w : World) → is_last_height c block.height ≡ true → (st.participation.stage ≡ Follows) ⊎ (st.participation.stage ≡ Includes)
    → Throughout (KeepsFrom (epoch_of c.blocks_per_epoch (block.height + 1) - 1) w.held) (step c (Finalized block) st) w
last_keeps {Dir} c block st w ends stage = walk.delivered c Q (λ x line aside q. q) most commits_read prunes_low block st w first (λ judged. applies stage) st.participation.stage
  where
    most : ℕ
    most = epoch_of c.blocks_per_epoch (block.height + 1) - 1

    Q : World → Type 0
    Q x = KeepsFrom most w.held x

    first : Q w
    first key above = refl

    itself : (n : ℕ) → n ≤ n
    itself n = omega arith

    commits_read : (info : EpochInfo Dir) (at : Live Dir) (x : World) → Q x
        → Throughout {Dir = Dir} Q (s.commits info (s.seed_for c info.epoch (lookup info.epoch (c.seen x.held).seeds)) (s.recovered_share c (c.seen x.held) info) at) x
    commits_read info at x q = commits most w.held info (s.seed_for c info.epoch (lookup info.epoch (c.seen x.held).seeds)) (s.recovered_share c (c.seen x.held) info) at x q

    prunes_low : (min : ℕ) → min ≤ most → (at : Live Dir) (x : World) → Q x → Throughout Q (s.prunes min at) x
    prunes_low min low at x q = prunes most w.held min low at x q

    concludes : (round : Round) → Throughout Q (b.final_block c round block st) w
    concludes round =
        walk.final_block c Q (λ x line aside q. q) most commits_read prunes_low block (itself most)
        (λ info share now at q. commits most w.held info (s.seed_for c info.epoch (lookup info.epoch (c.seen at.held).seeds)) share now at q) round st w first

    applies : (st.participation.stage ≡ Follows) ⊎ (st.participation.stage ≡ Includes) → Throughout Q (b.applies c block st) w
    applies (inl follows) = subst (λ (stage : Stage). Throughout Q (b.applies_in c block st stage) w) (sym follows) (walk.follows_at c Q (λ x line aside q. q) most commits_read prunes_low block (itself most) st w first)
    applies (inr includes) = subst (λ (stage : Stage). Throughout Q (b.applies_in c block st stage) w) (sym includes)
        (along_option Q w st.participation.round (λ round. if is_last_height c block.height then b.final_block c round block st else b.includes c round block st) (Goes st)
        (λ round of_epoch. subst (λ (t : Bool). Throughout Q (if t then b.final_block c round block st else b.includes c round block st) w) (sym ends) (concludes round)) (λ none. first))

-- NO REFUSAL OF A BLOCK blames the node's own state

module _ {Dir : Type 0} (c : Fixed Dir) (block : Block Dir) (st : Live Dir) (cause : LocalCause) where
  refusal_is : {x y : Fault} → ◌≡◌ {A = Judged} (Refusal x) (Refusal y) → x ≡ y
  refusal_is e = cc

  abbrev Local : Fault
  Local = fault.LocalState cause

  not_over : (tip : Option Tip) → judged_over_tip c block st tip ≡ Refusal Local → ⊥
  not_over None is = by_window (b.is_in_window c block st) is
    where
      by_window : (t : Bool) → (if t then Applied else Refusal (fault.OutOfWindow block.height)) ≡ Refusal (fault.LocalState cause) → ⊥
      by_window true e = cc
      by_window false e = let same : fault.OutOfWindow block.height ≡ fault.LocalState cause = refusal_is e in cc
  not_over (Some t) is =
      by_tests ((block.height == t.height) && not (bytes_eq block.digest t.digest)) (nat_lt (t.height + 1) block.height) ((block.height == t.height + 1) && not (bytes_eq block.parent t.digest)) (nat_le block.height t.height) is
    where
      by_tests : (conflicts skips detached low : Bool)
          → (if conflicts then Refusal (fault.ConflictingBlock block.height) else if skips then Refusal (fault.SkippedHeight (t.height + 1) block.height) else if detached then Refusal (fault.DetachedBlock block.height) else if low then Passed else Applied)
          ≡ Refusal (fault.LocalState cause) → ⊥
      by_tests true skips detached low e = let same : fault.ConflictingBlock block.height ≡ fault.LocalState cause = refusal_is e in cc
      by_tests false true detached low e = let same : fault.SkippedHeight (t.height + 1) block.height ≡ fault.LocalState cause = refusal_is e in cc
      by_tests false false true low e = let same : fault.DetachedBlock block.height ≡ fault.LocalState cause = refusal_is e in cc
      by_tests false false false true e = cc
      by_tests false false false false e = cc

  pub not_local : judged_block c block st ≡ Refusal (fault.LocalState cause) → ⊥
  not_local is = by_range (s.is_past_range c block.height) is
    where
      by_range : (t : Bool) → (if t then Refusal fault.HeightRange else judged_over_tip c block st st.tip) ≡ Refusal (fault.LocalState cause) → ⊥
      by_range true e = let same : fault.HeightRange ≡ fault.LocalState cause = refusal_is e in cc
      by_range false e = not_over st.tip e

-- A LIFE

module _ (g : Lived) (here : IsLifeInForm g) (bytes : AreBytes g.script.blocks) where
  -- AN OPENING that reads the dealings that the devices give back

  module _ (reads : (h : Held) → (g.seen h).dealings ≡ maps.entries (recovered_in h)) (w new : World) where
    abbrev c0 : Fixed directory.Unit
    c0 = at_step g 0

    abbrev k : Held
    k = held_behind c0 w.held

    read_k : (started c0 (c0.seen k)).records.dealings ≡ maps.entries (recovered_in k)
    unfolding at_step
    read_k = reads k

    pub opening_knows : Above 0 (notes w.held) → (st : Live directory.Unit) → EndsSo (node_opening c0) (went st) w new → Knows st.records new.held
    opening_knows rising st run =
        let led = node_openings_lead_over c0 (went st) w new (form_at g here 0) (lacks_nobody g 0) run in
        subst (λ (r : Records). Knows r new.held) (sym (ap (λ (x : Live directory.Unit). x.records) ((led.0).entered).same)) (by_block (led.0).before (first_block c0) ((led.0).opened).set_up led.1)
      where
        first : Knows (started c0 (c0.seen k)).records k
        first = record { dealings = read_k; rising = rising }

        by_info : (before : Live directory.Unit) (o : Option (EpochInfo directory.Unit)) → IsSomeAnd o (λ info. IsSeated c0 Uncommitted info (share_read c0 info k) (seed_read c0 info k) (started c0 (c0.seen k)) before)
            → IsSomeAnd o (λ info. new.held ≡ set_up_by Uncommitted (first_epoch c0) info (share_read c0 info k) (seed_read c0 info k) k) → Knows before.records new.held
        by_info before None setup left = absurd setup
        by_info before (Some info) seated left =
            subst (λ (h : Held). Knows before.records h) (sym left) (subst (λ (r : Records). Knows r (set_up_by Uncommitted (first_epoch c0) info (share_read c0 info k) (seed_read c0 info k) k)) (sym seated.records)
            (set_up Uncommitted (first_epoch c0) info (share_read c0 info k) (seed_read c0 info k) (started c0 (c0.seen k)).records k first))

        by_block : (before : Live directory.Unit) (o : Option (Block directory.Unit)) → IsSetUpIn c0 (c0.seen k) k before o → LeavesHeld c0 k new.held o → Knows before.records new.held
        by_block before None setup left = subst (λ (h : Held). Knows before.records h) (sym left) (subst (λ (r : Records). Knows r k) (sym setup.2) first)
        by_block before (Some block) setup left = by_info before (info_of block.payload) setup left

    abbrev Why : (number dealer : ℕ) → EpochInfo directory.Unit → Type 0
    Why number dealer info = IsSetupFault c0 (first_epoch c0) info (share_read c0 info k) (seed_read c0 info k) (started c0 (c0.seen k)) (fault.LocalState (local.StoredDealing number dealer))

    -- it ends behind its setup with the share and the seed stored, where it completes or the share is refused
    module _ (block : Block directory.Unit) (there : first_block c0 ≡ Some block) (info : EpochInfo directory.Unit) (carries : info_of block.payload ≡ Some info) (of_first : info.epoch ≡ first_epoch c0) where
      abbrev Stored : Held → Type 0
      Stored h = StoresBoth (first_epoch c0) (share_read c0 info k) (seed_read c0 info k) h

      set_up_stored : Stored (set_up_by Uncommitted (first_epoch c0) info (share_read c0 info k) (seed_read c0 info k) k)
      set_up_stored = setups_store (first_epoch c0) info (share_read c0 info k) (seed_read c0 info k) k of_first

      opening_stored : (number : ℕ) → EndsSo (node_opening c0) (stopped (Faulted (fault.LocalState (local.ShareRefused number)))) w new → Stored new.held
      opening_stored number run = subst Stored (sym behind.held) (by_half behind.half behind.ends behind.run)
        where
          behind : RunsBehind (opening c0) (stopped (Faulted (fault.LocalState (local.ShareRefused number)))) w new
          behind = openings_run_behind c0 (stopped (Faulted (fault.LocalState (local.ShareRefused number)))) w new run

          the_fault : {x y : Fault} → ◌≡◌ {A = Ended NodeStop (Live directory.Unit)} (stopped (Faulted x)) (stopped (Faulted y)) → x ≡ y
          the_fault e = cc

          by_half : (half : Ended Fault (Live directory.Unit)) → EndsBehind half (stopped (Faulted (fault.LocalState (local.ShareRefused number)))) → EndsSo (opening c0) half w behind.mid → Stored behind.mid.held
          by_half (went st) ends half_run =
              let left : LeavesHeld c0 k behind.mid.held (first_block c0) = (openings_lead_over c0 (went st) w behind.mid (form_at g here 0) half_run).1 in
              subst Stored (sym (subst (λ (o : Option (EpochInfo directory.Unit)). IsSomeAnd o (λ i. behind.mid.held ≡ set_up_by Uncommitted (first_epoch c0) i (share_read c0 i k) (seed_read c0 i k) k)) carries
              (subst (LeavesHeld c0 k behind.mid.held) there left))) set_up_stored
          by_half (stopped own) ends half_run = subst (λ (x : Fault). IfRefused x (Stored behind.mid.held)) (sym (the_fault ends))
              (halted Stored (opening c0) w behind.mid own (opening_halts Stored c0 (form_at g here 0) w block there info carries (λ e round why at valid drawn may deals. set_up_stored)) half_run)
          by_half (broken cause) ends half_run = absurd (let no : ◌≡◌ {A = Ended NodeStop (Live directory.Unit)} (stopped (Faulted (fault.LocalState (local.ShareRefused number)))) (broken cause) = ends in cc)

    pub opening_shows : (its : Fault) → EndsSo (node_opening c0) (stopped (Faulted its)) w new → ShowsIn g.script (recovered_in new.held) new.held.secrets its
    opening_shows its run = by_stop (node_openings_lead_over c0 (stopped (Faulted its)) w new (form_at g here 0) (lacks_nobody g 0) run)
      where
        kept : (number : ℕ) → number ≡ first_epoch c0 → (key : ℕ × ℕ) → key.0 ≡ number → get (recovered_in new.held) key ≡ get (recovered_in k) key
        kept number is key at = opening_keeps c0 (form_at g here 0) w (stopped (Faulted its)) new run key (under (first_epoch c0) number key.0 is at)
          where
            under : (a n m : ℕ) → n ≡ a → m ≡ n → a - 1 ≤ m
            under a n m one two = omega (arith, one, two)

        stored : (number dealer : ℕ) → IsOpeningStop c0 (c0.seen k) k (fault.LocalState (local.StoredDealing number dealer)) → IsFirstRefusedIn g.script (recovered_in new.held) number dealer
        stored number dealer why = by_block (first_block c0) refl why
          where
            by_info : (block : Block directory.Unit) → first_block c0 ≡ Some block → (o : Option (EpochInfo directory.Unit)) → info_of block.payload ≡ o
                → IsSomeAnd o (Why number dealer) → IsFirstRefusedIn g.script (recovered_in new.held) number dealer
            by_info block there None carries why = absurd why
            by_info block there (Some info) carries why =
                let found = first_there g here block there in
                refused_same g.script (recovered_in k) (recovered_in new.held) number dealer (kept number why.0)
                (stored_found g 0 (started c0 (c0.seen k)) k read_k (first_epoch c0) info (share_read c0 info k) (seed_read c0 info k) number dealer why found.0 block found.1 found.3 carries)

            by_block : (o : Option (Block directory.Unit)) → first_block c0 ≡ o → IsSomeAnd o (λ block. IsSomeAnd (info_of block.payload) (Why number dealer)) → IsFirstRefusedIn g.script (recovered_in new.held) number dealer
            by_block None there why = absurd why
            by_block (Some block) there why = by_info block there (info_of block.payload) refl why

        refused : (number : ℕ) → its ≡ fault.LocalState (local.ShareRefused number) → IsOpeningStop c0 (c0.seen k) k (fault.LocalState (local.ShareRefused number)) → IsBegunBy g.script number (IsRefusedBy g.script new.held.secrets number)
        refused number same why = by_block (first_block c0) refl why
          where
            Its : EpochInfo directory.Unit → Type 0
            Its info = IsSetupFault c0 (first_epoch c0) info (share_read c0 info k) (seed_read c0 info k) (started c0 (c0.seen k)) (fault.LocalState (local.ShareRefused number))

            by_info : (block : Block directory.Unit) → first_block c0 ≡ Some block → (o : Option (EpochInfo directory.Unit)) → info_of block.payload ≡ o → IsSomeAnd o Its
                → IsBegunBy g.script number (IsRefusedBy g.script new.held.secrets number)
            by_info block there None carries why = absurd why
            by_info block there (Some info) carries why =
                let found = first_there g here block there in
                let stores = opening_stored block there info carries why.1.0 number (subst (λ (x : Fault). EndsSo (node_opening c0) (stopped (Faulted x)) w new) same run) in
                refused_found g 0 new.held (first_epoch c0) info number why.0
                (refused_drawn g 0 new.held (first_epoch c0) info (share_read c0 info k) (seed_read c0 info k) why.1.0 stores.seed_is
                (λ its is. inl (subst (λ (o : Option ℕ). IfSome o (λ x. get new.held.secrets.shares (first_epoch c0) ≡ Some x)) is stores.share_is)) why.1.2.0 why.1.2.2.1.0 (started c0 (c0.seen k)) why.1.2.2.0
                why.1.1 why.1.2.1 why.1.2.2.1.1) found.0 block found.1 found.3 carries

            by_block : (o : Option (Block directory.Unit)) → first_block c0 ≡ o → IsSomeAnd o (λ block. IsSomeAnd (info_of block.payload) Its) → IsBegunBy g.script number (IsRefusedBy g.script new.held.secrets number)
            by_block None there why = absurd why
            by_block (Some block) there why = by_info block there (info_of block.payload) refl why

        by_fault : (own : Fault) → its ≡ own → IsOpeningStop c0 (c0.seen k) k own → ShowsIn g.script (recovered_in new.held) new.held.secrets own
        by_fault (fault.LocalState (local.ShareRefused number)) same why = refused number same why
        by_fault (fault.LocalState (local.StoredDealing number dealer)) same why = stored number dealer why
        by_fault (fault.LocalState (local.OwnDealing epoch kept dealt)) same why = absurd (none_carried (first_block c0) why)
        by_fault own same why = tt

        by_stop : (own : Fault) × (Faulted its ≡ Faulted own) × IsOpeningStop c0 (c0.seen k) k own → ShowsIn g.script (recovered_in new.held) new.held.secrets its
        by_stop (own, is, why) = subst (ShowsIn g.script (recovered_in new.held) new.held.secrets) (sym (the_fault is)) (by_fault own (the_fault is) why)
          where
            the_fault : {x y : Fault} → Faulted x ≡ Faulted y → x ≡ y
            the_fault e = cc

  -- A STEP, in a state whose dealings the devices give back

  module _ (i : ℕ) (its : Event) (is : slice_get g.life.events i ≡ Some its) (reached : IsReached g.life.cut (suc i)) (st : Live directory.Unit) (at : IsAtEvent g i st) (few : HasFew st) (w new : World) (knows : Knows st.records w.held) (drawn : HasDrawn g.script st)
      (stored : DealsStored g.script.config.me st w.held) where
    abbrev c : Fixed directory.Unit
    c = at_step g (suc i)

    reads_secrets : ReadsSecrets c.seen
    unfolding at_step
    reads_secrets = record { shares = λ h. refl; seeds = λ h. refl }

    abbrev m : IsMessage g its
    m = message_in g its (event_in_form g here i its is)

    live : IsLiveThrough c any_shares st
    live = live_at g i (suc i) st at.live

    abbrev given : Held
    given = w.held

    known : (asked : List Pair) → IsKnown given asked st w.held
    known asked = (knows, record { gives = λ key v got. got; seeds = refl; shares = refl })

    limit_is : c.limit ≤ 2 ^ 30
    unfolding at_step
    limit_is = here.form.in_bound

    rules_are : c.rules ≡ stand_in
    unfolding at_step
    rules_are = refl

    abbrev Shows : Fault → Type 0
    Shows own = ShowsIn g.script (recovered_in new.held) new.held.secrets own

    -- what a course of the reshare half leaves, the node's leaves
    went_knows : (message : Message directory.Unit) (asked : List Pair) → Comes c given asked (step c message st) w.held → (end : Live directory.Unit) → EndsSo (node_step c (event_of message) st) (went end) w new
        → Knows end.records new.held
    went_knows message asked comes end run = by_half behind.half behind.ends behind.run
      where
        behind : RunsBehind (step c message st) (went end) w new
        behind = steps_run_behind c st message (went end) w new run

        by_half : (half : Ended Fault (Live directory.Unit)) → EndsBehind half (went end) → EndsSo (step c message st) half w behind.mid → Knows end.records new.held
        by_half (went x) same half_run =
            subst (λ (h : Held). Knows end.records h) (sym behind.held) (subst (λ (y : Live directory.Unit). Knows y.records behind.mid.held) (sym same) (lands_at given asked (step c message st) w behind.mid x comes half_run))
        by_half (stopped fault) ends half_run = absurd (let no : ◌≡◌ {A = Ended NodeStop (Live directory.Unit)} (went end) (stopped (Faulted fault)) = ends in cc)
        by_half (broken cause) ends half_run = absurd (let no : ◌≡◌ {A = Ended NodeStop (Live directory.Unit)} (went end) (broken cause) = ends in cc)

    -- a stored dealing that is refused as a request is read, in a life of this round
    asked_shows : (at : Live directory.Unit) (pairs : Pairs) → at.participation.round ≡ st.participation.round → at.records.dealings ≡ maps.entries pairs → (number dealer : ℕ)
        → IsAskStop c at (fault.LocalState (local.StoredDealing number dealer)) → IsFirstRefusedIn g.script pairs number dealer
    asked_shows at pairs same_round same number dealer why =
        subst (λ (n : ℕ). IsFirstRefusedIn g.script pairs n dealer) (sym why.4.0) (asked_found g (suc i) at pairs same why.0 dealer (drawn why.0 (sym same_round ∙ why.2)) why.4.2)

    -- A BLOCK
    module _ (number : ℕ) (made_it : IsMadeOf g.script number) where
      abbrev block : Block directory.Unit
      block = made_it.block

      abbrev Run : Ended NodeStop (Live directory.Unit) → Type 0
      Run ended = EndsSo (node_step c (event_of (Finalized block)) st) ended w new

      fits : BringsRecords c (Finalized block)
      fits = block_fits g bytes here.form.placed here.form.in_bound (suc i) number made_it

      -- one that is applied while dealing
      abbrev asked_dealing : List Pair
      asked_dealing = (given_itself c st).records.dealings

      dealt : st.participation.stage ≡ Deals → Comes c given asked_dealing (step c (Finalized block) st) w.held
      dealt deals = delivered c given asked_dealing block st w.held (known asked_dealing)
          (λ applied. subst (λ (stage : Stage). Comes c given asked_dealing (b.applies_in c block st stage) w.held) (sym deals)
          (deals_at c given asked_dealing (acks_fit g here (suc i)) block st w.held refl (own_fits g here (suc i) st live few) (known asked_dealing)))
          st.participation.stage

      -- .. and any other, but an epoch's last one that is applied
      abbrev asked : List Pair
      asked = st.records.dealings

      not_dealing : (st.participation.stage ≡ Deals → ⊥) → (judged_block c block st ≡ Applied → is_last_height c block.height ≡ true → ⊥) → Comes c given asked (step c (Finalized block) st) w.held
      not_dealing apart nothing = delivered c given asked block st w.held (known asked) (λ applied. by_stage applied st.participation.stage refl (is_last_height c block.height) refl) st.participation.stage
        where
          in_stage : (stage : Stage) → st.participation.stage ≡ stage → Comes c given asked (b.applies_in c block st stage) w.held → Comes c given asked (b.applies c block st) w.held
          in_stage stage is comes = subst (λ (x : Stage). Comes c given asked (b.applies_in c block st x) w.held) (sym is) comes

          by_stage : judged_block c block st ≡ Applied → (stage : Stage) → st.participation.stage ≡ stage → (t : Bool) → is_last_height c block.height ≡ t → Comes c given asked (b.applies c block st) w.held
          by_stage applied Deals is t ends = absurd (apart is)
          by_stage applied stage is true ends = absurd (nothing applied ends)
          by_stage applied Includes is false ends = in_stage Includes is (includes_at c given asked block fits st w.held ends refl (known asked))
          by_stage applied Follows is false ends = in_stage Follows is
              (subst (λ (t : Bool). Comes c given asked (if t then b.carried c block (λ info. b.follows_into c block info st) else Goes (with_tip block st)) w.held) (sym ends) (known asked))
          by_stage applied Ends is false ends = in_stage Ends is (known asked)

      -- WHERE ITS LIFE GOES ON
      block_goes : (end : Live directory.Unit) → Run (went end) → Knows end.records new.held
      block_goes end run = either (next_so c any_shares st (Finalized block) (Some w.held) (led.mid) (Some new.held) (form_at g here (suc i)) live led.next)
        where
          led : IsNodeThrough c any_shares st (Finalized block) (Some w.held) end (Some new.held)
          led = node_steps_lead_through_over c any_shares st (Finalized block) (went end) w new (through_at g here (suc i)) (lacks_nobody g (suc i)) (λ h epoch found. tt) tt live at.active run

          some_is : {A : Type 0} {x y : A} → ◌≡◌ {A = Option A} (Some x) (Some y) → x ≡ y
          some_is e = cc

          taken_over_knows : TakesOver c any_shares st (Finalized block) (Some w.held) led.mid (Some new.held) → Knows end.records new.held
          taken_over_knows over =
              let its = over.taken in
              let seed = seed_read c its.on.info w.held in
              let committed = committed_by Uncommitted its.on.info its.on.share seed w.held in
              let records : end.records ≡ s.records_from (next_epoch c over.block - 1) st.records
              = ap (λ (x : Live directory.Unit). x.records) led.same ∙ its.seated.records ∙ ap (λ (n : ℕ). s.records_from (n - 1) st.records) (sym its.seated.of_epoch ∙ its.on.of_next) in
              subst (λ (h : Held). Knows end.records h) (sym (some_is its.leaves))
              (subst (λ (r : Records). Knows r (set_up_by WasCommitted (next_epoch c over.block) its.on.info (share_read c its.on.info its.on.k) (seed_read c its.on.info its.on.k) committed)) (sym records)
              (set_up WasCommitted (next_epoch c over.block) its.on.info (share_read c its.on.info its.on.k) (seed_read c its.on.info its.on.k) st.records committed (committed_first its.on.info its.on.share seed st.records w.held knows)))

          by_stage : GoesOn c st (Finalized block) led.mid → (stage : Stage) → st.participation.stage ≡ stage → Knows end.records new.held
          by_stage goes Deals is = went_knows (Finalized block) asked_dealing (dealt is) end run
          by_stage goes Includes is = went_knows (Finalized block) asked (not_dealing (λ deals. let no : ◌≡◌ {A = Stage} Includes Deals = sym is ∙ deals in cc) goes.nothing) end run
          by_stage goes Follows is = went_knows (Finalized block) asked (not_dealing (λ deals. let no : ◌≡◌ {A = Stage} Follows Deals = sym is ∙ deals in cc) goes.nothing) end run
          by_stage goes Ends is = went_knows (Finalized block) asked (not_dealing (λ deals. let no : ◌≡◌ {A = Stage} Ends Deals = sym is ∙ deals in cc) goes.nothing) end run

          either : GoesOn c st (Finalized block) led.mid ⊎ TakesOver c any_shares st (Finalized block) (Some w.held) led.mid (Some new.held) → Knows end.records new.held
          either (inl goes) = by_stage goes st.participation.stage refl
          either (inr over) = taken_over_knows over

      -- WHERE IT STOPS by the node's state

      abbrev next : ℕ
      next = next_epoch c block

      -- an epoch's last one, whose setup stops
      module _ (ends : is_last_height c block.height ≡ true) (stage : (st.participation.stage ≡ Follows) ⊎ (st.participation.stage ≡ Includes)) where
        next_is : epoch_of c.blocks_per_epoch (block.height + 1) ≡ next
        next_is = next_last c.blocks_per_epoch block.height (form_at g here (suc i)).counted ends

        -- it keeps the dealings of its epoch and of the next
        keeps : (stop : NodeStop) → Run (stopped stop) → (key : ℕ × ℕ) → epoch_of c.blocks_per_epoch block.height ≤ key.0 → get (recovered_in new.held) key ≡ get (recovered_in w.held) key
        keeps stop run key above =
            let behind : RunsBehind (step c (Finalized block) st) (stopped stop) w new = steps_run_behind c st (Finalized block) (stopped stop) w new run in
            ap (λ (h : Held). get (recovered_in h) key) behind.held
            ∙ along_runs (KeepsFrom (epoch_of c.blocks_per_epoch (block.height + 1) - 1) w.held) (on_devices (step c (Finalized block) st)) behind.half w behind.mid (last_keeps c block st w ends stage) behind.run key
            (under (epoch_of c.blocks_per_epoch (block.height + 1)) (epoch_of c.blocks_per_epoch block.height) key.0 next_is above)
          where
            under : (a n x : ℕ) → a ≡ n + 1 → n ≤ x → a - 1 ≤ x
            under a n x one two = omega (arith, one, two)

        at_next : (key : ℕ × ℕ) → key.0 ≡ next → epoch_of c.blocks_per_epoch block.height ≤ key.0
        at_next key is = more (epoch_of c.blocks_per_epoch block.height) key.0 is
          where
            more : (n x : ℕ) → x ≡ n + 1 → n ≤ x
            more n x is = omega (arith, is)

        module _ (on : IsCarriedOn c any_shares block st (Some w.held)) where
          -- the devices behind the setup, with this share committed
          abbrev behind_setup : Option ℕ → Held
          behind_setup share =
              let k = held_with c on.info share w.held in set_up_by WasCommitted next on.info (share_read c on.info k) (seed_read c on.info k) k

          as_script : (its : ℕ) → c.rules.partial_public_of on.info.output c.me ≡ Some (c.rules.share_public_of its) → stand_in.partial_public_of on.info.output g.script.config.me ≡ Some (stand_in.share_public_of its)
          unfolding at_step
          as_script its is = is

          abbrev Refused : Held → Type 0
          Refused h = Draws g.script next on.info (IsRefusedBy g.script h.secrets next)

          refuses : (share : Option ℕ) → Refuses Refused c on.info next (share_read c on.info (held_with c on.info share w.held)) (seed_read c on.info (held_with c on.info share w.held)) (behind_setup share)
          refuses share round why at valid drawn may deals =
              refused_drawn g (suc i) (behind_setup share) next on.info (share_read c on.info (held_with c on.info share w.held)) (seed_read c on.info (held_with c on.info share w.held)) on.of_next
              (subst (λ (e : ℕ). get (behind_setup share).secrets.seeds e ≡ Some (seed_read c on.info (held_with c on.info share w.held))) on.of_next
              (seed_stored c rules_are reads_secrets on.info next on.of_next share w.held (behind_setup share) refl))
              (λ its is. elim (share_stored c rules_are reads_secrets on.info next on.of_next share w.held (behind_setup share) refl its is) [
                | inl there ↦ inl (subst (λ (e : ℕ). get (behind_setup share).secrets.shares e ≡ Some its) on.of_next there)
                | inr its_fit ↦ inr (as_script its its_fit)
              ]) round why at may valid drawn deals

          last_refused : (epoch : ℕ) → Run (stopped (Faulted (fault.LocalState (local.ShareRefused epoch)))) → Refused new.held
          last_refused epoch run =
              halted Refused (step c (Finalized block) st) w new (fault.LocalState (local.ShareRefused epoch))
              (block_halts Refused c (form_at g here (suc i)) block st w.held ends on.info on.carried on.of_next refuses stage) (block_stopped c block st (local.ShareRefused epoch) w new run)

        last_shows : (cause : LocalCause) → IsPassingStop c any_shares block st (Some w.held) (fault.LocalState cause) → Run (stopped (Faulted (fault.LocalState cause))) → Shows (fault.LocalState cause)
        last_shows (local.ShareRefused epoch) why run =
            refused_found g (suc i) new.held next (why.0).info epoch why.1.0 (last_refused why.0 epoch run) number block made_it.is (last_begins g here (suc i) block ends) (why.0).carried
        last_shows (local.StoredDealing epoch dealer) why run =
            refused_same g.script (recovered_in w.held) (recovered_in new.held) epoch dealer (λ key same. keeps (Faulted (fault.LocalState (local.StoredDealing epoch dealer))) run key (at_next key (same ∙ why.1.0)))
            (stored_found g (suc i) (taken_over c block (why.0).info (why.0).share st) w.held knows.dealings next (why.0).info (share_read c (why.0).info (why.0).k) (seed_read c (why.0).info (why.0).k) epoch dealer why.1 number block
            made_it.is (last_begins g here (suc i) block ends) (why.0).carried)
        last_shows (local.OwnDealing epoch kept other) why run = absurd why.1
        last_shows cause why run = tt

      -- a request that is read while including
      epoch_here : judged_block c block st ≡ Applied → st.participation.stage ≡ Includes → (round : Round) → st.participation.round ≡ Some round → round.number ≡ epoch_of c.blocks_per_epoch block.height
      epoch_here applied is round there =
          let apart : st.participation.stage ≡ Follows → ⊥ = λ follows. let no : ◌≡◌ {A = Stage} Includes Follows = sym is ∙ follows in cc in
          (live.stands).numbered round there ∙ (live.stands).awaits apart ∙ sym (applied_here c block (unasked st) live.stands (applied_so c block (unasked st) applied) apart)

      included_asks : judged_block c block st ≡ Applied → st.participation.stage ≡ Includes → (epoch dealer : ℕ) → IsAskStop c st (fault.LocalState (local.StoredDealing epoch dealer))
          → Run (stopped (Faulted (fault.LocalState (local.StoredDealing epoch dealer)))) → IsFirstRefusedIn g.script (recovered_in new.held) epoch dealer
      included_asks applied is epoch dealer why run = by_last (is_last_height c block.height) refl
        where
          by_last : (t : Bool) → is_last_height c block.height ≡ t → IsFirstRefusedIn g.script (recovered_in new.held) epoch dealer
          by_last true ends =
              refused_same g.script (recovered_in w.held) (recovered_in new.held) epoch dealer
              (λ key same. keeps ends (inr is) (Faulted (fault.LocalState (local.StoredDealing epoch dealer))) run key (same_or (epoch_of c.blocks_per_epoch block.height) key.0 (same ∙ why.4.0 ∙ epoch_here applied is why.0 why.2)))
              (asked_shows st (recovered_in w.held) refl knows.dealings epoch dealer why)
            where
              same_or : (n x : ℕ) → x ≡ n → n ≤ x
              same_or n x is = omega (arith, is)
          by_last false ends =
              let landed = lands_stopped given asked (step c (Finalized block) st) w new (fault.LocalState (local.StoredDealing epoch dealer))
              (not_dealing (λ deals. let no : ◌≡◌ {A = Stage} Includes Deals = sym is ∙ deals in cc) (λ _ last. let no : true ≡ false = sym last ∙ ends in cc))
              (block_stopped c block st (local.StoredDealing epoch dealer) w new run) in
              asked_shows st (recovered_in new.held) refl landed.1 epoch dealer why

      -- .. or as inclusion begins
      dealing_shows : st.participation.stage ≡ Deals → (cause : LocalCause) → IsDealingStop c st (fault.LocalState cause) ⊎ IsAskStop c (given_itself c st) (fault.LocalState cause)
          → Run (stopped (Faulted (fault.LocalState cause))) → Shows (fault.LocalState cause)
      dealing_shows deals (local.StoredDealing epoch dealer) (inl none) run = absurd none
      dealing_shows deals (local.StoredDealing epoch dealer) (inr why) run =
          let landed = lands_stopped given asked_dealing (step c (Finalized block) st) w new (fault.LocalState (local.StoredDealing epoch dealer)) (dealt deals) (block_stopped c block st (local.StoredDealing epoch dealer) w new run) in
          asked_shows (given_itself c st) (recovered_in new.held) ((given_same c st).same).round landed.1 epoch dealer why
      dealing_shows deals (local.OwnDealing epoch kept other) (inl differs) run =
          let found = own_found g (suc i) st w.held knows.dealings epoch kept other differs in
          let landed = lands_stopped given asked_dealing (step c (Finalized block) st) w new (fault.LocalState (local.OwnDealing epoch kept other)) (dealt deals) (block_stopped c block st (local.OwnDealing epoch kept other) w new run) in
          let persists = landed.0 in
          (found.0, persists.gives (epoch, g.script.config.me) (kept, found.0) found.1, own_dealt g (suc i) st w.held drawn stored epoch kept other differs new.held.secrets persists.seeds persists.shares)
      dealing_shows deals (local.OwnDealing epoch kept other) (inr why) run = absurd why.4
      dealing_shows deals (local.ShareRefused epoch) (inl none) run = absurd none
      dealing_shows deals (local.ShareRefused epoch) (inr why) run = absurd why.4
      dealing_shows deals cause why run = tt

      including_shows : judged_block c block st ≡ Applied → st.participation.stage ≡ Includes → (cause : LocalCause)
          → IsAskStop c st (fault.LocalState cause) ⊎ ((is_last_height c block.height ≡ true) × IsPassingStop c any_shares block st (Some w.held) (fault.LocalState cause))
          → Run (stopped (Faulted (fault.LocalState cause))) → Shows (fault.LocalState cause)
      including_shows applied is (local.StoredDealing epoch dealer) (inl why) run = included_asks applied is epoch dealer why run
      including_shows applied is (local.OwnDealing epoch kept other) (inl why) run = absurd why.4
      including_shows applied is (local.ShareRefused epoch) (inl why) run = absurd why.4
      including_shows applied is cause (inl why) run = tt
      including_shows applied is cause (inr why) run = last_shows why.0 (inr is) cause why.1 run

      block_shows : (cause : LocalCause) → IsStopThrough c any_shares st (Finalized block) (Some w.held) (fault.LocalState cause) → Run (stopped (Faulted (fault.LocalState cause))) → Shows (fault.LocalState cause)
      block_shows cause why run = by_judged (judged_block c block st) refl why
        where
          by_stage : judged_block c block st ≡ Applied → (stage : Stage) → st.participation.stage ≡ stage → IsAppliedStopThrough c any_shares block st (Some w.held) stage (fault.LocalState cause) → Shows (fault.LocalState cause)
          by_stage applied Deals is (inl own) = dealing_shows is cause (inl own) run
          by_stage applied Deals is (inr asks) = dealing_shows is cause (inr asks.2) run
          by_stage applied Includes is (inl asks) = including_shows applied is cause (inl asks.1) run
          by_stage applied Includes is (inr passes) = including_shows applied is cause (inr passes) run
          by_stage applied Follows is passes = last_shows passes.0 (inl is) cause passes.1 run
          by_stage applied Ends is none = absurd none

          by_judged : (judged : Judged) → judged_block c block st ≡ judged → IsBlockStopThrough c any_shares block st (Some w.held) judged (fault.LocalState cause) → Shows (fault.LocalState cause)
          by_judged (Refusal refused) so same = absurd (not_local c block st cause (so ∙ ap (λ (x : Fault). Refusal x) (sym same)))
          by_judged Passed so none = absurd none
          by_judged Applied so stops = by_stage so st.participation.stage refl stops

    -- ANY OTHER MESSAGE touches no device
    module _ (mail : Mail directory.Unit) (other : IsOther {Dir = directory.Unit} (Mailed mail)) where
      mail_knows : (end : Live directory.Unit) → EndsSo (node_step c (event_of (Mailed mail)) st) (went end) w new → Knows end.records new.held
      mail_knows end run = went_knows (Mailed mail) st.records.dealings (asks c given st.records.dealings mail st w.held other refl (known st.records.dealings)) end run

      mail_shows : (cause : LocalCause) → IsStopThrough c any_shares st (Mailed mail) (Some w.held) (fault.LocalState cause) → EndsSo (node_step c (event_of (Mailed mail)) st) (stopped (Faulted (fault.LocalState cause))) w new
          → Shows (fault.LocalState cause)
      mail_shows cause why run = by_cause cause (of_mail mail why)
        where
          of_mail : (mail : Mail directory.Unit) → IsStopThrough c any_shares st (Mailed mail) (Some w.held) (fault.LocalState cause) → IsAskStop c st (fault.LocalState cause)
          of_mail (Peer from bytes) why = absurd why
          of_mail (NextLog request height) why = absurd why
          of_mail (ReleaseLog height) why = absurd why
          of_mail (EpochInfoOf request) why = why.1
          of_mail (Feed request fed) why = why.1
          of_mail (Over request) why = why.1
          of_mail (Cancel request) why = why.1
          of_mail (Work handed) why = why.1

          held : new.held ≡ w.held
          held = idle_held c mail other st (stopped (Faulted (fault.LocalState cause))) w new at.active run

          by_cause : (its : LocalCause) → IsAskStop c st (fault.LocalState its) → Shows (fault.LocalState its)
          by_cause (local.StoredDealing epoch dealer) why = subst (λ (h : Held). IsFirstRefusedIn g.script (recovered_in h) epoch dealer) (sym held) (asked_shows st (recovered_in w.held) refl knows.dealings epoch dealer why)
          by_cause (local.OwnDealing epoch kept other) why = absurd why.4
          by_cause (local.ShareRefused epoch) why = absurd why.4
          by_cause its why = tt

    -- ANY STEP

    run_here : (ended : Ended NodeStop (Live directory.Unit)) → EndsSo (step_of g (suc i) its st) ended w new → EndsSo (node_step c (event_of m.message) st) ended w new
    run_here ended run = subst (λ (course : Course directory.Unit NodeStop (Live directory.Unit)). EndsSo course ended w new) (m.course (suc i) st) run

    run_as : (message other : Message directory.Unit) (ended : Ended NodeStop (Live directory.Unit)) → message ≡ other → EndsSo (node_step c (event_of message) st) ended w new → EndsSo (node_step c (event_of other) st) ended w new
    run_as message other ended is run = subst (λ (x : Message directory.Unit). EndsSo (node_step c (event_of x) st) ended w new) is run

    pub step_knows : (end : Live directory.Unit) → EndsSo (step_of g (suc i) its st) (went end) w new → Knows end.records new.held
    step_knows end run = by_event its is m.message m.brings (run_here (went end) run)
      where
        by_event : (e : Event) → slice_get g.life.events i ≡ Some e → (message : Message directory.Unit) → Brings g e message → EndsSo (node_step c (event_of message) st) (went end) w new → Knows end.records new.held
        by_event (event.Peer from bytes) there message brings its_run =
            went_knows (Mailed (Peer from bytes)) [] (hears c given [] from bytes st st.participation.stage w.held (message_fits c from bytes limit_is (event_in_form g here i (event.Peer from bytes) there)) (known [])) end
            (run_as message (Mailed (Peer from bytes)) (went end) brings its_run)
        by_event (event.Final number) there message brings its_run = block_goes number brings.0 end (run_as message (Finalized (brings.0).block) (went end) brings.1 its_run)
        by_event (event.Next request height) there message brings its_run = mail_knows (NextLog request height) tt end (run_as message (Mailed (NextLog request height)) (went end) brings its_run)
        by_event (event.Release height) there message brings its_run = mail_knows (ReleaseLog height) tt end (run_as message (Mailed (ReleaseLog height)) (went end) brings its_run)
        by_event (event.Info request) there message brings its_run = mail_knows (EpochInfoOf request) tt end (run_as message (Mailed (EpochInfoOf request)) (went end) brings its_run)
        by_event (event.Feed request number) there message brings its_run =
            mail_knows (Feed request (brings.0).block) tt end (run_as message (Mailed (Feed request (brings.0).block)) (went end) brings.1 its_run)
        by_event (event.Over request) there message brings its_run = mail_knows (Over request) tt end (run_as message (Mailed (Over request)) (went end) brings its_run)
        by_event (event.Cancel request) there message brings its_run = mail_knows (Cancel request) tt end (run_as message (Mailed (Cancel request)) (went end) brings its_run)
        by_event event.Work there message brings its_run = mail_knows (Work None) tt end (run_as message (Mailed (Work None)) (went end) brings its_run)
        by_event other there message brings its_run = absurd brings

    pub step_shows : (own : Fault) → EndsSo (step_of g (suc i) its st) (stopped (Faulted own)) w new → ShowsIn g.script (recovered_in new.held) new.held.secrets own
    step_shows own run = by_own own (run_here (stopped (Faulted own)) run)
      where
        the_fault : {x y : Fault} → Faulted x ≡ Faulted y → x ≡ y
        the_fault e = cc

        local_shows : (cause : LocalCause) → EndsSo (node_step c (event_of m.message) st) (stopped (Faulted (fault.LocalState cause))) w new → Shows (fault.LocalState cause)
        local_shows cause run = by_event its m.message m.brings run
          where
            why : (message : Message directory.Unit) (taken : IsTakenThrough c message st) → EndsSo (node_step c (event_of message) st) (stopped (Faulted (fault.LocalState cause))) w new
                → IsStopThrough c any_shares st message (Some w.held) (fault.LocalState cause)
            why message taken its_run =
                let led = node_steps_lead_through_over c any_shares st message (stopped (Faulted (fault.LocalState cause))) w new (through_at g here (suc i)) (lacks_nobody g (suc i)) (λ h epoch found. tt) taken live at.active its_run in
                subst (λ (x : Fault). IsStopThrough c any_shares st message (Some w.held) x) (sym (the_fault led.1)) led.2

            End : Ended NodeStop (Live directory.Unit)
            End = stopped (Faulted (fault.LocalState cause))

            asks_show : (mail : Mail directory.Unit) → IsOther {Dir = directory.Unit} (Mailed mail) → IsTakenThrough c (Mailed mail) st → EndsSo (node_step c (event_of (Mailed mail)) st) End w new → Shows (fault.LocalState cause)
            asks_show mail other taken its_run = mail_shows mail other cause (why (Mailed mail) taken its_run) its_run

            by_event : (e : Event) (message : Message directory.Unit) → Brings g e message → EndsSo (node_step c (event_of message) st) End w new → Shows (fault.LocalState cause)
            by_event (event.Peer from bytes) message brings its_run = absurd (why (Mailed (Peer from bytes)) tt (run_as message (Mailed (Peer from bytes)) End brings its_run))
            by_event (event.Final number) message brings its_run =
                let now = run_as message (Finalized (brings.0).block) End brings.1 its_run in block_shows number brings.0 cause (why (Finalized (brings.0).block) tt now) now
            by_event (event.Next request height) message brings its_run = asks_show (NextLog request height) tt tt (run_as message (Mailed (NextLog request height)) End brings its_run)
            by_event (event.Release height) message brings its_run = asks_show (ReleaseLog height) tt tt (run_as message (Mailed (ReleaseLog height)) End brings its_run)
            by_event (event.Info request) message brings its_run = asks_show (EpochInfoOf request) tt tt (run_as message (Mailed (EpochInfoOf request)) End brings its_run)
            by_event (event.Feed request number) message brings its_run = asks_show (Feed request (brings.0).block) tt tt (run_as message (Mailed (Feed request (brings.0).block)) End brings.1 its_run)
            by_event (event.Over request) message brings its_run = asks_show (Over request) tt tt (run_as message (Mailed (Over request)) End brings its_run)
            by_event (event.Cancel request) message brings its_run = asks_show (Cancel request) tt tt (run_as message (Mailed (Cancel request)) End brings its_run)
            by_event event.Work message brings its_run = asks_show (Work None) tt tt (run_as message (Mailed (Work None)) End brings its_run)
            by_event other message brings its_run = absurd brings

        by_own : (own : Fault) → EndsSo (node_step c (event_of m.message) st) (stopped (Faulted own)) w new → Shows own
        by_own (fault.LocalState cause) run = local_shows cause run
        by_own its run = tt
