-- The shares that devices hold are such as are meant, wherever an opening of the form, a block or a message ends, where each info that is committed has such a share.
use Rattle.std.proofs.Common.{◌≡◌, inl, inr, ℕ, Bool, true, ◌==◌, ◌&&◌, nat_le, List, Option, Some, None, refl, sym, ◌∙◌, ap, subst}
use Rattle.std.specs.Prelude.{◌+◌, ◌-◌, IfSome, Ok, Err, Result, if◌then◌else◌, nat_lt, not}
use Rattle.std.specs.FinMap as maps
use Rattle.std.specs.FinMap.{get, nat_cmp-IsAntisymmetric}
use Rattle.std.specs.Cmp.{nat_cmp_total}
use Rattle.std.proofs.lemmas.Bool.{eqb-true}
use Rattle.dkg_values.specs.Rising.{lookup}
use Rattle.dkg_ceremony.specs.Schedule.{boundary, epoch_of, midpoint}
use Rattle.dkg_journal.specs.Operations as of_journal
use Rattle.dkg_secrets.specs.Keys.{StaysOrGoes}
use Rattle.dkg_secrets.specs.Secrets.{Secrets, Tries, after}
use Rattle.dkg_secrets.specs.declared.secrets.SecretOp.TheVariants.{Prune, PutSeed, PutShare}
use Rattle.dkg_secrets.proofs.Map.{get_here, get_other, same_key}
use Rattle.dkg_secrets.proofs.Tried.{all_done}
use Rattle.dkg_types.specs.BlockCodes.{info_of}
use Rattle.dkg_types.specs.Blocks.{Block}
use Rattle.dkg_infos.specs.Validation.{validation}
use Rattle.dkg_infos.specs.declared.entry.Entry.{Entry}
use Rattle.dkg_infos.specs.declared.fault.Fault.{Fault}
use Rattle.dkg_infos.specs.declared.fault.Fault.TheVariants.{HeightRange, MissingEpochInfo, WrongEpoch}
use Rattle.dkg_infos.specs.declared.info.EpochInfo.{EpochInfo}
use Rattle.dkg_infos.specs.declared.participants.ParticipantsError.{ParticipantsError}
use Rattle.dkg_store.specs.Acts.{Changes, Ended, Held, OnDisk, World, does, says}
use Rattle.dkg_store.proofs.Acts.{along_runs}
use Rattle.dkg_core.specs.Behind.{IsAside, RunsBehind, event_of}
use Rattle.dkg_core.specs.Blocks as b
use Rattle.dkg_core.specs.Core.{opening, step}
use Rattle.dkg_core.specs.Courses.{Course, EndsSo, Goes, Stops, Throughout, bind, on_devices}
use Rattle.dkg_core.specs.Dealing as d
use Rattle.dkg_core.specs.Fixed.{Fixed}
use Rattle.dkg_core.specs.Asked.{OfShares, ReadsShare}
use Rattle.dkg_core.specs.Forms.{IsForm}
use Rattle.dkg_laws.specs.SharesMoved.{IsSuchShare}
use Rattle.dkg_core.specs.Through.{IsFormThrough, IsLiveThrough}
use Rattle.dkg_core.specs.Including as i
use Rattle.dkg_core.specs.Live.{Deals, Ends, Finalized, Follows, Includes, Live, NodeStop, Peer, Mailed, Stage, awaited_height, is_last_height, with_tip}
use Rattle.dkg_core.specs.Node.{node_opening, node_step}
use Rattle.dkg_core.specs.Setup as s
use Rattle.dkg_core.specs.Endings.{first_epoch}
use Rattle.dkg_core.proofs.Behind.{openings_run_behind, steps_run_behind}
use Rattle.dkg_core.proofs.Running.{along_as}
use Rattle.dkg_core.proofs.Applied.{judged_is}
use Rattle.dkg_laws.proofs.MovingShares.{blocks_put_shares}
use Rattle.dkg_core.proofs.Upkeep.{along_if, along_option}
use Rattle.dkg_core.proofs.Walking as walk
use Rattle.dkg_lives.proofs.OpeningsLeave.{opening_walks}
use Rattle.dkg_lives.proofs.OwnSteps.{SameSecrets, deals_same, hears_same}

none_some : {A : Type 0} {x : A} → ◌≡◌ {A = Option A} None (Some x) → ⊥
none_some e = cc

some_is : {A : Type 0} {x y : A} → ◌≡◌ {A = Option A} (Some x) (Some y) → x ≡ y
some_is e = cc

deals_apart : ◌≡◌ {A = Stage} Deals Includes → ⊥
deals_apart e = cc

follows_apart : ◌≡◌ {A = Stage} Follows Includes → ⊥
follows_apart e = cc

ends_apart : ◌≡◌ {A = Stage} Ends Includes → ⊥
ends_apart e = cc

-- Each share that these devices hold is such a one of its epoch.
abbrev pub HoldsSuch : (Such : (epoch share : ℕ) → Type 0) → Held → Type 0
HoldsSuch Such h = (epoch share : ℕ) → get h.secrets.shares epoch ≡ Some share → Such epoch share

module _ (Such : (epoch share : ℕ) → Type 0) where
  abbrev A : World → Type 0
  A w = HoldsSuch Such w.held

  -- EACH CHANGE of the secrets

  pub same_shares : (h k : Held) → k.secrets.shares ≡ h.secrets.shares → HoldsSuch Such h → HoldsSuch Such k
  same_shares h k is q epoch share got = q epoch share (sym (ap (λ m. get m epoch) is) ∙ got)

  pub share_put : (h k : Held) (at share : ℕ) → Such at share → k.secrets.shares ≡ maps.insert h.secrets.shares at share → HoldsSuch Such h → HoldsSuch Such k
  share_put h k at share such is q epoch its got = elim (same_key nat_cmp_total nat_cmp-IsAntisymmetric epoch at) [
    | inl here ↦ subst (λ (n : ℕ). Such n its) (sym here) (subst (Such at) (the_share here) such)
    | inr apart ↦ q epoch its (sym (get_other nat_cmp_total nat_cmp-IsAntisymmetric h.secrets.shares at epoch share apart) ∙ sym (ap (λ m. get m epoch) is) ∙ got)
  ]
    where
      the_share : epoch ≡ at → share ≡ its
      the_share here = some_is (sym (get_here nat_cmp_total nat_cmp-IsAntisymmetric h.secrets.shares at share) ∙ ap (get (maps.insert h.secrets.shares at share)) (sym here) ∙ sym (ap (λ m. get m epoch) is) ∙ got)

  share_tried : (epoch share : ℕ) (w new : World) → Such epoch share → Tries (PutShare epoch share) w.held.secrets new.held.secrets → A w → A new
  share_tried epoch share w new such tries q = elim tries.so [
    | inl stays ↦ same_shares w.held new.held (ap (λ (x : Secrets). x.shares) stays) q
    | inr done ↦ share_put w.held new.held epoch share such (ap (λ (x : Secrets). x.shares) done) q
  ]

  seed_tried : (epoch : ℕ) (seed : List ℕ) (w new : World) → Tries (PutSeed epoch seed) w.held.secrets new.held.secrets → A w → A new
  seed_tried epoch seed w new tries q = elim tries.so [
    | inl stays ↦ same_shares w.held new.held (ap (λ (x : Secrets). x.shares) stays) q
    | inr done ↦ same_shares w.held new.held (ap (λ (x : Secrets). x.shares) done) q
  ]

  prune_tried : (min : ℕ) (w new : World) → Tries (Prune min) w.held.secrets new.held.secrets → A w → A new
  prune_tried min w new tries q epoch share got = either (tries.so.shares epoch)
    where
      either : StaysOrGoes min epoch (get w.held.secrets.shares epoch) (get new.held.secrets.shares epoch) → Such epoch share
      either (inl stays) = q epoch share (sym stays ∙ got)
      either (inr gone) = absurd (none_some (sym gone.1 ∙ got))

  tell : (w : World) (line : Entry) → IsAside line → A w → A (says w line)
  tell w line aside q = q

  module _ {Dir : Type 0} where
    prunes : (min : ℕ) (st : Live Dir) (w : World) → A w → Throughout A (s.prunes min st) w
    prunes min st w q =
        let mid : World = does w (OnDisk (of_journal.Prunes min)) in (
          λ cause new tears. same_shares w.held new.held (ap (λ (x : Secrets). x.shares) tears.torn.0) q,
          (
            λ cause new tears. prune_tried min mid new tears.torn.1 q,
            prune_tried min mid (does mid (Changes (Prune min))) (all_done (Prune min) mid.held.secrets (after (Prune min) mid.held.secrets) refl) q,
          ),
        )

    commits : (info : EpochInfo Dir) (seed : List ℕ) (share : Option ℕ) (st : Live Dir) (w : World) → IfSome share (Such info.epoch) → A w → Throughout A (s.commits info seed share st) w
    commits info seed None st w such q =
        let new : World = does w (Changes (PutSeed info.epoch seed)) in
        let done : A new = same_shares w.held new.held refl q in
        (λ cause new tears. seed_tried info.epoch seed w new tears.torn.1 q, (done, done))
    commits info seed (Some share) st w such q =
        let mid : World = does w (Changes (PutShare info.epoch share)) in
        let new : World = does mid (Changes (PutSeed info.epoch seed)) in
        let first : A mid = share_put w.held mid.held info.epoch share such refl q in
        let done : A new = same_shares mid.held new.held refl first in (
          λ cause new tears. share_tried info.epoch share w new such tears.torn.1 q,
          (λ cause new tears. seed_tried info.epoch seed mid new tears.torn.1 first, (done, done)),
        )

  -- A SETUP

  module _ {Dir : Type 0} (c : Fixed Dir) where
    -- What is recovered for this info, over devices that hold such shares, is such a share.
    abbrev pub Serves : EpochInfo Dir → Type 0
    Serves info = (h : Held) → HoldsSuch Such h → IfSome (s.recovered_share c (c.seen h) info) (Such info.epoch)

    -- .. where it is to be committed
    abbrev Needs : s.Standing → EpochInfo Dir → Type 0
    Needs s.Uncommitted info = Serves info
    Needs s.WasCommitted info = Unit {0}

    abbrev seed_read : World → EpochInfo Dir → List ℕ
    seed_read w info = s.seed_for c info.epoch (lookup info.epoch (c.seen w.held).seeds)

    abbrev share_read : World → EpochInfo Dir → Option ℕ
    share_read w info = s.recovered_share c (c.seen w.held) info

    commits_new : (standing : s.Standing) (info : EpochInfo Dir) (st : Live Dir) (w : World) → Needs standing info → A w → Throughout A (s.commits_new standing c info (seed_read w info) (share_read w info) st) w
    commits_new s.WasCommitted info st w needs q = q
    commits_new s.Uncommitted info st w needs q =
        let seed = seed_read w info in
        let share = share_read w info in
        walk.then_next c A tell (s.commits info seed share st) (λ st. s.registers c info share st) w (commits info seed share st w (needs w.held q) q) (λ st w q. walk.registers c A tell info share st w q)

    behind_prune : (floor : Option ℕ) (info : EpochInfo Dir) (share : Option ℕ) (seed : List ℕ) (st : Live Dir) (w : World) → A w
        → Throughout A (if s.is_late_floor c floor then s.follows c st else s.draws_up c (s.participants_of info) (Some info.output) share seed st) w
    behind_prune floor info share seed st w q =
        along_if A w (s.is_late_floor c floor) (s.follows c st) (s.draws_up c (s.participants_of info) (Some info.output) share seed st)
        (λ e. (q, q)) (λ e. walk.draws_up c A tell (s.participants_of info) (Some info.output) share seed st w q)

    with_share_and_seed : (floor : Option ℕ) (standing : s.Standing) (info : EpochInfo Dir) (st : Live Dir) (w : World) → Needs standing info → A w
        → Throughout A (s.with_share_and_seed c floor standing info (share_read w info) (seed_read w info) st) w
    with_share_and_seed floor standing info st w needs q =
        let seed = seed_read w info in
        let share = share_read w info in
        let last : Live Dir → Course Dir Fault (Live Dir) = λ st. if s.is_late_floor c floor then s.follows c st else s.draws_up c (s.participants_of info) (Some info.output) share seed st in
        walk.then_next c A tell (s.commits_new standing c info seed share st) (λ st. bind (s.prunes (st.participation.epoch - 1) st) last) w (commits_new standing info st w needs q)
        (λ st w q. walk.then_next c A tell (s.prunes (st.participation.epoch - 1) st) last w (prunes (st.participation.epoch - 1) st w q) (λ st w q. behind_prune floor info share seed st w q))

    judged : (floor : Option ℕ) (standing : s.Standing) (info : EpochInfo Dir) (st : Live Dir) (valid : Result (Unit {0}) ParticipantsError) (w : World) → Needs standing info → A w → Throughout A (s.info_judged c floor standing info st valid) w
    judged floor standing info st (Err e) w needs q = q
    judged floor standing info st (Ok passed) w needs q = with_share_and_seed floor standing info st w needs q

    with_info : (floor : Option ℕ) (standing : s.Standing) (info : EpochInfo Dir) (st : Live Dir) (w : World) → (info.epoch ≡ st.participation.epoch → Needs standing info) → A w → Throughout A (s.with_info c floor standing info st) w
    with_info floor standing info st w needs q =
        along_if A w (info.epoch == st.participation.epoch) (s.info_judged c floor standing info st (validation (s.participants_of info) c.limit (Some info.output) info.epoch)) (Stops (WrongEpoch st.participation.epoch info.epoch))
        (λ e. judged floor standing info st (validation (s.participants_of info) c.limit (Some info.output) info.epoch) w (needs (eqb-true info.epoch st.participation.epoch e)) q) (λ e. q)

    -- The info of that epoch which the block at its boundary carries serves, if the source has one.
    abbrev pub BoundaryServes : (epoch : ℕ) → Type 0
    BoundaryServes epoch = (block : Block Dir) (info : EpochInfo Dir) → c.source.block (boundary c.blocks_per_epoch epoch) ≡ Some block → info_of block.payload ≡ Some info → info.epoch ≡ epoch → Serves info

    from_boundary : (found : Option (Block Dir)) (st : Live Dir) (w : World)
        → ((block : Block Dir) (info : EpochInfo Dir) → found ≡ Some block → info_of block.payload ≡ Some info → info.epoch ≡ st.participation.epoch → Serves info) → A w → Throughout A (s.from_boundary c found st) w
    from_boundary None st w serves q = (q, q)
    from_boundary (Some block) st w serves q =
        along_option A w (info_of block.payload) (λ info. s.with_info c None s.Uncommitted info st) (Stops (MissingEpochInfo block.height)) (λ info e. with_info None s.Uncommitted info st w (serves block info refl e) q) (λ e. q)

    sets_up : (committed : Option (EpochInfo Dir)) (st : Live Dir) (w : World) → BoundaryServes st.participation.epoch → A w → Throughout A (s.sets_up_by c None committed st) w
    sets_up (Some info) st w serves q = with_info None s.WasCommitted info st w (λ e. tt) q
    sets_up None st w serves q = from_boundary (c.source.block (boundary c.blocks_per_epoch st.participation.epoch)) st w serves q

    setup : (st : Live Dir) (w : World) → BoundaryServes (epoch_of c.blocks_per_epoch (awaited_height st)) → A w → Throughout A (s.setup c None st) w
    setup st w serves q =
        along_if A w (s.is_past_range c (awaited_height st)) (Stops HeightRange) (s.sets_up c None st) (λ e. q) (λ e. sets_up (s.committed_info (s.anew c st)) (s.anew c st) w serves q)

    -- AN OPENING of the form

    pub opening_such : (form : IsForm c) (ended : Ended NodeStop (Live Dir)) (w new : World) → BoundaryServes (first_epoch c) → A w → EndsSo (node_opening c) ended w new → A new
    opening_such form ended w new serves q run =
        let its : RunsBehind (opening c) ended w new = openings_run_behind c ended w new run in
        let mid : A its.mid = along_runs A (on_devices (opening c)) its.half w its.mid
        (opening_walks c form A (λ x line q. q) (λ x new is_es is_t q. same_shares x.held new.held (ap (λ (t : Secrets). t.shares) is_t) q)
        (λ st x is q. setup st x (subst BoundaryServes (sym is) serves) q) w q) its.run in
        subst (HoldsSuch Such) (sym its.held) mid

    -- A BLOCK

    module _ (block : Block Dir) (serves : is_last_height c block.height ≡ true → (info : EpochInfo Dir) → info_of block.payload ≡ Some info → info.epoch ≡ b.expected_epoch c block.height → Serves info)
        (next_serves : is_last_height c block.height ≡ true → BoundaryServes (epoch_of c.blocks_per_epoch (block.height + 1))) where
      follows_into : (info : EpochInfo Dir) (st : Live Dir) (w : World) → Serves info → BoundaryServes (epoch_of c.blocks_per_epoch (block.height + 1)) → A w → Throughout A (b.follows_into c block info st) w
      follows_into info st w its next q =
          let seed = seed_read w info in
          let share = share_read w info in
          walk.then_next c A tell (s.commits info seed share st) (λ st. bind (s.registers c info share st) (λ st. s.setup c None (with_tip block st))) w (commits info seed share st w (its w.held q) q)
          (λ st w q. walk.then_next c A tell (s.registers c info share st) (λ st. s.setup c None (with_tip block st)) w (walk.registers c A tell info share st w q) (λ st w q. setup (with_tip block st) w next q))

      follows_at : (st : Live Dir) (w : World) → A w → Throughout A (b.follows_at c block st) w
      follows_at st w q =
          along_if A w (is_last_height c block.height) (b.carried c block (λ info. b.follows_into c block info st)) (Goes (with_tip block st)) (λ last. carried last) (λ e. q)
        where
          carried : is_last_height c block.height ≡ true → Throughout A (b.carried c block (λ info. b.follows_into c block info st)) w
          carried last =
              along_option A w (info_of block.payload) (λ info. if info.epoch == b.expected_epoch c block.height then b.follows_into c block info st else Stops (WrongEpoch (b.expected_epoch c block.height) info.epoch))
              (Stops (MissingEpochInfo block.height))
              (λ info e. along_if A w (info.epoch == b.expected_epoch c block.height) (b.follows_into c block info st) (Stops (WrongEpoch (b.expected_epoch c block.height) info.epoch))
              (λ right. follows_into info st w (serves last info e (eqb-true info.epoch (b.expected_epoch c block.height) right)) (next_serves last) q) (λ e. q)) (λ e. q)

      deals_at : (st : Live Dir) (w : World) → A w → Throughout A (b.deals_at c block st) w
      deals_at st w q =
          walk.then_next c A tell (d.deals c st) (λ st. if block.height + 1 == midpoint c.blocks_per_epoch st.participation.epoch then i.advanced c (s.begins_inclusion c (with_tip block st)) else Goes (with_tip block st)) w
          (along_as (SameSecrets c w) A (λ x same. same_shares w.held x.held same.shares q) (d.deals c st) w (deals_same c w st w (record { seeds = refl; shares = refl })))
          (λ st w q. along_if A w (block.height + 1 == midpoint c.blocks_per_epoch st.participation.epoch) (i.advanced c (s.begins_inclusion c (with_tip block st))) (Goes (with_tip block st))
          (λ e. walk.advanced c A tell (s.begins_inclusion c (with_tip block st)) w q) (λ e. q))

      module _ (st : Live Dir) (apart : st.participation.stage ≡ Includes → ⊥) (w : World) (q : A w) where
        applies_in : (stage : Stage) → st.participation.stage ≡ stage → Throughout A (b.applies_in c block st stage) w
        applies_in Deals at = deals_at st w q
        applies_in Follows at = follows_at st w q
        applies_in Includes at = absurd (apart at)
        applies_in Ends at = q

        delivered : Throughout A (step c (Finalized block) st) w
        delivered =
            judged_is c block st (λ course. Throughout A course w) (λ t x y one other. along_if A w t x y one other) (λ fault is. q) (λ is. q) (λ is. applies_in st.participation.stage refl) (λ is. q)

      -- A block of a life that includes puts the artifact's share alone.
      module _ (stored : OfShares) (form : IsFormThrough c) (st : Live Dir) (live : IsLiveThrough c stored st)
          (such : (epoch share : ℕ) → IsSuchShare c stored block st epoch share → Such epoch share) (w : World) (reads : ReadsShare c stored (Some w.held)) (q : A w) where
        pub block_such : (ended : Ended NodeStop (Live Dir)) (new : World) → EndsSo (node_step c (event_of (Finalized block)) st) ended w new → A new
        block_such ended new run = by_stage st.participation.stage refl
          where
            walked : (st.participation.stage ≡ Includes → ⊥) → A new
            walked apart =
                let its : RunsBehind (step c (Finalized block) st) ended w new = steps_run_behind c st (Finalized block) ended w new run in
                subst (HoldsSuch Such) (sym its.held) (along_runs A (on_devices (step c (Finalized block) st)) its.half w its.mid (delivered st apart w q) its.run)

            put_at : st.participation.stage ≡ Includes → A new
            put_at at epoch share got = elim (blocks_put_shares c stored block st ended w new form reads live at run epoch share got) [
              | inl was ↦ q epoch share was
              | inr is ↦ such epoch share is
            ]

            by_stage : (stage : Stage) → st.participation.stage ≡ stage → A new
            by_stage Includes at = put_at at
            by_stage Deals at = walked (λ is. deals_apart (sym at ∙ is))
            by_stage Follows at = walked (λ is. follows_apart (sym at ∙ is))
            by_stage Ends at = walked (λ is. ends_apart (sym at ∙ is))

    -- A MESSAGE
    pub message_such : (from : ℕ) (bytes : List ℕ) (st : Live Dir) (ended : Ended NodeStop (Live Dir)) (w new : World) → A w → EndsSo (node_step c (event_of (Mailed (Peer from bytes))) st) ended w new → A new
    message_such from bytes st ended w new q run =
        let its : RunsBehind (step c (Mailed (Peer from bytes)) st) ended w new = steps_run_behind c st (Mailed (Peer from bytes)) ended w new run in
        let same : SameSecrets c w its.mid = along_runs (SameSecrets c w) (on_devices (step c (Mailed (Peer from bytes)) st)) its.half w its.mid
        (hears_same c w from bytes st st.participation.stage w (record { seeds = refl; shares = refl })) its.run in
        same_shares w.held new.held (ap (λ (h : Held). h.secrets.shares) its.held ∙ same.shares) q
