-- Which share an epoch's last block puts, of a life that includes, wherever the node's step ends.
use Rattle.std.proofs.Common.{◌≡◌, ◌≤◌, ◌<◌, ◌⊎◌, inl, inr, ℕ, Bool, true, false, List, [], ◌∷◌, Option, Some, None, refl, sym, ◌∙◌, ap, subst, arith}
use Rattle.std.specs.Prelude.{◌+◌, ◌-◌, ◌==◌, ◌&&◌, if◌then◌else◌, is_some, is_none, IfSome, IsSomeAnd, Ok, Err, Result, option_and_then, option_map}
use Rattle.std.specs.Option.{option_map_or}
use Rattle.std.specs.FinMap as maps
use Rattle.std.specs.FinMap.{FinMap, get, nat_cmp-IsAntisymmetric}
use Rattle.std.specs.Ordering.{nat_cmp}
use Rattle.std.specs.Cmp.{nat_cmp_total}
use Rattle.std.proofs.lemmas.Bool.Decides.{nat_tests}
use Rattle.dkg_values.specs.Rising.{lookup}
use Rattle.dkg_ceremony.specs.declared.round.RoundParts.{RoundParts as Round}
use Rattle.dkg_ceremony.specs.declared.signed_log.SignedDealerLog.{SignedDealerLog}
use Rattle.dkg_ceremony.specs.Outcomes.{LogMap}
use Rattle.dkg_ceremony.specs.Schedule.{epoch_of}
use Rattle.dkg_types.specs.Blocks.{Block}
use Rattle.dkg_types.specs.BlockCodes.{info_of}
use Rattle.dkg_infos.specs.declared.entry.Entry.{Entry}
use Rattle.dkg_infos.specs.declared.entry.Why.TheVariants.{Finished}
use Rattle.dkg_infos.specs.declared.fault.Fault.{Fault}
use Rattle.dkg_infos.specs.declared.fault.Fault.TheVariants.{HeightRange, MissingEpochInfo, WrongEpoch, LocalState}
use Rattle.dkg_infos.specs.declared.fault.LocalCause.TheVariants.{OutcomeOmitted}
use Rattle.dkg_infos.specs.declared.info.EpochInfo.{EpochInfo}
use Rattle.dkg_infos.specs.declared.participants.ParticipantsError.{ParticipantsError}
use Rattle.dkg_types.specs.PayloadCodes.{its_log}
use Rattle.dkg_journal.specs.Operations as of_journal
use Rattle.dkg_secrets.specs.Secrets.{Secrets, Tries, after}
use Rattle.dkg_secrets.specs.declared.secrets.SecretOp.TheVariants.{PutShare, PutSeed, Prune}
use Rattle.dkg_secrets.proofs.Map.{same_key, get_here, get_other}
use Rattle.dkg_secrets.proofs.Tried.{all_done}
use Rattle.dkg_store.specs.Acts.{Held, OnDisk, Changes, World, Ended, does, says, Cause, Tears}
use Rattle.dkg_store.proofs.Acts.{along_runs}
use Rattle.dkg_core.specs.Courses.{Course, EndsSo, Say, Do, CallOutside, Ask, Goes, Stops, bind, on_devices, Throughout}
use Rattle.dkg_core.specs.Sources.{Tip}
use Rattle.dkg_core.specs.Fixed.{Fixed, OneShot}
use Rattle.dkg_core.specs.Live.{Live, Stage, Deals, Includes, Inclusion, Request, Job, VerifiedLogs, Artifact, Cached, NodeStop, Delivers, GaveNone, Finalized, awaited_height, is_last_height, recorded_at, with_tip, with_participation, with_inclusion, with_told}
use Rattle.dkg_core.specs.Logs.{canonical, is_accepted, carried_log_event}
use Rattle.dkg_core.specs.Setup as s
use Rattle.dkg_core.specs.Dealing as d
use Rattle.dkg_core.specs.Including as i
use Rattle.dkg_core.specs.Including.{can_finish, cached_for, job_for, retained_for, retains, verified}
use Rattle.dkg_core.specs.Blocks as b
use Rattle.dkg_core.specs.Core.{step}
use Rattle.dkg_core.specs.Node.{node_step}
use Rattle.dkg_core.specs.Behind.{OnlySays}
use Rattle.dkg_core.specs.Laws.{reach_of}
use Rattle.dkg_core.specs.Endings.{validity}
use Rattle.dkg_core.specs.Forms.{Applied, judged_block, ComesOver, FindsHeld, round_for, share_read, seed_read}
use Rattle.dkg_laws.specs.Idle.{IsAskedEntry}
use Rattle.dkg_core.specs.Stepping.{next_epoch}
use Rattle.dkg_core.specs.Storing.{ReadsSecrets}
use Rattle.dkg_core.specs.Asked.{OfShares, ReadsShare, IsArtifactIn, IsResultIn, IsJobIn, HasAsked, IsAskStop, IsMadeIn}
use Rattle.dkg_core.specs.Through.{IsFormThrough, IsLiveThrough}
use Rattle.dkg_laws.specs.SharesMoved.{IsSuchShare, BlocksMoveShares, BlocksPutShares}
use Rattle.dkg_core.proofs.Advancing.{included, none_found, of_round, retained_is, some_of}
use Rattle.dkg_core.proofs.Applied.{judged_is}
use Rattle.dkg_core.proofs.Artifacts.{artifact_is, cached_is}
use Rattle.dkg_core.proofs.Behind.{steps_run_behind}
use Rattle.dkg_core.proofs.Concluding.{retained_logs}
use Rattle.dkg_core.proofs.Counting.{some_is}
use Rattle.dkg_core.proofs.Heights.{next_last}
use Rattle.dkg_laws.proofs.Idle as idle
use Rattle.dkg_core.proofs.Upkeep.{along_if, along_option}
use Rattle.dkg_core.proofs.Verifying as verifying
use Rattle.dkg_core.proofs.Verifying.{IsEndedIn, verified_is, verifying_ends}
use Rattle.dkg_core.proofs.Walking as walk

none_apart : {A : Type 0} (a : A) → ◌≡◌ {A = Option A} None (Some a) → ⊥
none_apart a e = cc

same_number : (n m : ℕ) → (n == m) ≡ true → n ≡ m
same_number n m e = grind (arith, nat_tests)

equal_number : (n m : ℕ) → n ≡ m → (n == m) ≡ true
equal_number n m e = grind (arith, nat_tests)

-- WHAT A CHANGE OF THE SECRETS MOVES

module _ (Such : ℕ → ℕ → Type 0) (most : ℕ) (held : Held) where
  abbrev Moved : Secrets → Type 0
  Moved now = (epoch : ℕ) → most ≤ epoch → (get now.shares epoch ≡ get held.secrets.shares epoch) ⊎ ((share : ℕ) × (get now.shares epoch ≡ Some share) × Such epoch share)

  -- what is found at an epoch is what was
  as_found : (epoch : ℕ) (old new : Option ℕ) → new ≡ old → (old ≡ get held.secrets.shares epoch) ⊎ ((share : ℕ) × (old ≡ Some share) × Such epoch share)
      → (new ≡ get held.secrets.shares epoch) ⊎ ((share : ℕ) × (new ≡ Some share) × Such epoch share)
  as_found epoch old new same (inl was) = inl (same ∙ was)
  as_found epoch old new same (inr now) = inr (now.0, same ∙ now.1, now.2)

  moved_same : (old new : Secrets) → new.shares ≡ old.shares → Moved old → Moved new
  moved_same old new same was epoch above = as_found epoch (get old.shares epoch) (get new.shares epoch) (ap (λ (m : FinMap nat_cmp ℕ). get m epoch) same) (was epoch above)

  moved_pruned : (min : ℕ) (old new : Secrets) → min ≤ most → Tries (Prune min) old new → Moved old → Moved new
  moved_pruned min old new low tries was epoch above = either (tries.so.shares epoch)
    where
      either : (get new.shares epoch ≡ get old.shares epoch) ⊎ ((epoch < min) × (get new.shares epoch ≡ None))
          → (get new.shares epoch ≡ get held.secrets.shares epoch) ⊎ ((share : ℕ) × (get new.shares epoch ≡ Some share) × Such epoch share)
      either (inl stays) = as_found epoch (get old.shares epoch) (get new.shares epoch) stays (was epoch above)
      either (inr goes) = absurd (let under = goes.0 in omega (arith, under, low, above))

  moved_put : (at share : ℕ) (old new : Secrets) → Such at share → new.shares ≡ maps.insert old.shares at share → Moved old → Moved new
  moved_put at share old new such is was epoch above = elim (same_key nat_cmp_total nat_cmp-IsAntisymmetric epoch at) [
    | inl here ↦ inr (
      share,
      ap (λ (m : FinMap nat_cmp ℕ). get m epoch) is ∙ ap (get (maps.insert old.shares at share)) here ∙ get_here nat_cmp_total nat_cmp-IsAntisymmetric old.shares at share,
      subst (λ (n : ℕ). Such n share) (sym here) such,
    )
    | inr apart ↦ as_found epoch (get old.shares epoch) (get new.shares epoch)
        (ap (λ (m : FinMap nat_cmp ℕ). get m epoch) is ∙ get_other nat_cmp_total nat_cmp-IsAntisymmetric old.shares at epoch share apart) (was epoch above)
  ]

-- What is had of the secrets stays as long as their shares do, where what is pruned lies below, and where such a share is put.
record Keeps (Such : ℕ → ℕ → Type 0) (most : ℕ) (R : Secrets → Type 0) : Type 0 where
  same : (old new : Secrets) → new.shares ≡ old.shares → R old → R new
  pruned : (min : ℕ) (old new : Secrets) → min ≤ most → Tries (Prune min) old new → R old → R new
  put : (at share : ℕ) (old new : Secrets) → Such at share → new.shares ≡ maps.insert old.shares at share → R old → R new

moved_keeps : (Such : ℕ → ℕ → Type 0) (most : ℕ) (held : Held) → Keeps Such most (Moved Such most held)
moved_keeps Such most held = record { same = moved_same Such most held; pruned = moved_pruned Such most held; put = moved_put Such most held }

-- .. as: each share that is held was held, or is such a one
module _ (Such : ℕ → ℕ → Type 0) (held : Held) where
  abbrev Put : Secrets → Type 0
  Put now = (epoch share : ℕ) → get now.shares epoch ≡ Some share → (get held.secrets.shares epoch ≡ Some share) ⊎ Such epoch share

  put_same : (old new : Secrets) → new.shares ≡ old.shares → Put old → Put new
  put_same old new same was epoch share got = was epoch share (sym (ap (λ (m : FinMap nat_cmp ℕ). get m epoch) same) ∙ got)

  put_pruned : (min : ℕ) (old new : Secrets) → Tries (Prune min) old new → Put old → Put new
  put_pruned min old new tries was epoch share got = either (tries.so.shares epoch)
    where
      either : (get new.shares epoch ≡ get old.shares epoch) ⊎ ((epoch < min) × (get new.shares epoch ≡ None)) → (get held.secrets.shares epoch ≡ Some share) ⊎ Such epoch share
      either (inl stays) = was epoch share (sym stays ∙ got)
      either (inr goes) = absurd (none_apart share (sym goes.1 ∙ got))

  put_put : (at share : ℕ) (old new : Secrets) → Such at share → new.shares ≡ maps.insert old.shares at share → Put old → Put new
  put_put at share old new such is was epoch its got = elim (same_key nat_cmp_total nat_cmp-IsAntisymmetric epoch at) [
    | inl here ↦ inr (subst (λ (n : ℕ). Such n its) (sym here) (subst (Such at) (sym (some_is its share (sym got ∙ ap (λ (m : FinMap nat_cmp ℕ). get m epoch) is ∙ ap (get (maps.insert old.shares at share)) here
        ∙ get_here nat_cmp_total nat_cmp-IsAntisymmetric old.shares at share))) such))
    | inr apart ↦ was epoch its (sym (get_other nat_cmp_total nat_cmp-IsAntisymmetric old.shares at epoch share apart) ∙ sym (ap (λ (m : FinMap nat_cmp ℕ). get m epoch) is) ∙ got)
  ]

put_keeps : (Such : ℕ → ℕ → Type 0) (held : Held) (most : ℕ) → Keeps Such most (Put Such held)
put_keeps Such held most = record { same = put_same Such held; pruned = λ min old new low tries was. put_pruned Such held min old new tries was; put = put_put Such held }

-- A COURSE THAT ONLY SAYS, and what comes behind it over the same devices

idle_behind : {Dir : Type 0} (P : World → Type 0) (quiet : (w : World) (line : Entry) → P w → P (says w line)) (L : Entry → Type 0) (Q : Live Dir → Type 0) (stops : Fault → Type 0) (first : Live Dir → Option Held → Type 0)
    (course : Course Dir Fault (Live Dir)) (next : Live Dir → Course Dir Fault (Live Dir)) (w : World) → OnlySays L Q course → ComesOver stops first course (Some w.held) → P w
    → ((end : Live Dir) (at : World) → at.held ≡ w.held → P at → first end (Some at.held) → Throughout P (next end) at) → Throughout P (bind course next) w
idle_behind P quiet L Q stops first (Say line course) next w only comes q so =
    (q, idle_behind P quiet L Q stops first course next (says w line) only.1 comes (quiet w line q) so)
idle_behind P quiet L Q stops first (Do op course) next w only comes q so = absurd only
idle_behind P quiet L Q stops first (CallOutside outer course) next w only comes q so = idle_behind P quiet L Q stops first course next w only comes q so
idle_behind P quiet L Q stops first (Ask f) next w only comes q so = idle_behind P quiet L Q stops first (f w.held) next w (only w.held) comes q so
idle_behind P quiet L Q stops first (Goes end) next w only comes q so = so end w refl q comes
idle_behind P quiet L Q stops first (Stops fault) next w only comes q so = q

-- WHAT A BLOCK CHANGES while including: it prunes what lies below, commits such a share with the seed that is read there, and records a log.
pub record Walks {Dir : Type 0} (c : Fixed Dir) (Such : ℕ → ℕ → Type 0) (most : ℕ) (P : Held → Type 0) : Type 0 where
  pub prunes : (min : ℕ) → min ≤ most → (now : Live Dir) (w : World) → P w.held → Throughout {Dir = Dir} (λ (x : World). P x.held) (s.prunes min now) w
  pub commits : (info : EpochInfo Dir) (share : Option ℕ) → IfSome share (Such info.epoch) → (now : Live Dir) (w : World) → P w.held
      → Throughout {Dir = Dir} (λ (x : World). P x.held) (s.commits info (seed_read c info w.held) share now) w
  pub records : (epoch height : ℕ) (log : SignedDealerLog) (now : Live Dir) (w : World) → P w.held → Throughout {Dir = Dir} (λ (x : World). P x.held) (d.appends epoch (carried_log_event log.dealer height log.log) (Goes now)) w

-- .. so is what is had of the secrets kept
module _ {Dir : Type 0} (c : Fixed Dir) (Such : ℕ → ℕ → Type 0) (most : ℕ) (R : Secrets → Type 0) (keeps : Keeps Such most R) where
  abbrev S : World → Type 0
  S w = R w.held.secrets

  -- a seed leaves the shares
  seeded : (at : ℕ) (seed : List ℕ) (old new : Secrets) → Tries (PutSeed at seed) old new → R old → R new
  seeded at seed old new tries was = elim tries.so [
    | inl same ↦ keeps.same old new (ap (λ (x : Secrets). x.shares) same) was
    | inr done ↦ keeps.same old new (ap (λ (x : Secrets). x.shares) done) was
  ]

  given : (at share : ℕ) (old new : Secrets) → Such at share → Tries (PutShare at share) old new → R old → R new
  given at share old new such tries was = elim tries.so [
    | inl same ↦ keeps.same old new (ap (λ (x : Secrets). x.shares) same) was
    | inr done ↦ keeps.put at share old new such (ap (λ (x : Secrets). x.shares) done) was
  ]

  pruned : (min : ℕ) → min ≤ most → (now : Live Dir) (w : World) → S w → Throughout S (s.prunes min now) w
  pruned min under now w q = (
    λ cause new tears. subst R (sym tears.torn.0) q,
    (
      λ cause new tears. keeps.pruned min w.held.secrets new.held.secrets under tears.torn.1 q,
      keeps.pruned min w.held.secrets (after (Prune min) w.held.secrets) under (all_done (Prune min) w.held.secrets (after (Prune min) w.held.secrets) refl) q,
    ),
  )

  committed : (info : EpochInfo Dir) (share : Option ℕ) → IfSome share (Such info.epoch) → (seed : List ℕ) (now : Live Dir) (w : World) → S w → Throughout S (s.commits info seed share now) w
  committed info None none seed now w q =
      let new = after (PutSeed info.epoch seed) w.held.secrets in
      let done = seeded info.epoch seed w.held.secrets new (all_done (PutSeed info.epoch seed) w.held.secrets new refl) q in
      (λ cause new tears. seeded info.epoch seed w.held.secrets new.held.secrets tears.torn.1 q, (done, done))
  committed info (Some value) such seed now w q =
      let shared = after (PutShare info.epoch value) w.held.secrets in
      let new = after (PutSeed info.epoch seed) shared in
      let first = given info.epoch value w.held.secrets shared such (all_done (PutShare info.epoch value) w.held.secrets shared refl) q in
      let done = seeded info.epoch seed shared new (all_done (PutSeed info.epoch seed) shared new refl) first in (
        λ cause new tears. given info.epoch value w.held.secrets new.held.secrets such tears.torn.1 q,
        (λ cause new tears. seeded info.epoch seed shared new.held.secrets tears.torn.1 first, (done, done)),
      )

  walks : Walks c Such most (λ h. R h.secrets)
  walks = record {
    prunes = pruned;
    commits = λ info share such now w q. committed info share such (seed_read c info w.held) now w q;
    records = λ epoch height log now w q. (λ cause new tears. subst R (sym tears.torn.0) q, q);
  }

-- A BLOCK

module _ {Dir : Type 0} (c : Fixed Dir) (form : IsFormThrough c) (stored : OfShares) (block : Block Dir) (st : Live Dir) (live : IsLiveThrough c stored st)
    (includes : st.participation.stage ≡ Includes) (most : ℕ) (low : (epoch_of c.blocks_per_epoch (block.height + 1) - 1) ≤ most) (held : Held) (reads : ReadsShare c stored (Some held))
    (Q : Held → Type 0) (walks : Walks c (IsSuchShare c stored block st) most Q) (base : Q held) where
  abbrev Such : ℕ → ℕ → Type 0
  Such = IsSuchShare c stored block st

  abbrev P : World → Type 0
  P w = Q w.held

  abbrev quiet : (w : World) (line : Entry) → P w → P (says w line)
  quiet w line q = q

  begun : (w : World) → w.held ≡ held → P w
  begun w same = subst Q (sym same) base

  -- A SETUP BY THE COMMITTED INFO commits nothing

  with_parts : (info : EpochInfo Dir) (share : Option ℕ) (seed : List ℕ) (now : Live Dir) (w : World) → (now.participation.epoch - 1) ≤ most → P w
      → Throughout P (s.with_share_and_seed c None s.WasCommitted info share seed now) w
  with_parts info share seed now w under q =
      walk.then_next c P (λ w line aside q. q) (s.prunes (now.participation.epoch - 1) now)
      (λ st. if s.is_late_floor c None then s.follows c st else s.draws_up c (s.participants_of info) (Some info.output) share seed st) w (walks.prunes (now.participation.epoch - 1) under now w q)
      (λ end mid q. walk.behind_prune c P (λ w line aside q. q) None info share seed end mid q)

  judged : (info : EpochInfo Dir) (now : Live Dir) (valid : Result (Unit {0}) ParticipantsError) (w : World) → (now.participation.epoch - 1) ≤ most → P w → Throughout P (s.info_judged c None s.WasCommitted info now valid) w
  judged info now (Err e) w under q = q
  judged info now (Ok passed) w under q = with_parts info (share_read c info w.held) (seed_read c info w.held) now w under q

  sets_up : (info : EpochInfo Dir) (now : Live Dir) (w : World) → (now.participation.epoch - 1) ≤ most → P w → Throughout P (s.with_info c None s.WasCommitted info now) w
  sets_up info now w under q =
      along_if P w (info.epoch == now.participation.epoch) (s.info_judged c None s.WasCommitted info now (validity c info)) (Stops (WrongEpoch now.participation.epoch info.epoch))
      (λ e. judged info now (validity c info) w under q) (λ e. q)

  module _ (last : is_last_height c block.height ≡ true) (info : EpochInfo Dir) (of_next : info.epoch ≡ next_epoch c block) where
    -- the life whose tip is the block and whose current info is the carried one
    setup : (now : Live Dir) → now.tip ≡ (with_tip block now).tip → now.participation.current ≡ Some info → (w : World) → P w → Throughout P (s.setup c None now) w
    setup now tip current w q =
        let before : Live Dir = s.anew c now in
        let awaited : epoch_of c.blocks_per_epoch (awaited_height now) ≡ epoch_of c.blocks_per_epoch (block.height + 1) = ap (λ (o : Option Tip). epoch_of c.blocks_per_epoch (option_map_or (λ t. t.height + 1) o 0)) tip in
        along_if P w (s.is_past_range c (awaited_height now)) (Stops HeightRange) (s.sets_up c None now) (λ e. q)
        (λ e. subst (λ (o : Option (EpochInfo Dir)). Throughout P (s.sets_up_by c None o before) w) (sym (committed now awaited current))
        (sets_up info before w (subst (λ (n : ℕ). (n - 1) ≤ most) (sym awaited) low) q))
      where
        committed : (now : Live Dir) → epoch_of c.blocks_per_epoch (awaited_height now) ≡ epoch_of c.blocks_per_epoch (block.height + 1) → now.participation.current ≡ Some info → s.committed_info (s.anew c now) ≡ Some info
        committed now awaited current =
            ap (λ (o : Option (EpochInfo Dir)). option_and_then (λ its. if its.epoch == epoch_of c.blocks_per_epoch (awaited_height now) then Some its else None) o) current
            ∙ ap (λ (t : Bool). if t then Some info else None)
            (equal_number info.epoch (epoch_of c.blocks_per_epoch (awaited_height now)) (of_next ∙ sym (next_last c.blocks_per_epoch block.height form.form.counted last) ∙ sym awaited))

    -- requests that are left are answered
    answers_all : (queue : List (Request Dir)) (now : Live Dir) → now.tip ≡ (with_tip block now).tip → now.participation.current ≡ Some info → (w : World) → P w
        → Throughout P (bind (b.answers_all queue now) (λ st. s.setup c None st)) w
    answers_all [] now tip current w q = setup (with_inclusion (record now.inclusion { queue = [] }) now) tip current w q
    answers_all (r ∷ rs) now tip current w q = (q, answers_all rs (with_told r.number (GaveNone Finished) now) tip current (says w _) q)

    module _ (share : Option ℕ) (such : (value : ℕ) → share ≡ Some value → Such info.epoch value) (now : Live Dir) where
      abbrev committed_life : Live Dir
      committed_life = with_participation (record now.participation { current = Some info }) now

      abbrev next : Live Dir → Course Dir Fault (Live Dir)
      next its = bind (s.registers c info share its) (λ st. bind (b.answers_all st.inclusion.queue (with_tip block st)) (λ st. s.setup c None st))

      -- the registration, and what comes behind
      registered : (w : World) → P w → Throughout P (next committed_life) w
      registered w q =
          let its = s.with_registered info.epoch (s.scheme_for c info share) committed_life in
          (q, answers_all its.inclusion.queue (with_tip block its) refl refl (says w _) q)

      commits : (put : Option ℕ) → ((value : ℕ) → put ≡ Some value → Such info.epoch value) → (w : World) → P w → Throughout P (bind (s.commits info (seed_read c info w.held) put now) next) w
      commits None none w q = let its = walks.commits info None tt now w q in (its.0, (its.1.0, registered _ its.1.1))
      commits (Some value) its w q = let all = walks.commits info (Some value) (its value refl) now w q in (all.0, (all.1.0, (all.1.1.0, registered _ all.1.1.1)))

  -- BY AN ARTIFACT

  module _ (last : is_last_height c block.height ≡ true) (round : Round) (of_epoch : st.participation.round ≡ Some round) where
    abbrev logs : LogMap
    logs = canonical c st

    known : (info : EpochInfo Dir) × (st.participation.current ≡ Some info)
    known =
        let its = some_of (λ (info : EpochInfo Dir). (info.epoch ≡ st.participation.epoch) × (validity c info ≡ Ok tt) × (round_for c st.participation.epoch info ≡ Ok round))
        st.participation.current (live.informed round of_epoch) in
        (its.0, its.1)

    abbrev with : Inclusion Dir → Live Dir
    with its = with_inclusion its st

    concludes : (made : Artifact Dir) → IsArtifactIn c stored round known.0 st logs made → (its : Inclusion Dir) (w : World) → w.held ≡ held → Throughout P (b.concludes c block made (with its)) w
    concludes made is its w same =
        subst (λ (o : Option (OneShot Dir)). Throughout P
        (if is_some o && is_none block.payload then (if is_some made.info then Stops (LocalState OutcomeOmitted) else b.passes_on c block None (with its))
        else b.carried c block (λ info. b.takes_over c block info (b.share_for c info made) (with its))) w) (sym form.form.reshare)
        (along_option P w (info_of block.payload) (λ info. if info.epoch == expected then b.takes_over c block info (b.share_for c info made) (with its) else Stops (WrongEpoch expected info.epoch))
        (Stops (MissingEpochInfo block.height))
        (λ info carries. along_if P w (info.epoch == expected) (b.takes_over c block info (b.share_for c info made) (with its)) (Stops (WrongEpoch expected info.epoch))
        (λ e. over info carries (same_number info.epoch expected e ∙ expected_is)) (λ e. begun w same)) (λ none. begun w same))
      where
        expected : ℕ
        expected = b.expected_epoch c block.height

        expected_is : b.expected_epoch c block.height ≡ next_epoch c block
        expected_is = ap (λ (o : Option (OneShot Dir)). if is_some o then 0 else next_epoch c block) form.form.reshare

        over : (info : EpochInfo Dir) → info_of block.payload ≡ Some info → info.epoch ≡ next_epoch c block → Throughout P (b.takes_over c block info (b.share_for c info made) (with its)) w
        over info carries of_next =
            let share = b.share_for c info made in
            subst (λ (o : Option (OneShot Dir)). Throughout P (bind (s.commits info (seed_read c info w.held) share (with its))
            (λ st. bind (if is_some o then Goes st else s.registers c info share st)
            (λ st. bind (b.answers_all st.inclusion.queue (with_tip block st)) (λ st. if is_some o then b.ends_once c (Some info) st else s.setup c None st)))) w) (sym form.form.reshare)
            (commits last info of_next share (λ value is. such value is) (with its) share (λ value is. such value is) w (begun w same))
          where
            such : (value : ℕ) → b.share_for c info made ≡ Some value → Such info.epoch value
            such value found = (
              last,
              subst (λ (o : Option (EpochInfo Dir)). IsSomeAnd o (λ x. (x.epoch ≡ info.epoch) × (x.epoch ≡ next_epoch c block) × ((r : Round) × (current : EpochInfo Dir) × (st.participation.round ≡ Some r) × (st.participation.current ≡ Some current)
                  × ((a : Artifact Dir) × IsArtifactIn c stored r current st (canonical c st) a × (b.share_for c x a ≡ Some value))))) (sym carries)
                  (refl, of_next, (round, known.0, of_epoch, known.1, (made, is, found))),
            )

    by_result : (r : VerifiedLogs) (its : Inclusion Dir) → HasAsked c stored (with its) → r.logs ≡ logs → IsResultIn c round st r → (w : World) → w.held ≡ held
        → Throughout P (i.artifact c r (with its) (b.concludes c block)) w
    by_result r its has are result w same =
        artifact_is c stored round known.0 r (with its) (b.concludes c block) (λ course. Throughout P course w) (record {
          if_so = λ t x y one other. along_if P w t x y one other;
          reads = λ f each. each w.held (λ epoch. reads w.held epoch same);
          stopped = λ fault stop. begun w same;
        }) form.form has of_epoch known.1 result (λ made at m. by_made made at m)
      where
        by_made : (made : Artifact Dir) (at : Live Dir) → IsMadeIn c stored round known.0 (with its) r.logs made at → Throughout P (b.concludes c block made at) w
        by_made made at m =
            subst (λ (x : Live Dir). Throughout P (b.concludes c block made x) w) (sym m.same)
            (concludes made (subst (λ (l : LogMap). IsArtifactIn c stored round known.0 st l made) are m.artifact) (record its { cached = at.inclusion.cached }) w same)

    verifies : (its : Inclusion Dir) → HasAsked c stored (with its) → (refused : Option ℕ) → (if can_finish c round logs (with its) then s.refused_in c round (with its) else None) ≡ refused
        → (w : World) → w.held ≡ held
        → Throughout P (bind (i.starts_unless (job_for c round logs (with its)) None refused (with its))
        (λ now. i.artifact c (verified c (job_for c round logs (with its))) (retains c (verified c (job_for c round logs (with its))) now) (b.concludes c block))) w
    verifies its has (Some who) is w same = begun w same
    verifies its has None is w same =
        let job : Job = job_for c round logs (with its) in
        let of_job : IsJobIn c round st job = (refl, none_found (can_finish c round logs (with its)) (s.refused_in c round (with its)) is) in
        let found = verified c job in
        let result = verified_is c form.finishing round st job of_job in
        let starts : Inclusion Dir = record its { running = Some job; waiter = None } in
        let started = included c stored st starts includes (λ none. refl) (λ other e. (round, of_epoch, subst (λ (x : Job). IsJobIn c round st x) (some_is job other e) of_job)) has.kept has.made in
        let ended = verifying.retained c stored (with starts) (Some held) form.form form.finishing reads live.informed started round of_epoch includes found result starts started refl refl refl in
        by_result found (retains c found (with starts)).inclusion ended.has refl result w same

    derived : (its : Inclusion Dir) → HasAsked c stored (with its) → (retained : Option VerifiedLogs) → retained_for its.retained logs ≡ retained → (w : World) → w.held ≡ held
        → Throughout P (b.derives_at_block c round block logs retained (with its)) w
    derived its has (Some r) is w same =
        by_result r its has (retained_logs its.retained logs r is) (of_round st (λ x. IsResultIn c x st r) round of_epoch (has.kept r (retained_is its.retained logs r is))) w same
    derived its has None is w same = verifies its has (if can_finish c round logs (with its) then s.refused_in c round (with its) else None) refl w same

    concludes_by : (its : Inclusion Dir) → HasAsked c stored (with its) → (before now : Option (Artifact Dir)) → cached_for st.inclusion.cached logs ≡ before → cached_for its.cached logs ≡ now
        → (w : World) → w.held ≡ held → Throughout P (b.concludes_by c round block logs before now (with its)) w
    concludes_by its has (Some made) now is at w same = concludes made (cached_is c stored round known.0 st live.asked.has of_epoch known.1 logs made is) its w same
    concludes_by its has None (Some made) is at w same = concludes made (cached_is c stored round known.0 (with its) has of_epoch known.1 logs made at) its w same
    concludes_by its has None None is at w same = derived its has (retained_for its.retained logs) refl w same

    final_moves : (w : World) → w.held ≡ held → Throughout P (b.final_block c round block st) w
    final_moves w same =
        idle_behind P quiet IsAskedEntry (idle.Beside c st) (IsAskStop c st) (λ end left. (left ≡ Some held) × IsEndedIn c stored st end) (i.ends_verifying c None st)
        (λ now. b.concludes_by c round block logs (cached_for st.inclusion.cached logs) (cached_for now.inclusion.cached logs) now) w (idle.ends c st None st.inclusion.running)
        (subst (λ (h : Held). ComesOver (IsAskStop c st) (λ end left. (left ≡ Some held) × IsEndedIn c stored st end) (i.ends_verifying c None st) (Some h)) (sym same)
        (verifying_ends c stored st (Some held) form.form form.finishing reads live.informed live.asked.has None (λ r e. absurd (none_apart r e)))) (begun w same)
        (λ end at still q its. behind end at (still ∙ same) its.1)
      where
        behind : (end : Live Dir) (at : World) → at.held ≡ held → IsEndedIn c stored st end
            → Throughout P (b.concludes_by c round block logs (cached_for st.inclusion.cached logs) (cached_for end.inclusion.cached logs) end) at
        behind end at here its =
            subst (λ (x : Live Dir). Throughout P (b.concludes_by c round block logs (cached_for st.inclusion.cached logs) (cached_for x.inclusion.cached logs) x) at) (sym its.same)
            (concludes_by end.inclusion (subst (HasAsked c stored) its.same its.has) (cached_for st.inclusion.cached logs) (cached_for end.inclusion.cached logs) refl refl at here)

  -- A BLOCK BELOW THE LAST puts no share

  records_log : (epoch : ℕ) (log : SignedDealerLog) (w : World) → P w → Throughout {Dir = Dir} P (b.records_log epoch block.height log st) w
  records_log epoch log w q =
      along_if P w (is_some (recorded_at st.records.logs epoch log.dealer)) (Goes st)
      (d.appends epoch (carried_log_event log.dealer block.height log.log) (Goes (b.with_log_at epoch log.dealer block.height log.log st))) (λ e. q) (λ e. walks.records epoch block.height log (b.with_log_at epoch log.dealer block.height log.log st) w q)

  observes : (round : Round) (log : Option SignedDealerLog) (w : World) → P w → Throughout P (b.observes c round block st log) w
  observes round None w q = q
  observes round (Some log) w q =
      along_if P w (is_accepted c round log) (bind (b.records_log round.number block.height log st) (λ st. Goes (b.without_own_log c log.dealer st))) (Goes st)
      (λ e. walk.then_next c P (λ w line aside q. q) (b.records_log round.number block.height log st) (λ st. Goes (b.without_own_log c log.dealer st)) w (records_log round.number log w q) (λ end mid q. q)) (λ e. q)

  below_moves : (round : Round) (w : World) → P w → Throughout P (b.includes c round block st) w
  below_moves round w q =
      walk.then_next c P (λ w line aside q. q) (b.observes c round block st (option_and_then its_log block.payload)) (λ st. i.advanced c (with_tip block (b.unserved block.height st))) w
      (observes round (option_and_then its_log block.payload) w q) (λ end mid q. walk.advanced c P (λ w line aside q. q) (with_tip block (b.unserved block.height end)) mid q)

  -- ANY

  applies : (w : World) → w.held ≡ held → Throughout P (b.applies c block st) w
  applies w same =
      subst (λ (stage : Stage). Throughout P (b.applies_in c block st stage) w) (sym includes)
      (along_option P w st.participation.round (λ round. if is_last_height c block.height then b.final_block c round block st else b.includes c round block st) (Goes st)
      (λ round of_epoch. along_if P w (is_last_height c block.height) (b.final_block c round block st) (b.includes c round block st)
      (λ last. final_moves last round of_epoch w same) (λ below. below_moves round w (begun w same))) (λ none. begun w same))

  block_moves : (w : World) → w.held ≡ held → Throughout P (step c (Finalized block) st) w
  block_moves w same =
      judged_is c block st (λ course. Throughout P course w) (λ t x y one other. along_if P w t x y one other) (λ fault is. begun w same) (λ is. begun w same) (λ is. applies w same) (λ is. begun w same)

-- .. so what each change keeps is had wherever the node's step ends
pub ends_kept : {Dir : Type 0} (c : Fixed Dir) (stored : OfShares) (block : Block Dir) (st : Live Dir) (ended : Ended NodeStop (Live Dir)) (most : ℕ) (w new : World) → IsFormThrough c → ReadsShare c stored (Some w.held)
    → IsLiveThrough c stored st → st.participation.stage ≡ Includes → reach_of c (Finalized block) ≤ most → EndsSo (node_step c (Delivers block) st) ended w new
    → (P : Held → Type 0) → Walks c (IsSuchShare c stored block st) most P → P w.held → P new.held
ends_kept c stored block st ended most w new form reads live includes low run P walks base =
    let behind = steps_run_behind c st (Finalized block) ended w new run in
    subst P (sym behind.held)
    (along_runs (λ (x : World). P x.held) (on_devices (step c (Finalized block) st)) behind.half w behind.mid
    (block_moves c form stored block st live includes most low w.held reads P walks base w refl) behind.run)

pub blocks_move_shares : {Dir : Type 0} → BlocksMoveShares Dir
blocks_move_shares c stored block st ended most w new form secrets reads live includes low run =
    let Such : ℕ → ℕ → Type 0 = IsSuchShare c stored block st in
    ends_kept c stored block st ended most w new form reads live includes low run (λ h. Moved Such most w.held h.secrets)
    (walks c Such most (Moved Such most w.held) (moved_keeps Such most w.held)) (λ epoch above. inl refl)

pub blocks_put_shares : {Dir : Type 0} → BlocksPutShares Dir
blocks_put_shares c stored block st ended w new form reads live includes run =
    let Such : ℕ → ℕ → Type 0 = IsSuchShare c stored block st in
    let most : ℕ = reach_of c (Finalized block) in
    ends_kept c stored block st ended most w new form reads live includes (omega arith) run (λ h. Put Such w.held h.secrets)
    (walks c Such most (Put Such w.held) (put_keeps Such w.held most)) (λ epoch share got. inl got)
