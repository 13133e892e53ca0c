-- A setup at a life's position: the epoch that is awaited there, and the info that it is set up by.
use Rattle.std.proofs.Common.{◌≡◌, ℕ, ◌+◌, ◌^◌, ◌<◌, ◌≤◌, nat_le, nat_lt, Bool, true, false, [], Option, Some, None, Result, Ok, Err, refl, sym, ◌∙◌, ap, subst, arith}
use Rattle.std.specs.Prelude.{IsSome, IsSomeAnd, IsTrue, OnOk, nat_eq, option_and_then, if◌then◌else◌, ◌==◌}
use Rattle.std.specs.Option.{option_map_or}
use Rattle.std.specs.Int.NonZero.{non_zero_u32_get, non_zero_u64_get}
use Rattle.std.proofs.lemmas.Bool.Decides.{nat_tests}
use Rattle.dkg_ceremony.specs.Schedule.{boundary, epoch_of, first, last, midpoint, phase_at}
use Rattle.dkg_ceremony.specs.declared.epocher.Bounds.{Bounds}
use Rattle.dkg_ceremony.specs.declared.phase.Phase.{Phase}
use Rattle.dkg_ceremony.specs.declared.phase.Phase.TheVariants.{Early, Midpoint, Late}
use Rattle.dkg_fence.specs.Readiness.{Readiness}
use Rattle.dkg_types.specs.BlockCodes.{info_of}
use Rattle.dkg_types.specs.Blocks.{Block}
use Rattle.dkg_infos.specs.declared.fault.Fault.TheVariants.{HeightRange, MissingEpochInfo}
use Rattle.dkg_infos.specs.declared.info.EpochInfo.{EpochInfo}
use Rattle.dkg_journal.specs.Names.{Files}
use Rattle.dkg_journal.specs.declared.journal.Journal.{Journal}
use Rattle.dkg_store.specs.declared.devices.Devices.{Devices}
use Rattle.dkg_store.specs.declared.store.Store.{Store}
use Rattle.dkg_core.specs.Asked.{IsEmptied}
use Rattle.dkg_core.specs.Courses.{Stops}
use Rattle.dkg_core.specs.Fixed.{Fixed, Rules, stand_in}
use Rattle.dkg_core.specs.Live.{Live, awaited_height}
use Rattle.dkg_core.specs.Setup as setup
use Rattle.dkg_core.specs.Setup.{Uncommitted, WasCommitted}
use Rattle.dkg_core.specs.Sources.{SourceAnswers, Tip}
use Rattle.dkg_life.specs.declared.life.Life.{Life}
use Rattle.dkg_life.specs.declared.life.Stage.{Stage}
use Rattle.dkg_life.specs.declared.life.Stage.TheVariants.{Dealing, Including, Following}
use Rattle.dkg_life.specs.declared.config.Terms.{Terms}
use Rattle.dkg_life.specs.Ready.{IsReadyLife, IsSetUp}
use Rattle.dkg_life.specs.LiveOf.{Beside, IsDealing, IsPlaced, PlayerSits, IsRoundWithin, awaited_of, live_of}
use Rattle.dkg_life.specs.Moved.{IsFirm}
use Rattle.dkg_life.specs.Given.{IsLent, IsOf, ReadsPlanless}
use Rattle.dkg_life.specs.Rules.{AckOf, BearsAckOf, CheckAckOf, DealOf, DealingOf, IsRuledBy, PartialPublicOf, RoundOf, SharePublicOf, SignLogOf}
use Rattle.dkg_life.specs.Planless.{seen_planless}
use Rattle.dkg_values.specs.declared.codec.CodecError.TheVariants.{EndOfBuffer}
use Rattle.dkg_life.specs.Steps.{AreBoundsAt, StandsIn, stage_begun_in}
use Rattle.dkg_setup.proofs.OpeningCourses.{out_of_range, sets_up_as}
use Rattle.dkg_life.proofs.Beside.{fresh_stays}
use Rattle.dkg_setup.proofs.Ranges.{is_past, not_past}

pub first_is : (n height : ℕ) (bounds : Bounds) → AreBoundsAt n bounds height → bounds.first ≡ first n bounds.epoch
first_is n height bounds at = ap (λ (b : Bounds). b.first) at.are ∙ ap (λ (b : Bounds). first n b.epoch) (sym at.are)

equal : (a b : ℕ) → a ≡ b → (a == b) ≡ true
equal a b same = grind (arith, nat_tests, same)

-- NO EPOCH IN RANGE

module _ {Dir : Type 0} (c : Fixed Dir) (n : ℕ) (same : c.blocks_per_epoch ≡ n) (beside : Beside Dir) (fresh : IsEmptied beside.inclusion) (fence : Readiness) (old : Life Dir) where
  abbrev st : Live Dir
  st = live_of beside fence old

  range_is : (b : Bool) → nat_le (2 ^ 64) (last n (epoch_of n (awaited_of old))) ≡ b → setup.is_past_range c (awaited_height st) ≡ b
  range_is b is = ap (λ (m : ℕ). nat_le (2 ^ 64) (last m (epoch_of m (awaited_of old)))) same ∙ is

  pub past_range : 2 ^ 64 ≤ last n (epoch_of n (awaited_of old)) → setup.setup c None st ≡ Stops HeightRange
  past_range past = out_of_range c st (range_is true (is_past n (awaited_of old) past))

  -- IN AN EPOCH OF THESE BOUNDS

  module _ (bounds : Bounds) (at : AreBoundsAt n bounds (awaited_of old)) (life : Life Dir)
      (now : life ≡ record old { epoch = bounds.epoch; midpoint = bounds.midpoint; stage = Following; round = None; dealer = None; player = None })
    where
      within : setup.is_past_range c (awaited_height st) ≡ false
      within = range_is false (not_past n (awaited_of old) at.in_range)

      epoch_as : setup.anew c st ≡ live_of beside fence life
      epoch_as =
          (λ i. record (setup.anew c st) { participation = record (setup.anew c st).participation { epoch = epoch_of (same i) (awaited_of old) }; inclusion = fresh_stays beside.inclusion fresh i })
          ∙ (λ i. record (setup.anew c st) { participation = record (setup.anew c st).participation { epoch = (sym at.are i).epoch }; inclusion = beside.inclusion })
          ∙ sym (ap (live_of beside fence) now)

      its_epoch : life.epoch ≡ bounds.epoch
      its_epoch = ap (λ (l : Life Dir). l.epoch) now

      pub stands_there : StandsIn c (live_of beside fence life) bounds.phase
      stands_there =
          ap (λ (b : Bounds). b.phase) at.are
          ∙ (λ i. phase_at (midpoint (sym same i) (epoch_of (sym same i) (awaited_of old))) (awaited_of old))
          ∙ ap (λ (l : Life Dir). phase_at (midpoint c.blocks_per_epoch (epoch_of c.blocks_per_epoch (awaited_of l))) (awaited_of l)) (sym now)

      -- Its info was committed.
      pub by_committed : (info : EpochInfo Dir) → old.store.current ≡ Some info → info.epoch ≡ epoch_of n (awaited_of old)
          → setup.setup c None st ≡ setup.with_info c None WasCommitted info (live_of beside fence life)
      by_committed info current awaited =
          ap (λ (p : Bool). if p then Stops HeightRange else setup.sets_up c None st) within
          ∙ ap (λ (o : Option (EpochInfo Dir)). setup.sets_up_by c None (option_and_then (λ i. if i.epoch == (setup.anew c st).participation.epoch then Some i else None) o) (setup.anew c st)) current
          ∙ ap (λ (b : Bool). setup.sets_up_by c None (if b then Some info else None) (setup.anew c st))
          (equal info.epoch (epoch_of c.blocks_per_epoch (awaited_of old)) (awaited ∙ ap (λ (m : ℕ). epoch_of m (awaited_of old)) (sym same)))
          ∙ ap (λ (s : Live Dir). setup.with_info c None WasCommitted info s) epoch_as

      -- none was: what the boundary block says
      module _ (uncommitted : old.store.current ≡ None) where
        from_its_boundary : setup.setup c None st ≡ setup.from_boundary c (c.source.block (boundary n bounds.epoch)) (live_of beside fence life)
        from_its_boundary =
            sets_up_as c st within uncommitted
            ∙ (λ i. setup.from_boundary c (c.source.block (boundary (same i) (epoch_as i).participation.epoch)) (epoch_as i))
            ∙ ap (λ (e : ℕ). setup.from_boundary c (c.source.block (boundary n e)) (live_of beside fence life)) its_epoch

        module _ (source : SourceAnswers Dir) (lent : c.source ≡ source) (asked : ℕ) (there : asked ≡ boundary n bounds.epoch) (block : Option (Block Dir)) (answered : block ≡ source.block asked) where
          its_block : c.source.block (boundary n bounds.epoch) ≡ block
          its_block = (λ i. (lent i).block (sym there i)) ∙ sym answered

          pub followed : block ≡ None → setup.setup c None st ≡ setup.follows c (live_of beside fence life)
          followed none = from_its_boundary ∙ ap (λ (b : Option (Block Dir)). setup.from_boundary c b (live_of beside fence life)) (its_block ∙ none)

          module _ (b : Block Dir) (held : block ≡ Some b) where
            carried : setup.setup c None st ≡ option_map_or (λ info. setup.with_info c None Uncommitted info (live_of beside fence life)) (info_of b.payload) (Stops (MissingEpochInfo b.height))
            carried = from_its_boundary ∙ ap (λ (o : Option (Block Dir)). setup.from_boundary c o (live_of beside fence life)) (its_block ∙ held)

            pub bare_block : info_of b.payload ≡ None → setup.setup c None st ≡ Stops (MissingEpochInfo b.height)
            bare_block none = carried ∙ ap (λ (o : Option (EpochInfo Dir)). option_map_or (λ info. setup.with_info c None Uncommitted info (live_of beside fence life)) o (Stops (MissingEpochInfo b.height))) none

            pub by_block : (info : EpochInfo Dir) → info_of b.payload ≡ Some info → setup.setup c None st ≡ setup.with_info c None Uncommitted info (live_of beside fence life)
            by_block info is = carried ∙ ap (λ (o : Option (EpochInfo Dir)). option_map_or (λ info. setup.with_info c None Uncommitted info (live_of beside fence life)) o (Stops (MissingEpochInfo b.height))) is

-- WHERE THE LIFE STANDS THEN

pub epoch_there : {Dir : Type 0} (n : ℕ) (old life : Life Dir) (bounds : Bounds) → AreBoundsAt n bounds (awaited_of old)
    → life ≡ record old { epoch = bounds.epoch; midpoint = bounds.midpoint; stage = Following; round = None; dealer = None; player = None } → life.epoch ≡ epoch_of n (awaited_of old)
epoch_there {Dir} n old life bounds at now = ap (λ (l : Life Dir). l.epoch) now ∙ ap (λ (b : Bounds). b.epoch) at.are

-- an epoch that begins with dealing is below its midpoint
below_middle : (middle height : ℕ) → stage_begun_in (phase_at middle height) ≡ Dealing → height < middle
below_middle middle height dealing = by_test (nat_lt height middle) refl dealing
  where
    by_late : (q : Bool) → stage_begun_in (if q then Midpoint else Late) ≡ Dealing → ⊥
    by_late true e = let h : ◌≡◌ {A = Stage} Including Dealing = e in cc
    by_late false e = let h : ◌≡◌ {A = Stage} Including Dealing = e in cc

    by_test : (b : Bool) → nat_lt height middle ≡ b → stage_begun_in (if b then Early else (if nat_eq height middle then Midpoint else Late)) ≡ Dealing → height < middle
    by_test true is e = grind (arith, nat_tests, is)
    by_test false is e = absurd (by_late (nat_eq height middle) e)

-- .. and one that begins with inclusion is past it
past_middle : (middle height : ℕ) → stage_begun_in (phase_at middle height) ≡ Including → middle ≤ height
past_middle middle height including = by_test (nat_lt height middle) refl including
  where
    by_test : (b : Bool) → nat_lt height middle ≡ b → stage_begun_in (if b then Early else (if nat_eq height middle then Midpoint else Late)) ≡ Including → middle ≤ height
    by_test true is e = absurd cc
    by_test false is e = grind (arith, nat_tests, is)

middle_above : (n : ℕ) → 2 ≤ n → midpoint n (epoch_of n 0) ≤ 0 → ⊥
middle_above n long low = absurd (omega (arith, long, low))

ended_at : (n : ℕ) → 2 ≤ n → (tip : Option Tip) (height middle : ℕ) → height ≡ option_map_or (λ t. t.height + 1) tip 0 → middle ≡ midpoint n (epoch_of n height) → middle ≤ height
    → IsSomeAnd tip (λ t. middle ≤ t.height + 1)
ended_at n long None height middle at is past = absurd (middle_above n long (subst (λ (h : ℕ). midpoint n (epoch_of n h) ≤ h) at (subst (λ (m : ℕ). m ≤ height) is past)))
ended_at n long (Some t) height middle at is past = subst (λ (h : ℕ). middle ≤ h) at past

set_placed : {Dir : Type 0} (n : ℕ) → 2 ≤ n → (life : Life Dir) (height : ℕ) → height ≡ awaited_of life → (bounds : Bounds) → AreBoundsAt n bounds height
    → life.epoch ≡ bounds.epoch → life.midpoint ≡ bounds.midpoint → ((life.stage ≡ Following → ⊥) → IsSome life.round) → (life.stage ≡ Dealing → stage_begun_in bounds.phase ≡ Dealing) → (life.stage ≡ Including → stage_begun_in bounds.phase ≡ Including) → IsPlaced n life
set_placed n long life height at bounds lies epoch middle joins deals stage =
    let epoch_is : life.epoch ≡ epoch_of n height = epoch ∙ ap (λ (b : Bounds). b.epoch) lies.are in
    let midpoint_is : life.midpoint ≡ midpoint n (epoch_of n height) = middle ∙ ap (λ (b : Bounds). b.midpoint) lies.are in
    record {
      epoch_is = λ apart. epoch_is ∙ ap (epoch_of n) at;
      midpoint_is = λ apart. midpoint_is ∙ sym (ap (midpoint n) epoch_is);
      in_range = λ apart. subst (λ (e : ℕ). last n e < 2 ^ 64) (sym epoch_is) lies.in_range;
      joins = joins;
      early = λ dealing. subst (λ (h : ℕ). h < life.midpoint) at
          (subst (λ (m : ℕ). height < m) (sym midpoint_is) (below_middle (midpoint n (epoch_of n height)) height (sym (ap (λ (b : Bounds). stage_begun_in b.phase) lies.are) ∙ deals dealing)));
      ended = λ including. ended_at n long life.tip height life.midpoint at midpoint_is
          (subst (λ (m : ℕ). m ≤ height) (sym midpoint_is) (past_middle (midpoint n (epoch_of n height)) height (sym (ap (λ (b : Bounds). stage_begun_in b.phase) lies.are) ∙ stage including)));
    }

module _ {Dir D X : Type 0} (tells : Bool) (files : D → Files) (image : D → Files → Type 0) (ack_of : AckOf) (deal_of : DealOf) (check_ack_of : CheckAckOf) (terms : Terms) (old life : Life Dir)
    (bounds : Bounds) (at : AreBoundsAt (non_zero_u64_get terms.blocks_per_epoch) bounds (awaited_of old))
    (now : life ≡ record old { epoch = bounds.epoch; midpoint = bounds.midpoint; stage = Following; round = None; dealer = None; player = None })
  where
    -- a life that follows
    pub following_ready : (devices : Devices D X) → (IsTrue tells → IsFirm old.store.journal (files devices.disk.now) (image devices.disk.now))
        → IsReadyLife tells files image ack_of deal_of check_ack_of terms life devices
    following_ready devices firm = record {
      seated = subst (λ (l : Life Dir). PlayerSits ack_of terms.me l) (sym now) tt;
      dealing = subst (λ (l : Life Dir). IsDealing deal_of check_ack_of terms.me l) (sym now) tt;
      placed = set_placed (non_zero_u64_get terms.blocks_per_epoch) terms.long life (awaited_of old) (ap (λ (l : Life Dir). awaited_of l) (sym now)) bounds at (ap (λ (l : Life Dir). l.epoch) now) (ap (λ (l : Life Dir). l.midpoint) now)
          (λ apart. absurd (apart (ap (λ (l : Life Dir). l.stage) now))) (λ dealing. absurd (let e : ◌≡◌ {A = Stage} Following Dealing = sym (ap (λ (l : Life Dir). l.stage) now) ∙ dealing in cc))
          (λ including. absurd (let e : ◌≡◌ {A = Stage} Following Including = sym (ap (λ (l : Life Dir). l.stage) now) ∙ including in cc));
      within = subst (λ (l : Life Dir). IsRoundWithin (non_zero_u32_get terms.limit) l.round) (sym now) tt;
      firm = λ told. subst (λ (s : Store Dir). IsFirm s.journal (files devices.disk.now) (image devices.disk.now)) (sym (ap (λ (l : Life Dir). l.store) now)) (firm told);
    }

    -- .. and one that was set up by an info
    pub set_up_ready : (new : Life Dir) → new ≡ record life { store = new.store; stage = new.stage; round = new.round; dealer = new.dealer; player = new.player } → (devices : Devices D X)
        → IsSetUp tells files image ack_of deal_of check_ack_of terms.me (non_zero_u32_get terms.limit) bounds.phase new devices → IsReadyLife tells files image ack_of deal_of check_ack_of terms new devices
    set_up_ready new rest devices done = record {
      seated = done.seated;
      dealing = done.dealing;
      placed = set_placed (non_zero_u64_get terms.blocks_per_epoch) terms.long new (awaited_of old) (ap (λ (l : Life Dir). awaited_of l) (sym now) ∙ ap (λ (l : Life Dir). awaited_of l) (sym rest)) bounds at
          (ap (λ (l : Life Dir). l.epoch) rest ∙ ap (λ (l : Life Dir). l.epoch) now) (ap (λ (l : Life Dir). l.midpoint) rest ∙ ap (λ (l : Life Dir). l.midpoint) now) (λ apart. done.joins) (λ dealing. sym done.stage ∙ dealing) (λ including. sym done.stage ∙ including);
      within = done.within;
      firm = done.firm;
    }

-- as its last part leaves it
pub drawn_up : {Dir D X T E : Type 0} (tells : Bool) (files : D → Files) (image : D → Files → Type 0) (ack_of : AckOf) (deal_of : DealOf) (check_ack_of : CheckAckOf) (me limit : ℕ) (phase : Phase) (life new : Life Dir) (devices : Devices D X)
    → new ≡ record life { stage = new.stage; round = new.round; dealer = new.dealer; player = new.player } → (IsTrue tells → IsFirm life.store.journal (files devices.disk.now) (image devices.disk.now))
    → (r : Result T E) → OnOk r (PlayerSits ack_of me new × IsDealing deal_of check_ack_of me new × IsRoundWithin limit new.round × IsSome new.round × (new.stage ≡ stage_begun_in phase))
    → OnOk r (IsSetUp tells files image ack_of deal_of check_ack_of me limit phase new devices)
drawn_up {Dir} tells files image ack_of deal_of check_ack_of me limit phase life new devices rest firm (Ok x) sits = record {
  seated = sits.0;
  dealing = sits.1;
  within = sits.2;
  joins = sits.3;
  stage = sits.4;
  firm = subst (λ (j : Journal). IsTrue tells → IsFirm j (files devices.disk.now) (image devices.disk.now)) (sym (ap (λ (l : Life Dir). l.store.journal) rest)) firm;
}
drawn_up tells files image ack_of deal_of check_ack_of me limit phase life new devices rest firm (Err e) sits = tt

-- where a call went well, what follows holds
pub then_ok : {T E A B : Type 0} (r : Result T E) → (A → B) → OnOk r A → OnOk r B
then_ok (Ok x) so a = so a
then_ok (Err e) so a = tt

-- .. by what is given of both
pub ok_given : {T E A B : Type 0} (C : Type 0) (r : Result T E) → (A → B → OnOk r C) → OnOk r (A → B → C)
ok_given C (Ok x) so = so
ok_given C (Err e) so = tt

-- A life in the same epoch, at the same position.
pub record Steady {Dir : Type 0} (old new : Life Dir) : Type 0 where
  pub word : new.word ≡ old.word
  pub epoch : new.epoch ≡ old.epoch
  pub midpoint : new.midpoint ≡ old.midpoint
  pub tip : new.tip ≡ old.tip

module _ {Dir : Type 0} where
  pub steady_then : {a b c : Life Dir} → Steady a b → Steady b c → Steady a c
  steady_then first second = record { word = second.word ∙ first.word; epoch = second.epoch ∙ first.epoch; midpoint = second.midpoint ∙ first.midpoint; tip = second.tip ∙ first.tip }

  pub steady_read : (old new : Life Dir) → new ≡ old → Steady old new
  steady_read old new same = record { word = ap (λ (l : Life Dir). l.word) same; epoch = ap (λ (l : Life Dir). l.epoch) same; midpoint = ap (λ (l : Life Dir). l.midpoint) same; tip = ap (λ (l : Life Dir). l.tip) same }

  pub steady_committed : (old new : Life Dir) → new ≡ record old { store = record old.store { current = new.store.current } } → Steady old new
  steady_committed old new rest = record { word = ap (λ (l : Life Dir). l.word) rest; epoch = ap (λ (l : Life Dir). l.epoch) rest; midpoint = ap (λ (l : Life Dir). l.midpoint) rest; tip = ap (λ (l : Life Dir). l.tip) rest }

  pub steady_pruned : (old new : Life Dir) → new ≡ record old { store = new.store } → Steady old new
  steady_pruned old new rest = record { word = ap (λ (l : Life Dir). l.word) rest; epoch = ap (λ (l : Life Dir). l.epoch) rest; midpoint = ap (λ (l : Life Dir). l.midpoint) rest; tip = ap (λ (l : Life Dir). l.tip) rest }

  pub steady_drawn : (old new : Life Dir) → new ≡ record old { stage = new.stage; round = new.round; dealer = new.dealer; player = new.player } → Steady old new
  steady_drawn old new rest = record { word = ap (λ (l : Life Dir). l.word) rest; epoch = ap (λ (l : Life Dir). l.epoch) rest; midpoint = ap (λ (l : Life Dir). l.midpoint) rest; tip = ap (λ (l : Life Dir). l.tip) rest }

  pub steady_rest : (old new : Life Dir) → Steady old new → new ≡ record old { store = new.store; stage = new.stage; round = new.round; dealer = new.dealer; player = new.player }
  steady_rest old new same = λ i. record new { word = same.word i; epoch = same.epoch i; midpoint = same.midpoint i; tip = same.tip i }

-- A FIXED of these terms, for a node of which nothing else is asked

module _ (round_of : RoundOf) (deal_of : DealOf) (dealing_of : DealingOf) (ack_of : AckOf) (check_ack_of : CheckAckOf) (sign_log_of : SignLogOf)
    (bears_ack_of : BearsAckOf) (share_public_of : SharePublicOf) (partial_public_of : PartialPublicOf)
  where
    pub any_rules : Rules
    any_rules = record stand_in {
      round_of = round_of;
      deal_of = deal_of;
      dealing_of = dealing_of;
      ack_of = ack_of;
      check_ack_of = check_ack_of;
      sign_log_of = sign_log_of;
      bears_ack_of = bears_ack_of;
      share_public_of = share_public_of;
      partial_public_of = partial_public_of;
    }

    pub any_ruled : IsRuledBy round_of deal_of dealing_of ack_of check_ack_of sign_log_of bears_ack_of share_public_of partial_public_of any_rules
    unfolding any_rules
    any_ruled = record {
      answers = record { dealing = refl; ack = refl; check_ack = refl };
      seats = record { round = refl; dealing = refl; bears = refl };
      deals = record { deal = refl; check_ack = refl; sign_log = refl };
      shares = record { share_public = refl; partial_public = refl };
    }

pub any_fixed : {Dir : Type 0} → Terms → SourceAnswers Dir → (word : ℕ) → Rules → Dir → Fixed Dir
any_fixed terms source word rules directory = record {
  me = terms.me;
  blocks_per_epoch = non_zero_u64_get terms.blocks_per_epoch;
  limit = non_zero_u32_get terms.limit;
  version = terms.max_mode.0;
  mode = terms.mode;
  reveal = terms.reveal;
  namespace = terms.namespace;
  oneshot = None;
  rules = rules;
  directories = record { spelling = λ d. []; read = λ peers bytes. Err EndOfBuffer; matches = λ d peers. false; lacking = λ d peers. None };
  provided = record { participants = λ epoch. []; directory = λ epoch peers. directory };
  seen = seen_planless;
  inner = record { prepared = λ b payload. None; proposed = λ b payload. None; accepts = λ blocks. false };
  probed = record { snapshot = None; certifies = λ f. false };
  life = 0;
  word = word;
  material = None;
  opening_calls = 0;
  source = source;
}

module _ {Dir : Type 0} (terms : Terms) (source : SourceAnswers Dir) (word : ℕ) (rules : Rules) (directory : Dir) where
  abbrev its : Fixed Dir
  its = any_fixed terms source word rules directory

  any_of : IsOf terms its
  unfolding any_fixed
  any_of = record { me = refl; blocks = refl; limit = refl; version = refl; mode = refl; reveal = refl; namespace = refl; unplanned = λ h. refl; reshare = refl; bare = refl }

  pub any_lent : IsLent terms source word its
  unfolding any_fixed
  any_lent = record { of = any_of; lent = refl; word_is = refl }

  pub any_reads : ReadsPlanless its
  unfolding any_fixed
  any_reads = refl

  pub any_ruled_by : {round_of : RoundOf} {deal_of : DealOf} {dealing_of : DealingOf} {ack_of : AckOf} {check_ack_of : CheckAckOf} {sign_log_of : SignLogOf} {bears_ack_of : BearsAckOf} {share_public_of : SharePublicOf} {partial_public_of : PartialPublicOf}
      → IsRuledBy round_of deal_of dealing_of ack_of check_ack_of sign_log_of bears_ack_of share_public_of partial_public_of rules
      → IsRuledBy round_of deal_of dealing_of ack_of check_ack_of sign_log_of bears_ack_of share_public_of partial_public_of its.rules
  unfolding any_fixed
  any_ruled_by ruled = ruled
