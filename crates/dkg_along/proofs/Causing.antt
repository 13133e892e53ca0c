-- Why a life of a script that goes over many epochs stops in a step: each fault of its courses has its cause in the script or in the node's own state, and a step that is completed has none.
use Rattle.std.proofs.Common.{◌≡◌, ◌⊎◌, inl, inr, ℕ, zero, suc, ◌+◌, ◌<◌, ◌≤◌, ◌*◌, ◌==◌, ◌&&◌, ◌||◌, List, [], ◌∷◌, Option, Some, None, Bool, true, false, Result, Ok, Err, arith, refl, sym, ap, subst, ◌∙◌, nat_le}
use Rattle.std.specs.Prelude.{◌/◌, ◌-◌, ◌^◌, max, nat_lt, not, slice_get, IfSome, IsSomeAnd, if◌then◌else◌}
use Rattle.std.specs.Option.{option_map_or}
use Rattle.std.specs.Str.{bytes_eq}
use Rattle.std.proofs.lemmas.Bool.Decides.{nat_tests}
use Rattle.std.proofs.Math.Nat.{div-eq_of_lt, suc-mul}
use Rattle.std.proofs.lemmas.Nat.{le-div}
use Rattle.dkg_ceremony.specs.Dealings.{dealing_of}
use Rattle.dkg_ceremony.specs.Schedule.{boundary, epoch_of, last, midpoint, phase_at}
use Rattle.dkg_ceremony.specs.declared.ceremony.DealingError.{DealingError}
use Rattle.dkg_ceremony.specs.declared.phase.Phase.TheVariants.{Early, Midpoint, Late}
use Rattle.dkg_ceremony.specs.declared.round.RoundParts.{RoundParts as Round}
use Rattle.dkg_types.specs.BlockCodes.{info_of}
use Rattle.dkg_types.specs.Blocks.{Block}
use Rattle.dkg_infos.specs.declared.directory.Unit as directory
use Rattle.dkg_infos.specs.declared.fault.Fault.{Fault}
use Rattle.dkg_infos.specs.declared.fault.Fault.TheVariants as fault
use Rattle.dkg_infos.specs.declared.fault.LocalCause.TheVariants as local
use Rattle.dkg_infos.specs.declared.fault.ParticipantsCause.TheVariants as cause
use Rattle.dkg_infos.specs.declared.info.EpochInfo.{EpochInfo}
use Rattle.dkg_store.specs.Acts.{Held}
use Rattle.dkg_store.specs.Recorded.{Pair, first_refused, refused_or}
use Rattle.dkg_script.specs.Blocks.{delivered_number, round_by}
use Rattle.dkg_script.specs.Epochs.{alone}
use Rattle.dkg_script.specs.Position.{life_follows}
use Rattle.dkg_text.specs.declared.script.BlockLine.{BlockLine}
use Rattle.dkg_text.specs.declared.script.Event.{Event}
use Rattle.dkg_text.specs.declared.script.Event.TheVariants as event
use Rattle.dkg_core.specs.Blocks.{is_early, is_in_window, is_in_window_in}
use Rattle.dkg_core.specs.Forms.{IsNodeBegun, IsOpeningStop, IsSeated, IsSetUpIn, IsSetupFault, Judged, Refusal, Passed, Applied, judged_block, judged_over_tip, round_for, share_read, seed_read, started}
use Rattle.dkg_core.specs.Asked.{IsAskStop, IsDeriveStop, IsProvided, OfShares}
use Rattle.dkg_core.specs.Fixed.{Fixed, has}
use Rattle.dkg_core.specs.Laws.{start_of}
use Rattle.dkg_core.specs.Live as core
use Rattle.dkg_core.specs.Live.{Deals, Ends, Finalized, Follows, Includes, Live, Plays, Request, Stage, Watches, is_last_height, phase_of}
use Rattle.dkg_core.specs.Seen.{Seen}
use Rattle.dkg_core.specs.Setup.{Standing, Uncommitted, WasCommitted, is_past_range, may_deal, pairs_of}
use Rattle.dkg_core.specs.Sources.{Tip}
use Rattle.dkg_core.specs.Stepping.{IsDealingStop, given_itself, taken_over}
use Rattle.dkg_core.specs.Through.{IsAppliedStopThrough, IsAppliedThrough, IsBlockStopThrough, IsBlockThrough, IsCarriedOn, IsFollowedThrough, IsIncludedThrough, IsLiveThrough, IsPassedOn, IsPassingStop, IsShareTaken, IsStopThrough, unasked}
use Rattle.dkg_core.specs.Endings.{OnInfo, first_epoch, seat_in, stage_in, validity}
use Rattle.dkg_core.proofs.Applied.{deals_below, includes_above}
use Rattle.dkg_core.proofs.Heights.{below_middle}
use Rattle.dkg_core.proofs.StepDealing as dealing
use Rattle.dkg_lives.specs.Blamed.{IsAskedOwn, IsBlockCause, IsBlockOwn, IsCause, IsClear, IsInfoCause, IsInfoOf, IsNextCause, IsOwn, IsOwnCause, IsProviderCause, IsReadingEvent, IsTakenLast, MayRead, OnCarried, first_epoch_in, is_beyond, is_first_taken, epoch_behind, opening_block, per_epoch, refusal_by, refusal_in, tip_in}
use Rattle.dkg_lives.specs.Epochs.{IsLifeInForm, StandsInScript, any_shares, awaited_by, epoch_by}
use Rattle.dkg_lives.specs.Given.{Lived, at_step, blocks_in}
use Rattle.dkg_along.proofs.Asking.{AreMade, Each, IsCarried, WasMade, first_block_same}
use Rattle.dkg_lives.proofs.Awaiting.{HasHeight, IsReached, awaited, block_behind, event_behind, has_height}
use Rattle.dkg_lives.proofs.Delivered.{starts}
use Rattle.dkg_lives.proofs.Former.{IsMessage, made_there}
use Rattle.dkg_lives.proofs.Living.{holds_at}
use Rattle.dkg_lives.proofs.NextLives.{applied_so, passed_so}
use Rattle.dkg_lives.proofs.Started.{awaits_at_first, first_epoch_is}

-- APART

bools_apart : (t : Bool) → t ≡ true → t ≡ false → ⊥
bools_apart t e f = let wrong : true ≡ false = sym e ∙ f in cc

none_some : {A : Type 0} (x : A) → ◌≡◌ {A = Option A} None (Some x) → ⊥
none_some x e = cc

some_is : {A : Type 0} {x y : A} → ◌≡◌ {A = Option A} (Some x) (Some y) → x ≡ y
some_is e = cc

ok_err : {A E : Type 0} (x : A) (e : E) → ◌≡◌ {A = Result A E} (Ok x) (Err e) → ⊥
ok_err x e is = cc

-- OF A DEALING THAT IS REFUSED

module _ (check : ℕ → List ℕ → ℕ → Result (Unit {0}) DealingError) where
  abbrev IsRefusedHere : ℕ → Type 0
  IsRefusedHere dealer = (public : List ℕ) × (private : ℕ) × (why : DealingError) × (check dealer public private ≡ Err why)

  refused_here : (dealer : ℕ) (es : List Pair) → first_refused check es ≡ Some dealer → IsRefusedHere dealer
  refused_here dealer [] is = absurd (none_some dealer is)
  refused_here dealer (x ∷ es) is = by_answer (check x.0.1 x.1.0 x.1.1) refl is (refused_here dealer es)
    where
      by_answer : (r : Result (Unit {0}) DealingError) → check x.0.1 x.1.0 x.1.1 ≡ r → refused_or r x.0.1 (first_refused check es) ≡ Some dealer → (first_refused check es ≡ Some dealer → IsRefusedHere dealer) → IsRefusedHere dealer
      by_answer (Ok u) answer is rest = rest is
      by_answer (Err why) answer is rest = subst IsRefusedHere (some_is is) (x.1.0, x.1.1, why, answer)

-- A SETUP by an info

module _ (g : Lived) (taken : ℕ) where
  plays_in : (round : Round) (st : Live directory.Unit) → seat_in (at_step g taken) round st ≡ Plays → has round.players (at_step g taken).me ≡ true
  plays_in round st is = by_key (has round.players (at_step g taken).me) _ is
    where
      by_key : (key lost : Bool) → (if not key || lost then Watches else Plays) ≡ Plays → key ≡ true
      by_key true lost e = refl
      by_key false lost e = absurd cc

  deals_in : (round : Round) (share : Option ℕ) (st : Live directory.Unit) → may_deal (at_step g taken) round share st ≡ true → has round.dealers (at_step g taken).me ≡ true
  deals_in round share st is = by_key (has round.dealers (at_step g taken).me) _ _ is
    where
      by_key : (a b c : Bool) → (a && b && c) ≡ true → a ≡ true
      by_key true b c e = refl
      by_key false true c e = absurd cc
      by_key false false c e = absurd cc

  setup_cause : (epoch : ℕ) (info : EpochInfo directory.Unit) (share : Option ℕ) (seed : List ℕ) (st : Live directory.Unit) (its : Fault) → IsSetupFault (at_step g taken) epoch info share seed st its
      → IsInfoCause g.script epoch info its ⊎ IsOwnCause g.script epoch info its
  unfolding at_step
  setup_cause epoch info share seed st (fault.WrongEpoch expected got) why = inl why
  setup_cause epoch info share seed st (fault.InvalidParticipants (cause.Refused e)) why = inl why
  setup_cause epoch info share seed st (fault.InvalidParticipants (cause.Round e)) why = inl why
  setup_cause epoch info share seed st (fault.LocalState (local.ShareRefused number)) why =
      inr (why.0, (why.1.0, why.1.1, (why.1.2.0, why.1.2.1, (deals_in why.1.2.0 share st why.1.2.2.0, (share, seed, why.1.2.2.1.0, why.1.2.2.1.1)))))
  setup_cause epoch info share seed st (fault.LocalState (local.StoredDealing number dealer)) why =
      let round = why.1.2.0 in
      let refused = refused_here (λ d. dealing_of round g.script.config.me d) dealer (pairs_of st round.number) why.1.2.2.2 in
      inr (why.0, (why.1.0, why.1.1, (round, why.1.2.1, (plays_in round st why.1.2.2.1, (refused.0, refused.1, refused.2, refused.3)))))
  setup_cause epoch info share seed st its why = absurd why

  -- one that served has no cause
  seated_clear : (epoch : ℕ) (standing : Standing) (info : EpochInfo directory.Unit) (share : Option ℕ) (seed : List ℕ) (st end : Live directory.Unit) → IsSeated (at_step g taken) standing info share seed st end
      → st.participation.epoch ≡ epoch → (its : Fault) → IsInfoCause g.script epoch info its → ⊥
  unfolding at_step
  seated_clear epoch standing info share seed st end seated at (fault.WrongEpoch expected got) why = why.2 (seated.of_epoch ∙ at)
  seated_clear epoch standing info share seed st end seated at (fault.InvalidParticipants (cause.Refused e)) why = ok_err tt e (sym seated.valid ∙ why.1)
  seated_clear epoch standing info share seed st end seated at (fault.InvalidParticipants (cause.Round e)) why =
      ok_err seated.round e (sym (subst (λ (n : ℕ). round_by g.script n info ≡ Ok seated.round) at seated.drawn) ∙ why.2)
  seated_clear epoch standing info share seed st end seated at its why = absurd why

module _ (g : Lived) (here : IsLifeInForm g) where
  -- AN OPENING

  starts_there : start_of (at_step g 0) ≡ awaited_by g 0
  unfolding at_step
  starts_there = awaits_at_first g here ∙ sym (starts (alone g.script) g.number g.life)

  beyond_is : (taken height : ℕ) → is_past_range (at_step g taken) height ≡ is_beyond g.script height
  unfolding at_step
  beyond_is taken height = refl

  -- by the info that its block carries
  on_info : (seen : Seen) (k : Held) (its : Fault)
      → OnInfo (at_step g 0) (λ info. IsSetupFault (at_step g 0) (first_epoch (at_step g 0)) info (share_read (at_step g 0) info k) (seed_read (at_step g 0) info k) (started (at_step g 0) seen) its)
      → OnCarried (opening_block g.script g.number g.life) (λ info. IsInfoCause g.script (first_epoch_in g.script g.number g.life) info its)
      ⊎ OnCarried (opening_block g.script g.number g.life) (λ info. IsOwnCause g.script (first_epoch_in g.script g.number g.life) info its)
  on_info seen k its why = by_block (opening_block g.script g.number g.life) (subst (λ (o : Option (Block directory.Unit)). IsSomeAnd o (λ b. IsSomeAnd (info_of b.payload) Why)) (first_block_same g here) why)
    where
      Why : EpochInfo directory.Unit → Type 0
      Why info = IsSetupFault (at_step g 0) (first_epoch (at_step g 0)) info (share_read (at_step g 0) info k) (seed_read (at_step g 0) info k) (started (at_step g 0) seen) its

      E : ℕ
      E = first_epoch_in g.script g.number g.life

      by_info : (o : Option (EpochInfo directory.Unit)) → IsSomeAnd o Why → IsSomeAnd o (λ info. IsInfoCause g.script E info its) ⊎ IsSomeAnd o (λ info. IsOwnCause g.script E info its)
      by_info None why = absurd why
      by_info (Some info) why = subst (λ (e : ℕ). IsInfoCause g.script e info its ⊎ IsOwnCause g.script e info its) (first_epoch_is g here 0)
          (setup_cause g 0 (first_epoch (at_step g 0)) info (share_read (at_step g 0) info k) (seed_read (at_step g 0) info k) (started (at_step g 0) seen) its why)

      by_block : (o : Option (Block directory.Unit)) → IsSomeAnd o (λ b. IsSomeAnd (info_of b.payload) Why) → OnCarried o (λ info. IsInfoCause g.script E info its) ⊎ OnCarried o (λ info. IsOwnCause g.script E info its)
      by_block None why = absurd why
      by_block (Some b) why = by_info (info_of b.payload) why

  pub opening_cause : (seen : Seen) (k : Held) (its : Fault) → IsOpeningStop (at_step g 0) seen k its → IsCause g.script g.number g.life 0 its ⊎ IsOwn g.script g.number g.life 0 its
  opening_cause seen k fault.HeightRange why = inl (sym (beyond_is 0 (awaited_by g 0)) ∙ ap (is_past_range (at_step g 0)) (sym starts_there) ∙ why)
  opening_cause seen k (fault.MissingEpochInfo height) why = inl (subst (λ (o : Option (Block directory.Unit)). IsSomeAnd o (λ b. (height ≡ b.height) × (info_of b.payload ≡ None))) (first_block_same g here) why)
  opening_cause seen k its why = on_info seen k its why

  -- one that went to its end has no cause
  module _ (seen : Seen) (k : Held) (st : Live directory.Unit) (begun : IsNodeBegun (at_step g 0) seen k st) where
    its_setup : IsSetUpIn (at_step g 0) seen k begun.before (opening_block g.script g.number g.life)
    its_setup = subst (IsSetUpIn (at_step g 0) seen k begun.before) (first_block_same g here) (begun.opened).set_up

    carried_clear : (its : Fault) → OnCarried (opening_block g.script g.number g.life) (λ info. IsInfoCause g.script (first_epoch_in g.script g.number g.life) info its) → ⊥
    carried_clear its why = by_block (opening_block g.script g.number g.life) its_setup why
      where
        by_info : (o : Option (EpochInfo directory.Unit)) → IsSomeAnd o (λ info. IsSeated (at_step g 0) Uncommitted info (share_read (at_step g 0) info k) (seed_read (at_step g 0) info k) (started (at_step g 0) seen) begun.before)
            → IsSomeAnd o (λ info. IsInfoCause g.script (first_epoch_in g.script g.number g.life) info its) → ⊥
        by_info None set_up why = absurd set_up
        by_info (Some info) seated why = seated_clear g 0 (first_epoch_in g.script g.number g.life) Uncommitted info (share_read (at_step g 0) info k) (seed_read (at_step g 0) info k) (started (at_step g 0) seen) begun.before seated (first_epoch_is g here 0) its why

        by_block : (o : Option (Block directory.Unit)) → IsSetUpIn (at_step g 0) seen k begun.before o → OnCarried o (λ info. IsInfoCause g.script (first_epoch_in g.script g.number g.life) info its) → ⊥
        by_block None set_up why = absurd why
        by_block (Some b) set_up why = by_info (info_of b.payload) set_up why

    missing_clear : (height : ℕ) → IsSomeAnd (opening_block g.script g.number g.life) (λ b. (height ≡ b.height) × (info_of b.payload ≡ None)) → ⊥
    missing_clear height why = by_block (opening_block g.script g.number g.life) its_setup why
      where
        by_info : (o : Option (EpochInfo directory.Unit)) → o ≡ None → IsSomeAnd o (λ info. IsSeated (at_step g 0) Uncommitted info (share_read (at_step g 0) info k) (seed_read (at_step g 0) info k) (started (at_step g 0) seen) begun.before) → ⊥
        by_info None none set_up = set_up
        by_info (Some info) none set_up = none_some info (sym none)

        by_block : (o : Option (Block directory.Unit)) → IsSetUpIn (at_step g 0) seen k begun.before o → IsSomeAnd o (λ b. (height ≡ b.height) × (info_of b.payload ≡ None)) → ⊥
        by_block None set_up why = why
        by_block (Some b) set_up why = by_info (info_of b.payload) why.1 set_up

    pub opening_clear : IsClear g.script g.number g.life 0
    opening_clear fault.HeightRange why = bools_apart (is_past_range (at_step g 0) (start_of (at_step g 0))) (ap (is_past_range (at_step g 0)) starts_there ∙ beyond_is 0 (awaited_by g 0) ∙ why) (begun.opened).in_range
    opening_clear (fault.MissingEpochInfo height) why = missing_clear height why
    opening_clear its why = carried_clear its why

  -- A STEP, of a life with the tip that is said
  module _ (i : ℕ) (its : Event) (is : slice_get g.life.events i ≡ Some its) (reached : IsReached g.life.cut (suc i)) (m : IsMessage g its) (st : Live directory.Unit) (live : IsLiveThrough (at_step g (suc i)) any_shares st)
      (stands : StandsInScript g i st) (tip : st.tip ≡ tip_in g.script g.life i) where
    abbrev n : ℕ
    n = per_epoch g.script

    -- without a tip the first epoch is awaited
    module _ (none : st.tip ≡ None) where
      awaits_none : awaited_by g i ≡ 0
      awaits_none = sym stands.awaits ∙ ap awaited none

      pub first_awaited : epoch_by g i ≡ 0
      first_awaited = ap (epoch_of n) awaits_none ∙ div-eq_of_lt (some n here.long)
        where
          some : (n : ℕ) → 2 ≤ n → 0 < n
          some n long = omega (arith, long)

      early_is : (middle height : ℕ) → is_early (phase_at middle height) ≡ nat_lt height middle
      early_is middle height = by_test (nat_lt height middle) (height == middle)
        where
          by_test : (p q : Bool) → is_early (if p then Early else (if q then Midpoint else Late)) ≡ p
          by_test true q = refl
          by_test false true = refl
          by_test false false = refl

      -- it deals there, unless it follows
      not_included : st.participation.stage ≡ Includes → ⊥
      unfolding at_step
      not_included stage = by_round st.participation.round refl
        where
          early : stage_in (phase_of (at_step g (suc i)) (core.awaited_height st)) ≡ Deals
          early = ap (λ (h : ℕ). stage_in (phase_at (midpoint n (epoch_of n h)) h)) (ap awaited none)
              ∙ ap (λ (e : ℕ). stage_in (phase_at (midpoint n e) 0)) (div-eq_of_lt (some n here.long))
              ∙ below n here.long
            where
              some : (n : ℕ) → 2 ≤ n → 0 < n
              some n long = omega (arith, long)

              half : (n : ℕ) → 2 ≤ n → nat_lt 0 (0 * n + n / 2) ≡ true
              half n long = let one : 1 ≤ n / 2 = le-div 1 n 2 (omega arith) (omega (arith, long)) in grind (arith, nat_tests)

              below : (n : ℕ) → 2 ≤ n → stage_in (phase_at (midpoint n 0) 0) ≡ Deals
              below n long = ap (λ (t : Bool). stage_in (if t then Early else (if 0 == 0 * n + n / 2 then Midpoint else Late))) (half n long)

          by_round : (o : Option Round) → st.participation.round ≡ o → ⊥
          by_round None nothing = absurd (let wrong : Includes ≡ Follows = sym stage ∙ ((live.stands).without nothing).0 in cc)
          by_round (Some round) there = absurd (let wrong : Includes ≡ Deals = sym stage ∙ (live.stands).in_round round there ∙ early in cc)

      window_is : (b : Block directory.Unit) → is_in_window (at_step g (suc i)) b st ≡ is_first_taken g.script g.number g.life b
      unfolding at_step
      window_is b = by_stage st.participation.stage refl
        where
          here_or_not : Bool
          here_or_not = (epoch_of n b.height == 0) && nat_lt b.height (midpoint n (epoch_of n b.height))

          taking : life_follows (alone g.script) g.number g.life 0 ≡ false → st.participation.epoch ≡ 0
              → ((epoch_of n b.height == st.participation.epoch) && is_early (phase_of (at_step g (suc i)) b.height)) ≡ (life_follows (alone g.script) g.number g.life 0 || here_or_not)
          taking part epoch =
              ap (λ (e : ℕ). (epoch_of n b.height == e) && is_early (phase_at (midpoint n (epoch_of n b.height)) b.height)) epoch
              ∙ ap (λ (t : Bool). (epoch_of n b.height == 0) && t) (early_is (midpoint n (epoch_of n b.height)) b.height)
              ∙ ap (λ (t : Bool). t || here_or_not) (sym part)

          by_stage : (stage : Stage) → st.participation.stage ≡ stage → is_in_window_in (at_step g (suc i)) b st stage ≡ (life_follows (alone g.script) g.number g.life 0 || here_or_not)
          by_stage Follows stage = sym (ap (λ (t : Bool). t || here_or_not) (ap (life_follows (alone g.script) g.number g.life) (sym first_awaited) ∙ stands.blind stage))
          by_stage Deals stage =
              let apart : st.participation.stage ≡ Follows → ⊥ = λ e. (let wrong : Deals ≡ Follows = sym stage ∙ e in cc) in
              taking (ap (life_follows (alone g.script) g.number g.life) (sym first_awaited) ∙ stands.parts apart) (stands.epoch apart ∙ first_awaited)
          by_stage Includes stage = absurd (not_included stage)
          by_stage Ends stage = absurd (by_round st.participation.round refl)
            where
              no_end : (phase : _) → stage_in phase ≡ Ends → ⊥
              no_end Early e = cc
              no_end Midpoint e = cc
              no_end Late e = cc

              by_round : (o : Option Round) → st.participation.round ≡ o → ⊥
              by_round None nothing = absurd (let wrong : Ends ≡ Follows = sym stage ∙ ((live.stands).without nothing).0 in cc)
              by_round (Some round) there = no_end (phase_of (at_step g (suc i)) (core.awaited_height st)) (sym ((live.stands).in_round round there) ∙ stage)

    -- HOW A BLOCK IS JUDGED is how the script refuses it
    module _ (b : Block directory.Unit) where
      -- the refusal of a judgement
      abbrev pub refusal : Judged → Option Fault
      refusal (Refusal own) = Some own
      refusal Passed = None
      refusal Applied = None

      over_tests : (conflicts skips detached low : Bool) (one two three : Fault)
          → refusal (if conflicts then Refusal one else if skips then Refusal two else if detached then Refusal three else if low then Passed else Applied)
          ≡ (if conflicts then Some one else if skips then Some two else if detached then Some three else None)
      over_tests true skips detached low one two three = refl
      over_tests false true detached low one two three = refl
      over_tests false false true low one two three = refl
      over_tests false false false true one two three = refl
      over_tests false false false false one two three = refl

      over_window : (t : Bool) → refusal (if t then Applied else Refusal (fault.OutOfWindow b.height)) ≡ (if t then None else Some (fault.OutOfWindow b.height))
      over_window true = refl
      over_window false = refl

      over_is : (o : Option Tip) → st.tip ≡ o → refusal (judged_over_tip (at_step g (suc i)) b st o) ≡ refusal_by g.script g.number g.life b o
      over_is None none = over_window (is_in_window (at_step g (suc i)) b st) ∙ ap (λ (t : Bool). if t then None else Some (fault.OutOfWindow b.height)) (window_is none b)
      over_is (Some t) there =
          over_tests ((b.height == t.height) && not (bytes_eq b.digest t.digest)) (nat_lt (t.height + 1) b.height) ((b.height == t.height + 1) && not (bytes_eq b.parent t.digest)) (nat_le b.height t.height)
          (fault.ConflictingBlock b.height) (fault.SkippedHeight (t.height + 1) b.height) (fault.DetachedBlock b.height)

      pub judged_so : refusal (judged_block (at_step g (suc i)) b st) ≡ refusal_in g.script g.number g.life i b
      judged_so = by_range (is_past_range (at_step g (suc i)) b.height)
          ∙ ap (λ (t : Bool). if t then Some fault.HeightRange else refusal (judged_over_tip (at_step g (suc i)) b st st.tip)) (beyond_is (suc i) b.height)
          ∙ ap (λ (o : Option Fault). if is_beyond g.script b.height then Some fault.HeightRange else o) (over_is st.tip refl ∙ ap (refusal_by g.script g.number g.life b) tip)
        where
          by_range : (t : Bool) → refusal (if t then Refusal fault.HeightRange else judged_over_tip (at_step g (suc i)) b st st.tip) ≡ (if t then Some fault.HeightRange else refusal (judged_over_tip (at_step g (suc i)) b st st.tip))
          by_range true = refl
          by_range false = refl

      -- it is new where it is neither refused nor passed over
      pub accepted_by : (j : Judged) → judged_block (at_step g (suc i)) b st ≡ j → refusal j ≡ None → refusal_in g.script g.number g.life i b ≡ None
      accepted_by j is none = sym judged_so ∙ ap refusal is ∙ none

      pub above_by : judged_block (at_step g (suc i)) b st ≡ Applied → option_map_or (λ t. nat_le b.height t.height) (tip_in g.script g.life i) false ≡ false
      above_by applied = by_test (option_map_or (λ t. nat_le b.height t.height) st.tip false) refl
        where
          later : (h k : ℕ) → h ≡ k + 1 → nat_le h k ≡ false
          later h k is = grind (arith, nat_tests)

          none_low : (o : Option Tip) → st.tip ≡ o → option_map_or (λ t. nat_le b.height t.height) o false ≡ false
          none_low None there = refl
          none_low (Some t) there = later b.height t.height ((applied_so (at_step g (suc i)) b st applied).over t there)

          by_test : (t : Bool) → option_map_or (λ t. nat_le b.height t.height) st.tip false ≡ t → option_map_or (λ t. nat_le b.height t.height) (tip_in g.script g.life i) false ≡ false
          by_test t e = ap (λ (o : Option Tip). option_map_or (λ t. nat_le b.height t.height) o false) (sym tip) ∙ none_low st.tip refl

      pub new_of : IsTakenLast g.script g.number g.life i b → judged_block (at_step g (suc i)) b st ≡ Applied
      new_of its = by_judged (judged_block (at_step g (suc i)) b st) refl
        where
          by_judged : (j : Judged) → judged_block (at_step g (suc i)) b st ≡ j → judged_block (at_step g (suc i)) b st ≡ Applied
          by_judged (Refusal own) is = absurd (let wrong : ◌≡◌ {A = Option Fault} (Some own) None = sym (ap refusal is) ∙ judged_so ∙ its.accepted in cc)
          by_judged Passed is =
              let so = passed_so (at_step g (suc i)) b st is in
              absurd (bools_apart (nat_le b.height (so.0).height) so.2
              (ap (λ (o : Option Tip). option_map_or (λ t. nat_le b.height t.height) o false) (sym so.1) ∙ ap (λ (o : Option Tip). option_map_or (λ t. nat_le b.height t.height) o false) tip ∙ its.above))
          by_judged Applied is = is

      -- a block that is taken while dealing lies below the midpoint
      too_low : IsTakenLast g.script g.number g.life i b → st.participation.stage ≡ Deals → ⊥
      unfolding at_step
      too_low its stage = below b.height (last n (epoch_of n b.height)) its.ends (below_middle n (epoch_of n b.height) b.height (some n here.long) (deals_below (at_step g (suc i)) b st live.stands (new_of its) stage).1)
        where
          some : (n : ℕ) → 2 ≤ n → 1 ≤ n
          some n long = omega (arith, long)

          below : (h k : ℕ) → (h == k) ≡ true → h < k → ⊥
          below h k same low = grind (arith, nat_tests)

      -- a last block is taken while it follows or includes
      pub stage_of : IsTakenLast g.script g.number g.life i b → (st.participation.stage ≡ Follows) ⊎ (st.participation.stage ≡ Includes)
      stage_of its = by_stage st.participation.stage refl
        where
          by_stage : (stage : Stage) → st.participation.stage ≡ stage → (st.participation.stage ≡ Follows) ⊎ (st.participation.stage ≡ Includes)
          by_stage Follows stage = inl stage
          by_stage Includes stage = inr stage
          by_stage Deals stage = absurd (too_low its stage)
          by_stage Ends stage = absurd (never stage)
            where
              no_end : (phase : _) → stage_in phase ≡ Ends → ⊥
              no_end Early e = cc
              no_end Midpoint e = cc
              no_end Late e = cc

              by_round : (o : Option Round) → st.participation.round ≡ o → st.participation.stage ≡ Ends → ⊥
              by_round None nothing stage = absurd (let wrong : Ends ≡ Follows = sym stage ∙ ((live.stands).without nothing).0 in cc)
              by_round (Some round) there stage = no_end (phase_of (at_step g (suc i)) (core.awaited_height st)) (sym ((live.stands).in_round round there) ∙ stage)

              never : st.participation.stage ≡ Ends → ⊥
              never stage = by_round st.participation.round refl stage

      last_same : is_last_height (at_step g (suc i)) b.height ≡ (b.height == last n (epoch_of n b.height))
      unfolding at_step
      last_same = refl

    -- WHAT STOPS IT

    includes_apart : ◌≡◌ {A = Stage} Includes Follows → ⊥
    includes_apart e = cc

    deals_apart : ◌≡◌ {A = Stage} Deals Follows → ⊥
    deals_apart e = cc

    module _ (carried : IsCarried g i st) where
      abbrev e : ℕ
      e = epoch_by g i

      abbrev IsEither : Fault → Type 0
      IsEither own = IsProviderCause g.script e own ⊎ IsAskedOwn g.script g.life i e own

      -- the epoch of a life that takes part ends far below 64 bits
      in_range : (info : EpochInfo directory.Unit) → IsInfoOf g.script g.life i st.participation.epoch info → 2 ^ 64 ≤ info.epoch + 2 → ⊥
      in_range info of high =
          let made = made_there g.script of.number of.block of.is in
          let placed : ((made.0).line).height < 2 ^ 64 = holds_at (λ (line : BlockLine). line.height < 2 ^ 64) g.script.blocks of.number (made.0).line here.form.placed (made.0).line_is in
          let height : (of.block).height ≡ ((made.0).line).height = ap (λ (x : Block directory.Unit). x.height) (sym made.1) ∙ (made.0).height in
          wide n st.participation.epoch info.epoch (of.block).height ((made.0).line).height here.long of.begins of.of_epoch height placed high
        where
          more : (n k m p : ℕ) → p ≡ m + n → k + k ≤ m → 2 ≤ n → suc k + suc k ≤ p
          more n k m p product so long = omega (arith, product, so, long)

          double : (n k : ℕ) → 2 ≤ n → k + k ≤ k * n
          double n zero long = omega arith
          double n (suc k) long = more n k (k * n) (suc k * n) (suc-mul k n) (double n k long) long

          over : (n k m its height line : ℕ) → k + k ≤ m → height ≡ m + n - 1 → its ≡ suc k → height ≡ line → line < 2 ^ 64 → 2 ^ 64 ≤ its + 2 → 2 ≤ n → ⊥
          over n k m its height line so top same height_is placed high long = omega (arith, so, top, same, height_is, placed, high, long)

          wide : (n epoch its height line : ℕ) → 2 ≤ n → height ≡ boundary n epoch → its ≡ epoch → height ≡ line → line < 2 ^ 64 → 2 ^ 64 ≤ its + 2 → ⊥
          wide n zero its height line long begins same height_is placed high = let low : its ≡ 0 = same in omega (arith, low, high)
          wide n (suc k) its height line long begins same height_is placed high = over n k (k * n) its height line (double n k long) begins same height_is placed high long

      both : (a b : Bool) → (a && b) ≡ true → a ≡ true
      both true b e = refl
      both false b e = absurd (bools_apart false e refl)

      -- why the info that ends the epoch can't be made
      module _ (at : Live directory.Unit) (of_round : at.participation.round ≡ st.participation.round) (of_info : at.participation.current ≡ st.participation.current) (apart : st.participation.stage ≡ Follows → ⊥) (round : Round)
          (info : EpochInfo directory.Unit) (at_round : at.participation.round ≡ Some round) (at_info : at.participation.current ≡ Some info) where
        its_round : st.participation.round ≡ Some round
        its_round = sym of_round ∙ at_round

        its_info : st.participation.current ≡ Some info
        its_info = sym of_info ∙ at_info

        informed : (info.epoch ≡ st.participation.epoch) × (validity (at_step g (suc i)) info ≡ Ok tt) × (round_for (at_step g (suc i)) st.participation.epoch info ≡ Ok round)
        informed = subst (λ (o : Option (EpochInfo directory.Unit)). IsSomeAnd o (λ x. (x.epoch ≡ st.participation.epoch) × (validity (at_step g (suc i)) x ≡ Ok tt) × (round_for (at_step g (suc i)) st.participation.epoch x ≡ Ok round))) its_info
            (live.informed round its_round)

        of : IsInfoOf g.script g.life i st.participation.epoch info
        of = subst (λ (o : Option (EpochInfo directory.Unit)). IsSomeAnd o (λ x. IsInfoOf g.script g.life i st.participation.epoch x)) its_info (carried round its_round)

        here_now : st.participation.epoch ≡ e
        here_now = stands.epoch apart

        stored_cause : (number dealer : ℕ) → IsDeriveStop (at_step g (suc i)) round info at (fault.LocalState (local.StoredDealing number dealer)) → IsOwnCause g.script st.participation.epoch info (fault.LocalState (local.StoredDealing number dealer))
        unfolding at_step
        stored_cause number dealer why =
            let refused = refused_here (λ d. dealing_of round g.script.config.me d) dealer (pairs_of at round.number) why.2 in (
              why.0 ∙ (live.stands).numbered round its_round,
              (
                informed.0,
                informed.1,
                (round, informed.2, (both (has round.players g.script.config.me) _ why.1.1, (refused.0, refused.1, refused.2, refused.3))),
              ),
            )

        derive_cause : (own : Fault) → IsDeriveStop (at_step g (suc i)) round info at own → IsEither own
        unfolding at_step
        derive_cause fault.HeightRange why = absurd (in_range info of why)
        derive_cause (fault.InvalidParticipants cause.ProviderEmpty) why = inl (subst (λ (k : ℕ). IsProviderCause g.script k (fault.InvalidParticipants cause.ProviderEmpty)) (informed.0 ∙ here_now) why)
        derive_cause (fault.InvalidParticipants (cause.ProviderAbove count most)) why =
            inl (subst (λ (k : ℕ). IsProviderCause g.script k (fault.InvalidParticipants (cause.ProviderAbove count most))) (informed.0 ∙ here_now) (why.0, why.1, subst (λ (k : ℕ). k < count) (sym why.1) why.2))
        derive_cause (fault.DirectoryMismatch epoch) why = absurd (let wrong : ◌≡◌ {A = Bool} true false = why.1.1 in cc)
        derive_cause (fault.LocalState (local.StoredDealing number dealer)) why =
            inr (subst (λ (k : ℕ). IsAskedOwn g.script g.life i k (fault.LocalState (local.StoredDealing number dealer))) here_now (info, of, stored_cause number dealer why))
        derive_cause own why = absurd why

      asked_cause : (at : Live directory.Unit) → at.participation.round ≡ st.participation.round → at.participation.current ≡ st.participation.current → (st.participation.stage ≡ Follows → ⊥) → (own : Fault)
          → IsAskStop (at_step g (suc i)) at own → IsEither own
      asked_cause at of_round of_info apart own stop = derive_cause at of_round of_info apart stop.0 stop.1 stop.2 stop.3 own stop.4

      -- A STEP IN WHICH REQUESTS ARE READ

      late_here : st.participation.stage ≡ Includes → midpoint n e ≤ awaited_by g i
      unfolding at_step
      late_here includes = by_round st.participation.round refl
        where
          at_height : (h : ℕ) → Includes ≡ stage_in (phase_at (midpoint n (epoch_of n h)) h) → midpoint n (epoch_of n h) ≤ h
          at_height h so = by_test (midpoint n (epoch_of n h)) (nat_lt h (midpoint n (epoch_of n h))) (h == midpoint n (epoch_of n h)) refl so
            where
              by_test : (m : ℕ) (p q : Bool) → nat_lt h m ≡ p → Includes ≡ stage_in (if p then Early else (if q then Midpoint else Late)) → m ≤ h
              by_test m true q test wrong = absurd (let no : Includes ≡ Deals = wrong in cc)
              by_test m false q test so = grind (arith, nat_tests)

          by_round : (o : Option Round) → st.participation.round ≡ o → midpoint n e ≤ awaited_by g i
          by_round None nothing = absurd (includes_apart (sym includes ∙ ((live.stands).without nothing).0))
          by_round (Some round) there =
              at_height (awaited_by g i) (subst (λ (h : ℕ). Includes ≡ stage_in (phase_at (midpoint n (epoch_of n h)) h)) stands.awaits (sym includes ∙ (live.stands).in_round round there))

      module _ (reading : IsReadingEvent its) (apart : st.participation.stage ≡ Follows → ⊥) (late : midpoint n e ≤ awaited_by g (suc i)) where
        may_read : (at : ℕ) → at ≤ i → (request : ℕ) → slice_get g.life.events at ≡ Some (event.Info request) → epoch_by g at ≡ e → MayRead g.script g.number g.life i
        may_read at so_far request asked same = record {
          event = subst (λ (o : Option Event). IsSomeAnd o IsReadingEvent) (sym is) reading;
          takes_part = stands.parts apart;
          late = late;
          at = at;
          so_far = so_far;
          request = request;
          asked = asked;
          same_epoch = same;
        }

        -- by a request that is there, or waits
        of_made : ((st.inclusion.waiter ≡ None) × (st.inclusion.queue ≡ []) → ⊥) → AreMade g i st → MayRead g.script g.number g.life i
        of_made some made = by_waiter st.inclusion.waiter refl st.inclusion.queue refl
          where
            earlier : (a b : ℕ) → a < b → a ≤ b
            earlier a b low = omega (arith, low)

            of_one : (number : ℕ) → WasMade g i number → MayRead g.script g.number g.life i
            of_one number was = may_read was.at (earlier was.at i was.before) number was.asked was.same

            by_waiter : (o : Option ℕ) → st.inclusion.waiter ≡ o → (queue : List (Request directory.Unit)) → st.inclusion.queue ≡ queue → MayRead g.script g.number g.life i
            by_waiter (Some number) waits queue there = of_one number (subst (λ (o : Option ℕ). IfSome o (WasMade g i)) waits made.waiter)
            by_waiter None waits (r ∷ rs) there = of_one r.number (subst (λ (queue : List (Request directory.Unit)). Each (WasMade g i) queue) there made.queue).0
            by_waiter None waits [] there = absurd (some (waits, there))

      abbrev pub Reads : Fault → Type 0
      Reads own = MayRead g.script g.number g.life i × IsEither own

      itself : (a : ℕ) → a ≤ a
      itself a = omega arith

      -- an event of a request
      module _ (reading : IsReadingEvent its) (none : delivered_number its ≡ None) where
        late_on : st.participation.stage ≡ Includes → midpoint n e ≤ awaited_by g (suc i)
        late_on includes = subst (λ (h : ℕ). midpoint n e ≤ h) (sym (event_behind (alone g.script) g.number g.life i its is reached none)) (late_here includes)

        pub mail_cause : AreMade g i st → (st.participation.stage ≡ Includes) × ((st.inclusion.waiter ≡ None) × (st.inclusion.queue ≡ []) → ⊥) → (own : Fault) → IsAskStop (at_step g (suc i)) st own → Reads own
        mail_cause made asked own stop =
            let apart : st.participation.stage ≡ Follows → ⊥ = λ life_follows. includes_apart (sym asked.0 ∙ life_follows) in
            (of_made reading apart (late_on asked.0) asked.1 made, asked_cause st refl refl apart own stop)

        pub info_cause : (request : ℕ) → its ≡ event.Info request → st.participation.stage ≡ Includes → (own : Fault) → IsAskStop (at_step g (suc i)) st own → Reads own
        info_cause request of includes own stop =
            let apart : st.participation.stage ≡ Follows → ⊥ = λ life_follows. includes_apart (sym includes ∙ life_follows) in
            (may_read reading apart (late_on includes) i (itself i) request (is ∙ ap (λ (x : Event). Some x) of) refl, asked_cause st refl refl apart own stop)

      -- A BLOCK
      module _ (number : ℕ) (of : its ≡ event.Final number) (b : Block directory.Unit) (there : slice_get (blocks_in g.script) number ≡ Some b) where
        abbrev c : Fixed directory.Unit
        c = at_step g (suc i)

        abbrev Why : Fault → Type 0
        Why own = IsBlockCause g.script g.number g.life i b own ⊎ (IsBlockOwn g.script g.number g.life i b own ⊎ Reads own)

        reading : IsReadingEvent its
        reading = subst IsReadingEvent (sym of) tt

        -- what is awaited behind it
        height_behind : (k : ℕ) → (k ≤ awaited_by g i) ⊎ (k ≤ b.height + 1) → k ≤ awaited_by g (suc i)
        height_behind k low =
            let made = made_there g.script number b there in
            let has : HasHeight (alone g.script) number b = has_height (alone g.script) number b (made.0).line (made.0).line_is there in
            upto (awaited_by g i) (awaited_by g (suc i)) b.height (has.b).height k (block_behind (alone g.script) g.number g.life i number has.b (is ∙ ap (λ (x : Event). Some x) of) reached has.there) has.same low
          where
            upto : (x y h l k : ℕ) → y ≡ max x (l + 1) → h ≡ l → (k ≤ x) ⊎ (k ≤ h + 1) → k ≤ y
            upto x y h l k behind same (inl low) = omega (arith, behind, low)
            upto x y h l k behind same (inr low) = omega (arith, behind, same, low)

        module _ (applied : judged_block c b st ≡ Applied) where
          pub taken : is_last_height c b.height ≡ true → IsTakenLast g.script g.number g.life i b
          taken last_one = record { accepted = accepted_by b Applied applied refl; above = above_by b applied; ends = sym (last_same b) ∙ last_one }

          -- the setup of the next epoch
          next_cause : (stored : OfShares) (devices : Option Held) (own : Fault) → IsPassingStop c stored b st devices own → IsNextCause g.script b own ⊎ OnCarried (Some b) (λ info. IsOwnCause g.script (epoch_behind g.script b) info own)
          unfolding at_step
          next_cause stored devices (fault.MissingEpochInfo height) why = inl why
          next_cause stored devices (fault.WrongEpoch expected got) why = inl (by_info (info_of b.payload) why.1)
            where
              by_info : (o : Option (EpochInfo directory.Unit)) → IsSomeAnd o (λ info. (got ≡ info.epoch) × (info.epoch ≡ epoch_behind g.script b → ⊥))
                  → IsSomeAnd o (λ info. IsInfoCause g.script (epoch_behind g.script b) info (fault.WrongEpoch expected got))
              by_info None none = absurd none
              by_info (Some info) its = (why.0, its.0, its.1)
          next_cause stored devices fault.HeightRange why =
              inl (subst (λ (o : Option (EpochInfo directory.Unit)). IsSomeAnd o (λ info. info.epoch ≡ epoch_behind g.script b)) (sym (why.0).carried) (why.0).of_next, why.1)
          next_cause stored devices own why = by_either (setup_cause g (suc i) (epoch_behind g.script b) on.info (share_read c on.info on.k) (seed_read c on.info on.k) (taken_over c b on.info on.share st) own why.1)
            where
              on : IsCarriedOn c stored b st devices
              on = why.0

              by_either : IsInfoCause g.script (epoch_behind g.script b) on.info own ⊎ IsOwnCause g.script (epoch_behind g.script b) on.info own
                  → IsNextCause g.script b own ⊎ OnCarried (Some b) (λ info. IsOwnCause g.script (epoch_behind g.script b) info own)
              by_either (inl its) = inl (of_info own its)
                where
                  of_info : (own : Fault) → IsInfoCause g.script (epoch_behind g.script b) on.info own → IsNextCause g.script b own
                  of_info (fault.WrongEpoch expected got) its =
                      subst (λ (o : Option (EpochInfo directory.Unit)). IsSomeAnd o (λ info. IsInfoCause g.script (epoch_behind g.script b) info (fault.WrongEpoch expected got))) (sym on.carried) its
                  of_info (fault.InvalidParticipants reason) its =
                      subst (λ (o : Option (EpochInfo directory.Unit)). IsSomeAnd o (λ info. IsInfoCause g.script (epoch_behind g.script b) info (fault.InvalidParticipants reason))) (sym on.carried) its
                  of_info other its = absurd its
              by_either (inr its) = inr (subst (λ (o : Option (EpochInfo directory.Unit)). IsSomeAnd o (λ info. IsOwnCause g.script (epoch_behind g.script b) info own)) (sym on.carried) its)

          last_cause : is_last_height c b.height ≡ true → (stored : OfShares) (devices : Option Held) (own : Fault) → IsPassingStop c stored b st devices own → Why own
          last_cause last_one stored devices own stop = by_either (next_cause stored devices own stop)
            where
              by_either : IsNextCause g.script b own ⊎ OnCarried (Some b) (λ info. IsOwnCause g.script (epoch_behind g.script b) info own) → Why own
              by_either (inl its) = inl (inr (taken last_one, inr its))
              by_either (inr its) = inr (inl (inl (taken last_one, inl its)))

          -- .. or the info that ends the epoch in which it includes
          module _ (includes : st.participation.stage ≡ Includes) where
            apart : st.participation.stage ≡ Follows → ⊥
            apart life_follows = includes_apart (sym includes ∙ life_follows)

            its_epoch : e ≡ epoch_of n b.height
            unfolding at_step
            its_epoch = sym (stands.epoch apart) ∙ (includes_above c b st live.stands applied includes).0

            ended_cause : is_last_height c b.height ≡ true → (own : Fault) → IsAskStop c st own → Why own
            ended_cause last_one own stop = by_either (asked_cause st refl refl apart own stop)
              where
                by_either : IsEither own → Why own
                by_either (inl provider) = inl (inr (taken last_one, inl (stands.parts apart, subst (λ (k : ℕ). IsProviderCause g.script k own) its_epoch provider)))
                by_either (inr asked) = inr (inl (inl (taken last_one, inr (stands.parts apart, subst (λ (k : ℕ). IsAskedOwn g.script g.life i k own) its_epoch asked))))

          deals_other : st.participation.stage ≡ Deals → (own : Fault) → IsDealingStop c st own → IsBlockOwn g.script g.number g.life i b own
          deals_other stage (fault.LocalState (local.OwnDealing number kept dealt)) why =
              let apart : st.participation.stage ≡ Follows → ⊥ = λ life_follows. deals_apart (sym stage ∙ life_follows) in
              let at : number ≡ epoch_by g i = why.of_round ∙ (live.stands).numbered why.round why.of_epoch ∙ stands.epoch apart in
              inr (accepted_by b Applied applied refl, (at, ap (life_follows (alone g.script) g.number g.life) at ∙ stands.parts apart, why.differs))
          deals_other stage own why = absurd why

          late_dealt : (st.participation.stage ≡ Follows → ⊥) → b.height + 1 ≡ midpoint c.blocks_per_epoch st.participation.epoch → midpoint n e ≤ b.height + 1
          unfolding at_step
          late_dealt apart at = no_more (midpoint n e) (b.height + 1) (at ∙ ap (midpoint n) (stands.epoch apart))
            where
              no_more : (x y : ℕ) → y ≡ x → x ≤ y
              no_more x y same = omega (arith, same)

          by_stage : AreMade g i st → (stored : OfShares) (devices : Option Held) (own : Fault) (stage : Stage) → st.participation.stage ≡ stage → IsAppliedStopThrough c stored b st devices stage own → Why own
          by_stage made stored devices own Deals stage (inl dealing) = inr (inl (deals_other stage own dealing))
          by_stage made stored devices own Deals stage (inr ask) = inr (inr (
            of_made reading apart (height_behind (midpoint n e) (inr (late_dealt apart ask.0))) (λ none. ask.1 none.1) made,
            asked_cause (given_itself c st) ((dealing.given_same c st).same).round ((dealing.given_same c st).same).current apart own ask.2,
          ))
            where
              apart : st.participation.stage ≡ Follows → ⊥
              apart life_follows = deals_apart (sym stage ∙ life_follows)
          by_stage made stored devices own Includes stage (inl (inl last_one, ask)) = ended_cause stage last_one own ask
          by_stage made stored devices own Includes stage (inl (inr some, ask)) = inr (inr (
            of_made reading (apart stage) (height_behind (midpoint n e) (inl (late_here stage))) (λ none. some none.1) made,
            asked_cause st refl refl (apart stage) own ask,
          ))
          by_stage made stored devices own Includes stage (inr (last_one, stop)) = last_cause last_one stored devices own stop
          by_stage made stored devices own Follows stage (last_one, stop) = last_cause last_one stored devices own stop
          by_stage made stored devices own Ends stage stop = absurd stop

        pub block_cause : AreMade g i st → (stored : OfShares) (devices : Option Held) (own : Fault) → IsStopThrough c stored st (Finalized b) devices own → Why own
        block_cause made stored devices own stop = by_judged (judged_block c b st) refl stop
          where
            by_judged : (j : Judged) → judged_block c b st ≡ j → IsBlockStopThrough c stored b st devices j own → Why own
            by_judged (Refusal refused) is why = inl (inl (sym (judged_so b) ∙ ap (refusal b) is ∙ ap (λ (f : Fault). Some f) (sym why)))
            by_judged Passed is why = absurd why
            by_judged Applied is why = by_stage is made stored devices own st.participation.stage refl why

    -- AND WHAT DOESN'T
    module _ (b : Block directory.Unit) (devices : Option Held) (end : Live directory.Unit) (left : Option Held)
        (next : IsBlockThrough (at_step g (suc i)) any_shares b st devices (judged_block (at_step g (suc i)) b st) end left) where
      abbrev the_step : Fixed directory.Unit
      the_step = at_step g (suc i)

      over_of : IsTakenLast g.script g.number g.life i b → IsPassedOn the_step any_shares b st devices end left
      over_of its = by_part (stage_of b its)
        where
          last_one : is_last_height the_step b.height ≡ true
          last_one = last_same b ∙ its.ends

          applied : IsAppliedThrough the_step any_shares b st devices st.participation.stage end left
          applied = subst (λ (j : Judged). IsBlockThrough the_step any_shares b st devices j end left) (new_of b its) next

          by_part : (st.participation.stage ≡ Follows) ⊎ (st.participation.stage ≡ Includes) → IsPassedOn the_step any_shares b st devices end left
          by_part (inl stage) =
              subst (λ (t : Bool). IsFollowedThrough the_step any_shares b st devices t end left) last_one (subst (λ (stage : Stage). IsAppliedThrough the_step any_shares b st devices stage end left) stage applied)
          by_part (inr stage) =
              subst (λ (t : Bool). IsIncludedThrough the_step any_shares b st devices t end left) last_one (subst (λ (stage : Stage). IsAppliedThrough the_step any_shares b st devices stage end left) stage applied)

      next_clear : IsPassedOn the_step any_shares b st devices end left → (own : Fault) → IsNextCause g.script b own → ⊥
      unfolding at_step
      next_clear over (fault.MissingEpochInfo height) why = none_some (over.on).info (sym why.1 ∙ (over.on).carried)
      next_clear over fault.HeightRange why = bools_apart (is_beyond g.script (b.height + 1)) why.1 over.in_range
      next_clear over own why = by_info (info_of b.payload) (over.on).carried why
        where
          by_info : (o : Option (EpochInfo directory.Unit)) → o ≡ Some (over.on).info → IsSomeAnd o (λ info. IsInfoCause g.script (epoch_behind g.script b) info own) → ⊥
          by_info None none why = absurd why
          by_info (Some info) there why =
              seated_clear g (suc i) (epoch_behind g.script b) WasCommitted (over.on).info (share_read the_step (over.on).info (over.on).k) (seed_read the_step (over.on).info (over.on).k)
              (unasked (taken_over the_step b (over.on).info (over.on).share st)) (unasked end) over.seated (sym (over.seated).of_epoch ∙ (over.on).of_next) own
              (subst (λ (x : EpochInfo directory.Unit). IsInfoCause g.script (epoch_behind g.script b) x own) (some_is there) why)

      -- the provider had the set that the artifact needs
      provider_clear : (info : EpochInfo directory.Unit) (own : Fault) → IsProvided the_step info → IsProviderCause g.script info.epoch own → ⊥
      unfolding at_step
      provider_clear info (fault.InvalidParticipants cause.ProviderEmpty) has why = none _ has.some why
        where
          none : (k : ℕ) → 1 ≤ k → k ≡ 0 → ⊥
          none k some is = omega (arith, some, is)
      provider_clear info (fault.InvalidParticipants (cause.ProviderAbove count most)) has why = over count most _ _ has.in_bound why.0 why.1 why.2
        where
          over : (count most k limit : ℕ) → k ≤ limit → count ≡ k → most ≡ limit → most < count → ⊥
          over count most k limit few one two high = omega (arith, few, one, two, high)
      provider_clear info own has why = absurd why

      ended_epoch : IsTakenLast g.script g.number g.life i b → st.participation.stage ≡ Includes → (round : Round) (info : EpochInfo directory.Unit) → st.participation.round ≡ Some round → st.participation.current ≡ Some info
          → info.epoch ≡ epoch_of n b.height
      unfolding at_step
      ended_epoch its stage round info of_round of_info =
          (subst (λ (o : Option (EpochInfo directory.Unit)). IsSomeAnd o (λ x. (x.epoch ≡ st.participation.epoch) × (validity the_step x ≡ Ok tt) × (round_for the_step st.participation.epoch x ≡ Ok round))) of_info (live.informed round of_round)).0
          ∙ (includes_above the_step b st live.stands (new_of b its) stage).0

      ended_clear : IsTakenLast g.script g.number g.life i b → IsPassedOn the_step any_shares b st devices end left → life_follows (alone g.script) g.number g.life (epoch_by g i) ≡ false → (own : Fault)
          → IsProviderCause g.script (epoch_of n b.height) own → ⊥
      ended_clear its over unfollowed own why = by_part (stage_of b its)
        where
          by_part : (st.participation.stage ≡ Follows) ⊎ (st.participation.stage ≡ Includes) → ⊥
          by_part (inl stage) = bools_apart (life_follows (alone g.script) g.number g.life (epoch_by g i)) (stands.blind stage) unfollowed
          by_part (inr stage) = provider_clear shared.1 own (shared.4.1).provided (subst (λ (k : ℕ). IsProviderCause g.script k own) (sym (ended_epoch its stage shared.0 shared.1 shared.2 shared.3)) why)
            where
              shared : IsShareTaken the_step any_shares st (over.on).h (over.on).info (over.on).share Includes
              shared = subst (λ (x : Stage). IsShareTaken the_step any_shares st (over.on).h (over.on).info (over.on).share x) stage (over.on).shared

      pub block_clear : (own : Fault) → IsBlockCause g.script g.number g.life i b own → ⊥
      block_clear own (inl refused) = by_judged (judged_block the_step b st) refl next
        where
          by_judged : (j : Judged) → judged_block the_step b st ≡ j → IsBlockThrough the_step any_shares b st devices j end left → ⊥
          by_judged (Refusal other) is none = none
          by_judged Passed is same = none_some own (sym (accepted_by b Passed is refl) ∙ refused)
          by_judged Applied is applied = none_some own (sym (accepted_by b Applied is refl) ∙ refused)
      block_clear own (inr (its, inl (unfollowed, provider))) = ended_clear its (over_of its) unfollowed own provider
      block_clear own (inr (its, inr why)) = next_clear (over_of its) own why
