-- What a life of a script records of dealers' logs, over devices that tell: the chain's first ones, and while it takes part in an epoch all of them up to its tip. So it stays from its opening
-- on, step by step.
use Rattle.std.proofs.Common.{◌≡◌, ◌⊎◌, inl, inr, ◌<◌, ◌≤◌, ◌+◌, ◌*◌, ◌-◌, ◌/◌, ◌==◌, ℕ, suc, Bool, true, false, nat_le, List, Option, Some, None, max, arith, refl, sym, ◌∙◌, ap, subst}
use Rattle.std.specs.Prelude.{nat_eq, nat_lt, is_some, slice_get, IfSome, IsSome, if◌then◌else◌}
use Rattle.std.specs.FinMap.{entries, get, get-entries}
use Rattle.std.specs.Option.{option_map_or}
use Rattle.std.proofs.lemmas.Bool.{and_parts, cases_lt}
use Rattle.std.proofs.lemmas.Bool.Decides.{nat_tests}
use Rattle.dkg_ceremony.specs.Schedule.{epoch_of, last, midpoint, phase_at}
use Rattle.dkg_ceremony.specs.declared.dealer_log.DealerLog.{DealerLog}
use Rattle.dkg_ceremony.specs.declared.phase.Phase.TheVariants.{Early, Midpoint, Late}
use Rattle.dkg_ceremony.specs.declared.round.RoundParts.{RoundParts as Round}
use Rattle.dkg_journal.specs.Names.{Files}
use Rattle.dkg_store.specs.Acts.{Held}
use Rattle.dkg_store.specs.Noted.{Notes}
use Rattle.dkg_store.specs.declared.recorded_log.RecordedLog.{RecordedLog}
use Rattle.dkg_types.specs.Blocks as made
use Rattle.dkg_infos.specs.Units.{unit_spelling}
use Rattle.dkg_infos.specs.declared.directory.Unit as directory
use Rattle.dkg_text.specs.declared.script.Event as script
use Rattle.dkg_text.specs.declared.script.Event.TheVariants as event
use Rattle.dkg_text.specs.declared.script.Life.{Life}
use Rattle.dkg_script.specs.Blocks.{ScriptBlock, numbered_block, chain, round_at}
use Rattle.dkg_script.specs.Epochs.{alone}
use Rattle.dkg_script.specs.History.{WasSeen}
use Rattle.dkg_script.specs.Position.{awaited_before, awaited_epoch, awaited_height_after, begun, begun_before, event_of_step, life_follows}
use Rattle.dkg_script.specs.Setting.{Setting, CutAt, blocks_per_epoch, found, is_oneshot, life_at}
use Rattle.dkg_script.specs.Views.{seen_block}
use Rattle.dkg_core.specs.Blocks.{is_early, is_in_window_in}
use Rattle.dkg_core.specs.Fixed.{Fixed}
use Rattle.dkg_core.specs.Forms.{Applied, Passed, judged_block}
use Rattle.dkg_core.specs.Endings.{stage_in}
use Rattle.dkg_core.specs.Live as core
use Rattle.dkg_core.specs.Live.{Deals, Follows, Finalized, Includes, Live, Stage, is_last_height, recorded_at}
use Rattle.dkg_core.specs.Logs.{recorded_log}
use Rattle.dkg_laws.specs.LogsRecorded.{IsNotedNow, IsRecordedNow}
use Rattle.dkg_core.specs.Seen.{Seen}
use Rattle.dkg_core.specs.Sources.{Tip}
use Rattle.dkg_core.specs.Through.{IsLiveThrough, unasked}
use Rattle.dkg_core.proofs.Heights.{epoch_to}
use Rattle.dkg_lives.specs.Epochs.{IsAtEvent, IsLifeInForm, StandsInScript, any_shares, epoch_by}
use Rattle.dkg_lives.specs.Given.{Lived, at_step, lived}
use Rattle.dkg_promises.specs.SharesStand.{IsWholePast}
use Rattle.dkg_along.proofs.Alone.{epoch_alike, follows_alike, height_alike}
use Rattle.dkg_lives.proofs.Awaiting.{IsReached, block_behind, comes_to}
use Rattle.dkg_along.proofs.AwaitedRises.{begun_rises, is_current}
use Rattle.dkg_lives.proofs.ChainLogs.{brings_of}
use Rattle.dkg_lives.proofs.Currently.{begun_more}
use Rattle.dkg_along.proofs.Drawn.{HasRoundOf}
use Rattle.dkg_lives.proofs.FirstLogs.{IsFirst, NoneIn, first_of}
use Rattle.dkg_lives.proofs.Former.{life_in, live_at}
use Rattle.dkg_lives.proofs.GrowingLogs.{HasBelow, IsAtIts, those_here}
use Rattle.dkg_lives.proofs.LogsBehind.{LogsBehind}
use Rattle.dkg_lives.proofs.NextLives.{applied_here, applied_high, applied_so, has_round, passed_so, with_round}
use Rattle.dkg_promises.proofs.NotedFirst.{AreNoted, HasThoseIn, IsCome, counts_within, has_more, has_none, noted_same}
use Rattle.dkg_along.proofs.ObservedLogs.{brings_accepted, looked_at}
use Rattle.dkg_along.proofs.Plays.{deals_early}
use Rattle.dkg_promises.proofs.ReadLogs.{IsEarly}
use Rattle.dkg_along.proofs.Used.{of_delivered}

abbrev U : Type 0
U = directory.Unit

some_is : {A : Type 0} {x y : A} → ◌≡◌ {A = Option A} (Some x) (Some y) → x ≡ y
some_is e = cc

none_some : {A : Type 0} {x : A} → ◌≡◌ {A = Option A} None (Some x) → ⊥
none_some e = cc

bools_apart : (t : Bool) → t ≡ true → t ≡ false → ⊥
bools_apart t x y = let wrong : true ≡ false = sym x ∙ y in cc

-- from the midpoint on a life that takes part includes
late_of : (middle height : ℕ) → middle ≤ height → stage_in (phase_at middle height) ≡ Includes
late_of middle height high =
    ap (λ (t : Bool). stage_in (if t then Early else (if nat_eq height middle then Midpoint else Late))) (above height middle high) ∙ by_test (nat_eq height middle)
  where
    above : (a b : ℕ) → b ≤ a → nat_lt a b ≡ false
    above a b high = grind (arith, nat_tests)

    by_test : (t : Bool) → stage_in (if t then Midpoint else Late) ≡ Includes
    by_test true = refl
    by_test false = refl

-- a life was delivered the block at this height by its first i events, while it took part in the epoch
pub record WasGiven (s : Setting) (l : ℕ) (life : Life) (i epoch height : ℕ) : Type 0 where
  pub step : ℕ
  pub upto : step ≤ i
  pub number : ℕ
  pub block : ScriptBlock
  pub is : event_of_step life step ≡ Some (event.Final number)
  pub block_is : numbered_block s number ≡ Some block
  pub height_is : block.height ≡ height
  pub awaited : awaited_epoch s l life (step - 1) ≡ epoch
  pub took_part : life_follows s l life epoch ≡ false

module _ (s : Setting) (ends : List (Option CutAt)) (l : ℕ) (life : Life) where
  -- .. or an earlier life was
  abbrev pub Saw : (i epoch height : ℕ) → Type 0
  Saw i epoch height = WasSeen s ends l epoch height ⊎ WasGiven s l life i epoch height

  -- WHAT IS RECORDED behind the first i events
  pub record IsRecording (cuts : List (Option CutAt)) (i : ℕ) (m : Notes RecordedLog) : Type 0 where
    pub noted : AreNoted s (begun s cuts l i) (Saw i) m
    pub below : life_follows s l life (awaited_epoch s l life i) ≡ false → (round : Round) → round_at s (awaited_epoch s l life i) ≡ Some round
        → HasBelow (brings_of s (awaited_epoch s l life i) round) (IsEarly s (awaited_epoch s l life i)) (λ d. get m (awaited_epoch s l life i, d)) (awaited_height_after s l life i)

-- before a life's first event earlier lives alone were given something
pub saw_first : (s : Setting) (ends : List (Option CutAt)) (l : ℕ) (life : Life) (epoch height : ℕ) → Saw s ends l life 0 epoch height → WasSeen s ends l epoch height
saw_first s ends l life epoch height (inl seen) = seen
saw_first s ends l life epoch height (inr given) = absurd (none_some (ap (event_of_step life) (sym (least given.step given.upto)) ∙ given.is))
  where
    least : (k : ℕ) → k ≤ 0 → k ≡ 0
    least k low = omega (arith, low)

module _ (s : Setting) (ends : List (Option CutAt)) (whole : IsWholePast s ends) (l : ℕ) (life : Life) (seen : Held → Seen) (files : Files) where
  abbrev g : Lived
  g = lived s.script l life seen files

  module _ (here : IsLifeInForm g) (none_found : found s l ≡ None) (cuts : List (Option CutAt)) (never_back : awaited_before s cuts l ≤ awaited_epoch s l life 0 + 1) where
    abbrev n : ℕ
    n = blocks_per_epoch s

    abbrev e : ℕ → ℕ
    e i = awaited_epoch s l life i

    abbrev h : ℕ → ℕ
    h i = awaited_height_after s l life i

    abbrev b : ℕ → ℕ
    b i = begun s cuts l i

    abbrev c : ℕ → Fixed U
    c i = at_step g i

    some : 1 ≤ n
    some = one n here.long
      where
        one : (n : ℕ) → 2 ≤ n → 1 ≤ n
        one n long = omega (arith, long)

    reshares : is_oneshot s ≡ false
    reshares = ap is_some here.form.reshares

    life_is : life_at s l ≡ Some life
    life_is = here.life_is

    no_sync : life.sync ≡ None
    no_sync = (life_in g here).no_sync

    pub come : (i : ℕ) → IsCome s (e i)
    come i = record { l = l; j = i; life = life; life_is = life_is; awaits = refl }

    rises : (i : ℕ) → b i ≤ b (suc i)
    rises i = begun_rises s reshares l life life_is cuts some never_back i

    pub current : (i : ℕ) → b i < e i + 2
    current i = is_current s reshares l life life_is cuts some never_back i

    -- AN OPENING

    -- what the lives before noted, where the life's opening leaves it
    pub opening_records : (m now : Notes RecordedLog) → AreNoted s (begun_before s cuts l) (WasSeen s ends l) m → ((key : ℕ × ℕ) → b 0 < key.0 + 2 → get now key ≡ get m key) → IsRecording s ends l life cuts 0 now
    opening_records m now noted same = record {
      noted = first;
      below = λ takes_part round known height low. by_order takes_part round known height low (cases_lt height (midpoint n (e 0)));
    }
      where
        first : AreNoted s (b 0) (Saw s ends l life 0) now
        first = noted_same s (begun_before s cuts l) (b 0) (WasSeen s ends l) (Saw s ends l life 0) m now (begun_more s reshares cuts l life 0 life_is) (saw_first s ends l life) same noted

        by_order : life_follows s l life (e 0) ≡ false → (round : Round) → round_at s (e 0) ≡ Some round → (height : ℕ) → height < h 0 → (height < midpoint n (e 0)) ⊎ (midpoint n (e 0) ≤ height)
            → HasThoseIn s (e 0) round now height
        by_order takes_part round known height low (inl early) = has_none s (e 0) round now height (inl early)
        by_order takes_part round known height low (inr late) = first.all (e 0) height round (current 0) known (inl (whole.missed l height life life_is takes_part late low))

    -- A STEP, from a state over devices that note this

    module _ (i : ℕ) (its : script.Event) (is : slice_get life.events i ≡ Some its) (reached : IsReached life.cut (suc i)) (st : Live U) (at : IsAtEvent g i st) (of_round : HasRoundOf s st) (m : Notes RecordedLog)
        (memory : st.records.logs ≡ entries m) (recording : IsRecording s ends l life cuts i m) where
      abbrev live : IsLiveThrough (c i) any_shares st
      live = at.live

      abbrev standing : StandsInScript g i st
      standing = at.stands

      in_memory : (epoch dealer : ℕ) → recorded_at st.records.logs epoch dealer ≡ get m (epoch, dealer)
      in_memory epoch dealer = ap (λ (ls : List ((ℕ × ℕ) × RecordedLog)). recorded_at ls epoch dealer) memory ∙ sym (get-entries m (epoch, dealer))

      -- WHERE IT STANDS

      epoch_is : e i ≡ epoch_by g i
      epoch_is = epoch_alike s l life no_sync none_found i

      pub stands_at : core.awaited_height st ≡ h i
      stands_at = standing.awaits ∙ sym (height_alike s l life no_sync none_found i)

      pub number_is : (round : Round) → st.participation.round ≡ Some round → round.number ≡ e i
      number_is round there = (live.stands).numbered round there ∙ standing.epoch (with_round (c i) (unasked st) round live.stands there) ∙ sym epoch_is

      pub round_is : (round : Round) → st.participation.round ≡ Some round → round_at s (e i) ≡ Some round
      round_is round there = ap (round_at s) (sym (number_is round there)) ∙ of_round round there

      -- it takes part where it has a round
      pub takes_part : (round : Round) → st.participation.round ≡ Some round → life_follows s l life (e i) ≡ false
      takes_part round there =
          follows_alike s l life no_sync none_found (e i) ∙ ap (life_follows (alone s.script) l life) epoch_is ∙ standing.parts (with_round (c i) (unasked st) round live.stands there)

      no_follower : life_follows s l life (e i) ≡ false → st.participation.stage ≡ Follows → ⊥
      no_follower part stage =
          bools_apart (life_follows s l life (e i)) (follows_alike s l life no_sync none_found (e i) ∙ ap (life_follows (alone s.script) l life) epoch_is ∙ standing.blind stage) part

      -- A MESSAGE notes none
      pub mail_records : (now : Notes RecordedLog) → h (suc i) ≡ h i → ((epoch height : ℕ) → WasGiven s l life (suc i) epoch height → WasGiven s l life i epoch height)
          → ((key : ℕ × ℕ) → b (suc i) < key.0 + 2 → get now key ≡ get m key) → IsRecording s ends l life cuts (suc i) now
      mail_records now same_height given_before same = record {
        noted = noted_same s (b i) (b (suc i)) (Saw s ends l life i) (Saw s ends l life (suc i)) m now (rises i) saw_before same recording.noted;
        below = λ part round known height low. has_more s (e (suc i)) round m now height (λ dealer. subst (λ (o : Option RecordedLog). IsSome o) (sym (same (e (suc i), dealer) (current (suc i)))))
            (subst (λ (x : ℕ). HasThoseIn s x round m height) (sym same_epoch)
            (recording.below (subst (λ (x : ℕ). life_follows s l life x ≡ false) same_epoch part) round (subst (λ (x : ℕ). round_at s x ≡ Some round) same_epoch known) height (subst (λ (x : ℕ). height < x) same_height low)));
      }
        where
          same_epoch : e (suc i) ≡ e i
          same_epoch = ap (epoch_of n) same_height

          saw_before : (epoch height : ℕ) → Saw s ends l life (suc i) epoch height → Saw s ends l life i epoch height
          saw_before epoch height (inl seen) = inl seen
          saw_before epoch height (inr given) = inr (given_before epoch height given)

      -- A BLOCK
      module _ (number : ℕ) (block : made.Block U) (its_is : slice_get life.events i ≡ Some (event.Final number)) (seen_there : numbered_block s number ≡ Some (seen_block unit_spelling block)) where
        abbrev C : Fixed U
        C = c (suc i)

        its_live : IsLiveThrough C any_shares st
        its_live = live_at g i (suc i) st at.live

        pub on_chain : chain s block.height ≡ Some (seen_block unit_spelling block)
        on_chain = subst (λ (o : Option ScriptBlock). IfSome o (λ x. chain s x.height ≡ Some x)) seen_there
            (of_delivered s l life (λ x. chain s x.height ≡ Some x) life_is (whole.consistent).one_chain i number (comes_to life.cut life.events i reached ∙ its_is))

        pub next_height : h (suc i) ≡ max (h i) (block.height + 1)
        next_height = block_behind s l life i number (seen_block unit_spelling block) its_is reached seen_there

        -- a round is there, where the life takes part
        its_round : life_follows s l life (e i) ≡ false → (round : Round) × (st.participation.round ≡ Some round)
        its_round part = has_round C (unasked st) its_live.stands (no_follower part)

        -- below the midpoint it deals
        deals : (round : Round) → st.participation.round ≡ Some round → h i < midpoint n (e i) → st.participation.stage ≡ Deals
        unfolding at_step
        deals round there low = deals_early C (unasked st) round its_live.stands there (subst (λ (x : ℕ). x < midpoint n (epoch_of n x)) (sym stands_at) low)

        pub includes : (round : Round) → st.participation.round ≡ Some round → midpoint n (e i) ≤ h i → st.participation.stage ≡ Includes
        unfolding at_step
        includes round there high =
            (its_live.stands).in_round round there ∙ late_of (midpoint n (epoch_of n (core.awaited_height st))) (core.awaited_height st) (subst (λ (x : ℕ). midpoint n (epoch_of n x) ≤ x) (sym stands_at) high)

        -- AN APPLIED ONE
        module _ (applied : judged_block C block st ≡ Applied) (round : Round) (there : st.participation.round ≡ Some round) where
          apart : st.participation.stage ≡ Follows → ⊥
          apart = with_round C (unasked st) round its_live.stands there

          pub its_epoch : epoch_of n block.height ≡ e i
          unfolding at_step
          its_epoch = applied_here C block (unasked st) its_live.stands (applied_so C block (unasked st) applied) apart ∙ ap (epoch_of n) stands_at

          -- it stands at the awaited height, or below the midpoint
          pub level : (block.height ≡ h i) ⊎ (block.height < midpoint n (e i))
          unfolding at_step
          level = by_tip st.tip refl
            where
              is_under : (t : Bool) (middle height : ℕ) → nat_lt height middle ≡ t → is_early (phase_at middle height) ≡ true → height < middle
              is_under true middle height e early = below middle height e
                where
                  below : (x y : ℕ) → nat_lt y x ≡ true → y < x
                  below x y e = grind (arith, nat_tests)
              is_under false middle height e early =
                  absurd (late (nat_eq height middle) (sym (ap (λ (t : Bool). is_early (if t then Early else (if nat_eq height middle then Midpoint else Late))) e) ∙ early))
                where
                  late : (t : Bool) → is_early (if t then Midpoint else Late) ≡ true → ⊥
                  late true e = let wrong : false ≡ true = e in cc
                  late false e = let wrong : false ≡ true = e in cc

              half_there : (x : ℕ) → 2 ≤ n → 0 < x + n / 2
              half_there x long = omega (arith, long)

              at_zero : st.tip ≡ None → core.awaited_height st ≡ 0
              at_zero none = ap (λ (o : Option Tip). option_map_or (λ (t : Tip). t.height + 1) o 0) none

              first_deals : st.tip ≡ None → st.participation.stage ≡ Deals
              first_deals none = deals round there (subst (λ (x : ℕ). x < midpoint n (epoch_of n x)) (sym (at_zero none) ∙ stands_at) (half_there (epoch_of n 0 * n) here.long))

              windowed : st.tip ≡ None → is_early (phase_at (midpoint n (epoch_of n block.height)) block.height) ≡ true
              windowed none =
                  (and_parts (epoch_of n block.height == st.participation.epoch) (is_early (phase_at (midpoint n (epoch_of n block.height)) block.height))
                  (subst (λ (x : Stage). is_in_window_in C block st x ≡ true) (first_deals none) ((applied_so C block st applied).anew none))).1

              by_tip : (o : Option Tip) → st.tip ≡ o → (block.height ≡ h i) ⊎ (block.height < midpoint n (e i))
              by_tip (Some t) tip = inl ((applied_so C block st applied).over t tip ∙ ap (λ (o : Option Tip). option_map_or (λ (x : Tip). x.height + 1) o 0) (sym tip) ∙ stands_at)
              by_tip None tip = inr (subst (λ (x : ℕ). block.height < midpoint n x) its_epoch
                  (is_under (nat_lt block.height (midpoint n (epoch_of n block.height))) (midpoint n (epoch_of n block.height)) block.height refl (windowed tip)))

          pub is_high : h i ≤ block.height
          is_high = subst (λ (x : ℕ). x ≤ block.height) stands_at (applied_high C block st applied)

          -- while including it lies from the midpoint on,
          pub late : st.participation.stage ≡ Includes → midpoint n (e i) ≤ block.height
          late stage = by_order (cases_lt block.height (midpoint n (e i)))
            where
              by_order : (block.height < midpoint n (e i)) ⊎ (midpoint n (e i) ≤ block.height) → midpoint n (e i) ≤ block.height
              by_order (inl low) = absurd (let wrong : ◌≡◌ {A = Stage} Deals Includes = sym (deals round there (let high = is_high in omega (arith, high, low))) ∙ stage in cc)
              by_order (inr high) = high

          -- .. and below the last one, unless it is that
          pub not_last : is_last_height C block.height ≡ false → block.height < last n (e i)
          unfolding at_step
          not_last before = less (e i * n) n block.height (subst (λ (x : ℕ). block.height < x * n + n) its_epoch (epoch_to n block.height some)) (other block.height (last n (e i)) (subst (λ (x : ℕ). (block.height == last n x) ≡ false) its_epoch before))
            where
              other : (x y : ℕ) → (x == y) ≡ false → x ≡ y → ⊥
              other x y test same = bools_apart (x == y) (grind (arith, nat_tests)) test

              less : (x n y : ℕ) → y < x + n → (y ≡ x + n - 1 → ⊥) → y < x + n - 1
              less x n y low apart = elim (cases_lt y (x + n - 1)) [
                | inl below ↦ below
                | inr high ↦ absurd (apart (omega (arith, low, high)))
              ]

          -- nothing counts between the awaited height and it
          pub gap : (height : ℕ) → h i ≤ height → height < block.height → height < midpoint n (e i)
          gap height high low = elim level [
            | inl same ↦ absurd (omega (arith, same, high, low))
            | inr early ↦ (omega (arith, early, low))
          ]

        -- A LOG THAT IT NOTES is its dealer's first
        module _ (key : ℕ × ℕ) (now : Option RecordedLog) (new : IsRecordedNow C st block key now) where
          abbrev r : Round
          r = new.round

          abbrev number_now : r.number ≡ e i
          number_now = number_is r new.of_epoch

          abbrev Brings : ℕ → Option (ℕ × DealerLog)
          Brings = brings_of s (e i) r

          brought : Brings block.height ≡ Some (new.log.dealer, new.log.log)
          brought = subst (λ (x : ℕ). brings_of s x r block.height ≡ Some (new.log.dealer, new.log.log)) number_now
              (brings_accepted s l life seen files (suc i) block r on_chain (subst (λ (x : ℕ). midpoint n x ≤ block.height) (sym number_now) (late new.applied r new.of_epoch new.includes))
              (subst (λ (x : ℕ). block.height < last n x) (sym number_now) (not_last new.applied r new.of_epoch new.below)) new.log new.carried new.accepted)

          none_noted : get m (e i, new.log.dealer) ≡ None
          none_noted = sym (in_memory (e i) new.log.dealer) ∙ subst (λ (x : ℕ). recorded_at st.records.logs x new.log.dealer ≡ None) number_now new.new

          none_before : NoneIn Brings new.log.dealer 0 block.height
          none_before lower other least below there =
              let its_first = first_of Brings new.log.dealer lower other there in
              let low : its_first.0 < block.height = (let under = its_first.2 in omega (arith, under, below)) in
              elim (cases_lt its_first.0 (h i)) [
                | inl before ↦ (
                    let some = recording.below (takes_part r new.of_epoch) r (round_is r new.of_epoch) its_first.0 before new.log.dealer its_first.1 its_first.3 in
                    let no : ◌≡◌ {A = Bool} false true = subst (λ (o : Option RecordedLog). IsSome o) none_noted some in
                    absurd cc
                    )
                | inr high ↦ (
                    let early = gap new.applied r new.of_epoch its_first.0 high low in
                    let counted = (counts_within s (e i) r its_first.0 new.log.dealer its_first.1 (its_first.3).here).0 in
                    absurd (omega (arith, early, counted))
                    )
              ]

          pub noted_first : IsFirst Brings new.log.dealer block.height new.log.log
          noted_first = record { here = brought; first = none_before }

        -- WHEREVER THE STEP ENDS
        module _ (now : Notes RecordedLog) (noted_now : (key : ℕ × ℕ) → b (suc i) < key.0 + 2 → IsNotedNow C st (Finalized block) key (get m key) (get now key)) where
          some_stays : (key : ℕ × ℕ) → b (suc i) < key.0 + 2 → IsSome (get m key) → IsSome (get now key)
          some_stays key left some = elim (noted_now key left) [
            | inl same ↦ subst (λ (o : Option RecordedLog). IsSome o) (sym same) some
            | inr new ↦ subst (λ (o : Option RecordedLog). IsSome o) (sym new.is) refl
          ]

          earlier : (epoch : ℕ) → b (suc i) < epoch + 2 → b i < epoch + 2
          earlier epoch left = let up = rises i in omega (arith, up, left)

          sound_new : (epoch : ℕ) (round : Round) → round_at s epoch ≡ Some round → (dealer : ℕ) (noted : RecordedLog) → get now (epoch, dealer) ≡ Some noted → IsRecordedNow C st block (epoch, dealer) (get now (epoch, dealer))
              → (height : ℕ) × IsFirst (brings_of s epoch round) dealer height noted.log × IsAtIts (brings_of s epoch round) (IsEarly s epoch) noted.height height
          sound_new epoch round known dealer noted there new =
              let same_noted : recorded_log block.height new.log.log ≡ noted = some_is (sym new.is ∙ there) in
              let same_epoch : e i ≡ epoch = sym (ap (λ (k : ℕ × ℕ). k.0) new.at ∙ number_is new.round new.of_epoch) in
              let same_dealer : new.log.dealer ≡ dealer = sym (ap (λ (k : ℕ × ℕ). k.1) new.at) in
              let same_round : new.round ≡ round = some_is (sym (round_is new.round new.of_epoch) ∙ ap (round_at s) same_epoch ∙ known) in
              subst (λ (x : ℕ). So x round dealer noted) same_epoch
              (subst (λ (x : Round). So (e i) x dealer noted) same_round
              (subst (λ (x : ℕ). So (e i) new.round x noted) same_dealer
              (subst (λ (x : RecordedLog). So (e i) new.round new.log.dealer x) same_noted (block.height, noted_first (epoch, dealer) (get now (epoch, dealer)) new, refl))))
            where
              So : (epoch : ℕ) → Round → (dealer : ℕ) → RecordedLog → Type 0
              So epoch round dealer noted = (height : ℕ) × IsFirst (brings_of s epoch round) dealer height noted.log × IsAtIts (brings_of s epoch round) (IsEarly s epoch) noted.height height

          pub block_notes : AreNoted s (b (suc i)) (Saw s ends l life i) now
          block_notes = record {
            sound = λ epoch round left come known dealer noted there. elim (noted_now (epoch, dealer) left) [
              | inl same ↦ ((recording.noted).sound epoch round (earlier epoch left) come known dealer noted (sym same ∙ there))
              | inr new ↦ (sound_new epoch round known dealer noted there new)
            ];
            all = λ epoch height round left known saw.
                has_more s epoch round m now height (λ dealer. some_stays (epoch, dealer) left) ((recording.noted).all epoch height round (earlier epoch left) known saw);
          }

          -- WHERE IT IS COMPLETED
          module _ (end : Live U) (behind : LogsBehind C st (Finalized block) end) (end_memory : end.records.logs ≡ entries now) (judged : (judged_block C block st ≡ Passed) ⊎ (judged_block C block st ≡ Applied)) where
            -- what it brings is there
            its_here : life_follows s l life (e i) ≡ false → b (suc i) < e i + 2 → (round : Round) → round_at s (e i) ≡ Some round → HasThoseIn s (e i) round now block.height
            unfolding at_step
            its_here part left round known = by_order (cases_lt block.height (midpoint n (e i))) (cases_lt block.height (last n (e i)))
              where
                own : (x : Round) × (st.participation.round ≡ Some x)
                own = its_round part

                same_round : own.0 ≡ round
                same_round = some_is (sym (round_is own.0 own.1) ∙ known)

                there : st.participation.round ≡ Some round
                there = own.1 ∙ ap (λ (x : Round). Some x) same_round

                passed : judged_block C block st ≡ Passed → HasThoseIn s (e i) round now block.height
                passed judged =
                    let so = passed_so C block st judged in
                    let low : block.height < h i = under block.height so.0.height (h i) so.2 (sym (ap (λ (o : Option Tip). option_map_or (λ (x : Tip). x.height + 1) o 0) so.1) ∙ stands_at) in
                    has_more s (e i) round m now block.height (λ dealer. some_stays (e i, dealer) left) (recording.below part round known block.height low)
                  where
                    under : (x y z : ℕ) → nat_le x y ≡ true → y + 1 ≡ z → x < z
                    under x y z test is = let low : x ≤ y = grind (arith, nat_tests) in omega (arith, low, is)

                applied_so_far : midpoint n (e i) ≤ block.height → block.height < last n (e i) → (applied : judged_block C block st ≡ Applied) → LogsBehind C st (Finalized block) end → HasThoseIn s (e i) round now block.height
                applied_so_far late below applied (inl none) = absurd (none.never applied (includes round there (level_high (level applied round there))))
                  where
                    level_high : (block.height ≡ h i) ⊎ (block.height < midpoint n (e i)) → midpoint n (e i) ≤ h i
                    level_high (inl same) = subst (λ (x : ℕ). midpoint n (e i) ≤ x) same late
                    level_high (inr low) = absurd (omega (arith, low, late))
                applied_so_far late below applied (inr (inl seen_it)) =
                    let its_same : seen_it.round ≡ round = some_is (sym seen_it.of_epoch ∙ there) in
                    let number_now : round.number ≡ e i = number_is round there in
                    subst (λ (x : ℕ). HasThoseIn s x round now block.height) number_now
                    (λ dealer log first. subst (λ (o : Option RecordedLog). IsSome o) (ap (λ (ls : List ((ℕ × ℕ) × RecordedLog)). recorded_at ls round.number dealer) end_memory ∙ sym (get-entries now (round.number, dealer)))
                    (those_here (brings_of s round.number round) (IsEarly s round.number) (λ d. recorded_at st.records.logs round.number d) (λ d. recorded_at end.records.logs round.number d) block.height
                    (looked_at s l life seen files (suc i) block round on_chain (subst (λ (x : ℕ). midpoint n x ≤ block.height) (sym number_now) late) (subst (λ (x : ℕ). block.height < last n x) (sym number_now) below) st end seen_it its_same
                    (IsEarly s round.number)) dealer log first))
                applied_so_far late below applied (inr (inr passed_on)) = absurd (at_last (its_epoch applied round there))
                  where
                    at_last : epoch_of n block.height ≡ e i → ⊥
                    at_last of = let is : block.height ≡ last n (e i) = equal block.height (last n (e i)) (subst (λ (x : ℕ). (block.height == last n x) ≡ true) of passed_on.last) in omega (arith, is, below)
                      where
                        equal : (x y : ℕ) → (x == y) ≡ true → x ≡ y
                        equal x y test = grind (arith, nat_tests)

                by_judged : midpoint n (e i) ≤ block.height → block.height < last n (e i) → (judged_block C block st ≡ Passed) ⊎ (judged_block C block st ≡ Applied) → HasThoseIn s (e i) round now block.height
                by_judged late below (inl is) = passed is
                by_judged late below (inr is) = applied_so_far late below is behind

                by_order : (block.height < midpoint n (e i)) ⊎ (midpoint n (e i) ≤ block.height) → (block.height < last n (e i)) ⊎ (last n (e i) ≤ block.height) → HasThoseIn s (e i) round now block.height
                by_order (inl low) _ = has_none s (e i) round now block.height (inl low)
                by_order (inr late) (inl below) = by_judged late below judged
                by_order (inr late) (inr high) = has_none s (e i) round now block.height (inr high)

            saw_all : (epoch height : ℕ) (round : Round) → b (suc i) < epoch + 2 → round_at s epoch ≡ Some round → Saw s ends l life (suc i) epoch height → HasThoseIn s epoch round now height
            saw_all epoch height round left known (inl seen) = block_notes.all epoch height round left known (inl seen)
            saw_all epoch height round left known (inr given) = by_step (cases_lt given.step (suc i))
              where
                last_one : given.step ≡ suc i → HasThoseIn s epoch round now height
                last_one of =
                    let number_at : ◌≡◌ {A = Option script.Event} (Some (event.Final number)) (Some (event.Final given.number)) = sym its_is ∙ ap (event_of_step life) (sym of) ∙ given.is in
                    let same_block : given.block ≡ seen_block unit_spelling block = some_is (sym given.block_is ∙ ap (numbered_block s) (sym (the_number number_at)) ∙ seen_there) in
                    let same_height : block.height ≡ height = sym (ap (λ (x : ScriptBlock). x.height) same_block) ∙ given.height_is in
                    let same_epoch : e i ≡ epoch = ap (λ (x : ℕ). awaited_epoch s l life x) (sym back) ∙ ap (λ (x : ℕ). awaited_epoch s l life (x - 1)) (sym of) ∙ given.awaited in
                    subst (λ (x : ℕ). HasThoseIn s epoch round now x) same_height
                    (subst (λ (x : ℕ). HasThoseIn s x round now block.height) same_epoch
                    (its_here (subst (λ (x : ℕ). life_follows s l life x ≡ false) (sym same_epoch) given.took_part) (subst (λ (x : ℕ). b (suc i) < x + 2) (sym same_epoch) left) round
                    (subst (λ (x : ℕ). round_at s x ≡ Some round) (sym same_epoch) known)))
                  where
                    back : suc i - 1 ≡ i
                    back = omega arith

                    the_number : {x y : ℕ} → ◌≡◌ {A = Option script.Event} (Some (event.Final x)) (Some (event.Final y)) → x ≡ y
                    the_number e = cc

                by_step : (given.step < suc i) ⊎ (suc i ≤ given.step) → HasThoseIn s epoch round now height
                by_step (inl before) = block_notes.all epoch height round left known (inr (record {
                  step = given.step;
                  upto = omega (arith, before);
                  number = given.number;
                  block = given.block;
                  is = given.is;
                  block_is = given.block_is;
                  height_is = given.height_is;
                  awaited = given.awaited;
                  took_part = given.took_part;
                }))
                by_step (inr at_least) = last_one (let most = given.upto in omega (arith, at_least, most))

            -- below the awaited height, in the same epoch or at the first height of another
            below_next : (part : life_follows s l life (e (suc i)) ≡ false) → (e (suc i) ≡ e i) ⊎ (h (suc i) ≤ midpoint n (e (suc i))) → (round : Round) → round_at s (e (suc i)) ≡ Some round → (height : ℕ) → height < h (suc i)
                → HasThoseIn s (e (suc i)) round now height
            below_next part (inr first) round known height low = has_none s (e (suc i)) round now height (inl (omega (arith, first, low)))
            below_next part (inl same) round known height low =
                subst (λ (x : ℕ). HasThoseIn s x round now height) (sym same)
                (by_order (subst (λ (x : ℕ). life_follows s l life x ≡ false) same part) (subst (λ (x : ℕ). b (suc i) < x + 2) same (current (suc i))) (subst (λ (x : ℕ). round_at s x ≡ Some round) same known) (cases_lt height (h i)))
              where
                by_order : life_follows s l life (e i) ≡ false → b (suc i) < e i + 2 → round_at s (e i) ≡ Some round → (height < h i) ⊎ (h i ≤ height) → HasThoseIn s (e i) round now height
                by_order part left known (inl before) = has_more s (e i) round m now height (λ dealer. some_stays (e i, dealer) left) (recording.below part round known height before)
                by_order part left known (inr high) = by_height (cases_lt height block.height)
                  where
                    own : (x : Round) × (st.participation.round ≡ Some x)
                    own = its_round part

                    upto : height ≤ block.height
                    upto = let more = next_height in omega (arith, more, low, high)

                    between : height < block.height → (judged_block C block st ≡ Passed) ⊎ (judged_block C block st ≡ Applied) → HasThoseIn s (e i) round now height
                    between under (inl passed) =
                        let so = passed_so C block st passed in
                        let tip_at : so.0.height + 1 ≡ h i = sym (ap (λ (o : Option Tip). option_map_or (λ (x : Tip). x.height + 1) o 0) so.1) ∙ stands_at in
                        absurd (beneath block.height so.0.height so.2 (h i) height tip_at high under)
                      where
                        beneath : (x y : ℕ) → nat_le x y ≡ true → (z k : ℕ) → y + 1 ≡ z → z ≤ k → k < x → ⊥
                        beneath x y test z k is one two = let low : x ≤ y = grind (arith, nat_tests) in omega (arith, low, is, one, two)
                    between under (inr applied) = has_none s (e i) round now height (inl (gap applied own.0 own.1 height high under))

                    by_height : (height < block.height) ⊎ (block.height ≤ height) → HasThoseIn s (e i) round now height
                    by_height (inl under) = between under judged
                    by_height (inr at) = subst (λ (x : ℕ). HasThoseIn s (e i) round now x) (let most = upto in omega (arith, at, most)) (its_here part left round known)

            pub block_records : (life_follows s l life (e (suc i)) ≡ false → (e (suc i) ≡ e i) ⊎ (h (suc i) ≤ midpoint n (e (suc i)))) → IsRecording s ends l life cuts (suc i) now
            block_records goes = record {
              noted = record { sound = block_notes.sound; all = saw_all };
              below = λ part round known height low. below_next part (goes part) round known height low;
            }
