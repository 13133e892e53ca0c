-- Where a last block commits the epoch behind one that its life takes part in, the share stands exactly: behind a success where the node plays, and behind a failure where it held one; and nowhere behind a block that carries another info.
use Rattle.std.proofs.Common.{◌≡◌, ◌⊎◌, ℕ, Bool, true, false, suc, ◌+◌, ◌-◌, ◌*◌, ◌/◌, ◌<◌, ◌≤◌, List, [], ◌∷◌, Option, Some, None, refl, sym, ◌∙◌, ap, subst, arith, filter, lit<, map}
use Rattle.std.proofs.Math.Nat.{div-lt_self, lt-div-mul-add}
use Rattle.std.specs.Prelude.{slice_get, ◌&&◌, ◌||◌, ◌↔◌, IsSome, IsSomeAnd, Ok, is_some, not, if◌then◌else◌, option_map}
use Rattle.std.specs.FinMap.{entries as pairs_in, get}
use Rattle.std.specs.List.{AllByRecursion, list_any}
use Rattle.std.specs.Option.{option_map_or}
use Rattle.std.proofs.lemmas.Bool.{and_parts}
use Rattle.dkg_values.specs.IndexLaws.{Contains-index_of}
use Rattle.dkg_values.specs.Rising.{lookup, index_of}
use Rattle.dkg_values.specs.RisingLaws.{has_key-from}
use Rattle.dkg_ceremony.specs.Finishes.{has_public}
use Rattle.dkg_ceremony.specs.Outcomes.{LogMap, outcome_of}
use Rattle.dkg_ceremony.specs.PartialPublics.{partial_public_of, share_public_of}
use Rattle.dkg_ceremony.specs.Polynomials.{value_at}
use Rattle.dkg_ceremony.specs.Schedule.{epoch_of, last, midpoint}
use Rattle.dkg_ceremony.specs.declared.dealer_log.DealerLog.{DealerLog}
use Rattle.dkg_ceremony.specs.declared.output.Output.{Output}
use Rattle.dkg_ceremony.specs.declared.round.RoundParts.{RoundParts as Round}
use Rattle.dkg_journal.specs.Names.{Files}
use Rattle.dkg_types.specs.BlockCodes.{info_of}
use Rattle.dkg_types.specs.Blocks as made
use Rattle.dkg_infos.specs.NextInfos.{Provided, info_by, next_info}
use Rattle.dkg_infos.specs.Units.{unit_spelling}
use Rattle.dkg_infos.specs.declared.directory.Unit as directory
use Rattle.dkg_infos.specs.declared.entry.Entry.{Entry}
use Rattle.dkg_infos.specs.declared.entry.Part.{Part}
use Rattle.dkg_infos.specs.declared.info.EpochInfo.{EpochInfo}
use Rattle.dkg_infos.specs.declared.outcome.EpochOutcome.{EpochOutcome}
use Rattle.dkg_infos.specs.declared.outcome.EpochOutcome.TheVariants.{Success, Failure}
use Rattle.dkg_text.specs.declared.script.Event as script
use Rattle.dkg_text.specs.declared.script.Event.TheVariants as event
use Rattle.dkg_text.specs.declared.script.Life.{Life}
use Rattle.dkg_script.specs.Blocks.{ScriptBlock, chain, known_info, round_at, used}
use Rattle.dkg_script.specs.Consistent.{IsConsistentScript}
use Rattle.dkg_script.specs.Epochs.{alone}
use Rattle.dkg_script.specs.History.{CarriesNext, chain_logs}
use Rattle.dkg_script.specs.Inclusion.{IsFormOfInclusion}
use Rattle.dkg_script.specs.Position.{awaited_before, awaited_epoch, begun, life_follows}
use Rattle.dkg_script.specs.Progress.{progress}
use Rattle.dkg_script.specs.Readings.{Info, with_spelled}
use Rattle.dkg_script.specs.Setting.{CutAt, Setting, blocks_per_epoch, is_oneshot, life_at, me}
use Rattle.dkg_script.specs.Views.{seen_block, seen_provided}
use Rattle.dkg_store.specs.Acts.{Held, World, notes}
use Rattle.dkg_store.specs.Noted.{logs_in}
use Rattle.dkg_store.specs.Recorded.{bare_logs, is_reached}
use Rattle.dkg_store.specs.declared.recorded_log.RecordedLog.{RecordedLog}
use Rattle.dkg_core.specs.Asked.{IsArtifactIn, OfShares}
use Rattle.dkg_core.specs.Blocks.{share_for}
use Rattle.dkg_core.specs.Endings.{validity}
use Rattle.dkg_core.specs.Fixed.{Fixed, has}
use Rattle.dkg_core.specs.Forms.{Applied, judged_block, round_for}
use Rattle.dkg_core.specs.Heard.{recovered_in}
use Rattle.dkg_core.specs.Including.{can_finish}
use Rattle.dkg_core.specs.Live.{Artifact, Deals, Ends, Follows, Includes, Live, Plays, Stage, awaited_height, records_of_epoch}
use Rattle.dkg_core.specs.Logs.{canonical, logs_of}
use Rattle.dkg_core.specs.Same.{same_info}
use Rattle.dkg_core.specs.Seen.{Seen}
use Rattle.dkg_core.specs.Setup.{is_lost}
use Rattle.dkg_core.specs.Sources.{Tip}
use Rattle.dkg_core.specs.Stepping.{next_epoch}
use Rattle.dkg_core.specs.Storing.{ReadsSecrets}
use Rattle.dkg_core.specs.Through.{IsLiveThrough, IsShareTaken, unasked}
use Rattle.dkg_core.proofs.Heights.{epoch_is}
use Rattle.dkg_core.proofs.Same.{infos_agree, infos_are_one}
use Rattle.dkg_lives.specs.Epochs.{IsLifeInForm, any_shares}
use Rattle.dkg_lives.specs.Given.{AreBytes, Lived, at_step, blocks_in, lived, provided_by}
use Rattle.dkg_promises.specs.SharesStand.{HeldShare, StandsBy, WasCutInto, PartPlays}
use Rattle.dkg_lives.specs.Ways.{by_worlds}
use Rattle.dkg_along.proofs.Alone.{epoch_alike, follows_alike}
use Rattle.dkg_lives.proofs.Awaiting.{IsReached}
use Rattle.dkg_along.proofs.AwaitedRises.{is_current}
use Rattle.dkg_along.proofs.CommitsOver.{IsTakenShare}
use Rattle.dkg_along.proofs.DealerKeys.{keys}
use Rattle.dkg_promises.proofs.ExactSteps.{ExactHere, SomeAt}
use Rattle.dkg_lives.proofs.Former.{life_in, live_through}
use Rattle.dkg_promises.proofs.LastLogs.{canonical_chain}
use Rattle.dkg_along.proofs.LifeSteps.{IsGoing, IsLifeOfSetting}
use Rattle.dkg_along.proofs.EntryLives.{come}
use Rattle.dkg_along.proofs.MarksAt.{gives_recorded, lacks_none}
use Rattle.dkg_lives.proofs.NextLives.{applied_so}
use Rattle.dkg_along.proofs.Plays.{deals_early}
use Rattle.dkg_promises.proofs.ReadLogs.{IsRecordedTo}
use Rattle.dkg_promises.proofs.SetUps.{set_up_last}
use Rattle.dkg_promises.proofs.SharesKnown.{IsScripts, last_known}
use Rattle.dkg_along.proofs.Used.{in_chain}

abbrev U : Type 0
U = directory.Unit

some_is : {A : Type 0} {x y : A} → ◌≡◌ {A = Option A} (Some x) (Some y) → x ≡ y
some_is e = cc

none_some : {A : Type 0} {x : A} → ◌≡◌ {A = Option A} None (Some x) → ⊥
none_some e = cc

-- what is there is some
pub there_some : {A : Type 0} (o : Option A) → IsSome o → (a : A) × (o ≡ Some a)
there_some None some = absurd (let wrong : false ≡ true = some in cc)
there_some (Some a) some = (a, refl)

all_so : {A : Type 0} (xs : List A) → AllByRecursion (λ x. Unit {0}) xs
all_so [] = tt
all_so (x ∷ xs) = (tt, all_so xs)

-- a block of the chain stands at its height
pub placed : (s : Setting) (height : ℕ) (b : ScriptBlock) → chain s height ≡ Some b → b.height ≡ height
placed s height b is = (in_chain s (λ x. Unit {0}) height b (all_so (used s)) is).1

-- one that has an index
player_of : (output : Output) (player x : ℕ) → partial_public_of output player ≡ Some x → has output.players player ≡ true
unfolding partial_public_of
player_of output player x is = by_index (index_of player output.players) is
  where
    by_index : (o : Option ℕ) → option_map (λ index. value_at output.sharing.poly (index + 1)) o ≡ Some x → is_some o ≡ true
    by_index None none = absurd (none_some none)
    by_index (Some index) got = refl

neither : (a b : Bool) → (a || b) ≡ false → (a ≡ false) × (b ≡ false)
neither false b e = (refl, e)
neither true b e = absurd (let wrong : true ≡ false = e in cc)

-- what none of some passes, none of fewer does
any_fewer : {A B : Type 0} (test : B → Bool) (f : A → B) (keep : A → Bool) (xs : List A) → list_any test (map f xs) ≡ false → list_any test (map f (filter keep xs)) ≡ false
any_fewer test f keep [] none = refl
any_fewer test f keep (x ∷ xs) none = let parts = neither (test (f x)) (list_any test (map f xs)) none in by_test parts.0 (any_fewer test f keep xs parts.1) (keep x)
  where
    by_test : test (f x) ≡ false → list_any test (map f (filter keep xs)) ≡ false → (t : Bool) → list_any test (map f (if t then x ∷ filter keep xs else filter keep xs)) ≡ false
    by_test here rest true = rw here rest
    by_test here rest false = rest

-- THE INFO BEHIND ONE, as a script sees it
module _ (provided : Provided U) (current : EpochInfo U) (round : Round) (logs : LogMap) where
  spelled_next : with_spelled unit_spelling (next_info outcome_of provided current round logs) ≡ next_info outcome_of (seen_provided unit_spelling provided) (with_spelled unit_spelling current) round logs
  unfolding next_info
  spelled_next = by_outcome (outcome_of round logs)
    where
      by_outcome : (o : Option Output) → with_spelled unit_spelling (info_by provided current o) ≡ info_by (seen_provided unit_spelling provided) (with_spelled unit_spelling current) o
      by_outcome None = refl
      by_outcome (Some output) = refl

  -- by what the logs make
  next_outcome : (o : Option Output) → outcome_of round logs ≡ o → (next_info outcome_of (seen_provided unit_spelling provided) (with_spelled unit_spelling current) round logs).outcome ≡ (if is_some o then Success else Failure)
  unfolding next_info
  next_outcome o is = ap (λ (x : Option Output). (info_by (seen_provided unit_spelling provided) (with_spelled unit_spelling current) x).outcome) is ∙ by_it o
    where
      by_it : (x : Option Output) → (info_by (seen_provided unit_spelling provided) (with_spelled unit_spelling current) x).outcome ≡ (if is_some x then Success else Failure)
      by_it None = refl
      by_it (Some output) = refl

module _ (s : Setting) (ends : List (Option CutAt)) (form : IsFormOfInclusion s.script) (bytes : AreBytes s.script.blocks) (reshares : is_oneshot s ≡ false) (consistent : IsConsistentScript s ends)
    (secrets : (seen : Held → Seen) → by_worlds.reads seen → ReadsSecrets seen)
    (l : ℕ) (life : Life) (seen : Held → Seen) (files : Files) (life_is : life_at s l ≡ Some life) (reads : by_worlds.reads seen) (here : IsLifeInForm (lived s.script l life seen files)) (its_meant : IsLifeOfSetting s ends (lived s.script l life seen files))
    (cuts : List (Option CutAt)) (back : awaited_before s cuts l ≤ awaited_epoch s l life 0 + 1)
    (marks : Type 0) (i : ℕ) (its : script.Event) (is : slice_get life.events i ≡ Some its) (reached : IsReached life.cut (suc i)) (st : Live U) (w : World) (before : List Entry)
    (going : IsGoing s ends l life seen files here its_meant cuts back marks i st w.held (come s before))
    (also : ExactHere s ends form reshares consistent secrets l life seen files life_is reads here its_meant cuts back i st w before)
    (number : ℕ) (of : its ≡ event.Final number) (block : made.Block U) (block_is : slice_get (blocks_in s.script) number ≡ Some block) where
  abbrev g : Lived
  g = lived s.script l life seen files

  abbrev n : ℕ
  n = blocks_per_epoch s

  abbrev e : ℕ
  e = awaited_epoch s l life i

  abbrev C : Fixed U
  C = at_step g (suc i)

  abbrev held : Bool
  held = is_some (get w.held.secrets.shares e)

  abbrev Stored : OfShares
  Stored = SomeAt e held

  abbrev Said : Provided (List ℕ)
  Said = seen_provided unit_spelling (provided_by s.script)

  -- the block carries what the chain's logs make
  abbrev pub Honest : Type 0
  Honest = CarriesNext s Said (seen_block unit_spelling block)

  blocks_are : C.blocks_per_epoch ≡ n
  unfolding at_step
  blocks_are = refl

  me_is : C.me ≡ me s
  unfolding at_step
  me_is = refl

  its_live : IsLiveThrough C any_shares st
  its_live = live_through g any_shares i (suc i) st going.at.live

  some : 1 ≤ n
  some = one n here.long
    where
      one : (k : ℕ) → 2 ≤ k → 1 ≤ k
      one k long = omega (arith, long)

  now : begun s cuts l i < e + 2
  now = is_current s reshares l life life_is cuts some back i

  -- TAKING PART
  module _ (part : life_follows s l life e ≡ false) (applied : judged_block C block st ≡ Applied) (delivers : block.height ≡ last n e)
      (recorded : (round : Round) → st.participation.round ≡ Some round → IsRecordedTo s e round st) where
    apart : st.participation.stage ≡ Follows → ⊥
    apart stage =
        let late : life_follows s l life e ≡ true = follows_alike s l life (life_in g here).no_sync its_meant.none_found e
        ∙ ap (life_follows (alone s.script) l life) (epoch_alike s l life (life_in g here).no_sync its_meant.none_found i) ∙ going.at.stands.blind stage in
        let wrong : false ≡ true = sym part ∙ late in cc

    epoch_here : st.participation.epoch ≡ e
    epoch_here = going.at.stands.epoch apart ∙ sym (epoch_alike s l life (life_in g here).no_sync its_meant.none_found i)

    module _ (round : Round) (there : st.participation.round ≡ Some round) (includes : st.participation.stage ≡ Includes) where
      number_is : round.number ≡ e
      number_is = its_live.stands.numbered round there ∙ epoch_here

      round_is : round_at s e ≡ Some round
      round_is = ap (round_at s) (sym number_is) ∙ going.of_round round there

      -- THE CHAIN'S LOGS are what counts
      logs_are : canonical C st ≡ chain_logs s round e
      logs_are = by_tip st.tip refl
        where
          lowest : (k half h : ℕ) → h < half * 2 + 2 → 2 ≤ k → h ≡ k → 0 < 0 * k + half
          lowest k half h over long same = omega (arith, over, long, same)

          early : st.tip ≡ None → awaited_height (unasked st) < midpoint C.blocks_per_epoch (epoch_of C.blocks_per_epoch (awaited_height (unasked st)))
          early none = subst (λ (o : Option Tip). option_map_or (λ t. t.height + 1) o 0 < midpoint C.blocks_per_epoch (epoch_of C.blocks_per_epoch (option_map_or (λ t. t.height + 1) o 0))) (sym none)
              (subst (λ (k : ℕ). 0 < midpoint k (epoch_of k 0)) (sym blocks_are)
              (subst (λ (x : ℕ). 0 < midpoint n x) (sym (epoch_is n 0 0 (zero_low n) (zero_high n some))) (lowest n (n / 2) n (lt-div-mul-add {a = n} {b = 2} (lit< tt)) here.long refl)))
            where
              zero_low : (k : ℕ) → 0 * k ≤ 0
              zero_low k = omega arith

              zero_high : (k : ℕ) → 1 ≤ k → 0 < 0 * k + k
              zero_high k some = omega (arith, some)

          half_low : (m half k : ℕ) → half < k → m + half ≤ m + k - 1
          half_low m half k low = omega (arith, low)

          by_tip : (o : Option Tip) → st.tip ≡ o → canonical C st ≡ chain_logs s round e
          by_tip None none = absurd (
              let deals : st.participation.stage ≡ Deals = deals_early C (unasked st) round its_live.stands there (early none) in
              let wrong : ◌≡◌ {A = Stage} Includes Deals = sym includes ∙ deals in cc)
          by_tip (Some t) tip =
              canonical_chain s e round (placed s) C st (recorded round there) t tip (sym ((applied_so C block st applied).over t tip) ∙ delivers)
              (half_low (e * n) (n / 2) n (div-lt_self {n = n} {k = 2} (positive n some) (lit< tt))) (keys s form bytes e round) blocks_are epoch_here
            where
              positive : (k : ℕ) → 1 ≤ k → 0 < k
              positive k some = omega (arith, some)

      -- NO DEALING IS LOST that the node acknowledged
      lacks_all : marks → is_lost C round (records_of_epoch e st.records.dealings) (logs_of st e) ≡ false
      unfolding at_step
      lacks_all known =
          let found : is_lost C round (records_of_epoch e (pairs_in (recovered_in w.held))) (bare_logs (records_of_epoch e (pairs_in (logs_in (notes w.held))))) ≡ false
          = lacks_none s e (come s before).recorded (recovered_in w.held) (logs_in (notes w.held)) round (gives_recorded (begun s cuts l i) e (recovered_in w.held) (come s before).recorded now going.carries.half.are.given)
          (λ dealer noted has_it. going.logs known (e, dealer) noted now has_it) round_is in
          rw (going.carries.half.agreed.dealings, going.carries.half.agreed.logs) found

      fewer : (dealings : List (ℕ × (List ℕ × ℕ))) → is_lost C round dealings (logs_of st e) ≡ false → is_lost C round dealings (canonical C st) ≡ false
      fewer dealings none =
          any_fewer (λ (log : ℕ × DealerLog). C.rules.bears_ack_of round log.0 log.1 C.me && not (has_public log.1.public (lookup log.0 dealings))) (λ (p : ℕ × RecordedLog). (p.0, p.1.log))
          (λ p. is_reached (midpoint C.blocks_per_epoch st.participation.epoch) (option_map (λ t. t.height) st.tip) p.1) (records_of_epoch st.participation.epoch st.records.logs)
          (subst (λ (k : ℕ). is_lost C round dealings (logs_of st k) ≡ false) (sym epoch_here) none)

      not_lost : marks → is_lost C round (records_of_epoch round.number st.records.dealings) (canonical C st) ≡ false
      not_lost known = subst (λ (k : ℕ). is_lost C round (records_of_epoch k st.records.dealings) (canonical C st) ≡ false) (sym number_is) (fewer (records_of_epoch e st.records.dealings) (lacks_all known))

      -- THE ARTIFACT of those logs, and the info that the block carries
      module _ (info : EpochInfo U) (carried : info_of block.payload ≡ Some info) (current : EpochInfo U) (of_current : st.participation.current ≡ Some current)
          (artifact : Artifact U) (art : IsArtifactIn C Stored round current st (canonical C st) artifact) where
        current_known : IsScripts s current
        current_known = subst (λ (o : Option (EpochInfo U)). IsSomeAnd o (IsScripts s)) of_current (also.fitting.known round there)

        current_epoch : current.epoch ≡ e
        current_epoch =
            (subst (λ (o : Option (EpochInfo U)). IsSomeAnd o (λ x. (x.epoch ≡ st.participation.epoch) × (validity C x ≡ Ok tt) × (round_for C st.participation.epoch x ≡ Ok round))) of_current (its_live.informed round there)).0 ∙ epoch_here

        known_there : known_info s e ≡ Some (with_spelled unit_spelling current)
        known_there = ap (known_info s) (sym current_epoch) ∙ current_known

        spelled : Honest → with_spelled unit_spelling info ≡ next_info outcome_of Said (with_spelled unit_spelling current) round (chain_logs s round e)
        spelled honest = some_is (sym (ap (option_map (with_spelled unit_spelling)) carried) ∙ honest e (with_spelled unit_spelling current) round delivers known_there round_is)

        abbrev derived : EpochInfo U
        derived = next_info C.rules.outcome_of C.provided current round (canonical C st)

        derived_spelled : with_spelled unit_spelling derived ≡ next_info outcome_of Said (with_spelled unit_spelling current) round (chain_logs s round e)
        unfolding at_step
        derived_spelled =
            ap (λ (logs : LogMap). with_spelled unit_spelling (next_info outcome_of (provided_by s.script) current round logs)) logs_are ∙ spelled_next (provided_by s.script) current round (chain_logs s round e)

        same_spelled : Honest → with_spelled unit_spelling derived ≡ with_spelled unit_spelling info
        same_spelled honest = derived_spelled ∙ sym (spelled honest)

        one_info : Honest → same_info C.directories derived info ≡ true
        unfolding at_step
        one_info honest = infos_are_one C.directories derived info (record {
          outcome = ap (λ (x : Info). x.outcome) (same_spelled honest);
          epoch = ap (λ (x : Info). x.epoch) (same_spelled honest);
          output = ap (λ (x : Info). x.output) (same_spelled honest);
          players = ap (λ (x : Info). x.players) (same_spelled honest);
          next_players = ap (λ (x : Info). x.next_players) (same_spelled honest);
          directory = ap (λ (x : Info). x.directory) (same_spelled honest);
        })

        share_by : share_for C info artifact ≡ (if same_info C.directories derived info then artifact.share else None)
        share_by = ap (λ (o : Option (EpochInfo U)). if option_map_or (λ its. same_info C.directories its info) o false then artifact.share else None) art.info_is

        share_is : Honest → share_for C info artifact ≡ artifact.share
        share_is honest = share_by ∙ ap (λ (t : Bool). if t then artifact.share else None) (one_info honest)

        -- one that carries the info that was derived is honest
        info_spelled : same_info C.directories derived info ≡ true → with_spelled unit_spelling derived ≡ with_spelled unit_spelling info
        unfolding at_step
        info_spelled same =
            let its = infos_agree C.directories derived info same in
            let outcome = its.outcome in
            let epoch = its.epoch in
            let output = its.output in
            let players = its.players in
            let next_players = its.next_players in
            let directory = its.directory in
            λ j. record { outcome = outcome j; epoch = epoch j; output = output j; players = players j; next_players = next_players j; directory = directory j }

        honest_by : same_info C.directories derived info ≡ true → Honest
        honest_by same other its_info its_round at_end its_known in_round =
            let same_epoch : other ≡ e = sym (at_last other) ∙ ap (epoch_of n) (sym at_end ∙ delivers) ∙ at_last e in
            let one_info : with_spelled unit_spelling current ≡ its_info = some_is (sym known_there ∙ ap (known_info s) (sym same_epoch) ∙ its_known) in
            let one_round : round ≡ its_round = some_is (sym round_is ∙ ap (round_at s) (sym same_epoch) ∙ in_round) in
            ap (option_map (with_spelled unit_spelling)) carried ∙ ap (λ (x : Info). Some x) (sym (info_spelled same) ∙ derived_spelled)
            ∙ ap (λ (k : ℕ). Some (next_info outcome_of Said (with_spelled unit_spelling current) round (chain_logs s round k))) (sym same_epoch)
            ∙ ap (λ (r : Round). Some (next_info outcome_of Said (with_spelled unit_spelling current) r (chain_logs s r other))) one_round
            ∙ ap (λ (x : Info). Some (next_info outcome_of Said x its_round (chain_logs s its_round other))) one_info
          where
            low : (m k : ℕ) → 1 ≤ k → m ≤ m + k - 1
            low m k some = omega (arith, some)

            high : (m k : ℕ) → 1 ≤ k → m + k - 1 < m + k
            high m k some = omega (arith, some)

            at_last : (k : ℕ) → epoch_of n (last n k) ≡ k
            at_last k = epoch_is n k (last n k) (low (k * n) n some) (high (k * n) n some)

        only : IsSome (share_for C info artifact) → Honest
        only there_is = by_test (same_info C.directories derived info) refl (subst IsSome share_by there_is)
          where
            by_test : (t : Bool) → same_info C.directories derived info ≡ t → IsSome (if t then artifact.share else None) → Honest
            by_test false differs none = absurd (let wrong : false ≡ true = none in cc)
            by_test true same its_share = honest_by same

        outcome_is : Honest → (o : Option Output) → outcome_of round (canonical C st) ≡ o → info.outcome ≡ (if is_some o then Success else Failure)
        outcome_is honest o found =
            ap (λ (x : Info). x.outcome) (spelled honest) ∙ next_outcome (provided_by s.script) current round (chain_logs s round e) o (sym (ap (outcome_of round) logs_are) ∙ found)

        abbrev Seat : Type 0
        Seat = (its_part : Part) × (set_up_last None before ≡ Some (st.participation.epoch, its_part)) × (PartPlays its_part ↔ (st.participation.seat ≡ Plays))

        abbrev seat : Seat
        seat = also.seated round there

        -- behind a success
        plays_of : marks → can_finish C round (canonical C st) st ≡ true → st.participation.seat ≡ Plays
        plays_of known can =
            going.plays known round there
            (has_key-from round.players (me s) (Contains-index_of (me s) round.players
            (subst (λ (k : ℕ). has round.players k ≡ true) me_is (and_parts (has round.players C.me) (not (is_lost C round (records_of_epoch round.number st.records.dealings) (canonical C st))) can).0)))

        can_of : marks → st.participation.seat ≡ Plays → can_finish C round (canonical C st) st ≡ true
        can_of known plays =
            both (has round.players C.me) (is_lost C round (records_of_epoch round.number st.records.dealings) (canonical C st)) (subst (λ (k : ℕ). has round.players k ≡ true) (sym me_is) (also.player round there plays)) (not_lost known)
          where
            both : (a b : Bool) → a ≡ true → b ≡ false → (a && not b) ≡ true
            both a b x y = rw (x, y) refl

        success : (output : Output) → outcome_of round (canonical C st) ≡ Some output → marks → (IsSome artifact.share ↔ PartPlays seat.0)
        unfolding at_step
        success output found known =
            let can_is : is_some artifact.share ≡ can_finish C round (canonical C st) st = (art.success output found).0 in
            ((λ there_is. seat.2.1 (plays_of known (sym can_is ∙ there_is))), (λ plays. can_is ∙ can_of known (seat.2.0 plays)))

        -- .. and behind a failure
        failure : outcome_of round (canonical C st) ≡ None → (HeldShare s before e → IsSome artifact.share) × (IsSome artifact.share → HeldShare s before e ⊎ WasCutInto s (come s before).cuts e)
        unfolding at_step
        failure found = by_player (has current.output.players (me s)) refl
          where
            by_player : (t : Bool) → has current.output.players (me s) ≡ t → (HeldShare s before e → IsSome artifact.share) × (IsSome artifact.share → HeldShare s before e ⊎ WasCutInto s (come s before).cuts e)
            by_player true player =
                let same : is_some artifact.share ≡ held = (art.failure found).0 player current_epoch in
                ((λ told. same ∙ also.held.kept e now told), (λ there_is. also.held.sound e (sym same ∙ there_is)))
            by_player false none =
                let gone : artifact.share ≡ None = (art.failure found).1 none in
                ((λ told. absurd (held_not (also.held.kept e now told))), (λ there_is. absurd (let wrong : false ≡ true = subst IsSome gone there_is in cc)))
              where
                held_not : IsSome (get w.held.secrets.shares e) → ⊥
                held_not got =
                    let its_share = there_some (get w.held.secrets.shares e) got in
                    let player : has current.output.players (me s) ≡ true = player_of current.output (me s) (share_public_of its_share.0) (also.shares e its_share.0 its_share.1 (with_spelled unit_spelling current) known_there) in
                    let wrong : false ≡ true = sym none ∙ player in cc

        stands : Honest → StandsBy s before e seat.0 artifact.share marks info.outcome
        unfolding progress
        stands honest = by_outcome (outcome_of round (canonical C st)) refl
          where
            by_outcome : (o : Option Output) → outcome_of round (canonical C st) ≡ o → StandsBy s before e seat.0 artifact.share marks info.outcome
            by_outcome (Some output) found = subst (StandsBy s before e seat.0 artifact.share marks) (sym (outcome_is honest (Some output) found)) (success output found)
            by_outcome None found = subst (StandsBy s before e seat.0 artifact.share marks) (sym (outcome_is honest None found)) (failure found)

    -- THE SHARE that is taken stands so
    abbrev Stands : Option ℕ → EpochOutcome → Type 0
    Stands share outcome =
        (its_part : Part) × (set_up_last None before ≡ Some (e, its_part)) × (IsSome share → Honest) × (Honest → StandsBy s before e its_part share marks outcome)

    pub line_stands : (share : Option ℕ) → IsTakenShare C Stored block st w.held (e + 1) share → IsSomeAnd (known_info s (e + 1)) (λ info. Stands share info.outcome)
    line_stands share taken = by_info (info_of block.payload) refl taken.1
      where
        OfInfo : EpochInfo U → Type 0
        OfInfo info = (info.epoch ≡ e + 1) × (info.epoch ≡ next_epoch C block) × IsShareTaken C Stored st w.held info share st.participation.stage

        in_stage : (info : EpochInfo U) → info_of block.payload ≡ Some info → (stage : Stage) → st.participation.stage ≡ stage → IsShareTaken C Stored st w.held info share stage → Stands share info.outcome
        in_stage info carried Follows at read = absurd (apart at)
        in_stage info carried Deals at none = absurd none
        in_stage info carried Ends at none = absurd none
        in_stage info carried Includes at (round, current, there, of_current, (artifact, art, same)) =
            let its_seat = seat round there at info carried current of_current artifact art in (
              its_seat.0,
              its_seat.1 ∙ ap (λ (k : ℕ). Some (k, its_seat.0)) epoch_here,
              (λ some_share. only round there at info carried current of_current artifact art (subst IsSome same some_share)),
              (λ honest. subst (λ (o : Option ℕ). StandsBy s before e its_seat.0 o marks info.outcome) (sym (same ∙ share_is round there at info carried current of_current artifact art honest))
                  (stands round there at info carried current of_current artifact art honest)),
            )

        by_info : (o : Option (EpochInfo U)) → info_of block.payload ≡ o → IsSomeAnd o OfInfo → IsSomeAnd (known_info s (e + 1)) (λ info. Stands share info.outcome)
        by_info None carried none = absurd none
        by_info (Some info) carried so =
            let its_known : known_info s info.epoch ≡ Some (with_spelled unit_spelling info)
            = last_known s ends form consistent l life seen files life_is (secrets seen reads) i number (is ∙ ap (λ (x : script.Event). Some x) of) reached block block_is taken.0 info carried so.1 in
            subst (λ (o : Option Info). IsSomeAnd o (λ x. Stands share x.outcome)) (sym (ap (known_info s) (sym so.0) ∙ its_known)) (in_stage info carried st.participation.stage refl so.2)
