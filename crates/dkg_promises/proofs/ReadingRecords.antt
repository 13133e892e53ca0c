-- What a life has recorded where requests are read: the first logs of the chain, all of them up to the tip of then.
use Rattle.std.proofs.Common.{◌≡◌, ◌⊎◌, inl, inr, ◌<◌, ◌≤◌, ◌+◌, ℕ, suc, Bool, true, false, nat_le, List, Option, Some, None, arith, refl, sym, ◌∙◌, ap, subst}
use Rattle.std.specs.Prelude.{◌==◌, is_some, option_and_then, option_map, slice_get, if◌then◌else◌}
use Rattle.std.specs.FinMap.{entries, get, get-entries, insert}
use Rattle.std.specs.Option.{option_map_or}
use Rattle.std.proofs.lemmas.Bool.{cases_lt}
use Rattle.std.proofs.lemmas.Bool.Decides.{nat_tests}
use Rattle.dkg_ceremony.specs.Schedule.{last, midpoint}
use Rattle.dkg_ceremony.specs.declared.dealer_log.DealerLog.{DealerLog}
use Rattle.dkg_ceremony.specs.declared.round.RoundParts.{RoundParts as Round}
use Rattle.dkg_ceremony.specs.declared.signed_log.SignedDealerLog.{SignedDealerLog}
use Rattle.dkg_journal.specs.Names.{Files}
use Rattle.dkg_store.specs.Acts.{Held}
use Rattle.dkg_store.specs.Noted.{Notes}
use Rattle.dkg_store.specs.Recorded.{height_or, is_reached}
use Rattle.dkg_store.specs.declared.recorded_log.RecordedLog.{RecordedLog}
use Rattle.dkg_types.specs.Blocks as made
use Rattle.dkg_types.specs.PayloadCodes.{its_log}
use Rattle.dkg_infos.specs.Units.{unit_spelling}
use Rattle.dkg_infos.specs.declared.directory.Unit as directory
use Rattle.dkg_text.specs.declared.script.Event as script
use Rattle.dkg_text.specs.declared.script.Event.TheVariants as event
use Rattle.dkg_text.specs.declared.script.Life.{Life}
use Rattle.dkg_script.specs.Blocks.{numbered_block, round_at}
use Rattle.dkg_script.specs.Position.{awaited_before, awaited_epoch, awaited_height_after, life_follows}
use Rattle.dkg_script.specs.Setting.{Setting, CutAt, blocks_per_epoch, found}
use Rattle.dkg_script.specs.Views.{seen_block}
use Rattle.dkg_core.specs.Fixed.{Fixed}
use Rattle.dkg_core.specs.Forms.{Applied, judged_block}
use Rattle.dkg_core.specs.Live as core
use Rattle.dkg_core.specs.Blocks.{unoffered, with_log_at, without_own_log}
use Rattle.dkg_core.specs.Live.{Deals, Finalized, Includes, Live, Mail, Stage, is_last_height, recorded_at, with_participation}
use Rattle.dkg_core.specs.Logs.{is_accepted, recorded_log}
use Rattle.dkg_laws.specs.LogsRecorded.{first_of_both}
use Rattle.dkg_core.specs.Seen.{Seen}
use Rattle.dkg_core.specs.Sources.{Tip}
use Rattle.dkg_core.specs.Stepping.{dealt_behind, given_itself}
use Rattle.dkg_core.specs.Through.{asked_by, included, observed, observed_log}
use Rattle.dkg_core.proofs.Agreeing.{put_same}
use Rattle.dkg_core.proofs.StepDealing.{given_same}
use Rattle.dkg_lives.specs.Epochs.{IsAtEvent, IsLifeInForm}
use Rattle.dkg_lives.specs.Given.{Lived, at_step, lived}
use Rattle.dkg_promises.specs.SharesStand.{IsWholePast}
use Rattle.dkg_lives.proofs.Awaiting.{IsReached}
use Rattle.dkg_lives.proofs.ChainLogs.{brings_of}
use Rattle.dkg_along.proofs.Drawn.{HasRoundOf}
use Rattle.dkg_lives.proofs.FirstLogs.{IsFirst}
use Rattle.dkg_lives.proofs.GrowingLogs.{HasBelow, IsAtIts, IsLookedAt, below_next, sound_next}
use Rattle.dkg_along.proofs.HeightsRise.{heights_rise}
use Rattle.dkg_lives.proofs.LogsBehind.{HasObserved, dealt_logs}
use Rattle.dkg_promises.proofs.NotedFirst.{AreSoundIn, HasThoseIn, counts_within, has_none}
use Rattle.dkg_along.proofs.ObservedLogs.{looked_at}
use Rattle.dkg_promises.proofs.ReadLogs.{IsEarly, IsRecordedTo}
use Rattle.dkg_promises.proofs.RecordingSteps as steps
use Rattle.dkg_promises.proofs.RecordingSteps.{IsRecording}
use Rattle.dkg_promises.proofs.Requested.{IsReadFor, asked_same, dealt_tip}

abbrev U : Type 0
U = directory.Unit

some_is : {A : Type 0} {x y : A} → ◌≡◌ {A = Option A} (Some x) (Some y) → x ≡ y
some_is e = cc

none_some : {A : Type 0} {x : A} → ◌≡◌ {A = Option A} None (Some x) → ⊥
none_some e = cc

-- what is looked at by the same records
looked_as : (brings : ℕ → Option (ℕ × DealerLog)) (Early : ℕ → Type 0) (one now other later : ℕ → Option RecordedLog) (height : ℕ) → ((d : ℕ) → one d ≡ other d) → ((d : ℕ) → now d ≡ later d)
    → IsLookedAt brings Early one now height → IsLookedAt brings Early other later height
looked_as brings Early one now other later height same same_now looked = record {
  brought = λ dealer log is. sym (same_now dealer) ∙ looked.brought dealer log is ∙ ap (λ (o : Option RecordedLog). Some (first_of_both o (recorded_log height log))) (same dealer);
  others = λ dealer none. sym (same_now dealer) ∙ looked.others dealer none ∙ same dealer;
}

-- what is left of records by a look at a block is a map's
pub observed_map : (c : Fixed U) (round : Round) (b : made.Block U) (st : Live U) (m : Notes RecordedLog) → st.records.logs ≡ entries m → (o : Option SignedDealerLog)
    → (now : Notes RecordedLog) × ((observed_log c round b st o).records.logs ≡ entries now)
observed_map c round b st m memory None = (m, memory)
observed_map c round b st m memory (Some log) = by_tests (is_accepted c round log) (is_some (recorded_at st.records.logs round.number log.dealer))
  where
    cleared : (x : Live U) → (without_own_log c log.dealer x).records.logs ≡ x.records.logs
    cleared x = by_test (log.dealer == c.me)
      where
        by_test : (t : Bool) → (if t then with_participation (record x.participation { dealer = option_map unoffered x.participation.dealer }) x else x).records.logs ≡ x.records.logs
        by_test true = refl
        by_test false = refl

    by_tests : (accepted has : Bool)
        → (now : Notes RecordedLog)
        × ((if accepted then without_own_log c log.dealer (if has then st else with_log_at round.number log.dealer b.height log.log st) else st).records.logs ≡ entries now)
    by_tests false has = (m, memory)
    by_tests true true = (m, cleared st ∙ memory)
    by_tests true false = (
      insert m (round.number, log.dealer) (recorded_log b.height log.log),
      cleared (with_log_at round.number log.dealer b.height log.log st) ∙ put_same m st.records.logs (round.number, log.dealer) (recorded_log b.height log.log) memory,
    )

module _ (s : Setting) (ends : List (Option CutAt)) (whole : IsWholePast s ends) (l : ℕ) (life : Life) (seen : Held → Seen) (files : Files) (here : IsLifeInForm (lived s.script l life seen files)) (none_found : found s l ≡ None)
    (cuts : List (Option CutAt)) (never_back : awaited_before s cuts l ≤ awaited_epoch s l life 0 + 1) (i : ℕ) (its : script.Event) (is : slice_get life.events i ≡ Some its) (reached : IsReached life.cut (suc i)) (st : Live U)
    (at : IsAtEvent (lived s.script l life seen files) i st) (of_round : HasRoundOf s st) (m : Notes RecordedLog) (memory : st.records.logs ≡ entries m) (recording : IsRecording s ends l life cuts i m) where
  abbrev g : Lived
  g = lived s.script l life seen files

  abbrev n : ℕ
  n = blocks_per_epoch s

  abbrev e : ℕ
  e = awaited_epoch s l life i

  abbrev h : ℕ
  h = awaited_height_after s l life i

  abbrev C : Fixed U
  C = at_step g (suc i)

  stands_at : core.awaited_height st ≡ h
  stands_at = steps.stands_at s ends whole l life seen files here none_found cuts never_back i its is reached st at of_round m memory recording

  module _ (round : Round) (there : st.participation.round ≡ Some round) where
    part : life_follows s l life e ≡ false
    part = steps.takes_part s ends whole l life seen files here none_found cuts never_back i its is reached st at of_round m memory recording round there

    known : round_at s e ≡ Some round
    known = steps.round_is s ends whole l life seen files here none_found cuts never_back i its is reached st at of_round m memory recording round there

    abbrev Brings : ℕ → Option (ℕ × DealerLog)
    Brings = brings_of s e round

    -- what was noted before is sound, and there is all below the awaited height
    sound : AreSoundIn s e round m
    sound = (recording.noted).sound e round (steps.current s ends whole l life seen files here none_found cuts never_back i) (steps.come s ends whole l life seen files here none_found cuts never_back i) known

    below : HasBelow Brings (IsEarly s e) (λ d. get m (e, d)) h
    below = recording.below part round known

    -- FROM ONE THAT IS SOUND, and has all up to the tip
    first_at : (x : Live U) (mx : Notes RecordedLog) → x.records.logs ≡ entries mx → AreSoundIn s e round mx
        → ((t : Tip) → x.tip ≡ Some t → HasBelow Brings (IsEarly s e) (λ d. get mx (e, d)) (t.height + 1) × (h ≤ t.height + 1)) → IsRecordedTo s e round x
    first_at x mx memory sound upto = record {
      m = mx;
      memory = memory;
      first = λ t tip. record {
        sound = λ dealer noted there. let its = sound dealer noted there in (its.0, its.1, at_its t (upto t tip).1 dealer noted its.0 its.1 noted.height refl its.2);
        all = λ dealer height log its_first low. (upto t tip).0 height (omega (arith, low)) dealer log its_first;
      };
    }
      where
        le : (x y : ℕ) → x ≤ y → nat_le x y ≡ true
        le x y low = grind (arith, nat_tests)

        at_its : (t : Tip) → h ≤ t.height + 1 → (dealer : ℕ) (noted : RecordedLog) (height : ℕ) → IsFirst Brings dealer height noted.log → (o : Option ℕ) → noted.height ≡ o → IsAtIts Brings (IsEarly s e) o height
            → is_reached (midpoint n e) (Some t.height) noted ≡ nat_le height t.height
        at_its t low dealer noted height its_first (Some stands) of is = ap (λ (x : Option ℕ). nat_le (height_or (midpoint n e) x) t.height) of ∙ ap (λ (x : ℕ). nat_le x t.height) is
        at_its t low dealer noted height its_first None of early =
            let start : height < awaited_height_after s l life 0 = early l i life here.life_is refl in
            let from_start : awaited_height_after s l life 0 ≤ h = heights_rise s l life 0 i (omega arith) in
            let counted = (counts_within s e round height dealer noted.log its_first.here).0 in
            let under : height ≤ t.height = omega (arith, start, from_start, low) in
            ap (λ (x : Option ℕ). nat_le (height_or (midpoint n e) x) t.height) of ∙ le (midpoint n e) t.height (omega (arith, counted, under)) ∙ sym (le height t.height under)

    above_tip : (t : Tip) → st.tip ≡ Some t → t.height + 1 ≡ h
    above_tip t tip = sym (ap (λ (o : Option Tip). option_map_or (λ (x : Tip). x.height + 1) o 0) tip) ∙ stands_at

    -- a life of the same logs and tip
    same_records : (x : Live U) → x.records.logs ≡ st.records.logs → x.tip ≡ st.tip → IsRecordedTo s e round x
    same_records x logs tip = first_at x m (logs ∙ memory) sound (λ t is.
        let same = above_tip t (sym tip ∙ is) in
        (subst (λ (k : ℕ). HasBelow Brings (IsEarly s e) (λ d. get m (e, d)) k) (sym same) below, (omega (arith, same))))

    -- THE LIFE ITSELF
    pub recorded_here : IsRecordedTo s e round st
    recorded_here = same_records st refl refl

    -- BEHIND MAIL
    mail_read : (mail : Mail U) (x : Live U) → x ≡ asked_by mail st → IsRecordedTo s e round x
    mail_read mail x is =
        let same : asked_by mail st ≡ core.with_inclusion (asked_by mail st).inclusion st = asked_same C mail st in
        same_records x (ap (λ (y : Live U). y.records.logs) (is ∙ same)) (ap (λ (y : Live U). y.tip) (is ∙ same))

    -- BEHIND A BLOCK
    module _ (number : ℕ) (block : made.Block U) (its_is : slice_get life.events i ≡ Some (event.Final number)) (seen_there : numbered_block s number ≡ Some (seen_block unit_spelling block))
        (applied : judged_block C block st ≡ Applied) where
      high : h ≤ block.height
      high = steps.is_high s ends whole l life seen files here none_found cuts never_back i its is reached st at of_round m memory recording number block its_is seen_there applied round there

      gap : (height : ℕ) → h ≤ height → height < block.height → height < midpoint n e
      gap = steps.gap s ends whole l life seen files here none_found cuts never_back i its is reached st at of_round m memory recording number block its_is seen_there applied round there

      abbrev its_tip : Tip
      its_tip = record { height = block.height; digest = block.digest }

      the_tip : (t : Tip) → ◌≡◌ {A = Option Tip} (Some its_tip) (Some t) → block.height ≡ t.height
      the_tip t is = ap (λ (x : Tip). x.height) (some_is is)

      -- while dealing nothing counts up to it
      dealt_read : st.participation.stage ≡ Deals → (x : Live U) → x ≡ dealt_behind C block (given_itself C st) → IsRecordedTo s e round x
      dealt_read stage x of = first_at x m (ap (λ (y : Live U). y.records.logs) of ∙ dealt_logs C st block (given_itself C st) ∙ ((given_same C st).same).logs ∙ memory) sound (λ t tip.
          let at_tip : block.height ≡ t.height = the_tip t (sym (ap (λ (y : Live U). y.tip) of ∙ dealt_tip C st block) ∙ tip) in
          (subst (λ (k : ℕ). HasBelow Brings (IsEarly s e) (λ d. get m (e, d)) (k + 1)) at_tip upto_block, (let low = high in omega (arith, low, at_tip))))
        where
          early : block.height < midpoint n e
          early = by_level (steps.level s ends whole l life seen files here none_found cuts never_back i its is reached st at of_round m memory recording number block its_is seen_there applied round there)
            where
              by_level : (block.height ≡ h) ⊎ (block.height < midpoint n e) → block.height < midpoint n e
              by_level (inr low) = low
              by_level (inl same) = elim (cases_lt h (midpoint n e)) [
                | inl low ↦ (omega (arith, same, low))
                | inr late ↦ (
                    let wrong : ◌≡◌ {A = Stage} Deals Includes
                    = sym stage ∙ steps.includes s ends whole l life seen files here none_found cuts never_back i its is reached st at of_round m memory recording number block its_is seen_there round there late in
                    absurd cc
                    )
              ]

          upto_block : HasBelow Brings (IsEarly s e) (λ d. get m (e, d)) (block.height + 1)
          upto_block height low = has_none s e round m height (inl (let under = early in omega (arith, under, low)))

      -- while including it is looked at first
      included_read : st.participation.stage ≡ Includes → is_last_height C block.height ≡ false → (x : Live U) → x ≡ included C round block st → IsRecordedTo s e round x
      included_read stage other x of = first_at x now.0 (ap (λ (y : Live U). y.records.logs) of ∙ now.1) (sound_next Brings (IsEarly s e) (λ d. get m (e, d)) (λ d. get now.0 (e, d)) block.height looked has_below sound)
          (λ t tip.
          let at_tip : block.height ≡ t.height = the_tip t (sym (ap (λ (y : Live U). y.tip) of) ∙ tip) in (
            subst (λ (k : ℕ). HasBelow Brings (IsEarly s e) (λ d. get now.0 (e, d)) (k + 1)) at_tip (below_next Brings (IsEarly s e) (λ d. get m (e, d)) (λ d. get now.0 (e, d)) block.height looked has_below),
            (let low = high in omega (arith, low, at_tip)),
          ))
        where
          now : (mx : Notes RecordedLog) × ((observed C round block st).records.logs ≡ entries mx)
          now = observed_map C round block st m memory (option_and_then its_log block.payload)

          number_is : round.number ≡ e
          number_is = steps.number_is s ends whole l life seen files here none_found cuts never_back i its is reached st at of_round m memory recording round there

          seen_it : HasObserved C st block (included C round block st)
          seen_it = record { applied = applied; includes = stage; below = other; round = round; of_epoch = there; records = refl; tip = refl }

          late : midpoint n e ≤ block.height
          late = steps.late s ends whole l life seen files here none_found cuts never_back i its is reached st at of_round m memory recording number block its_is seen_there applied round there stage

          under : block.height < last n e
          under = steps.not_last s ends whole l life seen files here none_found cuts never_back i its is reached st at of_round m memory recording number block its_is seen_there applied round there other

          in_map : (ls : List ((ℕ × ℕ) × RecordedLog)) (mx : Notes RecordedLog) → ls ≡ entries mx → (d : ℕ) → recorded_at ls round.number d ≡ get mx (round.number, d)
          in_map ls mx same d = ap (λ (xs : List ((ℕ × ℕ) × RecordedLog)). recorded_at xs round.number d) same ∙ sym (get-entries mx (round.number, d))

          looked : IsLookedAt Brings (IsEarly s e) (λ d. get m (e, d)) (λ d. get now.0 (e, d)) block.height
          looked = subst (λ (k : ℕ). IsLookedAt (brings_of s k round) (IsEarly s k) (λ d. get m (k, d)) (λ d. get now.0 (k, d)) block.height) number_is
              (looked_as (brings_of s round.number round) (IsEarly s round.number) (λ d. recorded_at st.records.logs round.number d) (λ d. recorded_at (included C round block st).records.logs round.number d)
              (λ d. get m (round.number, d)) (λ d. get now.0 (round.number, d)) block.height (in_map st.records.logs m memory) (in_map (included C round block st).records.logs now.0 now.1)
              (looked_at s l life seen files (suc i) block round
              (steps.on_chain s ends whole l life seen files here none_found cuts never_back i its is reached st at of_round m memory recording number block its_is seen_there)
              (subst (λ (k : ℕ). midpoint n k ≤ block.height) (sym number_is) late) (subst (λ (k : ℕ). block.height < last n k) (sym number_is) under) st (included C round block st) seen_it refl (IsEarly s round.number)))

          has_below : HasBelow Brings (IsEarly s e) (λ d. get m (e, d)) block.height
          has_below height low = by_order (cases_lt height h)
            where
              by_order : (height < h) ⊎ (h ≤ height) → HasThoseIn s e round m height
              by_order (inl before) = below height before
              by_order (inr at_least) = has_none s e round m height (inl (gap height at_least low))

      block_read : (x : Live U) → IsReadFor C st (Finalized block) x → IsRecordedTo s e round x
      block_read x (judged, inl (stage, of)) = dealt_read stage x of
      block_read x (judged, inr (stage, other, (r, its_round, of))) =
          included_read stage other x (of ∙ ap (λ (y : Round). included C y block st) (some_is (sym its_round ∙ there)))

  -- WHERE REQUESTS ARE READ
  pub mail_recorded : (mail : Mail U) (x : Live U) → x ≡ asked_by mail st → (round : Round) → st.participation.round ≡ Some round → IsRecordedTo s e round x
  mail_recorded mail x is round there = mail_read round there mail x is

  pub block_recorded : (number : ℕ) (block : made.Block U) → slice_get life.events i ≡ Some (event.Final number) → numbered_block s number ≡ Some (seen_block unit_spelling block) → (x : Live U) → IsReadFor C st (Finalized block) x
      → (round : Round) → st.participation.round ≡ Some round → IsRecordedTo s e round x
  block_recorded number block its_is seen_there x read round there = block_read round there number block its_is seen_there read.0 x read
