-- Answers are from the path, where what is recorded is what the chain brings: in a life that takes part, of a script with a whole history.
use Rattle.std.proofs.Common.{◌≡◌, ◌⊎◌, inl, inr, ℕ, zero, suc, ◌+◌, ◌-◌, ◌<◌, ◌≤◌, ◌==◌, ◌&&◌, ◌||◌, Bool, true, false, List, [], ◌∷◌, ◌++◌, Option, Some, None, arith, refl, sym, ◌∙◌, ap, subst, length}
use Rattle.std.specs.Prelude.{nat_lt, option_map, option_to_list, slice_get, IfSome, IsSomeAnd}
use Rattle.std.specs.FinMap.{entries}
use Rattle.std.specs.List.{AllByRecursion}
use Rattle.std.proofs.lemmas.Bool.Decides.{nat_tests}
use Rattle.std.proofs.lemmas.Bool.{cases_lt}
use Rattle.dkg_ceremony.specs.Outcomes.{LogMap}
use Rattle.dkg_ceremony.specs.Schedule.{boundary, epoch_of, last, midpoint}
use Rattle.dkg_ceremony.specs.declared.round.RoundParts.{RoundParts as Round}
use Rattle.dkg_journal.specs.Names.{Files}
use Rattle.dkg_types.specs.Blocks as made
use Rattle.dkg_infos.specs.Units.{unit_spelling}
use Rattle.dkg_infos.specs.declared.directory.Unit as directory
use Rattle.dkg_infos.specs.declared.entry.AnswerLine.TheVariants.{Available, Unavailable}
use Rattle.dkg_infos.specs.declared.entry.Entry.{Entry}
use Rattle.dkg_infos.specs.declared.entry.Entry.TheVariants.{Answer}
use Rattle.dkg_infos.specs.declared.info.EpochInfo.{EpochInfo}
use Rattle.dkg_text.specs.declared.script.Cut.{Cut}
use Rattle.dkg_text.specs.declared.script.Event.{Event}
use Rattle.dkg_text.specs.declared.script.Event.TheVariants as event
use Rattle.dkg_text.specs.declared.script.Life.{Life}
use Rattle.dkg_script.specs.Blocks.{anchor_number, delivered_number, known_info}
use Rattle.dkg_script.specs.Consistent.{MayEndSo}
use Rattle.dkg_script.specs.Epochs.{alone}
use Rattle.dkg_script.specs.History.{IsWholeHistory}
use Rattle.dkg_script.specs.Inclusion.{IsFormOfInclusion}
use Rattle.dkg_script.specs.Position.{awaited_epoch, life_follows}
use Rattle.dkg_script.specs.Progress.{Progress}
use Rattle.dkg_script.specs.Readings.{with_spelled}
use Rattle.dkg_script.specs.Setting.{CutAt, Setting, blocks_per_epoch, found, life_at}
use Rattle.dkg_store.specs.Acts.{Ended, Held, went}
use Rattle.dkg_store.specs.Noted.{Notes}
use Rattle.dkg_store.specs.Recorded.{at_epoch, reached_logs}
use Rattle.dkg_store.specs.declared.recorded_log.RecordedLog.{RecordedLog}
use Rattle.dkg_core.specs.Courses.{on_devices}
use Rattle.dkg_core.specs.Fixed.{Fixed}
use Rattle.dkg_core.specs.Forms.{Applied, IsNodeBegun, Judged, Passed, Refusal, judged_block}
use Rattle.dkg_core.specs.Live.{Finalized, Follows, Live, Message, NodeStop, records_of_epoch}
use Rattle.dkg_core.specs.Logs.{canonical}
use Rattle.dkg_laws.specs.NodeThrough.{IsNodeThrough}
use Rattle.dkg_core.specs.Said.{Said}
use Rattle.dkg_core.specs.Seen.{Seen}
use Rattle.dkg_core.specs.Sources.{Tip}
use Rattle.dkg_core.specs.Through.{IsBlockThrough, IsEndThrough, IsLiveThrough, asked_by, unasked}
use Rattle.dkg_promises.specs.Answers.{IsFromPath, IsPathAnswer}
use Rattle.dkg_lives.specs.Asks.{bounds_in, fed_in, next_bytes}
use Rattle.dkg_lives.specs.Blamed.{IsHad, IsInfoOf, per_epoch, refusal_in, tip_in}
use Rattle.dkg_lives.specs.Epochs.{IsLifeInForm, StandsInScript, any_shares, epoch_by}
use Rattle.dkg_lives.specs.Given.{AreBytes, Lived, at_step, blocks_in, lived, step_of}
use Rattle.dkg_along.proofs.Alone.{epoch_alike, follows_alike}
use Rattle.dkg_promises.proofs.AnswerPaths.{IsRecordedBy, by_path, by_path_later}
use Rattle.dkg_promises.proofs.Answered.{IsSaidAt, IsSaidIn}
use Rattle.dkg_lives.proofs.Awaiting.{IsReached, comes_to}
use Rattle.dkg_promises.proofs.Blaming.{Stood, its_live, opened_held, opened_stood, step_next, told_apart, told_lines, told_next}
use Rattle.dkg_along.proofs.Causing.{accepted_by, first_awaited}
use Rattle.dkg_along.proofs.ChainBlocks.{ChainTo, HasBlockAt, chain_begins, chain_next, chain_to_tip, first_taken, on_chain}
use Rattle.dkg_along.proofs.Chaining.{IsOnChain, Tips, tips_so}
use Rattle.dkg_along.proofs.DealerKeys.{keys}
use Rattle.dkg_along.proofs.Drawn.{Begins, Numbered, held_begin, used_begin}
use Rattle.dkg_along.proofs.FedRequests.{fed_grows}
use Rattle.dkg_lives.proofs.Former.{BringsBlock, BringsMail, IsMessage, brings_so, event_in_form, life_in, message_in}
use Rattle.dkg_lives.proofs.NextLives.{applied_so, with_round}
use Rattle.dkg_promises.proofs.OfferedHalves.{all_of}
use Rattle.dkg_promises.proofs.OwnValid.{known_at}
use Rattle.dkg_promises.proofs.ReadLogs.{IsByPath, IsRecordedTo}
use Rattle.dkg_promises.proofs.Requested.{AreHeld, IsReadFor, KnowsRead, asked_same, bounds_of, dealt_part, dealt_tip, observed_part}
use Rattle.dkg_promises.proofs.SharesKnown.{reached_below}
use Rattle.dkg_along.proofs.Used.{all_back, all_front, of_delivered}

abbrev U : Type 0
U = directory.Unit

the_same : {A : Type 0} {x y : A} → ◌≡◌ {A = Option A} (Some x) (Some y) → x ≡ y
the_same e = cc

-- what stands below something in a list
earlier : {A : Type 0} (xs : List A) (i : ℕ) (x : A) → slice_get xs i ≡ Some x → (k : ℕ) → k < suc i → (y : A) × (slice_get xs k ≡ Some y)
earlier {A} [] i x is k low = absurd (let wrong : ◌≡◌ {A = Option A} None (Some x) = is in cc)
earlier (y ∷ xs) zero x is zero low = (y, refl)
earlier (y ∷ xs) zero x is (suc k) low = absurd (omega (arith, low))
earlier (y ∷ xs) (suc i) x is zero low = (y, refl)
earlier (y ∷ xs) (suc i) x is (suc k) low = earlier xs i x is k (omega (arith, low))

reached_before : (its : Option Cut) (i : ℕ) → IsReached its (suc i) → IsReached its i
reached_before None i reached = tt
reached_before (Some cut) i reached = λ none. let more : suc i < cut.step = reached none in omega (arith, more)

less_one : (i : ℕ) → suc i - 1 ≡ i
less_one i = omega arith

-- WHAT A LINE of a step says
module _ (s : Setting) (l : ℕ) (life : Life) where
  abbrev pub IsPathSaid : (j : ℕ) → Entry → Type 0
  IsPathSaid j (Answer request (Available payload)) = IsFromPath s l life j request payload
  IsPathSaid j line = Unit {0}

  -- .. by where a run stands
  pub path_answer : life_at s l ≡ Some life → (j : ℕ) (p : Progress) (line : Entry) → length p.cuts ≡ l → p.step ≡ j → IsPathSaid j line → IsPathAnswer s p line
  path_answer life_is j p (Answer request (Available payload)) lives step said =
      subst (λ (k : ℕ). IsSomeAnd (life_at s k) (λ its. IsFromPath s k its p.step request payload)) (sym lives)
      (subst (λ (o : Option Life). IsSomeAnd o (λ its. IsFromPath s l its p.step request payload)) (sym life_is) (subst (λ (k : ℕ). IsFromPath s l life k request payload) (sym step) said))
  path_answer life_is j p (Answer request (Unavailable why)) lives step said = tt
  path_answer life_is j p line lives step said = tt

module _ (s : Setting) (ends : List (Option CutAt)) (history : IsWholeHistory s ends) (form : IsFormOfInclusion s.script) (bytes : AreBytes s.script.blocks) (may : MayEndSo s.script.lives ends) (l : ℕ) (life : Life) (begun : l ≤ length ends)
    (none_found : found s l ≡ None) (seen : Held → Seen) (files : Files) (here : IsLifeInForm (lived s.script l life seen files)) where
  abbrev g : Lived
  g = lived s.script l life seen files

  abbrev n : ℕ
  n = blocks_per_epoch s

  pub some : 1 ≤ n
  some = one n here.long
    where
      one : (n : ℕ) → 2 ≤ n → 1 ≤ n
      one n long = omega (arith, long)

  pub no_sync : life.sync ≡ None
  no_sync = (life_in g here).no_sync

  epoch_is : (j : ℕ) → awaited_epoch s l life j ≡ epoch_by g j
  epoch_is j = epoch_alike s l life no_sync none_found j

  -- the chain's blocks up to what it awaits behind its first j events
  abbrev pub ChainHere : (j : ℕ) → Type 0
  ChainHere j = ChainTo s ends history.consistent form bytes some l life here.life_is here.anchor no_sync none_found j

  pub chain_opens : ChainHere 0
  chain_opens = chain_begins s ends history.consistent form bytes some l life here.life_is here.anchor no_sync none_found

  -- WHAT IS KNOWN where requests are read
  pub record IsReadWell (epoch read : ℕ) (round : Round) (recorded : LogMap) : Type 0 where
    pub recorded_by : IsRecordedBy s life epoch read round recorded
    pub chained : IfSome (tip_in s.script life read) (IsOnChain s)
    pub has : (t : Tip) → tip_in s.script life read ≡ Some t → (height : ℕ) → midpoint n epoch ≤ height → height ≤ t.height → HasBlockAt s height

  -- A STEP
  module _ (i : ℕ) (its : Event) (is : slice_get life.events i ≡ Some its) (reached : IsReached life.cut (suc i)) (m : IsMessage g its) (st : Live U) (live : IsLiveThrough (at_step g (suc i)) any_shares st) (stands : StandsInScript g i st)
      (tip : st.tip ≡ tip_in s.script life i) (chain : ChainHere i) where
    abbrev c : Fixed U
    c = at_step g (suc i)

    tips_at : (j : ℕ) → j ≤ suc i → IsReached life.cut j → Tips s ends history.consistent form bytes l life here.life_is here.anchor no_sync none_found j
    tips_at j upto reached = tips_so s ends history.consistent form bytes l life here.life_is here.anchor no_sync none_found (life_in g here).events j reached (λ k low. earlier life.events i its is k (under k low))
      where
        under : (k : ℕ) → k < j → k < suc i
        under k low = omega (arith, low, upto)

    tips_now : Tips s ends history.consistent form bytes l life here.life_is here.anchor no_sync none_found i
    tips_now = tips_at i (omega arith) (reached_before life.cut i reached)

    -- a block that comes is the chain's
    block_here : (number : ℕ) (b : made.Block U) → its ≡ event.Final number → slice_get (blocks_in s.script) number ≡ Some b → HasBlockAt s b.height
    block_here number b of there = record {
      number = number;
      block = b;
      there = there;
      height_is = refl;
      chained = on_chain s ends history.consistent form bytes some l life here.life_is here.anchor no_sync none_found i number b (is ∙ ap (λ (x : Event). Some x) of) reached there;
    }

    -- in a life that takes part
    module _ (apart : st.participation.stage ≡ Follows → ⊥) where
      up_to_tip : (t : Tip) → tip_in s.script life i ≡ Some t → (height : ℕ) → midpoint n (epoch_by g i) ≤ height → height ≤ t.height → HasBlockAt s height
      up_to_tip t at height late low =
          chain_to_tip s ends history.consistent form bytes some l life here.life_is here.anchor no_sync none_found may begun history.missed i chain tips_now
          (ap (life_follows s l life) (epoch_is i) ∙ follows_alike s l life no_sync none_found (epoch_by g i) ∙ stands.parts apart) t at height (subst (λ (e : ℕ). midpoint n e ≤ height) (sym (epoch_is i)) late) low

      -- .. and up to a block that is applied
      up_to_block : (number : ℕ) (b : made.Block U) → its ≡ event.Final number → slice_get (blocks_in s.script) number ≡ Some b → judged_block c b st ≡ Applied → (height : ℕ) → midpoint n (epoch_by g i) ≤ height → height ≤ b.height → HasBlockAt s height
      up_to_block number b of there applied height late low = by_order (cases_lt height b.height)
        where
          by_tip : (o : Option Tip) → tip_in s.script life i ≡ o → height < b.height → HasBlockAt s height
          by_tip (Some t) at under = up_to_tip t at height late (below height t.height b.height ((applied_so c b st applied).over t (tip ∙ at)) under)
            where
              below : (h t b : ℕ) → b ≡ t + 1 → h < b → h ≤ t
              below h t b same low = omega (arith, same, low)
          by_tip None none under = absurd (low_one b.height height (midpoint n (epoch_of n b.height)) early (subst (λ (e : ℕ). midpoint n e ≤ height) (first ∙ sym (zero_epoch (epoch_of n b.height) of_first)) late) under)
            where
              first : epoch_by g i ≡ 0
              first = first_awaited g here i its is reached m st live stands tip (tip ∙ none)

              unfollowed : life_follows (alone s.script) l life 0 ≡ false
              unfollowed = ap (life_follows (alone s.script) l life) (sym first) ∙ stands.parts apart

              allowed : refusal_in s.script l life i b ≡ None
              allowed = accepted_by g here i its is reached m st live stands tip b Applied applied refl

              tested : ((epoch_of n b.height == 0) && nat_lt b.height (midpoint n (epoch_of n b.height))) ≡ true
              tested = subst (λ (t : Bool). (t || ((epoch_of n b.height == 0) && nat_lt b.height (midpoint n (epoch_of n b.height)))) ≡ true) unfollowed (first_taken s.script l life i b allowed none)

              left : (one two : Bool) → (one && two) ≡ true → one ≡ true
              left true two is = refl
              left false two is = is

              right : (one two : Bool) → (one && two) ≡ true → two ≡ true
              right true two is = is
              right false two is = absurd (let wrong : ◌≡◌ {A = Bool} false true = is in cc)

              of_first : (epoch_of n b.height == 0) ≡ true
              of_first = left (epoch_of n b.height == 0) (nat_lt b.height (midpoint n (epoch_of n b.height))) tested

              early : nat_lt b.height (midpoint n (epoch_of n b.height)) ≡ true
              early = right (epoch_of n b.height == 0) (nat_lt b.height (midpoint n (epoch_of n b.height))) tested

              zero_epoch : (e : ℕ) → (e == 0) ≡ true → e ≡ 0
              zero_epoch e test = grind (arith, nat_tests)

              low_one : (b h m : ℕ) → nat_lt b m ≡ true → m ≤ h → h < b → ⊥
              low_one b h m test late low = let less : b < m = grind (arith, nat_tests) in omega (arith, less, late, low)

          by_order : (height < b.height) ⊎ (b.height ≤ height) → HasBlockAt s height
          by_order (inl under) = by_tip (tip_in s.script life i) refl under
          by_order (inr above) = let same : b.height ≡ height = omega (arith, low, above) in subst (HasBlockAt s) same (block_here number b of there)

      -- a life in which requests are read
      has_read : (x : Live U) → IsReadFor c st m.message x → x.tip ≡ tip_in s.script life (suc i) → (t : Tip) → tip_in s.script life (suc i) ≡ Some t → (height : ℕ) → midpoint n (epoch_by g i) ≤ height → height ≤ t.height → HasBlockAt s height
      has_read x in_it x_tip t at height late low = by_brought (brings_so g its m.message m.brings)
        where
          by_brought : BringsBlock g its m.message ⊎ BringsMail its m.message → HasBlockAt s height
          by_brought (inr (mail, sent, none)) =
              let x_is : x ≡ asked_by mail st = subst (λ (y : Message U). IsReadFor c st y x) sent in_it in
              let same : x.tip ≡ st.tip = ap (λ (y : Live U). y.tip) (x_is ∙ asked_same c mail st) in
              up_to_tip t (sym tip ∙ sym same ∙ x_tip ∙ at) height late low
          by_brought (inl (number, made_it, of, sent)) = of_read (subst (λ (y : Message U). IsReadFor c st y x) sent in_it)
            where
              b : made.Block U
              b = made_it.block

              of_tip : judged_block c b st ≡ Applied → x.tip ≡ Some (record { height = b.height; digest = b.digest }) → HasBlockAt s height
              of_tip applied same =
                  let t_is : t ≡ record { height = b.height; digest = b.digest } = the_same (sym at ∙ sym x_tip ∙ same) in
                  up_to_block number b of made_it.is applied height late (subst (λ (y : Tip). height ≤ y.height) t_is low)

              of_read : IsReadFor c st (Finalized b) x → HasBlockAt s height
              of_read (applied, inl (stage, x_is)) = of_tip applied (ap (λ (y : Live U). y.tip) x_is ∙ dealt_tip c st b)
              of_read (applied, inr (stage, ends_not, (round, of_round, x_is))) = of_tip applied (ap (λ (y : Live U). y.tip) x_is)

    -- it has the round of the life before
    same_round : (x : Live U) → IsReadFor c st m.message x → x.participation.round ≡ st.participation.round
    same_round x in_it = by_brought (brings_so g its m.message m.brings)
      where
        by_brought : BringsBlock g its m.message ⊎ BringsMail its m.message → x.participation.round ≡ st.participation.round
        by_brought (inr (mail, sent, none)) = ap (λ (y : Live U). y.participation.round) (subst (λ (y : Message U). IsReadFor c st y x) sent in_it ∙ asked_same c mail st)
        by_brought (inl (number, made_it, of, sent)) = of_read (subst (λ (y : Message U). IsReadFor c st y x) sent in_it)
          where
            of_read : IsReadFor c st (Finalized made_it.block) x → x.participation.round ≡ st.participation.round
            of_read (applied, inl (stage, x_is)) = ap (λ (y : Live U). y.participation.round) x_is ∙ (dealt_part c st made_it.block).round
            of_read (applied, inr (stage, ends_not, (round, of_round, x_is))) = ap (λ (y : Live U). y.participation.round) x_is ∙ (observed_part c st round made_it.block).round

    canonical_is : (x : Live U) → x.tip ≡ tip_in s.script life (suc i) → x.participation.epoch ≡ epoch_by g i → (m : Notes RecordedLog) → x.records.logs ≡ entries m
        → canonical c x ≡ reached_logs (midpoint n (epoch_by g i)) (option_map (λ t. t.height) (tip_in s.script life (suc i))) (at_epoch (epoch_by g i) m)
    unfolding at_step
    canonical_is x x_tip x_epoch m memory =
        ap (λ (e : ℕ). reached_logs (midpoint n e) (option_map (λ t. t.height) x.tip) (records_of_epoch e x.records.logs)) x_epoch
        ∙ ap (λ (o : Option Tip). reached_logs (midpoint n (epoch_by g i)) (option_map (λ t. t.height) o) (records_of_epoch (epoch_by g i) x.records.logs)) x_tip
        ∙ ap (λ (logs : List ((ℕ × ℕ) × RecordedLog)). reached_logs (midpoint n (epoch_by g i)) (option_map (λ t. t.height) (tip_in s.script life (suc i))) (records_of_epoch (epoch_by g i) logs)) memory

    -- The law: from what is recorded where requests are read.
    pub knows_paths : ((x : Live U) → IsReadFor c st m.message x → (round : Round) → st.participation.round ≡ Some round → IsRecordedTo s (epoch_by g i) round x) → KnowsRead g IsReadWell i st m.message
    knows_paths recorded x in_it x_tip x_epoch round of =
        let its_own : IsRecordedTo s (epoch_by g i) round x = recorded x in_it round (sym (same_round x in_it) ∙ of) in
        record {
          recorded_by = record {
            m = its_own.m;
            is = canonical_is x x_tip x_epoch its_own.m its_own.memory;
            first = λ t at. its_own.first t (x_tip ∙ at);
          };
          chained = (tips_at (suc i) (omega arith) reached).chained;
          has = has_read (with_round c (unasked st) round live.stands (sym (same_round x in_it) ∙ of)) x in_it x_tip;
        }

    -- THE CHAIN goes on behind a step that ends well
    pub chain_stays : (devices : Option Held) (end : Live U) (left : Option Held) → IsNodeThrough c any_shares st m.message devices end left → ChainHere (suc i)
    chain_stays devices end left node =
        chain_next s ends history.consistent form bytes some l life here.life_is here.anchor no_sync none_found i its is reached (event_in_form g here i its is) tips_now allowed chain
      where
        the_number : {a b : ℕ} → event.Final a ≡ event.Final b → a ≡ b
        the_number e = cc

        unrefused : (b : made.Block U) (j : Judged) → judged_block c b st ≡ j → IsBlockThrough c any_shares b st devices j node.mid left → refusal_in s.script l life i b ≡ None
        unrefused b (Refusal fault) judged none = absurd none
        unrefused b Passed judged next = accepted_by g here i its is reached m st live stands tip b Passed judged refl
        unrefused b Applied judged next = accepted_by g here i its is reached m st live stands tip b Applied judged refl

        allowed : (number : ℕ) (b : made.Block U) → its ≡ event.Final number → slice_get (blocks_in s.script) number ≡ Some b → refusal_in s.script l life i b ≡ None
        allowed number b of there = by_brought (brings_so g its m.message m.brings)
          where
            by_brought : BringsBlock g its m.message ⊎ BringsMail its m.message → refusal_in s.script l life i b ≡ None
            by_brought (inr (mail, sent, none)) = absurd (let wrong : ◌≡◌ {A = Option ℕ} (Some number) None = ap delivered_number (sym of) ∙ none in cc)
            by_brought (inl (other, made_it, is_final, sent)) =
                let same : made_it.block ≡ b = the_same (sym made_it.is ∙ ap (slice_get (blocks_in s.script)) (the_number (sym is_final ∙ of)) ∙ there) in
                unrefused b (judged_block c b st) refl (subst (λ (x : made.Block U). IsBlockThrough c any_shares x st devices (judged_block c x st) node.mid left) same
                (subst (λ (x : Message U). IsEndThrough c any_shares st x devices node.mid left) sent (node.next).is))

  -- ANSWERS

  -- an info that the life has is the script's of its epoch
  info_known : (j epoch : ℕ) (info : EpochInfo U) → ((k : ℕ) → k < j → IsReached life.cut (suc k)) → IsInfoOf s.script life j epoch info → known_info s epoch ≡ Some (with_spelled unit_spelling info)
  info_known j epoch info reached of =
      ap (known_info s) (sym of.of_epoch)
      ∙ known_at s ends form history.consistent l life seen files here.life_is of.number of.block of.is (its_number of.number of.had) info of.carries (of.begins ∙ ap (boundary n) (sym of.of_epoch))
    where
      anchor : Option ℕ
      anchor = option_map anchor_number life.anchor

      begun_by : AllByRecursion (Numbered s ends form history.consistent) (life.held ++ option_to_list anchor)
      begun_by = held_begin s ends form history.consistent l life seen files here.life_is

      its_number : (number : ℕ) → IsHad life j number → Numbered s ends form history.consistent number
      its_number number (inl among) = all_of (Numbered s ends form history.consistent) life.held number (all_front (Numbered s ends form history.consistent) life.held (option_to_list anchor) begun_by) among
      its_number number (inr (inl stands)) =
          (subst (λ (o : Option ℕ). AllByRecursion (Numbered s ends form history.consistent) (option_to_list o)) stands (all_back (Numbered s ends form history.consistent) life.held (option_to_list anchor) begun_by)).0
      its_number number (inr (inr (k, low, came))) =
          of_delivered s l life (Begins s ends form history.consistent) here.life_is (used_begin s ends form history.consistent) k number (comes_to life.cut life.events k (reached k low) ∙ came)

  module _ (i : ℕ) (its : Event) (is : slice_get life.events i ≡ Some its) (reached : IsReached life.cut (suc i)) where
    from_path : (request : ℕ) (payload : Option (List ℕ)) → IsSaidIn IsReadWell s.script l life (epoch_by g i) (suc i) (Answer request (Available payload)) → IsFromPath s l life (suc i) request payload
    from_path request payload (asked, (made_of, known)) =
        record {
          epoch = epoch_by g i;
          epoch_is = sym (epoch_is i) ∙ ap (awaited_epoch s l life) (sym (less_one i));
          info = made_of.info;
          known = info_known (suc i) (epoch_by g i) made_of.info (λ k low. reached_below life.cut (suc i) (suc k) (omega (arith, low)) reached) made_of.info_is;
          round = made_of.round;
          round_is = made_of.round_is;
          path = by.path;
          path_is = by.path_is;
          bytes = made_of.bytes ∙ ap (λ (logs : LogMap). Some (next_bytes s.script made_of.info made_of.round logs)) by.logs_are;
        }
      where
        bounds : ((bounds_in s.script (epoch_by g i)).last ≡ last (per_epoch s.script) (epoch_by g i)) × ((bounds_in s.script (epoch_by g i)).midpoint ≡ midpoint (per_epoch s.script) (epoch_by g i)) × (0 < (bounds_in s.script (epoch_by g i)).last)
        bounds = bounds_of g here (epoch_by g i)

        whole : (read j : ℕ) → read ≤ j → read + (j - read) ≡ j
        whole read j low = omega (arith, low)

        under : (k a b : ℕ) → k < a → a ≡ b → k < b
        under k a b low same = omega (arith, low, same)

        upto : made_of.at + (suc i - made_of.at) ≡ suc i
        upto = whole made_of.at (suc i) made_of.within

        grown : (rest : List (made.Block U)) × (fed_in s.script life request (made_of.at + (suc i - made_of.at)) ≡ fed_in s.script life request made_of.at ++ rest)
        grown = fed_grows request s.script life made_of.at (suc i - made_of.at) (λ k low. earlier life.events i its is k (under k (made_of.at + (suc i - made_of.at)) (suc i) low upto))

        by : IsByPath s life (epoch_by g i) request (suc i) made_of.round made_of.logs
        by =
            by_path_later s life (epoch_by g i) request made_of.at (suc i) made_of.round made_of.logs grown.0 (ap (fed_in s.script life request) (sym upto) ∙ grown.1)
            (by_path s ends history.consistent form bytes (epoch_by g i) made_of.round history.one_digest life request made_of.at made_of.recorded made_of.logs made_of.asked known.recorded_by bounds.0 bounds.1 known.chained known.has
            (keys s form bytes (epoch_by g i) made_of.round))

    line_path : (line : Entry) → IsSaidIn IsReadWell s.script l life (epoch_by g i) (suc i) line → IsPathSaid s l life (suc i) line
    line_path (Answer request (Available payload)) said = from_path request payload said
    line_path (Answer request (Unavailable why)) said = tt
    line_path line said = tt

    -- The law: each answer of a step is from the path.
    pub lines_path : (lines : List Entry) → AllByRecursion (IsSaidAt IsReadWell s.script l life (suc i)) lines → AllByRecursion (IsPathSaid s l life (suc i)) lines
    lines_path [] said = tt
    lines_path (line ∷ lines) said = (line_path line (subst (λ (k : ℕ). IsSaidIn IsReadWell s.script l life (epoch_by g k) (suc i) line) (less_one i) said.0), lines_path lines said.1)

  -- A STATE behind the first i events
  pub record IsPathState (i : ℕ) (st : Live U) : Type 0 where
    pub stood : Stood g here i st
    pub asked : AreHeld g IsReadWell i st
    pub chain : ChainHere i

  pub state_opens : (sees : Seen) (k : Held) (st : Live U) → IsNodeBegun (at_step g 0) sees k st → IsPathState 0 st
  state_opens sees k st begun = record { stood = opened_stood g here sees k st begun; asked = opened_held g here IsReadWell sees k st begun; chain = chain_opens }

  module _ (i : ℕ) (its : Event) (is : slice_get life.events i ≡ Some its) (reached : IsReached life.cut (suc i)) (st : Live U) (state : IsPathState i st)
      (recorded : (x : Live U) → IsReadFor (at_step g (suc i)) st (message_in g its (event_in_form g here i its is)).message x → (round : Round) → st.participation.round ≡ Some round → IsRecordedTo s (epoch_by g i) round x) where
    abbrev its_message : IsMessage g its
    its_message = message_in g its (event_in_form g here i its is)

    abbrev its_stood : Stood g here i st
    its_stood = state.stood

    its_knows : KnowsRead g IsReadWell i st its_message.message
    its_knows = knows_paths i its is reached its_message st (its_live g here i its is reached st its_stood) (its_stood.at).stands its_stood.tip state.chain recorded

    -- Its lines are from the path, wherever it ends,
    pub state_lines : (ended : Ended NodeStop (Live U)) (out now : List Entry) → Said (on_devices (step_of g (suc i) its st)) ended out now → (added : List Entry) × (now ≡ out ++ added) × AllByRecursion (IsPathSaid s l life (suc i)) added
    state_lines ended out now said =
        let lines = told_lines g here i its is reached st its_stood state.asked its_knows ended out now said in
        (lines.0, lines.1, lines_path i its is reached lines.0 lines.2)

    -- .. and it leaves such a state.
    pub state_next : (out now : List Entry) (devices : Option Held) (end : Live U) (left : Option Held) → Said (on_devices (step_of g (suc i) its st)) (went end) out now
        → IsNodeThrough (at_step g (suc i)) any_shares st its_message.message devices end left → IsPathState (suc i) end
    state_next out now devices end left said node = record {
      stood = step_next g here i its is reached st its_stood devices end left node;
      asked = told_next g here i its is reached st its_stood state.asked its_knows devices end left node (told_apart g here i its is reached st its_stood state.asked its_knows (went end) out now said);
      chain = chain_stays i its is reached its_message st (its_live g here i its is reached st its_stood) (its_stood.at).stands its_stood.tip state.chain devices end left node;
    }
