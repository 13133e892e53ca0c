-- Each request of a life was made by an event while the life awaited the epoch that it awaits now; and the info by which it takes part is carried by a block that the life has and that begins its epoch.
use Rattle.std.proofs.Common.{◌≡◌, ◌⊎◌, inl, inr, ℕ, suc, ◌+◌, ◌<◌, ◌==◌, ◌++◌, List, [], ◌∷◌, Option, Some, None, Bool, true, false, Ok, arith, refl, sym, ◌∙◌, ap, subst, length}
use Rattle.std.specs.Prelude.{Contains, filter, find, is_some, map, not, slice_get, option_map, option_to_list, option_and_then, IfSome, IsSomeAnd, if◌then◌else◌}
use Rattle.std.specs.List.{AllByRecursion}
use Rattle.std.proofs.lemmas.Bool.Decides.{nat_tests}
use Rattle.dkg_values.specs.Rising.{lookup}
use Rattle.dkg_ceremony.specs.Schedule.{boundary, epoch_of, last, midpoint}
use Rattle.dkg_ceremony.specs.declared.round.RoundParts.{RoundParts as Round}
use Rattle.dkg_ceremony.specs.declared.signed_log.SignedDealerLog.{SignedDealerLog}
use Rattle.dkg_types.specs.BlockCodes.{info_of}
use Rattle.dkg_types.specs.Blocks.{Block}
use Rattle.dkg_types.specs.PayloadCodes.{its_log}
use Rattle.dkg_infos.specs.declared.directory.Unit as directory
use Rattle.dkg_infos.specs.declared.info.EpochInfo.{EpochInfo}
use Rattle.dkg_text.specs.declared.script.Event.{Event}
use Rattle.dkg_text.specs.declared.script.Event.TheVariants as event
use Rattle.dkg_store.specs.Acts.{Held}
use Rattle.dkg_script.specs.Blocks.{anchor_number}
use Rattle.dkg_script.specs.Epochs.{alone}
use Rattle.dkg_core.specs.Asked.{IsEmptied}
use Rattle.dkg_core.specs.Blocks.{unoffered, without_own_log, with_log_at}
use Rattle.dkg_core.specs.Dealing.{counts, with_ack}
use Rattle.dkg_core.specs.Endings.{first_block, validity}
use Rattle.dkg_core.specs.Fixed.{Fixed}
use Rattle.dkg_core.specs.Forms.{IsNodeBegun, IsSeated, IsSetUpIn, Judged, Refusal, Passed, Applied, judged_block, round_for, share_read, seed_read, started}
use Rattle.dkg_core.specs.Including.{is_served_at, releases}
use Rattle.dkg_core.specs.Laws.{IsAmong}
use Rattle.dkg_core.specs.Live as core
use Rattle.dkg_core.specs.Live.{Cancel, Deals, Dealer, Ends, EpochInfoOf, Feed, Finalized, Follows, Inclusion, Includes, Job, Live, Mail, Message, NextLog, Over, Peer, ReleaseLog, Request, Mailed, Stage, Work, is_last_height, recorded_at, with_inclusion, with_participation, with_tip}
use Rattle.dkg_core.specs.Logs.{is_accepted}
use Rattle.dkg_laws.specs.NodeThrough.{IsNodeThrough}
use Rattle.dkg_core.specs.Seen.{Seen}
use Rattle.dkg_core.specs.Setup.{Uncommitted, begins_inclusion}
use Rattle.dkg_core.specs.Stepping.{IsHeardBy, dealt_behind, given_itself, next_epoch, with_taken}
use Rattle.dkg_core.specs.Through.{IsAppliedThrough, IsBlockThrough, IsCarriedOn, IsEndThrough, IsFollowedThrough, IsIncludedThrough, IsLiveThrough, IsReadFrom, asked_by, cancelled, included, observed, observed_log, waits_for}
use Rattle.dkg_core.proofs.StepDealing as dealing
use Rattle.dkg_lives.specs.Blamed.{IsHad, IsInfoOf, first_epoch_in, opening_block, per_epoch}
use Rattle.dkg_lives.specs.Epochs.{IsLifeInForm, StandsInScript, any_shares, epoch_by}
use Rattle.dkg_lives.specs.Given.{Lived, at_step, blocks_in}
use Rattle.dkg_along.proofs.Drawn.{all_join, found_number}
use Rattle.dkg_lives.proofs.Former.{Brings, BringsBlock, BringsMail, IsMessage, brings_so, form_at}
use Rattle.dkg_lives.proofs.NextLives.{GoesOn, TakesOver, next_so}
use Rattle.dkg_lives.proofs.Started.{first_epoch_is, source_is}

abbrev U : Type 0
U = directory.Unit

none_some : {A : Type 0} (x : A) → ◌≡◌ {A = Option A} None (Some x) → ⊥
none_some x e = cc

includes_apart : ◌≡◌ {A = Stage} Includes Follows → ⊥
includes_apart e = cc

follows_apart : ◌≡◌ {A = Stage} Follows Includes → ⊥
follows_apart e = cc

-- OF ALL REQUESTS

module _ (P : ℕ → Type 0) where
  abbrev pub Each : List (Request U) → Type 0
  Each rs = AllByRecursion (λ r. P r.number) rs

  each_back : (xs ys : List (Request U)) → Each (xs ++ ys) → Each ys
  each_back [] ys each = each
  each_back (x ∷ xs) ys each = each_back xs ys each.1

  each_and_one : (xs : List (Request U)) (r : Request U) → Each xs → P r.number → Each (xs ++ r ∷ [])
  each_and_one [] r each one = (one, tt)
  each_and_one (x ∷ xs) r each one = (each.0, each_and_one xs r each.1 one)

  each_at : (xs : List (Request U)) (r : Request U) → IsAmong r xs → Each xs → P r.number
  each_at [] r among each = absurd among
  each_at (x ∷ xs) r (inl is) each = subst (λ (y : Request U). P y.number) is each.0
  each_at (x ∷ xs) r (inr among) each = each_at xs r among each.1

  each_changed : (f : Request U → Request U) (number : ℕ) → ((r : Request U) → (f r).number ≡ r.number) → (xs : List (Request U)) → Each xs → Each (map (λ r. if r.number == number then f r else r) xs)
  each_changed f number same [] each = tt
  each_changed f number same (x ∷ xs) each = (by_test (x.number == number), each_changed f number same xs each.1)
    where
      by_test : (t : Bool) → P (if t then f x else x).number
      by_test true = subst P (sym (same x)) each.0
      by_test false = each.0

  each_left : (keep : Request U → Bool) (xs : List (Request U)) → Each xs → Each (filter keep xs)
  each_left keep [] each = tt
  each_left keep (x ∷ xs) each = by_test (keep x) (each_left keep xs each.1)
    where
      by_test : (t : Bool) → Each (filter keep xs) → Each (if t then x ∷ filter keep xs else filter keep xs)
      by_test true rest = (each.0, rest)
      by_test false rest = rest

  -- P of each request, and of the one that waits
  pub record IsOfAll (i : Inclusion U) : Type 0 where
    pub queue : Each i.queue
    pub waiter : IfSome i.waiter P

  pub none_asked : (i : Inclusion U) → i.queue ≡ [] → i.waiter ≡ None → IsOfAll i
  none_asked i queue waiter = record { queue = subst Each (sym queue) tt; waiter = subst (λ (o : Option ℕ). IfSome o P) (sym waiter) tt }

  emptied : (i : Inclusion U) → IsEmptied i → IsOfAll i
  emptied i its = none_asked i its.queue its.waiter

  as_before : (i j : Inclusion U) → j.queue ≡ i.queue → j.waiter ≡ i.waiter → IsOfAll i → IsOfAll j
  as_before i j queue waiter all = record { queue = subst Each (sym queue) all.queue; waiter = subst (λ (o : Option ℕ). IfSome o P) (sym waiter) all.waiter }

  -- REQUESTS ARE READ

  read_on : (c : Fixed U) (st end : Live U) → IsReadFrom c st end → (end.inclusion.running ≡ None → end.inclusion.waiter ≡ None) → IsOfAll st.inclusion → IsOfAll end.inclusion
  read_on c st end read waits all = record { queue = each_back read.gone end.inclusion.queue (subst Each read.rest all.queue); waiter = by_running end.inclusion.running refl }
    where
      waiting : (number : ℕ) → end.inclusion.waiter ≡ Some number → P number → IfSome end.inclusion.waiter P
      waiting number is so = subst (λ (o : Option ℕ). IfSome o P) (sym is) so

      by_running : (o : Option Job) → end.inclusion.running ≡ o → IfSome end.inclusion.waiter P
      by_running None none = subst (λ (o : Option ℕ). IfSome o P) (sym (waits none)) tt
      by_running (Some job) runs = by_before st.inclusion.running refl
        where
          by_before : (o : Option Job) → st.inclusion.running ≡ o → IfSome end.inclusion.waiter P
          by_before None none =
              let its = read.starts job none runs in
              waiting (its.2.request).number its.2.waits (each_at st.inclusion.queue its.2.request its.2.among all.queue)
          by_before (Some other) ran = subst (λ (o : Option ℕ). IfSome o P) (sym (read.busy other ran).1) all.waiter

  -- WHAT AN EVENT SAYS

  -- a new request is so
  abbrev IsNew : Mail U → Type 0
  IsNew (EpochInfoOf request) = P request
  IsNew mail = Unit {0}

  module _ (st : Live U) (all : IsOfAll st.inclusion) where
    released : (height : ℕ) → IsOfAll (releases height st).inclusion
    released height = by_test (is_served_at height st)
      where
        by_test : (t : Bool) → IsOfAll (if t then with_inclusion (record st.inclusion { served = None }) st else st).inclusion
        by_test true = record { queue = all.queue; waiter = all.waiter }
        by_test false = all

    left : (request : ℕ) → IsOfAll (cancelled request st).inclusion
    left request = by_test (waits_for request st)
      where
        by_test : (t : Bool) → IsOfAll (if t then with_inclusion (record st.inclusion { waiter = None }) st else core.with_queue (filter (λ r. not (r.number == request)) st.inclusion.queue) st).inclusion
        by_test true = record { queue = all.queue; waiter = tt }
        by_test false = record { queue = each_left (λ r. not (r.number == request)) st.inclusion.queue all.queue; waiter = all.waiter }

    fed_more : (block : Block U) (r : Request U) → (if r.ended then r else record r { blocks = r.blocks ++ block ∷ [] }).number ≡ r.number
    fed_more block r = by_test r.ended
      where
        by_test : (t : Bool) → (if t then r else record r { blocks = r.blocks ++ block ∷ [] }).number ≡ r.number
        by_test true = refl
        by_test false = refl

    said : (mail : Mail U) → IsNew mail → IsOfAll (asked_by mail st).inclusion
    said (Peer from bytes) new = all
    said (NextLog request height) new = record { queue = all.queue; waiter = all.waiter }
    said (ReleaseLog height) new = released height
    said (EpochInfoOf request) new = record { queue = each_and_one st.inclusion.queue (record { number = request; blocks = []; ended = false }) all.queue new; waiter = all.waiter }
    said (Feed request block) new =
        record { queue = each_changed (λ r. if r.ended then r else record r { blocks = r.blocks ++ block ∷ [] }) request (fed_more block) st.inclusion.queue all.queue; waiter = all.waiter }
    said (Over request) new = record { queue = each_changed (λ r. record r { ended = true }) request (λ r. refl) st.inclusion.queue all.queue; waiter = all.waiter }
    said (Cancel request) new = left request
    said (Work handed) new = record { queue = all.queue; waiter = tt }

-- WHAT STAYS of a life's requests

module _ (c : Fixed U) (st : Live U) where
  taken_same : (epoch : ℕ) (d : Dealer) (player : ℕ) (ack : List ℕ) → (with_taken epoch d player ack st).inclusion ≡ st.inclusion
  taken_same epoch d player ack = by_tests (is_some (lookup player d.acks)) (is_some (recorded_at st.records.acks epoch player))
    where
      by_tests : (one two : Bool) → (if one then st else if two then counts d player ack st else counts d player ack (with_ack epoch player ack st)).inclusion ≡ st.inclusion
      by_tests true two = refl
      by_tests false true = refl
      by_tests false false = refl

  pub heard_same : (from : ℕ) (end : Live U) → IsHeardBy c st from end → end.inclusion ≡ st.inclusion
  heard_same from end (inl same) = ap (λ (x : Live U). x.inclusion) same
  heard_same from end (inr (inl its)) = ap (λ (x : Live U). x.inclusion) its.is
  heard_same from end (inr (inr its)) = ap (λ (x : Live U). x.inclusion) its.is ∙ taken_same (its.round).number its.dealer from its.ack

  cleared : (dealer : ℕ) (x : Live U) → (without_own_log c dealer x).inclusion ≡ x.inclusion
  cleared dealer x = by_test (dealer == c.me)
    where
      by_test : (t : Bool) → (if t then with_participation (record x.participation { dealer = option_map unoffered x.participation.dealer }) x else x).inclusion ≡ x.inclusion
      by_test true = refl
      by_test false = refl

  pub observed_same : (round : Round) (b : Block U) → (observed c round b st).inclusion ≡ st.inclusion
  observed_same round b = by_log (option_and_then its_log b.payload)
    where
      by_tests : (log : SignedDealerLog) (one two : Bool) → (if one then without_own_log c log.dealer (if two then st else with_log_at round.number log.dealer b.height log.log st) else st).inclusion ≡ st.inclusion
      by_tests log true true = cleared log.dealer st
      by_tests log true false = cleared log.dealer (with_log_at round.number log.dealer b.height log.log st)
      by_tests log false two = refl

      by_log : (o : Option SignedDealerLog) → (observed_log c round b st o).inclusion ≡ st.inclusion
      by_log None = refl
      by_log (Some log) = by_tests log (is_accepted c round log) (is_some (recorded_at st.records.logs round.number log.dealer))

  pub dealt_same : (b : Block U) (x : Live U) → ((dealt_behind c b x).inclusion.queue ≡ x.inclusion.queue) × ((dealt_behind c b x).inclusion.waiter ≡ x.inclusion.waiter)
  dealt_same b x = by_test (b.height + 1 == midpoint c.blocks_per_epoch x.participation.epoch)
    where
      by_test : (t : Bool) → ((if t then begins_inclusion c (with_tip b x) else with_tip b x).inclusion.queue ≡ x.inclusion.queue)
          × ((if t then begins_inclusion c (with_tip b x) else with_tip b x).inclusion.waiter ≡ x.inclusion.waiter)
      by_test true = (refl, refl)
      by_test false = (refl, refl)

-- IN A LIFE OF A SCRIPT

module _ (g : Lived) where
  -- an event made the request while the epoch was awaited that is awaited behind the first j
  pub record WasMade (j number : ℕ) : Type 0 where
    pub at : ℕ
    pub before : at < j
    pub asked : slice_get g.life.events at ≡ Some (event.Info number)
    pub same : epoch_by g at ≡ epoch_by g j

  abbrev pub AreMade : (j : ℕ) → Live U → Type 0
  AreMade j st = IsOfAll (WasMade j) st.inclusion

  -- the current info of a life that takes part is carried by a block that begins its epoch
  abbrev pub IsCarried : (j : ℕ) → Live U → Type 0
  IsCarried j st = (round : Round) → st.participation.round ≡ Some round → IsSomeAnd st.participation.current (λ info. IsInfoOf g.script g.life j st.participation.epoch info)

  -- what a life has it has behind one event more
  had_later : (j number : ℕ) → IsHad g.life j number → IsHad g.life (suc j) number
  had_later j number (inl held) = inl held
  had_later j number (inr (inl stands)) = inr (inl stands)
  had_later j number (inr (inr (k, low, came))) = inr (inr (k, omega (arith, low), came))

  pub info_later : (j epoch : ℕ) (info : EpochInfo U) → IsInfoOf g.script g.life j epoch info → IsInfoOf g.script g.life (suc j) epoch info
  info_later j epoch info its =
      record { number = its.number; had = had_later j its.number its.had; block = its.block; is = its.is; begins = its.begins; carries = its.carries; of_epoch = its.of_epoch }

module _ (g : Lived) (here : IsLifeInForm g) where
  -- A STEP

  module _ (i : ℕ) (its : Event) (is : slice_get g.life.events i ≡ Some its) (m : IsMessage g its) (st : Live U) (live : IsLiveThrough (at_step g (suc i)) any_shares st) (stands : StandsInScript g i st) (devices : Option Held)
      (end : Live U) (left : Option Held) (node : IsNodeThrough (at_step g (suc i)) any_shares st m.message devices end left) (behind : StandsInScript g (suc i) end) where
    abbrev c : Fixed U
    c = at_step g (suc i)

    abbrev mid : Live U
    mid = node.mid

    abbrev Q : ℕ → Type 0
    Q = WasMade g (suc i)

    waits : mid.inclusion.running ≡ None → mid.inclusion.waiter ≡ None
    waits = (((node.next).live).asked).has.waits

    same_part : mid.participation.stage ≡ end.participation.stage
    same_part = sym (ap (λ (x : Live U). x.participation.stage) node.same)

    pub goes : GoesOn c st m.message mid ⊎ TakesOver c any_shares st m.message devices mid left
    goes = next_so c any_shares st m.message devices mid left (form_at g here (suc i)) live node.next

    -- the same epoch is awaited, where the life takes part on
    module _ (on : GoesOn c st m.message mid) (apart : mid.participation.stage ≡ Follows → ⊥) where
      pub same_epoch : epoch_by g (suc i) ≡ epoch_by g i
      same_epoch =
          sym (behind.epoch (λ follows. apart (same_part ∙ follows))) ∙ ap (λ (x : Live U). x.participation.epoch) node.same ∙ (on.same).epoch ∙ stands.epoch (λ follows. apart (on.following follows))

      later : (number : ℕ) → WasMade g i number → Q number
      later number was = record { at = was.at; before = more was.at i was.before; asked = was.asked; same = was.same ∙ sym same_epoch }
        where
          more : (a b : ℕ) → a < b → a < suc b
          more a b low = omega (arith, low)

      all_later : (rs : List (Request U)) → Each (WasMade g i) rs → Each Q rs
      all_later [] each = tt
      all_later (r ∷ rs) each = (later r.number each.0, all_later rs each.1)

      waiter_later : (o : Option ℕ) → IfSome o (WasMade g i) → IfSome o Q
      waiter_later None was = tt
      waiter_later (Some number) was = later number was

      all_on : AreMade g i st → IsOfAll Q st.inclusion
      all_on all = record { queue = all_later st.inclusion.queue all.queue; waiter = waiter_later st.inclusion.waiter all.waiter }

      new_one : (request : ℕ) → its ≡ event.Info request → Q request
      new_one request of = record { at = i; before = itself i; asked = is ∙ ap (λ (e : Event). Some e) of; same = sym same_epoch }
        where
          itself : (a : ℕ) → a < suc a
          itself a = omega arith

      of_mail : (mail : Mail U) → IsNew Q mail → IsReadFrom c (asked_by mail st) mid → AreMade g i st → IsOfAll Q mid.inclusion
      of_mail mail new read all = read_on Q c (asked_by mail st) mid read waits (said Q st (all_on all) mail new)

      by_event : (e : Event) → its ≡ e → (message : Message U) → Brings g e message → IsEndThrough c any_shares st message devices mid left → AreMade g i st → IsOfAll Q mid.inclusion
      by_event (event.Peer from bytes) of message brings next all =
          let same = heard_same c st from mid (subst (λ (x : Message U). IsEndThrough c any_shares st x devices mid left) brings next) in
          as_before Q st.inclusion mid.inclusion (ap (λ (x : Inclusion U). x.queue) same) (ap (λ (x : Inclusion U). x.waiter) same) (all_on all)
      by_event (event.Final number) of message brings next all =
          at_block (brings.0).block (subst (λ (x : Message U). IsEndThrough c any_shares st x devices mid left) brings.1 next)
        where
          at_block : (b : Block U) → IsBlockThrough c any_shares b st devices (judged_block c b st) mid left → IsOfAll Q mid.inclusion
          at_block b block_end = by_judged (judged_block c b st) block_end
            where
              unmoved : mid.inclusion ≡ st.inclusion → IsOfAll Q mid.inclusion
              unmoved same = as_before Q st.inclusion mid.inclusion (ap (λ (x : Inclusion U). x.queue) same) (ap (λ (x : Inclusion U). x.waiter) same) (all_on all)

              followed : (t : Bool) → IsFollowedThrough c any_shares b st devices t mid left → IsOfAll Q mid.inclusion
              followed true passed = emptied Q mid.inclusion passed.emptied
              followed false same = unmoved (ap (λ (x : Live U). x.inclusion) same)

              includes : (t : Bool) → IsIncludedThrough c any_shares b st devices t mid left → IsOfAll Q mid.inclusion
              includes true passed = emptied Q mid.inclusion passed.emptied
              includes false read =
                  let same = observed_same c st read.0 b in
                  read_on Q c (included c read.0 b st) mid read.2 waits
                  (as_before Q st.inclusion (included c read.0 b st).inclusion (ap (λ (x : Inclusion U). x.queue) same) (ap (λ (x : Inclusion U). x.waiter) same) (all_on all))

              dealt : IsReadFrom c (dealt_behind c b (given_itself c st)) mid → IsOfAll Q mid.inclusion
              dealt read =
                  let given = (dealing.given_same c st).inclusion in
                  let same = dealt_same c st b (given_itself c st) in
                  read_on Q c (dealt_behind c b (given_itself c st)) mid read waits
                  (as_before Q st.inclusion (dealt_behind c b (given_itself c st)).inclusion (same.0 ∙ ap (λ (x : Inclusion U). x.queue) given) (same.1 ∙ ap (λ (x : Inclusion U). x.waiter) given) (all_on all))

              by_stage : (stage : Stage) → IsAppliedThrough c any_shares b st devices stage mid left → IsOfAll Q mid.inclusion
              by_stage Deals read = dealt read
              by_stage Includes its_end = includes (is_last_height c b.height) its_end
              by_stage Follows its_end = followed (is_last_height c b.height) its_end
              by_stage Ends none = absurd none

              by_judged : (j : Judged) → IsBlockThrough c any_shares b st devices j mid left → IsOfAll Q mid.inclusion
              by_judged (Refusal fault) none = absurd none
              by_judged Passed same = unmoved (ap (λ (x : Live U). x.inclusion) same.0)
              by_judged Applied applied = by_stage st.participation.stage applied
      by_event (event.Next request height) of message brings next all = of_mail (NextLog request height) tt (subst (λ (x : Message U). IsEndThrough c any_shares st x devices mid left) brings next).0 all
      by_event (event.Release height) of message brings next all = of_mail (ReleaseLog height) tt (subst (λ (x : Message U). IsEndThrough c any_shares st x devices mid left) brings next).0 all
      by_event (event.Info request) of message brings next all =
          of_mail (EpochInfoOf request) (new_one request of) (subst (λ (x : Message U). IsEndThrough c any_shares st x devices mid left) brings next).0 all
      by_event (event.Feed request number) of message brings next all =
          of_mail (Feed request (brings.0).block) tt (subst (λ (x : Message U). IsEndThrough c any_shares st x devices mid left) brings.1 next).0 all
      by_event (event.Over request) of message brings next all = of_mail (Over request) tt (subst (λ (x : Message U). IsEndThrough c any_shares st x devices mid left) brings next).0 all
      by_event (event.Cancel request) of message brings next all = of_mail (Cancel request) tt (subst (λ (x : Message U). IsEndThrough c any_shares st x devices mid left) brings next).0 all
      by_event event.Work of message brings next all = of_mail (Work None) tt (subst (λ (x : Message U). IsEndThrough c any_shares st x devices mid left) brings next).0 all
      by_event other of message brings next all = absurd brings

    beside : IsOfAll Q mid.inclusion → AreMade g (suc i) end
    beside all = subst (λ (x : Inclusion U). IsOfAll Q x) (sym (ap (λ (x : Live U). x.inclusion) node.same)) all

    -- each request that is left was made so
    pub step_made : AreMade g i st → AreMade g (suc i) end
    step_made all = beside (either goes)
      where
        of_stage : GoesOn c st m.message mid → (stage : Stage) → mid.participation.stage ≡ stage → IsOfAll Q mid.inclusion
        of_stage on Follows stage =
            let has = (((node.next).live).asked).has in
            none_asked Q mid.inclusion (has.none stage) (has.waits (has.early (λ includes. follows_apart (sym stage ∙ includes))).0)
        of_stage on Deals stage = by_event on (λ follows. let no : ◌≡◌ {A = Stage} Deals Follows = sym stage ∙ follows in cc) its refl m.message m.brings (node.next).is all
        of_stage on Includes stage = by_event on (λ follows. includes_apart (sym stage ∙ follows)) its refl m.message m.brings (node.next).is all
        of_stage on Ends stage = by_event on (λ follows. let no : ◌≡◌ {A = Stage} Ends Follows = sym stage ∙ follows in cc) its refl m.message m.brings (node.next).is all

        either : GoesOn c st m.message mid ⊎ TakesOver c any_shares st m.message devices mid left → IsOfAll Q mid.inclusion
        either (inl on) = of_stage on mid.participation.stage refl
        either (inr over) = emptied Q mid.inclusion (over.taken).emptied

    begins_next : (n height epoch : ℕ) → (height == last n (epoch_of n height)) ≡ true → epoch ≡ epoch_of n height + 1 → height ≡ boundary n epoch
    begins_next n height epoch ends next = same_number height (last n (epoch_of n height)) ends ∙ sym (ap (boundary n) (next ∙ plus_one (epoch_of n height)))
      where
        same_number : (a b : ℕ) → (a == b) ≡ true → a ≡ b
        same_number a b e = grind (arith, nat_tests)

        plus_one : (a : ℕ) → a + 1 ≡ suc a
        plus_one a = omega arith

    -- a last block begins the epoch whose info it carries
    of_last : (block : Block U) (info : EpochInfo U) (epoch : ℕ) → is_last_height c block.height ≡ true → info.epoch ≡ next_epoch c block → info_of block.payload ≡ Some info → info.epoch ≡ epoch → (number : ℕ)
        → slice_get (blocks_in g.script) number ≡ Some block → its ≡ event.Final number → IsInfoOf g.script g.life (suc i) epoch info
    unfolding at_step
    of_last block info epoch last_one of_next carries same number there of = record {
      number = number;
      had = inr (inr (i, omega arith, is ∙ ap (λ (x : Event). Some x) of));
      block = block;
      is = there;
      begins = begins_next (per_epoch g.script) block.height epoch last_one (sym same ∙ of_next);
      carries = carries;
      of_epoch = same;
    }

    -- .. and the info by which it takes part is carried
    pub step_carried : IsCarried g i st → IsCarried g (suc i) end
    step_carried was round of_end = subst (λ (x : Live U). IsSomeAnd x.participation.current (λ info. IsInfoOf g.script g.life (suc i) x.participation.epoch info)) (sym node.same) (either goes)
      where
        of : mid.participation.round ≡ Some round
        of = sym (ap (λ (x : Live U). x.participation.round) node.same) ∙ of_end

        still : GoesOn c st m.message mid → IsSomeAnd mid.participation.current (λ info. IsInfoOf g.script g.life (suc i) mid.participation.epoch info)
        still on =
            subst (λ (o : Option (EpochInfo U)). IsSomeAnd o (λ info. IsInfoOf g.script g.life (suc i) mid.participation.epoch info)) (sym (on.same).current)
            (subst (λ (epoch : ℕ). IsSomeAnd st.participation.current (λ info. IsInfoOf g.script g.life (suc i) epoch info)) (sym (on.same).epoch)
            (later st.participation.current (was round (sym (on.same).round ∙ of))))
          where
            later : (o : Option (EpochInfo U)) → IsSomeAnd o (λ info. IsInfoOf g.script g.life i st.participation.epoch info) → IsSomeAnd o (λ info. IsInfoOf g.script g.life (suc i) st.participation.epoch info)
            later (Some info) its_info = info_later g i st.participation.epoch info its_info
            later None its_info = its_info

        taken : TakesOver c any_shares st m.message devices mid left → IsSomeAnd mid.participation.current (λ info. IsInfoOf g.script g.life (suc i) mid.participation.epoch info)
        taken over = by_brought (brings_so g its m.message m.brings)
          where
            on : IsCarriedOn c any_shares over.block st devices
            on = (over.taken).on

            current : mid.participation.current ≡ Some on.info
            current = ((over.taken).seated).current

            epoch : on.info.epoch ≡ mid.participation.epoch
            epoch = (subst (λ (o : Option (EpochInfo U)). IsSomeAnd o (λ info. (info.epoch ≡ mid.participation.epoch) × (validity c info ≡ Ok tt) × (round_for c mid.participation.epoch info ≡ Ok round))) current
                (((node.next).live).informed round of)).0

            of_block : (number : ℕ) → slice_get (blocks_in g.script) number ≡ Some over.block → its ≡ event.Final number → IsInfoOf g.script g.life (suc i) mid.participation.epoch on.info
            of_block number there of_it = of_last over.block on.info mid.participation.epoch over.last on.of_next on.carried epoch number there of_it

            the_block : {x y : Block U} → ◌≡◌ {A = Message U} (Finalized x) (Finalized y) → x ≡ y
            the_block e = cc

            by_brought : BringsBlock g its m.message ⊎ BringsMail its m.message → IsSomeAnd mid.participation.current (λ info. IsInfoOf g.script g.life (suc i) mid.participation.epoch info)
            by_brought (inr mail) = absurd (let wrong : ◌≡◌ {A = Message U} (Mailed mail.0) (Finalized over.block) = sym mail.1 ∙ over.is in cc)
            by_brought (inl b) = subst (λ (o : Option (EpochInfo U)). IsSomeAnd o (λ info. IsInfoOf g.script g.life (suc i) mid.participation.epoch info)) (sym current)
                (of_block b.0 ((b.1).is ∙ ap (λ (x : Block U). Some x) (the_block (sym b.3 ∙ over.is))) b.2)

        either : GoesOn c st m.message mid ⊎ TakesOver c any_shares st m.message devices mid left → IsSomeAnd mid.participation.current (λ info. IsInfoOf g.script g.life (suc i) mid.participation.epoch info)
        either (inl on) = still on
        either (inr over) = taken over

  -- AN OPENING

  -- what a life holds or stands at it has from its opening on
  all_had : AllByRecursion (IsHad g.life 0) (g.life.held ++ option_to_list (option_map anchor_number g.life.anchor))
  all_had = all_join (IsHad g.life 0) g.life.held (option_to_list (option_map anchor_number g.life.anchor))
      (all_more (Contains g.life.held) (IsHad g.life 0) (λ number among. inl among) g.life.held (contained g.life.held)) (by_anchor (option_map anchor_number g.life.anchor) refl)
    where
      all_more : (P Q : ℕ → Type 0) → ((n : ℕ) → P n → Q n) → (ns : List ℕ) → AllByRecursion P ns → AllByRecursion Q ns
      all_more P Q more [] all = tt
      all_more P Q more (n ∷ ns) all = (more n all.0, all_more P Q more ns all.1)

      contained : (ns : List ℕ) → AllByRecursion (Contains ns) ns
      contained [] = tt
      contained (n ∷ ns) = ((0, first (length ns), refl), all_more (Contains ns) (Contains (n ∷ ns)) (λ x among. (suc among.0, next among.0 (length ns) among.1, among.2)) ns (contained ns))
        where
          first : (a : ℕ) → 0 < suc a
          first a = omega arith

          next : (a b : ℕ) → a < b → suc a < suc b
          next a b low = omega (arith, low)

      by_anchor : (o : Option ℕ) → option_map anchor_number g.life.anchor ≡ o → AllByRecursion (IsHad g.life 0) (option_to_list o)
      by_anchor None stands = tt
      by_anchor (Some number) stands = (inr (inl stands), tt)

  pub first_block_same : first_block (at_step g 0) ≡ opening_block g.script g.number g.life
  unfolding at_step
  first_block_same =
      ap (λ (epoch : ℕ). (at_step g 0).source.block (boundary (per_epoch g.script) epoch)) (first_epoch_is g here 0)
      ∙ ap (find (λ (b : Block U). b.height == boundary (per_epoch g.script) (first_epoch_in g.script g.number g.life))) (source_is (alone g.script) 0 g.life)

  module _ (seen : Seen) (k : Held) (st : Live U) (begun : IsNodeBegun (at_step g 0) seen k st) where
    abbrev before : Live U
    before = begun.before

    same : st ≡ core.with_orchestrator st.orchestrator before
    same = (begun.entered).same

    -- nothing is asked yet
    pub opening_made : AreMade g 0 st
    opening_made =
        let idle = ((begun.opened).live).idle in
        none_asked (WasMade g 0) st.inclusion (ap (λ (x : Live U). x.inclusion.queue) same ∙ ap (λ (x : Inclusion U). x.queue) idle)
        (ap (λ (x : Live U). x.inclusion.waiter) same ∙ ap (λ (x : Inclusion U). x.waiter) idle)

    module _ (live : IsLiveThrough (at_step g 0) any_shares st) where
      abbrev Known : EpochInfo U → Type 0
      Known info = IsInfoOf g.script g.life 0 st.participation.epoch info

      pub opening_carried : IsCarried g 0 st
      opening_carried round of = by_block (opening_block g.script g.number g.life) refl (subst (IsSetUpIn (at_step g 0) seen k before) first_block_same (begun.opened).set_up)
        where
          by_info : (b : Block U) → opening_block g.script g.number g.life ≡ Some b → (o : Option (EpochInfo U)) → info_of b.payload ≡ o
              → IsSomeAnd o (λ info. IsSeated (at_step g 0) Uncommitted info (share_read (at_step g 0) info k) (seed_read (at_step g 0) info k) (started (at_step g 0) seen) before) → IsSomeAnd st.participation.current Known
          by_info b there None carries none = absurd none
          by_info b there (Some info) carries seated =
              let current : st.participation.current ≡ Some info = ap (λ (x : Live U). x.participation.current) same ∙ seated.current in
              let epoch : info.epoch ≡ st.participation.epoch
              = (subst (λ (o : Option (EpochInfo U)). IsSomeAnd o (λ x. (x.epoch ≡ st.participation.epoch) × (validity (at_step g 0) x ≡ Ok tt) × (round_for (at_step g 0) st.participation.epoch x ≡ Ok round))) current
              (live.informed round of)).0 in
              let found = found_number (blocks_in g.script) (boundary (per_epoch g.script) (first_epoch_in g.script g.number g.life)) (IsHad g.life 0) b (g.life.held ++ option_to_list (option_map anchor_number g.life.anchor)) all_had there in
              let first : st.participation.epoch ≡ first_epoch_in g.script g.number g.life = sym epoch ∙ seated.of_epoch ∙ first_epoch_is g here 0 in
              subst (λ (o : Option (EpochInfo U)). IsSomeAnd o Known) (sym current) (record {
                number = found.0;
                had = found.2;
                block = b;
                is = found.1;
                begins = found.3 ∙ ap (boundary (per_epoch g.script)) (sym first);
                carries = carries;
                of_epoch = epoch;
              })

          by_block : (o : Option (Block U)) → opening_block g.script g.number g.life ≡ o → IsSetUpIn (at_step g 0) seen k before o → IsSomeAnd st.participation.current Known
          by_block None there set_up = absurd (none_some round (sym set_up.0 ∙ sym (ap (λ (x : Live U). x.participation.round) same) ∙ of))
          by_block (Some b) there set_up = by_info b there (info_of b.payload) refl set_up
