-- What a block leaves of a life that includes: its log is looked at, and requests are read over the new tip.
use Rattle.std.proofs.Common.{◌≡◌, ◌≤◌, ◌<◌, ◌⊎◌, inl, inr, ℕ, Bool, true, false, List, Option, Some, None, refl, sym, ◌∙◌, ap, subst, arith}
use Rattle.std.specs.Prelude.{◌+◌, ◌-◌, ◌*◌, ◌==◌, nat_le, if◌then◌else◌, is_some, option_map, option_and_then, IsSomeAnd, Ok}
use Rattle.std.proofs.lemmas.Bool.Decides.{nat_tests}
use Rattle.dkg_ceremony.specs.declared.round.RoundParts.{RoundParts as Round}
use Rattle.dkg_ceremony.specs.declared.signed_log.SignedDealerLog.{SignedDealerLog}
use Rattle.dkg_ceremony.specs.Schedule.{epoch_of, midpoint, last, phase_at}
use Rattle.dkg_types.specs.Blocks.{Block}
use Rattle.dkg_infos.specs.declared.fault.Fault.{Fault}
use Rattle.dkg_infos.specs.declared.info.EpochInfo.{EpochInfo}
use Rattle.dkg_types.specs.PayloadCodes.{its_log}
use Rattle.dkg_journal.specs.Operations.{Appends}
use Rattle.dkg_store.specs.Acts.{Held, OnDisk, held_after}
use Rattle.dkg_store.specs.Events.{event_spelling}
use Rattle.dkg_store.specs.Recorded.{Pair}
use Rattle.dkg_core.specs.Courses.{Course, Goes, bind}
use Rattle.dkg_core.specs.Fixed.{Fixed}
use Rattle.dkg_core.specs.Live.{Live, Records, Dealer, Inclusion, Stage, Includes, Follows, Deals, recorded_at, phase_of, is_last_height, with_tip, with_inclusion, with_participation}
use Rattle.dkg_core.specs.Logs.{is_accepted, carried_log_event}
use Rattle.dkg_core.specs.Dealing as d
use Rattle.dkg_core.specs.Including.{advanced}
use Rattle.dkg_core.specs.Blocks as b
use Rattle.dkg_core.specs.Endings.{stage_in, validity}
use Rattle.dkg_core.specs.Forms.{IsForm, IsMine, IsLiveIn, ComesOver, FindsHeld, round_for}
use Rattle.dkg_core.specs.Asked.{OfShares, ReadsShare, IsArtifactIn, IsResultIn, IsJobIn, InRound, HasAsked, IsInformed, IsDeriveStop, IsAskStop, IsReadOn}
use Rattle.dkg_core.specs.Through.{unasked, IsLiveThrough, IsReadFrom, observed_log, observed, included, StepReads}
use Rattle.dkg_core.proofs.Advancing.{advances_lead, included as asked_in}
use Rattle.dkg_core.proofs.Counting.{some_is}
use Rattle.dkg_core.proofs.Heights.{epoch_is, epoch_from, epoch_to}
use Rattle.dkg_core.proofs.Setups.{over_as, over_behind}
use Rattle.dkg_core.proofs.StepDealing.{stage_later}

none_apart : {A : Type 0} (a : A) → ◌≡◌ {A = Option A} None (Some a) → ⊥
none_apart a e = cc

includes_apart : ◌≡◌ {A = Stage} Includes Follows → ⊥
includes_apart e = cc

includes_late : ◌≡◌ {A = Stage} Includes Deals → ⊥
includes_late e = cc

-- HEIGHTS

-- the height above one that isn't its epoch's last
next_within : (n h : ℕ) → 1 ≤ n → (h == last n (epoch_of n h)) ≡ false → epoch_of n (h + 1) ≡ epoch_of n h
next_within n h some other = epoch_is n (epoch_of n h) (h + 1) (above (epoch_of n h * n) h (epoch_from n h)) (under (epoch_of n h * n) n h some (epoch_to n h some) other)
  where
    above : (m h : ℕ) → m ≤ h → m ≤ h + 1
    above m h low = omega (arith, low)

    apart : (m n h : ℕ) → (h == m + n - 1) ≡ false → h ≡ m + n - 1 → ⊥
    apart m n h e is = grind (arith, nat_tests)

    under : (m n h : ℕ) → 1 ≤ n → h < m + n → (h == m + n - 1) ≡ false → h + 1 < m + n
    under m n h some low e = omega (arith, some, low, apart m n h e)

one_above : (m h : ℕ) → m ≤ h → m ≤ h + 1
one_above m h low = omega (arith, low)

-- REQUESTS THAT WERE READ

-- what is asked of a reading's life stands beside its requests
pub read_from : {Dir : Type 0} (c : Fixed Dir) (stored : OfShares) (st end : Live Dir) → IsReadOn c stored st end → IsReadFrom c st end
read_from c stored st end its = record {
  same = its.same;
  used = its.used;
  gone = its.gone;
  rest = its.rest;
  busy = λ job e. (ap (λ (x : Live _). x.inclusion.running) (its.busy job e) ∙ e, ap (λ (x : Live _). x.inclusion.waiter) (its.busy job e));
  starts = its.starts;
}

pub live_read : {Dir : Type 0} (c : Fixed Dir) (stored : OfShares) (st end : Live Dir) → IsLiveIn c (unasked st) → IsInformed c st → IsReadOn c stored st end → IsLiveThrough c stored end
live_read c stored st end stands informed its = record {
  stands = subst (λ (x : Live _). IsLiveIn c (unasked x)) (sym its.same) stands;
  informed = subst (λ (x : Live _). IsInformed c x) (sym its.same) informed;
  asked = its.asked;
}

-- what is known of an info follows from the epoch, the round and the info
pub informed_as : {Dir : Type 0} (c : Fixed Dir) (st end : Live Dir) → end.participation.round ≡ st.participation.round → end.participation.current ≡ st.participation.current
    → end.participation.epoch ≡ st.participation.epoch → IsInformed c st → IsInformed c end
informed_as {Dir} c st end of_round current epoch informed round is =
    subst (λ (o : Option (EpochInfo Dir)). IsSomeAnd o (λ info. (info.epoch ≡ end.participation.epoch) × (validity c info ≡ Ok tt) × (round_for c end.participation.epoch info ≡ Ok round))) (sym current)
    (subst (λ (n : ℕ). IsSomeAnd st.participation.current (λ info. (info.epoch ≡ n) × (validity c info ≡ Ok tt) × (round_for c n info ≡ Ok round))) (sym epoch) (informed round (sym of_round ∙ is)))

-- WHAT IS LEFT BY A LOOK AT A LOG

-- Of what is recorded no dealing has changed, and the own dealer at most offers its log no more.
pub record IsObserved {Dir : Type 0} (st end : Live Dir) : Type 0 where
  pub epoch : end.participation.epoch ≡ st.participation.epoch
  pub stage : end.participation.stage ≡ st.participation.stage
  pub round : end.participation.round ≡ st.participation.round
  pub seat : end.participation.seat ≡ st.participation.seat
  pub current : end.participation.current ≡ st.participation.current
  pub dealings : end.records.dealings ≡ st.records.dealings
  pub tip : end.tip ≡ st.tip
  pub inclusion : end.inclusion ≡ st.inclusion
  pub orchestrator : end.orchestrator ≡ st.orchestrator
  pub probe : end.probe ≡ st.probe
  pub mine : (dealer : Dealer) → end.participation.dealer ≡ Some dealer
      → (before : Dealer) × (st.participation.dealer ≡ Some before) × ((dealer ≡ before) ⊎ (dealer ≡ b.unoffered before))

module _ {Dir : Type 0} (c : Fixed Dir) (round : Round) (block : Block Dir) (st : Live Dir) where
  abbrev Mine : Option Dealer → Type 0
  Mine found = (dealer : Dealer) → found ≡ Some dealer → (before : Dealer) × (st.participation.dealer ≡ Some before) × ((dealer ≡ before) ⊎ (dealer ≡ b.unoffered before))

  unoffered_mine : (its : Option Dealer) → st.participation.dealer ≡ its → Mine (option_map b.unoffered its)
  unoffered_mine None is dealer e = absurd (none_apart dealer e)
  unoffered_mine (Some before) is dealer e = (before, is, inr (sym (some_is (b.unoffered before) dealer e)))

  made : (records : Records) → records.dealings ≡ st.records.dealings → (its : Option Dealer) → Mine its
      → IsObserved st (record st { records = records; participation = record st.participation { dealer = its } })
  made records dealings its mine = record {
    epoch = refl;
    stage = refl;
    round = refl;
    seat = refl;
    current = refl;
    dealings = dealings;
    tip = refl;
    inclusion = refl;
    orchestrator = refl;
    probe = refl;
    mine = mine;
  }

  same_mine : Mine st.participation.dealer
  same_mine dealer e = (dealer, e, inl refl)

  of_log : (log : SignedDealerLog) (accepted kept own : Bool)
      → IsObserved st (if accepted then (let now : Live Dir = if kept then st else b.with_log_at round.number log.dealer block.height log.log st in
      if own then with_participation (record now.participation { dealer = option_map b.unoffered now.participation.dealer }) now else now) else st)
  of_log log true true true = made st.records refl (option_map b.unoffered st.participation.dealer) (unoffered_mine st.participation.dealer refl)
  of_log log true true false = made st.records refl st.participation.dealer same_mine
  of_log log true false true =
      made (b.with_log_at round.number log.dealer block.height log.log st).records refl (option_map b.unoffered st.participation.dealer) (unoffered_mine st.participation.dealer refl)
  of_log log true false false = made (b.with_log_at round.number log.dealer block.height log.log st).records refl st.participation.dealer same_mine
  of_log log false kept own = made st.records refl st.participation.dealer same_mine

  by_log : (found : Option SignedDealerLog) → IsObserved st (observed_log c round block st found)
  by_log None = made st.records refl st.participation.dealer same_mine
  by_log (Some log) = of_log log (is_accepted c round log) (is_some (recorded_at st.records.logs round.number log.dealer)) (log.dealer == c.me)

  pub is_observed : IsObserved st (observed c round block st)
  is_observed = by_log (option_and_then its_log block.payload)

  -- The course touches the devices by one record at most.
  abbrev pub Few : Option Held → Option Held → Type 0
  Few devices left = (left ≡ devices) ⊎ ((epoch : ℕ) × (bytes : List ℕ) × (left ≡ option_map (held_after (OnDisk (Appends (epoch, bytes)))) devices))

  abbrev pub Never : Fault → Type 0
  Never fault = ⊥

  log_comes : (devices : Option Held) (log : SignedDealerLog) (accepted kept : Bool)
      → ComesOver {Dir = Dir} Never (λ end left. (end ≡ (if accepted then b.without_own_log c log.dealer (if kept then st else b.with_log_at round.number log.dealer block.height log.log st) else st)) × Few devices left)
      (if accepted then bind (if kept then Goes st else d.appends round.number (carried_log_event log.dealer block.height log.log) (Goes (b.with_log_at round.number log.dealer block.height log.log st)))
      (λ now. Goes (b.without_own_log c log.dealer now)) else Goes st) devices
  log_comes devices log true true = (refl, inl refl)
  log_comes devices log true false = (refl, inr (round.number, event_spelling (carried_log_event log.dealer block.height log.log), refl))
  log_comes devices log false kept = (refl, inl refl)

  pub observes_comes : (devices : Option Held) (found : Option SignedDealerLog)
      → ComesOver Never (λ end left. (end ≡ observed_log c round block st found) × Few devices left) (b.observes c round block st found) devices
  observes_comes devices None = (refl, inl refl)
  observes_comes devices (Some log) = log_comes devices log (is_accepted c round log) (is_some (recorded_at st.records.logs round.number log.dealer))

-- A BLOCK BELOW THE LAST

module _ {Dir : Type 0} (c : Fixed Dir) (form : IsForm c) (stored : OfShares) (block : Block Dir) (st : Live Dir) (live : IsLiveThrough c stored st) (includes : st.participation.stage ≡ Includes)
    (here : st.participation.epoch ≡ epoch_of c.blocks_per_epoch block.height) (high : midpoint c.blocks_per_epoch (epoch_of c.blocks_per_epoch block.height) ≤ block.height)
    (below : is_last_height c block.height ≡ false) (round : Round) (of_epoch : st.participation.round ≡ Some round) where
  abbrev mid : Live Dir
  mid = observed c round block st

  same : IsObserved st mid
  same = is_observed c round block st

  -- over the new tip, with an inclusion
  abbrev over : Inclusion Dir → Live Dir
  over i = with_inclusion i (with_tip block mid)

  -- the life whose dealings are these
  abbrev with_dealings : List Pair → Live Dir
  with_dealings dealings = record st { records = record st.records { dealings = dealings } }

  next : epoch_of c.blocks_per_epoch (block.height + 1) ≡ epoch_of c.blocks_per_epoch block.height
  next = next_within c.blocks_per_epoch block.height form.counted below

  stands : IsLiveIn c (unasked (with_tip block mid))
  stands = record {
    awaits = λ apart. same.epoch ∙ here ∙ sym next;
    in_round = λ other e. same.stage ∙ includes ∙ sym later;
    without = λ none. absurd (includes_apart (sym includes ∙ (live.stands.without (sym same.round ∙ none)).0));
    mine = its_mine;
    numbered = λ other e. live.stands.numbered other (sym same.round ∙ e) ∙ sym same.epoch;
    idle = refl;
  }
    where
      later : stage_in (phase_of c (block.height + 1)) ≡ Includes
      later =
          ap (λ (epoch : ℕ). stage_in (phase_at (midpoint c.blocks_per_epoch epoch) (block.height + 1))) next
          ∙ stage_later (midpoint c.blocks_per_epoch (epoch_of c.blocks_per_epoch block.height)) (block.height + 1) (one_above (midpoint c.blocks_per_epoch (epoch_of c.blocks_per_epoch block.height)) block.height high)

      as_before : (dealer before : Dealer) → (dealer ≡ before) ⊎ (dealer ≡ b.unoffered before) → (its : Round) → IsMine c its st.participation.stage before → IsMine c its mid.participation.stage dealer
      as_before dealer before (inl is) its mine = subst (λ (x : Dealer). IsMine c its mid.participation.stage x) (sym is) (subst (λ (stage : Stage). IsMine c its stage before) (sym same.stage) mine)
      as_before dealer before (inr is) its mine =
          subst (λ (x : Dealer). IsMine c its mid.participation.stage x) (sym is)
          (record { member = mine.member; share = mine.share; seed = mine.seed; dealt = mine.dealt; passed = mine.passed; unsigned = λ deals. refl })

      its_mine : (dealer : Dealer) → mid.participation.dealer ≡ Some dealer → (its : Round) × (mid.participation.round ≡ Some its) × IsMine c its mid.participation.stage dealer
      its_mine dealer e =
          let was = same.mine dealer e in
          let mine = live.stands.mine was.0 was.1 in
          (mine.0, same.round ∙ mine.1, as_before dealer was.0 was.2 mine.0 mine.2)

  pub informed : IsInformed c (with_tip block mid)
  informed = informed_as c st mid same.round same.current same.epoch live.informed

  -- what was asked is what it was: no dealing has changed
  pub asked : (served : Option ℕ) → HasAsked c stored (over (record mid.inclusion { served = served }))
  asked served =
      let has = live.asked.has in
      asked_in c stored (with_tip block mid) (record mid.inclusion { served = served }) (same.stage ∙ includes)
      (λ none. ap (λ (i : Inclusion Dir). i.waiter) same.inclusion ∙ has.waits (sym (ap (λ (i : Inclusion Dir). i.running) same.inclusion) ∙ none))
      (λ job e. let its = has.runs job (sym (ap (λ (i : Inclusion Dir). i.running) same.inclusion) ∙ e) in
      (its.0, same.round ∙ its.1, subst (λ (ds : List Pair). IsJobIn c its.0 (with_dealings ds) job) (sym same.dealings) its.2))
      (λ r e. let its = has.kept r (sym (ap (λ (i : Inclusion Dir). i.retained) same.inclusion) ∙ e) in
      (its.0, same.round ∙ its.1, subst (λ (ds : List Pair). IsResultIn c its.0 (with_dealings ds) r) (sym same.dealings) its.2))
      (λ d e. let its = has.made d (sym (ap (λ (i : Inclusion Dir). i.cached) same.inclusion) ∙ e) in
      (its.0, its.1, same.round ∙ its.2, same.current ∙ its.3, subst (λ (ds : List Pair). IsArtifactIn c stored its.0 its.1 (with_dealings ds) d.logs d.artifact) (sym same.dealings) its.4))

  abbrev at : Live Dir
  at = included c round block st

  stopped : (fault : Fault) → IsAskStop c at fault → IsAskStop c st fault
  stopped fault stop =
      (stop.0, stop.1, sym same.round ∙ stop.2, sym same.current ∙ stop.3, subst (λ (ds : List Pair). IsDeriveStop c stop.0 stop.1 (with_dealings ds) fault) same.dealings stop.4)

  module _ (devices : Option Held) (reads : StepReads c stored devices) where
    abbrev To : Live Dir → Option Held → Type 0
    To end left = IsLiveThrough c stored end × InRound st (λ round. IsReadFrom c (included c round block st) end)

    reads_at : (left : Option Held) → Few c round block st devices left → ReadsShare c stored left
    reads_at left (inl is) h epoch found = reads h epoch (inl (subst (λ (o : Option Held). FindsHeld o h) is found))
    reads_at left (inr more) h epoch found = reads h epoch (inr (more.0, more.1, subst (λ (o : Option Held). FindsHeld o h) more.2 found))

    behind : (left : Option Held) → Few c round block st devices left → ComesOver (IsAskStop c st) To (advanced c at) left
    behind left few =
        over_as (IsAskStop c at) (IsAskStop c st) (λ end last. (last ≡ left) × IsReadOn c stored at end) To (advanced c at) left stopped
        (λ end last its. (live_read c stored at end stands informed its.1, (round, of_epoch, read_from c stored at end its.1)))
        (advances_lead c stored at left form (λ r e. reads_at left few) informed (asked (option_and_then (λ served. if nat_le served block.height then None else Some served) mid.inclusion.served)))

    pub includes_comes : ComesOver (IsAskStop c st) To (b.includes c round block st) devices
    includes_comes =
        let next : Live Dir → Course Dir Fault (Live Dir) = λ now. advanced c (with_tip block (b.unserved block.height now)) in
        over_behind (IsAskStop c st) (λ end left. (end ≡ mid) × Few c round block st devices left) To (b.observes c round block st (option_and_then its_log block.payload)) next devices
        (over_as (Never c round block st) (IsAskStop c st) (λ end left. (end ≡ mid) × Few c round block st devices left) (λ end left. (end ≡ mid) × Few c round block st devices left)
        (b.observes c round block st (option_and_then its_log block.payload)) devices (λ fault never. absurd never) (λ end left its. its) (observes_comes c round block st devices (option_and_then its_log block.payload)))
        (λ end left its. subst (λ (x : Live Dir). ComesOver (IsAskStop c st) To (next x) left) (sym its.0) (behind left its.1))
