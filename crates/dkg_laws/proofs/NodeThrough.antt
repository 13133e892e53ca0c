-- How a node's steps end, whose life passes through whole epochs.
use Rattle.std.proofs.Common.{◌≡◌, ◌≤◌, ◌<◌, ◌⊎◌, inl, inr, ℕ, Bool, true, false, nat_le, Option, Some, None, IsSome, refl, sym, ◌∙◌, ap, subst, arith}
use Rattle.std.specs.Prelude.{◌+◌, ◌-◌, ◌*◌, ◌==◌, ◌||◌, max, nat_lt, if◌then◌else◌, is_some, IsSomeAnd, Ok}
use Rattle.std.specs.Option.{option_map_or}
use Rattle.std.proofs.Math.Nat.{le-max_right}
use Rattle.std.proofs.lemmas.Bool.Decides.{nat_tests}
use Rattle.dkg_values.specs.Rising.{lookup}
use Rattle.dkg_ceremony.specs.declared.phase.Phase.{Phase}
use Rattle.dkg_ceremony.specs.declared.phase.Phase.TheVariants.{Early, Midpoint, Late}
use Rattle.dkg_ceremony.specs.declared.round.RoundParts.{RoundParts as Round}
use Rattle.dkg_ceremony.specs.Schedule.{epoch_of, midpoint, last}
use Rattle.dkg_fence.specs.declared.fence.Waited.{Waited}
use Rattle.dkg_fence.specs.declared.fence.Waited.TheVariants as waits
use Rattle.dkg_fence.specs.Fence.{marked, raised, unreached, waited}
use Rattle.dkg_types.specs.Blocks.{Block}
use Rattle.dkg_types.specs.BlockCodes.{info_of}
use Rattle.dkg_infos.specs.declared.entry.Entry.TheVariants.{Acked, Entered}
use Rattle.dkg_infos.specs.declared.fault.Fault.TheVariants.{MissingEpochInfo, WrongEpoch, SkippedHeight}
use Rattle.dkg_infos.specs.declared.info.EpochInfo.{EpochInfo}
use Rattle.dkg_types.specs.declared.scheme.SchemeInfo.{SchemeInfo}
use Rattle.dkg_store.specs.Acts.{Held}
use Rattle.dkg_core.specs.Courses.{Course, Say, Goes, Stops, Genesis, bind, under}
use Rattle.dkg_core.specs.Seen.{Seen}
use Rattle.dkg_core.specs.Fixed.{Fixed, OneShot}
use Rattle.dkg_core.specs.Live.{Live, Orchestrator, Inclusion, Waiting, NodeStop, Faulted, Stage, Deals, Includes, Follows, Ends, Mail, Peer, NextLog, ReleaseLog, EpochInfoOf, Feed, Over, Cancel, Work, Message, Mailed, Finalized, awaited_height, phase_of, is_last_height, with_inclusion, with_orchestrator, with_tip}
use Rattle.dkg_core.specs.Setup as s
use Rattle.dkg_core.specs.Core.{step, no_inclusion}
use Rattle.dkg_core.specs.Entering as half
use Rattle.dkg_core.specs.Entering.{LifeAndAnswer, HalfAnswer, AcknowledgesBlock, Withholds, active, takes_delivered, is_ready}
use Rattle.dkg_core.specs.Node.{node_step, unless_once}
use Rattle.dkg_core.specs.Behind.{OnlySays, IsAside, IsSameBeside, event_of}
use Rattle.dkg_core.specs.Endings.{ComesTo, stage_in, first_block, validity, answer_in}
use Rattle.dkg_core.specs.NodeEndings.{LacksNobody, IsFaultBy}
use Rattle.dkg_core.specs.Forms.{IsForm, Judged, Refusal, Passed, Applied, judged_block, ComesOver, round_for, registered_with, IsSeated, IsSetUpIn, IsOpened, share_read, seed_read, started}
use Rattle.dkg_core.specs.Stepping.{IsHeardBy, with_taken, given_itself, dealt_behind}
use Rattle.dkg_core.specs.Dealing as d
use Rattle.dkg_core.specs.Asked.{OfShares, read_somewhere, IsEmptied}
use Rattle.dkg_core.specs.Through.{IsFormThrough, IsLiveThrough, IsTakenThrough, IsReadFrom, IsPassedOn, IsAppliedThrough, IsBlockThrough, IsIncludedThrough, IsFollowedThrough, IsStopThrough, IsNextThrough, StepReads, asked_by, included, unasked}
use Rattle.dkg_laws.specs.NodeThrough.{OpeningsThrough, IsActiveThrough, NodeOpeningsThrough, HasPassedOn, HalvesPassOn, IsNodeThrough, NodeStepsComeThrough, NodeStepsLeadThrough, NodeStepsLeadThroughOver}
use Rattle.dkg_core.proofs.Advancing.{needs_as}
use Rattle.dkg_core.proofs.Applied.{deals_below, includes_above}
use Rattle.dkg_core.proofs.Behind.{heard_aside, block_aside}
use Rattle.dkg_core.proofs.Counting.{some_is, comes_if}
use Rattle.dkg_core.proofs.Heights.{below_middle, epoch_to}
use Rattle.dkg_core.proofs.Including.{is_observed}
use Rattle.dkg_core.proofs.Mailing.{asked_beside}
use Rattle.dkg_core.proofs.Passing.{asked_none, seated_through}
use Rattle.dkg_core.proofs.Setups.{over_as, over_behind, over_under, comes_anywhere, came_over}
use Rattle.dkg_core.proofs.Splitting.{came_to, comes_behind}
use Rattle.dkg_core.proofs.StepDealing as dealing
use Rattle.dkg_core.proofs.StepThrough.{steps_come_through, reads_somewhere}
use Rattle.dkg_core.proofs.Stepping.{active_of, halves_go_on, passed_below, still_over}

none_apart : {A : Type 0} (a : A) → ◌≡◌ {A = Option A} None (Some a) → ⊥
none_apart a e = cc

bool_apart : (t : Bool) → t ≡ true → t ≡ false → ⊥
bool_apart t is other = cc

same_number : (n m : ℕ) → (n == m) ≡ true → n ≡ m
same_number n m e = grind (arith, nat_tests)

equal_number : (n m : ℕ) → n ≡ m → (n == m) ≡ true
equal_number n m e = grind (arith, nat_tests)

other_number : (n m : ℕ) → (n == m) ≡ false → n ≡ m → ⊥
other_number n m e is = grind (arith, nat_tests)

not_above : (k l : ℕ) → k ≡ l → nat_lt k l ≡ true → ⊥
not_above k l same e = grind (arith, nat_tests, same)

deals_apart : ◌≡◌ {A = Stage} Deals Follows → ⊥
deals_apart e = cc

includes_apart : ◌≡◌ {A = Stage} Includes Follows → ⊥
includes_apart e = cc

no_follower : (phase : Phase) → stage_in phase ≡ Follows → ⊥
no_follower Early e = cc
no_follower Midpoint e = cc
no_follower Late e = cc

-- A LIFE BESIDE ITS ORCHESTRATOR

pub live_beside : {Dir : Type 0} (c : Fixed Dir) (stored : OfShares) (st : Live Dir) (o : Orchestrator Dir) → IsLiveThrough c stored st → IsLiveThrough c stored (with_orchestrator o st)
live_beside {Dir} c stored st o live =
    let stands = live.stands in
    let has = live.asked.has in
    record {
      stands = record { awaits = stands.awaits; in_round = stands.in_round; without = stands.without; mine = stands.mine; numbered = stands.numbered; idle = refl };
      informed = live.informed;
      asked = record {
        has = record { served = has.served; none = has.none; early = has.early; waits = has.waits; runs = has.runs; kept = has.kept; made = has.made };
        read = λ includes none round is. needs_as c round st (with_orchestrator o st) refl refl st.inclusion.queue (live.asked.read includes none round is);
      };
    }

-- OPENINGS

nothing_of : {Dir : Type 0} (i : Inclusion Dir) → i ≡ no_inclusion → IsEmptied i
nothing_of i idle = subst IsEmptied (sym idle) (record { served = refl; queue = refl; running = refl; waiter = refl; retained = refl; cached = refl })

module _ {Dir : Type 0} (c : Fixed Dir) (stored : OfShares) (seen : Seen) (k : Held) (st : Live Dir) (form : IsForm c) (opened : IsOpened c seen k st) where
  empty : IsEmptied st.inclusion
  empty = nothing_of st.inclusion opened.live.idle

  of_info : (info : EpochInfo Dir) → IsSeated c s.Uncommitted info (share_read c info k) (seed_read c info k) (started c seen) st → IsLiveThrough c stored st
  of_info info its =
      seated_through c stored form s.Uncommitted info (share_read c info k) (seed_read c info k) (started c seen) st
      (subst (λ (i : Inclusion Dir). IsSeated c s.Uncommitted info (share_read c info k) (seed_read c info k) (started c seen) (with_inclusion i st)) opened.live.idle its) empty refl

  of_carried : (carried : Option (EpochInfo Dir)) → IsSomeAnd carried (λ info. IsSeated c s.Uncommitted info (share_read c info k) (seed_read c info k) (started c seen) st) → IsLiveThrough c stored st
  of_carried None its = absurd its
  of_carried (Some info) its = of_info info its

  by_block : (found : Option (Block Dir)) → IsSetUpIn c seen k st found → IsLiveThrough c stored st
  by_block None its =
      let live = opened.live in
      record {
        stands = record { awaits = live.awaits; in_round = live.in_round; without = live.without; mine = live.mine; numbered = live.numbered; idle = refl };
        informed = λ round is. absurd (none_apart round (sym its.0 ∙ is));
        asked = asked_none c stored st empty;
      }
  by_block (Some block) its = of_carried (info_of block.payload) its

  opens : IsLiveThrough c stored st
  opens = by_block (first_block c) opened.set_up

  -- its fence is open
  fence_carried : (carried : Option (EpochInfo Dir)) → IsSomeAnd carried (λ info. IsSeated c s.Uncommitted info (share_read c info k) (seed_read c info k) (started c seen) st) → st.orchestrator.fence.closed ≡ false
  fence_carried None its = absurd its
  fence_carried (Some info) its = ap (λ (o : Orchestrator Dir). o.fence.closed) its.orchestrator

  fence_open : (found : Option (Block Dir)) → IsSetUpIn c seen k st found → st.orchestrator.fence.closed ≡ false
  fence_open None its = ap (λ (o : Orchestrator Dir). o.fence.closed) its.3
  fence_open (Some block) its = fence_carried (info_of block.payload) its

pub openings_through : {Dir : Type 0} → OpeningsThrough Dir
openings_through c stored seen k st form opened = opens c stored seen k st form opened

pub node_openings_through : {Dir : Type 0} → NodeOpeningsThrough Dir
node_openings_through {Dir} c stored seen k st form begun =
    let before = begun.before in (
      subst (λ (x : Live Dir). IsLiveThrough c stored x) (sym begun.entered.same) (live_beside c stored before st.orchestrator (openings_through c stored seen k before form begun.opened)),
      record { active = begun.active; unclosed = begun.entered.unclosed ∙ fence_open c stored seen k before form begun.opened (first_block c) begun.opened.set_up },
    )

-- THE ORCHESTRATOR'S HALF

abbrev Never : NodeStop → Type 0
Never stop = ⊥

module _ {Dir : Type 0} (c : Fixed Dir) (st : Live Dir) (block : Block Dir) (epoch : ℕ) (info : EpochInfo Dir) (full : LacksNobody c) (act : active st.orchestrator ≡ Some epoch)
    (at_last : block.height ≡ last c.blocks_per_epoch epoch) (none : st.orchestrator.waiting ≡ None) (carries : info_of block.payload ≡ Some info) (of_next : info.epoch ≡ epoch + 1)
    (ready : is_ready st.orchestrator.fence.ready (epoch + 1) ≡ true) (there : IsSome (lookup (epoch + 1) st.orchestrator.schemes)) where
  abbrev On : LifeAndAnswer Dir → Type 0
  On = HasPassedOn st (epoch + 1)

  abbrev waiting : Waiting Dir
  waiting = record { epoch = epoch + 1; info = info; floor = Genesis block.digest; block = Some block.height }

  -- what is known of the fence once it was asked
  abbrev asked : Orchestrator Dir
  asked = record st.orchestrator { fence = waited (epoch + 1) waits.Ready st.orchestrator.fence }

  passed : On (record { live = with_orchestrator (half.with_entered (epoch + 1) asked) st; answer = AcknowledgesBlock })
  passed = record { entered = refl; unawaited = refl; going = (active_of st.orchestrator epoch act).0; unclosed = refl; same = refl; answer = refl }

  starts : (found : Option SchemeInfo) → IsSome found → ComesTo Never On (half.starts_engine asked waiting found st)
  starts None some = absurd (let no : ◌≡◌ {A = Bool} false true = some in cc)
  starts (Some scheme) some = stopped st.orchestrator.entered
    where
      stopped : (old : Option ℕ) → ComesTo Never On (half.stops_engine old (Say (Entered (epoch + 1)) (half.leaves (half.with_entered (epoch + 1) asked) AcknowledgesBlock st)))
      stopped None = passed
      stopped (Some old) = passed

  tracks : (lacking : Option ℕ) → lacking ≡ None → ComesTo Never On (half.tracks_peers asked waiting lacking st)
  tracks None is = starts (lookup (epoch + 1) st.orchestrator.schemes) there
  tracks (Some peer) is = absurd (none_apart peer (sym is))

  answered : half.wait_for st.orchestrator.fence (epoch + 1) ≡ waits.Ready
  answered = ap (λ (t : Bool). if t then waits.Ready else if st.orchestrator.fence.closed then waits.Closed else waits.Pending) ready

  enters : ComesTo Never On (half.enters c waiting st)
  enters =
      subst (λ (answer : Waited). ComesTo Never On (half.waited_for c (record st.orchestrator { fence = waited (epoch + 1) answer st.orchestrator.fence }) waiting answer st)) (sym answered)
      (tracks (c.directories.lacking info.directory (half.peers_for waiting)) (full info.directory (half.peers_for waiting)))

  enters_at : ComesTo Never On (half.enters_at c block (epoch + 1) (Some block.height) st)
  enters_at =
      subst (λ (o : Option (EpochInfo Dir)). ComesTo Never On (option_map_or (λ its. if its.epoch == epoch + 1 then half.enters c (record { epoch = epoch + 1; info = its; floor = Genesis block.digest; block = Some block.height }) st
      else Stops (Faulted (WrongEpoch (epoch + 1) its.epoch))) o (Stops (Faulted (MissingEpochInfo block.height))))) (sym carries)
      (comes_if Never On (info.epoch == epoch + 1) (half.enters c waiting st) (Stops (Faulted (WrongEpoch (epoch + 1) info.epoch))) (λ e. enters) (λ e. other_number info.epoch (epoch + 1) e of_next))

  at_epoch : ComesTo Never On (half.delivered_in c block st (Some epoch))
  at_epoch =
      comes_if Never On (nat_lt (last c.blocks_per_epoch epoch) block.height) (Stops (Faulted (SkippedHeight (last c.blocks_per_epoch epoch) block.height)))
      (if nat_lt block.height (last c.blocks_per_epoch epoch) then half.leaves st.orchestrator AcknowledgesBlock st else half.enters_at c block (epoch + 1) (Some block.height) st)
      (λ e. not_above (last c.blocks_per_epoch epoch) block.height (sym at_last) e)
      (λ e. comes_if Never On (nat_lt block.height (last c.blocks_per_epoch epoch)) (half.leaves st.orchestrator AcknowledgesBlock st) (half.enters_at c block (epoch + 1) (Some block.height) st)
      (λ e. absurd (not_above block.height (last c.blocks_per_epoch epoch) at_last e)) (λ e. enters_at))

  passes_on : ComesTo Never On (takes_delivered c block st)
  passes_on =
      subst (λ (o : Option (Waiting Dir)). ComesTo Never On (bind (option_map_or (λ w. bind (half.enters c w st) (half.acked_late w.block)) o (Goes st)) (λ now. half.delivered_in c block now (active now.orchestrator)))) (sym none)
      (subst (λ (o : Option ℕ). ComesTo Never On (half.delivered_in c block st o)) (sym act) at_epoch)

pub halves_pass_on : {Dir : Type 0} → HalvesPassOn Dir
halves_pass_on c st block epoch info full act at_last none carries of_next ready there = passes_on c st block epoch info full act at_last none carries of_next ready there

-- WHAT IS ACTIVE BEHIND THE RESHARE HALF

module _ {Dir : Type 0} (st end : Live Dir) (is_active : IsActiveThrough st) (same : end.orchestrator ≡ st.orchestrator) where
  -- the awaited epoch is the same, and the life takes part if it did
  active_as : end.participation.epoch ≡ st.participation.epoch → ((st.participation.stage ≡ Follows → ⊥) → end.participation.stage ≡ Follows → ⊥) → IsActiveThrough end
  active_as epoch apart = record {
    active = record { unawaited = ap (λ (o : Orchestrator Dir). o.waiting) same ∙ is_active.active.unawaited; entered = either is_active.active.entered };
    unclosed = ap (λ (o : Orchestrator Dir). o.fence.closed) same ∙ is_active.unclosed;
  }
    where
      either : (st.orchestrator.halted ≡ true) ⊎ ((st.orchestrator.entered ≡ Some st.participation.epoch) × (st.participation.stage ≡ Follows → ⊥))
          → (end.orchestrator.halted ≡ true) ⊎ ((end.orchestrator.entered ≡ Some end.participation.epoch) × (end.participation.stage ≡ Follows → ⊥))
      either (inl halted) = inl (ap (λ (o : Orchestrator Dir). o.halted) same ∙ halted)
      either (inr at) = inr (ap (λ (o : Orchestrator Dir). o.entered) same ∙ at.0 ∙ ap (λ (e : ℕ). Some e) (sym epoch), apart at.1)

module _ {Dir : Type 0} (c : Fixed Dir) (st : Live Dir) (is_active : IsActiveThrough st) where
  -- the orchestrator's half is active where the life takes part, in the awaited epoch
  entered : (epoch : ℕ) → active st.orchestrator ≡ Some epoch → (st.participation.epoch ≡ epoch) × (st.participation.stage ≡ Follows → ⊥)
  entered epoch is = either is_active.active.entered
    where
      its : (st.orchestrator.halted ≡ false) × (st.orchestrator.entered ≡ Some epoch)
      its = active_of st.orchestrator epoch is

      either : (st.orchestrator.halted ≡ true) ⊎ ((st.orchestrator.entered ≡ Some st.participation.epoch) × (st.participation.stage ≡ Follows → ⊥)) → (st.participation.epoch ≡ epoch) × (st.participation.stage ≡ Follows → ⊥)
      either (inl halted) = absurd (bool_apart st.orchestrator.halted halted its.0)
      either (inr at) = (some_is st.participation.epoch epoch (sym at.0 ∙ its.1), at.1)

-- BEHIND MAIL

module _ {Dir : Type 0} (c : Fixed Dir) (st : Live Dir) (is_active : IsActiveThrough st) where
  mail_active : (its : Mail Dir) (end : Live Dir) → IsReadFrom c (asked_by its st) end → IsActiveThrough end
  mail_active its end read =
      subst (λ (x : Live Dir). IsActiveThrough x) (sym (read.same ∙ ap (λ (x : Live Dir). with_inclusion end.inclusion x) (asked_beside st its)))
      (active_as st (with_inclusion end.inclusion st) is_active refl refl (λ apart. apart))

  heard_active : (from : ℕ) (end : Live Dir) → IsHeardBy c st from end → IsActiveThrough end
  heard_active from end (inl same) = subst (λ (x : Live Dir). IsActiveThrough x) (sym same) is_active
  heard_active from end (inr (inl heard)) =
      subst (λ (x : Live Dir). IsActiveThrough x) (sym heard.is) (active_as st (d.with_dealing_of heard.round.number from heard.public heard.private st) is_active refl refl (λ apart. apart))
  heard_active from end (inr (inr heard)) =
      let frame = dealing.taken_same c st heard.round.number heard.dealer from heard.ack st.records refl in
      subst (λ (x : Live Dir). IsActiveThrough x) (sym heard.is)
      (active_as st (with_taken heard.round.number heard.dealer from heard.ack st) is_active frame.same.orchestrator frame.same.epoch (λ apart follows. apart (sym frame.stage ∙ follows)))

-- BEHIND A BLOCK

ready_at : (r : Option ℕ) (e n : ℕ) → e ≡ n → is_ready (raised e r) n ≡ true
ready_at None e n same = at_least e n same
  where
    at_least : (n m : ℕ) → n ≡ m → nat_le m n ≡ true
    at_least n m same = grind (arith, nat_tests, same)
ready_at (Some g) e n same = at_least n (max g e) (subst (λ (x : ℕ). x ≤ max g e) same (le-max_right g e))
  where
    at_least : (n m : ℕ) → n ≤ m → nat_le n m ≡ true
    at_least n m low = grind (arith, nat_tests, low)

module _ {Dir : Type 0} (c : Fixed Dir) (form : IsFormThrough c) (stored : OfShares) (st : Live Dir) (live : IsLiveThrough c stored st) (is_active : IsActiveThrough st) (block : Block Dir) (devices : Option Held) where
  abbrev IsBelow : Live Dir → Type 0
  IsBelow end = (epoch : ℕ) → active end.orchestrator ≡ Some epoch → block.height < last c.blocks_per_epoch epoch

  -- the orchestrator's half has to enter the epoch that was set up
  record IsPassing (end : Live Dir) : Type 0 where
    epoch : ℕ
    act : active end.orchestrator ≡ Some epoch
    at_last : block.height ≡ last c.blocks_per_epoch epoch
    unawaited : end.orchestrator.waiting ≡ None
    info : EpochInfo Dir
    carries : info_of block.payload ≡ Some info
    of_next : info.epoch ≡ epoch + 1
    ready : is_ready end.orchestrator.fence.ready (epoch + 1) ≡ true
    there : IsSome (lookup (epoch + 1) end.orchestrator.schemes)
    awaited : end.participation.epoch ≡ epoch + 1
    apart : end.participation.stage ≡ Follows → ⊥
    unclosed : end.orchestrator.fence.closed ≡ false
    last : is_last_height c block.height ≡ true

  -- .. or nothing happens
  abbrev IsBehind : Live Dir → Type 0
  IsBehind end = (IsActiveThrough end × IsBelow end) ⊎ IsPassing end

  quiet : (end : Live Dir) → end.orchestrator ≡ st.orchestrator → end.participation.epoch ≡ st.participation.epoch → (end.participation.stage ≡ Follows → ⊥)
      → block.height < last c.blocks_per_epoch st.participation.epoch → IsBehind end
  quiet end same epoch apart low = inl (
    active_as st end is_active same epoch (λ was. apart),
    λ its act. subst (λ (x : ℕ). block.height < last c.blocks_per_epoch x) (entered c st is_active its (ap active (sym same) ∙ act)).0 low,
  )

  -- a life that follows has halted
  follower_halts : st.participation.stage ≡ Follows → st.orchestrator.halted ≡ true
  follower_halts follows = either is_active.active.entered
    where
      either : (st.orchestrator.halted ≡ true) ⊎ ((st.orchestrator.entered ≡ Some st.participation.epoch) × (st.participation.stage ≡ Follows → ⊥)) → st.orchestrator.halted ≡ true
      either (inl halted) = halted
      either (inr at) = absurd (at.1 follows)

  -- one that halted stays so
  halted_behind : (end : Live Dir) → end.orchestrator.halted ≡ true → end.orchestrator.waiting ≡ None → end.orchestrator.fence.closed ≡ false → IsBehind end
  halted_behind end halted none unclosed = inl (
    record { active = record { unawaited = none; entered = inl halted }; unclosed = unclosed },
    λ its act. absurd (bool_apart end.orchestrator.halted halted (active_of end.orchestrator its act).0),
  )

  unheeded : judged_block c block st ≡ Passed → IsBehind st
  unheeded is = inl (is_active, λ epoch act. passed_below c form.form (unasked st) live.stands (record { unawaited = is_active.active.unawaited; entered = is_active.active.entered }) block never (s.is_past_range c block.height) is epoch act)
    where
      never : judged_block c block st ≡ Applied → (st.participation.stage ≡ Follows) ⊎ (block.height < midpoint c.blocks_per_epoch (epoch_of c.blocks_per_epoch block.height))
      never accepted = absurd (let no : ◌≡◌ {A = Judged} Passed Applied = sym is ∙ accepted in cc)

  module _ (accepted : judged_block c block st ≡ Applied) where
    dealt : st.participation.stage ≡ Deals → (end : Live Dir) → IsReadFrom c (dealt_behind c block (given_itself c st)) end → IsBehind end
    dealt is end read =
        let located = deals_below c block st live.stands accepted is in
        let frame = framed (block.height + 1 == midpoint c.blocks_per_epoch (given_itself c st).participation.epoch) in
        quiet end (ap (λ (x : Live Dir). x.orchestrator) read.same ∙ frame.0) (ap (λ (x : Live Dir). x.participation.epoch) read.same ∙ frame.1)
        (λ follows. frame.2 (sym (ap (λ (x : Live Dir). x.participation.stage) read.same) ∙ follows))
        (subst (λ (e : ℕ). block.height < last c.blocks_per_epoch e) (sym located.0) (below_middle c.blocks_per_epoch (epoch_of c.blocks_per_epoch block.height) block.height form.form.counted located.1))
      where
        same : dealing.IsSameBut c st (given_itself c st)
        same = dealing.given_same c st

        framed : (t : Bool) → (let behind : Live Dir = if t then s.begins_inclusion c (with_tip block (given_itself c st)) else with_tip block (given_itself c st) in
            (behind.orchestrator ≡ st.orchestrator) × (behind.participation.epoch ≡ st.participation.epoch) × (behind.participation.stage ≡ Follows → ⊥))
        framed true = (same.same.orchestrator, same.same.epoch, λ e. includes_apart e)
        framed false = (same.same.orchestrator, same.same.epoch, λ e. deals_apart (sym is ∙ sym same.stage ∙ e))

    included_below : st.participation.stage ≡ Includes → is_last_height c block.height ≡ false → (end : Live Dir) (round : Round) → IsReadFrom c (included c round block st) end → IsBehind end
    included_below is below end round read =
        let located = includes_above c block st live.stands accepted is in
        let same = is_observed c round block st in
        quiet end (ap (λ (x : Live Dir). x.orchestrator) read.same ∙ same.orchestrator) (ap (λ (x : Live Dir). x.participation.epoch) read.same ∙ same.epoch)
        (λ follows. includes_apart (sym is ∙ sym same.stage ∙ sym (ap (λ (x : Live Dir). x.participation.stage) read.same) ∙ follows))
        (subst (λ (e : ℕ). block.height < last c.blocks_per_epoch e) (sym located.0)
        (under (epoch_of c.blocks_per_epoch block.height * c.blocks_per_epoch) c.blocks_per_epoch block.height (epoch_to c.blocks_per_epoch block.height form.form.counted)
        (other_number block.height (last c.blocks_per_epoch (epoch_of c.blocks_per_epoch block.height)) below)))
      where
        under : (m n h : ℕ) → h < m + n → (h ≡ m + n - 1 → ⊥) → h < m + n - 1
        under m n h low other = omega (arith, low, other)

    -- the life that was passed on to the next epoch
    module _ (last_one : is_last_height c block.height ≡ true) (end : Live Dir) (left : Option Held) (alive : IsLiveThrough c stored end) (its : IsPassedOn c stored block st devices end left) where
      abbrev info : EpochInfo Dir
      info = its.on.info

      orchestrator : end.orchestrator ≡ registered_with c info its.on.share st.orchestrator
      orchestrator = its.seated.orchestrator

      marked_open : (marked info.epoch st.orchestrator.fence).closed ≡ false
      marked_open = either st.orchestrator.fence.closed is_active.unclosed
        where
          either : (t : Bool) → t ≡ false → (if t then st.orchestrator.fence else record { ready = raised info.epoch st.orchestrator.fence.ready; closed = st.orchestrator.fence.closed; awaited = unreached info.epoch st.orchestrator.fence.awaited }).closed ≡ false
          either true e = absurd (let no : ◌≡◌ {A = Bool} true false = e in cc)
          either false e = is_active.unclosed

      unclosed : end.orchestrator.fence.closed ≡ false
      unclosed = ap (λ (o : Orchestrator Dir). o.fence.closed) orchestrator ∙ marked_open

      unawaited : end.orchestrator.waiting ≡ None
      unawaited = ap (λ (o : Orchestrator Dir). o.waiting) orchestrator ∙ is_active.active.unawaited

      halts : st.orchestrator.halted ≡ true → IsBehind end
      halts halted = halted_behind end (ap (λ (o : Orchestrator Dir). o.halted) orchestrator ∙ halted) unawaited unclosed

      module _ (going : st.orchestrator.halted ≡ false) (enters : st.orchestrator.entered ≡ Some st.participation.epoch) (is : st.participation.stage ≡ Includes) where
        abbrev epoch : ℕ
        epoch = st.participation.epoch

        here : epoch ≡ epoch_of c.blocks_per_epoch block.height
        here = (includes_above c block st live.stands accepted is).0

        act : active end.orchestrator ≡ Some epoch
        act =
            ap active orchestrator ∙ ap (λ (t : Bool). if t || is_some st.orchestrator.waiting then None else st.orchestrator.entered) going
            ∙ ap (λ (o : Option (Waiting Dir)). if is_some o then None else st.orchestrator.entered) is_active.active.unawaited ∙ enters

        of_next : info.epoch ≡ epoch + 1
        of_next = its.on.of_next ∙ ap (λ (e : ℕ). e + 1) (sym here)

        ready : is_ready end.orchestrator.fence.ready (epoch + 1) ≡ true
        ready = ap (λ (o : Orchestrator Dir). is_ready o.fence.ready (epoch + 1)) orchestrator ∙ either st.orchestrator.fence.closed is_active.unclosed
          where
            either : (t : Bool) → t ≡ false
                → is_ready (if t then st.orchestrator.fence else record { ready = raised info.epoch st.orchestrator.fence.ready; closed = st.orchestrator.fence.closed; awaited = unreached info.epoch st.orchestrator.fence.awaited }).ready (epoch + 1) ≡ true
            either true e = absurd (let no : ◌≡◌ {A = Bool} true false = e in cc)
            either false e = ready_at st.orchestrator.fence.ready info.epoch (epoch + 1) of_next

        there : IsSome (lookup (epoch + 1) end.orchestrator.schemes)
        there =
            subst (λ (o : Orchestrator Dir). IsSome (lookup (epoch + 1) o.schemes)) (sym orchestrator)
            (subst (λ (t : Bool). IsSome (if t then Some (s.scheme_for c info its.on.share) else lookup (epoch + 1) st.orchestrator.schemes)) (sym (equal_number info.epoch (epoch + 1) of_next)) refl)

        awaited : end.participation.epoch ≡ epoch + 1
        awaited = sym of_info ∙ of_next
          where
            of_info : info.epoch ≡ end.participation.epoch
            of_info =
                (subst (λ (o : Option (EpochInfo Dir)). IsSomeAnd o (λ i. (i.epoch ≡ end.participation.epoch) × (validity c i ≡ Ok tt) × (round_for c end.participation.epoch i ≡ Ok its.seated.round))) its.seated.current
                (alive.informed its.seated.round its.seated.in_round)).0

        takes_part : end.participation.stage ≡ Follows → ⊥
        takes_part follows = no_follower (phase_of c (awaited_height end)) (sym (alive.stands.in_round its.seated.round its.seated.in_round) ∙ follows)

        passing : IsPassing end
        passing = record {
          epoch = epoch;
          act = act;
          at_last = same_number block.height (last c.blocks_per_epoch (epoch_of c.blocks_per_epoch block.height)) last_one ∙ ap (λ (e : ℕ). last c.blocks_per_epoch e) (sym here);
          unawaited = unawaited;
          info = info;
          carries = its.on.carried;
          of_next = of_next;
          ready = ready;
          there = there;
          awaited = awaited;
          apart = takes_part;
          unclosed = unclosed;
          last = last_one;
        }

      -- of a life that includes
      passed_including : st.participation.stage ≡ Includes → IsBehind end
      passed_including is = either st.orchestrator.halted refl is_active.active.entered
        where
          either : (halted : Bool) → st.orchestrator.halted ≡ halted → (st.orchestrator.halted ≡ true) ⊎ ((st.orchestrator.entered ≡ Some st.participation.epoch) × (st.participation.stage ≡ Follows → ⊥)) → IsBehind end
          either true e its = halts e
          either false e (inl halted) = halts halted
          either false e (inr at) = inr (passing e at.0 is)

      -- .. and of one that follows
      passed_following : st.participation.stage ≡ Follows → IsBehind end
      passed_following is = halts (follower_halts is)

    -- a life that follows has halted
    followed_below : st.participation.stage ≡ Follows → (end : Live Dir) → end ≡ with_tip block st → IsBehind end
    followed_below is end same =
        subst (λ (x : Live Dir). IsBehind x) (sym same) (halted_behind (with_tip block st) (follower_halts is) is_active.active.unawaited is_active.unclosed)

    applied : (stage : Stage) → st.participation.stage ≡ stage → (end : Live Dir) (left : Option Held) → IsLiveThrough c stored end → IsAppliedThrough c stored block st devices stage end left → IsBehind end
    applied Deals is end left alive at = dealt is end at
    applied Includes is end left alive at = either (is_last_height c block.height) refl at
      where
        either : (t : Bool) → is_last_height c block.height ≡ t → IsIncludedThrough c stored block st devices t end left → IsBehind end
        either true last_one at = passed_including last_one end left alive at is
        either false below at = included_below is below end at.0 at.2
    applied Follows is end left alive at = either (is_last_height c block.height) refl at
      where
        either : (t : Bool) → is_last_height c block.height ≡ t → IsFollowedThrough c stored block st devices t end left → IsBehind end
        either true last_one at = passed_following last_one end left alive at is
        either false below at = followed_below is end at
    applied Ends is end left alive at = absurd at

  by_judged : (j : Judged) → judged_block c block st ≡ j → (end : Live Dir) (left : Option Held) → IsLiveThrough c stored end → IsBlockThrough c stored block st devices j end left → IsBehind end
  by_judged (Refusal fault) is end left alive at = absurd at
  by_judged Passed is end left alive at = subst (λ (x : Live Dir). IsBehind x) (sym at.0) (unheeded is)
  by_judged Applied is end left alive at = applied is st.participation.stage refl end left alive at

  block_behind : (end : Live Dir) (left : Option Held) → IsNextThrough c stored st (Finalized block) devices end left → IsBehind end
  block_behind end left next = by_judged (judged_block c block st) refl end left next.live next.is

-- THE WHOLE STEP

module _ {Dir : Type 0} (c : Fixed Dir) (form : IsFormThrough c) (full : LacksNobody c) (stored : OfShares) (st : Live Dir) (live : IsLiveThrough c stored st) (is_active : IsActiveThrough st) (devices : Option Held)
    (reads : StepReads c stored devices) where
  abbrev Stops_at : Message Dir → NodeStop → Type 0
  Stops_at message = IsFaultBy (IsStopThrough c stored st message devices)

  abbrev To : Message Dir → Live Dir → Option Held → Type 0
  To message = IsNodeThrough c stored st message devices

  in_reshare : (P : Live Dir → Type 0) (course once : Course Dir NodeStop (Live Dir)) → ComesTo Never P course → ComesTo Never P (unless_once c course once)
  in_reshare P course once comes = subst (λ (o : Option (OneShot Dir)). ComesTo Never P (if is_some o then once else course)) (sym form.form.reshare) comes

  -- what comes behind the reshare half touches no device
  behind : (message : Message Dir) (end : Live Dir) (left : Option Held) (P : Live Dir → Type 0) (course : Course Dir NodeStop (Live Dir)) → OnlySays IsAside (IsSameBeside end) course → ComesTo Never P course
      → ((now : Live Dir) → P now → To message now left) → ComesOver (Stops_at message) (To message) course left
  behind message end left P course only comes so =
      over_as Never (Stops_at message) (λ now last. P now × (last ≡ left)) (To message) course left (λ stop never. absurd never)
      (λ now last its. subst (λ (l : Option Held). To message now l) (sym its.1) (so now its.0)) (still_over IsAside (IsSameBeside end) Never P course left only comes)

  -- .. and changes nothing
  still : (message : Message Dir) (end : Live Dir) (left : Option Held) → IsNextThrough c stored st message devices end left → IsActiveThrough end → (now : Live Dir) → now ≡ end → To message now left
  still message end left next act now same =
      subst (λ (x : Live Dir). To message x left) (sym same) (record { mid = end; next = next; same = refl; still = inl refl; live = next.live; active = act })

  asks_again : (end : Live Dir) → end.orchestrator.waiting ≡ None → ComesTo Never (λ now. now ≡ end) (unless_once c (half.asks_again c end) (Goes end))
  asks_again end none =
      in_reshare (λ now. now ≡ end) (half.asks_again c end) (Goes end)
      (subst (λ (o : Option (Waiting Dir)). ComesTo Never (λ now. now ≡ end) (option_map_or (λ w. bind (half.enters c w end) (half.acked_late w.block)) o (Goes end))) (sym none) refl)

  by_mail : (its : Mail Dir) → ((end : Live Dir) (left : Option Held) → IsNextThrough c stored st (Mailed its) devices end left → IsActiveThrough end) → IsTakenThrough c (Mailed its) st
      → ComesOver (Stops_at (Mailed its)) (To (Mailed its)) (node_step c (event_of (Mailed its)) st) devices
  by_mail its stays taken =
      over_behind (Stops_at (Mailed its)) (IsNextThrough c stored st (Mailed its) devices) (To (Mailed its)) (under Faulted (step c (Mailed its) st)) (λ end. unless_once c (half.asks_again c end) (Goes end)) devices
      (over_under Faulted (IsStopThrough c stored st (Mailed its) devices) (IsNextThrough c stored st (Mailed its) devices) (step c (Mailed its) st) devices
      (steps_come_through c stored st (Mailed its) devices form reads taken live))
      (λ end left next. let act = stays end left next in
      behind (Mailed its) end left (λ now. now ≡ end) (unless_once c (half.asks_again c end) (Goes end)) (heard_aside c end) (asks_again end act.active.unawaited) (still (Mailed its) end left next act))

  module _ (block : Block Dir) where
    abbrev next_half : Live Dir → Course Dir NodeStop (Live Dir)
    next_half end = unless_once c (bind (takes_delivered c block end) (λ left. half.acked_at block.height left.answer left.live)) (Say (Acked block.height) (Goes end))

    acked : (P : Live Dir → Type 0) (answer : HalfAnswer) (end : Live Dir) → P end → ComesTo Never P (half.acked_at block.height answer end)
    acked P AcknowledgesBlock end p = p
    acked P Withholds end p = p

    module _ (end : Live Dir) (left : Option Held) (next : IsNextThrough c stored st (Finalized block) devices end left) where
      goes_on : IsActiveThrough end → IsBelow c form stored st live is_active block devices end → ComesOver (Stops_at (Finalized block)) (To (Finalized block)) (next_half end) left
      goes_on act low =
          behind (Finalized block) end left (λ now. now ≡ end) (next_half end) (block_aside c block end)
          (in_reshare (λ now. now ≡ end) (bind (takes_delivered c block end) (λ left. half.acked_at block.height left.answer left.live)) (Say (Acked block.height) (Goes end))
          (comes_behind Never (λ left. (left.live ≡ end) × (left.answer ≡ answer_in (active end.orchestrator))) (λ now. now ≡ end) (takes_delivered c block end) (λ left. half.acked_at block.height left.answer left.live)
          (halves_go_on c end block low act.active.unawaited) (λ left is. acked (λ now. now ≡ end) left.answer left.live is.0)))
          (still (Finalized block) end left next act)

      passes : IsPassing c form stored st live is_active block devices end → ComesOver (Stops_at (Finalized block)) (To (Finalized block)) (next_half end) left
      passes its =
          behind (Finalized block) end left (λ now. To (Finalized block) now left) (next_half end) (block_aside c block end)
          (in_reshare (λ now. To (Finalized block) now left) (bind (takes_delivered c block end) (λ left. half.acked_at block.height left.answer left.live)) (Say (Acked block.height) (Goes end))
          (comes_behind Never (HasPassedOn end (its.epoch + 1)) (λ now. To (Finalized block) now left) (takes_delivered c block end) (λ left. half.acked_at block.height left.answer left.live)
          (halves_pass_on c end block its.epoch its.info full its.act its.at_last its.unawaited its.carries its.of_next its.ready its.there)
          (λ half on. acked (λ now. To (Finalized block) now left) half.answer half.live (passed_to half on)))) (λ now to. to)
        where
          passed_to : (half : LifeAndAnswer Dir) → HasPassedOn end (its.epoch + 1) half → To (Finalized block) half.live left
          passed_to half on = record {
            mid = end;
            next = next;
            same = on.same;
            still = inr (block, refl, its.last, on.entered ∙ ap (λ (e : ℕ). Some e) (sym its.awaited) ∙ ap (λ (x : Live Dir). Some x.participation.epoch) (sym on.same));
            live = subst (λ (x : Live Dir). IsLiveThrough c stored x) (sym on.same) (live_beside c stored end half.live.orchestrator next.live);
            active = subst (λ (x : Live Dir). IsActiveThrough x) (sym on.same) (record {
              active = record { unawaited = on.unawaited; entered = inr (on.entered ∙ ap (λ (e : ℕ). Some e) (sym its.awaited), its.apart) };
              unclosed = on.unclosed ∙ its.unclosed;
            });
          }

      either : IsBehind c form stored st live is_active block devices end → ComesOver (Stops_at (Finalized block)) (To (Finalized block)) (next_half end) left
      either (inl still) = goes_on still.0 still.1
      either (inr its) = passes its

    at_block : ComesOver (Stops_at (Finalized block)) (To (Finalized block)) (node_step c (event_of (Finalized block)) st) devices
    at_block =
        over_behind (Stops_at (Finalized block)) (IsNextThrough c stored st (Finalized block) devices) (To (Finalized block)) (under Faulted (step c (Finalized block) st)) next_half devices
        (over_under Faulted (IsStopThrough c stored st (Finalized block) devices) (IsNextThrough c stored st (Finalized block) devices) (step c (Finalized block) st) devices
        (steps_come_through c stored st (Finalized block) devices form reads tt live))
        (λ end left next. either end left next (block_behind c form stored st live is_active block devices end left next))

  node_steps : (message : Message Dir) → IsTakenThrough c message st → ComesOver (Stops_at message) (To message) (node_step c (event_of message) st) devices
  node_steps (Finalized block) taken = at_block block
  node_steps (Mailed (Peer from bytes)) taken = by_mail (Peer from bytes) (λ end left next. heard_active c st is_active from end next.is) taken
  node_steps (Mailed (NextLog request height)) taken = by_mail (NextLog request height) (λ end left next. mail_active c st is_active (NextLog request height) end next.is.0) taken
  node_steps (Mailed (ReleaseLog height)) taken = by_mail (ReleaseLog height) (λ end left next. mail_active c st is_active (ReleaseLog height) end next.is.0) taken
  node_steps (Mailed (EpochInfoOf request)) taken = by_mail (EpochInfoOf request) (λ end left next. mail_active c st is_active (EpochInfoOf request) end next.is.0) taken
  node_steps (Mailed (Feed request block)) taken = by_mail (Feed request block) (λ end left next. mail_active c st is_active (Feed request block) end next.is.0) taken
  node_steps (Mailed (Over request)) taken = by_mail (Over request) (λ end left next. mail_active c st is_active (Over request) end next.is.0) taken
  node_steps (Mailed (Cancel request)) taken = by_mail (Cancel request) (λ end left next. mail_active c st is_active (Cancel request) end next.is.0) taken
  node_steps (Mailed (Work handed)) taken = by_mail (Work handed) (λ end left next. mail_active c st is_active (Work handed) end next.is.0) taken

pub node_steps_come_through : {Dir : Type 0} → NodeStepsComeThrough Dir
node_steps_come_through c stored st message devices form full reads taken live is_active = node_steps c form full stored st live is_active devices reads message taken

pub node_steps_lead_through : {Dir : Type 0} → NodeStepsLeadThrough Dir
node_steps_lead_through c st message ended old new form full taken live is_active said =
    let stops = IsFaultBy (IsStopThrough c (read_somewhere c) st message None) in
    let goes = IsNodeThrough c (read_somewhere c) st message None in
    came_to stops (λ end. goes end None) (node_step c (event_of message) st) ended old new
    (comes_anywhere stops goes (node_step c (event_of message) st) (node_steps_come_through c (read_somewhere c) st message None form full (reads_somewhere c) taken live is_active)) said

pub node_steps_lead_through_over : {Dir : Type 0} → NodeStepsLeadThroughOver Dir
node_steps_lead_through_over c stored st message ended w new form full reads taken live is_active run =
    came_over (IsFaultBy (IsStopThrough c stored st message (Some w.held))) (IsNodeThrough c stored st message (Some w.held)) (node_step c (event_of message) st) ended w new
    (node_steps_come_through c stored st message (Some w.held) form full reads taken live is_active) run
