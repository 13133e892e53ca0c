-- Where openings come to in the form of epochs: those of the reshare half, of the orchestrator's, and of a node.
use Rattle.std.proofs.Common.{◌≡◌, ◌⊎◌, inl, inr, ℕ, Bool, true, false, nat_le, List, Option, Some, None, refl, sym, ◌∙◌, ap, subst, arith}
use Rattle.std.specs.Prelude.{◌+◌, ◌-◌, ◌==◌, map, if◌then◌else◌, IsSomeAnd, is_some, option_and_then, option_map}
use Rattle.std.specs.Option.{option_map_or}
use Rattle.std.specs.Result.{result_ok}
use Rattle.std.proofs.lemmas.Bool.Decides.{nat_tests}
use Rattle.dkg_values.specs.Codec.{whole}
use Rattle.dkg_values.specs.Rising.{lookup}
use Rattle.dkg_ceremony.specs.declared.phase.Phase.{Phase}
use Rattle.dkg_ceremony.specs.declared.phase.Phase.TheVariants.{Early, Midpoint, Late}
use Rattle.dkg_ceremony.specs.Schedule.{epoch_of}
use Rattle.dkg_fence.specs.declared.fence.Waited.{Waited}
use Rattle.dkg_fence.specs.declared.fence.Waited.TheVariants as waits
use Rattle.dkg_fence.specs.Fence.{waited}
use Rattle.dkg_types.specs.Blocks.{Block}
use Rattle.dkg_types.specs.BlockCodes.{info_of}
use Rattle.dkg_infos.specs.declared.entry.Entry.TheVariants as lines
use Rattle.dkg_infos.specs.declared.fault.Fault.{Fault}
use Rattle.dkg_infos.specs.declared.fault.Fault.TheVariants.{HeightRange, MissingEpochInfo, WrongEpoch}
use Rattle.dkg_infos.specs.declared.info.EpochInfo.{EpochInfo}
use Rattle.dkg_types.specs.declared.scheme.SchemeInfo.{SchemeInfo}
use Rattle.dkg_journal.specs.Operations.{Bars, Opens}
use Rattle.dkg_store.specs.Acts.{Held, OnDisk, held_after}
use Rattle.dkg_store.specs.Recorded.{restored_of}
use Rattle.dkg_core.specs.Courses.{Course, Say, Goes, Stops, bind, under, Genesis}
use Rattle.dkg_core.specs.Seen.{Seen}
use Rattle.dkg_core.specs.Sources.{Tip, startup}
use Rattle.dkg_core.specs.Fixed.{Fixed, Material, start}
use Rattle.dkg_core.specs.Live.{Live, Orchestrator, Waiting, NodeStop, Faulted, Follows, awaited_height, phase_of, with_orchestrator}
use Rattle.dkg_core.specs.Setup as s
use Rattle.dkg_core.specs.Plans as p
use Rattle.dkg_core.specs.Entering as half
use Rattle.dkg_core.specs.Entering.{LifeAndAnswer}
use Rattle.dkg_core.specs.Core.{opening, opens_in, begun_life}
use Rattle.dkg_core.specs.Node.{unless_once, kept_material, node_opening}
use Rattle.dkg_core.specs.Laws.{start_of}
use Rattle.dkg_core.specs.Endings.{stage_in, first_epoch, first_block, OnInfo, HasEntered, IsEntered}
use Rattle.dkg_core.specs.NodeEndings.{LacksNobody, IsFaultBy}
use Rattle.dkg_core.specs.Forms.{IsForm, IsLiveIn, IsActiveIn, ComesOver, FindsHeld, IsSetupFault, IsSeated, share_read, seed_read, started, IsOpeningStop, IsSetUpIn, IsOpened, OpeningsLead, held_behind, LeavesHeld, set_up_by, OpeningsLeadOver, HalvesBegin, IsNodeBegun, NodeOpeningsLead, NodeOpeningsLeadOver}
use Rattle.dkg_core.proofs.Splitting.{came_to}
use Rattle.dkg_core.proofs.Setups.{over_if, over_asks, comes_anywhere, came_over, over_as, over_behind, over_under, records_again, setups_come_to}

none_apart : {A : Type 0} (a : A) → ◌≡◌ {A = Option A} None (Some a) → ⊥
none_apart a e = cc

no_follower : (phase : Phase) → stage_in phase ≡ Follows → ⊥
no_follower Early e = cc
no_follower Midpoint e = cc
no_follower Late e = cc

other_number : (n m : ℕ) → (n == m) ≡ false → n ≡ m → ⊥
other_number n m e is = grind (arith, nat_tests)

-- THE RESHARE HALF

-- what is left of devices behind an opening
abbrev LeavesOver : {Dir : Type 0} → Fixed Dir → (devices : Option Held) → (k : Held) → (left : Option Held) → Option (Block Dir) → Type 0
LeavesOver c devices k left None = left ≡ devices
LeavesOver c devices k left (Some b) = IsSomeAnd (info_of b.payload) (λ info. left ≡ option_map (set_up_by s.Uncommitted (first_epoch c) info (share_read c info k) (seed_read c info k)) devices)

module _ {Dir : Type 0} (c : Fixed Dir) (form : IsForm c) (devices : Option Held) where
  abbrev F : Fault → Type 0
  F fault = (h k : Held) × FindsHeld devices h × FindsHeld devices k × IsOpeningStop c (c.seen h) k fault

  abbrev G : Live Dir → Option Held → Type 0
  G st left = (h k : Held) × FindsHeld devices h × FindsHeld devices k × IsOpened c (c.seen h) k st × LeavesOver c devices k left (first_block c)

  past_range : (tip : Option Tip) → option_map_or (λ t. s.is_past_range c (t.height + 1)) tip false ≡ true → s.is_past_range c (option_map_or (λ t. t.height + 1) tip 0) ≡ true
  past_range None e = absurd (let t : ◌≡◌ {A = Bool} false true = e in cc)
  past_range (Some t) e = e

  module _ (h : Held) (found : FindsHeld devices h) where
    abbrev seen : Seen
    seen = c.seen h

    abbrev fresh : Live Dir
    fresh = started c seen

    module _ (reached : s.is_past_range c (start_of c) ≡ false) where
      follower : IsLiveIn c fresh
      follower = record {
        awaits = λ apart. refl;
        in_round = λ round is. absurd (none_apart round is);
        without = λ e. (refl, refl);
        mine = λ dealer is. absurd (none_apart dealer is);
        numbered = λ round is. absurd (none_apart round is);
        idle = refl;
      }

      module _ (block : Block Dir) (is : first_block c ≡ Some block) (info : EpochInfo Dir) (carries : info_of block.payload ≡ Some info) where
        on_info : (P : EpochInfo Dir → Type 0) → P info → OnInfo c P
        on_info P held =
            subst (λ (o : Option (Block Dir)). IsSomeAnd o (λ b. IsSomeAnd (info_of b.payload) P)) (sym is) (subst (λ (o : Option (EpochInfo Dir)). IsSomeAnd o P) (sym carries) held)

        stops_by : (k : Held) (fault : Fault) → IsSetupFault c (first_epoch c) info (share_read c info k) (seed_read c info k) fresh fault → IsOpeningStop c seen k fault
        stops_by k HeightRange stop = absurd stop
        stops_by k (MissingEpochInfo height) stop = absurd stop
        stops_by k fault stop = on_info (λ i. IsSetupFault c (first_epoch c) i (share_read c i k) (seed_read c i k) fresh fault) stop

        opened : (k : Held) (end : Live Dir) → IsSeated c s.Uncommitted info (share_read c info k) (seed_read c info k) fresh end → IsOpened c seen k end
        opened k end seated = record {
          in_range = reached;
          tip = seated.tip;
          restored = ap (s.records_from (first_epoch c - 1)) seated.records ∙ records_again (first_epoch c - 1) fresh.records;
          live = seated.live;
          set_up = subst (IsSetUpIn c seen k end) (sym is)
              (subst (λ (o : Option (EpochInfo Dir)). IsSomeAnd o (λ i. IsSeated c s.Uncommitted i (share_read c i k) (seed_read c i k) fresh end)) (sym carries) seated);
        }

        leaves : (k : Held) (left : Option Held) → left ≡ option_map (set_up_by s.Uncommitted (first_epoch c) info (share_read c info k) (seed_read c info k)) devices → LeavesOver c devices k left (first_block c)
        leaves k left e = subst (LeavesOver c devices k left) (sym is)
            (subst (λ (o : Option (EpochInfo Dir)). IsSomeAnd o (λ i. left ≡ option_map (set_up_by s.Uncommitted (first_epoch c) i (share_read c i k) (seed_read c i k)) devices)) (sym carries) e)

        by_info : ComesOver F G (s.with_info c None s.Uncommitted info fresh) devices
        by_info =
            over_as (λ fault. (k : Held) × FindsHeld devices k × IsSetupFault c (first_epoch c) info (share_read c info k) (seed_read c info k) fresh fault) F
            (λ end left. (k : Held) × FindsHeld devices k × IsSeated c s.Uncommitted info (share_read c info k) (seed_read c info k) fresh end
            × (left ≡ option_map (set_up_by s.Uncommitted (first_epoch c) info (share_read c info k) (seed_read c info k)) devices)) G (s.with_info c None s.Uncommitted info fresh) devices
            (λ fault stop. (h, stop.0, found, stop.1, stops_by stop.0 fault stop.2))
            (λ end left seated. (h, seated.0, found, seated.1, opened seated.0 end seated.2, leaves seated.0 left seated.3))
            (setups_come_to c s.Uncommitted info fresh devices form refl refl)

      from_info : (block : Block Dir) → first_block c ≡ Some block → (carried : Option (EpochInfo Dir)) → info_of block.payload ≡ carried
          → ComesOver F G (option_map_or (λ info. s.with_info c None s.Uncommitted info fresh) carried (Stops (MissingEpochInfo block.height))) devices
      from_info block is None none = (h, h, found, found, subst (λ (o : Option (Block Dir)). IsSomeAnd o (λ b. (block.height ≡ b.height) × (info_of b.payload ≡ None))) (sym is) (refl, none))
      from_info block is (Some info) carries = by_info block is info carries

      from_boundary : (block : Option (Block Dir)) → first_block c ≡ block → ComesOver F G (s.from_boundary c block fresh) devices
      from_boundary None is = (
        h,
        h,
        found,
        found,
        record { in_range = reached; tip = refl; restored = refl; live = follower; set_up = subst (IsSetUpIn c seen h fresh) (sym is) (refl, refl, refl, refl) },
        subst (LeavesOver c devices h devices) (sym is) refl,
      )
      from_boundary (Some block) is = from_info block is (info_of block.payload) refl

    abbrev start_of_life : Live Dir
    start_of_life = begun_life seen

    abbrev next : Option (Material Dir) → Course Dir Fault (Live Dir)
    next kept = p.stays_in_range c (p.resolves_plan c (p.starts_from c start_of_life) kept)

    starts : ComesOver F G (p.starts_from c start_of_life None) devices
    starts =
        over_if F G devices (s.is_past_range c (start_of c)) (Stops HeightRange) (s.sets_up c None (record start_of_life { tip = startup c.source.anchor None }))
        (λ e. (h, h, found, found, e)) (λ e. from_boundary e (first_block c) refl)

    goes : ComesOver F G (next None) devices
    goes =
        over_if F G devices (option_map_or (λ t. s.is_past_range c (t.height + 1)) (start c) false) (Stops HeightRange) (p.starts_from c start_of_life None)
        (λ e. (h, h, found, found, past_range (start c) e)) (λ e. starts)

    opens : ComesOver F G (opens_in c c.oneshot start_of_life) devices
    opens = subst (λ (o : _). ComesOver F G (opens_in c o start_of_life) devices) (sym form.reshare)
        (subst (λ (m : Option (Material Dir)). ComesOver F G (p.finds_material c m next) devices) (sym form.bare)
        (over_asks F G devices (λ k. p.reads_plan c (c.seen k).plan next) (λ k of_k. subst (λ (plan : Option (List ℕ)). ComesOver F G (p.reads_plan c plan next) devices) (sym (form.unplanned k)) goes)))

  reads : ComesOver F G (s.looks c (λ seen. Say (lines.Opened c.life (map restored_of seen.dealings)) (opens_in c c.oneshot (begun_life seen)))) devices
  reads = over_asks F G devices (λ h. Say (lines.Opened c.life (map restored_of (c.seen h).dealings)) (opens_in c c.oneshot (begun_life (c.seen h)))) (λ h found. opens h found)

-- what the reads of an opening find
abbrev behind : {Dir : Type 0} → Fixed Dir → Option Held → Option Held
behind c devices = option_map (held_after (OnDisk (Opens c.opening_calls))) (option_map (held_after (OnDisk Bars)) devices)

comes : {Dir : Type 0} (c : Fixed Dir) (form : IsForm c) (devices : Option Held) → ComesOver (F c form (behind c devices)) (G c form (behind c devices)) (opening c) devices
comes c form devices = reads c form (behind c devices)

-- P of what both reads find, of which there is one
one_read : {A : Type 0} (held : Held) (P : Held → Held → A → Type 0) (a : A) (h k : Held) → h ≡ held → k ≡ held → P h k a → P held held a
one_read held P a h k of_h of_k is = subst (λ (k : Held). P held k a) of_k (subst (λ (h : Held). P h k a) of_h is)

same_some : {A : Type 0} (a b : A) → ◌≡◌ {A = Option A} (Some a) (Some b) → a ≡ b
same_some a b e = cc

-- what is left of devices that are given
leaves_held : {Dir : Type 0} (c : Fixed Dir) (held k new : Held) → k ≡ held → (block : Option (Block Dir)) → LeavesOver c (Some held) k (Some new) block → LeavesHeld c held new block
leaves_held c held k new of_k None left = same_some new held left
leaves_held {Dir} c held k new of_k (Some block) left = by_info (info_of block.payload) left
  where
    by_info : (carried : Option (EpochInfo Dir)) → IsSomeAnd carried (λ info. ◌≡◌ {A = Option Held} (Some new) (Some (set_up_by s.Uncommitted (first_epoch c) info (share_read c info k) (seed_read c info k) held)))
        → IsSomeAnd carried (λ info. new ≡ set_up_by s.Uncommitted (first_epoch c) info (share_read c info held) (seed_read c info held) held)
    by_info None left = left
    by_info (Some info) left =
        subst (λ (read : Held). new ≡ set_up_by s.Uncommitted (first_epoch c) info (share_read c info read) (seed_read c info read) held) of_k
        (same_some new (set_up_by s.Uncommitted (first_epoch c) info (share_read c info k) (seed_read c info k) held) left)

pub openings_lead : {Dir : Type 0} → OpeningsLead Dir
openings_lead {Dir} c ended old new form said =
    came_to (λ fault. (h k : Held) × IsOpeningStop c (c.seen h) k fault) (λ st. (h k : Held) × IsOpened c (c.seen h) k st) (opening c) ended old new
    (comes_anywhere (λ fault. (h k : Held) × IsOpeningStop c (c.seen h) k fault) (λ st left. (h k : Held) × IsOpened c (c.seen h) k st) (opening c)
    (over_as (F c form None) (λ fault. (h k : Held) × IsOpeningStop c (c.seen h) k fault) (G c form None) (λ st left. (h k : Held) × IsOpened c (c.seen h) k st) (opening c) None
    (λ fault found. (found.0, found.1, found.4)) (λ st left found. (found.0, found.1, found.4)) (comes c form None))) said

-- what an opening over given devices goes to
abbrev Opens_held : {Dir : Type 0} → Fixed Dir → (held : Held) → Live Dir → (left : Option Held) → Type 0
Opens_held c held st None = IsOpened c (c.seen held) held st
Opens_held c held st (Some new) = IsOpened c (c.seen held) held st × LeavesHeld c held new (first_block c)

opens_held : {Dir : Type 0} (c : Fixed Dir) (form : IsForm c) (held : Held) (st : Live Dir) (left : Option Held) → G c form (Some held) st left → Opens_held c held st left
opens_held c form held st None found = one_read held (λ h k st. IsOpened c (c.seen h) k st) st found.0 found.1 found.2 found.3 found.4
opens_held c form held st (Some new) found =
    (one_read held (λ h k st. IsOpened c (c.seen h) k st) st found.0 found.1 found.2 found.3 found.4, leaves_held c held found.1 new found.3 (first_block c) found.5)

pub openings_lead_over : {Dir : Type 0} → OpeningsLeadOver Dir
openings_lead_over c ended w new form run =
    let held : Held = held_behind c w.held in
    came_over (IsOpeningStop c (c.seen held) held) (Opens_held c held) (opening c) ended w new
    (over_as (F c form (Some held)) (IsOpeningStop c (c.seen held) held) (G c form (Some held)) (Opens_held c held) (opening c) (Some w.held)
    (λ fault found. one_read held (λ h k fault. IsOpeningStop c (c.seen h) k fault) fault found.0 found.1 found.2 found.3 found.4) (opens_held c form held) (comes c form (Some w.held))) run

-- THE ORCHESTRATOR'S HALF

module _ {Dir : Type 0} (c : Fixed Dir) (st : Live Dir) (seen : Seen) (k : Held) (opened : IsOpened c seen k st) (full : LacksNobody c) (devices : Option Held) where
  abbrev NoStop : NodeStop → Type 0
  NoStop stop = ⊥

  -- no device is touched
  abbrev Entered : LifeAndAnswer Dir → Option Held → Type 0
  Entered half left = IsEntered c st half.live × (left ≡ devices)

  module _ (block : Block Dir) (is : first_block c ≡ Some block) (info : EpochInfo Dir) (seated : IsSeated c s.Uncommitted info (share_read c info k) (seed_read c info k) (started c seen) st) where
    same : info.epoch ≡ first_epoch c
    same = seated.of_epoch

    abbrev waiting : Waiting Dir
    waiting = record { epoch = first_epoch c; info = info; floor = Genesis block.digest; block = None }

    entered : (o : Orchestrator Dir) (answer : half.HalfAnswer) → o.halted ≡ false → o.fence.closed ≡ st.orchestrator.fence.closed → Entered (record { live = with_orchestrator (half.with_entered (first_epoch c) o) st; answer = answer }) devices
    entered o answer active unclosed = (record { entered = subst (HasEntered c (half.with_entered (first_epoch c) o)) (sym is) (refl, active); unawaited = refl; unclosed = unclosed; same = refl }, refl)

    starts_engine : (o : Orchestrator Dir) (scheme : Option SchemeInfo) → is_some scheme ≡ true → o.halted ≡ false → o.fence.closed ≡ st.orchestrator.fence.closed → ComesOver NoStop Entered (half.starts_engine o waiting scheme st) devices
    starts_engine o None e active unclosed = let t : ◌≡◌ {A = Bool} false true = e in cc
    starts_engine o (Some scheme) e active unclosed = stopped o.entered
      where
        stopped : (old : Option ℕ) → ComesOver NoStop Entered (half.stops_engine old (Say (lines.Entered (first_epoch c)) (half.leaves (half.with_entered (first_epoch c) o) half.AcknowledgesBlock st))) devices
        stopped None = entered o half.AcknowledgesBlock active unclosed
        stopped (Some epoch) = entered o half.AcknowledgesBlock active unclosed

    tracks : (o : Orchestrator Dir) (lacking : Option ℕ) → lacking ≡ None → is_some (lookup (first_epoch c) o.schemes) ≡ true → o.halted ≡ false → o.fence.closed ≡ st.orchestrator.fence.closed → ComesOver NoStop Entered (half.tracks_peers o waiting lacking st) devices
    tracks o None none e active unclosed = starts_engine o (lookup (first_epoch c) o.schemes) e active unclosed
    tracks o (Some peer) none e active unclosed = absurd (none_apart peer (sym none))

    registered : is_some (lookup (first_epoch c) st.orchestrator.schemes) ≡ true
    registered = subst (λ (o : Orchestrator Dir). is_some (lookup (first_epoch c) o.schemes) ≡ true) (sym seated.orchestrator) (at_epoch (info.epoch == first_epoch c) (equal info.epoch (first_epoch c) same))
      where
        equal : (n m : ℕ) → n ≡ m → (n == m) ≡ true
        equal n m e = grind (arith, nat_tests)

        at_epoch : (t : Bool) → t ≡ true → is_some (if t then Some (s.scheme_for c info (share_read c info k)) else None) ≡ true
        at_epoch true e = refl
        at_epoch false e = e

    answered : half.wait_for st.orchestrator.fence (first_epoch c) ≡ waits.Ready
    answered = subst (λ (o : Orchestrator Dir). half.wait_for o.fence (first_epoch c) ≡ waits.Ready) (sym seated.orchestrator)
        (ap (λ (t : Bool). if t then waits.Ready else if false then waits.Closed else waits.Pending) (at_least info.epoch (first_epoch c) same))
      where
        at_least : (n m : ℕ) → n ≡ m → nat_le m n ≡ true
        at_least n m e = grind (arith, nat_tests)

    enters : ComesOver NoStop Entered (half.enters c waiting st) devices
    enters =
        subst (λ (answer : Waited). ComesOver NoStop Entered (half.waited_for c (record st.orchestrator { fence = waited (first_epoch c) answer st.orchestrator.fence }) waiting answer st) devices) (sym answered)
        (tracks (record st.orchestrator { fence = waited (first_epoch c) waits.Ready st.orchestrator.fence }) (c.directories.lacking info.directory (half.peers_for waiting)) (full info.directory (half.peers_for waiting)) registered
        (ap (λ (o : Orchestrator Dir). o.halted) seated.orchestrator) refl)

    by_epoch : ComesOver NoStop Entered (if info.epoch == first_epoch c then half.enters c waiting st else Stops (Faulted (WrongEpoch (first_epoch c) info.epoch))) devices
    by_epoch =
        over_if NoStop Entered devices (info.epoch == first_epoch c) (half.enters c waiting st) (Stops (Faulted (WrongEpoch (first_epoch c) info.epoch))) (λ e. enters)
        (λ e. other_number info.epoch (first_epoch c) e same)

  at_block : (block : Block Dir) → first_block c ≡ Some block → (carried : Option (EpochInfo Dir)) → info_of block.payload ≡ carried
      → IsSomeAnd carried (λ info. IsSeated c s.Uncommitted info (share_read c info k) (seed_read c info k) (started c seen) st)
      → ComesOver NoStop Entered (option_map_or (λ info. if info.epoch == first_epoch c then half.enters c (record { epoch = first_epoch c; info = info; floor = Genesis block.digest; block = None }) st
      else Stops (Faulted (WrongEpoch (first_epoch c) info.epoch))) carried (Stops (Faulted (MissingEpochInfo block.height)))) devices
  at_block block is None carries set_up = absurd set_up
  at_block block is (Some info) carries set_up = by_epoch block is info set_up

  at : (block : Option (Block Dir)) → first_block c ≡ block → IsSetUpIn c seen k st block → ComesOver NoStop Entered (half.opens_at c (first_epoch c) block st) devices
  at None is set_up = (record { entered = subst (HasEntered c (record st.orchestrator { halted = true; waiting = None })) (sym is) refl; unawaited = refl; unclosed = refl; same = refl }, refl)
  at (Some block) is set_up = at_block block is (info_of block.payload) refl set_up

  halves : ComesOver NoStop Entered (half.opens_half c None st) devices
  halves = over_if NoStop Entered devices (s.is_past_range c (start_of c)) (Stops (Faulted HeightRange)) (half.opens_at c (first_epoch c) (first_block c) st)
      (λ e. let t : ◌≡◌ {A = Bool} true false = sym e ∙ opened.in_range in cc) (λ e. at (first_block c) refl opened.set_up)

pub halves_begin : {Dir : Type 0} → HalvesBegin Dir
halves_begin c st seen k opened full =
    comes_anywhere (λ (stop : NodeStop). ⊥) (λ half left. IsEntered c st half.live) (half.opens_half c None st)
    (over_as (λ (stop : NodeStop). ⊥) (λ (stop : NodeStop). ⊥) (λ half left. IsEntered c st half.live × (left ≡ None)) (λ half left. IsEntered c st half.live) (half.opens_half c None st) None
    (λ stop never. never) (λ half left entered. entered.0) (halves c st seen k opened full None))

-- A NODE

module _ {Dir : Type 0} (c : Fixed Dir) (seen : Seen) (k : Held) (before : Live Dir) (opened : IsOpened c seen k before) where
  -- another orchestrator's half changes nothing of the reshare half
  pub live_with : (o : Orchestrator Dir) → IsLiveIn c (with_orchestrator o before)
  live_with o = record {
    awaits = opened.live.awaits;
    in_round = opened.live.in_round;
    without = opened.live.without;
    mine = opened.live.mine;
    numbered = opened.live.numbered;
    idle = opened.live.idle;
  }

  takes_part : (info : EpochInfo Dir) → IsSeated c s.Uncommitted info (share_read c info k) (seed_read c info k) (started c seen) before → before.participation.stage ≡ Follows → ⊥
  takes_part info seated follows = no_follower (phase_of c (awaited_height before)) (sym (opened.live.in_round seated.round seated.in_round) ∙ follows)

  at_info : (carried : Option (EpochInfo Dir)) → IsSomeAnd carried (λ info. IsSeated c s.Uncommitted info (share_read c info k) (seed_read c info k) (started c seen) before)
      → (first_epoch c ≡ before.participation.epoch) × (before.participation.stage ≡ Follows → ⊥)
  at_info None set_up = absurd set_up
  at_info (Some info) set_up = (
    sym (opened.live.awaits (takes_part info set_up) ∙ ap (λ (tip : Option Tip). epoch_of c.blocks_per_epoch (option_map_or (λ t. t.height + 1) tip 0)) opened.tip),
    takes_part info set_up,
  )

  active_by : (block : Option (Block Dir)) (o : Orchestrator Dir) → IsSetUpIn c seen k before block → HasEntered c o block
      → (o.halted ≡ true) ⊎ ((o.entered ≡ Some before.participation.epoch) × (before.participation.stage ≡ Follows → ⊥))
  active_by None o set_up halted = inl halted
  active_by (Some block) o set_up entered = let its = at_info (info_of block.payload) set_up in inr (entered.0 ∙ ap (λ (e : ℕ). Some e) its.0, its.1)

  begins : (st : Live Dir) → IsEntered c before st → IsNodeBegun c seen k st
  begins st entered = record {
    before = before;
    opened = opened;
    entered = entered;
    live = subst (IsLiveIn c) (sym entered.same) (live_with st.orchestrator);
    active = subst (IsActiveIn {Dir = Dir}) (sym entered.same)
        (record { unawaited = entered.unawaited; entered = active_by (first_block c) st.orchestrator opened.set_up entered.entered });
  }

module _ {Dir : Type 0} (c : Fixed Dir) (form : IsForm c) (full : LacksNobody c) (devices : Option Held) where
  abbrev Node_stops : NodeStop → Type 0
  Node_stops = IsFaultBy (F c form devices)

  abbrev Node_goes : Live Dir → Option Held → Type 0
  Node_goes st left = (h k : Held) × FindsHeld devices h × FindsHeld devices k × IsNodeBegun c (c.seen h) k st × LeavesOver c devices k left (first_block c)

  half_behind : (before : Live Dir) (left : Option Held) → G c form devices before left → ComesOver Node_stops Node_goes (bind (half.opens_half c None before) (λ half. Goes half.live)) left
  half_behind before left found =
      over_behind Node_stops (λ half held. IsEntered c before half.live × (held ≡ left)) Node_goes (half.opens_half c None before) (λ half. Goes half.live) left
      (over_as (λ (stop : NodeStop). ⊥) Node_stops (λ half held. IsEntered c before half.live × (held ≡ left)) (λ half held. IsEntered c before half.live × (held ≡ left)) (half.opens_half c None before) left
      (λ stop never. absurd never) (λ half held entered. entered) (halves c before (c.seen found.0) found.1 found.4 full left))
      (λ half held entered. (
        found.0,
        found.1,
        found.2,
        found.3,
        begins c (c.seen found.0) found.1 before found.4 half.live entered.0,
        subst (λ (its : Option Held). LeavesOver c devices found.1 its (first_block c)) (sym entered.1) found.5,
      ))

  -- no plan is read
  enters_half : (before : Live Dir) (left : Option Held) → G c form devices before left → ComesOver Node_stops Node_goes (kept_material c before) left
  enters_half before left found =
      over_asks Node_stops Node_goes left (λ h. bind (half.opens_half c (option_and_then (λ bytes. result_ok (whole (p.material_at c bytes))) (c.seen h).plan) before) (λ half. Goes half.live))
      (λ h of_h. subst (λ (plan : Option (List ℕ)). ComesOver Node_stops Node_goes (bind (half.opens_half c (option_and_then (λ bytes. result_ok (whole (p.material_at c bytes))) plan) before) (λ half. Goes half.live)) left)
      (sym (form.unplanned h)) (half_behind before left found))

  enters_next : (before : Live Dir) (left : Option Held) → G c form devices before left → ComesOver Node_stops Node_goes (unless_once c (kept_material c before) (Goes before)) left
  enters_next before left found = subst (λ (o : _). ComesOver Node_stops Node_goes (if is_some o then Goes before else kept_material c before) left) (sym form.reshare) (enters_half before left found)

node_comes : {Dir : Type 0} (c : Fixed Dir) (form : IsForm c) (full : LacksNobody c) (devices : Option Held)
    → ComesOver (Node_stops c form full (behind c devices)) (Node_goes c form full (behind c devices)) (node_opening c) devices
node_comes c form full devices =
    over_behind (Node_stops c form full (behind c devices)) (G c form (behind c devices)) (Node_goes c form full (behind c devices)) (under Faulted (opening c))
    (λ st. unless_once c (kept_material c st) (Goes st)) devices
    (over_under Faulted (F c form (behind c devices)) (G c form (behind c devices)) (opening c) devices (comes c form devices)) (enters_next c form full (behind c devices))

pub node_openings_lead : {Dir : Type 0} → NodeOpeningsLead Dir
node_openings_lead c ended old new form full said =
    came_to (IsFaultBy (λ fault. (h k : Held) × IsOpeningStop c (c.seen h) k fault)) (λ st. (h k : Held) × IsNodeBegun c (c.seen h) k st) (node_opening c) ended old new
    (comes_anywhere (IsFaultBy (λ fault. (h k : Held) × IsOpeningStop c (c.seen h) k fault)) (λ st left. (h k : Held) × IsNodeBegun c (c.seen h) k st) (node_opening c)
    (over_as (Node_stops c form full None) (IsFaultBy (λ fault. (h k : Held) × IsOpeningStop c (c.seen h) k fault)) (Node_goes c form full None) (λ st left. (h k : Held) × IsNodeBegun c (c.seen h) k st) (node_opening c) None
    (λ stop its. (its.0, its.1, (its.2.0, its.2.1, its.2.4))) (λ st left found. (found.0, found.1, found.4)) (node_comes c form full None))) said

-- what a node's opening over given devices goes to
abbrev Begins_held : {Dir : Type 0} → Fixed Dir → (held : Held) → Live Dir → (left : Option Held) → Type 0
Begins_held c held st None = IsNodeBegun c (c.seen held) held st
Begins_held c held st (Some new) = IsNodeBegun c (c.seen held) held st × LeavesHeld c held new (first_block c)

begins_held : {Dir : Type 0} (c : Fixed Dir) (form : IsForm c) (full : LacksNobody c) (held : Held) (st : Live Dir) (left : Option Held) → Node_goes c form full (Some held) st left → Begins_held c held st left
begins_held c form full held st None found = one_read held (λ h k st. IsNodeBegun c (c.seen h) k st) st found.0 found.1 found.2 found.3 found.4
begins_held c form full held st (Some new) found =
    (one_read held (λ h k st. IsNodeBegun c (c.seen h) k st) st found.0 found.1 found.2 found.3 found.4, leaves_held c held found.1 new found.3 (first_block c) found.5)

pub node_openings_lead_over : {Dir : Type 0} → NodeOpeningsLeadOver Dir
node_openings_lead_over c ended w new form full run =
    let held : Held = held_behind c w.held in
    came_over (IsFaultBy (IsOpeningStop c (c.seen held) held)) (Begins_held c held) (node_opening c) ended w new
    (over_as (Node_stops c form full (Some held)) (IsFaultBy (IsOpeningStop c (c.seen held) held)) (Node_goes c form full (Some held)) (Begins_held c held) (node_opening c) (Some w.held)
    (λ stop its. (its.0, its.1, one_read held (λ h k fault. IsOpeningStop c (c.seen h) k fault) its.0 its.2.0 its.2.1 its.2.2 its.2.3 its.2.4)) (begins_held c form full held) (node_comes c form full (Some w.held))) run
