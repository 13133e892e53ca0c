-- What a block leaves of a life that follows: the tip, or at an epoch's last height the next epoch set up.
use Rattle.std.proofs.Common.{◌≡◌, ℕ, Bool, true, false, List, [], Option, Some, None, refl, sym, ◌∙◌, ap, subst, arith}
use Rattle.std.specs.Prelude.{◌+◌, ◌==◌, if◌then◌else◌, is_some, option_map, IsSomeAnd}
use Rattle.std.specs.Option.{option_map_or}
use Rattle.std.proofs.lemmas.Bool.Decides.{nat_tests}
use Rattle.dkg_ceremony.specs.declared.phase.Phase.{Phase}
use Rattle.dkg_ceremony.specs.declared.phase.Phase.TheVariants.{Early, Midpoint, Late}
use Rattle.dkg_ceremony.specs.Schedule.{epoch_of}
use Rattle.dkg_types.specs.Blocks.{Block}
use Rattle.dkg_types.specs.BlockCodes.{info_of}
use Rattle.dkg_infos.specs.declared.fault.Fault.{Fault}
use Rattle.dkg_infos.specs.declared.fault.Fault.TheVariants.{HeightRange, MissingEpochInfo, WrongEpoch}
use Rattle.dkg_infos.specs.declared.info.EpochInfo.{EpochInfo}
use Rattle.dkg_store.specs.Acts.{Held}
use Rattle.dkg_core.specs.Courses.{Goes, Stops, bind}
use Rattle.dkg_core.specs.Fixed.{Fixed, OneShot}
use Rattle.dkg_core.specs.Live.{Live, Inclusion, Follows, awaited_height, phase_of, is_last_height, with_tip, with_participation}
use Rattle.dkg_core.specs.Setup as s
use Rattle.dkg_core.specs.Blocks as b
use Rattle.dkg_core.specs.Core.{no_inclusion}
use Rattle.dkg_core.specs.Endings.{stage_in}
use Rattle.dkg_core.specs.Forms.{IsForm, IsLiveIn, ComesOver, FindsHeld, IsSetupFault, IsSeated, share_read, seed_read, committed_by, set_up_by}
use Rattle.dkg_core.specs.Stepping.{next_epoch, taken_over, held_committed, held_behind_commit, IsTakeoverStop, IsTakenOver, IsFollowedEnd}
use Rattle.dkg_core.proofs.Heights.{next_last}
use Rattle.dkg_core.proofs.Setups.{over_if, over_asks, over_as, some_found, setups_come_to}

same_number : (n m : ℕ) → (n == m) ≡ true → n ≡ m
same_number n m e = grind (arith, nat_tests)

other_number : (n m : ℕ) → (n == m) ≡ false → n ≡ m → ⊥
other_number n m e is = grind (arith, nat_tests)

equal_number : (n m : ℕ) → n ≡ m → (n == m) ≡ true
equal_number n m e = grind (arith, nat_tests)

no_follower : (phase : Phase) → stage_in phase ≡ Follows → ⊥
no_follower Early e = cc
no_follower Midpoint e = cc
no_follower Late e = cc

-- P of what is left, where that is known
abbrev pub IfLeft : Option Held → (Held → Type 0) → Type 0
IfLeft None P = Unit {0}
IfLeft (Some now) P = P now

module _ {Dir : Type 0} (c : Fixed Dir) (form : IsForm c) (block : Block Dir) (st : Live Dir) (live : IsLiveIn c st) (follows : st.participation.stage ≡ Follows) (devices : Option Held) where
  -- a life that follows goes on following at any tip
  pub followed : IsLiveIn c (with_tip block st)
  followed = record {
    awaits = λ apart. absurd (apart follows);
    in_round = λ round is. absurd (no_follower (phase_of c (awaited_height st)) (sym (live.in_round round is) ∙ follows));
    without = live.without;
    mine = live.mine;
    numbered = live.numbered;
    idle = live.idle;
  }

  -- what the devices held as the info was committed, and as it was set up
  abbrev Stop : Fault → Type 0
  Stop fault = (h k : Held) × FindsHeld devices h × FindsHeld (option_map (held_behind_commit c block) devices) k × IsTakeoverStop c block st h k fault

  abbrev pub Taken : Held → Held → Type 0
  Taken k now = IsSomeAnd (info_of block.payload) (λ info. now ≡ set_up_by s.WasCommitted (next_epoch c block) info (share_read c info k) (seed_read c info k) k)

  abbrev To : Live Dir → Option Held → Type 0
  To end left =
      (h k : Held) × FindsHeld devices h × FindsHeld (option_map (held_behind_commit c block) devices) k × IsLiveIn c end × IsTakenOver c block st h k end × IfLeft left (Taken k)

  module _ (last : is_last_height c block.height ≡ true) (info : EpochInfo Dir) (carries : info_of block.payload ≡ Some info) (of_next : info.epoch ≡ next_epoch c block) where
    on_info : (P : EpochInfo Dir → Type 0) → P info → IsSomeAnd (info_of block.payload) P
    on_info P p = subst (λ (o : Option (EpochInfo Dir)). IsSomeAnd o P) (sym carries) p

    awaited : epoch_of c.blocks_per_epoch (block.height + 1) ≡ next_epoch c block
    awaited = next_last c.blocks_per_epoch block.height form.counted last

    -- the devices behind the commit
    abbrev behind : Option Held
    behind = option_map (held_committed c info) devices

    behind_is : option_map (held_behind_commit c block) devices ≡ behind
    behind_is = ap (λ (o : Option (EpochInfo Dir)). option_map (λ h. option_map_or (λ x. held_committed c x h) o h) devices) carries

    module _ (h : Held) (found : FindsHeld devices h) where
      abbrev share : Option ℕ
      share = share_read c info h

      abbrev seed : List ℕ
      seed = seed_read c info h

      abbrev before : Live Dir
      before = taken_over c block info share st

      behind_at : option_map (committed_by s.Uncommitted info share seed) devices ≡ behind
      behind_at = either devices found
        where
          either : (o : Option Held) → FindsHeld o h → option_map (committed_by s.Uncommitted info share seed) o ≡ option_map (held_committed c info) o
          either None found = refl
          either (Some held) found = ap (λ (x : Held). Some (committed_by s.Uncommitted info (share_read c info x) (seed_read c info x) held)) found

      abbrev of_setup : Fault → Type 0
      of_setup fault = (k : Held) × FindsHeld behind k × IsSetupFault c before.participation.epoch info (share_read c info k) (seed_read c info k) before fault

      abbrev set_up : Live Dir → Option Held → Type 0
      set_up end left =
          (k : Held) × FindsHeld behind k × IsSeated c s.WasCommitted info (share_read c info k) (seed_read c info k) before end
          × (left ≡ option_map (set_up_by s.WasCommitted before.participation.epoch info (share_read c info k) (seed_read c info k)) behind)

      as_found : (k : Held) → FindsHeld behind k → FindsHeld (option_map (held_behind_commit c block) devices) k
      as_found k is = subst (λ (o : Option Held). FindsHeld o k) (sym behind_is) is

      -- a fault of the setup is no other one of the info
      fault_at : (k : Held) (fault : Fault) → IsSetupFault c before.participation.epoch info (share_read c info k) (seed_read c info k) before fault → IsTakeoverStop c block st h k fault
      fault_at k (WrongEpoch expected got) stop = absurd (stop.2 (of_next ∙ sym awaited))
      fault_at k HeightRange stop = absurd stop
      fault_at k (MissingEpochInfo height) stop = absurd stop
      fault_at k fault stop =
          on_info (λ i. (i.epoch ≡ next_epoch c block) × IsSetupFault c (next_epoch c block) i (share_read c i k) (seed_read c i k) (taken_over c block i (share_read c i h) st) fault)
          (of_next, subst (λ (epoch : ℕ). IsSetupFault c epoch info (share_read c info k) (seed_read c info k) before fault) awaited stop)

      stopped : (fault : Fault) → of_setup fault → Stop fault
      stopped fault stop = (h, stop.0, found, as_found stop.0 stop.1, fault_at stop.0 fault stop.2)

      left_at : (k : Held) (left : Option Held) → FindsHeld behind k → left ≡ option_map (set_up_by s.WasCommitted before.participation.epoch info (share_read c info k) (seed_read c info k)) behind → IfLeft left (Taken k)
      left_at k left finds is = subst (λ (o : Option Held). IfLeft o (Taken k)) (sym is) (either behind finds)
        where
          either : (o : Option Held) → FindsHeld o k → IfLeft (option_map (set_up_by s.WasCommitted before.participation.epoch info (share_read c info k) (seed_read c info k)) o) (Taken k)
          either None finds = tt
          either (Some held) finds =
              on_info (λ i. set_up_by s.WasCommitted before.participation.epoch info (share_read c info k) (seed_read c info k) held ≡ set_up_by s.WasCommitted (next_epoch c block) i (share_read c i k) (seed_read c i k) k)
              (ap (λ (epoch : ℕ). set_up_by s.WasCommitted epoch info (share_read c info k) (seed_read c info k) held) awaited
              ∙ ap (set_up_by s.WasCommitted (next_epoch c block) info (share_read c info k) (seed_read c info k)) (sym finds))

      went : s.is_past_range c (block.height + 1) ≡ false → (end : Live Dir) (left : Option Held) → set_up end left → To end left
      went reached end left its =
          (h, its.0, found, as_found its.0 its.1, its.2.live, record { info = info; carried = carries; of_next = of_next; in_range = reached; seated = its.2 }, left_at its.0 left its.1 its.3)

      idle : before.inclusion ≡ no_inclusion
      idle = ap (λ (x : Inclusion Dir). record x { served = None; queue = []; running = None; waiter = None; retained = None; cached = None }) live.idle

      -- the committed info is that of the awaited epoch
      committed : s.committed_info before ≡ Some info
      committed = ap (λ (t : Bool). if t then Some info else None) (equal_number info.epoch (epoch_of c.blocks_per_epoch (block.height + 1)) (of_next ∙ sym awaited))

      abbrev unset : Live Dir
      unset = with_tip block (s.with_registered info.epoch (s.scheme_for c info share) (with_participation (record st.participation { current = Some info }) st))

      sets_up : s.is_past_range c (block.height + 1) ≡ false → ComesOver Stop To (s.sets_up c None unset) behind
      sets_up reached =
          subst (λ (o : Option (EpochInfo Dir)). ComesOver Stop To (s.sets_up_by c None o before) behind) (sym committed)
          (over_as of_setup Stop set_up To (s.with_info c None s.WasCommitted info before) behind stopped (went reached) (setups_come_to c s.WasCommitted info before behind form refl idle))

      setup : ComesOver Stop To (s.setup c None unset) behind
      setup =
          over_if Stop To behind (s.is_past_range c (block.height + 1)) (Stops HeightRange) (s.sets_up c None unset)
          (λ e. let known = some_found behind in (h, known.0, found, as_found known.0 known.1, (on_info (λ i. i.epoch ≡ next_epoch c block) of_next, e))) sets_up

      -- behind the commit and the registration
      commits : (share : Option ℕ) (seed : List ℕ) (o : Option Held)
          → ComesOver Stop To (s.setup c None (with_tip block (s.with_registered info.epoch (s.scheme_for c info share) (with_participation (record st.participation { current = Some info }) st)))) (option_map (committed_by s.Uncommitted info share seed) o)
          → ComesOver Stop To (bind (s.commits info seed share st) (λ st. bind (s.registers c info share st) (λ st. s.setup c None (with_tip block st)))) o
      commits None its None comes = comes
      commits None its (Some held) comes = comes
      commits (Some value) its None comes = comes
      commits (Some value) its (Some held) comes = comes

      into : ComesOver Stop To (bind (s.commits info seed share st) (λ st. bind (s.registers c info share st) (λ st. s.setup c None (with_tip block st)))) devices
      into = commits share seed devices (subst (λ (o : Option Held). ComesOver Stop To (s.setup c None unset) o) (sym behind_at) setup)

    follows_into : ComesOver Stop To (b.follows_into c block info st) devices
    follows_into =
        over_asks Stop To devices (λ h. bind (s.commits info (seed_read c info h) (share_read c info h) st) (λ st. bind (s.registers c info (share_read c info h) st) (λ st. s.setup c None (with_tip block st)))) into

  -- A LAST BLOCK

  known : (h k : Held) × FindsHeld devices h × FindsHeld (option_map (held_behind_commit c block) devices) k
  known = let first = some_found devices in let second = some_found (option_map (held_behind_commit c block) devices) in (first.0, second.0, first.1, second.1)

  abbrev expected : ℕ
  expected = b.expected_epoch c block.height

  expected_is : expected ≡ next_epoch c block
  expected_is = ap (λ (o : Option (OneShot Dir)). if is_some o then 0 else next_epoch c block) form.reshare

  by_info : is_last_height c block.height ≡ true → (carries : Option (EpochInfo Dir)) → info_of block.payload ≡ carries
      → ComesOver Stop To (option_map_or (λ info. if info.epoch == expected then b.follows_into c block info st else Stops (WrongEpoch expected info.epoch)) carries (Stops (MissingEpochInfo block.height))) devices
  by_info last None is = (known.0, known.1, known.2, known.3, (refl, is))
  by_info last (Some info) is =
      over_if Stop To devices (info.epoch == expected) (b.follows_into c block info st) (Stops (WrongEpoch expected info.epoch))
      (λ e. follows_into last info is (same_number info.epoch expected e ∙ expected_is))
      (λ e. (known.0, known.1, known.2, known.3, (expected_is, on_info_of info is (λ i. (info.epoch ≡ i.epoch) × (i.epoch ≡ next_epoch c block → ⊥)) (refl, λ same. other_number info.epoch expected e (same ∙ sym expected_is)))))
    where
      on_info_of : (info : EpochInfo Dir) → info_of block.payload ≡ Some info → (P : EpochInfo Dir → Type 0) → P info → IsSomeAnd (info_of block.payload) P
      on_info_of info is P p = subst (λ (o : Option (EpochInfo Dir)). IsSomeAnd o P) (sym is) p

  -- ANY BLOCK

  abbrev pub FollowedStop : Fault → Type 0
  FollowedStop fault = (h k : Held) × FindsHeld devices h × FindsHeld (option_map (held_behind_commit c block) devices) k × (is_last_height c block.height ≡ true) × IsTakeoverStop c block st h k fault

  abbrev pub FollowedEnd : Live Dir → Option Held → Type 0
  FollowedEnd end left =
      (h k : Held) × FindsHeld devices h × FindsHeld (option_map (held_behind_commit c block) devices) k × IsLiveIn c end × IsFollowedEnd c block st h k (is_last_height c block.height) end
      × (is_last_height c block.height ≡ true → IfLeft left (Taken k))

  pub following_comes : ComesOver FollowedStop FollowedEnd (b.follows_at c block st) devices
  following_comes =
      over_if FollowedStop FollowedEnd devices (is_last_height c block.height) (b.carried c block (λ info. b.follows_into c block info st)) (Goes (with_tip block st))
      (λ e. over_as Stop FollowedStop To FollowedEnd (b.carried c block (λ info. b.follows_into c block info st)) devices
      (λ fault stop. (stop.0, stop.1, stop.2, stop.3, e, stop.4))
      (λ end left its. (its.0, its.1, its.2, its.3, its.4, subst (λ (t : Bool). IsFollowedEnd c block st its.0 its.1 t end) (sym e) its.5, λ last. its.6))
      (by_info e (info_of block.payload) refl))
      (λ e. (
        known.0,
        known.1,
        known.2,
        known.3,
        followed,
        subst (λ (t : Bool). IsFollowedEnd c block st known.0 known.1 t (with_tip block st)) (sym e) refl,
        λ last. absurd (let no : ◌≡◌ {A = Bool} true false = sym last ∙ e in cc),
      ))
