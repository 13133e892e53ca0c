-- What an epoch's last block leaves: the carried info is committed and registered, and the next epoch is set up by it.
use Rattle.std.proofs.Common.{◌≡◌, inl, inr, ℕ, Bool, true, false, List, [], ◌∷◌, Option, Some, None, refl, sym, ◌∙◌, ap, subst, arith}
use Rattle.std.specs.Prelude.{◌+◌, ◌==◌, ◌&&◌, if◌then◌else◌, is_some, is_none, option_map, IsSomeAnd, Ok}
use Rattle.std.specs.Option.{option_map_or}
use Rattle.std.proofs.lemmas.Bool.Decides.{nat_tests}
use Rattle.dkg_values.specs.Rising.{lookup}
use Rattle.dkg_ceremony.specs.declared.round.RoundParts.{RoundParts as Round}
use Rattle.dkg_ceremony.specs.Schedule.{epoch_of}
use Rattle.dkg_types.specs.Blocks.{Block}
use Rattle.dkg_types.specs.BlockCodes.{info_of}
use Rattle.dkg_infos.specs.declared.entry.Why.TheVariants.{Finished}
use Rattle.dkg_infos.specs.declared.fault.Fault.{Fault}
use Rattle.dkg_infos.specs.declared.fault.Fault.TheVariants.{HeightRange, MissingEpochInfo, WrongEpoch, LocalState}
use Rattle.dkg_infos.specs.declared.fault.LocalCause.TheVariants.{OutcomeOmitted}
use Rattle.dkg_infos.specs.declared.info.EpochInfo.{EpochInfo}
use Rattle.dkg_store.specs.Acts.{Held}
use Rattle.dkg_core.specs.Courses.{Course, Goes, Stops, bind}
use Rattle.dkg_core.specs.Fixed.{Fixed, OneShot}
use Rattle.dkg_core.specs.Live.{Live, Inclusion, Request, Artifact, RequestAnswer, GaveNone, is_last_height, with_tip, with_participation, with_inclusion, with_told}
use Rattle.dkg_core.specs.Setup as s
use Rattle.dkg_core.specs.Blocks as b
use Rattle.dkg_core.specs.Laws.{IsAmong}
use Rattle.dkg_core.specs.Endings.{validity}
use Rattle.dkg_core.specs.Forms.{IsForm, ComesOver, FindsHeld, round_for, current_by, IsSetupFault, IsSeated, share_read, seed_read, committed_by, set_up_by}
use Rattle.dkg_core.specs.Stepping.{next_epoch}
use Rattle.dkg_core.specs.Asked.{OfShares, FirstNeeds, IsAsked, IsEmptied, IsInformed}
use Rattle.dkg_core.specs.Through.{unasked, IsLiveThrough, IsShareTaken, held_with, IsCarriedOn, IsPassedOn, IsPassingStop}
use Rattle.dkg_core.proofs.Counting.{some_is}
use Rattle.dkg_core.proofs.Heights.{next_last}
use Rattle.dkg_core.proofs.Setups.{over_if, over_asks, over_as, some_found, setups_come_through}

none_apart : {A : Type 0} (a : A) → ◌≡◌ {A = Option A} None (Some a) → ⊥
none_apart a e = cc

same_number : (n m : ℕ) → (n == m) ≡ true → n ≡ m
same_number n m e = grind (arith, nat_tests)

other_number : (n m : ℕ) → (n == m) ≡ false → n ≡ m → ⊥
other_number n m e is = grind (arith, nat_tests)

equal_number : (n m : ℕ) → n ≡ m → (n == m) ≡ true
equal_number n m e = grind (arith, nat_tests)

-- A LIFE THAT WAS SET UP

module _ {Dir : Type 0} (c : Fixed Dir) (stored : OfShares) where
  -- nothing is asked of one that has nothing of requests
  pub asked_none : (st : Live Dir) → IsEmptied st.inclusion → IsAsked c stored st
  asked_none st empty = record {
    has = record {
      served = λ apart. empty.served;
      none = λ follows. empty.queue;
      early = λ apart. (empty.running, empty.retained, empty.cached);
      waits = λ none. empty.waiter;
      runs = λ job e. absurd (none_apart job (sym empty.running ∙ e));
      kept = λ r e. absurd (none_apart r (sym empty.retained ∙ e));
      made = λ d e. absurd (none_apart d (sym empty.cached ∙ e));
    };
    read = λ includes none round is. subst (FirstNeeds c round st) (sym empty.queue) tt;
  }

  pub seated_through : IsForm c → (standing : s.Standing) (info : EpochInfo Dir) (share : Option ℕ) (seed : List ℕ) (st end : Live Dir) → IsSeated c standing info share seed (unasked st) (unasked end)
      → IsEmptied end.inclusion → current_by standing info st.participation.current ≡ Some info → IsLiveThrough c stored end
  seated_through form standing info share seed st end its empty current = record { stands = its.live; informed = informed; asked = asked_none end empty }
    where
      epoch_is : end.participation.epoch ≡ st.participation.epoch
      epoch_is =
          sym (its.live.numbered its.round its.in_round)
          ∙ form.ceremony.round_has c.namespace st.participation.epoch (Some info.output) c.mode c.reveal info.output.players info.players its.round its.drawn

      informed : IsInformed c end
      informed round is =
          subst (λ (o : Option (EpochInfo Dir)). IsSomeAnd o (λ i. (i.epoch ≡ end.participation.epoch) × (validity c i ≡ Ok tt) × (round_for c end.participation.epoch i ≡ Ok round))) (sym (its.current ∙ current)) (
            its.of_epoch ∙ sym epoch_is,
            its.valid,
            subst (λ (epoch : ℕ). round_for c epoch info ≡ Ok round) (sym epoch_is) (subst (λ (x : Round). round_for c st.participation.epoch info ≡ Ok x) (some_is its.round round (sym its.in_round ∙ is)) its.drawn),
          )

-- ANSWERING WHAT IS LEFT

-- this number was told last that the epoch has finished
abbrev IsToldOver : {Dir : Type 0} → List (ℕ × RequestAnswer Dir) → ℕ → Type 0
IsToldOver told number = lookup number told ≡ Some (GaveNone Finished)

-- .. each of these
abbrev pub AreToldOver : {Dir : Type 0} → List (Request Dir) → List (ℕ × RequestAnswer Dir) → Type 0
AreToldOver {Dir} queue told = (r : Request Dir) → IsAmong r queue → IsToldOver told r.number

-- .. and it stays so where another is told so
told_on : {Dir : Type 0} (told : List (ℕ × RequestAnswer Dir)) (other number : ℕ) → IsToldOver told number → IsToldOver {Dir = Dir} ((other, GaveNone Finished) ∷ told) number
told_on {Dir} told other number is = either (other == number)
  where
    either : (t : Bool) → ◌≡◌ {A = Option (RequestAnswer Dir)} (if t then Some (GaveNone Finished) else lookup number told) (Some (GaveNone Finished))
    either true = refl
    either false = is

told_now : {Dir : Type 0} (told : List (ℕ × RequestAnswer Dir)) (number : ℕ) → IsToldOver {Dir = Dir} ((number, GaveNone Finished) ∷ told) number
told_now {Dir} told number = either (number == number) (equal_number number number refl)
  where
    either : (t : Bool) → t ≡ true → ◌≡◌ {A = Option (RequestAnswer Dir)} (if t then Some (GaveNone Finished) else lookup number told) (Some (GaveNone Finished))
    either true e = refl
    either false e = absurd (let no : ◌≡◌ {A = Bool} false true = e in cc)

module _ {Dir : Type 0} (stops : Fault → Type 0) (goes : Live Dir → Option Held → Type 0) (devices : Option Held) (next : Live Dir → Course Dir Fault (Live Dir)) where
  abbrev Next : Live Dir → List (ℕ × RequestAnswer Dir) → Type 0
  Next now told = ComesOver stops goes (next (with_inclusion (record now.inclusion { queue = []; told = told }) now)) devices

  -- what was told stays
  answers_on : (queue : List (Request Dir)) (now : Live Dir)
      → ((told : List (ℕ × RequestAnswer Dir)) → ((number : ℕ) → IsToldOver now.inclusion.told number → IsToldOver told number) → AreToldOver queue told → Next now told)
      → ComesOver stops goes (bind (b.answers_all queue now) next) devices
  answers_on [] now so = so now.inclusion.told (λ number is. is) (λ r among. absurd among)
  answers_on (r ∷ rs) now so =
      answers_on rs (with_told r.number (GaveNone Finished) now)
      (λ told stays rest. so told (λ number is. stays number (told_on now.inclusion.told r.number number is)) (each told stays rest))
    where
      each : (told : List (ℕ × RequestAnswer Dir)) → ((number : ℕ) → IsToldOver {Dir = Dir} ((r.number, GaveNone Finished) ∷ now.inclusion.told) number → IsToldOver told number) → AreToldOver rs told → AreToldOver (r ∷ rs) told
      each told stays rest x (inl same) = subst (λ (y : Request Dir). IsToldOver told y.number) same (stays r.number (told_now now.inclusion.told r.number))
      each told stays rest x (inr more) = rest x more

  pub answers_all : (queue : List (Request Dir)) (now : Live Dir) → ((told : List (ℕ × RequestAnswer Dir)) → AreToldOver queue told → Next now told) → ComesOver stops goes (bind (b.answers_all queue now) next) devices
  answers_all queue now so = answers_on queue now (λ told stays all. so told all)

-- A LAST BLOCK

module _ {Dir : Type 0} (c : Fixed Dir) (form : IsForm c) (stored : OfShares) (block : Block Dir) (last : is_last_height c block.height ≡ true) (st : Live Dir) (devices : Option Held) where
  abbrev pub PassingStop : Fault → Type 0
  PassingStop fault = IsPassingStop c stored block st devices fault

  abbrev pub PassedTo : Live Dir → Option Held → Type 0
  PassedTo end left = IsLiveThrough c stored end × IsPassedOn c stored block st devices end left

  abbrev expected : ℕ
  expected = b.expected_epoch c block.height

  expected_is : expected ≡ next_epoch c block
  expected_is = ap (λ (o : Option (OneShot Dir)). if is_some o then 0 else next_epoch c block) form.reshare

  -- the carried info, of the epoch behind
  pub by_carried : (f : EpochInfo Dir → Course Dir Fault (Live Dir))
      → ((info : EpochInfo Dir) → info_of block.payload ≡ Some info → info.epoch ≡ next_epoch c block → ComesOver PassingStop PassedTo (f info) devices) → ComesOver PassingStop PassedTo (b.carried c block f) devices
  by_carried f each = by_info (info_of block.payload) refl
    where
      on_info : (info : EpochInfo Dir) → info_of block.payload ≡ Some info → (P : EpochInfo Dir → Type 0) → P info → IsSomeAnd (info_of block.payload) P
      on_info info is P p = subst (λ (o : Option (EpochInfo Dir)). IsSomeAnd o P) (sym is) p

      by_info : (carries : Option (EpochInfo Dir)) → info_of block.payload ≡ carries
          → ComesOver PassingStop PassedTo (option_map_or (λ info. if info.epoch == expected then f info else Stops (WrongEpoch expected info.epoch)) carries (Stops (MissingEpochInfo block.height))) devices
      by_info None is = (refl, is)
      by_info (Some info) is =
          over_if PassingStop PassedTo devices (info.epoch == expected) (f info) (Stops (WrongEpoch expected info.epoch))
          (λ e. each info is (same_number info.epoch expected e ∙ expected_is))
          (λ e. (expected_is, on_info info is (λ i. (info.epoch ≡ i.epoch) × (i.epoch ≡ next_epoch c block → ⊥)) (refl, λ same. other_number info.epoch expected e (same ∙ sym expected_is))))

  module _ (info : EpochInfo Dir) (carries : info_of block.payload ≡ Some info) (of_next : info.epoch ≡ next_epoch c block) (h : Held) (found : FindsHeld devices h) (share : Option ℕ)
      (shared : IsShareTaken c stored st h info share st.participation.stage) where
    awaited : epoch_of c.blocks_per_epoch (block.height + 1) ≡ next_epoch c block
    awaited = next_last c.blocks_per_epoch block.height form.counted last

    -- the devices behind the commit
    abbrev behind : Option Held
    behind = option_map (held_with c info share) devices

    behind_at : option_map (committed_by s.Uncommitted info share (seed_read c info h)) devices ≡ behind
    behind_at = either devices found
      where
        either : (o : Option Held) → FindsHeld o h → option_map (committed_by s.Uncommitted info share (seed_read c info h)) o ≡ option_map (held_with c info share) o
        either None found = refl
        either (Some held) found = ap (λ (x : Held). Some (committed_by s.Uncommitted info share (seed_read c info x) held)) found

    abbrev carried_on : (k : Held) → FindsHeld behind k → IsCarriedOn c stored block st devices
    carried_on k between = record { info = info; carried = carries; of_next = of_next; h = h; found = found; share = share; shared = shared; k = k; between = between }

    -- the life behind the registration, with an inclusion
    abbrev pub registered : Inclusion Dir → Live Dir
    registered i = s.with_registered info.epoch (s.scheme_for c info share) (with_participation (record st.participation { current = Some info }) (with_inclusion i st))

    module _ (i : Inclusion Dir) (used : i.used ≡ st.inclusion.used) (answered : AreToldOver st.inclusion.queue i.told) where
      abbrev before : Live Dir
      before = s.anew c (with_tip block (registered i))

      empty : IsEmptied before.inclusion
      empty = record { served = refl; queue = refl; running = refl; waiter = refl; retained = refl; cached = refl }

      abbrev of_setup : Fault → Type 0
      of_setup fault = (k : Held) × FindsHeld behind k × IsSetupFault c before.participation.epoch info (share_read c info k) (seed_read c info k) before fault

      abbrev set_up : Live Dir → Option Held → Type 0
      set_up end left =
          (k : Held) × FindsHeld behind k × IsSeated c s.WasCommitted info (share_read c info k) (seed_read c info k) (unasked before) (unasked end) × (end.inclusion ≡ before.inclusion)
          × (left ≡ option_map (set_up_by s.WasCommitted before.participation.epoch info (share_read c info k) (seed_read c info k)) behind)

      -- a fault of the setup is no other one of the info
      fault_at : (k : Held) → FindsHeld behind k → (fault : Fault) → IsSetupFault c before.participation.epoch info (share_read c info k) (seed_read c info k) before fault → PassingStop fault
      fault_at k between (WrongEpoch epoch got) stop = absurd (stop.2 (of_next ∙ sym awaited))
      fault_at k between HeightRange stop = absurd stop
      fault_at k between (MissingEpochInfo height) stop = absurd stop
      fault_at k between fault stop =
          (carried_on k between, subst (λ (epoch : ℕ). IsSetupFault c epoch info (share_read c info k) (seed_read c info k) before fault) awaited stop)

      went : s.is_past_range c (block.height + 1) ≡ false → (end : Live Dir) (left : Option Held) → set_up end left → PassedTo end left
      went reached end left its =
          let emptied = subst IsEmptied (sym its.3) empty in (
            seated_through c stored form s.WasCommitted info (share_read c info its.0) (seed_read c info its.0) before end its.2 emptied refl,
            record {
              on = carried_on its.0 its.1;
              in_range = reached;
              seated = its.2;
              emptied = emptied;
              used = ap (λ (x : Inclusion Dir). x.used) its.3 ∙ used;
              answered = λ r among. ap (λ (x : Inclusion Dir). lookup r.number x.told) its.3 ∙ answered r among;
              leaves = its.4 ∙ ap (λ (epoch : ℕ). option_map (set_up_by s.WasCommitted epoch info (share_read c info its.0) (seed_read c info its.0)) behind) awaited;
            },
          )

      -- the committed info is that of the awaited epoch
      committed : s.committed_info before ≡ Some info
      committed = ap (λ (t : Bool). if t then Some info else None) (equal_number info.epoch (epoch_of c.blocks_per_epoch (block.height + 1)) (of_next ∙ sym awaited))

      sets_up : s.is_past_range c (block.height + 1) ≡ false → ComesOver PassingStop PassedTo (s.sets_up c None (with_tip block (registered i))) behind
      sets_up reached =
          subst (λ (o : Option (EpochInfo Dir)). ComesOver PassingStop PassedTo (s.sets_up_by c None o before) behind) (sym committed)
          (over_as of_setup PassingStop set_up PassedTo (s.with_info c None s.WasCommitted info before) behind (λ fault stop. fault_at stop.0 stop.1 fault stop.2) (went reached)
          (setups_come_through c s.WasCommitted info before behind form refl empty))

      pub setup : ComesOver PassingStop PassedTo (s.setup c None (with_tip block (registered i))) behind
      setup =
          over_if PassingStop PassedTo behind (s.is_past_range c (block.height + 1)) (Stops HeightRange) (s.sets_up c None (with_tip block (registered i)))
          (λ e. let known = some_found behind in (carried_on known.0 known.1, e)) sets_up

    -- behind the commit and the registration
    commits_at : (its : Option ℕ) (seed : List ℕ) (o : Option Held) (now : Live Dir) (next : Live Dir → Course Dir Fault (Live Dir))
        → ComesOver PassingStop PassedTo (next (s.with_registered info.epoch (s.scheme_for c info its) (with_participation (record now.participation { current = Some info }) now))) (option_map (committed_by s.Uncommitted info its seed) o)
        → ComesOver PassingStop PassedTo (bind (s.commits info seed its now) (λ st. bind (s.registers c info its st) next)) o
    commits_at None seed None now next comes = comes
    commits_at None seed (Some held) now next comes = comes
    commits_at (Some value) seed None now next comes = comes
    commits_at (Some value) seed (Some held) now next comes = comes

    pub commits : (i : Inclusion Dir) (next : Live Dir → Course Dir Fault (Live Dir)) → ComesOver PassingStop PassedTo (next (registered i)) behind
        → ComesOver PassingStop PassedTo (bind (s.commits info (seed_read c info h) share (with_inclusion i st)) (λ st. bind (s.registers c info share st) next)) devices
    commits i next comes =
        commits_at share (seed_read c info h) devices (with_inclusion i st) next (subst (λ (o : Option Held). ComesOver PassingStop PassedTo (next (registered i)) o) (sym behind_at) comes)

  -- WHILE FOLLOWING

  pub follows_into : (info : EpochInfo Dir) → info_of block.payload ≡ Some info → info.epoch ≡ next_epoch c block → st.inclusion.queue ≡ []
      → ((h : Held) → IsShareTaken c stored st h info (share_read c info h) st.participation.stage) → ComesOver PassingStop PassedTo (b.follows_into c block info st) devices
  follows_into info carries of_next none shared =
      over_asks PassingStop PassedTo devices
      (λ h. bind (s.commits info (seed_read c info h) (share_read c info h) st) (λ st. bind (s.registers c info (share_read c info h) st) (λ st. s.setup c None (with_tip block st))))
      (λ h found. commits info carries of_next h found (share_read c info h) (shared h) st.inclusion (λ st. s.setup c None (with_tip block st))
      (setup info carries of_next h found (share_read c info h) (shared h) st.inclusion refl (λ r among. absurd (subst (IsAmong r) none among))))

  -- WHILE INCLUDING

  -- the carried info is taken over, with the artifact's share, from a life with another inclusion
  pub concludes : (made : Artifact Dir) (i : Inclusion Dir) → i.used ≡ st.inclusion.used → i.queue ≡ st.inclusion.queue
      → ((info : EpochInfo Dir) (h : Held) → IsShareTaken c stored st h info (b.share_for c info made) st.participation.stage) → ComesOver PassingStop PassedTo (b.concludes c block made (with_inclusion i st)) devices
  concludes made i used queue shared =
      subst (λ (o : Option (OneShot Dir)). ComesOver PassingStop PassedTo
      (if is_some o && is_none block.payload then (if is_some made.info then Stops (LocalState OutcomeOmitted) else b.passes_on c block None (with_inclusion i st))
      else b.carried c block (λ info. b.takes_over c block info (b.share_for c info made) (with_inclusion i st))) devices) (sym form.reshare)
      (by_carried (λ info. b.takes_over c block info (b.share_for c info made) (with_inclusion i st)) (λ info carries of_next. over info carries of_next))
    where
      over : (info : EpochInfo Dir) → info_of block.payload ≡ Some info → info.epoch ≡ next_epoch c block
          → ComesOver PassingStop PassedTo (b.takes_over c block info (b.share_for c info made) (with_inclusion i st)) devices
      over info carries of_next =
          let share = b.share_for c info made in
          over_asks PassingStop PassedTo devices
          (λ h. bind (s.commits info (seed_read c info h) share (with_inclusion i st)) (λ st. bind (if is_some c.oneshot then Goes st else s.registers c info share st) (λ st. b.passes_on c block (Some info) st)))
          (λ h found. subst (λ (o : Option (OneShot Dir)). ComesOver PassingStop PassedTo (bind (s.commits info (seed_read c info h) share (with_inclusion i st))
          (λ st. bind (if is_some o then Goes st else s.registers c info share st)
          (λ st. bind (b.answers_all st.inclusion.queue (with_tip block st)) (λ st. if is_some o then b.ends_once c (Some info) st else s.setup c None st)))) devices) (sym form.reshare)
          (commits info carries of_next h found share (shared info h) i (λ st. bind (b.answers_all st.inclusion.queue (with_tip block st)) (λ st. s.setup c None st))
          (answers_all PassingStop PassedTo (option_map (held_with c info share) devices) (λ st. s.setup c None st) i.queue (with_tip block (registered info carries of_next h found share (shared info h) i))
          (λ told all. setup info carries of_next h found share (shared info h) (record i { queue = []; told = told }) used (λ r among. all r (subst (IsAmong r) (sym queue) among))))))
