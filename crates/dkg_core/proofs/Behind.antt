-- The orchestrator's half touches no device, and what it says is no dealing's.
use Rattle.std.proofs.Common.{◌≡◌, inl, inr, ℕ, List, [], ◌∷◌, ◌++◌, Bool, true, false, Option, Some, None, refl, sym, ◌∙◌, ap, subst, append_assoc, append-nil}
use Rattle.std.specs.Prelude.{nat_lt, ◌==◌, ◌+◌, if◌then◌else◌, option_and_then, is_some}
use Rattle.std.specs.List.{AllByRecursion}
use Rattle.std.specs.Option.{option_map_or}
use Rattle.std.specs.Result.{result_ok}
use Rattle.dkg_values.specs.Codec.{whole}
use Rattle.dkg_values.specs.Rising.{lookup}
use Rattle.dkg_ceremony.specs.Schedule.{epoch_of, boundary, last}
use Rattle.dkg_fence.specs.declared.fence.Waited.{Waited}
use Rattle.dkg_fence.specs.declared.fence.Waited.TheVariants as waits
use Rattle.dkg_fence.specs.Fence.{waited}
use Rattle.dkg_types.specs.Blocks.{Block}
use Rattle.dkg_types.specs.BlockCodes.{info_of}
use Rattle.dkg_infos.specs.declared.entry.Entry.{Entry}
use Rattle.dkg_infos.specs.declared.entry.Entry.TheVariants.{Acked, Entered}
use Rattle.dkg_infos.specs.declared.fault.Fault.{Fault}
use Rattle.dkg_infos.specs.declared.fault.Fault.TheVariants.{HeightRange, MissingEpochInfo, SkippedHeight, WrongEpoch}
use Rattle.dkg_infos.specs.declared.info.EpochInfo.{EpochInfo}
use Rattle.dkg_types.specs.declared.scheme.SchemeInfo.{SchemeInfo}
use Rattle.dkg_store.specs.Acts.{World, Cause, says, Ended, went, stopped, broken, Completes, Faults, Breaks}
use Rattle.dkg_core.specs.Courses.{Course, Say, Do, CallOutside, Ask, Goes, Stops, bind, under, on_devices, EndsSo, Genesis, Certified}
use Rattle.dkg_core.specs.Said.{Said, SaysAll, SaysUpTo, SaysFirst}
use Rattle.dkg_core.specs.Fixed.{Fixed, Material}
use Rattle.dkg_core.specs.Live.{Live, Orchestrator, Waiting, NodeStop, Faulted, Mailed, Finalized, with_orchestrator}
use Rattle.dkg_core.specs.Setup.{is_past_range}
use Rattle.dkg_core.specs.Plans.{material_at}
use Rattle.dkg_core.specs.Core.{opening, step}
use Rattle.dkg_core.specs.Entering as half
use Rattle.dkg_core.specs.Entering.{LifeAndAnswer, HalfAnswer}
use Rattle.dkg_core.specs.Node.{unless_once, kept_material}
use Rattle.dkg_core.specs.Behind.{EndsBehind, IfEarly, IsAside, IsSameBeside, OnlySays, OpeningsRunBehind, OpeningsSayBehind, RunsBehind, SaidBehind, StepsRunBehind, StepsSayBehind}
use Rattle.dkg_core.specs.Splitting.{IsEarly, fault_named}
use Rattle.dkg_core.proofs.Splitting.{runs_split, runs_under, said_split, said_under}

-- COURSES THAT ONLY SAY

module _ {Dir F S : Type 0} (P : Entry → Type 0) (Q : S → Type 0) where
  pub only_if : (t : Bool) (x y : Course Dir F S) → OnlySays P Q x → OnlySays P Q y → OnlySays P Q (if t then x else y)
  only_if true x y one other = one
  only_if false x y one other = other

  pub only_option : {A : Type 0} (f : A → Course Dir F S) (o : Option A) (none : Course Dir F S) → ((a : A) → OnlySays P Q (f a)) → OnlySays P Q none → OnlySays P Q (option_map_or f o none)
  only_option f None none some without = without
  only_option f (Some a) none some without = some a

-- one behind another
pub only_behind : {Dir F S T : Type 0} (P : Entry → Type 0) (Q : S → Type 0) (R : T → Type 0) (course : Course Dir F S) (next : S → Course Dir F T)
    → OnlySays P Q course → ((end : S) → Q end → OnlySays P R (next end)) → OnlySays P R (bind course next)
only_behind P Q R (Say line course) next only so = (only.0, only_behind P Q R course next only.1 so)
only_behind P Q R (Do op course) next only so = absurd only
only_behind P Q R (CallOutside outer course) next only so = only_behind P Q R course next only so
only_behind P Q R (Ask f) next only so = λ h. only_behind P Q R (f h) next (only h) so
only_behind P Q R (Goes end) next only so = so end only
only_behind P Q R (Stops fault) next only so = tt

pub only_under : {Dir F G S : Type 0} (P : Entry → Type 0) (Q : S → Type 0) (name : F → G) (course : Course Dir F S) → OnlySays P Q course → OnlySays P Q (under name course)
only_under P Q name (Say line course) only = (only.0, only_under P Q name course only.1)
only_under P Q name (Do op course) only = absurd only
only_under P Q name (CallOutside outer course) only = only_under P Q name course only
only_under P Q name (Ask f) only = λ h. only_under P Q name (f h) (only h)
only_under P Q name (Goes end) only = only
only_under P Q name (Stops fault) only = tt

-- THE ORCHESTRATOR'S HALF

abbrev IsHalfOf : {Dir : Type 0} → Live Dir → LifeAndAnswer Dir → Type 0
IsHalfOf st left = IsSameBeside st left.live

module _ {Dir : Type 0} (c : Fixed Dir) where
  abbrev Aside : Live Dir → Course Dir NodeStop (LifeAndAnswer Dir) → Type 0
  Aside st course = OnlySays IsAside (IsHalfOf st) course

  starts_aside : (st : Live Dir) (o : Orchestrator Dir) (w : Waiting Dir) (found : Option SchemeInfo) → Aside st (half.starts_engine o w found st)
  starts_aside st o w None = tt
  starts_aside st o w (Some scheme) = stopped_aside o.entered
    where
      stopped_aside : (old : Option ℕ) → Aside st (half.stops_engine old (Say (Entered w.epoch) (half.leaves (half.with_entered w.epoch o) half.AcknowledgesBlock st)))
      stopped_aside None = (tt, refl)
      stopped_aside (Some epoch) = (tt, refl)

  tracks_aside : (st : Live Dir) (o : Orchestrator Dir) (w : Waiting Dir) (lacking : Option ℕ) → Aside st (half.tracks_peers o w lacking st)
  tracks_aside st o w None = starts_aside st o w (lookup w.epoch o.schemes)
  tracks_aside st o w (Some peer) = tt

  waited_aside : (st : Live Dir) (o : Orchestrator Dir) (w : Waiting Dir) (answer : Waited) → Aside st (half.waited_for c o w answer st)
  waited_aside st o w waits.Ready = tracks_aside st o w (c.directories.lacking w.info.directory (half.peers_for w))
  waited_aside st o w waits.Pending = refl
  waited_aside st o w waits.Closed = (tt, refl)

  enters_aside : (st : Live Dir) (w : Waiting Dir) → Aside st (half.enters c w st)
  enters_aside st w =
      waited_aside st (record st.orchestrator { fence = waited w.epoch (half.wait_for st.orchestrator.fence w.epoch) st.orchestrator.fence }) w (half.wait_for st.orchestrator.fence w.epoch)

  enters_at_aside : (st : Live Dir) (b : Block Dir) (epoch : ℕ) (block : Option ℕ) → Aside st (half.enters_at c b epoch block st)
  enters_at_aside st b epoch block =
      let goes : EpochInfo Dir → Course Dir NodeStop (LifeAndAnswer Dir) = λ info. half.enters c (record { epoch = epoch; info = info; floor = Genesis b.digest; block = block }) st in
      let wrong : EpochInfo Dir → Course Dir NodeStop (LifeAndAnswer Dir) = λ info. Stops (Faulted (WrongEpoch epoch info.epoch)) in
      only_option IsAside (IsHalfOf st) (λ info. if info.epoch == epoch then goes info else wrong info) (info_of b.payload) (Stops (Faulted (MissingEpochInfo b.height)))
      (λ info. only_if IsAside (IsHalfOf st) (info.epoch == epoch) (goes info) (wrong info) (enters_aside st (record { epoch = epoch; info = info; floor = Genesis b.digest; block = block })) tt) tt

  opens_at_aside : (st : Live Dir) (epoch : ℕ) (found : Option (Block Dir)) → Aside st (half.opens_at c epoch found st)
  opens_at_aside st epoch None = (tt, refl)
  opens_at_aside st epoch (Some b) = enters_at_aside st b epoch None

  opens_aside : (st : Live Dir) (m : Option (Material Dir)) → Aside st (half.opens_half c m st)
  opens_aside st (Some m) = enters_aside st (record { epoch = m.info.epoch; info = m.info; floor = Certified m.floor; block = None })
  opens_aside st None =
      let epoch = epoch_of c.blocks_per_epoch (half.start_height c) in
      only_if IsAside (IsHalfOf st) (is_past_range c (half.start_height c)) (Stops (Faulted HeightRange)) (half.opens_at c epoch (c.source.block (boundary c.blocks_per_epoch epoch)) st)
      tt (opens_at_aside st epoch (c.source.block (boundary c.blocks_per_epoch epoch)))

  acked_aside : (st end : Live Dir) (height : ℕ) (answer : HalfAnswer) → IsSameBeside st end → OnlySays IsAside (IsSameBeside st) (half.acked_at height answer end)
  acked_aside st end height half.AcknowledgesBlock same = (tt, same)
  acked_aside st end height half.Withholds same = same

  asks_aside : (st : Live Dir) → OnlySays IsAside (IsSameBeside st) (half.asks_again c st)
  asks_aside st = by_waiting st.orchestrator.waiting
    where
      late : (block : Option ℕ) (left : LifeAndAnswer Dir) → IsHalfOf st left → OnlySays IsAside (IsSameBeside st) (half.acked_late block left)
      late None left same = same
      late (Some height) left same = acked_aside st left.live height left.answer same

      by_waiting : (o : Option (Waiting Dir)) → OnlySays IsAside (IsSameBeside st) (option_map_or (λ w. bind (half.enters c w st) (half.acked_late w.block)) o (Goes st))
      by_waiting None = refl
      by_waiting (Some w) = only_behind IsAside (IsHalfOf st) (IsSameBeside st) (half.enters c w st) (half.acked_late w.block) (enters_aside st w) (late w.block)

  delivered_aside : (b : Block Dir) (st : Live Dir) → Aside st (half.takes_delivered c b st)
  delivered_aside b st =
      only_behind IsAside (IsSameBeside st) (IsHalfOf st) (half.asks_again c st) (λ st. half.delivered_in c b st (half.active st.orchestrator)) (asks_aside st)
      (λ mid same. only_as mid same (half.delivered_in c b mid (half.active mid.orchestrator)) (judged mid (half.active mid.orchestrator)))
    where
      judged : (mid : Live Dir) (found : Option ℕ) → Aside mid (half.delivered_in c b mid found)
      judged mid None = refl
      judged mid (Some epoch) =
          let ends = last c.blocks_per_epoch epoch in
          let early : Course Dir NodeStop (LifeAndAnswer Dir) = half.leaves mid.orchestrator half.AcknowledgesBlock mid in
          only_if IsAside (IsHalfOf mid) (nat_lt ends b.height) (Stops (Faulted (SkippedHeight ends b.height))) (if nat_lt b.height ends then early else half.enters_at c b (epoch + 1) (Some b.height) mid)
          tt (only_if IsAside (IsHalfOf mid) (nat_lt b.height ends) early (half.enters_at c b (epoch + 1) (Some b.height) mid) refl (enters_at_aside mid b (epoch + 1) (Some b.height)))

      only_as : (mid : Live Dir) → IsSameBeside st mid → (course : Course Dir NodeStop (LifeAndAnswer Dir)) → Aside mid course → Aside st course
      only_as mid same (Say line course) only = (only.0, only_as mid same course only.1)
      only_as mid same (Do op course) only = absurd only
      only_as mid same (CallOutside outer course) only = only_as mid same course only
      only_as mid same (Ask f) only = λ h. only_as mid same (f h) (only h)
      only_as mid same (Goes left) only = only ∙ ap (λ (st : Live Dir). with_orchestrator left.live.orchestrator st) same
      only_as mid same (Stops fault) only = tt

  -- behind an opening, a message and a block
  pub opened_aside : (st : Live Dir) → OnlySays IsAside (IsSameBeside st) (unless_once c (kept_material c st) (Goes st))
  opened_aside st = only_if IsAside (IsSameBeside st) (is_some c.oneshot) (Goes st) (kept_material c st) refl
      (λ h. only_behind IsAside (IsHalfOf st) (IsSameBeside st) (half.opens_half c (option_and_then (λ bytes. result_ok (whole (material_at c bytes))) (c.seen h).plan) st) (λ left. Goes left.live)
      (opens_aside st (option_and_then (λ bytes. result_ok (whole (material_at c bytes))) (c.seen h).plan)) (λ left same. same))

  pub heard_aside : (st : Live Dir) → OnlySays IsAside (IsSameBeside st) (unless_once c (half.asks_again c st) (Goes st))
  heard_aside st = only_if IsAside (IsSameBeside st) (is_some c.oneshot) (Goes st) (half.asks_again c st) refl (asks_aside st)

  pub block_aside : (b : Block Dir) (st : Live Dir)
      → OnlySays IsAside (IsSameBeside st) (unless_once c (bind (half.takes_delivered c b st) (λ left. half.acked_at b.height left.answer left.live)) (Say (Acked b.height) (Goes st)))
  block_aside b st =
      only_if IsAside (IsSameBeside st) (is_some c.oneshot) (Say (Acked b.height) (Goes st)) (bind (half.takes_delivered c b st) (λ left. half.acked_at b.height left.answer left.live)) (tt, refl)
      (only_behind IsAside (IsHalfOf st) (IsSameBeside st) (half.takes_delivered c b st) (λ left. half.acked_at b.height left.answer left.live) (delivered_aside b st)
      (λ left same. acked_aside st left.live b.height left.answer same))

-- WHAT SUCH A COURSE LEAVES

abbrev pub IfGoes : {F S : Type 0} → (S → Type 0) → Ended F S → Type 0
IfGoes Q (went end) = Q end
IfGoes Q (stopped fault) = Unit {0}
IfGoes Q (broken cause) = Unit {0}

pub record LeavesDevices {F S : Type 0} (P : Entry → Type 0) (Q : S → Type 0) (ended : Ended F S) (w new : World) : Type 0 where
  pub held : new.held ≡ w.held
  pub fuse : new.fuse ≡ w.fuse
  pub lines : List Entry
  pub out : new.out ≡ w.out ++ lines
  pub says : AllByRecursion P lines
  pub goes : IfGoes Q ended

pub record OnlySaid {F S : Type 0} (P : Entry → Type 0) (Q : S → Type 0) (ended : Ended F S) (old new : List Entry) : Type 0 where
  pub lines : List Entry
  pub out : new ≡ old ++ lines
  pub says : AllByRecursion P lines
  pub goes : IfGoes Q ended

-- such lines
all_such : (P : Entry → Type 0) (line : Entry) (lines rest : List Entry) → lines ≡ line ∷ rest → P line → AllByRecursion P rest → AllByRecursion P lines
all_such P line lines rest are is all = subst (λ (ls : List Entry). AllByRecursion P ls) (sym are) (is, all)

none_such : (P : Entry → Type 0) (lines : List Entry) → lines ≡ [] → AllByRecursion P lines
none_such P lines are = subst (λ (ls : List Entry). AllByRecursion P ls) (sym are) tt

module _ {F S : Type 0} (P : Entry → Type 0) (Q : S → Type 0) where
  one_more : (line : Entry) (ended : Ended F S) (w new : World) → P line → LeavesDevices P Q ended (says w line) new → LeavesDevices P Q ended w new
  one_more line ended w new is leaves = record {
    held = leaves.held;
    fuse = leaves.fuse;
    lines = line ∷ leaves.lines;
    out = leaves.out ∙ append_assoc w.out (line ∷ []) leaves.lines;
    says = (is, leaves.says);
    goes = leaves.goes;
  }

  nothing_more : (ended : Ended F S) (w new : World) → new ≡ w → IfGoes Q ended → LeavesDevices P Q ended w new
  nothing_more ended w new same goes = record {
    held = ap (λ (x : World). x.held) same;
    fuse = ap (λ (x : World). x.fuse) same;
    lines = [];
    out = ap (λ (x : World). x.out) same ∙ sym (append-nil w.out);
    says = tt;
    goes = goes;
  }

module _ {Dir F S : Type 0} (P : Entry → Type 0) (Q : S → Type 0) where
  completes : (course : Course Dir F S) (end : S) (w new : World) → OnlySays P Q course → Completes (on_devices course) end w new → LeavesDevices {F = F} P Q (went end) w new
  completes (Say line course) end w new only run = one_more P Q line (went end) w new only.0 (completes course end (says w line) new only.1 run)
  completes (Do op course) end w new only run = absurd only
  completes (CallOutside outer course) end w new only run = completes course end w new only run
  completes (Ask f) end w new only run = completes (f w.held) end w new (only w.held) run
  completes (Goes its) end w new only run = nothing_more P Q (went end) w new run.0 (subst Q (sym run.1) only)
  completes (Stops fault) end w new only run = absurd run

  faults : (course : Course Dir F S) (fault : F) (w new : World) → OnlySays P Q course → Faults (on_devices course) fault w new → LeavesDevices P Q (stopped fault) w new
  faults (Say line course) fault w new only run = one_more P Q line (stopped fault) w new only.0 (faults course fault (says w line) new only.1 run)
  faults (Do op course) fault w new only run = absurd only
  faults (CallOutside outer course) fault w new only run = faults course fault w new only run
  faults (Ask f) fault w new only run = faults (f w.held) fault w new (only w.held) run
  faults (Goes its) fault w new only run = absurd run
  faults (Stops its) fault w new only run = nothing_more P Q (stopped fault) w new run.0 tt

  breaks : (cause : Cause) (course : Course Dir F S) (w new : World) → OnlySays P Q course → Breaks cause (on_devices course) w new → LeavesDevices {F = F} P Q (broken cause) w new
  breaks cause (Say line course) w new only (inl none) = nothing_more P Q (broken cause) w new none.1 tt
  breaks cause (Say line course) w new only (inr run) = one_more P Q line (broken cause) w new only.0 (breaks cause course (says w line) new only.1 run)
  breaks cause (Do op course) w new only run = absurd only
  breaks cause (CallOutside outer course) w new only run = breaks cause course w new only run
  breaks cause (Ask f) w new only run = breaks cause (f w.held) w new (only w.held) run
  breaks cause (Goes its) w new only run = nothing_more P Q (broken cause) w new run.1 tt
  breaks cause (Stops fault) w new only run = nothing_more P Q (broken cause) w new run.1 tt

  pub leaves_devices : (course : Course Dir F S) (ended : Ended F S) (w new : World) → OnlySays P Q course → EndsSo course ended w new → LeavesDevices P Q ended w new
  leaves_devices course (went end) w new only run = completes course end w new only run
  leaves_devices course (stopped fault) w new only run = faults course fault w new only run
  leaves_devices course (broken cause) w new only run = breaks cause course w new only run

  all_says : (course : Course Dir F S) (end : S) (lines : List Entry) → OnlySays P Q course → SaysAll (on_devices course) end lines → AllByRecursion P lines × Q end
  all_says (Say line course) end lines only by = let rest = all_says course end by.0 only.1 by.2 in (all_such P line lines by.0 by.1 only.0 rest.0, rest.1)
  all_says (Do op course) end lines only by = absurd only
  all_says (CallOutside outer course) end lines only by = all_says course end lines only by
  all_says (Ask f) end lines only by = all_says (f by.0) end lines (only by.0) by.1
  all_says (Goes its) end lines only by = (none_such P lines by.0, subst Q (sym by.1) only)
  all_says (Stops fault) end lines only by = absurd by

  up_to_says : (course : Course Dir F S) (fault : F) (lines : List Entry) → OnlySays P Q course → SaysUpTo (on_devices course) fault lines → AllByRecursion P lines
  up_to_says (Say line course) fault lines only by = all_such P line lines by.0 by.1 only.0 (up_to_says course fault by.0 only.1 by.2)
  up_to_says (Do op course) fault lines only by = absurd only
  up_to_says (CallOutside outer course) fault lines only by = up_to_says course fault lines only by
  up_to_says (Ask f) fault lines only by = up_to_says (f by.0) fault lines (only by.0) by.1
  up_to_says (Goes its) fault lines only by = absurd by
  up_to_says (Stops its) fault lines only by = none_such P lines by.0

  first_says : (course : Course Dir F S) (lines : List Entry) → OnlySays P Q course → SaysFirst (on_devices course) lines → AllByRecursion P lines
  first_says (Say line course) lines only (inl none) = none_such P lines none
  first_says (Say line course) lines only (inr by) = all_such P line lines by.0 by.1 only.0 (first_says course by.0 only.1 by.2)
  first_says (Do op course) lines only by = absurd only
  first_says (CallOutside outer course) lines only by = first_says course lines only by
  first_says (Ask f) lines only (inl none) = none_such P lines none
  first_says (Ask f) lines only (inr by) = first_says (f by.0) lines (only by.0) by.1
  first_says (Goes its) lines only by = none_such P lines by
  first_says (Stops fault) lines only by = none_such P lines by

  pub only_said : (course : Course Dir F S) (ended : Ended F S) (old new : List Entry) → OnlySays P Q course → Said (on_devices course) ended old new → OnlySaid P Q ended old new
  only_said course (went end) old new only said = let all = all_says course end said.lines only said.by in record { lines = said.lines; out = said.added; says = all.0; goes = all.1 }
  only_said course (stopped fault) old new only said = record { lines = said.lines; out = said.added; says = up_to_says course fault said.lines only said.by; goes = tt }
  only_said course (broken cause) old new only said = record { lines = said.lines; out = said.added; says = first_says course said.lines only said.by; goes = tt }

-- SO A NODE'S RUN IS ONE OF ITS RESHARE HALF

went_apart : {F S : Type 0} (end : S) (fault : F) → ◌≡◌ {A = Ended F S} (went end) (stopped fault) → ⊥
went_apart end fault e = cc

went_unbroken : {F S : Type 0} (end : S) (cause : Cause) → ◌≡◌ {A = Ended F S} (went end) (broken cause) → ⊥
went_unbroken end cause e = cc

same_end : {F S : Type 0} (a b : S) → ◌≡◌ {A = Ended F S} (went a) (went b) → a ≡ b
same_end a b e = cc

module _ {Dir : Type 0} (course : Course Dir Fault (Live Dir)) (next : Live Dir → Course Dir NodeStop (Live Dir)) (aside : (st : Live Dir) → OnlySays IsAside (IsSameBeside st) (next st)) where
  ends_behind : (st : Live Dir) (ended : Ended NodeStop (Live Dir)) → IfGoes (IsSameBeside st) ended → EndsBehind (went st) ended
  ends_behind st (went end) goes = goes
  ends_behind st (stopped stop) goes = tt
  ends_behind st (broken cause) goes = tt

  early_behind : (its : Ended Fault (Live Dir)) (early ended : Ended NodeStop (Live Dir)) → early ≡ fault_named Faulted its → IsEarly early ended → EndsBehind its ended
  early_behind (went st) (went end) ended is so = absurd so
  early_behind (went st) (stopped stop) ended is so = absurd (went_apart st stop (sym is))
  early_behind (went st) (broken cause) ended is so = absurd (went_unbroken st cause (sym is))
  early_behind (stopped fault) (went end) ended is so = absurd so
  early_behind (stopped fault) (stopped stop) (went end) is so = absurd so
  early_behind (stopped fault) (stopped stop) (stopped its) is so = sym (ap stopped so) ∙ is
  early_behind (stopped fault) (stopped stop) (broken cause) is so = absurd so
  early_behind (stopped fault) (broken cause) ended is so = absurd (let e : ◌≡◌ {A = Ended NodeStop (Live Dir)} (broken cause) (stopped (Faulted fault)) = is in cc)
  early_behind (broken cause) (went end) ended is so = absurd so
  early_behind (broken cause) (stopped stop) ended is so = absurd (let e : ◌≡◌ {A = Ended NodeStop (Live Dir)} (stopped stop) (broken cause) = is in cc)
  early_behind (broken cause) (broken other) (went end) is so = absurd so
  early_behind (broken cause) (broken other) (stopped stop) is so = absurd so
  early_behind (broken cause) (broken other) (broken its) is so = sym (ap broken so) ∙ is

  early_silent : (its : Ended Fault (Live Dir)) → IfEarly {S = Live Dir} its (◌≡◌ {A = List Entry} [] [])
  early_silent (went st) = tt
  early_silent (stopped fault) = refl
  early_silent (broken cause) = refl

  runs_behind : (ended : Ended NodeStop (Live Dir)) (w new : World) → EndsSo (bind (under Faulted course) next) ended w new → RunsBehind course ended w new
  runs_behind ended w new run = elim (runs_split (under Faulted course) next ended w new run) [
    | inl both ↦ (let its = runs_under Faulted course (went both.0) w both.1 both.2 in
        let left = leaves_devices IsAside (IsSameBeside both.0) (next both.0) ended both.1 new (aside both.0) both.3 in
        record {
          half = went both.0;
          mid = both.1;
          run = by_half both.0 both.1 its.0 its.1 its.2;
          ends = ends_behind both.0 ended left.goes;
          held = left.held;
          fuse = left.fuse;
          lines = left.lines;
          out = left.out;
          aside = left.says;
          silent = tt;
        })
    | inr first ↦ (let its = runs_under Faulted course first.0 w new first.2 in record {
      half = its.0;
      mid = new;
      run = its.2;
      ends = early_behind its.0 first.0 ended its.1 first.1;
      held = refl;
      fuse = refl;
      lines = [];
      out = sym (append-nil new.out);
      aside = tt;
      silent = early_silent its.0;
    })
  ]
    where
      by_half : (st : Live Dir) (mid : World) (its : Ended Fault (Live Dir)) → went st ≡ fault_named Faulted its → EndsSo course its w mid → EndsSo course (went st) w mid
      by_half st mid (went end) is run = subst (λ (x : Live Dir). EndsSo course (went x) w mid) (sym (same_end {F = NodeStop} st end is)) run
      by_half st mid (stopped fault) is run = absurd (went_apart st (Faulted fault) is)
      by_half st mid (broken cause) is run = absurd (went_unbroken {F = NodeStop} st cause is)

  said_behind : (ended : Ended NodeStop (Live Dir)) (old new : List Entry) → Said (on_devices (bind (under Faulted course) next)) ended old new → SaidBehind course ended old new
  said_behind ended old new said = elim (said_split (under Faulted course) next ended old new said) [
    | inl both ↦ (let its = said_under Faulted course (went both.0) old both.1 both.2 in
        let left = only_said IsAside (IsSameBeside both.0) (next both.0) ended both.1 new (aside both.0) both.3 in
        record {
          half = went both.0;
          mid = both.1;
          said = by_half both.0 both.1 its.0 its.1 its.2;
          ends = ends_behind both.0 ended left.goes;
          lines = left.lines;
          out = left.out;
          aside = left.says;
          silent = tt;
        })
    | inr first ↦ (let its = said_under Faulted course first.0 old new first.2 in record {
      half = its.0;
      mid = new;
      said = its.2;
      ends = early_behind its.0 first.0 ended its.1 first.1;
      lines = [];
      out = sym (append-nil new);
      aside = tt;
      silent = early_silent its.0;
    })
  ]
    where
      by_half : (st : Live Dir) (mid : List Entry) (its : Ended Fault (Live Dir)) → went st ≡ fault_named Faulted its → Said (on_devices course) its old mid → Said (on_devices course) (went st) old mid
      by_half st mid (went end) is said = subst (λ (x : Live Dir). Said (on_devices course) (went x) old mid) (sym (same_end {F = NodeStop} st end is)) said
      by_half st mid (stopped fault) is said = absurd (went_apart st (Faulted fault) is)
      by_half st mid (broken cause) is said = absurd (went_unbroken {F = NodeStop} st cause is)

pub openings_run_behind : {Dir : Type 0} → OpeningsRunBehind Dir
openings_run_behind c ended w new run = runs_behind (opening c) (λ st. unless_once c (kept_material c st) (Goes st)) (opened_aside c) ended w new run

pub steps_run_behind : {Dir : Type 0} → StepsRunBehind Dir
steps_run_behind c st (Mailed mail) ended w new run = runs_behind (step c (Mailed mail) st) (λ st. unless_once c (half.asks_again c st) (Goes st)) (heard_aside c) ended w new run
steps_run_behind c st (Finalized b) ended w new run =
    runs_behind (step c (Finalized b) st) (λ st. unless_once c (bind (half.takes_delivered c b st) (λ left. half.acked_at b.height left.answer left.live)) (Say (Acked b.height) (Goes st))) (block_aside c b) ended w new run

pub openings_say_behind : {Dir : Type 0} → OpeningsSayBehind Dir
openings_say_behind c ended old new said = said_behind (opening c) (λ st. unless_once c (kept_material c st) (Goes st)) (opened_aside c) ended old new said

pub steps_say_behind : {Dir : Type 0} → StepsSayBehind Dir
steps_say_behind c st (Mailed mail) ended old new said = said_behind (step c (Mailed mail) st) (λ st. unless_once c (half.asks_again c st) (Goes st)) (heard_aside c) ended old new said
steps_say_behind c st (Finalized b) ended old new said =
    said_behind (step c (Finalized b) st) (λ st. unless_once c (bind (half.takes_delivered c b st) (λ left. half.acked_at b.height left.answer left.live)) (Say (Acked b.height) (Goes st))) (block_aside c b) ended old new said
