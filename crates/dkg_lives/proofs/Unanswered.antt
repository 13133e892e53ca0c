-- An opening answers no request, and a block does where it is applied.
use Rattle.std.proofs.Common.{◌≡◌, ◌⊎◌, inl, inr, ℕ, ◌+◌, ◌-◌, ◌==◌, ◌++◌, List, Option, Some, None, Result, Ok, Err, sym, subst}
use Rattle.std.specs.Prelude.{◌||◌, is_ok, is_some, nat_lt, not, option_and_then, option_map, if◌then◌else◌}
use Rattle.std.specs.List.{AllByRecursion}
use Rattle.std.specs.Result.{result_ok}
use Rattle.dkg_values.specs.Codec.{whole}
use Rattle.dkg_values.specs.Rising.{lookup}
use Rattle.dkg_values.specs.declared.codec.CodecError.{CodecError}
use Rattle.dkg_ceremony.specs.Schedule.{boundary, epoch_of, last}
use Rattle.dkg_ceremony.specs.declared.deal.DealError.{DealError}
use Rattle.dkg_ceremony.specs.declared.phase.Phase.{Phase}
use Rattle.dkg_ceremony.specs.declared.round.RoundError.{RoundError}
use Rattle.dkg_ceremony.specs.declared.round.RoundParts.{RoundParts as Round}
use Rattle.dkg_fence.specs.declared.fence.Waited.{Waited}
use Rattle.dkg_fence.specs.declared.fence.Waited.TheVariants as waits
use Rattle.dkg_fence.specs.Fence.{waited}
use Rattle.dkg_types.specs.BlockCodes.{info_of}
use Rattle.dkg_types.specs.Blocks.{Block}
use Rattle.dkg_infos.specs.declared.entry.Entry.{Entry}
use Rattle.dkg_infos.specs.declared.entry.Entry.TheVariants.{Acked, Answer, Entered, Halted}
use Rattle.dkg_infos.specs.declared.fault.Fault.{Fault}
use Rattle.dkg_infos.specs.declared.fault.Fault.TheVariants.{HeightRange, MissingEpochInfo, SkippedHeight, StateSyncEpochs, StateSyncMaterial, WrongEpoch}
use Rattle.dkg_infos.specs.declared.info.EpochInfo.{EpochInfo}
use Rattle.dkg_infos.specs.declared.participants.ParticipantsError.{ParticipantsError}
use Rattle.dkg_types.specs.declared.scheme.SchemeInfo.{SchemeInfo}
use Rattle.dkg_journal.specs.Operations.{ClearsPlan, PutsPlan}
use Rattle.dkg_store.specs.Acts.{Ended, OnDisk}
use Rattle.dkg_core.specs.Behind.{event_of}
use Rattle.dkg_core.specs.Blocks as b
use Rattle.dkg_core.specs.Core.{begun_life, opening, opens_in, step}
use Rattle.dkg_core.specs.Courses.{Course, Say, Do, CallOutside, Ask, Certified, Genesis, Goes, Stops, bind, on_devices, under}
use Rattle.dkg_core.specs.Endings.{validity}
use Rattle.dkg_core.specs.Entering as half
use Rattle.dkg_core.specs.Entering.{LifeAndAnswer, HalfAnswer, AcknowledgesBlock, Withholds, active, takes_delivered}
use Rattle.dkg_core.specs.Fixed.{Fixed, Material, OneShot, has}
use Rattle.dkg_core.specs.Forms.{Applied, judged_block, share_read}
use Rattle.dkg_core.specs.Live.{Dealer, Faulted, Finalized, Live, NodeStop, Orchestrator, Waiting, Watches, awaited_height, records_of_epoch, phase_of}
use Rattle.dkg_core.specs.Logs.{logs_of}
use Rattle.dkg_core.specs.Node as node
use Rattle.dkg_core.specs.Node.{node_opening, node_step, unless_once}
use Rattle.dkg_laws.specs.NodeSaying.{IsHalfLine}
use Rattle.dkg_core.specs.Plans as plans
use Rattle.dkg_core.specs.Said.{Said}
use Rattle.dkg_core.specs.SayingThrough.{SaysSo}
use Rattle.dkg_core.specs.Setup as s
use Rattle.dkg_core.specs.Setup.{Standing, Uncommitted, WasCommitted}
use Rattle.dkg_core.specs.Sources.{startup}
use Rattle.dkg_core.proofs.Applied.{judged_is}
use Rattle.dkg_core.proofs.SayingThrough.{said_so, so_behind, so_if, so_option}

-- no answer of a final block's request
abbrev pub IsUnanswered : Entry → Type 0
IsUnanswered (Answer number answer) = ⊥
IsUnanswered line = Unit {0}

-- to more, and under other names for faults
so_as : {Dir F S : Type 0} (P Q : Entry → Type 0) (course : Course Dir F S) → ((line : Entry) → P line → Q line) → SaysSo P course → SaysSo Q course
so_as P Q (Say line course) more so = (more line so.0, so_as P Q course more so.1)
so_as P Q (Do op course) more so = so_as P Q course more so
so_as P Q (CallOutside outer course) more so = so_as P Q course more so
so_as P Q (Ask f) more so = λ h. so_as P Q (f h) more (so h)
so_as P Q (Goes end) more so = tt
so_as P Q (Stops fault) more so = tt

so_under : {Dir F G S : Type 0} (P : Entry → Type 0) (name : F → G) (course : Course Dir F S) → SaysSo P course → SaysSo P (under name course)
so_under P name (Say line course) so = (so.0, so_under P name course so.1)
so_under P name (Do op course) so = so_under P name course so
so_under P name (CallOutside outer course) so = so_under P name course so
so_under P name (Ask f) so = λ h. so_under P name (f h) (so h)
so_under P name (Goes end) so = tt
so_under P name (Stops fault) so = tt

-- what holds of every line
so_any : {Dir F S : Type 0} (P : Entry → Type 0) → ((line : Entry) → P line) → (course : Course Dir F S) → SaysSo P course
so_any P so (Say line course) = (so line, so_any P so course)
so_any P so (Do op course) = so_any P so course
so_any P so (CallOutside outer course) = so_any P so course
so_any P so (Ask f) = λ h. so_any P so (f h)
so_any P so (Goes end) = tt
so_any P so (Stops fault) = tt

-- THE ORCHESTRATOR'S HALF says its own lines.
module _ {Dir : Type 0} (c : Fixed Dir) (P : Entry → Type 0) (tells : (line : Entry) → IsHalfLine line → P line) where
  starts : (o : Orchestrator Dir) (w : Waiting Dir) (found : Option SchemeInfo) (st : Live Dir) → SaysSo P (half.starts_engine o w found st)
  starts o w None st = tt
  starts o w (Some scheme) st = stopped o.entered
    where
      stopped : (old : Option ℕ) → SaysSo P (half.stops_engine old (Say (Entered w.epoch) (half.leaves (half.with_entered w.epoch o) AcknowledgesBlock st)))
      stopped None = (tells (Entered w.epoch) tt, tt)
      stopped (Some old) = (tells (Entered w.epoch) tt, tt)

  tracks : (o : Orchestrator Dir) (w : Waiting Dir) (lacking : Option ℕ) (st : Live Dir) → SaysSo P (half.tracks_peers o w lacking st)
  tracks o w (Some peer) st = tt
  tracks o w None st = starts o w (lookup w.epoch o.schemes) st

  waits_so : (o : Orchestrator Dir) (w : Waiting Dir) (answer : Waited) (st : Live Dir) → SaysSo P (half.waited_for c o w answer st)
  waits_so o w waits.Ready st = tracks o w (c.directories.lacking w.info.directory (half.peers_for w)) st
  waits_so o w waits.Pending st = tt
  waits_so o w waits.Closed st = (tells Halted tt, tt)

  enters : (w : Waiting Dir) (st : Live Dir) → SaysSo P (half.enters c w st)
  enters w st =
      let answer = half.wait_for st.orchestrator.fence w.epoch in waits_so (record st.orchestrator { fence = waited w.epoch answer st.orchestrator.fence }) w answer st

  enters_at : (block : Block Dir) (epoch : ℕ) (height : Option ℕ) (st : Live Dir) → SaysSo P (half.enters_at c block epoch height st)
  enters_at block epoch height st =
      let goes : EpochInfo Dir → Course Dir NodeStop (LifeAndAnswer Dir) = λ info. half.enters c (record { epoch = epoch; info = info; floor = Genesis block.digest; block = height }) st in
      let wrong : EpochInfo Dir → Course Dir NodeStop (LifeAndAnswer Dir) = λ info. Stops (Faulted (WrongEpoch epoch info.epoch)) in
      so_option P (λ (info : EpochInfo Dir). if info.epoch == epoch then goes info else wrong info) (info_of block.payload) (Stops (Faulted (MissingEpochInfo block.height)))
      (λ info e. so_if P (info.epoch == epoch) (goes info) (wrong info) (λ e. enters (record { epoch = epoch; info = info; floor = Genesis block.digest; block = height }) st) (λ e. tt)) tt

  opens_half : (material : Option (Material Dir)) (st : Live Dir) → SaysSo P (half.opens_half c material st)
  opens_half (Some m) st = enters (record { epoch = m.info.epoch; info = m.info; floor = Certified m.floor; block = None }) st
  opens_half None st =
      let epoch = epoch_of c.blocks_per_epoch (half.start_height c) in
      so_if P (s.is_past_range c (half.start_height c)) (Stops (Faulted HeightRange)) (half.opens_at c epoch (c.source.block (boundary c.blocks_per_epoch epoch)) st) (λ e. tt)
      (λ e. at epoch (c.source.block (boundary c.blocks_per_epoch epoch)))
    where
      at : (epoch : ℕ) (o : Option (Block Dir)) → SaysSo P (half.opens_at c epoch o st)
      at epoch None = (tells Halted tt, tt)
      at epoch (Some block) = enters_at block epoch None st

  acked : (height : ℕ) (answer : HalfAnswer) (st : Live Dir) → SaysSo P (half.acked_at height answer st)
  acked height AcknowledgesBlock st = (tells (Acked height) tt, tt)
  acked height Withholds st = tt

  acked_late : (height : Option ℕ) (left : LifeAndAnswer Dir) → SaysSo P (half.acked_late height left)
  acked_late None left = tt
  acked_late (Some height) left = acked height left.answer left.live

  pub again : (st : Live Dir) → SaysSo P (half.asks_again c st)
  again st =
      so_option P (λ (w : Waiting Dir). bind (half.enters c w st) (half.acked_late w.block)) st.orchestrator.waiting (Goes st)
      (λ w e. so_behind P (half.enters c w st) (half.acked_late w.block) (enters w st) (λ left. acked_late w.block left)) tt

  delivers_in : (block : Block Dir) (st : Live Dir) (found : Option ℕ) → SaysSo P (half.delivered_in c block st found)
  delivers_in block st None = tt
  delivers_in block st (Some epoch) =
      so_if P (nat_lt (last c.blocks_per_epoch epoch) block.height) (Stops (Faulted (SkippedHeight (last c.blocks_per_epoch epoch) block.height)))
      (if nat_lt block.height (last c.blocks_per_epoch epoch) then half.leaves st.orchestrator AcknowledgesBlock st else half.enters_at c block (epoch + 1) (Some block.height) st) (λ e. tt)
      (λ e. so_if P (nat_lt block.height (last c.blocks_per_epoch epoch)) (half.leaves st.orchestrator AcknowledgesBlock st) (half.enters_at c block (epoch + 1) (Some block.height) st) (λ e. tt)
      (λ e. enters_at block (epoch + 1) (Some block.height) st))

  pub behind_block : (block : Block Dir) (st : Live Dir) → SaysSo P (unless_once c (bind (takes_delivered c block st) (λ left. half.acked_at block.height left.answer left.live)) (Say (Acked block.height) (Goes st)))
  behind_block block st =
      so_if P (is_some c.oneshot) (Say (Acked block.height) (Goes st)) (bind (takes_delivered c block st) (λ left. half.acked_at block.height left.answer left.live)) (λ e. (tells (Acked block.height) tt, tt))
      (λ e. so_behind P (takes_delivered c block st) (λ left. half.acked_at block.height left.answer left.live)
      (so_behind P (half.asks_again c st) (λ now. half.delivered_in c block now (active now.orchestrator)) (again st) (λ now. delivers_in block now (active now.orchestrator)))
      (λ left. acked block.height left.answer left.live))

-- A BLOCK says the lines of that half, and others where it is applied.
pub block_lines : {Dir : Type 0} (c : Fixed Dir) (block : Block Dir) (st : Live Dir) (ended : Ended NodeStop (Live Dir)) (old new : List Entry) → Said (on_devices (node_step c (event_of (Finalized block)) st)) ended old new
    → (added : List Entry) × (new ≡ old ++ added) × AllByRecursion (λ line. (judged_block c block st ≡ Applied) ⊎ IsHalfLine line) added
block_lines {Dir} c block st ended old new said =
    said_so P (node_step c (event_of (Finalized block)) st) ended old new
    (so_behind P (under Faulted (step c (Finalized block) st))
    (λ now. unless_once c (bind (takes_delivered c block now) (λ left. half.acked_at block.height left.answer left.live)) (Say (Acked block.height) (Goes now)))
    (so_under P Faulted (step c (Finalized block) st)
    (judged_is c block st (λ course. SaysSo P course) (λ t x y one other. so_if P t x y one other) (λ fault is. tt) (λ is. tt) (λ is. so_any {Dir = Dir} {F = Fault} {S = Live Dir} P (λ line. inl is) (b.applies c block st)) (λ is. tt)))
    (λ now. behind_block c P (λ line is. inr is) block now)) said
  where
    P : Entry → Type 0
    P line = (judged_block c block st ≡ Applied) ⊎ IsHalfLine line

-- AN OPENING

module _ {Dir : Type 0} (c : Fixed Dir) (reshare : c.oneshot ≡ None) where
  abbrev No : Entry → Type 0
  No = IsUnanswered

  abbrev Quiet : Course Dir Fault (Live Dir) → Type 0
  Quiet course = SaysSo No course

  sits_down : (round : Round) (phase : Phase) (dealer : Option Dealer) (refused : Option ℕ) (now : Live Dir) → Quiet (s.sits_down c round phase dealer refused now)
  sits_down round phase dealer (Some refused) now = tt
  sits_down round phase dealer None now = (tt, tt)

  makes_player : (round : Round) (phase : Phase) (dealer : Option Dealer) (now : Live Dir) → Quiet (s.makes_player c round phase dealer now)
  makes_player round phase dealer now =
      so_if No (not (has round.players c.me) || s.is_lost c round (records_of_epoch round.number now.records.dealings) (logs_of now round.number)) (s.takes_part c round phase dealer Watches now)
      (s.sits_down c round phase dealer (s.refused_in c round now) now) (λ e. (tt, tt)) (λ e. sits_down round phase dealer (s.refused_in c round now) now)

  dealt_by : (round : Round) (phase : Phase) (now : Live Dir) (dealt : Result (List ℕ × List (ℕ × ℕ)) DealError) → Quiet (s.dealt_by c round phase now dealt)
  dealt_by round phase now (Ok dealt) = makes_player round phase (s.dealer_for phase round (s.dealer_from c round now dealt)) now
  dealt_by round phase now (Err e) = tt

  in_round : (phase : Phase) (share : Option ℕ) (seed : List ℕ) (now : Live Dir) (drawn : Result Round RoundError) → Quiet (s.in_round c phase share seed now drawn)
  in_round phase share seed now (Err e) = tt
  in_round phase share seed now (Ok round) =
      so_if No (s.may_deal c round share now) (s.dealt_by c round phase now (c.rules.deal_of round c.me share seed)) (s.makes_player c round phase None now)
      (λ e. dealt_by round phase now (c.rules.deal_of round c.me share seed)) (λ e. makes_player round phase None now)

  commits_new : (standing : Standing) (info : EpochInfo Dir) (seed : List ℕ) (share : Option ℕ) (now : Live Dir) → Quiet (s.commits_new standing c info seed share now)
  commits_new WasCommitted info seed share now = tt
  commits_new Uncommitted info seed None now = (tt, (tt, tt))
  commits_new Uncommitted info seed (Some share) now = (tt, (tt, tt))

  behind_prune : (floor : Option ℕ) (info : EpochInfo Dir) (share : Option ℕ) (seed : List ℕ) (now : Live Dir)
      → Quiet (if s.is_late_floor c floor then s.follows c now else s.draws_up c (s.participants_of info) (Some info.output) share seed now)
  behind_prune floor info share seed now =
      so_if No (s.is_late_floor c floor) (s.follows c now) (s.draws_up c (s.participants_of info) (Some info.output) share seed now) (λ e. (tt, tt))
      (λ e. in_round (phase_of c (awaited_height now)) share seed now (c.rules.round_of c.namespace now.participation.epoch (Some info.output) c.mode c.reveal (s.participants_of info).dealers (s.participants_of info).players))

  with_share_and_seed : (floor : Option ℕ) (standing : Standing) (info : EpochInfo Dir) (share : Option ℕ) (seed : List ℕ) (now : Live Dir) → Quiet (s.with_share_and_seed c floor standing info share seed now)
  with_share_and_seed floor standing info share seed now =
      so_behind No (s.commits_new standing c info seed share now)
      (λ st. bind (s.prunes (st.participation.epoch - 1) st) (λ st. if s.is_late_floor c floor then s.follows c st else s.draws_up c (s.participants_of info) (Some info.output) share seed st))
      (commits_new standing info seed share now) (λ end. behind_prune floor info share seed (record end { records = s.records_from (end.participation.epoch - 1) end.records }))

  judged : (floor : Option ℕ) (standing : Standing) (info : EpochInfo Dir) (now : Live Dir) (valid : Result (Unit {0}) ParticipantsError) → Quiet (s.info_judged c floor standing info now valid)
  judged floor standing info now (Err e) = tt
  judged floor standing info now (Ok passed) = λ h. with_share_and_seed floor standing info (share_read c info h) (s.seed_for c info.epoch (lookup info.epoch (c.seen h).seeds)) now

  with_info : (floor : Option ℕ) (standing : Standing) (info : EpochInfo Dir) (now : Live Dir) → Quiet (s.with_info c floor standing info now)
  with_info floor standing info now =
      so_if No (info.epoch == now.participation.epoch) (s.info_judged c floor standing info now (validity c info)) (Stops (WrongEpoch now.participation.epoch info.epoch)) (λ e. judged floor standing info now (validity c info)) (λ e. tt)

  from_boundary : (o : Option (Block Dir)) (now : Live Dir) → Quiet (s.from_boundary c o now)
  from_boundary None now = (tt, tt)
  from_boundary (Some b) now =
      so_option No (λ (info : EpochInfo Dir). s.with_info c None Uncommitted info now) (info_of b.payload) (Stops (MissingEpochInfo b.height)) (λ info e. with_info None Uncommitted info now) tt

  from_material : (material : Option (EpochInfo Dir × ℕ)) (now : Live Dir) → Quiet (s.from_material c material now)
  from_material (Some m) now = with_info (Some m.1) Uncommitted m.0 now
  from_material None now = from_boundary (c.source.block (boundary c.blocks_per_epoch now.participation.epoch)) now

  sets_up_by : (material : Option (EpochInfo Dir × ℕ)) (committed : Option (EpochInfo Dir)) (now : Live Dir) → Quiet (s.sets_up_by c material committed now)
  sets_up_by material (Some info) now = with_info (option_map (λ m. m.1) material) WasCommitted info now
  sets_up_by material None now = from_material material now

  setup : (material : Option (EpochInfo Dir × ℕ)) (now : Live Dir) → Quiet (s.setup c material now)
  setup material now =
      so_if No (s.is_past_range c (awaited_height now)) (Stops HeightRange) (s.sets_up c material now) (λ e. tt) (λ e. sets_up_by material (s.committed_info (s.anew c now)) (s.anew c now))

  starts_at : (m : Material Dir) (o : Option (Block Dir)) (now : Live Dir) → Quiet (plans.starts_at c m o now)
  starts_at m None now = tt
  starts_at m (Some floor) now = setup (Some (m.info, floor.height)) (record now { tip = startup c.source.anchor (Some floor) })

  starts_from : (found : Option (Material Dir)) (now : Live Dir) → Quiet (plans.starts_from c now found)
  starts_from None now = setup None (record now { tip = startup c.source.anchor None })
  starts_from (Some m) now = λ h.
      so_behind No (s.registers c m.info (s.recovered_share c (c.seen h) m.info) now) (λ st. plans.starts_at c m (c.source.by_digest m.floor.payload) st) (tt, tt) (λ end. starts_at m (c.source.by_digest m.floor.payload) end)

  module _ (now : Live Dir) where
    resolves : (found : Option (Material Dir)) → Quiet (plans.resolves_plan c (plans.starts_from c now) found)
    resolves None = starts_from None now
    resolves (Some m) = so_if No (plans.is_outdated c m) (Do (OnDisk ClearsPlan) (plans.starts_from c now None)) (plans.starts_from c now (Some m)) (λ e. starts_from None now) (λ e. starts_from (Some m) now)

    abbrev next : Option (Material Dir) → Course Dir Fault (Live Dir)
    next found = plans.stays_in_range c (plans.resolves_plan c (plans.starts_from c now) found)

    next_so : (found : Option (Material Dir)) → Quiet (next found)
    next_so found = so_if No _ (Stops HeightRange) (plans.resolves_plan c (plans.starts_from c now) found) (λ e. tt) (λ e. resolves found)

    of_one_epoch : (m : Material Dir) (acts : Course Dir Fault (Live Dir)) → Quiet acts → Quiet (plans.of_one_epoch m acts)
    of_one_epoch m acts so = so_if No (m.info.epoch == m.floor.epoch) acts (Stops (StateSyncEpochs m.info.epoch m.floor.epoch)) (λ e. so) (λ e. tt)

    stored : (read : Result (Material Dir) CodecError) → Quiet (plans.stored next read)
    stored (Err e) = tt
    stored (Ok m) = of_one_epoch m (next (Some m)) (next_so (Some m))

    reads_plan : (plan : Option (List ℕ)) → Quiet (plans.reads_plan c plan next)
    reads_plan None = next_so None
    reads_plan (Some bytes) = stored (whole (plans.material_at c bytes))

    finds : (material : Option (Material Dir)) → Quiet (plans.finds_material c material next)
    finds None = λ h. reads_plan (c.seen h).plan
    finds (Some m) =
        of_one_epoch m (if is_ok (whole (plans.material_at c (plans.material_bytes c m))) then Do (OnDisk (PutsPlan (plans.material_bytes c m))) (next (Some m)) else Stops StateSyncMaterial)
        (so_if No (is_ok (whole (plans.material_at c (plans.material_bytes c m)))) (Do (OnDisk (PutsPlan (plans.material_bytes c m))) (next (Some m))) (Stops StateSyncMaterial) (λ e. next_so (Some m)) (λ e. tt))

  opening_so : Quiet (opening c)
  opening_so = λ h. (tt, subst (λ (o : Option (OneShot Dir)). Quiet (opens_in c o (begun_life (c.seen h)))) (sym reshare) (finds (begun_life (c.seen h)) c.material))

  half_line : (line : Entry) → IsHalfLine line → No line
  half_line (Answer number answer) is = absurd is
  half_line line is = tt

  node_opening_so : SaysSo No (node_opening c)
  node_opening_so =
      so_behind No (under Faulted (opening c)) (λ st. unless_once c (node.kept_material c st) (Goes st)) (so_under No Faulted (opening c) opening_so)
      (λ end. so_if No (is_some c.oneshot) (Goes end) (node.kept_material c end) (λ e. tt)
      (λ e h. so_behind No (half.opens_half c (option_and_then (λ bytes. result_ok (whole (plans.material_at c bytes))) (c.seen h).plan) end) (λ left. Goes left.live)
      (opens_half c No half_line (option_and_then (λ bytes. result_ok (whole (plans.material_at c bytes))) (c.seen h).plan) end) (λ left. tt)))

  -- it says no answer
  pub opening_lines : (ended : Ended NodeStop (Live Dir)) (old new : List Entry) → Said (on_devices (node_opening c)) ended old new → (added : List Entry) × (new ≡ old ++ added) × AllByRecursion IsUnanswered added
  opening_lines ended old new said = said_so No (node_opening c) ended old new node_opening_so said
