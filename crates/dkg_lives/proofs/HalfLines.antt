-- Each line of the orchestrator's half, behind an opening, a block and mail: it enters an epoch, halts, or acknowledges a block.
use Rattle.std.proofs.Common.{ℕ, Option, Some, None}
use Rattle.std.specs.Prelude.{◌+◌, ◌==◌, if◌then◌else◌, is_some, option_and_then, nat_lt}
use Rattle.std.specs.Result.{result_ok}
use Rattle.dkg_values.specs.Codec.{whole}
use Rattle.dkg_values.specs.Rising.{lookup}
use Rattle.dkg_ceremony.specs.Schedule.{boundary, epoch_of, last}
use Rattle.dkg_fence.specs.Fence.{waited}
use Rattle.dkg_fence.specs.declared.fence.Waited.TheVariants as waits
use Rattle.dkg_fence.specs.declared.fence.Waited.{Waited}
use Rattle.dkg_types.specs.BlockCodes.{info_of}
use Rattle.dkg_types.specs.Blocks.{Block}
use Rattle.dkg_infos.specs.declared.entry.Entry.TheVariants.{Acked, Entered, Halted}
use Rattle.dkg_infos.specs.declared.entry.Entry.{Entry}
use Rattle.dkg_infos.specs.declared.fault.Fault.TheVariants.{HeightRange, MissingEpochInfo, SkippedHeight, WrongEpoch}
use Rattle.dkg_infos.specs.declared.info.EpochInfo.{EpochInfo}
use Rattle.dkg_types.specs.declared.scheme.SchemeInfo.{SchemeInfo}
use Rattle.dkg_core.specs.Courses.{Certified, Course, Genesis, Goes, Say, Stops, bind}
use Rattle.dkg_core.specs.Entering as half
use Rattle.dkg_core.specs.Entering.{AcknowledgesBlock, LifeAndAnswer, HalfAnswer, Withholds, active, takes_delivered}
use Rattle.dkg_core.specs.Fixed.{Fixed, Material}
use Rattle.dkg_core.specs.Live.{Faulted, Live, NodeStop, Orchestrator, Waiting}
use Rattle.dkg_core.specs.Node.{kept_material, unless_once}
use Rattle.dkg_core.specs.Plans as p
use Rattle.dkg_core.specs.SayingThrough.{SaysSo}
use Rattle.dkg_core.specs.Setup as s
use Rattle.dkg_core.proofs.SayingThrough.{so_behind, so_if, so_option}

module _ {Dir : Type 0} (c : Fixed Dir) (P : Entry → Type 0) (entered : (epoch : ℕ) → P (Entered epoch)) (halted : P Halted) (acked : (height : ℕ) → P (Acked height)) where
  abbrev Half_so : Course Dir NodeStop (LifeAndAnswer Dir) → Type 0
  Half_so course = SaysSo P course

  starts : (o : Orchestrator Dir) (w : Waiting Dir) (found : Option SchemeInfo) (now : Live Dir) → Half_so (half.starts_engine o w found now)
  starts o w None now = tt
  starts o w (Some scheme) now = stopped o.entered
    where
      stopped : (old : Option ℕ) → SaysSo P (half.stops_engine old (Say (Entered w.epoch) (half.leaves (half.with_entered w.epoch o) AcknowledgesBlock now)))
      stopped None = (entered w.epoch, tt)
      stopped (Some old) = (entered w.epoch, tt)

  tracks : (o : Orchestrator Dir) (w : Waiting Dir) (lacking : Option ℕ) (now : Live Dir) → Half_so (half.tracks_peers o w lacking now)
  tracks o w (Some peer) now = tt
  tracks o w None now = starts o w (lookup w.epoch o.schemes) now

  waits_so : (o : Orchestrator Dir) (w : Waiting Dir) (answer : Waited) (now : Live Dir) → Half_so (half.waited_for c o w answer now)
  waits_so o w waits.Ready now = tracks o w (c.directories.lacking w.info.directory (half.peers_for w)) now
  waits_so o w waits.Pending now = tt
  waits_so o w waits.Closed now = (halted, tt)

  enters : (w : Waiting Dir) (now : Live Dir) → Half_so (half.enters c w now)
  enters w now =
      let answer = half.wait_for now.orchestrator.fence w.epoch in waits_so (record now.orchestrator { fence = waited w.epoch answer now.orchestrator.fence }) w answer now

  enters_at : (block : Block Dir) (epoch : ℕ) (height : Option ℕ) (now : Live Dir) → Half_so (half.enters_at c block epoch height now)
  enters_at block epoch height now =
      let goes : EpochInfo Dir → Course Dir NodeStop (LifeAndAnswer Dir) = λ info. half.enters c (record { epoch = epoch; info = info; floor = Genesis block.digest; block = height }) now in
      let wrong : EpochInfo Dir → Course Dir NodeStop (LifeAndAnswer Dir) = λ info. Stops (Faulted (WrongEpoch epoch info.epoch)) in
      so_option P (λ (info : EpochInfo Dir). if info.epoch == epoch then goes info else wrong info) (info_of block.payload) (Stops (Faulted (MissingEpochInfo block.height)))
      (λ info e. so_if P (info.epoch == epoch) (goes info) (wrong info) (λ e. enters (record { epoch = epoch; info = info; floor = Genesis block.digest; block = height }) now) (λ e. tt)) tt

  acks : (height : ℕ) (answer : HalfAnswer) (now : Live Dir) → SaysSo P (half.acked_at height answer now)
  acks height AcknowledgesBlock now = (acked height, tt)
  acks height Withholds now = tt

  acked_late : (height : Option ℕ) (left : LifeAndAnswer Dir) → SaysSo P (half.acked_late height left)
  acked_late None left = tt
  acked_late (Some height) left = acks height left.answer left.live

  again : (now : Live Dir) → SaysSo P (half.asks_again c now)
  again now =
      so_option P (λ (w : Waiting Dir). bind (half.enters c w now) (half.acked_late w.block)) now.orchestrator.waiting (Goes now)
      (λ w e. so_behind P (half.enters c w now) (half.acked_late w.block) (enters w now) (λ left. acked_late w.block left)) tt

  delivers_in : (block : Block Dir) (now : Live Dir) (found : Option ℕ) → Half_so (half.delivered_in c block now found)
  delivers_in block now None = tt
  delivers_in block now (Some epoch) =
      so_if P (nat_lt (last c.blocks_per_epoch epoch) block.height) (Stops (Faulted (SkippedHeight (last c.blocks_per_epoch epoch) block.height)))
      (if nat_lt block.height (last c.blocks_per_epoch epoch) then half.leaves now.orchestrator AcknowledgesBlock now else half.enters_at c block (epoch + 1) (Some block.height) now) (λ e. tt)
      (λ e. so_if P (nat_lt block.height (last c.blocks_per_epoch epoch)) (half.leaves now.orchestrator AcknowledgesBlock now) (half.enters_at c block (epoch + 1) (Some block.height) now) (λ e. tt)
      (λ e. enters_at block (epoch + 1) (Some block.height) now))

  pub behind_block : (block : Block Dir) (now : Live Dir) → SaysSo P (unless_once c (bind (takes_delivered c block now) (λ left. half.acked_at block.height left.answer left.live)) (Say (Acked block.height) (Goes now)))
  behind_block block now =
      so_if P (is_some c.oneshot) (Say (Acked block.height) (Goes now)) (bind (takes_delivered c block now) (λ left. half.acked_at block.height left.answer left.live)) (λ e. (acked block.height, tt))
      (λ e. so_behind P (takes_delivered c block now) (λ left. half.acked_at block.height left.answer left.live)
      (so_behind P (half.asks_again c now) (λ mid. half.delivered_in c block mid (active mid.orchestrator)) (again now) (λ mid. delivers_in block mid (active mid.orchestrator))) (λ left. acks block.height left.answer left.live))

  pub behind_mail : (now : Live Dir) → SaysSo P (unless_once c (half.asks_again c now) (Goes now))
  behind_mail now = so_if P (is_some c.oneshot) (Goes now) (half.asks_again c now) (λ e. tt) (λ e. again now)

  opens_so : (now : Live Dir) (m : Option (Material Dir)) → Half_so (half.opens_half c m now)
  opens_so now (Some m) = enters (record { epoch = m.info.epoch; info = m.info; floor = Certified m.floor; block = None }) now
  opens_so now None =
      let epoch = epoch_of c.blocks_per_epoch (half.start_height c) in
      so_if P (s.is_past_range c (half.start_height c)) (Stops (Faulted HeightRange)) (half.opens_at c epoch (c.source.block (boundary c.blocks_per_epoch epoch)) now) (λ e. tt)
      (λ e. at epoch (c.source.block (boundary c.blocks_per_epoch epoch)))
    where
      at : (epoch : ℕ) (found : Option (Block Dir)) → Half_so (half.opens_at c epoch found now)
      at epoch None = (halted, tt)
      at epoch (Some block) = enters_at block epoch None now

  pub behind_opening : (now : Live Dir) → SaysSo P (unless_once c (kept_material c now) (Goes now))
  behind_opening now =
      so_if P (is_some c.oneshot) (Goes now) (kept_material c now) (λ e. tt) (λ e h. opens_by (option_and_then (λ bytes. result_ok (whole (p.material_at c bytes))) (c.seen h).plan))
    where
      opens_by : (m : Option (Material Dir)) → SaysSo P (bind (half.opens_half c m now) (λ left. Goes left.live))
      opens_by m = so_behind P (half.opens_half c m now) (λ left. Goes left.live) (opens_so now m) (λ left. tt)
