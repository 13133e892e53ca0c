-- What the orchestrator's half has in memory of a life, what its calls are given, and how they end.
use Rattle.std.specs.Prelude.{ℕ, ◌+◌, ◌<◌, ◌^◌, ◌≡◌, true, false, None, Option, Some, Result, Ok, Err, IsSome}
use Rattle.dkg_ceremony.specs.Schedule.{last}
use Rattle.dkg_fence.specs.Readiness.{Readiness}
use Rattle.dkg_store.specs.Acts.{Ended, went}
use Rattle.dkg_types.specs.Blocks.{Block}
use Rattle.dkg_infos.specs.declared.directory.Unit as directory
use Rattle.dkg_infos.specs.declared.participants.TrackedPeers.{TrackedPeers}
use Rattle.dkg_values.specs.Rising.{lookup}
use Rattle.dkg_core.specs.Entering as core
use Rattle.dkg_core.specs.Entering.{is_ready}
use Rattle.dkg_core.specs.Fixed.{Fixed}
use Rattle.dkg_core.specs.Live.{Live, NodeStop, with_orchestrator}
use Rattle.dkg_core.specs.Sources.{SourceAnswers}
use Rattle.dkg_core.specs.Endings.{OnInfo, first_epoch}
use Rattle.dkg_life.specs.declared.stop.Stop.{Stop}
use Rattle.dkg_lives.specs.Ended.{by_node_stop}
use Rattle.dkg_lives.specs.Given.{IsUnplanned}
use Rattle.dkg_around.specs.declared.half.Half.{Half}

-- What this half has in memory of a life. It doesn't wait.
pub record HasOrchestratorHalf (half : Half) (st : Live directory.Unit) : Type 0 where
  pub entered : st.orchestrator.entered ≡ half.entered
  pub halted : st.orchestrator.halted ≡ half.halted
  pub unawaited : st.orchestrator.waiting ≡ None

-- the life with this half, and with this fence
abbrev pub with_orchestrator_half : Half → Readiness → Live directory.Unit → Live directory.Unit
with_orchestrator_half half fence st =
    with_orchestrator (record st.orchestrator { fence = fence; entered = half.entered; halted = half.halted; waiting = None }) st

abbrev pub ends_half : Readiness → Live directory.Unit → Result Half Stop → Ended NodeStop (Live directory.Unit)
ends_half fence st (Ok half) = went (with_orchestrator_half half fence st)
ends_half fence st (Err stop) = by_node_stop stop

-- A Fixed that this half's opening is given: no plan is read.
pub record IsHalfGiven (blocks : ℕ) (source : SourceAnswers directory.Unit) (c : Fixed directory.Unit) : Type 0 where
  pub blocks_are : c.blocks_per_epoch ≡ blocks
  pub lent : c.source ≡ source
  pub unplanned : IsUnplanned c.seen
  pub lacks : (d : directory.Unit) (peers : TrackedPeers) → c.directories.lacking d peers ≡ None

-- Where its boundary block carries the epoch's info, the fence is ready for the epoch in which the life starts.
abbrev pub IsFenceReady : Fixed directory.Unit → Readiness → Type 0
IsFenceReady c fence = OnInfo c (λ info. info.epoch ≡ first_epoch c) → is_ready fence.ready (first_epoch c) ≡ true

-- The half has not begun, and the epoch in which the life starts was registered where that block carries its info.
pub record MayEnter (c : Fixed directory.Unit) (fence : Readiness) (st : Live directory.Unit) : Type 0 where
  pub unentered : st.orchestrator.entered ≡ None
  pub going : st.orchestrator.halted ≡ false
  pub unawaited : st.orchestrator.waiting ≡ None
  pub fence_is : st.orchestrator.fence ≡ fence
  pub registered : OnInfo c (λ info. info.epoch ≡ first_epoch c) → IsSome (lookup (first_epoch c) st.orchestrator.schemes)

-- The fence is the half's, and where the block is the last of the epoch that was entered, the next one was registered, and no peer lacks an address.
pub record MayGoOn (c : Fixed directory.Unit) (fence : Readiness) (b : Block directory.Unit) (epoch : ℕ) (st : Live directory.Unit) : Type 0 where
  pub fence_is : st.orchestrator.fence ≡ fence
  pub registered : b.height ≡ last c.blocks_per_epoch epoch → IsSome (lookup (epoch + 1) st.orchestrator.schemes)
  pub lacks : (d : directory.Unit) (peers : TrackedPeers) → c.directories.lacking d peers ≡ None

-- The last height of the epoch that an active half has entered is a number of 64 bits.
abbrev pub IsSettled : (per_epoch : ℕ) → Half → Type 0
IsSettled per_epoch half = (epoch : ℕ) → half.halted ≡ false → half.entered ≡ Some epoch → last per_epoch epoch < 2 ^ 64

-- .. and where the block at a height is that epoch's last, the next one's is, and the fence is ready for it
abbrev pub MayPass : (per_epoch : ℕ) → Half → (ready : Option ℕ) → (height : ℕ) → Type 0
MayPass per_epoch half ready height = (epoch : ℕ) → half.halted ≡ false → half.entered ≡ Some epoch
    → (last per_epoch epoch < 2 ^ 64) × (height ≡ last per_epoch epoch → (last per_epoch (epoch + 1) < 2 ^ 64) × (is_ready ready (epoch + 1) ≡ true))

-- how a half's step ended, whatever it answered
abbrev pub ends_on : Live directory.Unit → Result (Unit {0}) Stop → Ended NodeStop (core.LifeAndAnswer directory.Unit)
ends_on st (Ok done) = went (record { live = st; answer = core.AcknowledgesBlock })
ends_on st (Err stop) = by_node_stop stop
