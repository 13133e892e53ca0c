-- Laws of the orchestrator's half: which epochs are entered, and when a last block is acknowledged.
use Rattle.std.specs.Prelude.{ℕ, List, ◌∷◌, ◌+◌, ◌≡◌, true, Some}
use Rattle.dkg_values.specs.Rising.{lookup}
use Rattle.dkg_ceremony.specs.Schedule.{last}
use Rattle.dkg_types.specs.Blocks.{Block}
use Rattle.dkg_infos.specs.declared.entry.Entry.{Entry}
use Rattle.dkg_infos.specs.declared.entry.Entry.TheVariants.{Entered}
use Rattle.dkg_types.specs.declared.scheme.SchemeInfo.{SchemeInfo}
use Rattle.dkg_core.specs.Fixed.{Fixed}
use Rattle.dkg_core.specs.Live.{Live, Waiting}
use Rattle.dkg_core.specs.Courses.{Deed, CalledOutside, Tracks, StartsEngine, StopsEngine}
use Rattle.dkg_core.specs.Entering.{LifeAndAnswer, AcknowledgesBlock, is_ready, active, enters, takes_delivered}
use Rattle.dkg_core.specs.Laws.{Law, Holds}

-- The peers of the epoch were tracked last.
abbrev pub IsTracked : {Dir : Type 0} → (epoch : ℕ) → List (Deed Dir) → Type 0
IsTracked epoch (CalledOutside (Tracks tracked peers directory) ∷ past) = tracked ≡ epoch
IsTracked epoch past = ⊥

-- .. and then the epoch's engine was started by this scheme, and behind it the one before was stopped, if there is one.
abbrev pub IsEngineStarted : {Dir : Type 0} → (epoch : ℕ) → SchemeInfo → List (Deed Dir) → Type 0
IsEngineStarted epoch scheme (CalledOutside (StopsEngine old) ∷ past) = IsEngineStarted epoch scheme past
IsEngineStarted epoch scheme (CalledOutside (StartsEngine started floor by) ∷ past) = (started ≡ epoch) × (by ≡ scheme) × IsTracked epoch past
IsEngineStarted epoch scheme past = ⊥

-- The fence was ready for the epoch, its scheme was registered, its peers were tracked, and its engine was started.
pub record IsEnterable {Dir : Type 0} (st : Live Dir) (past : List (Deed Dir)) (epoch : ℕ) : Type 0 where
  pub ready : is_ready st.orchestrator.fence.ready epoch ≡ true
  pub scheme : SchemeInfo
  pub registered : lookup epoch st.orchestrator.schemes ≡ Some scheme
  pub started : IsEngineStarted epoch scheme past

abbrev pub EnteringEntry : {Dir : Type 0} → Live Dir → List (Deed Dir) → Entry → Type 0
EnteringEntry st past (Entered epoch) = IsEnterable st past epoch
EnteringEntry st past line = Unit {0}

-- An enterable epoch alone is entered, no device is touched, and a half that acknowledges has entered this epoch.
abbrev pub entering_law : {Dir : Type 0} → Live Dir → (epoch : ℕ) → Law Dir (LifeAndAnswer Dir)
entering_law st epoch = record {
  line = EnteringEntry st;
  operation = λ past op. ⊥;
  end = λ past half. half.answer ≡ AcknowledgesBlock → half.live.orchestrator.entered ≡ Some epoch;
}

abbrev pub EntersRegistered : Type 0 → Type 0
EntersRegistered Dir = (c : Fixed Dir) (w : Waiting Dir) (st : Live Dir) (past : List (Deed Dir)) → Holds (entering_law st w.epoch) past (enters c w st)

-- The last block of the entered epoch is acknowledged once the next epoch was entered.
abbrev pub LastBlocksAreEntered : Type 0 → Type 0
LastBlocksAreEntered Dir = (c : Fixed Dir) (b : Block Dir) (st : Live Dir) (epoch : ℕ) (past : List (Deed Dir)) → active st.orchestrator ≡ Some epoch
    → b.height ≡ last c.blocks_per_epoch epoch → Holds (entering_law st (epoch + 1)) past (takes_delivered c b st)
