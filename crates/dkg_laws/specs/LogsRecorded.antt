-- Which dealers' logs a step records.
use Rattle.std.specs.Prelude.{◌≡◌, ◌⊎◌, ◌≤◌, ℕ, true, false, Option, Some, None, option_and_then}
use Rattle.std.specs.FinMap.{get}
use Rattle.dkg_ceremony.specs.declared.round.RoundParts.{RoundParts as Round}
use Rattle.dkg_ceremony.specs.declared.signed_log.SignedDealerLog.{SignedDealerLog}
use Rattle.dkg_types.specs.Blocks.{Block}
use Rattle.dkg_types.specs.PayloadCodes.{its_log}
use Rattle.dkg_store.specs.Acts.{World, Ended, notes}
use Rattle.dkg_store.specs.Noted.{logs_in}
use Rattle.dkg_store.specs.declared.recorded_log.RecordedLog.{RecordedLog}
use Rattle.dkg_core.specs.Courses.{EndsSo}
use Rattle.dkg_core.specs.Fixed.{Fixed}
use Rattle.dkg_core.specs.Live.{Live, NodeStop, Includes, Message, Mailed, Finalized, recorded_at, is_last_height}
use Rattle.dkg_core.specs.Logs.{is_accepted, recorded_log}
use Rattle.dkg_core.specs.Node.{node_step}
use Rattle.dkg_core.specs.Behind.{event_of}
use Rattle.dkg_core.specs.Laws.{reach_of}
use Rattle.dkg_core.specs.Agreeing.{AreAgreed, CanRecord}
use Rattle.dkg_core.specs.Forms.{Applied, judged_block}
use Rattle.dkg_core.specs.Through.{observed}

-- The log of an applied block is recorded, with the block's height: it counts in the round of a life that includes, none of its dealer was recorded, and the block isn't
-- the epoch's last.
pub record IsRecordedNow {Dir : Type 0} (c : Fixed Dir) (st : Live Dir) (b : Block Dir) (key : ℕ × ℕ) (now : Option RecordedLog) : Type 0 where
  pub applied : judged_block c b st ≡ Applied
  pub includes : st.participation.stage ≡ Includes
  pub round : Round
  pub of_epoch : st.participation.round ≡ Some round
  pub below : is_last_height c b.height ≡ false
  pub log : SignedDealerLog
  pub carried : option_and_then its_log b.payload ≡ Some log
  pub accepted : is_accepted c round log ≡ true
  pub new : recorded_at st.records.logs round.number log.dealer ≡ None
  pub at : key ≡ (round.number, log.dealer)
  pub is : now ≡ Some (recorded_log b.height log.log)

-- what may be said of a log that is noted behind a message
abbrev pub IsNotedNow : {Dir : Type 0} → Fixed Dir → Live Dir → Message Dir → (key : ℕ × ℕ) → (old new : Option RecordedLog) → Type 0
IsNotedNow c st (Finalized b) key old new = (new ≡ old) ⊎ IsRecordedNow c st b key new
IsNotedNow c st (Mailed mail) key old new = new ≡ old

-- ANY STEP, wherever it ends, leaves the logs of the epochs that it prunes nothing of as they were, but for one that it records, if what it may record fits a record.
abbrev pub NodeStepsRecordLogs : Type 0 → Type 0
NodeStepsRecordLogs Dir = (c : Fixed Dir) (st : Live Dir) (message : Message Dir) (ended : Ended NodeStop (Live Dir)) (most : ℕ) (w new : World) → reach_of c message ≤ most
    → AreAgreed st.records w.held → CanRecord c st message → EndsSo (node_step c (event_of message) st) ended w new
    → (key : ℕ × ℕ) → most ≤ key.0 → IsNotedNow c st message key (get (logs_in (notes w.held)) key) (get (logs_in (notes new.held)) key)

-- IN MEMORY

-- the first of two
abbrev pub first_of_both : Option RecordedLog → RecordedLog → RecordedLog
first_of_both None now = now
first_of_both (Some before) now = before

-- The first log of a dealer that counts in the round stays: it is recorded behind a look at such a block, with the height of the block that brought it first,
abbrev pub ObservesFirst : Type 0 → Type 0
ObservesFirst Dir = (c : Fixed Dir) (round : Round) (b : Block Dir) (st : Live Dir) (log : SignedDealerLog) → option_and_then its_log b.payload ≡ Some log → is_accepted c round log ≡ true
    → recorded_at (observed c round b st).records.logs round.number log.dealer
    ≡ Some (first_of_both (recorded_at st.records.logs round.number log.dealer) (recorded_log b.height log.log))

-- .. and of no other dealer and epoch anything changes.
abbrev pub ObservesNothingElse : Type 0 → Type 0
ObservesNothingElse Dir = (c : Fixed Dir) (round : Round) (b : Block Dir) (st : Live Dir) (epoch dealer : ℕ)
    → ((log : SignedDealerLog) → option_and_then its_log b.payload ≡ Some log → is_accepted c round log ≡ true → ◌≡◌ {A = ℕ × ℕ} (epoch, dealer) (round.number, log.dealer) → ⊥)
    → recorded_at (observed c round b st).records.logs epoch dealer ≡ recorded_at st.records.logs epoch dealer
