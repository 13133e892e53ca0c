-- Logs that a run's devices record: what is known of them by its transcript, and which blocks they come from.
use Rattle.std.specs.Prelude.{ℕ, ◌≡◌, ◌<◌, ◌≤◌, ◌+◌, ◌⊎◌, ◌++◌, ◌∷◌, List, Some, IsSomeAnd}
use Rattle.std.specs.FinMap.{get}
use Rattle.dkg_ceremony.specs.declared.dealer_log.DealerLog.{DealerLog}
use Rattle.dkg_store.specs.Noted.{Notes}
use Rattle.dkg_store.specs.declared.recorded_log.RecordedLog.{RecordedLog}
use Rattle.dkg_infos.specs.declared.entry.Restored.{Restored}
use Rattle.dkg_script.specs.Blocks.{ScriptBlock}
use Rattle.dkg_script.specs.OwnMarks.{IsOwnMarkKnown}
use Rattle.dkg_script.specs.Schedule.{epoch_of, midpoint, last}
use Rattle.dkg_script.specs.Setting.{Setting, blocks_per_epoch}

-- Each log that is recorded of an epoch not yet two below one that has begun has the public half of the dealing recorded for its dealer, where it bears this node's acknowledgement.
-- (Of the devices handed in `OwnMarks.handed_in` says so, and of a log that a step records `OwnMarks.delivered`.)
abbrev pub LogsKnown : Setting → (begun : ℕ) → List Restored → Notes RecordedLog → Type 0
LogsKnown s begun pairs logs = (key : ℕ × ℕ) (noted : RecordedLog) → begun < key.0 + 2 → get logs key ≡ Some noted → IsOwnMarkKnown s pairs key.0 key.1 noted.log

-- the block carries this log of the dealer
abbrev pub CarriesLog : (dealer : ℕ) → DealerLog → ScriptBlock → Type 0
CarriesLog dealer log b = IsSomeAnd b.log (λ signed. (signed.dealer ≡ dealer) × (signed.log ≡ log))

-- A block of the epoch carries the log that is noted, at the height that is noted, from the epoch's midpoint on and below its last.
pub record IsCarried (s : Setting) (epoch dealer : ℕ) (b : ScriptBlock) (noted : RecordedLog) : Type 0 where
  pub of_epoch : epoch_of (blocks_per_epoch s) b.height ≡ epoch
  pub late : midpoint (blocks_per_epoch s) epoch ≤ b.height
  pub below : b.height < last (blocks_per_epoch s) epoch
  pub height_is : noted.height ≡ Some b.height
  pub log_is : CarriesLog dealer noted.log b

-- Each log that is recorded now of an epoch not yet two below one that has begun was recorded before (`handed`), or one of these blocks carries it.
abbrev pub AreNotedFrom : Setting → List ScriptBlock → (handed now : Notes RecordedLog) → (begun : ℕ) → Type 0
AreNotedFrom s blocks handed now begun =
    (key : ℕ × ℕ) (noted : RecordedLog) → begun < key.0 + 2 → get now key ≡ Some noted
    → (get handed key ≡ Some noted) ⊎ ((before after : List ScriptBlock) × (b : ScriptBlock) × (blocks ≡ before ++ b ∷ after) × IsCarried s key.0 key.1 b noted)
