-- WHAT A COMPLETED STEP LEAVES OPEN: past the midpoint of an epoch that the life takes part in no request, unless a verification runs or the oldest one that is open still needs blocks; and in one that it
-- follows none. By the entries and the script, whatever the devices tell.
use Rattle.std.specs.Prelude.{ℕ, ◌≡◌, ◌≤◌, ◌<◌, ◌-◌, ◌++◌, ◌∷◌, ◌⊎◌, true, false, IsFalse, List, Some, reverse, slice_get}
use Rattle.std.specs.List.{list_any}
use Rattle.dkg_ceremony.specs.Outcomes.{LogMap}
use Rattle.dkg_ceremony.specs.Schedule.{midpoint}
use Rattle.dkg_ceremony.specs.declared.round.RoundParts.{RoundParts as Round}
use Rattle.dkg_types.specs.Blocks.{Block}
use Rattle.dkg_infos.specs.declared.directory.Unit as directory
use Rattle.dkg_infos.specs.declared.entry.AnswerLine.{AnswerLine}
use Rattle.dkg_infos.specs.declared.entry.Entry.{Entry}
use Rattle.dkg_infos.specs.declared.entry.Entry.TheVariants.{Answer, Opened, Step}
use Rattle.dkg_infos.specs.declared.entry.Restored.{Restored}
use Rattle.dkg_artifact.specs.Ancestries.{IsUnderWay}
use Rattle.dkg_text.specs.declared.script.Event.TheVariants.{Info, Work}
use Rattle.dkg_text.specs.declared.script.Life.{Life}
use Rattle.dkg_text.specs.declared.script.Script.{Script}
use Rattle.dkg_script.specs.Epochs.{alone}
use Rattle.dkg_script.specs.Order.{is_opened}
use Rattle.dkg_script.specs.Position.{awaited_epoch, awaited_height_after, life_follows}
use Rattle.dkg_core.specs.Laws.{IsAmong}
use Rattle.dkg_lives.specs.Asks.{IsUncancelled, Open, WereAsked, bounds_in, fed_in, scan_tip, request_standing}
use Rattle.dkg_lives.specs.Blamed.{per_epoch}

-- these entries don't answer the request
abbrev pub LacksAnswer : List Entry → (request : ℕ) → Type 0
LacksAnswer said request = (answer : AnswerLine) → IsAmong (Answer request answer) said → ⊥

-- Behind the first j events of a life the request is open: one of them made it, none has cancelled it, and these entries don't answer it.
pub record IsOpenRequest (life : Life) (j : ℕ) (said : List Entry) (request : ℕ) : Type 0 where
  pub at : ℕ
  pub before : at < j
  pub made : slice_get life.events at ≡ Some (Info request)
  pub uncancelled : IsUncancelled (request_standing life request j)
  pub unanswered : LacksAnswer said request

-- .. and it is the oldest that is, made while the epoch was awaited that is awaited then
pub record IsOldest (script : Script) (l : ℕ) (life : Life) (j : ℕ) (said : List Entry) (request : ℕ) : Type 0 where
  pub its : IsOpenRequest life j said request
  pub of_epoch : awaited_epoch (alone script) l life its.at ≡ awaited_epoch (alone script) l life j
  pub first : (other : ℕ) (one : IsOpenRequest life j said other) → its.at ≤ one.at

-- A request needs blocks: its ancestry goes on, and what it was fed is a path that isn't read to the last needed height.
pub record NeedsBlocks (script : Script) (life : Life) (epoch j request : ℕ) : Type 0 where
  pub goes_on : request_standing life request j ≡ Open
  pub path : List (Block directory.Unit)
  pub fed : fed_in script life request j ≡ reverse path
  pub under_way : IsUnderWay (bounds_in script epoch) (scan_tip script life j) path

-- `front` is what a life had written by the entry of step k, where it has written `said` by that of step j
abbrev pub IsSaidBy : (j : ℕ) (said : List Entry) (k : ℕ) (front : List Entry) → Type 0
IsSaidBy j said k front = ((k ≡ j) × (front ≡ said)) ⊎ ((rest : List Entry) × (said ≡ front ++ (Step k ∷ rest)))

-- Logs were asked for, and neither the retained result nor the cache had them: as the oldest open one in a step that began in the epoch, the request was read to its end, and it wasn't answered, then or
-- later. No event has ended a verification since.
pub record IsVerified (script : Script) (l : ℕ) (life : Life) (epoch j : ℕ) (said : List Entry) (request : ℕ) : Type 0 where
  pub read : ℕ
  pub within : read ≤ j
  pub began : awaited_epoch (alone script) l life (read - 1) ≡ epoch
  pub front : List Entry
  pub by_then : IsSaidBy j said read front
  pub oldest : IsOldest script l life read front request
  pub round : Round
  pub recorded : LogMap
  pub logs : LogMap
  pub asked : WereAsked script life epoch request read round recorded logs
  pub unanswered : LacksAnswer said request
  pub unended : (k : ℕ) → read ≤ k → k < j → slice_get life.events k ≡ Some Work → ⊥

-- A VERIFICATION RUNS behind the first j events. Where it started in the step of a `work`, that ended the verification of another request: one whose verification ends is answered in the same step, unless
-- it was cancelled.
pub record Verifies (script : Script) (l : ℕ) (life : Life) (epoch j : ℕ) (said : List Entry) : Type 0 where
  pub request : ℕ
  pub its : IsVerified script l life epoch j said request
  pub anew : slice_get life.events (its.read - 1) ≡ Some Work
      → (other : ℕ) × (front : List Entry) × IsSaidBy its.read its.front (its.read - 1) front × IsVerified script l life epoch (its.read - 1) front other × (other ≡ request → ⊥)

-- what step j leaves, where the life has written these entries before: in an epoch that it takes part in
abbrev pub LeavesFew : Script → (l : ℕ) → Life → (j : ℕ) → List Entry → Type 0
LeavesFew script l life j said =
    life_follows (alone script) l life (awaited_epoch (alone script) l life j) ≡ false → midpoint (per_epoch script) (awaited_epoch (alone script) l life j) ≤ awaited_height_after (alone script) l life j
    → (request : ℕ) → IsOpenRequest life j said request → Verifies script l life (awaited_epoch (alone script) l life j) j said
    ⊎ ((oldest : ℕ) × IsOldest script l life j said oldest × NeedsBlocks script life (awaited_epoch (alone script) l life j) j oldest)

-- .. and in one that it follows
abbrev pub LeavesNone : Script → (l : ℕ) → Life → (j : ℕ) → List Entry → Type 0
LeavesNone script l life j said =
    LeavesFew script l life j said × (life_follows (alone script) l life (awaited_epoch (alone script) l life j) ≡ true → (request : ℕ) → IsOpenRequest life j said request → ⊥)

-- each completed step of each life, by what the life has written since it opened
abbrev pub LeavesSo : Script → List Entry → Type 0
LeavesSo script out =
    (front said rest : List Entry) (l : ℕ) (restored : List Restored) (j : ℕ) (life : Life) → out ≡ front ++ (Opened l restored ∷ (said ++ (Step j ∷ rest))) → IsFalse (list_any is_opened said)
    → slice_get script.lives l ≡ Some life → LeavesNone script l life j said
