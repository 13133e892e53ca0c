-- Where a run stands in its lives and steps, and what entries that are added make of that.
use Rattle.std.specs.Prelude.{ℕ, ◌+◌, ◌<◌, ◌≤◌, Bool, List, [], ◌∷◌, ◌++◌, ◌≡◌, ◌≢◌, ◌⊎◌, Option, Some, IfSome, IsSomeAnd, length, fold}
use Rattle.std.specs.List.{AllByRecursion, list_any}
use Rattle.dkg_infos.specs.declared.entry.Entry.{Entry}
use Rattle.dkg_infos.specs.declared.entry.Entry.TheVariants.{Opened, Fault}
use Rattle.dkg_infos.specs.declared.entry.Restored.{Restored}
use Rattle.dkg_infos.specs.declared.fault.Fault as fault
use Rattle.dkg_infos.specs.declared.fault.Fault.TheVariants.{NoMemory}
use Rattle.dkg_text.specs.declared.script.Cut as cut
use Rattle.dkg_text.specs.declared.script.Life.{Life}
use Rattle.dkg_text.specs.declared.script.Script.{Script}
use Rattle.dkg_core.specs.Laws.{IsQuiet}
use Rattle.dkg_script.specs.Ends.{EndsWell}
use Rattle.dkg_script.specs.Order.{IsInOrder, is_opened}
use Rattle.dkg_script.specs.Progress.{Progress, read}
use Rattle.dkg_script.specs.Setting.{Setting, life_at}
use Rattle.dkg_life.specs.declared.stop.Stop.{Stop}
use Rattle.dkg_life.specs.declared.stop.Stop.TheVariants.{Cut as AtCut, Failed, Fault as Faulted}

-- ENTRIES WITHIN A STEP

-- (a quiet entry is one of which a step may have any number)
pub record AddsQuiet (old new : List Entry) : Type 0 where
  pub added : List Entry
  pub parts : new ≡ old ++ added
  pub quiet : AllByRecursion IsQuiet added

-- the opening of a life, and what it writes behind its entry
pub record AddsOpening (life : ℕ) (old new : List Entry) : Type 0 where
  pub restored : List Restored
  pub more : List Entry
  pub parts : new ≡ old ++ Opened life restored ∷ more
  pub quiet : AllByRecursion IsQuiet more

-- FAULTS

-- The fault that ended a run is answered, and is the one entry that was added; or memory ran out, and nothing was added.
abbrev pub TellsFault : (its answered : fault.Fault) → List Entry → List Entry → Type 0
TellsFault its answered old new =
    ((answered ≡ NoMemory) × (new ≡ old)) ⊎ ((answered ≡ its) × (its ≢ NoMemory) × (new ≡ old ++ Fault its ∷ []))

-- where a fault may be told, if it is one that is told
abbrev pub MayTell : fault.Fault → Setting → Progress → Type 0
MayTell its s p = (its ≡ NoMemory) ⊎ IsInOrder s p (Fault its)

-- CUTS

-- The life ends before the step.
abbrev pub IsCutBefore : Option cut.Cut → ℕ → Type 0
IsCutBefore its step = IsSomeAnd its (λ cut. (cut.step ≡ step) × (cut.call ≡ 0))

-- .. or within it
abbrev pub IsCutWithin : Option cut.Cut → ℕ → Type 0
IsCutWithin its step = IsSomeAnd its (λ cut. (cut.step ≡ step) × (cut.call ≢ 0))

-- WHERE A RUN STANDS

-- so many lives have ended, and nothing of the next was written
pub record IsBetween (ended : ℕ) (s : Setting) (p : Progress) : Type 0 where
  pub lives : length p.cuts ≡ ended
  pub step : p.step ≡ 0
  pub nothing : p.written ≡ []

-- the same, of this script
pub record IsBetweenOf (script : Script) (ended : ℕ) (s : Setting) (p : Progress) : Type 0 where
  pub of_script : s.script ≡ script
  pub between : IsBetween ended s p

-- before a step of a life that was not cut before an earlier one
pub record IsBefore (life : Life) (l j : ℕ) (s : Setting) (p : Progress) : Type 0 where
  pub life_is : life_at s l ≡ Some life
  pub lives : length p.cuts ≡ l
  pub step : p.step ≡ j
  pub nothing : p.written ≡ []
  pub reached : IfSome life.cut (λ cut. cut.call ≡ 0 → j ≤ cut.step)

-- in a step that began, with or without the life's Opened entry
pub record IsWithin (life : Life) (l j : ℕ) (opened : Bool) (s : Setting) (p : Progress) : Type 0 where
  pub life_is : life_at s l ≡ Some life
  pub lives : length p.cuts ≡ l
  pub step : p.step ≡ j
  pub begins : IfSome life.cut (λ cut. cut.call ≡ 0 → j < cut.step)
  pub opened_is : list_any is_opened p.written ≡ opened

-- where the script cuts the life
pub record IsAtCut (life : Life) (l : ℕ) (s : Setting) (p : Progress) : Type 0 where
  pub its : cut.Cut
  pub its_is : life.cut ≡ Some its
  pub life_is : life_at s l ≡ Some life
  pub lives : length p.cuts ≡ l
  pub step : p.step ≡ its.step
  pub nothing : its.call ≡ 0 → p.written ≡ []

-- behind a step: before the next, or at the life's end
pub record IsBehind (life : Life) (l j : ℕ) (s : Setting) (p : Progress) : Type 0 where
  pub next : j < length life.events → IsBefore life l (j + 1) s p
  pub last : j ≡ length life.events → IsBetween (l + 1) s p

-- where a life stops before its end: at its cut, or where its fault may be told
abbrev pub IsStopped : Life → ℕ → Stop → Setting → Progress → Type 0
IsStopped life l AtCut s p = IsAtCut life l s p
IsStopped life l (Faulted its) s p = MayTell its s p
IsStopped life l Failed s p = Unit {0}

-- WHAT ENTRIES MAKE OF IT

-- E of each of these entries, over the progress before it
abbrev pub Each : Setting → (Progress → Entry → Type 0) → Progress → List Entry → Type 0
Each s E p [] = Unit {0}
Each s E p (entry ∷ entries) = E p entry × Each s E (read s p entry) entries

-- The entries that are added, none of which is a fault, lead from where P holds to where Q does, and have E on the way.
pub record Moves (E : Setting → Progress → Entry → Type 0) (P Q : Setting → Progress → Type 0) (old new : List Entry) : Type 0 where
  pub added : List Entry
  pub parts : new ≡ old ++ added
  pub each : (s : Setting) (p : Progress) → P s p → Each s (E s) p added
  pub to : (s : Setting) (p : Progress) → P s p → Q s (fold (read s) p added)
  pub no_fault : EndsWell added
