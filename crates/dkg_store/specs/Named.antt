-- Which names of files a call leaves.
use Rattle.std.specs.Prelude.{◌≡◌, ◌⊎◌, ◌≤◌, ℕ, Bool, not, filter, if◌then◌else◌}
use Rattle.std.specs.FinMap.{get, keys}
use Rattle.dkg_values.specs.declared.name.Name.TheVariants.{Plan, Segment}
use Rattle.dkg_journal.specs.Names.{Files}
use Rattle.dkg_journal.specs.Operations.{opened_names, with_name}
use Rattle.dkg_journal.specs.Pruning.{is_below}
use Rattle.dkg_journal.specs.Records.{entries}

-- the plan is as it was
abbrev pub SamePlan : Files → Files → Type 0
SamePlan old new = get new Plan ≡ get old Plan

-- Where a section's file was made, its name is there, and else just the names from before. All other names are there as they were.
pub record Named (made : Bool) (section : ℕ) (old new : Files) : Type 0 where
  pub names : keys new ≡ (if made then with_name (Segment section) (keys old) else keys old)

-- .. or it was not made
pub record MayBeNamed (section : ℕ) (old new : Files) : Type 0 where
  pub either : (keys new ≡ keys old) ⊎ (keys new ≡ with_name (Segment section) (keys old))

-- The names of segments below a minimum are gone, up to one at or below this.
pub record NamesPruned (min : ℕ) (old new : Files) : Type 0 where
  pub least : ℕ
  pub low : least ≤ min
  pub names : keys new ≡ filter (λ n. not (is_below least n)) (keys old)

-- after an opening
pub record NamesOpened (old new : Files) : Type 0 where
  pub names : keys new ≡ opened_names (entries old) (keys old)
