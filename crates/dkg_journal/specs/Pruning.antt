-- What a prune leaves of a journal's files.
use Rattle.std.specs.Prelude.{◌≡◌, ◌<◌, ◌≤◌, ℕ, nat_lt, List, filter, Bool, false, None, Result, OnOk}
use Rattle.std.specs.FinMap.{get}
use Rattle.dkg_journal.specs.Disk.{ImagesFollow}
use Rattle.dkg_journal.specs.Names.{Files}
use Rattle.dkg_journal.specs.Opening.{removes}
use Rattle.dkg_journal.specs.Records.{entries, from_section}
use Rattle.dkg_values.specs.declared.name.Name.{Name}
use Rattle.dkg_values.specs.declared.name.Name.TheVariants.{Segment}
use Rattle.dkg_journal.specs.declared.disk.Op.{Op}

-- a segment of a section below a minimum
abbrev pub is_below : ℕ → Name → Bool
is_below min (Segment section) = nat_lt section min
is_below min _ = false

-- the changing calls of a prune, of the names that are there: one for each segment below the minimum, rising
abbrev pub prune_calls : ℕ → List Name → List Op
prune_calls min names = removes (filter (is_below min) names)

-- The segments below a minimum are gone, and the other files are the same. So the entries of sections at or above it stay.
pub record LeavesAbove (min : ℕ) (old new : Files) : Type 0 where
  pub others : (q : Name) → is_below min q ≡ false → get new q ≡ get old q
  pub gone : (section : ℕ) → section < min → get new (Segment section) ≡ None
  pub left : entries new ≡ from_section min (entries old)

-- .. up to a minimum at or below this one: the least sections go first
pub record MayLeave (min : ℕ) (old new : Files) : Type 0 where
  pub least : ℕ
  pub low : least ≤ min
  pub leaves : LeavesAbove least old new

-- A prune that gave this answer: each image is so, and at Ok the minimum is this one.
pub record Thins {T E : Type 0} (min : ℕ) (result : Result T E) (old new : Files → Type 0) : Type 0 where
  pub may : ImagesFollow (MayLeave min) old new
  pub left : OnOk result (ImagesFollow (LeavesAbove min) old new)
