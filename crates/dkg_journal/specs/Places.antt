-- The places of closed gates by section, as a journal knows them.
use Rattle.std.specs.Prelude.{ℕ, nat_lt, List, [], ◌∷◌, filter, flat_map, Option, Some, None, Bool, is_some}
use Rattle.std.specs.Ordering.{nat_cmp}
use Rattle.std.specs.FinMap.{FinMap, get, entries}
use Rattle.dkg_values.specs.declared.name.Name.TheVariants.{Segment}
use Rattle.dkg_journal.specs.declared.disk.Op.{Op}
use Rattle.dkg_journal.specs.declared.disk.Op.TheVariants.{Remove}

-- A section has a place where it has a file. One that has none may have room for a place.
abbrev pub Places : Type 0
Places = FinMap nat_cmp (Option ℕ)

abbrev pub flat_place : Option (Option ℕ) → Option ℕ
flat_place None = None
flat_place (Some place) = place

abbrev pub place_at : Places → ℕ → Option ℕ
place_at places section = flat_place (get places section)

abbrev pub has_room : Places → ℕ → Bool
has_room places section = is_some (get places section)

-- the call that takes away a section's file, where it has one
abbrev pub remove_of : ℕ × Option ℕ → List Op
remove_of (section, None) = []
remove_of (section, Some place) = Remove (Segment section) ∷ []

abbrev pub removes_below : ℕ → Places → List Op
removes_below min places = flat_map remove_of (filter (λ e. nat_lt e.0 min) (entries places))
