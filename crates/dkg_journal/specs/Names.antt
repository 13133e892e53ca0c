-- The names of files, in their order, and files by name.
use Rattle.std.specs.Prelude.{◌≡◌, ℕ, zero, suc, List, refl}
use Rattle.std.specs.Ordering.{nat_cmp}
use Rattle.std.specs.declared.cmp.Ordering.{Ordering}
use Rattle.std.specs.Coded.{Coded, code_by, coded_ℕ}
use Rattle.std.specs.FinMap.{FinMap}
use Rattle.dkg_values.specs.declared.name.Name.{Name}
use Rattle.dkg_values.specs.declared.name.Name.TheVariants.{Plan, Flat, Segment}

-- where a name stands in the order: the plan, the flat file, the segments rising
abbrev pub name_number : Name → ℕ
name_number Plan = 0
name_number Flat = 1
name_number (Segment section) = suc (suc section)

abbrev pub name_cmp : Name → Name → Ordering
name_cmp a b = nat_cmp (name_number a) (name_number b)

abbrev pub name_at : ℕ → Name
name_at zero = Plan
name_at (suc zero) = Flat
name_at (suc (suc n)) = Segment n

pub name_at-name_number : (name : Name) → name_at (name_number name) ≡ name
name_at-name_number Plan = refl
name_at-name_number Flat = refl
name_at-name_number (Segment section) = refl

abbrev pub coded_name : Coded Name
coded_name = code_by ℕ coded_ℕ name_number name_at name_at-name_number

-- the bytes of each file that is there
abbrev pub Files : Type 0
Files = FinMap name_cmp (List ℕ)
