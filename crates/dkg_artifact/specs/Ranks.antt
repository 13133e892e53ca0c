-- Where requests wait: the requests by rank, and the ranks by number.
use Rattle.std.specs.Prelude.{ℕ, Bool, Option, Some, None, List, ◌≡◌, ◌<◌, ◌≤◌, ◌==◌, false, true, if◌then◌else◌, map}
use Rattle.std.specs.BTreeMap.{BTreeMap, IsOrdered, get, keys}
use Rattle.std.specs.BTreeSet.{BTreeSet, contains}
use Rattle.std.specs.List.{AllByRecursion}
use Rattle.std.specs.Ordering.{nat_cmp, ordering_then}
use Rattle.std.specs.declared.cmp.Ordering.{Ordering}
use Rattle.std.specs.declared.cmp.Reverse.{Reverse}
use Rattle.dkg_artifact.specs.Requested.{WaitingRequest}

-- a number with a rank
abbrev pub numbered_rank : (number rank : ℕ) → Reverse ℕ × ℕ
numbered_rank number rank = (record { 0 = number }, rank)

-- the greatest number first, then by rank
abbrev pub pair_cmp : Reverse ℕ × ℕ → Reverse ℕ × ℕ → Ordering
pair_cmp a b = ordering_then (nat_cmp b.0.0 a.0.0) (nat_cmp a.1 b.1)

-- whether a number has this rank
abbrev pub is_rank_of : BTreeSet (Reverse ℕ × ℕ) → (number rank : ℕ) → Bool
is_rank_of numbers number rank = contains pair_cmp numbers (numbered_rank number rank)

-- Among the ranks of a number, this is the first that isn't before `from`.
abbrev pub IsNextRank : BTreeSet (Reverse ℕ × ℕ) → (number from : ℕ) → Option ℕ → Type 0
IsNextRank numbers number from None = (rank : ℕ) → from ≤ rank → is_rank_of numbers number rank ≡ false
IsNextRank numbers number from (Some next) = (from ≤ next) × (is_rank_of numbers number next ≡ true) × ((rank : ℕ) → from ≤ rank → rank < next → is_rank_of numbers number rank ≡ false)

module _ {Dir : Type 0} where
  -- whether a request is there, and of this number
  abbrev pub is_of : (number : ℕ) → Option (WaitingRequest Dir) → Bool
  is_of number None = false
  is_of number (Some r) = r.number == number

  -- The ranks are in order, and a number has exactly those at which a request of it waits.
  abbrev pub AreKnown : BTreeSet (Reverse ℕ × ℕ) → BTreeMap ℕ (WaitingRequest Dir) → Type 0
  AreKnown numbers waiting = IsOrdered nat_cmp waiting × ((number rank : ℕ) → is_rank_of numbers number rank ≡ is_of number (get nat_cmp waiting rank))

  -- At each rank the same number waits.
  abbrev pub KeepsNumbers : BTreeMap ℕ (WaitingRequest Dir) → BTreeMap ℕ (WaitingRequest Dir) → Type 0
  KeepsNumbers old new = (number rank : ℕ) → is_of number (get nat_cmp new rank) ≡ is_of number (get nat_cmp old rank)

  -- All wait below this rank.
  abbrev pub IsAbove : (rank : ℕ) → BTreeMap ℕ (WaitingRequest Dir) → Type 0
  IsAbove rank waiting = AllByRecursion (λ other. other < rank) (keys waiting)

  -- .. above it
  abbrev pub IsBelow : (rank : ℕ) → BTreeMap ℕ (WaitingRequest Dir) → Type 0
  IsBelow rank waiting = AllByRecursion (λ other. rank < other) (keys waiting)

  -- the requests by rank, with a change of the one at this rank
  abbrev pub changed_at : (rank : ℕ) → (WaitingRequest Dir → WaitingRequest Dir) → List (ℕ × WaitingRequest Dir) → List (ℕ × WaitingRequest Dir)
  changed_at rank f es = map (λ e. (e.0, if e.0 == rank then f e.1 else e.1)) es
