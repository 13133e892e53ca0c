-- A request, as contracts see it.
use Rattle.std.specs.Prelude.{ℕ, Bool, List, [], ◌∷◌, ◌++◌, ◌==◌, ◌&&◌, not, true, if◌then◌else◌}
use Rattle.dkg_types.specs.Blocks.{Block}

-- its number, the blocks that it was fed, and whether the ancestry has ended
pub record WaitingRequest (Dir : Type 0) : Type 0 where
  pub number : ℕ
  pub blocks : List (Block Dir)
  pub ended : Bool

-- the request, where it is of this number, with one block more of its ancestry, unless that has ended
abbrev pub fed_for : {Dir : Type 0} → (number : ℕ) → Block Dir → WaitingRequest Dir → WaitingRequest Dir
fed_for number b r = if (r.number == number) && not r.ended then record r { blocks = r.blocks ++ b ∷ [] } else r

-- .. with its ancestry ended
abbrev pub ended_for : {Dir : Type 0} → (number : ℕ) → WaitingRequest Dir → WaitingRequest Dir
ended_for number r = if r.number == number then record r { ended = true } else r

abbrev pub is_other : {Dir : Type 0} → (number : ℕ) → WaitingRequest Dir → Bool
is_other number r = not (r.number == number)
