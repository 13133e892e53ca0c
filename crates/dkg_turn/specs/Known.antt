-- What contracts see of a lock and of a pass.
use Rattle.std.specs.Prelude.{◌≡◌, ℕ, ◌+◌, ◌^◌, Bool, List, Option}
use Rattle.atomic_table.specs.Seated.{TableId}
use Rattle.dkg_turn.specs.declared.turn.HistoryEntry.{HistoryEntry}

-- which lock it is, and the value that it began with
pub record Lock (T : Type 0) : Type 0 where
  pub id : TableId
  pub start : T

-- what a pass knows
pub record Known (T C R : Type 0) : Type 0 where
  -- which lock it is a pass of, and the value that the lock began with
  pub lock : TableId
  pub start : Option T
  -- the caller's number of its calls
  pub number : ℕ
  -- the numbers under which its calls, and those of the passes that were joined to it, stand in the history
  pub numbers : List ℕ
  -- the history as far as it was seen
  pub seen : List (HistoryEntry C R)
  -- the turns of all tickets below were passed on
  pub next : ℕ
  -- how many tickets were drawn
  pub drew : ℕ
  -- of the lock's 2 ^ 64 parts
  pub parts : ℕ
  -- it was told that no ticket is left
  pub exhausted : Bool

-- Of the tickets drawn, a pass that drew so many and has so many parts drew its own, and others the rest. Where it has all parts there are no others
abbrev pub AreDrawn : ℕ → ℕ → ℕ → Type 0
AreDrawn tickets drew parts = (others : ℕ) × (drew + others ≡ tickets) × (parts ≡ 2 ^ 64 → others ≡ 0)
