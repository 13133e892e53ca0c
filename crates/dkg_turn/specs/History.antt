-- Histories of calls, and their run.
use Rattle.std.specs.Prelude.{◌≡◌, ℕ, ◌+◌, ◌==◌, ◌||◌, ◌<◌, ◌≤◌, Bool, true, false, List, [], ◌∷◌, ◌++◌, Option, Some, None}
use Rattle.dkg_turn.specs.declared.turn.HistoryEntry.{HistoryEntry}

-- the number is among these
abbrev pub contains_number : List ℕ → ℕ → Bool
contains_number [] n = false
contains_number (m ∷ ms) n = (m == n) || contains_number ms n

module _ {C R : Type 0} where
  abbrev pub put_if : Bool → HistoryEntry C R → List (HistoryEntry C R) → List (HistoryEntry C R)
  put_if true e es = e ∷ es
  put_if false e es = es

  -- the calls of these callers, in order
  abbrev pub calls_of : List ℕ → List (HistoryEntry C R) → List (HistoryEntry C R)
  calls_of ns [] = []
  calls_of ns (e ∷ es) = put_if (contains_number ns e.caller) e (calls_of ns es)

  -- the log begins with what was seen, and after that has no call of these callers
  abbrev pub HasSeen : List ℕ → List (HistoryEntry C R) → List (HistoryEntry C R) → Type 0
  HasSeen numbers seen log = (rest : List (HistoryEntry C R)) × (log ≡ seen ++ rest) × (calls_of numbers rest ≡ [])

  -- it has no call of a caller whose number is above this ticket
  abbrev pub HasNoneAbove : ℕ → List (HistoryEntry C R) → Type 0
  HasNoneAbove ticket log = (n : ℕ) → ticket < n → calls_of (n ∷ []) log ≡ []

  -- tickets rise along the history, from this one on, and stay below the limit
  abbrev pub IsStamped : ℕ → ℕ → List (HistoryEntry C R) → Type 0
  IsStamped from limit [] = from ≤ limit
  IsStamped from limit (e ∷ es) = (from ≤ e.ticket) × IsStamped (e.ticket + 1) limit es

  -- of two beginnings of one history, the longer
  abbrev pub longer : List (HistoryEntry C R) → List (HistoryEntry C R) → List (HistoryEntry C R)
  longer [] ys = ys
  longer (x ∷ xs) [] = x ∷ xs
  longer (x ∷ xs) (y ∷ ys) = x ∷ longer xs ys

  -- the history leads from the first value to the last, each reply being one that a turn gives there
  abbrev pub IsRunOfTurns : {T : Type 0} → (T → C → R → T → Type 0) → T → List (HistoryEntry C R) → T → Type 0
  IsRunOfTurns {T} turns first [] last = first ≡ last
  IsRunOfTurns {T} turns first (e ∷ es) last = (next : T) × turns first e.call e.reply next × IsRunOfTurns turns next es last

  -- the same from a value that may be unknown
  abbrev pub RunOf : {T : Type 0} → (T → C → R → T → Type 0) → Option T → List (HistoryEntry C R) → T → Type 0
  RunOf turns (Some first) es last = IsRunOfTurns turns first es last
  RunOf turns None es last = ⊥
