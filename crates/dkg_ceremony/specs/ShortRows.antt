-- Up to six numbers and zeros behind them.
use Rattle.std.proofs.Common.{◌≡◌, ℕ, ◌≤◌, List, [], ◌∷◌, length, take, refl, arith}
use Rattle.std.specs.Prelude.{slice_index}

-- The first of six numbers, as many as a list has, are the list.
pub six : (xs : List ℕ) → length xs ≤ 6 → take (length xs) (slice_index xs 0 ∷ slice_index xs 1 ∷ slice_index xs 2 ∷ slice_index xs 3 ∷ slice_index xs 4 ∷ slice_index xs 5 ∷ []) ≡ xs
six [] le = refl
six (a ∷ []) le = refl
six (a ∷ b ∷ []) le = refl
six (a ∷ b ∷ c ∷ []) le = refl
six (a ∷ b ∷ c ∷ d ∷ []) le = refl
six (a ∷ b ∷ c ∷ d ∷ e ∷ []) le = refl
six (a ∷ b ∷ c ∷ d ∷ e ∷ f ∷ []) le = refl
six (a ∷ b ∷ c ∷ d ∷ e ∷ f ∷ g ∷ rest) le = absurd (omega arith)
