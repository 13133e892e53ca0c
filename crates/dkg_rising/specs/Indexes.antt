-- Where a number stands among entries whose numbers rise, or would go.
use Rattle.std.specs.Prelude.{◌≡◌, ℕ, ◌<◌, ◌≤◌, List, length, slice_index}
use Rattle.std.specs.Map.{keys_of}

-- the entry at an index has the number
pub record IsAt {X : Type 0} (number : ℕ) (entries : List (ℕ × X)) (index : ℕ) : Type 0 where
  pub in_range : index < length entries
  pub has_number : slice_index (keys_of entries) index ≡ number

-- the number would go to an index: smaller numbers stand before it, and greater ones from there on
pub record IsGap {X : Type 0} (number : ℕ) (entries : List (ℕ × X)) (index : ℕ) : Type 0 where
  pub in_range : index ≤ length entries
  pub smaller : (k : ℕ) → k < index → slice_index (keys_of entries) k < number
  pub greater : (k : ℕ) → index ≤ k → k < length entries → number < slice_index (keys_of entries) k
