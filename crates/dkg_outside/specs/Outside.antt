-- What reads of a source take, and what writes to a sink leave there.
use Rattle.std.specs.Prelude.{◌≡◌, ◌<◌, ◌≤◌, ◌++◌, ℕ, List, [], length, take}

-- these bytes were taken from the front of what was left
pub record TookFront (bytes old new : List ℕ) : Type 0 where
  pub parts : old ≡ bytes ++ new

-- The n bytes that now stand in front of the piece were taken. None, for a piece that has room, is the end.
pub record TookPiece (n : ℕ) (piece old new : List ℕ) : Type 0 where
  pub parts : old ≡ take n piece ++ new
  pub end : n ≡ 0 → 0 < length piece → old ≡ []

-- these bytes, all that was left, were taken
pub record TookAll (bytes old new : List ℕ) : Type 0 where
  pub all : old ≡ bytes
  pub none : new ≡ []

-- more than this many bytes were taken
pub record TookMore (most : ℕ) (old new : List ℕ) : Type 0 where
  pub bytes : List ℕ
  pub parts : old ≡ bytes ++ new
  pub more : most < length bytes

-- what was held, and behind it a front of these bytes
pub record HoldsFront (bytes old new : List ℕ) : Type 0 where
  pub front : List ℕ
  pub rest : List ℕ
  pub parts : bytes ≡ front ++ rest
  pub held : new ≡ old ++ front

-- at most this many bytes were taken
pub record TookFew (most : ℕ) (old new : List ℕ) : Type 0 where
  pub bytes : List ℕ
  pub parts : old ≡ bytes ++ new
  pub in_bound : length bytes ≤ most

-- a front of these bytes stands behind what was held, and the others are the rest
pub record Rest (bytes rest old new : List ℕ) : Type 0 where
  pub front : List ℕ
  pub parts : bytes ≡ front ++ rest
  pub held : new ≡ old ++ front
