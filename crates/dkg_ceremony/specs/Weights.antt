-- By how much each dealer's polynomial counts in an outcome.
use Rattle.std.specs.Prelude.{ℕ, ◌+◌, ◌-◌, ◌*◌, ◌%◌, ◌^◌, ◌==◌, List, map, Option, Some, None, if◌then◌else◌}
use Rattle.std.specs.List.{fold}
use Rattle.std.specs.Option.{option_map_or}
use Rattle.dkg_values.specs.Rising.{index_of}
use Rattle.dkg_ceremony.specs.declared.output.Output.{Output}
use Rattle.dkg_ceremony.specs.Polynomials.{prime}

-- The inverse modulo the prime, by Fermat: a number to the power of the prime less 2.
unfoldable pub inverse_of : ℕ → ℕ
inverse_of x = x ^ 65519 % prime

-- the point of a key among keys: its index and one, and 0 where it is none of them
abbrev pub point_in : List ℕ → ℕ → ℕ
point_in keys key = option_map_or (λ index. index + 1) (index_of key keys) 0

-- one number less another, modulo the prime
abbrev pub less : ℕ → ℕ → ℕ
less y x = (y + (prime - x % prime)) % prime

-- the product of the other points
abbrev pub top_of : List ℕ → ℕ → ℕ
top_of points x = fold (λ product y. if y == x then product else product * y % prime) 1 points

-- the product of what the other points have more than this one
abbrev pub bottom_of : List ℕ → ℕ → ℕ
bottom_of points x = fold (λ product y. if y == x then product else product * less y x % prime) 1 points

-- The weight of a point in the value at zero: the product of y / (y - x) over the other points y.
unfoldable pub weight_at : List ℕ → ℕ → ℕ
weight_at points x = top_of points x * inverse_of (bottom_of points x) % prime

-- By how much a dealer's polynomial counts: a new key is the plain sum, and one that is dealt again is interpolated
-- from the dealers' points of before.
abbrev pub weight_of : Option Output → List ℕ → (dealer : ℕ) → ℕ
weight_of None chosen dealer = 1
weight_of (Some o) chosen dealer = weight_at (map (point_in o.players) chosen) (point_in o.players dealer)

abbrev pub weights_of : Option Output → List ℕ → List ℕ
weights_of previous chosen = map (weight_of previous chosen) chosen
