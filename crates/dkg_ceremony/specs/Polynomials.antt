-- Polynomials modulo the prime, as lists of their coefficients from the constant one on.
use Rattle.std.specs.Prelude.{◌≡◌, ℕ, zero, suc, ◌+◌, ◌*◌, ◌%◌, ◌<◌, List, [], ◌∷◌, length, slice_index}

abbrev pub prime : ℕ
prime = 65521

-- the value of a polynomial
unfoldable pub value_at : List ℕ → ℕ → ℕ
value_at [] x = 0
value_at (c ∷ cs) x = (c + x * value_at cs x) % prime

-- a power of a point, modulo the prime but for the first, which is 1
unfoldable pub power : ℕ → ℕ → ℕ
power x zero = 1
power x (suc k) = (power x k * x) % prime

-- its powers from the first to the eighth
abbrev pub eight_powers : ℕ → List ℕ
eight_powers x = power x 1 ∷ power x 2 ∷ power x 3 ∷ power x 4 ∷ power x 5 ∷ power x 6 ∷ power x 7 ∷ power x 8 ∷ []

-- a polynomial's values at the points of so many indices
abbrev pub AreValues : List ℕ → List ℕ → ℕ → Type 0
AreValues values poly count = record {
  long : length values ≡ count;
  each : (i : ℕ) → i < count → slice_index values i ≡ value_at poly (i + 1);
}

-- a polynomial that has another one's value at each point with this 240th power
abbrev pub IsRemainder : List ℕ → List ℕ → ℕ → Type 0
IsRemainder remainder poly y = (x : ℕ) → power x 240 ≡ y → value_at remainder x ≡ value_at poly x
