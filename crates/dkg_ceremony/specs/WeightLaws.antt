-- How a power is reached by squares, and weights by points.
use Rattle.std.proofs.Common.{◌≡◌, ℕ, suc, ◌*◌, ◌/◌, ◌%◌, ◌^◌, ◌<◌, List, [], ◌∷◌, map, Some, refl, sym, ap, ◌∙◌, arith}
use Rattle.std.proofs.Math.Nat.{mul_assoc, mul_comm, one-mul, mul-one, pow-succ', pow-zero, mod-eq_of_lt}
use Rattle.std.proofs.lemmas.Nat.{mul-mod_second, mul-pow, pow-add, pow-mod}
use Rattle.dkg_ceremony.specs.Polynomials.{prime}
use Rattle.dkg_ceremony.specs.declared.output.Output.{Output}
use Rattle.dkg_ceremony.specs.Weights.{inverse_of, point_in, weight_at, weights_of}

pub square : (a k : ℕ) → (a * a) ^ k ≡ a ^ (2 * k)
square a k = mul-pow a a k ∙ sym (pow-add a k k) ∙ ap (λ (n : ℕ). a ^ n) (omega arith)

-- a factor that is a power of a square
by_square : (r b k : ℕ) → (r * (b * b % prime) ^ k) % prime ≡ (r * b ^ (2 * k)) % prime
by_square r b k =
    sym (mul-mod_second r ((b * b % prime) ^ k) prime) ∙ ap (λ (x : ℕ). (r * x) % prime) (pow-mod (b * b) k prime) ∙ mul-mod_second r ((b * b) ^ k) prime ∙ ap (λ (x : ℕ). (r * x) % prime) (square b k)

first_rest : (a y : ℕ) → (a % prime * y) % prime ≡ (a * y) % prime
first_rest a y = ap (λ (x : ℕ). x % prime) (mul_comm (a % prime) y) ∙ mul-mod_second y a prime ∙ ap (λ (x : ℕ). x % prime) (mul_comm y a)

-- a turn at an even exponent
pub even_turn : (r b e : ℕ) → e % 2 ≡ 0 → (r * (b * b % prime) ^ (e / 2)) % prime ≡ (r * b ^ e) % prime
even_turn r b e even = by_square r b (e / 2) ∙ ap (λ (n : ℕ). (r * b ^ n) % prime) (omega (arith, even))

-- a turn at an odd one
pub odd_turn : (r b e : ℕ) → e % 2 ≡ 1 → (r * b % prime * (b * b % prime) ^ (e / 2)) % prime ≡ (r * b ^ e) % prime
odd_turn r b e odd =
    let half = e / 2 in
    let whole : suc (2 * (e / 2)) ≡ e = omega (arith, odd) in
    let grouped : r * b * b ^ (2 * (e / 2)) ≡ r * b ^ e = mul_assoc r b (b ^ (2 * (e / 2))) ∙ ap (λ (x : ℕ). r * x) (sym (pow-succ' b (2 * (e / 2)))) ∙ ap (λ (n : ℕ). r * b ^ n) whole in
    by_square (r * b % prime) b (e / 2) ∙ first_rest (r * b) (b ^ (2 * (e / 2))) ∙ ap (λ (x : ℕ). x % prime) grouped

pub inverse_at_start : (x : ℕ) → (1 * (x % prime) ^ 65519) % prime ≡ inverse_of x
unfolding inverse_of
inverse_at_start x = ap (λ (y : ℕ). y % prime) (one-mul ((x % prime) ^ 65519)) ∙ pow-mod x 65519 prime

pub at_end : (r b : ℕ) → r < prime → (r * b ^ 0) % prime ≡ r
at_end r b lt = ap (λ (y : ℕ). r * y % prime) (pow-zero b) ∙ ap (λ (y : ℕ). y % prime) (mul-one r) ∙ mod-eq_of_lt lt

map_twice : (f g : ℕ → ℕ) (xs : List ℕ) → map f (map g xs) ≡ map (λ x. f (g x)) xs
map_twice f g [] = refl
map_twice f g (x ∷ xs) = ap (λ (ys : List ℕ). f (g x) ∷ ys) (map_twice f g xs)

pub weights_are : (o : Output) (selected points weights : List ℕ) → points ≡ map (point_in o.players) selected → weights ≡ map (weight_at points) points → weights ≡ weights_of (Some o) selected
weights_are o selected points weights at is =
    is ∙ ap (λ (ps : List ℕ). map (weight_at ps) ps) at ∙ map_twice (weight_at (map (point_in o.players) selected)) (point_in o.players) selected
