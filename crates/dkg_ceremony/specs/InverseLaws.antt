-- An inverse is one, of every number that isn't a multiple of the prime: the number to the power of the prime less 1 is 1.
--
-- For a number above 256 the prime is q times the number and r more, q and r below it. So their powers make its own, since the
-- exponent is even. Of the first 256 numbers it is computed.
use Rattle.std.proofs.Common.{◌≡◌, ℕ, zero, suc, ◌+◌, ◌*◌, ◌/◌, ◌%◌, ◌^◌, ◌<◌, ◌≤◌, Bool, true, false, inl, inr, refl, sym, ap, ◌∙◌, arith}
use Rattle.std.specs.Prelude.{◌⊎◌, ◌==◌, ◌&&◌, ◌||◌, nat_le, not}
use Rattle.std.proofs.Math.Nat.{mul_comm, add-mul, one-mul, mul-one, zero-mul, mul-zero, mod-lt, pow-succ', pow-zero, mod-eq_of_lt}
use Rattle.std.proofs.lemmas.Bool.{and_parts, cases_Bool, eqb-true}
use Rattle.std.proofs.lemmas.Bool.Decides.{nat_tests}
use Rattle.std.proofs.lemmas.Nat.{div-add-mod', mod-mul-add, mul-le, mul-mod_second, mul-pow, pow-add, pow-mod}
use Rattle.dkg_ceremony.specs.Polynomials.{prime}
use Rattle.dkg_ceremony.specs.Weights.{inverse_of}
use Rattle.dkg_ceremony.specs.WeightLaws.{square}

-- half of the prime less 1
unfoldable pub half : ℕ
half = 32760

-- ---- powers of powers

add-zero : (n : ℕ) → n ≡ n + 0
add-zero n = omega arith

suc_times : (a b : ℕ) → a + a * b ≡ a * suc b
suc_times a b = omega (arith, mul_comm a (suc b), mul_comm a b, add-mul b 1 a, one-mul a)

pow_pow : (x a b : ℕ) → (x ^ a) ^ b ≡ x ^ (a * b)
pow_pow x a zero = pow-zero (x ^ a) ∙ sym (pow-zero x) ∙ ap (λ (n : ℕ). x ^ n) (sym (mul-zero a))
pow_pow x a (suc b) =
    pow-succ' (x ^ a) b ∙ ap (λ (n : ℕ). x ^ a * n) (pow_pow x a b) ∙ sym (pow-add x a (a * b)) ∙ ap (λ (n : ℕ). x ^ n) (suc_times a b)

-- a power that is reached by three
by_three : (x a b c m : ℕ) → ((x ^ a % m) ^ b % m) ^ c % m ≡ x ^ (a * b * c) % m
by_three x a b c m =
    ap (λ (n : ℕ). n ^ c % m) (pow-mod (x ^ a) b m ∙ ap (λ (n : ℕ). n % m) (pow_pow x a b)) ∙ pow-mod (x ^ (a * b)) c m ∙ ap (λ (n : ℕ). n % m) (pow_pow x (a * b) c)

-- ---- what is left, and what it is less than the prime, have one square

squares : (s r : ℕ) → s + r ≡ prime → s * s % prime ≡ r * r % prime
squares s r e =
    let at_s : s * s + r * s ≡ prime * s = sym (add-mul s r s) ∙ ap (λ (n : ℕ). n * s) e in
    let at_r : s * r + r * r ≡ prime * r = sym (add-mul s r r) ∙ ap (λ (n : ℕ). n * r) e in
    omega (arith, at_s, at_r, mul_comm s r)

same_powers : (s r k : ℕ) → s + r ≡ prime → s ^ (2 * k) % prime ≡ r ^ (2 * k) % prime
same_powers s r k e =
    ap (λ (n : ℕ). n % prime) (sym (square s k)) ∙ sym (pow-mod (s * s) k prime) ∙ ap (λ (n : ℕ). n ^ k % prime) (squares s r e) ∙ pow-mod (r * r) k prime ∙ ap (λ (n : ℕ). n % prime) (square r k)

one_of_two : (a b : ℕ) → a < prime → b % prime ≡ 1 → a * b % prime ≡ 1 → a ≡ 1
one_of_two a b lt is e = sym (mod-eq_of_lt lt) ∙ ap (λ (n : ℕ). n % prime) (sym (mul-one a)) ∙ ap (λ (n : ℕ). a * n % prime) (sym is) ∙ mul-mod_second a b prime ∙ e

below : (n : ℕ) → n % prime < prime
below n = omega arith

-- the powers of q and r make that of x
turn : (x q r k : ℕ) → q * x + r ≡ prime → q ^ (2 * k) % prime ≡ 1 → r ^ (2 * k) % prime ≡ 1 → x ^ (2 * k) % prime ≡ 1
turn x q r k parts of_q of_r =
    let e = 2 * k in
    let both : x ^ e * q ^ e % prime ≡ 1 = ap (λ (n : ℕ). n % prime) (sym (mul-pow x q e)) ∙ ap (λ (n : ℕ). n ^ e % prime) (mul_comm x q) ∙ same_powers (q * x) r k parts ∙ of_r in
    let first : x ^ e % prime * q ^ e % prime ≡ 1 = ap (λ (n : ℕ). n % prime) (mul_comm (x ^ e % prime) (q ^ e)) ∙ mul-mod_second (q ^ e) (x ^ e) prime ∙ ap (λ (n : ℕ). n % prime) (mul_comm (q ^ e) (x ^ e)) ∙ both in
    one_of_two (x ^ e % prime) (q ^ e) (below (x ^ e)) of_q first

-- ---- the first numbers

-- whether the power of a number is 1, and the number no factor of the prime
abbrev passes : ℕ → Bool
passes x = (((x ^ 16 % prime) ^ 63 % prime) ^ 65 % prime == 1) && ((x == 1) || not (prime % x == 0))

abbrev all_pass : ℕ → Bool
all_pass zero = true
all_pass (suc n) = passes (suc n) && all_pass n

all_do : all_pass 256 ≡ true
all_do = refl

one_does : (n x : ℕ) → all_pass n ≡ true → 0 < x → x ≤ n → passes x ≡ true
one_does zero x h some few = absurd (omega arith)
one_does (suc n) x h some few =
    let parts = and_parts (passes (suc n)) (all_pass n) h in
    elim (cases_Bool (nat_le x n)) [
      | inl low ↦ let le : x ≤ n = grind (arith, nat_tests) in one_does n x parts.1 some le
      | inr high ↦ let same : suc n ≡ x = grind (arith, nat_tests) in ap passes (sym same) ∙ parts.0
    ]

-- the power of one of these, and that it is no factor of the prime
pub record HasPowerOne (x : ℕ) : Type 0 where
  pub power : x ^ (2 * half) % prime ≡ 1
  pub factor : x ≡ 1 ⊎ (prime % x ≡ 0 → ⊥)

exponent : 16 * 63 * 65 ≡ 2 * half
unfolding half
exponent = refl

no_factor : (x : ℕ) → ((x == 1) || not (prime % x == 0)) ≡ true → x ≡ 1 ⊎ (prime % x ≡ 0 → ⊥)
no_factor x e =
    elim (cases_Bool (x == 1)) [
      | inl one ↦ inl (eqb-true x 1 one)
      | inr more ↦ inr (λ zero_is. let h : not (prime % x == 0) ≡ true = rw more at e in let z : (prime % x == 0) ≡ true = rw zero_is refl in let f : false ≡ true = rw z at h in cc)
    ]

first : (x : ℕ) → 0 < x → x ≤ 256 → HasPowerOne x
first x some few =
    let parts = and_parts (((x ^ 16 % prime) ^ 63 % prime) ^ 65 % prime == 1) ((x == 1) || not (prime % x == 0)) (one_does 256 x all_do some few) in
    record {
      power = ap (λ (n : ℕ). x ^ n % prime) (sym exponent) ∙ sym (by_three x 16 63 65 prime) ∙ eqb-true (((x ^ 16 % prime) ^ 63 % prime) ^ 65 % prime) 1 parts.0;
      factor = no_factor x parts.1;
    }

-- ---- all numbers

-- what the prime is, by a number above 256 and below it
record Parts (x : ℕ) : Type 0 where
  q : ℕ
  r : ℕ
  parts : q * x + r ≡ prime
  some_q : 0 < q
  few_q : q ≤ 254
  some_r : 0 < r
  less_r : r < x

no_multiple : (q x : ℕ) → 0 < q → q ≤ 254 → x < prime → q * x ≡ prime → ⊥
no_multiple q x some few lt e =
    elim (first q some (omega (arith, few))).factor [
      | inl one ↦ let same : x ≡ prime = sym (one-mul x) ∙ ap (λ (n : ℕ). n * x) (sym one) ∙ e in omega (arith, same, lt)
      | inr none ↦ none (ap (λ (n : ℕ). n % q) (sym e ∙ mul_comm q x) ∙ multiple x q some)
    ]
  where
    multiple : (x q : ℕ) → 0 < q → x * q % q ≡ 0
    multiple x q some = ap (λ (n : ℕ). n % q) (add-zero (x * q)) ∙ mod-mul-add x q 0 some

parts_of : (x : ℕ) → 256 < x → x < prime → Parts x
parts_of x big lt =
    let whole : prime / x * x + prime % x ≡ prime = div-add-mod' prime x in
    let less : prime % x < x = mod-lt prime (omega (arith, big)) in
    let low : prime / x * 257 ≤ prime / x * x = mul-le (prime / x) 257 (prime / x) x (omega arith) (omega (arith, big)) in
    let few : prime / x ≤ 254 = omega (arith, low, whole) in
    let some : 0 < prime / x = above (prime / x) x (prime % x) whole less lt in
    record {
      q = prime / x;
      r = prime % x;
      parts = whole;
      some_q = some;
      few_q = few;
      some_r = left (prime / x) (prime % x) whole some few;
      less_r = less;
    }
  where
    above : (q x r : ℕ) → q * x + r ≡ prime → r < x → x < prime → 0 < q
    above zero x r e l lt = absurd (omega (arith, e, l, lt, zero-mul x))
    above (suc q) x r e l lt = omega arith

    left : (q r : ℕ) → q * x + r ≡ prime → 0 < q → q ≤ 254 → 0 < r
    left q zero e some few = absurd (no_multiple q x some few lt (omega (arith, e)))
    left q (suc r) e some few = omega arith

power_of : (n x : ℕ) → x ≤ n → 0 < x → x < prime → x ^ (2 * half) % prime ≡ 1
power_of zero x le some lt = absurd (omega (arith, le, some))
power_of (suc n) x le some lt =
    elim (cases_Bool (nat_le x 256)) [
      | inl low ↦ let few : x ≤ 256 = grind (arith, nat_tests) in (first x some few).power
      | inr high ↦
          let big : 256 < x = grind (arith, nat_tests) in
          let p = parts_of x big lt in
          turn x p.q p.r half p.parts (first p.q p.some_q (omega (arith, p.few_q))).power (power_of n p.r (omega (arith, p.less_r, le)) p.some_r (omega (arith, p.less_r, lt)))
    ]

last : suc 65519 ≡ 2 * half
unfolding half
last = refl

-- A number times its inverse is 1.
pub inverse_is : (x : ℕ) → 0 < x % prime → x * inverse_of x % prime ≡ 1
unfolding inverse_of
inverse_is x some =
    mul-mod_second x (x ^ 65519) prime ∙ ap (λ (n : ℕ). n % prime) (sym (pow-succ' x 65519)) ∙ ap (λ (n : ℕ). x ^ n % prime) last ∙ sym (pow-mod x (2 * half) prime) ∙ power_of (x % prime) (x % prime) (omega arith) some (below x)
