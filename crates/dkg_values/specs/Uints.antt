-- Numbers in base 128.
use Rattle.std.proofs.Common.{◌≡◌, ℕ, zero, suc, ◌+◌, ◌-◌, ◌*◌, ◌/◌, ◌%◌, ◌^◌, ◌<◌, ◌≤◌, List, [], ◌∷◌, ◌++◌, refl, ap, ◌∙◌, append_assoc, arith, Result, Ok, Err}
use Rattle.std.specs.Prelude.{OnOk}
use Rattle.std.proofs.lemmas.Nat.{pow-add}
use Rattle.std.proofs.lemmas.Bool.{le-ltb}
use Rattle.dkg_values.specs.Uint.{IsMost, groups}

-- what a number of ones is above 128
pub record GroupSteps (most : ℕ) : Type 0 where
  pub next : IsMost (most / 128)
  pub last : most ≡ 128 * (most / 128) + 127

long : (k : ℕ) → 128 < 2 ^ k → (j : ℕ) × (2 ^ k ≡ 128 * 2 ^ j)
long zero h = absurd (omega arith)
long (suc zero) h = absurd (omega arith)
long (suc (suc zero)) h = absurd (omega arith)
long (suc (suc (suc zero))) h = absurd (omega arith)
long (suc (suc (suc (suc zero)))) h = absurd (omega arith)
long (suc (suc (suc (suc (suc zero))))) h = absurd (omega arith)
long (suc (suc (suc (suc (suc (suc zero)))))) h = absurd (omega arith)
long (suc (suc (suc (suc (suc (suc (suc j))))))) h = (j, omega (arith, pow-add 2 7 j))

pub most_step : (most : ℕ) → IsMost most → 128 ≤ most → GroupSteps most
most_step most m h =
    let p = long m.bits (omega (arith, m.is)) in
    let e : most + 1 ≡ 128 * 2 ^ p.0 = m.is ∙ p.1 in
    record { next = record { bits = p.0; is = omega (arith, e) }; last = omega (arith, e) }

pub below_most : (most high low : ℕ) → IsMost most → 128 ≤ most → high ≤ most / 128 → low < 128 → low + 128 * high ≤ most
below_most most high low m h le lt = let s = (most_step most m h).last in omega arith

pub most32 : IsMost (2 ^ 32 - 1)
most32 = record { bits = 32; is = refl }

pub most64 : IsMost (2 ^ 64 - 1)
most64 = record { bits = 64; is = refl }

more_groups : (old mid new : List ℕ) (n : ℕ) → 128 ≤ n → mid ≡ old ++ (n % 128 + 128) ∷ [] → ((more : ℕ) → n / 128 < 128 * 128 ^ more → new ≡ mid ++ groups more (n / 128)) → (more : ℕ) → n < 128 * 128 ^ more → new ≡ old ++ groups more n
unfolding groups
more_groups old mid new n le is h zero lt = absurd (omega arith)
more_groups old mid new n le is h (suc more) lt =
    let power : 128 ^ suc more ≡ 128 * 128 ^ more = omega (arith, pow-add 128 1 more) in
    let e : new ≡ mid ++ groups more (n / 128) = h more (omega (arith, power)) in
    rw (le-ltb n 128 le) (e ∙ ap (λ (x : List ℕ). x ++ groups more (n / 128)) is ∙ append_assoc old ((n % 128 + 128) ∷ []) (groups more (n / 128)))

-- the groups after the first
pub wrote_groups : {T E : Type 0} (r : Result T E) (old mid new : List ℕ) (n : ℕ) → 128 ≤ n → mid ≡ old ++ (n % 128 + 128) ∷ []
    → OnOk r ((more : ℕ) → n / 128 < 128 * 128 ^ more → new ≡ mid ++ groups more (n / 128)) → OnOk r ((more : ℕ) → n < 128 * 128 ^ more → new ≡ old ++ groups more n)
wrote_groups (Err e) old mid new n le is h = tt
wrote_groups (Ok u) old mid new n le is h = λ more lt. more_groups old mid new n le is h more lt
