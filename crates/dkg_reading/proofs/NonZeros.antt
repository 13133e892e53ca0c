-- Numbers that are not 0, by their values.
use Rattle.std.proofs.Common.{◌≡◌, ℕ, zero, suc, ◌<◌, Option, Some, None, refl, ap, subst, arith}
use Rattle.std.specs.Prelude.{MatchOption}
use Rattle.std.specs.Int.NonZero.{non_zero_u32_get, non_zero_u64_get}
use Rattle.std.specs.declared.num.NonZeroU32.{NonZeroU32}
use Rattle.std.specs.declared.num.NonZeroU64.{NonZeroU64}
use Rattle.std.proofs.Math.Bridge.{le_prop}
use Rattle.std.proofs.Math.Nat.{zero-lt-suc}
use Rattle.dkg_reading.specs.Positive.{positive_32, positive_64}

pub same_32 : (v w : ℕ) (o : 0 < v) → v ≡ w → (p : 0 < w) → ◌≡◌ {A = NonZeroU32} (record { value = v; ok = o }) (record { value = w; ok = p })
same_32 v w o same =
    let P : ℕ → Type 0 = λ w. (p : 0 < w) → ◌≡◌ {A = NonZeroU32} (record { value = v; ok = o }) (record { value = w; ok = p }) in
    subst P same (λ p. ap (λ (q : 0 < v). let x : NonZeroU32 = record { value = v; ok = q } in x) (le_prop o p))

pub same_64 : (v w : ℕ) (o : 0 < v) → v ≡ w → (p : 0 < w) → ◌≡◌ {A = NonZeroU64} (record { value = v; ok = o }) (record { value = w; ok = p })
same_64 v w o same =
    let P : ℕ → Type 0 = λ w. (p : 0 < w) → ◌≡◌ {A = NonZeroU64} (record { value = v; ok = o }) (record { value = w; ok = p }) in
    subst P same (λ p. ap (λ (q : 0 < v). let x : NonZeroU64 = record { value = v; ok = q } in x) (le_prop o p))

pub is_32 : (x : NonZeroU32) (n : ℕ) → non_zero_u32_get x ≡ n → Some x ≡ positive_32 n
is_32 x zero is = absurd (let some = x.ok in omega (arith, some, is))
is_32 x (suc n) is = ap Some (same_32 x.value (suc n) x.ok is (zero-lt-suc n))

pub is_64 : (x : NonZeroU64) (n : ℕ) → non_zero_u64_get x ≡ n → Some x ≡ positive_64 n
is_64 x zero is = absurd (let some = x.ok in omega (arith, some, is))
is_64 x (suc n) is = ap Some (same_64 x.value (suc n) x.ok is (zero-lt-suc n))

pub made_32 : (r : Option NonZeroU32) (n : ℕ) → MatchOption r (n ≡ 0) (λ y. non_zero_u32_get y ≡ n) → r ≡ positive_32 n
made_32 None n is = rw is refl
made_32 (Some x) n is = is_32 x n is

pub made_64 : (r : Option NonZeroU64) (n : ℕ) → MatchOption r (n ≡ 0) (λ y. non_zero_u64_get y ≡ n) → r ≡ positive_64 n
made_64 None n is = rw is refl
made_64 (Some x) n is = is_64 x n is
