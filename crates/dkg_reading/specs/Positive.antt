-- Numbers that are not 0.
use Rattle.std.specs.Prelude.{ℕ, zero, suc, Option, Some, None}
use Rattle.std.specs.declared.num.NonZeroU32.{NonZeroU32}
use Rattle.std.specs.declared.num.NonZeroU64.{NonZeroU64}
use Rattle.std.proofs.Math.Nat.{zero-lt-suc}

abbrev pub positive_32 : ℕ → Option NonZeroU32
positive_32 zero = None
positive_32 (suc n) = Some (record { value = suc n; ok = zero-lt-suc n })

abbrev pub positive_64 : ℕ → Option NonZeroU64
positive_64 zero = None
positive_64 (suc n) = Some (record { value = suc n; ok = zero-lt-suc n })
