-- The bounds of a height's epoch, where that ends within 64 bits.
use Rattle.std.proofs.Common.{◌≡◌, ℕ, ◌+◌, ◌*◌, ◌/◌, ◌^◌, ◌<◌, ◌≤◌, nat_le, nat_lt, Bool, true, false, Option, Some, None, refl, subst, arith}
use Rattle.std.specs.Prelude.{if◌then◌else◌}
use Rattle.std.proofs.lemmas.Bool.Decides.{nat_tests}
use Rattle.std.proofs.Math.Nat.{lt-div-mul-add}
use Rattle.dkg_ceremony.specs.Schedule.{bounds_at, epoch_of, in_range, last}
use Rattle.dkg_ceremony.specs.declared.epocher.Bounds.{Bounds}
use Rattle.dkg_life.specs.Steps.{AreBoundsAt}

same_bounds : (x y : Bounds) → ◌≡◌ {A = Option Bounds} (Some x) (Some y) → x ≡ y
same_bounds x y e = cc

-- the bounds of its epoch
pub bounds_is : (n height : ℕ) (bounds : Bounds) → Some bounds ≡ in_range n (epoch_of n height) (bounds_at n height) → bounds ≡ bounds_at n height
bounds_is n height bounds is = by_test (nat_lt (last n (epoch_of n height)) (2 ^ 64)) is
  where
    by_test : (p : Bool) → Some bounds ≡ (if p then Some (bounds_at n height) else None) → bounds ≡ bounds_at n height
    by_test true is = same_bounds bounds (bounds_at n height) is
    by_test false is = absurd cc

-- or that ends past 64 bits
pub range_over : (n height : ℕ) (x : Bounds) → None ≡ in_range n (epoch_of n height) x → 2 ^ 64 ≤ last n (epoch_of n height)
range_over n height x none = by_test (nat_lt (last n (epoch_of n height)) (2 ^ 64)) refl none
  where
    by_test : (p : Bool) → nat_lt (last n (epoch_of n height)) (2 ^ 64) ≡ p → None ≡ (if p then Some x else None) → 2 ^ 64 ≤ last n (epoch_of n height)
    by_test true is none = absurd cc
    by_test false is none = grind (arith, nat_tests, is)

pub is_past : (n height : ℕ) → 2 ^ 64 ≤ last n (epoch_of n height) → nat_le (2 ^ 64) (last n (epoch_of n height)) ≡ true
is_past n height past = grind (arith, nat_tests, past)

pub not_past : (n height : ℕ) → last n (epoch_of n height) < 2 ^ 64 → nat_le (2 ^ 64) (last n (epoch_of n height)) ≡ false
not_past n height within = grind (arith, nat_tests, within)

-- .. which are those of the height
pub lies_at : (n height : ℕ) (bounds : Bounds) → Some bounds ≡ in_range n (epoch_of n height) (bounds_at n height) → AreBoundsAt n bounds height
lies_at n height bounds is = record { are = bounds_is n height bounds is; in_range = by_test (nat_lt (last n (epoch_of n height)) (2 ^ 64)) refl is }
  where
    by_test : (p : Bool) → nat_lt (last n (epoch_of n height)) (2 ^ 64) ≡ p → Some bounds ≡ (if p then Some (bounds_at n height) else None) → last n (epoch_of n height) < 2 ^ 64
    by_test true is some = grind (arith, nat_tests, is)
    by_test false is some = absurd cc

-- a height is at most the last of its epoch
at_most_last : (n height : ℕ) → 0 < n → height ≤ last n (epoch_of n height)
at_most_last n height some = let under : height < height / n * n + n = lt-div-mul-add some in omega (arith, under)

pub far_over : (n height : ℕ) → 0 < n → height ≡ 2 ^ 64 → 2 ^ 64 ≤ last n (epoch_of n height)
far_over n height some far = subst (λ (h : ℕ). h ≤ last n (epoch_of n height)) far (at_most_last n height some)
