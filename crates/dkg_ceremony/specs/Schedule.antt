-- Epochs of n blocks each, and the heights that bound them.
use Rattle.std.specs.Prelude.{ℕ, zero, suc, ◌+◌, ◌-◌, ◌*◌, ◌/◌, ◌^◌, ◌≤◌, nat_lt, nat_eq, Option, Some, None, if◌then◌else◌}
use Rattle.dkg_ceremony.specs.declared.epocher.Bounds.{Bounds}
use Rattle.dkg_ceremony.specs.declared.phase.Phase.{Phase}
use Rattle.dkg_ceremony.specs.declared.phase.Phase.TheVariants.{Early, Midpoint, Late}

-- the epoch in which a height lies
abbrev pub epoch_of : ℕ → ℕ → ℕ
epoch_of n height = height / n

abbrev pub first : ℕ → ℕ → ℕ
first n epoch = epoch * n

abbrev pub midpoint : ℕ → ℕ → ℕ
midpoint n epoch = first n epoch + n / 2

abbrev pub last : ℕ → ℕ → ℕ
last n epoch = first n epoch + n - 1

-- the height of the block that begins an epoch: the last one of the epoch before, and genesis for epoch 0
abbrev pub boundary : ℕ → ℕ → ℕ
boundary n zero = 0
boundary n (suc epoch) = last n epoch

-- WHAT IS TOLD OF AN EPOCH, where its last height is a number of 64 bits

abbrev pub in_range : {A : Type 0} → (n epoch : ℕ) → A → Option A
in_range n epoch x = if nat_lt (last n epoch) (2 ^ 64) then Some x else None

-- where a height stands beside its epoch's midpoint
abbrev pub phase_at : (middle height : ℕ) → Phase
phase_at middle height = if nat_lt height middle then Early else (if nat_eq height middle then Midpoint else Late)

abbrev pub bounds_at : (n height : ℕ) → Bounds
bounds_at n height = record {
  epoch = epoch_of n height;
  first = first n (epoch_of n height);
  midpoint = midpoint n (epoch_of n height);
  last = last n (epoch_of n height);
  phase = phase_at (midpoint n (epoch_of n height)) height;
}

-- the height lies in the epoch
pub record IsWithin (bounds : Bounds) (height : ℕ) : Type 0 where
  pub from : bounds.first ≤ height
  pub to : height ≤ bounds.last
