-- The order of keys that are an epoch and a dealer, and what a prune does at one key.
use Rattle.std.specs.Prelude.{◌≡◌, ◌<◌, ◌⊎◌, ℕ, Option, None}
use Rattle.std.specs.Ordering.{nat_cmp, ordering_then}
use Rattle.std.specs.declared.cmp.Ordering.{Ordering}

-- by epoch, then by dealer
abbrev pub key_cmp : ℕ × ℕ → ℕ × ℕ → Ordering
key_cmp a b = ordering_then (nat_cmp a.0 b.0) (nat_cmp a.1 b.1)

-- a key below the minimum may have gone, and any other stays
abbrev pub StaysOrGoes : {X : Type 0} → ℕ → ℕ → Option X → Option X → Type 0
StaysOrGoes min epoch old new = (new ≡ old) ⊎ ((epoch < min) × (new ≡ None))
