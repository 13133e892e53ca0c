-- What a fence knows.
use Rattle.std.specs.Prelude.{◌≡◌, ℕ, ◌<◌, ◌≤◌, Bool, false, Option, Some, None}

pub record Readiness : Type 0 where
  -- the greatest ready epoch
  pub ready : Option ℕ
  pub closed : Bool
  -- the epoch of the wait that is remembered
  pub awaited : Option ℕ

-- all epochs up to the greatest are ready, and none before the first mark
abbrev pub IsReady : Option ℕ → ℕ → Type 0
IsReady (Some greatest) epoch = epoch ≤ greatest
IsReady None epoch = ⊥

abbrev pub IsAhead : Option ℕ → ℕ → Type 0
IsAhead (Some greatest) epoch = greatest < epoch
IsAhead None epoch = Unit {0}

-- a wait that is remembered is pending
abbrev pub IsPending : Option ℕ → Bool → Option ℕ → Type 0
IsPending ready closed (Some epoch) = IsAhead ready epoch × (closed ≡ false)
IsPending ready closed None = Unit {0}

abbrev pub IsSoundReadiness : Readiness → Type 0
IsSoundReadiness f = IsPending f.ready f.closed f.awaited
