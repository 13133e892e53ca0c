-- What a turn leaves that ended by a stop.
use Rattle.std.specs.Prelude.{◌≡◌, ℕ, Option, Some, None}

module _ {T C R A : Type 0} where
  -- The value has stopped
  pub record HasStopped (turns stopped : T → C → R → T → Type 0) (told : T → ℕ → Option R) (answered : R → Option A) (value : T) : Type 0 where
    -- each later turn ends by a stop too, and leaves the value as it is
    pub stays : (call : C) (reply : R) (after : T) → turns value call reply after → stopped value call reply after × (after ≡ value)
    -- for every number it has a reply that is no answer
    pub silent : (number : ℕ) → (reply : R) × (told value number ≡ Some reply) × (answered reply ≡ None)

module _ {T C R M : Type 0} where
  -- Some message leads on: from a value where it is posted the turn ends by no stop
  pub record SomeLeadsOn (turns stopped : T → C → R → T → Type 0) (posted : M → C) : Type 0 where
    pub before : T
    pub message : M
    pub reply : R
    pub after : T
    pub turned : turns before (posted message) reply after
    pub goes_on : ¬ stopped before (posted message) reply after
