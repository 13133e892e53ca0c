-- When a pass is not answered, and what is so then.
use Rattle.std.specs.Prelude.{ℕ, Option}
use Rattle.dkg_turn.specs.declared.pass.TurnError.{TurnError}
use Rattle.dkg_turn.specs.declared.pass.TurnError.TheVariants.{NotYet, Exhausted, NoMemory}
use Rattle.dkg_turn.specs.Known.{Known}
use Rattle.dkg_turn.specs.Passes.{Looked, ReadsNone, IsExhausted}

module _ {T C R : Type 0} where
  -- NoMemory: the turn came and left no entry
  abbrev pub CallRefused : (T → C → R → T → Type 0) → T → TurnError → Known T C R → Known T C R → Type 0
  CallRefused turns start NotYet v w = ⊥
  CallRefused turns start Exhausted v w = IsExhausted v w
  CallRefused turns start NoMemory v w = Looked turns start v w

  -- NotYet: the value has no reply for the number at that turn
  abbrev pub TakeRefused : (T → C → R → T → Type 0) → T → (T → ℕ → Option R) → ℕ → TurnError → Known T C R → Known T C R → Type 0
  TakeRefused turns start told number NotYet v w = ReadsNone turns start told number v w
  TakeRefused turns start told number Exhausted v w = IsExhausted v w
  TakeRefused turns start told number NoMemory v w = Looked turns start v w

  -- a split takes no memory
  abbrev pub SplitRefused : TurnError → Known T C R → Known T C R → Type 0
  SplitRefused NotYet v w = ⊥
  SplitRefused Exhausted v w = IsExhausted v w
  SplitRefused NoMemory v w = ⊥
