-- A fuse counts calls, and gives its pick at one of them.
use Rattle.std.specs.Prelude.{◌≡◌, ◌⊎◌, ◌<◌, ◌≤◌, ◌^◌, ℕ, zero, suc, ◌+◌, ◌==◌, nat_lt, if◌then◌else◌, List, [], ◌∷◌, ◌++◌, Option, Some, None, Result, Ok, IsErrOf, OnOk}
use Rattle.dkg_journal.specs.Burn.{Burn}
use Rattle.dkg_journal.specs.DeviceCall.{DeviceCall, call_at}

-- the count stands still at its last value
abbrev pub counted : ℕ → ℕ
counted n = if nat_lt (n + 1) (2 ^ 64) then n + 1 else n

abbrev pub spent_once : Burn → Burn
spent_once f = record { call = f.call; pick = f.pick; spent = counted f.spent }

abbrev pub pick_now : Burn → Option ℕ
pick_now f = if f.spent + 1 == f.call then Some f.pick else None

abbrev pub IsBlown : Burn → Type 0
IsBlown f = (0 < f.call) × (f.call ≤ f.spent)

-- the call that is cut came in between
pub record Reached (before now : Burn) : Type 0 where
  pub not_yet : before.spent < now.call
  pub by_now : now.call ≤ now.spent

-- what a fuse has counted after these calls
abbrev pub burned : {O : Type 0} → List O → Burn → Burn
burned [] f = f
burned (op ∷ ops) f = burned ops (spent_once f)

-- .. after so many calls
abbrev pub burnt : ℕ → Burn → Burn
burnt zero f = f
burnt (suc n) f = burnt n (spent_once f)

-- These calls as a device sees them: the one at which the fuse is reached is cut, with its pick, and the others are made.
abbrev pub calls_in : {O : Type 0} → Burn → List O → List (DeviceCall O)
calls_in f [] = []
calls_in f (op ∷ ops) = call_at (pick_now f) op ∷ calls_in (spent_once f) ops

-- at most so many calls were counted
pub record SpentUpTo (n : ℕ) (before now : Burn) : Type 0 where
  pub calls : ℕ
  pub in_bound : calls ≤ n
  pub is : now ≡ burnt calls before

-- How calls that ended with this answer have spent their fuse: the one that is cut is the last, and it answers so, or that it found no
-- memory.
pub record Fused {T E : Type 0} (cut want : E) (result : Result T E) (before now : Burn) : Type 0 where
  pub call : now.call ≡ before.call
  pub pick : now.pick ≡ before.pick
  pub later : before.spent ≤ now.spent
  pub whole : (x : T) → result ≡ Ok x → before.spent < before.call → now.spent < before.call
  pub at_most : before.spent < before.call → now.spent ≤ before.call
  pub cut_there : IsErrOf result cut → (before.spent < before.call) × (now.spent ≡ before.call)
  pub reached : Reached before now → IsErrOf result cut ⊎ IsErrOf result want

-- These calls were made and counted, and no others. The one at which the fuse was reached was cut.
pub record RanAll {D O : Type 0} (made : D → D → List (DeviceCall O) → Type 0) (old new : D) (before now : Burn) (calls : List O) : Type 0 where
  pub each : made old new (calls_in before calls)
  pub fuse : now ≡ burned calls before

-- the first of these calls were made and counted, and no others
pub record Ran {D O : Type 0} (made : D → D → List (DeviceCall O) → Type 0) (old new : D) (before now : Burn) (calls : List O) : Type 0 where
  pub first : List O
  pub rest : List O
  pub whole : calls ≡ first ++ rest
  pub all : RanAll made old new before now first

-- A call that makes these calls: all of them at Ok, and at any other exit the first of them.
pub record HasRun {D O T E : Type 0} (made : D → D → List (DeviceCall O) → Type 0) (result : Result T E) (old new : D) (before now : Burn) (calls : List O) : Type 0 where
  pub ran : Ran made old new before now calls
  pub all : OnOk result (RanAll made old new before now calls)
