-- What the calls of a fence do.
use Rattle.std.specs.Prelude.{◌≡◌, ℕ, max, nat_le, if◌then◌else◌, true, false, Option, Some, None, List, [], ◌∷◌}
use Rattle.dkg_fence.specs.declared.fence.Waited.{Waited}
use Rattle.dkg_fence.specs.declared.fence.Waited.TheVariants.{Ready, Pending, Closed}
use Rattle.dkg_fence.specs.Readiness.{Readiness, IsReady, IsAhead}

-- the greatest of the ready epochs after one more mark
abbrev pub raised : ℕ → Option ℕ → Option ℕ
raised epoch (Some ready) = Some (max ready epoch)
raised epoch None = Some epoch

-- the greatest of these marks
abbrev pub greatest_from : Option ℕ → List ℕ → Option ℕ
greatest_from ready [] = ready
greatest_from ready (epoch ∷ marks) = greatest_from (raised epoch ready) marks

abbrev pub greatest : List ℕ → Option ℕ
greatest marks = greatest_from None marks

-- the remembered wait, unless a mark reaches its epoch
abbrev pub unreached : ℕ → Option ℕ → Option ℕ
unreached epoch (Some awaited) = if nat_le awaited epoch then None else Some awaited
unreached epoch None = None

-- after a mark
abbrev pub marked : ℕ → Readiness → Readiness
marked epoch f = if f.closed then f else record { ready = raised epoch f.ready; closed = f.closed; awaited = unreached epoch f.awaited }

-- after a close
abbrev pub closed : Readiness → Readiness
closed f = record { ready = f.ready; closed = true; awaited = None }

-- after a wait with this answer
abbrev pub remembered : ℕ → Waited → Option ℕ
remembered epoch Ready = None
remembered epoch Pending = Some epoch
remembered epoch Closed = None

abbrev pub waited : ℕ → Waited → Readiness → Readiness
waited epoch answer f = record { ready = f.ready; closed = f.closed; awaited = remembered epoch answer }

-- the epoch of the remembered wait was not ready, and is now
abbrev pub Wakes : Readiness → Readiness → Type 0
Wakes before after = (epoch : ℕ) × (before.awaited ≡ Some epoch) × IsAhead before.ready epoch × IsReady after.ready epoch

-- Ready exactly where the epoch is ready; else Closed exactly where the fence is closed; else Pending
abbrev pub WaitsFor : ℕ → Readiness → Waited → Type 0
WaitsFor epoch f Ready = IsReady f.ready epoch
WaitsFor epoch f Closed = IsAhead f.ready epoch × (f.closed ≡ true)
WaitsFor epoch f Pending = IsAhead f.ready epoch × (f.closed ≡ false)
