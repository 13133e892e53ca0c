-- Which calls were made, under other names of the disk and the fuse.
use Rattle.std.proofs.Common.{◌≡◌, ◌<◌, List, [], ◌++◌, Result, refl, sym, subst, arith}
use Rattle.std.specs.Prelude.{IsErrOf}
use Rattle.dkg_journal.specs.Burn.{Burn}
use Rattle.dkg_journal.specs.DeviceCall.{DeviceCall}
use Rattle.dkg_journal.specs.Fuse.{Fused, Ran, RanAll}
use Rattle.dkg_journal.proofs.Steps.{ran_first, then_ran}
use Rattle.dkg_sign.specs.Registrars.{RanUncut}

-- the same calls, where the disk and the fuse are named otherwise
pub moved : {D O : Type 0} (made : D → D → List (DeviceCall O) → Type 0) (a b b' : D) (f g g' : Burn) (calls : List O) → b' ≡ b → g' ≡ g → Ran made a b f g calls → Ran made a b' f g' calls
moved made a b b' f g g' calls disk fuse ran =
    subst (λ (x : _). Ran made a x f g' calls) (sym disk) (subst (λ (x : Burn). Ran made a b f x calls) (sym fuse) ran)

-- no call
pub unmoved : {D O : Type 0} (made : D → D → List (DeviceCall O) → Type 0) (a : D) (f : Burn) (calls : List O) → made a a [] → Ran made a a f f calls
unmoved made a f calls none = record { first = []; rest = calls; whole = refl; all = record { each = none; fuse = refl } }

pub moved_all : {D O : Type 0} (made : D → D → List (DeviceCall O) → Type 0) (a b b' : D) (f g g' : Burn) (calls : List O) → b' ≡ b → g' ≡ g → RanAll made a b f g calls → RanAll made a b' f g' calls
moved_all made a b b' f g g' calls disk fuse ran =
    subst (λ (x : _). RanAll made a x f g' calls) (sym disk) (subst (λ (x : Burn). RanAll made a b f x calls) (sym fuse) ran)

-- ---- a fuse that never cuts

pub never_cuts : {T E : Type 0} (cut want : E) (r : Result T E) (f g : Burn) → f.call ≡ 0 → Fused cut want r f g → IsErrOf r cut → ⊥
never_cuts cut want r f g never fused is = let less : f.spent < f.call = (fused.cut_there is).0 in omega (arith, less, never)

-- calls that ended before the last ones
pub uncut_first : {D O : Type 0} (made : D → D → List (DeviceCall O) → Type 0) (a b : D) (f g : Burn) (xs ys : List O) → f.call ≡ 0 → RanAll made a b f g xs → RanUncut made a b (xs ++ ys)
uncut_first made a b f g xs ys never all = record { before = f; now = g; never = never; ran = ran_first made a b f g xs ys all }

-- .. and with them
pub uncut_then : {D O : Type 0} (made : D → D → List (DeviceCall O) → Type 0) → ((a b c : D) (xs ys : List (DeviceCall O)) → made a b xs → made b c ys → made a c (xs ++ ys)) → (a b c : D) (f g h : Burn) (xs ys : List O)
    → f.call ≡ 0 → RanAll made a b f g xs → Ran made b c g h ys → RanUncut made a c (xs ++ ys)
uncut_then made more a b c f g h xs ys never all ran = record { before = f; now = h; never = never; ran = then_ran made more a b c f g h xs ys all ran }

-- .. or none of them
pub uncut_none : {D O : Type 0} (made : D → D → List (DeviceCall O) → Type 0) (a : D) (calls : List O) → made a a [] → RanUncut made a a calls
uncut_none made a calls none =
    let never : Burn = record { call = 0; pick = 0; spent = 0 } in
    record { before = never; now = never; never = refl; ran = unmoved made a never calls none }
