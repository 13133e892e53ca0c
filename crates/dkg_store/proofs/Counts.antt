-- A fuse goes on from call to call.
use Rattle.std.proofs.Common.{◌≡◌, ℕ, ◌<◌, ◌≤◌, ◌+◌, ◌^◌, nat_lt, arith, Bool, true, false, List, [], ◌∷◌, Result, refl, sym, ◌∙◌, subst}
use Rattle.std.specs.Prelude.{if◌then◌else◌}
use Rattle.dkg_journal.specs.Burn.{Burn}
use Rattle.dkg_journal.specs.Fuse.{Fused, Reached, burned, counted, spent_once}
use Rattle.dkg_journal.proofs.Steps.{not_reached}
use Rattle.dkg_store.specs.Counts.{CountsOn}

pub counts_none : (f : Burn) → CountsOn f f
counts_none f = record { call = refl; pick = refl; later = omega arith }

pub counts_same : (f g : Burn) → g ≡ f → CountsOn f g
counts_same f g same = subst (CountsOn f) (sym same) (counts_none f)

pub counts_then : (f g h : Burn) → CountsOn f g → CountsOn g h → CountsOn f h
counts_then f g h first second =
    let low = first.later in
    let high = second.later in
    record { call = second.call ∙ first.call; pick = second.pick ∙ first.pick; later = omega (arith, low, high) }

counted_later : (n : ℕ) → n ≤ counted n
counted_later n = by_order (nat_lt (n + 1) (2 ^ 64))
  where
    by_order : (b : Bool) → n ≤ (if b then n + 1 else n)
    by_order true = omega arith
    by_order false = omega arith

pub counts_once : (f : Burn) → CountsOn f (spent_once f)
counts_once f = record { call = refl; pick = refl; later = counted_later f.spent }

burned_on : {O : Type 0} (calls : List O) (f : Burn) → CountsOn f (burned calls f)
burned_on [] f = counts_none f
burned_on (one ∷ calls) f = counts_then f (spent_once f) (burned calls (spent_once f)) (counts_once f) (burned_on calls (spent_once f))

-- .. over these calls
pub counts_burned : {O : Type 0} (calls : List O) (f g : Burn) → g ≡ burned calls f → CountsOn f g
counts_burned calls f g is = subst (CountsOn f) (sym is) (burned_on calls f)

-- .. of a call of the journal
pub counts_fused : {T E : Type 0} (cut want : E) (r : Result T E) (f g : Burn) → Fused cut want r f g → CountsOn f g
counts_fused cut want r f g fused = record { call = fused.call; pick = fused.pick; later = fused.later }

-- What was cut in a call is what was cut of all calls up to it.
pub reached_behind : (f g h : Burn) → CountsOn f g → Reached g h → Reached f h
reached_behind f g h on reached =
    let low = on.later in
    let not_yet = reached.not_yet in
    record { not_yet = omega (arith, low, not_yet); by_now = reached.by_now }

-- A fuse that was reached is one that cuts.
pub reached_cuts : (f g : Burn) → CountsOn f g → Reached f g → 0 < f.call
reached_cuts f g on reached =
    let not_yet = reached.not_yet in
    let same = on.call in
    omega (arith, not_yet, same)

-- What wasn't cut in either wasn't cut in both.
pub uncut_then : (f g h : Burn) → CountsOn g h → (Reached f g → ⊥) → (Reached g h → ⊥) → Reached f h → ⊥
uncut_then f g h second not_first not_second = not_reached f g h (sym second.call) not_first not_second
