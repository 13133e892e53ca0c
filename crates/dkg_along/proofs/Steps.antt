-- What a step, an opening and a life make of where a run stands, by how each of them ends.
use Rattle.std.proofs.Common.{ℕ, ◌<◌, true, false, List, [], ◌∷◌, ◌++◌, ◌≡◌, refl, ◌⊎◌, inl, inr, arith}
use Rattle.dkg_infos.specs.declared.entry.Entry.{Entry}
use Rattle.dkg_infos.specs.declared.entry.Entry.TheVariants as entry
use Rattle.dkg_text.specs.declared.script.Life.{Life}
use Rattle.dkg_script.specs.Order.{IsInOrder}
use Rattle.dkg_life.specs.declared.stop.Stop.{Stop}
use Rattle.dkg_life.specs.declared.stop.Stop.TheVariants.{Cut}
use Rattle.dkg_lives.proofs.Standing.{Moves, AddsQuiet, AddsOpening, IsBefore, IsWithin, IsAtCut, IsStopped, IsBehind, IsCutBefore, IsCutWithin}
use Rattle.dkg_lives.proofs.Moving.{moves_none, moves_then, moves_within}
use Rattle.dkg_along.proofs.InOrder.{begins, cut_before, stopped_within, moves_quiet, moves_opening, moves_step}

-- A STEP

-- a life that is cut before the step
pub stops_before : (life : Life) (l j : ℕ) (stop : Stop) (old new : List Entry) → new ≡ old → (stop ≡ Cut) × IsCutBefore life.cut j
    → Moves IsInOrder (IsBefore life l j) (IsStopped life l stop) old new
stops_before life l j stop old new same its = rw its.0 (moves_none IsInOrder (IsBefore life l j) (IsAtCut life l) old new same (λ s p is. cut_before life l j s p its.1 is))

-- a step that began, and has quiet entries
pub quiet_so_far : (life : Life) (l j : ℕ) (old new : List Entry) → (IsCutBefore life.cut j → ⊥) → AddsQuiet old new
    → Moves IsInOrder (IsBefore life l j) (IsWithin life l j false) old new
quiet_so_far life l j old new not adds = moves_within IsInOrder (IsWithin life l j false) (IsBefore life l j) (IsWithin life l j false) (IsWithin life l j false) old new
    (λ s p is. begins life l j s p not is) (λ s p is. is) (moves_quiet life l j false old new adds)

-- .. and stopped
pub quiet_stops : (life : Life) (l j : ℕ) (stop : Stop) (old new : List Entry) → (IsCutBefore life.cut j → ⊥) → AddsQuiet old new → (stop ≡ Cut → IsCutWithin life.cut j)
    → Moves IsInOrder (IsBefore life l j) (IsStopped life l stop) old new
quiet_stops life l j stop old new not adds its = moves_within IsInOrder (IsBefore life l j) (IsBefore life l j) (IsWithin life l j false) (IsStopped life l stop) old new
    (λ s p is. is) (λ s p is. stopped_within life l j false s p stop its is) (quiet_so_far life l j old new not adds)

-- .. or ended
pub quiet_step : (life : Life) (l j : ℕ) (old mid new : List Entry) → 0 < j → (IsCutBefore life.cut j → ⊥) → AddsQuiet old mid → new ≡ mid ++ entry.Step j ∷ []
    → Moves IsInOrder (IsBefore life l j) (IsBehind life l j) old new
quiet_step life l j old mid new later not adds is =
    moves_then IsInOrder (IsBefore life l j) (IsWithin life l j false) (IsBehind life l j) old mid new
    (quiet_so_far life l j old mid not adds)
    (moves_step life l j false mid new (λ first. absurd (omega arith)) is)

-- AN OPENING

abbrev pub Opening : ℕ → List Entry → List Entry → Type 0
Opening l old new = (new ≡ old) ⊎ AddsOpening l old new

pub opened_so_far : (life : Life) (l : ℕ) (old new : List Entry) → (IsCutBefore life.cut 0 → ⊥) → AddsOpening l old new
    → Moves IsInOrder (IsBefore life l 0) (IsWithin life l 0 true) old new
opened_so_far life l old new not adds = moves_within IsInOrder (IsWithin life l 0 false) (IsBefore life l 0) (IsWithin life l 0 true) (IsWithin life l 0 true) old new
    (λ s p is. begins life l 0 s p not is) (λ s p is. is) (moves_opening life l old new adds)

pub opening_stops : (life : Life) (l : ℕ) (stop : Stop) (old new : List Entry) → (IsCutBefore life.cut 0 → ⊥) → Opening l old new → (stop ≡ Cut → IsCutWithin life.cut 0)
    → Moves IsInOrder (IsBefore life l 0) (IsStopped life l stop) old new
opening_stops life l stop old new not (inl same) its = moves_none IsInOrder (IsBefore life l 0) (IsStopped life l stop) old new same
    (λ s p is. stopped_within life l 0 false s p stop its (begins life l 0 s p not is))
opening_stops life l stop old new not (inr adds) its = moves_within IsInOrder (IsBefore life l 0) (IsBefore life l 0) (IsWithin life l 0 true) (IsStopped life l stop) old new
    (λ s p is. is) (λ s p is. stopped_within life l 0 true s p stop its is) (opened_so_far life l old new not adds)

pub opening_step : (life : Life) (l : ℕ) (old mid new : List Entry) → (IsCutBefore life.cut 0 → ⊥) → AddsOpening l old mid → new ≡ mid ++ entry.Step 0 ∷ []
    → Moves IsInOrder (IsBefore life l 0) (IsBehind life l 0) old new
opening_step life l old mid new not adds is =
    moves_then IsInOrder (IsBefore life l 0) (IsWithin life l 0 true) (IsBehind life l 0) old mid new
    (opened_so_far life l old mid not adds)
    (moves_step life l 0 true mid new (λ first. refl) is)
