-- The greatest of the marks.
use Rattle.std.proofs.Common.{◌≡◌, ℕ, if◌then◌else◌, Bool, false, Option, None, List, [], ◌∷◌, ◌++◌, refl, sym, ap, ◌∙◌}
use Rattle.dkg_fence.specs.Readiness.{Readiness}
use Rattle.dkg_fence.specs.Fence.{raised, greatest_from, greatest, unreached, marked}

greatest_from-snoc : (ready : Option ℕ) (marks : List ℕ) (epoch : ℕ) → greatest_from ready (marks ++ epoch ∷ []) ≡ raised epoch (greatest_from ready marks)
greatest_from-snoc ready [] epoch = refl
greatest_from-snoc ready (m ∷ ms) epoch = greatest_from-snoc (raised m ready) ms epoch

-- a mark on a fence that is not closed is one more of the marks
pub marked_greatest : (epoch : ℕ) (old new : Readiness) → new ≡ marked epoch old → (marks : List ℕ) → old.closed ≡ false → old.ready ≡ greatest marks → new.ready ≡ greatest (marks ++ epoch ∷ [])
marked_greatest epoch old new is marks opened before =
    ap (λ (f : Readiness). f.ready) (is ∙ ap (λ (b : Bool). if b then old else record { ready = raised epoch old.ready; closed = old.closed; awaited = unreached epoch old.awaited }) opened)
    ∙ ap (raised epoch) before ∙ sym (greatest_from-snoc None marks epoch)
