-- A script without state sync over a disk without stored material has one case alone: no life finds or has material.
use Rattle.std.proofs.Common.{ℕ, zero, suc, ◌<◌, ◌≤◌, List, [], ◌∷◌, ◌≡◌, refl, ◌∙◌, inl, inr, Option, Some, None, Bool, true, false, length, arith, subst}
use Rattle.std.specs.Prelude.{slice_get, cond, IfSome}
use Rattle.std.specs.List.{AllByRecursion}
use Rattle.std.specs.Option.{option_or}
use Rattle.dkg_text.specs.declared.script.Life.{Life}
use Rattle.dkg_script.specs.Setting.{Setting, CutAt, is_oneshot, life_at, found}
use Rattle.dkg_script.specs.Blocks.{handed_in, provided_material}
use Rattle.dkg_script.specs.Position.{IsPlanHistory, IsLeft, cut_of, material, unless_outdated}

pub record IsPlain (s : Setting) : Type 0 where
  pub no_record : handed_in s ≡ None
  pub no_sync : AllByRecursion (λ life. life.sync ≡ None) s.script.lives

pub all_at : (P : Life → Type 0) (lives : List Life) (l : ℕ) (life : Life) → AllByRecursion P lives → slice_get lives l ≡ Some life → P life
all_at P [] l life all e = absurd (none_is_not_some e)
  where
    none_is_not_some : None ≡ Some life → ⊥
    none_is_not_some e = cc
all_at P (first ∷ lives) zero life all e = subst P (some_injective e) all.0
  where
    some_injective : Some first ≡ Some life → first ≡ life
    some_injective e = cc
all_at P (first ∷ lives) (suc l) life all e = all_at P lives l life all.1 e

within : (lives : List Life) (l : ℕ) → l < length lives → slice_get lives l ≡ None → ⊥
within [] l below e = nothing_below l below
  where
    nothing_below : (l : ℕ) → l < 0 → ⊥
    nothing_below l below = omega arith
within (first ∷ lives) zero below e = some_is_not_none e
  where
    some_is_not_none : Some first ≡ None → ⊥
    some_is_not_none e = cc
within (first ∷ lives) (suc l) below e = within lives l (omega arith) e

module _ (s : Setting) (cuts : List (Option CutAt)) (plain : IsPlain s) (history : IsPlanHistory s cuts) where
  provides_none : (life : Life) → life.sync ≡ None → provided_material s life ≡ None
  provides_none life e = rw e

  has_none : (l : ℕ) (life : Life) → life.sync ≡ None → found s l ≡ None → material s l life ≡ None
  has_none l life e none = by_case (is_oneshot s)
    where
      by_case : (b : Bool) → cond b None (unless_outdated s life (option_or (provided_material s life) (found s l))) ≡ None
      by_case true = refl
      by_case false = rw (provides_none life e, none)

  leaves_none : (l : ℕ) (life : Life) → life.sync ≡ None → found s l ≡ None → IsLeft s l life (cut_of cuts l) (found s (suc l)) → found s (suc l) ≡ None
  leaves_none l life e none (inl normal) = normal ∙ by_case (is_oneshot s)
    where
      by_case : (b : Bool) → cond b (found s l) (material s l life) ≡ None
      by_case true = none
      by_case false = has_none l life e none
  leaves_none l life e none (inr cut) = elim cut.1 [ inl same ↦ same ∙ none | inr new ↦ new.1 ∙ provides_none life e ]

  pub finds_none : (l : ℕ) → l ≤ length cuts → l < length s.script.lives → found s l ≡ None
  finds_none zero in_cuts in_lives = history.first ∙ plain.no_record
  finds_none (suc l) in_cuts in_lives = by_case (life_at s l) refl (history.next l in_cuts) (finds_none l (omega arith) (omega arith))
    where
      by_case : (o : Option Life) → life_at s l ≡ o → IfSome o (λ life. IsLeft s l life (cut_of cuts l) (found s (suc l))) → found s l ≡ None → found s (suc l) ≡ None
      by_case None e left none = absurd (within s.script.lives l (omega arith) e)
      by_case (Some life) e left none = leaves_none l life (all_at (λ life. life.sync ≡ None) s.script.lives l life plain.no_sync e) none left
