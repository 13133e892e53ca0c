-- A script of the form of inclusion is of it however its lives were cut.
use Rattle.std.proofs.Common.{◌≡◌, ℕ, zero, suc, Bool, true, false, cond, List, [], ◌∷◌, ◌++◌, Option, Some, None, refl, subst, sym, take, ◌∙◌}
use Rattle.std.specs.Prelude.{◌==◌, option_map, slice_get}
use Rattle.dkg_reading.specs.Spells.{FitAfter}
use Rattle.dkg_text.specs.declared.script.Event.{Event}
use Rattle.dkg_text.specs.declared.script.Life.{Life}
use Rattle.dkg_text.specs.declared.script.Script.{Script}
use Rattle.dkg_script.specs.AsCut.{as_cut, cut_within, life_as_cut, lives_as_cut}
use Rattle.dkg_script.specs.AsCutLaws.{StaysOfInclusion}
use Rattle.dkg_script.specs.Asked.{AskAnew, IsAskedAnew}
use Rattle.dkg_script.specs.Inclusion.{IsEventIn, IsLifeIn}
use Rattle.dkg_script.specs.Position.{cut_of}
use Rattle.dkg_script.specs.Setting.{CutAt}
use Rattle.dkg_script.proofs.AsCut.{all_within, its_life}

fit_taken : {A : Type 0} (P : List A → A → Type 0) (n : ℕ) (done xs : List A) → FitAfter P done xs → FitAfter P done (take n xs)
fit_taken P zero done [] fit = tt
fit_taken P (suc n) done [] fit = tt
fit_taken P zero done (x ∷ xs) fit = tt
fit_taken P (suc n) done (x ∷ xs) fit = (fit.0, fit_taken P n (done ++ x ∷ []) xs fit.1)

anew_within : (end : Option CutAt) (events : List Event) → AskAnew events → AskAnew (cut_within end events)
anew_within None events anew = anew
anew_within (Some at) events anew = by_call (at.call == 0)
  where
    by_call : (b : Bool) → AskAnew (cond b events (take at.step events))
    by_call true = anew
    by_call false = fit_taken IsAskedAnew at.step [] events anew

-- what holds of each life as it was cut holds of each that is there then
module _ (ends : List (Option CutAt)) (lives : List Life) (l : ℕ) (P : Life → Type 0) (each : (life : Life) → slice_get lives l ≡ Some life → P (life_as_cut (cut_of ends l) life)) where
  pub at_its_index : (life : Life) → slice_get (lives_as_cut ends lives) l ≡ Some life → P life
  at_its_index life is = by_life (slice_get lives l) refl (sym (its_life ends lives l) ∙ is)
    where
      by_life : (o : Option Life) → slice_get lives l ≡ o → option_map (life_as_cut (cut_of ends l)) o ≡ Some life → P life
      by_life None there is = absurd cc
      by_life (Some whole) there is = let same : life_as_cut (cut_of ends l) whole ≡ life = cc in subst P same (each whole there)

life_cut : (ends : List (Option CutAt)) (script : Script) (end : Option CutAt) (life : Life) → IsLifeIn script life → IsLifeIn (as_cut ends script) (life_as_cut end life)
life_cut ends script end life its = record {
  anchor = its.anchor;
  no_sync = its.no_sync;
  events = all_within (IsEventIn script.blocks) end life.events its.events;
  anew = anew_within end life.events its.anew;
}

pub inclusion_as_cut : StaysOfInclusion
inclusion_as_cut ends script form = record {
  plain = form.plain;
  reshares = form.reshares;
  own = form.own;
  in_bound = form.in_bound;
  short = form.short;
  rising = form.rising;
  blocks = form.blocks;
  placed = form.placed;
  lives = λ l. at_its_index ends script.lives l (IsLifeIn (as_cut ends script)) (λ life is. life_cut ends script (cut_of ends l) life (form.lives l life is));
}
