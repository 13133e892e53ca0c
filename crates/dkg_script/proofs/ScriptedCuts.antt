-- A transcript in order tells no ends of lives but those that the script lets them have. So what is presumed of a script holds of
-- the ends that any transcript in order tells.
use Rattle.std.proofs.Common.{ℕ, zero, suc, ◌<◌, ◌⊎◌, inl, inr, List, [], ◌∷◌, ◌++◌, ◌≡◌, refl, Option, Some, None, Bool, true, false, length, arith}
use Rattle.std.specs.Prelude.{fold, cond, slice_get, IsSomeAnd, IfSome, ◌==◌}
use Rattle.std.specs.Option.{option_map_or}
use Rattle.std.proofs.lemmas.Bool.{eqb-true}
use Rattle.dkg_text.specs.declared.script.Cut.{Cut as ScriptCut}
use Rattle.dkg_infos.specs.declared.entry.Entry.{Entry}
use Rattle.dkg_infos.specs.declared.entry.Entry.TheVariants.{Cut, Step}
use Rattle.dkg_text.specs.declared.script.Life.{Life}
use Rattle.dkg_script.specs.Setting.{Setting, CutAt, life_at}
use Rattle.dkg_script.specs.Progress.{Progress, read, at_start, progress, is_last_step, with_life_ended}
use Rattle.dkg_script.specs.Consistent.{MayEnd, MayEndSo}
use Rattle.dkg_script.specs.Order.{IsInOrder, InOrder, IsOrderedStep, IsOrderedCut}
use Rattle.dkg_script.specs.Laws.{EndsAsScripted}
use Rattle.dkg_script.proofs.EachEntry.{EachAfter, all_splits}

abbrev MayEndIts : Option CutAt → Life → Type 0
MayEndIts end life = MayEnd (length life.events) life.cut end

one_more_end : (lives : List Life) (ends : List (Option CutAt)) (end : Option CutAt) → MayEndSo lives ends
    → IsSomeAnd (slice_get lives (length ends)) (MayEndIts end) → MayEndSo lives (ends ++ end ∷ [])
one_more_end [] [] end so next = absurd next
one_more_end (life ∷ lives) [] end so next = (next, tt)
one_more_end [] (first ∷ ends) end so next = absurd so
one_more_end (life ∷ lives) (first ∷ ends) end so next = (so.0, one_more_end lives ends end so.1 next)

-- a life that was run to its last step misses its cut
missed : (step at call n : ℕ) → (call ≡ 0 → step < at) → step ≡ n → (0 < call) ⊎ (n < at)
missed step at zero n begins last = inr (let below : step < at = begins refl in omega arith)
missed step at (suc call) n begins last = inl (omega arith)

no_cut : (step n : ℕ) (cut : Option ScriptCut) → IfSome cut (λ cut. cut.call ≡ 0 → step < cut.step) → step ≡ n → MayEnd n cut None
no_cut step n None begins last = refl
no_cut step n (Some cut) begins last = inr (missed step cut.step cut.call n begins last, refl)

ended : (p : Progress) (step : ℕ) (life : Option Life) → IsSomeAnd life (IsOrderedStep p step)
    → option_map_or (λ life. p.step == length life.events) life false ≡ true → IsSomeAnd life (MayEndIts None)
ended p step None ordered last = absurd ordered
ended p step (Some life) ordered last = no_cut p.step (length life.events) life.cut ordered.begins (eqb-true p.step (length life.events) last)

same_cut : (n step call : ℕ) (cut : Option ScriptCut) → IsSomeAnd cut (λ cut. (cut.step ≡ step) × (cut.call ≡ call)) → MayEnd n cut (Some (record { step = step; call = call }))
same_cut n step call None of_script = absurd of_script
same_cut n step call (Some cut) of_script = inl (same step call cut.step cut.call of_script.0 of_script.1)
  where
    same : (a b a' b' : ℕ) → a' ≡ a → b' ≡ b → ◌≡◌ {A = Option CutAt} (Some (record { step = a; call = b })) (Some (record { step = a'; call = b' }))
    same a b a' b' e f = cc

was_cut : (p : Progress) (step call : ℕ) (life : Option Life) → IsSomeAnd life (IsOrderedCut p step call)
    → IsSomeAnd life (MayEndIts (Some (record { step = step; call = call })))
was_cut p step call None ordered = absurd ordered
was_cut p step call (Some life) ordered = same_cut (length life.events) step call life.cut ordered.of_script

module _ (s : Setting) where
  abbrev EndSo : Progress → Type 0
  EndSo p = MayEndSo s.script.lives p.cuts

  one_more : (p : Progress) (entry : Entry) → IsInOrder s p entry → EndSo p → EndSo (read s p entry)
  one_more p (Cut step call) ordered so =
      one_more_end s.script.lives p.cuts (Some (record { step = step; call = call })) so (was_cut p step call (life_at s (length p.cuts)) ordered)
  one_more p (Step step) ordered so = by_case (is_last_step s p) refl
    where
      by_case : (last : Bool) → is_last_step s p ≡ last → EndSo (cond last (with_life_ended p None) (record p { step = suc p.step; written = [] }))
      by_case true e = one_more_end s.script.lives p.cuts None so (ended p step (life_at s (length p.cuts)) ordered e)
      by_case false e = so
  one_more p other ordered so = so

  all_more : (out : List Entry) (p : Progress) → EachAfter s (IsInOrder s) p out → EndSo p → EndSo (fold (read s) p out)
  all_more [] p each so = so
  all_more (entry ∷ out) p each so = all_more out (read s p entry) each.1 (one_more p entry each.0 so)

  end_so : (out : List Entry) → InOrder s out → EndSo (progress s out)
  unfolding progress InOrder
  end_so out ordered = all_more out (at_start s) (all_splits s (IsInOrder s) out (at_start s) ordered) tt

pub ends_as_scripted : EndsAsScripted
ends_as_scripted s out ordered = end_so s out ordered
