-- What keeping the dealings means for this node: an acknowledged dealing is found again, whatever a crash now leaves,
-- until an epoch two above has begun.
use Rattle.std.proofs.Common.{ℕ, ◌+◌, ◌<◌, List, [], ◌∷◌, ◌≡◌, refl, sym, ap, subst, Some, None, Bool, true, false, length}
use Rattle.std.specs.Prelude.{cond, unwrap_or, nat_eq, ◌&&◌}
use Rattle.std.proofs.lemmas.List.Sums.{fold-append}
use Rattle.std.proofs.lemmas.Bool.{eqb-true}
use Rattle.dkg_journal.specs.Names.{Files}
use Rattle.dkg_infos.specs.declared.entry.Entry.{Entry}
use Rattle.dkg_infos.specs.declared.entry.Entry.TheVariants.{Ack}
use Rattle.dkg_infos.specs.declared.entry.Restored.{Restored}
use Rattle.dkg_script.specs.Setting.{recovered_from}
use Rattle.dkg_script.specs.Position.{begun}
use Rattle.dkg_script.specs.Progress.{read, at_start, progress, pair_of, has_pair_key}
use Rattle.dkg_script.specs.Kept.{AllCurrent, Gives}
use Rattle.dkg_script.specs.Laws.{AcknowledgedSurvives, StandsFor}
use Rattle.dkg_script.proofs.OneAck.{of_sound, stays_along}

and_first : (a b : Bool) → (a && b) ≡ true → a ≡ true
and_first true b e = refl
and_first false b e = e

-- what is found of a list has what each element of the list has, and the key that was asked
of_found : (P : Restored → Type 0) (latest : ℕ) (xs : List Restored) (epoch dealer : ℕ) (x : Restored)
    → pair_of xs epoch dealer ≡ Some x → latest < epoch + 2 → AllCurrent latest P xs → P x
of_found P latest [] epoch dealer x e current all = absurd (none_is_not_some x e)
  where
    none_is_not_some : (x : Restored) → None ≡ Some x → ⊥
    none_is_not_some x e = cc
of_found P latest (y ∷ xs) epoch dealer x e current all =
    by_case (λ found. of_found P latest xs epoch dealer x found current all.1) (has_pair_key epoch dealer y) refl e
  where
    by_case : (pair_of xs epoch dealer ≡ Some x → P x) → (b : Bool) → has_pair_key epoch dealer y ≡ b → cond b (Some y) (pair_of xs epoch dealer) ≡ Some x → P x
    by_case later true has e =
        let same : y.epoch ≡ epoch = eqb-true y.epoch epoch (and_first (nat_eq y.epoch epoch) (nat_eq y.dealer dealer) has)
        in subst P (ap (λ o. unwrap_or o y) e) (all.0 (subst (λ n. latest < n + 2) (sym same) current))
    by_case later false has e = later e

pub survives : {D : Type 0} (image : D → Files → Type 0) → AcknowledgedSurvives image
unfolding progress
survives image s out disk secrets kept before after epoch dealer ack e current c is =
    let here : Entry = Ack epoch dealer ack
    in let a : StandsFor s (progress s before) epoch dealer ack
    = of_sound s (progress s before) epoch dealer ack (kept.each before here after e)
    in let still : pair_of (progress s out).recorded epoch dealer ≡ Some a.pair
    = subst (λ o. pair_of (progress s o).recorded epoch dealer ≡ Some a.pair) (sym e)
    (subst (λ p. pair_of p.recorded epoch dealer ≡ Some a.pair) (sym (fold-append (read s) (at_start s) before (here ∷ after)))
    (stays_along s (here ∷ after) (progress s before) a.pair epoch dealer a.recorded))
    in (
      a,
      of_found (Gives (recovered_from c secrets)) (begun s (progress s out).cuts (length (progress s out).cuts) (progress s out).step)
          (progress s out).recorded epoch dealer a.pair still current (kept.durable.gives c is),
    )
