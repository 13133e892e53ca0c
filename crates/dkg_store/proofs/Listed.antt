-- The acknowledgements that pass a check, as a list in the order of what is recorded.
use Rattle.std.proofs.Common.{◌≡◌, ℕ, Bool, true, false, cond, is_ok, List, [], ◌∷◌, ◌++◌, fold, Result, Ok, Err, sym, ◌∙◌, ap}
use Rattle.std.specs.Prelude.{◌&&◌}
use Rattle.std.specs.Ordering.{nat_cmp, is_lt}
use Rattle.std.specs.Cmp.{nat_cmp_total}
use Rattle.std.specs.FinMap.{entries, entries-insert, empty, insert, nat_cmp-IsAntisymmetric}
use Rattle.std.specs.FinMap.Entries.{is_sorted, below_all}
use Rattle.std.proofs.lemmas.List.{append-nil}
use Rattle.std.proofs.lemmas.Bool.{and_parts}
use Rattle.dkg_ceremony.specs.declared.ceremony.AckError.{AckError}
use Rattle.dkg_store.specs.Dealer.{AckMap, passing, passing_acks, with_passed}
use Rattle.dkg_store.specs.Noted.{Notes}
use Rattle.dkg_store.specs.Recorded.{at_epoch}
use Rattle.dkg_store.proofs.Epochs.{sorted_epoch}
use Rattle.dkg_secrets.proofs.Map.{is_sorted_true}
use Rattle.dkg_store.proofs.Own.{none_yet, put_last, one_by_one}

abbrev Acks : Type 0
Acks = List (ℕ × List ℕ)

both_are : (a b : Bool) → a ≡ true → b ≡ true → (a && b) ≡ true
both_are true b p q = q
both_are false b p q = absurd cc

-- one less in the middle of what is above a key, or rises
below_less : (k : ℕ) (es rest : Acks) (x : ℕ × List ℕ) → below_all nat_cmp k (es ++ x ∷ rest) ≡ true → below_all nat_cmp k (es ++ rest) ≡ true
below_less k [] rest x is = (and_parts (is_lt (nat_cmp k x.0)) (below_all nat_cmp k rest) is).1
below_less k (e ∷ es) rest x is =
    let both = and_parts (is_lt (nat_cmp k e.0)) (below_all nat_cmp k (es ++ x ∷ rest)) is in
    both_are (is_lt (nat_cmp k e.0)) (below_all nat_cmp k (es ++ rest)) both.0 (below_less k es rest x both.1)

sorted_less : (es rest : Acks) (x : ℕ × List ℕ) → is_sorted nat_cmp (es ++ x ∷ rest) ≡ true → is_sorted nat_cmp (es ++ rest) ≡ true
sorted_less [] rest x is = (and_parts (below_all nat_cmp x.0 rest) (is_sorted nat_cmp rest) is).1
sorted_less (e ∷ es) rest x is =
    let both = and_parts (below_all nat_cmp e.0 (es ++ x ∷ rest)) (is_sorted nat_cmp (es ++ x ∷ rest)) is in
    both_are (below_all nat_cmp e.0 (es ++ rest)) (is_sorted nat_cmp (es ++ rest)) (below_less e.0 es rest x both.0) (sorted_less es rest x both.1)

module _ (check : ℕ → List ℕ → Result (Unit {0}) AckError) where
  abbrev step : AckMap → ℕ × List ℕ → AckMap
  step m a = with_passed m a (check a.0 a.1)

  last_one : (m : AckMap) (x : ℕ × List ℕ) (rest : Acks) → is_sorted nat_cmp (entries m ++ x ∷ rest) ≡ true → entries (insert m x.0 x.1) ≡ entries m ++ x ∷ []
  last_one m x rest sorted = entries-insert nat_cmp_total m x.0 x.1 ∙ put_last x.0 x.1 (entries m) rest sorted

  all_listed : (acks : Acks) (m : AckMap) → is_sorted nat_cmp (entries m ++ acks) ≡ true → entries (fold step m acks) ≡ entries m ++ passing_acks check acks
  all_listed [] m sorted = sym (append-nil (entries m))
  all_listed (x ∷ rest) m sorted =
      elim (check x.0 x.1) as (λ r. entries (fold step (with_passed m x r) rest) ≡ entries m ++ cond (is_ok r) (x ∷ passing_acks check rest) (passing_acks check rest)) [
        | Ok passed ↦
            let last = last_one m x rest sorted in
            all_listed rest (insert m x.0 x.1) (ap (λ (es : Acks). is_sorted nat_cmp (es ++ rest)) last ∙ ap (is_sorted nat_cmp) (one_by_one (entries m) rest x) ∙ sorted)
            ∙ ap (λ (es : Acks). es ++ passing_acks check rest) last ∙ one_by_one (entries m) (passing_acks check rest) x
        | Err error ↦ all_listed rest m (sorted_less (entries m) rest x sorted)
      ]

  pub passing_listed : (epoch : ℕ) (acks : Notes (List ℕ)) → entries (passing check (at_epoch epoch acks)) ≡ passing_acks check (at_epoch epoch acks)
  passing_listed epoch acks =
      let sorted = is_sorted_true nat_cmp_total nat_cmp-IsAntisymmetric (at_epoch epoch acks) (sorted_epoch epoch acks) in
      all_listed (at_epoch epoch acks) empty (ap (λ (es : Acks). is_sorted nat_cmp (es ++ at_epoch epoch acks)) none_yet ∙ sorted)
      ∙ ap (λ (es : Acks). es ++ passing_acks check (at_epoch epoch acks)) none_yet
