-- A pair put into a tree stands where it does in a map.
use Rattle.std.proofs.Common.{◌≡◌, ℕ, ◌+◌, ◌≤◌, false, eqb, List, [], ◌∷◌, length, Option, Some, None, inl, inr, refl, ap, sym, arith}
use Rattle.std.specs.BTreeMap.{insert_entry}
use Rattle.std.specs.Ordering.{nat_cmp}
use Rattle.std.specs.declared.cmp.Ordering.TheVariants.{Less, Equal, Greater}
use Rattle.std.proofs.lemmas.Bool.{eq-eqb, lt-ltb, le-ltb, cases_lt}
use Rattle.std.proofs.lemmas.Bool.Decides.{nat_tests}
use Rattle.dkg_values.specs.Rising.{with_pair}
use Rattle.dkg_ceremony.specs.declared.dealer_log.DealerLog.{DealerLog}
use Rattle.dkg_ceremony.specs.Outcomes.{LogMap}
use Rattle.dkg_artifact.specs.Found.{with_log}

pub put_pair : {V : Type 0} (k : ℕ) (v : V) (es : List (ℕ × V)) → insert_entry nat_cmp es k v ≡ with_pair (k, v) es
put_pair k v [] = refl
put_pair {V} k v (e ∷ es) =
    elim (cases_lt k e.0) [
      | inl lt ↦ let less : nat_cmp k e.0 ≡ Less = grind (arith, nat_tests) in rw (less, lt-ltb k e.0 lt) refl
      | inr ge ↦ elim (cases_lt e.0 k) [
        | inl gt ↦
            let greater : nat_cmp k e.0 ≡ Greater = grind (arith, nat_tests) in
            let other : eqb k e.0 ≡ false = grind (arith, nat_tests) in
            rw (greater, le-ltb k e.0 ge, other) (ap (λ (l : List (ℕ × V)). e ∷ l) (put_pair k v es))
        | inr eq ↦
            let one : k ≡ e.0 = omega arith in
            let equal : nat_cmp k e.0 ≡ Equal = grind (arith, nat_tests) in
            rw (equal, le-ltb k e.0 ge, eq-eqb k e.0 one) (ap (λ (n : ℕ). (n, v) ∷ es) (sym one))
      ]
    ]

pair_length : {V : Type 0} (p : ℕ × V) (ps : List (ℕ × V)) → length (with_pair p ps) ≤ length ps + 1
pair_length p [] = omega arith
pair_length p (q ∷ qs) =
    elim (cases_lt p.0 q.0) [
      | inl lt ↦ rw (lt-ltb p.0 q.0 lt) (omega arith)
      | inr ge ↦ elim (cases_lt q.0 p.0) [
        | inl gt ↦ let other : eqb p.0 q.0 ≡ false = grind (arith, nat_tests) in rw (le-ltb p.0 q.0 ge, other) (omega (arith, pair_length p qs))
        | inr eq ↦ let one : p.0 ≡ q.0 = omega arith in rw (le-ltb p.0 q.0 ge, eq-eqb p.0 q.0 one) (omega arith)
      ]
    ]

-- A log makes the found ones one more at most.
pub log_length : (log : Option (ℕ × DealerLog)) (found : LogMap) → length (with_log log found) ≤ length found + 1
log_length None found = omega arith
log_length (Some p) found = pair_length p found
