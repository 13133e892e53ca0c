-- Where no dealing of an epoch is refused, each that is looked up passes.
use Rattle.std.proofs.Common.{◌≡◌, ℕ, ◌==◌, ◌^◌, nat_lt, cond, arith, Bool, true, false, List, [], ◌∷◌, map, filter, Option, Some, None, Result, Ok, Err, refl, ◌∙◌, ap, subst}
use Rattle.std.specs.Prelude.{IfSome, ◌&&◌}
use Rattle.std.specs.FinMap.{insert, entries, entries-insert}
use Rattle.std.specs.FinMap.Entries.{put, by_order}
use Rattle.std.specs.declared.cmp.Ordering.{Ordering}
use Rattle.std.specs.declared.cmp.Ordering.TheVariants.{Less, Equal, Greater}
use Rattle.std.proofs.lemmas.Bool.Decides.{nat_tests}
use Rattle.dkg_values.specs.Rising.{lookup}
use Rattle.dkg_secrets.specs.Keys.{key_cmp}
use Rattle.dkg_store.specs.Pairs.{Pairs}
use Rattle.dkg_store.specs.Recorded.{Pair, at_epoch, of_epoch, first_refused, refused_or}
use Rattle.dkg_secrets.proofs.Map.{keys_total, exact_keys}

module _ {E : Type 0} (check : ℕ → List ℕ → ℕ → Result (Unit {0}) E) where
  both : (r : Result (Unit {0}) E) (dealer : ℕ) (later : Option ℕ) → refused_or r dealer later ≡ None → (r ≡ Ok tt) × (later ≡ None)
  both (Ok tt) dealer later none = (refl, none)
  both (Err e) dealer later none = absurd (let h : ◌≡◌ {A = Option ℕ} (Some dealer) None = none in cc)

  same_key : (a b : ℕ) → (a == b) ≡ true → a ≡ b
  same_key a b e = grind (arith, nat_tests)

  all_pass : (ps : List Pair) → first_refused check ps ≡ None → (dealer : ℕ) → IfSome (lookup dealer (map (λ (p : Pair). (p.0.1, p.1)) ps)) (λ d. check dealer d.0 d.1 ≡ Ok tt)
  all_pass [] none dealer = tt
  all_pass (p ∷ ps) none dealer =
      let here = both (check p.0.1 p.1.0 p.1.1) p.0.1 (first_refused check ps) none in
      elim (p.0.1 == dealer) as (λ b. (p.0.1 == dealer) ≡ b → IfSome (cond b (Some p.1) (lookup dealer (map (λ (q : Pair). (q.0.1, q.1)) ps))) (λ d. check dealer d.0 d.1 ≡ Ok tt)) [
        | true ↦ λ e. subst (λ (k : ℕ). check k p.1.0 p.1.1 ≡ Ok tt) (same_key p.0.1 dealer e) here.0
        | false ↦ λ e. all_pass ps here.1 dealer
      ] refl

  pub passes_at : (epoch : ℕ) (pairs : Pairs) → first_refused check (of_epoch epoch pairs) ≡ None → (dealer : ℕ) → IfSome (lookup dealer (at_epoch epoch pairs)) (λ d. check dealer d.0 d.1 ≡ Ok tt)
  passes_at epoch pairs none dealer = all_pass (of_epoch epoch pairs) none dealer

  abbrev within : ℕ → Pair → Bool
  within epoch p = (p.0.0 == epoch) && nat_lt p.0.1 (2 ^ 32)

  abbrev refused : ℕ → List Pair → Option ℕ
  refused epoch ps = first_refused check (filter (within epoch) ps)

  -- one more that passes
  more : (epoch : ℕ) (p : Pair) (ps : List Pair) → check p.0.1 p.1.0 p.1.1 ≡ Ok tt → refused epoch ps ≡ None → refused epoch (p ∷ ps) ≡ None
  more epoch p ps passes none = elim (within epoch p) as (λ b. first_refused check (cond b (p ∷ filter (within epoch) ps) (filter (within epoch) ps)) ≡ None) [
    | true ↦ ap (λ (r : Result (Unit {0}) E). refused_or r p.0.1 (refused epoch ps)) passes ∙ none
    | false ↦ none
  ]

  -- .. one less
  fewer : (epoch : ℕ) (p : Pair) (ps : List Pair) → refused epoch (p ∷ ps) ≡ None → refused epoch ps ≡ None
  fewer epoch p ps = elim (within epoch p) as (λ b. first_refused check (cond b (p ∷ filter (within epoch) ps) (filter (within epoch) ps)) ≡ None → refused epoch ps ≡ None) [
    | true ↦ λ none. (both (check p.0.1 p.1.0 p.1.1) p.0.1 (refused epoch ps) none).1
    | false ↦ λ none. none
  ]

  -- .. one exchanged behind the first
  behind : (epoch : ℕ) (p : Pair) (ps qs : List Pair) → (refused epoch ps ≡ None → refused epoch qs ≡ None) → refused epoch (p ∷ ps) ≡ None → refused epoch (p ∷ qs) ≡ None
  behind epoch p ps qs goes = elim (within epoch p) as (λ b. first_refused check (cond b (p ∷ filter (within epoch) ps) (filter (within epoch) ps)) ≡ None → first_refused check (cond b (p ∷ filter (within epoch) qs) (filter (within epoch) qs)) ≡ None) [
    | true ↦ λ none. let each = both (check p.0.1 p.1.0 p.1.1) p.0.1 (refused epoch ps) none in
        ap (λ (r : Result (Unit {0}) E). refused_or r p.0.1 (refused epoch qs)) each.0 ∙ goes each.1
    | false ↦ goes
  ]

  put_one : (epoch : ℕ) (k : ℕ × ℕ) (v : List ℕ × ℕ) (q : Pair) (es : List Pair) (o : Ordering) → key_cmp k q.0 ≡ o → check k.1 v.0 v.1 ≡ Ok tt → (refused epoch es ≡ None → refused epoch (put key_cmp k v es) ≡ None)
      → refused epoch (q ∷ es) ≡ None → refused epoch (by_order o ((k, v) ∷ q ∷ es) ((q.0, v) ∷ es) (q ∷ put key_cmp k v es)) ≡ None
  put_one epoch k v q es Less is passes goes none = more epoch (k, v) (q ∷ es) passes none
  put_one epoch k v q es Equal is passes goes none = more epoch (q.0, v) es (subst (λ (j : ℕ × ℕ). check j.1 v.0 v.1 ≡ Ok tt) (exact_keys k q.0 is) passes) (fewer epoch q es none)
  put_one epoch k v q es Greater is passes goes none = behind epoch q es (put key_cmp k v es) goes none

  put_passes : (epoch : ℕ) (k : ℕ × ℕ) (v : List ℕ × ℕ) (es : List Pair) → check k.1 v.0 v.1 ≡ Ok tt → refused epoch es ≡ None → refused epoch (put key_cmp k v es) ≡ None
  put_passes epoch k v [] passes none = more epoch (k, v) [] passes none
  put_passes epoch k v (q ∷ es) passes none = put_one epoch k v q es (key_cmp k q.0) refl passes (put_passes epoch k v es passes) none

  -- a dealing that passes, recorded beside those that pass
  pub one_more_passes : (epoch : ℕ) (k : ℕ × ℕ) (v : List ℕ × ℕ) (pairs : Pairs) → check k.1 v.0 v.1 ≡ Ok tt → first_refused check (of_epoch epoch pairs) ≡ None → first_refused check (of_epoch epoch (insert pairs k v)) ≡ None
  one_more_passes epoch k v pairs passes none = ap (refused epoch) (entries-insert keys_total pairs k v) ∙ put_passes epoch k v (entries pairs) passes none
