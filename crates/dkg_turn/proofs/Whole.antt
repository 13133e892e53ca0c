-- The pass that has all parts is the only one that drew tickets or made calls.
use Rattle.std.proofs.Common.{◌≡◌, ◌≢◌, ℕ, zero, suc, ◌+◌, ◌-◌, ◌^◌, ◌≤◌, ◌||◌, Bool, true, false, true≢false, List, [], ◌∷◌, Option, refl, sym, ap, ◌∙◌, subst, arith, eq-eqb}
use mathlib.Core.Logic.{dite}
use mathlib.Core.Option.{some, some-injective, some-ne-none}
use native.Mathlib.Decide.{ℕ_discrete}
use lib.ListN.{get_elem?}
use Rattle.atomic_table.specs.Table.{State}
use Rattle.dkg_turn.specs.declared.turn.HistoryEntry.{HistoryEntry}
use Rattle.dkg_turn.specs.declared.view.Node.{Node}
use Rattle.dkg_turn.specs.declared.view.View.{View}
use Rattle.dkg_turn.specs.History.{contains_number, put_if, calls_of, HasNoneAbove}
use Rattle.dkg_turn.specs.Known.{AreDrawn}
use Rattle.dkg_turn.specs.Rules.{tickets_of, parts_of, KeepsLockRule}

module _ {C R : Type 0} where
  no_longer : (b : Bool) (e : HistoryEntry C R) (l : List (HistoryEntry C R)) → put_if b e l ≡ [] → l ≡ []
  no_longer true e l h = absurd (cc)
  no_longer false e l h = h

  all_own : (ns : List ℕ) (l : List (HistoryEntry C R)) → ((n : ℕ) → calls_of (n ∷ []) l ≢ [] → contains_number ns n ≡ true) → calls_of ns l ≡ l
  all_own ns [] own = refl
  all_own ns (x ∷ xs) own =
      let there : contains_number (x.caller ∷ []) x.caller ≡ true = ap (λ b. b || false) (eq-eqb x.caller x.caller refl) in
      let mine : contains_number ns x.caller ≡ true = own x.caller (λ z. let h : x ∷ calls_of (x.caller ∷ []) xs ≡ [] = subst (λ b. put_if b x (calls_of (x.caller ∷ []) xs) ≡ []) there z in absurd (cc)) in
      ap (λ b. put_if b x (calls_of ns xs)) mine ∙ ap (λ l. x ∷ l) (all_own ns xs (λ n h. own n (λ z. h (no_longer (contains_number (n ∷ []) x.caller) x (calls_of (n ∷ []) xs) z))))

module _ {A : Type 0} where
  must_be_empty : (l : List A) → ¬ (l ≢ []) → l ≡ []
  must_be_empty [] h = refl
  must_be_empty (x ∷ xs) h = absurd (h (λ e. absurd (cc)))

module _ {T C R : Type 0} where
  drew_le : (l : List (View T C R)) (i : ℕ) (v : View T C R) → get_elem? l i ≡ some v → v.drew ≤ tickets_of l
  drew_le [] i v e = absurd (some-ne-none v (sym e))
  drew_le (x ∷ xs) zero v e = let is : x.drew ≡ v.drew = ap (λ (m : View T C R). m.drew) (some-injective x v e) in omega arith
  drew_le (x ∷ xs) (suc i) v e = let r = drew_le xs i v e in omega arith

  parts_le : (l : List (View T C R)) (i : ℕ) (v : View T C R) → get_elem? l i ≡ some v → v.parts ≤ parts_of l
  parts_le [] i v e = absurd (some-ne-none v (sym e))
  parts_le (x ∷ xs) zero v e = let is : x.parts ≡ v.parts = ap (λ (m : View T C R). m.parts) (some-injective x v e) in omega arith
  parts_le (x ∷ xs) (suc i) v e = let r = parts_le xs i v e in omega arith

  two_parts : (l : List (View T C R)) (i j : ℕ) (v w : View T C R) → i ≢ j → get_elem? l i ≡ some v → get_elem? l j ≡ some w → v.parts + w.parts ≤ parts_of l
  two_parts [] i j v w ne e f = absurd (some-ne-none v (sym e))
  two_parts (x ∷ xs) zero zero v w ne e f = absurd (ne refl)
  two_parts (x ∷ xs) zero (suc j) v w ne e f = let is : x.parts ≡ v.parts = ap (λ (m : View T C R). m.parts) (some-injective x v e) in let r = parts_le xs j w f in omega arith
  two_parts (x ∷ xs) (suc i) zero v w ne e f = let is : x.parts ≡ w.parts = ap (λ (m : View T C R). m.parts) (some-injective x w f) in let r = parts_le xs i v e in omega arith
  two_parts (x ∷ xs) (suc i) (suc j) v w ne e f = let r = two_parts xs i j v w (λ q. ne (ap suc q)) e f in omega arith

  none_drew : (l : List (View T C R)) → ((j : ℕ) (u : View T C R) → get_elem? l j ≡ some u → u.drew ≡ 0) → tickets_of l ≡ 0
  none_drew [] h = refl
  none_drew (x ∷ xs) h = let a = h 0 x refl in let b = none_drew xs (λ j u e. h (suc j) u e) in omega arith

  one_drew : (l : List (View T C R)) (i : ℕ) (v : View T C R) → get_elem? l i ≡ some v → ((j : ℕ) (u : View T C R) → j ≢ i → get_elem? l j ≡ some u → u.drew ≡ 0) → tickets_of l ≡ v.drew
  one_drew [] i v e h = absurd (some-ne-none v (sym e))
  one_drew (x ∷ xs) zero v e h = let is : x.drew ≡ v.drew = ap (λ (m : View T C R). m.drew) (some-injective x v e) in let b = none_drew xs (λ j u f. h (suc j) u (λ q. omega arith) f) in omega arith
  one_drew (x ∷ xs) (suc i) v e h = let a = h 0 x (λ q. omega arith) refl in let b = one_drew xs i v e (λ j u ne f. h (suc j) u (λ q. ne (omega arith)) f) in omega arith

module _ {T C R : Type 0} (turns : T → C → R → T → Type 0) (start : T) where
  pub whole_knows : (s : State (Option (Node T C R)) (View T C R)) (r : KeepsLockRule turns start s) (id : ℕ) (v : View T C R) → get_elem? s.views id ≡ some v → v.parts ≡ 2 ^ 64 → (r.tickets ≡ v.drew) × (calls_of v.numbers r.log ≡ r.log)
  whole_knows s r id v at all =
      let others : (j : ℕ) (u : View T C R) → j ≢ id → get_elem? s.views j ≡ some u → u.parts ≡ 0 = λ j u ne e. let a = two_parts s.views id j v u (λ q. ne (sym q)) at e in let b = r.parts_of_all in omega arith in (
        sym r.drawn_by_all ∙ one_drew s.views id v at (λ j u ne e. ((r.each j u e).nothing (others j u ne e)).0),
        all_own v.numbers r.log (λ n h. let k = r.kept_by_one n h in dite (ℕ_discrete k.0 id)
            (λ same. subst (λ (u : View T C R). contains_number u.numbers n ≡ true) (some-injective k.1 v (sym (subst (λ (i : ℕ). get_elem? s.views i ≡ some k.1) same k.2) ∙ at)) k.3)
            (λ other. absurd (true≢false (sym (subst (λ (l : List ℕ). contains_number l n ≡ true) (((r.each k.0 k.1 k.2).nothing (others k.0 k.1 other k.2)).1) k.3))))),
      )

  -- of all tickets, a pass drew its own
  pub its_tickets : (s : State (Option (Node T C R)) (View T C R)) (r : KeepsLockRule turns start s) (id : ℕ) (v : View T C R) → get_elem? s.views id ≡ some v → AreDrawn r.tickets v.drew v.parts
  its_tickets s r id v at = let le = drew_le s.views id v at in let all = r.drawn_by_all in
      (r.tickets - v.drew, omega arith, λ p. let k = (whole_knows s r id v at p).0 in omega arith)

  -- a number above the serving word is no pass's, so no entry's either
  pub none_above : (s : State (Option (Node T C R)) (View T C R)) (r : KeepsLockRule turns start s) → HasNoneAbove r.serving r.log
  none_above s r n above = must_be_empty (calls_of (n ∷ []) r.log) (λ some_call. let k = r.kept_by_one n some_call in let low = (r.each k.0 k.1 k.2).named n k.3 in absurd (omega arith))
