-- Runs and calls of a history that grows.
use Rattle.std.proofs.Common.{◌≡◌, ℕ, ◌+◌, ◌≤◌, arith, append-nil, Bool, true, false, true≢false, List, [], ◌∷◌, ◌++◌, Option, Some, None, refl, sym, ap, ◌∙◌, subst, inl, inr, ⊎_elim, ◌⊎◌}
use Rattle.dkg_turn.specs.declared.turn.HistoryEntry.{HistoryEntry}
use Rattle.dkg_turn.specs.Rules.{PartOf, AddsOne}
use Rattle.dkg_turn.specs.History.{contains_number, put_if, calls_of, HasSeen, IsStamped, IsRunOfTurns, RunOf}

pub not_true : (b : Bool) → ¬ (b ≡ true) → b ≡ false
not_true true h = absurd (h refl)
not_true false h = refl

pub bool_is : (b : Bool) → (b ≡ true) ⊎ (b ≡ false)
bool_is true = inl refl
bool_is false = inr refl

module _ {A : Type 0} where
  pub nil_left : (xs ys : List A) → xs ++ ys ≡ [] → xs ≡ []
  nil_left [] ys e = refl
  nil_left (x ∷ xs) ys e = absurd (cc)

module _ {C R : Type 0} where
  put_if-append : (b : Bool) (e : HistoryEntry C R) (xs ys : List (HistoryEntry C R)) → put_if b e (xs ++ ys) ≡ put_if b e xs ++ ys
  put_if-append true e xs ys = refl
  put_if-append false e xs ys = refl

  pub calls_of-append : (ns : List ℕ) (xs ys : List (HistoryEntry C R)) → calls_of ns (xs ++ ys) ≡ calls_of ns xs ++ calls_of ns ys
  calls_of-append ns [] ys = refl
  calls_of-append ns (e ∷ es) ys = ap (put_if (contains_number ns e.caller) e) (calls_of-append ns es ys) ∙ put_if-append (contains_number ns e.caller) e (calls_of ns es) (calls_of ns ys)

  pub no_call : (ns : List ℕ) (e : HistoryEntry C R) → ¬ (contains_number ns e.caller ≡ true) → calls_of ns (e ∷ []) ≡ []
  no_call ns e h = ap (λ b. put_if b e []) (not_true (contains_number ns e.caller) h)

  pub own_call : (ns : List ℕ) (e : HistoryEntry C R) → contains_number ns e.caller ≡ true → calls_of ns (e ∷ []) ≡ e ∷ []
  own_call ns e h = ap (λ b. put_if b e []) h

  pub run_snoc : {T : Type 0} (turns : T → C → R → T → Type 0) (first last next : T) (es : List (HistoryEntry C R)) (e : HistoryEntry C R) → IsRunOfTurns turns first es last → turns last e.call e.reply next → IsRunOfTurns turns first (es ++ e ∷ []) next
  run_snoc {T} turns first last next [] e r h = (next, subst (λ (x : T). turns x e.call e.reply next) (sym r) h, refl)
  run_snoc {T} turns first last next (x ∷ xs) e r h = (r.0, r.1, run_snoc turns r.0 last next xs e r.2 h)

  pub run_of_snoc : {T : Type 0} (turns : T → C → R → T → Type 0) (start : Option T) (last next : T) (es : List (HistoryEntry C R)) (e : HistoryEntry C R) → RunOf turns start es last → turns last e.call e.reply next → RunOf turns start (es ++ e ∷ []) next
  run_of_snoc turns (Some first) last next es e r h = run_snoc turns first last next es e r h
  run_of_snoc turns None last next es e r h = absurd r

  pub fewer : (small big : List ℕ) → ((n : ℕ) → contains_number small n ≡ true → contains_number big n ≡ true) → (l : List (HistoryEntry C R)) → calls_of big l ≡ [] → calls_of small l ≡ []
  fewer small big sub [] e = refl
  fewer small big sub (x ∷ xs) e = ⊎_elim
      (λ t. let h : x ∷ calls_of big xs ≡ [] = subst (λ b. put_if b x (calls_of big xs) ≡ []) t e in absurd (cc))
      (λ f. ap (λ b. put_if b x (calls_of small xs)) (not_true (contains_number small x.caller) (λ h. true≢false (sym (sub x.caller h) ∙ f))) ∙ fewer small big sub xs (subst (λ b. put_if b x (calls_of big xs) ≡ []) f e))
      (bool_is (contains_number big x.caller))

  pub none_of : (l : List (HistoryEntry C R)) → calls_of [] l ≡ []
  none_of [] = refl
  none_of (x ∷ xs) = none_of xs

  pub empty_part : (numbers : List ℕ) (log : List (HistoryEntry C R)) → PartOf numbers [] [] log
  empty_part numbers log = ((λ n h. absurd (true≢false (sym h))), (log, refl, none_of log))

  pub stamped_below : (from a b : ℕ) (l : List (HistoryEntry C R)) → a ≤ b → IsStamped from a l → IsStamped from b l
  stamped_below from a b [] le h = omega arith
  stamped_below from a b (e ∷ es) le h = (h.0, stamped_below (e.ticket + 1) a b es le h.1)

  stamped_snoc : (from t : ℕ) (l : List (HistoryEntry C R)) (e : HistoryEntry C R) → e.ticket ≡ t → IsStamped from t l → IsStamped from (t + 1) (l ++ e ∷ [])
  stamped_snoc from t [] e is h = (omega arith, omega arith)
  stamped_snoc from t (x ∷ xs) e is h = (h.0, stamped_snoc (x.ticket + 1) t xs e is h.1)

  pub stamped_one : (t : ℕ) (l : List (HistoryEntry C R)) (e : HistoryEntry C R) → e.ticket ≡ t → IsStamped 0 t l → IsStamped 0 (t + 1) (l ++ e ∷ [])
  stamped_one t l e is h = stamped_snoc 0 t l e is h

  -- a stay with this ticket leaves one entry at most
  pub stamped_adds : (t : ℕ) (ns : List ℕ) (l ext : List (HistoryEntry C R)) → AddsOne t ns ext → IsStamped 0 t l → IsStamped 0 (t + 1) (l ++ ext)
  stamped_adds t ns l ext adds h = ⊎_elim
      (λ (e : ext ≡ []). subst (IsStamped 0 (t + 1)) (sym (append-nil l) ∙ ap (λ x. l ++ x) (sym e)) (stamped_below 0 t (t + 1) l (omega arith) h))
      (λ (x : (e : HistoryEntry C R) × (ext ≡ e ∷ []) × (contains_number ns e.caller ≡ true) × (e.ticket ≡ t)). subst (IsStamped 0 (t + 1)) (ap (λ y. l ++ y) (sym x.1)) (stamped_one t l x.0 x.3 h))
      adds

  -- of the callers' own calls, those seen before and the last one
  pub own_calls : (ns : List ℕ) (seen log : List (HistoryEntry C R)) (e : HistoryEntry C R) → HasSeen ns seen log → contains_number ns e.caller ≡ true → calls_of ns (log ++ e ∷ []) ≡ calls_of ns seen ++ e ∷ []
  own_calls ns seen log e h own =
      calls_of-append ns log (e ∷ []) ∙ (λ i. (ap (calls_of ns) h.1 ∙ calls_of-append ns seen h.0 ∙ ap (λ l. calls_of ns seen ++ l) h.2 ∙ append-nil (calls_of ns seen)) i ++ own_call ns e own i)
