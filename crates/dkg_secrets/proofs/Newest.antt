-- The newest entry of a map below a bound.
use Rattle.std.proofs.Common.{◌≡◌, ℕ, ◌<◌, ◌≤◌, ◌-◌, ◌==◌, nat_lt, arith, Bool, true, false, cond, List, [], ◌∷◌, ◌++◌, Option, Some, None, refl, sym, ◌∙◌, ap, subst}
use Rattle.std.specs.Prelude.{◌&&◌, filter, if◌then◌else◌}
use Rattle.std.proofs.Math.Dec.{T}
use Rattle.std.specs.List.{fold}
use Rattle.std.specs.FinMap.{FinMap, entries, entries_sorted, get, get-entries}
use Rattle.std.specs.FinMap.Entries.{below_all, find, is_sorted}
use Rattle.dkg_secrets.specs.Secrets.{newest_below}
use Rattle.std.specs.Ordering.{eq_by_cmp, is_lt, nat_cmp}
use Rattle.std.proofs.lemmas.Bool.Decides.{nat_tests}

parts : (a b : Bool) → T (a && b) → T a × T b
parts true b p = (tt, p)
parts false b p = absurd p

not_first : {V : Type 0} (b : Bool) (v : V) (o : Option V) → cond b (Some v) o ≡ None → (b ≡ false) × (o ≡ None)
not_first true v o is = absurd cc
not_first false v o is = (refl, is)

tie : (q k : ℕ) → eq_by_cmp nat_cmp q k ≡ (k == q)
tie q k = grind (arith, nat_tests)

less : (x y : ℕ) → T (is_lt (nat_cmp x y)) → x < y
less x y is = grind (arith, nat_tests)

-- entries above a key
none_below : {V : Type 0} (x : ℕ) (es : List (ℕ × V)) → T (below_all nat_cmp x es) → (j : ℕ) → j ≤ x → find nat_cmp j es ≡ None
none_below x [] above j low = refl
none_below {V} x (e ∷ es) above j low =
    let both = parts (is_lt (nat_cmp x e.0)) (below_all nat_cmp x es) above in
    let far : x < e.0 = less x e.0 both.0 in
    let apart : eq_by_cmp nat_cmp j e.0 ≡ false = tie j e.0 ∙ (grind (arith, nat_tests)) in
    ap (λ (b : Bool). cond b (Some e.1) (find nat_cmp j es)) apart ∙ none_below x es both.1 j low

module _ {V : Type 0} (bound : ℕ) where
  abbrev newer : Option V → ℕ × V → Option V
  newer newest s = if nat_lt s.0 bound then Some s.1 else newest

  none_newer : (es : List (ℕ × V)) (newest : Option V) → ((j : ℕ) → j < bound → find nat_cmp j es ≡ None) → fold newer newest es ≡ newest
  none_newer [] newest none = refl
  none_newer (e ∷ es) newest none = by_test (nat_lt e.0 bound) refl (none_newer es newest rest)
    where
      rest : (j : ℕ) → j < bound → find nat_cmp j es ≡ None
      rest j low = (not_first (eq_by_cmp nat_cmp j e.0) e.1 (find nat_cmp j es) (none j low)).1

      itself : e.0 < bound → ⊥
      itself low =
          let no = (not_first (eq_by_cmp nat_cmp e.0 e.0) e.1 (find nat_cmp e.0 es) (none e.0 low)).0 in
          let yes : (e.0 == e.0) ≡ true = grind (arith, nat_tests) in
          let h : true ≡ false = sym yes ∙ sym (tie e.0 e.0) ∙ no in absurd cc

      by_test : (b : Bool) → nat_lt e.0 bound ≡ b → fold newer newest es ≡ newest → fold newer (if nat_lt e.0 bound then Some e.1 else newest) es ≡ newest
      by_test true is go = absurd (itself (grind (arith, nat_tests)))
      by_test false is go = ap (λ (b : Bool). fold newer (if b then Some e.1 else newest) es) is ∙ go

  one_newer : (es : List (ℕ × V)) (newest : Option V) → T (is_sorted nat_cmp es) → (k : ℕ) (v : V) → k < bound → find nat_cmp k es ≡ Some v
      → ((j : ℕ) → k < j → j < bound → find nat_cmp j es ≡ None) → fold newer newest es ≡ Some v
  one_newer [] newest rising k v low has none = absurd cc
  one_newer (e ∷ es) newest rising k v low has none = by_test (eq_by_cmp nat_cmp k e.0) refl (λ n has_it. one_newer es n both.1 k v low has_it later)
    where
      both : T (below_all nat_cmp e.0 es) × T (is_sorted nat_cmp es)
      both = parts (below_all nat_cmp e.0 es) (is_sorted nat_cmp es) rising

      later : (j : ℕ) → k < j → j < bound → find nat_cmp j es ≡ None
      later j above below = (not_first (eq_by_cmp nat_cmp j e.0) e.1 (find nat_cmp j es) (none j above below)).1

      by_test : (b : Bool) → eq_by_cmp nat_cmp k e.0 ≡ b → ((n : Option V) → find nat_cmp k es ≡ Some v → fold newer n es ≡ Some v) → fold newer (newer newest e) es ≡ Some v
      by_test true is go =
          let same : e.0 ≡ k = let t : (e.0 == k) ≡ true = sym (tie k e.0) ∙ is in grind (arith, nat_tests) in
          let value : Some e.1 ≡ Some v = sym (ap (λ (b : Bool). cond b (Some e.1) (find nat_cmp k es)) is) ∙ has in
          let in_it : nat_lt e.0 bound ≡ true = grind (arith, nat_tests) in
          ap (λ (b : Bool). fold newer (if b then Some e.1 else newest) es) in_it
          ∙ none_newer es (Some e.1) (λ j below. by_order j below same (nat_lt k j) refl) ∙ value
        where
          by_order : (j : ℕ) → j < bound → e.0 ≡ k → (b : Bool) → nat_lt k j ≡ b → find nat_cmp j es ≡ None
          by_order j below same true is = later j (grind (arith, nat_tests)) below
          by_order j below same false is = none_below e.0 es both.0 j (grind (arith, nat_tests))
      by_test false is go = go (newer newest e) (sym (ap (λ (b : Bool). cond b (Some e.1) (find nat_cmp k es)) is) ∙ has)

-- OF A MAP

-- the value at the highest key below the bound
pub newest_is : {V : Type 0} (m : FinMap nat_cmp V) (bound k : ℕ) (v : V) → k < bound → get m k ≡ Some v → ((j : ℕ) → k < j → j < bound → get m j ≡ None)
    → newest_below (entries m) bound ≡ Some v
newest_is m bound k v low has none =
    one_newer bound (entries m) None (entries_sorted m) k v low (sym (get-entries m k) ∙ has) (λ j above below. sym (get-entries m j) ∙ none j above below)

-- .. or there is none
pub newest_none : {V : Type 0} (m : FinMap nat_cmp V) (bound : ℕ) → ((j : ℕ) → j < bound → get m j ≡ None)
    → newest_below (entries m) bound ≡ None
newest_none m bound none = none_newer bound (entries m) None (λ j below. sym (get-entries m j) ∙ none j below)

-- Those below the bound, and the last of them.
newest_filtered : {V : Type 0} (bound : ℕ) (es : List (ℕ × V)) (newest : Option V)
    → fold (λ newest p. if nat_lt p.0 bound then Some p.1 else newest) newest es ≡ fold (λ _ p. Some p.1) newest (filter (λ e. nat_lt e.0 bound) es)
newest_filtered bound [] newest = refl
newest_filtered {V} bound (e ∷ es) newest = by_test (nat_lt e.0 bound) (newest_filtered bound es (Some e.1)) (newest_filtered bound es newest)
  where
    by_test : (b : Bool) → fold (λ newest p. if nat_lt p.0 bound then Some p.1 else newest) (Some e.1) es ≡ fold (λ _ p. Some p.1) (Some e.1) (filter (λ e. nat_lt e.0 bound) es)
        → fold (λ newest p. if nat_lt p.0 bound then Some p.1 else newest) newest es ≡ fold (λ _ p. Some p.1) newest (filter (λ e. nat_lt e.0 bound) es)
        → fold (λ newest p. if nat_lt p.0 bound then Some p.1 else newest) (if b then Some e.1 else newest) es
        ≡ fold (λ _ p. Some p.1) newest (cond b (e ∷ filter (λ e. nat_lt e.0 bound) es) (filter (λ e. nat_lt e.0 bound) es))
    by_test true first rest = first
    by_test false first rest = rest

last_of : {V : Type 0} (ys : List (ℕ × V)) (y : ℕ × V) (newest : Option V) → fold (λ _ p. Some p.1) newest (ys ++ y ∷ []) ≡ Some y.1
last_of [] y newest = refl
last_of (x ∷ ys) y newest = last_of ys y (Some x.1)

pub newest_last : {V : Type 0} (bound : ℕ) (es ys : List (ℕ × V)) (y : ℕ × V) → filter (λ e. nat_lt e.0 bound) es ≡ ys ++ y ∷ [] → newest_below es bound ≡ Some y.1
newest_last {V} bound es ys y is = newest_filtered bound es None ∙ ap (λ (l : List (ℕ × V)). fold (λ _ p. Some p.1) None l) is ∙ last_of ys y None

pub newest_of_none : {V : Type 0} (bound : ℕ) (es : List (ℕ × V)) → filter (λ e. nat_lt e.0 bound) es ≡ [] → newest_below es bound ≡ None
newest_of_none {V} bound es is = newest_filtered bound es None ∙ ap (λ (l : List (ℕ × V)). fold (λ _ p. Some p.1) None l) is

-- none from one number on, and none at the one below
pub none_from : {V : Type 0} (m : FinMap nat_cmp V) (from bound : ℕ) → 0 < from → ((k : ℕ) → from ≤ k → k < bound → get m k ≡ None) → get m (from - 1) ≡ None
    → (k : ℕ) → from - 1 ≤ k → k < bound → get m k ≡ None
none_from {V} m from bound some above here k low high = by_test (nat_lt k from) refl
  where
    by_test : (b : Bool) → nat_lt k from ≡ b → get m k ≡ None
    by_test true is = subst (λ (j : ℕ). get m j ≡ None) (let same : from - 1 ≡ k = grind (arith, nat_tests) in same) here
    by_test false is = above k (grind (arith, nat_tests)) high
