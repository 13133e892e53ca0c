-- What a search finds among entries whose numbers rise, and what a change at that index leaves.
use Rattle.std.proofs.Common.{◌≡◌, ◌≢◌, ℕ, ◌+◌, ◌-◌, ◌<◌, ◌≤◌, List, [], ◌∷◌, ◌++◌, length, get_or, set, slice_get, Some, None, Result, Ok, Err, IfOk, IfErr, nat_cmp, is_lt, Less, Equal, Greater, sym, ap, subst, ◌∙◌, inl, inr, arith}
use Rattle.std.specs.FinMap.{find}
use Rattle.std.specs.List.Sorted.{IsStrictlyIncreasing, IsSearchInRange, IsBinarySearchResult, IsNonDecreasingBy, IsSortedBy}
use Rattle.std.specs.Map.{keys_of}
use Rattle.std.specs.Ordering.{ordering_index}
use Rattle.std.proofs.lemmas.Bool.{cases_lt}
use Rattle.std.proofs.lemmas.Bool.Decides.{nat_tests}
use Rattle.std.proofs.lemmas.Cmp.{nat_cmp_total, ranked}
use Rattle.std.proofs.lemmas.List.{length-map, get_or-map, map-set, map_push, set-get_or, length_push, get_or_push, get_or_append_left}
use Rattle.std.proofs.lemmas.List.Sorted.{searchable_from_sorted}
use Rattle.std.proofs.lemmas.Map.Keys.{below_from_sorted, sorted_from_strictly_increasing}
use Rattle.std.proofs.lemmas.Option.{slice_get_within, get_or_from_slice_get}
use Rattle.dkg_rising.specs.Indexes.{IsAt, IsGap}
use Rattle.dkg_rising.proofs.Finding.{find_nowhere}

-- a number above all, behind numbers that rise
rises_behind : (ks : List ℕ) (n : ℕ) → IsStrictlyIncreasing ks → ((k : ℕ) → k < length ks → get_or ks k 0 < n) → IsStrictlyIncreasing (ks ++ n ∷ [])
rises_behind ks n rises below k within =
    let long : length (ks ++ n ∷ []) ≡ length ks + 1 = length_push ks n in
    let here : get_or (ks ++ n ∷ []) k 0 ≡ get_or ks k 0 = get_or_append_left ks (n ∷ []) 0 k (omega arith) in
    elim (cases_lt (k + 1) (length ks)) [
      | inl before ↦
          let next : get_or (ks ++ n ∷ []) (k + 1) 0 ≡ get_or ks (k + 1) 0 = get_or_append_left ks (n ∷ []) 0 (k + 1) before in
          let step : get_or ks k 0 < get_or ks (k + 1) 0 = rises k before in
          omega arith
      | inr behind ↦
          let next : get_or (ks ++ n ∷ []) (k + 1) 0 ≡ n = get_or_push ks n 0 (k + 1) (omega arith) in
          let step : get_or ks k 0 < n = below k (omega arith) in
          omega arith
    ]

module _ {X : Type 0} where
  number_at : (es : List (ℕ × X)) (k : ℕ) (d : ℕ × X) → k < length es → get_or (keys_of es) k 0 ≡ (get_or es k d).0
  number_at es k d within = get_or-map (λ (e : ℕ × X). e.0) es k d 0 within

  length_numbers : (es : List (ℕ × X)) → length (keys_of es) ≡ length es
  length_numbers es = length-map es (λ (e : ℕ × X). e.0)

  -- what holds of the number of an entry at an index, whatever is read past the end
  by_number : (es : List (ℕ × X)) (P : ℕ → Type 0) (k : ℕ) → k < length es → ((d : ℕ × X) → P (get_or es k d).0) → P (get_or (keys_of es) k 0)
  by_number [] P k within all = absurd (omega arith)
  by_number (e ∷ es) P k within all = subst P (sym (number_at (e ∷ es) k e within)) (all e)

  rises_far : (es : List (ℕ × X)) (j k : ℕ) → IsStrictlyIncreasing (keys_of es) → j < k → k < length es → get_or (keys_of es) j 0 < get_or (keys_of es) k 0
  rises_far es j k rises less within =
      below_from_sorted (keys_of es) j k 0 (sorted_from_strictly_increasing (keys_of es) rises) less (omega (arith, length_numbers es))

  ordered : (es : List (ℕ × X)) → IsStrictlyIncreasing (keys_of es) → IsSortedBy (λ (a b : ℕ × X). is_lt (nat_cmp a.0 b.0)) es
  ordered es rises k d low within =
      let far : (get_or es k d).0 < (get_or es (k + 1) d).0 = omega (arith, rises_far es k (k + 1) rises (omega arith) within, number_at es k d (omega arith), number_at es (k + 1) d within) in
      grind (arith, nat_tests, far)

  searchable : (es : List (ℕ × X)) → IsStrictlyIncreasing (keys_of es) → (n : ℕ) → IsNonDecreasingBy (λ (e : ℕ × X). ordering_index (nat_cmp e.0 n)) es
  searchable es rises n = searchable_from_sorted nat_cmp_total (λ (e : ℕ × X). e.0) es n (ordered es rises)

  -- ---- where a search ends

  pub searched : (es : List (ℕ × X)) → IsStrictlyIncreasing (keys_of es) → (n : ℕ) (r : Result ℕ ℕ) → IsSearchInRange r (length es) → IsBinarySearchResult (λ (e : ℕ × X). nat_cmp e.0 n) es r
      → record { there : IfOk r (IsAt n es); absent : IfErr r (IsGap n es) }
  searched es rises n (Ok k) in_range equal = record {
    there = record { in_range = in_range; has_number = by_number es (λ m. m ≡ n) k in_range (λ d. ranked (get_or es k d).0 n Equal (sym (equal d))) };
    absent = tt;
  }
  searched es rises n (Err k) in_range parted =
      let within : k ≤ length es = in_range in
      let point = parted (searchable es rises n) in
      record {
        there = tt;
        absent = record {
          in_range = in_range;
          smaller = λ j less. by_number es (λ m. m < n) j (omega arith) (λ d. ranked (get_or es j d).0 n Less (sym (point.0 j d (omega arith) less)));
          greater = λ j from less. by_number es (λ m. n < m) j less (λ d. ranked (get_or es j d).0 n Greater (sym (point.1 j d from less)));
        };
      }

  pub gap_of_none : (es : List (ℕ × X)) (n : ℕ) → length es ≤ 0 → IsGap n es 0
  gap_of_none es n none = record {
    in_range = omega arith;
    smaller = λ k less. absurd (omega arith);
    greater = λ k from less. absurd (omega arith);
  }

  -- the number of the last entry
  last_number : (es : List (ℕ × X)) (last : ℕ × X) → slice_get es (length es - 1) ≡ Some last → get_or (keys_of es) (length es - 1) 0 ≡ last.0
  last_number es last is =
      number_at es (length es - 1) last (slice_get_within es (length es - 1) last is) ∙ ap (λ (e : ℕ × X). e.0) (get_or_from_slice_get es (length es - 1) last last is)

  pub gap_behind : (es : List (ℕ × X)) → IsStrictlyIncreasing (keys_of es) → (n : ℕ) (last : ℕ × X) → slice_get es (length es - 1) ≡ Some last → last.0 < n → IsGap n es (length es)
  gap_behind es rises n last is below =
      let some : length es - 1 < length es = slice_get_within es (length es - 1) last is in
      let top : get_or (keys_of es) (length es - 1) 0 < n = omega (arith, last_number es last is) in
      record {
        in_range = omega arith;
        smaller = λ k less. elim (cases_lt k (length es - 1)) [
          | inl before ↦ omega (arith, rises_far es k (length es - 1) rises before some)
          | inr behind ↦ let here : length es - 1 ≡ k = omega arith in subst (λ (j : ℕ). get_or (keys_of es) j 0 < n) here top
        ];
        greater = λ k from less. absurd (omega arith);
      }

  pub at_last : (es : List (ℕ × X)) (n : ℕ) (last : ℕ × X) → slice_get es (length es - 1) ≡ Some last → last.0 ≡ n → IsAt n es (length es - 1)
  at_last es n last is same = record { in_range = slice_get_within es (length es - 1) last is; has_number = last_number es last is ∙ same }

  -- ---- what an index tells

  pub none_before : (es : List (ℕ × X)) → IsStrictlyIncreasing (keys_of es) → (n k : ℕ) → IsAt n es k → (j : ℕ) → j < k → get_or (keys_of es) j 0 ≢ n
  none_before es rises n k there j less same = omega (arith, rises_far es j k rises less there.in_range, there.has_number)

  pub find_gap : (es : List (ℕ × X)) (n k : ℕ) → IsGap n es k → find nat_cmp n es ≡ None
  find_gap es n k gap = find_nowhere es n (λ j within same. elim (cases_lt j k) [
    | inl before ↦ omega (arith, gap.smaller j before)
    | inr behind ↦ omega (arith, gap.greater j behind within)
  ])

  -- ---- numbers still rise

  numbers-set : (es : List (ℕ × X)) (n k : ℕ) (v : X) → IsAt n es k → keys_of (set es k (n, v)) ≡ keys_of es
  numbers-set es n k v there =
      map-set (λ (e : ℕ × X). e.0) es k (n, v) ∙ ap (λ (m : ℕ). set (keys_of es) k m) (sym there.has_number) ∙ set-get_or (keys_of es) k 0

  pub rises-set : (es : List (ℕ × X)) → IsStrictlyIncreasing (keys_of es) → (n k : ℕ) (v : X) → IsAt n es k → IsStrictlyIncreasing (keys_of (set es k (n, v)))
  rises-set es rises n k v there = subst IsStrictlyIncreasing (sym (numbers-set es n k v there)) rises

  pub rises_push : (es : List (ℕ × X)) → IsStrictlyIncreasing (keys_of es) → (n k : ℕ) (v : X) → IsGap n es k → k ≡ length es → IsStrictlyIncreasing (keys_of (es ++ (n, v) ∷ []))
  rises_push es rises n k v gap behind =
      subst IsStrictlyIncreasing (sym (map_push (λ (e : ℕ × X). e.0) es (n, v))) (rises_behind (keys_of es) n rises (λ j within. gap.smaller j (omega (arith, length_numbers es))))
