-- Counting loose bytes by spans in the order of their starts.
use Rattle.std.proofs.Common.{◌≡◌, inl, inr, ℕ, zero, suc, ◌+◌, ◌-◌, ◌<◌, ◌≤◌, ◌&&◌, ◌||◌, min, max, nat_le, nat_lt, Bool, true, false, cond, List, [], ◌∷◌, length, get_or, take, refl, sym, ◌∙◌, ap, arith}
use Rattle.std.specs.List.{list_any}
use Rattle.std.specs.List.Sorted.{IsNonDecreasingBy}
use Rattle.std.proofs.lemmas.Bool.{cases_lt}
use Rattle.std.proofs.lemmas.Bool.Decides.{nat_tests}
use Rattle.std.proofs.lemmas.List.Folds.{list_any_more, list_any_at}
use Rattle.std.proofs.lemmas.List.{take_all}
use Rattle.dkg_journal.specs.Kept.{loose_by, count_below, IsBehind}
use Rattle.dkg_journal.specs.declared.file.Span.{Span}

abbrev pub covers : ℕ → Span → Bool
covers i s = nat_le s.start i && nat_lt i s.end

abbrev pub by_spans : List Span → ℕ → Bool
by_spans ss i = list_any (covers i) ss

-- a stretch in which no place passes, or each
count_step_none : (t : ℕ → Bool) (a k : ℕ) → ((i : ℕ) → a ≤ i → i < a + k → t i ≡ false) → count_below t (a + k) ≡ count_below t a
count_step_none t a zero none = let same : a + 0 ≡ a = omega arith in ap (count_below t) same
count_step_none t a (suc k) none =
    let same : a + suc k ≡ suc (a + k) = omega arith in
    ap (count_below t) same ∙ ap (λ (b : Bool). count_below t (a + k) + cond b 1 0) (none (a + k) (omega arith) (omega arith))
    ∙ (let all : count_below t (a + k) ≡ count_below t a = count_step_none t a k (λ i low high. none i low (omega (arith, high))) in omega (arith, all))

count_step_all : (t : ℕ → Bool) (a k : ℕ) → ((i : ℕ) → a ≤ i → i < a + k → t i ≡ true) → count_below t (a + k) ≡ count_below t a + k
count_step_all t a zero all = let same : a + 0 ≡ a = omega arith in ap (count_below t) same ∙ omega arith
count_step_all t a (suc k) all =
    let same : a + suc k ≡ suc (a + k) = omega arith in
    ap (count_below t) same ∙ ap (λ (b : Bool). count_below t (a + k) + cond b 1 0) (all (a + k) (omega arith) (omega arith))
    ∙ (let rest : count_below t (a + k) ≡ count_below t a + k = count_step_all t a k (λ i low high. all i low (omega (arith, high))) in omega (arith, rest))

pub count_none : (t : ℕ → Bool) (a b : ℕ) → a ≤ b → ((i : ℕ) → a ≤ i → i < b → t i ≡ false) → count_below t b ≡ count_below t a
count_none t a b le none =
    let is : a + (b - a) ≡ b = omega (arith, le) in
    sym (ap (count_below t) is) ∙ count_step_none t a (b - a) (λ i low high. none i low (omega (arith, high, is)))

pub count_all : (t : ℕ → Bool) (a b : ℕ) → a ≤ b → ((i : ℕ) → a ≤ i → i < b → t i ≡ true) → count_below t b ≡ count_below t a + (b - a)
count_all t a b le all =
    let is : a + (b - a) ≡ b = omega (arith, le) in
    sym (ap (count_below t) is) ∙ count_step_all t a (b - a) (λ i low high. all i low (omega (arith, high, is)))

count_suc : (t : ℕ → Bool) (a k : ℕ) → count_below t a ≤ count_below t (a + k)
count_suc t a zero = let same : a + 0 ≡ a = omega arith in omega (arith, ap (count_below t) same)
count_suc t a (suc k) =
    let same : a + suc k ≡ suc (a + k) = omega arith in
    let more : count_below t (suc (a + k)) ≡ count_below t (a + k) + cond (t (a + k)) 1 0 = refl in
    omega (arith, ap (count_below t) same, more, count_suc t a k)

pub count_rises : (t : ℕ → Bool) (a b : ℕ) → a ≤ b → count_below t a ≤ count_below t b
count_rises t a b le = let is : a + (b - a) ≡ b = omega (arith, le) in omega (arith, count_suc t a (b - a), ap (count_below t) is)

-- what spans cover
covered : (i : ℕ) (s : Span) → s.start ≤ i → i < s.end → covers i s ≡ true
covered i s low high = grind (arith, nat_tests)

uncovered_low : (i : ℕ) (s : Span) → i < s.start → covers i s ≡ false
uncovered_low i s low = grind (arith, nat_tests)

uncovered_high : (i : ℕ) (s : Span) → s.end ≤ i → covers i s ≡ false
uncovered_high i s high = grind (arith, nat_tests)

loose_end : (synced i : ℕ) (t : ℕ → Bool) → synced ≤ i → loose_by synced t i ≡ true
loose_end synced i t high = ap (λ (b : Bool). b || t i) (over synced i high)
  where
    over : (a b : ℕ) → a ≤ b → nat_le a b ≡ true
    over a b le = grind (arith, nat_tests)

loose_touched : (synced i : ℕ) (t : ℕ → Bool) → t i ≡ true → loose_by synced t i ≡ true
loose_touched synced i t is = ap (λ (b : Bool). nat_le synced i || b) is ∙ or_true (nat_le synced i)
  where
    or_true : (b : Bool) → (b || true) ≡ true
    or_true true = refl
    or_true false = refl

loose_not : (synced i : ℕ) (t : ℕ → Bool) → i < synced → t i ≡ false → loose_by synced t i ≡ false
loose_not synced i t low is = (λ k. under synced i low k || is k)
  where
    under : (a b : ℕ) → b < a → nat_le a b ≡ false
    under a b lt = grind (arith, nat_tests)

-- no span from an index on covers a place below their starts
later_none : (ss : List Span) (index : ℕ) (d : Span) (i : ℕ) → IsNonDecreasingBy (λ s. s.start) ss → index < length ss → i < (get_or ss index d).start → list_any (covers i) (take index ss) ≡ false → by_spans ss i ≡ false
later_none ss index d i rising low under front =
    walk ss index d i rising low under front
  where
    all_late : (xs : List Span) (i m : ℕ) → ((k : ℕ) (d : Span) → k < length xs → m ≤ (get_or xs k d).start) → i < m → list_any (covers i) xs ≡ false
    all_late [] i m late below = refl
    all_late (x ∷ xs) i m late below =
        ap (λ (b : Bool). b || list_any (covers i) xs) (uncovered_low i x (omega (arith, late 0 x (omega arith), below))) ∙ all_late xs i m (λ k d lt. late (suc k) d (omega (arith, lt))) below

    walk : (ss : List Span) (index : ℕ) (d : Span) (i : ℕ) → IsNonDecreasingBy (λ s. s.start) ss → index < length ss → i < (get_or ss index d).start → list_any (covers i) (take index ss) ≡ false → list_any (covers i) ss ≡ false
    walk [] index d i rising low under front = absurd (omega (arith, low))
    walk (x ∷ xs) zero d i rising low under front = all_late (x ∷ xs) i x.start (λ k e lt. rising 0 k e (omega arith) lt) under
    walk (x ∷ xs) (suc index) d i rising low under front =
        let parts = apart (covers i x) (list_any (covers i) (take index xs)) front in
        ap (λ (b : Bool). b || list_any (covers i) xs) parts.0 ∙ walk xs index d i (λ j k e le lt. rising (suc j) (suc k) e (omega (arith, le)) (omega (arith, lt))) (omega (arith, low)) under parts.1
      where
        apart : (a b : Bool) → (a || b) ≡ false → (a ≡ false) × (b ≡ false)
        apart true b is = absurd (cc)
        apart false b is = (refl, is)

-- THE SWEEP

-- All loose places below one are counted, and no span so far covers one from it on.
pub record Swept (ss : List Span) (synced len q at left index : ℕ) : Type 0 where
  pub inside : at ≤ len
  pub counted : count_below (loose_by synced (by_spans ss)) at + left ≡ q
  pub passed : (i : ℕ) → at ≤ i → i < len → list_any (covers i) (take index ss) ≡ false

pub swept_none : (ss : List Span) (synced len q : ℕ) → Swept ss synced len q 0 q 0
swept_none ss synced len q = record { inside = omega arith; counted = omega arith; passed = λ i low high. refl }

module _ (ss : List Span) (synced len q at left index : ℕ) (d : Span) (start stop : ℕ) (rising : IsNonDecreasingBy (λ s. s.start) ss) (swept : Swept ss synced len q at left index) (low : index < length ss)
    (is_start : start ≡ max (min (get_or ss index d).start synced) at) (is_stop : stop ≡ min (get_or ss index d).end len) where
  abbrev x : Span
  x = get_or ss index d

  one_more : (i : ℕ) → list_any (covers i) (take (index + 1) ss) ≡ (list_any (covers i) (take index ss) || covers i x)
  one_more i = list_any_more (covers i) ss index d low

  -- an empty span
  pub swept_skip : stop ≤ start → (at' left' : ℕ) → at' ≡ at → left' ≡ left → Swept ss synced len q at' left' (index + 1)
  swept_skip empty at' left' same_at same_left = record {
    inside = omega (arith, same_at, swept.inside);
    counted = omega (arith, ap (count_below (loose_by synced (by_spans ss))) same_at, same_left, swept.counted);
    passed = λ i above below. one_more i ∙ (λ k. swept.passed i (omega (arith, above, same_at)) below k || gone i (omega (arith, above, same_at)) below k);
  }
    where
      gone : (i : ℕ) → at ≤ i → i < len → covers i x ≡ false
      gone i above below = elim (cases_lt i x.start) [
        | inl under ↦ uncovered_low i x under
        | inr over ↦ uncovered_high i x (omega (arith, empty, above, below, over, is_start, is_stop))
      ]

  before : start < stop → (i : ℕ) → at ≤ i → i < start → loose_by synced (by_spans ss) i ≡ false
  before some i above under = loose_not synced i (by_spans ss) (omega (arith, above, under, is_start)) (later_none ss index d i rising low (omega (arith, above, under, is_start)) (swept.passed i above (omega (arith, under, some, is_stop))))

  within : start < stop → (i : ℕ) → start ≤ i → i < stop → loose_by synced (by_spans ss) i ≡ true
  within some i above under = elim (cases_lt i synced) [
    | inl early ↦ loose_touched synced i (by_spans ss) (list_any_at (covers i) ss index d low (covered i x (omega (arith, above, early, is_start)) (omega (arith, under, is_stop))))
    | inr late ↦ loose_end synced i (by_spans ss) late
  ]

  counts_start : start < stop → count_below (loose_by synced (by_spans ss)) start ≡ count_below (loose_by synced (by_spans ss)) at
  counts_start some = count_none (loose_by synced (by_spans ss)) at start (omega (arith, is_start)) (before some)

  counts_to : start < stop → (n : ℕ) → start + n ≤ stop → count_below (loose_by synced (by_spans ss)) (start + n) ≡ count_below (loose_by synced (by_spans ss)) at + n
  counts_to some n short =
      let all = count_all (loose_by synced (by_spans ss)) start (start + n) (omega arith) (λ i above under. within some i above (omega (arith, under, short))) in
      omega (arith, all, counts_start some)

  pub swept_span : start < stop → (at' left' : ℕ) → at' ≡ stop → stop - start ≤ left → left' ≡ left - (stop - start) → Swept ss synced len q at' left' (index + 1)
  swept_span some at' left' moved enough rest =
      let t = loose_by synced (by_spans ss) in
      let counts = counts_to some (stop - start) (omega (arith, some)) in
      let end : start + (stop - start) ≡ at' = omega (arith, some, moved) in
      record {
        inside = omega (arith, moved, is_stop);
        counted = omega (arith, ap (count_below t) end, counts, swept.counted, enough, rest);
        passed = λ i above below. one_more i ∙ (λ k. swept.passed i (omega (arith, above, some, moved, is_start)) below k || uncovered_high i x (omega (arith, above, below, moved, is_stop)) k);
      }

  -- the count ends in this span
  pub behind_span : start < stop → left < stop - start → IsBehind (loose_by synced (by_spans ss)) len q (start + left) 0
  behind_span some few =
      let t = loose_by synced (by_spans ss) in
      let here = counts_to some left (omega (arith, few)) in
      let end : start + (stop - start) ≡ stop = omega (arith, some) in
      let whole = counts_to some (stop - start) (omega (arith, some)) in
      let rest = count_rises t stop len (omega (arith, is_stop)) in
      let at_end = ap (count_below t) end in
      record {
        within = omega (arith, few, is_stop);
        counts = omega (arith, here, whole, rest, at_end, few, swept.counted);
        rest = omega (arith, whole, rest, at_end, few, swept.counted);
      }

-- .. or behind all of them
module _ (ss : List Span) (synced len q at left tail : ℕ) (fits : synced ≤ len) (index : ℕ) (ended : length ss ≤ index) (swept : Swept ss synced len q at left index) (is_tail : tail ≡ max synced at) where
  none : (i : ℕ) → at ≤ i → i < len → by_spans ss i ≡ false
  none i above below = ap (list_any (covers i)) (sym (take_all index ss ended)) ∙ swept.passed i above below

  counts_tail : (n : ℕ) → tail + n ≤ len → count_below (loose_by synced (by_spans ss)) (tail + n) ≡ count_below (loose_by synced (by_spans ss)) at + n
  counts_tail n short =
      let t = loose_by synced (by_spans ss) in
      let first = count_none t at tail (omega (arith, is_tail)) (λ i above under. loose_not synced i (by_spans ss) (omega (arith, above, under, is_tail)) (none i above (omega (arith, under, short)))) in
      let then = count_all t tail (tail + n) (omega arith) (λ i above under. loose_end synced i (by_spans ss) (omega (arith, above, is_tail))) in
      omega (arith, first, then)

  pub behind_tail : left < len - tail → IsBehind (loose_by synced (by_spans ss)) len q (tail + left) 0
  behind_tail few =
      let t = loose_by synced (by_spans ss) in
      let here = counts_tail left (omega (arith, few)) in
      let end : tail + (len - tail) ≡ len = omega (arith, swept.inside, fits, is_tail) in
      let whole = counts_tail (len - tail) (omega (arith, end)) in
      let at_end = ap (count_below t) end in
      record {
        within = omega (arith, few);
        counts = omega (arith, here, whole, at_end, few, swept.counted);
        rest = omega (arith, whole, at_end, few, swept.counted);
      }

  pub behind_all : len - tail ≤ left → (left' : ℕ) → left' ≡ left - (len - tail) → IsBehind (loose_by synced (by_spans ss)) len q len left'
  behind_all many left' rest =
      let t = loose_by synced (by_spans ss) in
      let end : tail + (len - tail) ≡ len = omega (arith, swept.inside, fits, is_tail) in
      let whole = counts_tail (len - tail) (omega (arith, end)) in
      let at_end = ap (count_below t) end in
      record {
        within = omega arith;
        counts = omega (arith, whole, at_end, many, swept.counted);
        rest = omega (arith, whole, at_end, many, swept.counted, rest);
      }
