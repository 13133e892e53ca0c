-- Requests at their ranks: where the next of a number waits, and what becomes of them.
use Rattle.std.proofs.Common.{Option, Some, None, is_some, unwrap_or, ◌≡◌, ◌≢◌, ◌<◌, ◌≤◌, ◌++◌, ◌+◌, ◌-◌, ◌^◌, ◌==◌, ◌⊎◌, nat_le, ℕ, List, [], ◌∷◌, Bool, true, false, Result, Ok, Err, ◌&&◌, cond, if◌then◌else◌, not, ap, arith, append-nil, inl, inr, map, refl, reverse, subst, sym, ◌∙◌}
use Rattle.std.specs.Prelude.{filter, OnOk}
use Rattle.std.specs.BTreeMap.{BTreeMap, get, insert_entry, is_at, IsOrdered}
use Rattle.std.specs.BTreeMap.Range.{IsFromStart}
use Rattle.std.specs.BTreeSet.{BTreeSet, contains, IsKeyRangeOf}
use Rattle.std.specs.List.{AllByRecursion}
use Rattle.std.specs.List.Sorted.{IsStrictlySortedBy}
use Rattle.std.specs.Map.{keys_of, values_of, lookup, remove_entry, set_value}
use Rattle.std.specs.Ordering.{is_eq, is_gt, match_ordering, nat_cmp}
use Rattle.std.specs.declared.cmp.Ordering.{Ordering}
use Rattle.std.specs.declared.cmp.Reverse.{Reverse}
use Rattle.std.specs.declared.cmp.Ordering.TheVariants.{Less, Greater}
use Rattle.std.specs.declared.ops.Bound.{Bound}
use Rattle.std.specs.declared.ops.Bound.TheVariants.{Included, Excluded, Unbounded}
use Rattle.std.specs.Cmp.{nat_cmp_total}
use Rattle.std.proofs.lemmas.Bool.Decides.{nat_tests}
use Rattle.std.proofs.lemmas.List.{map-append, reverse-append}
use Rattle.std.proofs.lemmas.List.Elements.{All-weaker, filter-append, recursion_from_All}
use Rattle.std.proofs.lemmas.Map.Views.{All-found}
use Rattle.dkg_types.specs.Blocks.{Block}
use Rattle.dkg_artifact.specs.Requested.{WaitingRequest, ended_for, fed_for, is_other}
use Rattle.dkg_artifact.specs.Ranks.{AreKnown, IsNextRank, KeepsNumbers, changed_at, is_rank_of, is_of, pair_cmp, numbered_rank}

-- NUMBERS

less : (a b : ℕ) → a < b → nat_cmp a b ≡ Less
less a b h = grind (arith, nat_tests)

greater : (a b : ℕ) → b < a → nat_cmp a b ≡ Greater
greater a b h = grind (arith, nat_tests)

one_same : (a b : ℕ) → is_at (nat_cmp a) b ≡ (a == b)
one_same a b = grind (arith, nat_tests)

pair_same : (n p m q : ℕ) → is_at (pair_cmp (numbered_rank n p)) (numbered_rank m q) ≡ ((n == m) && (p == q))
pair_same n p m q = grind (arith, nat_tests)

same_true : (a b : ℕ) → (a == b) ≡ true → a ≡ b
same_true a b h = grind (arith, nat_tests)

pub same_self : (a : ℕ) → (a == a) ≡ true
same_self a = grind (arith, nat_tests)

never : {A : Type 0} → true ≡ false → A
never h = absurd (let e : ◌≡◌ {A = Bool} true false = h in cc)

at_here : (a b : ℕ) → is_at (nat_cmp a) b ≡ true → (b == a) ≡ true
at_here a b at = grind (arith, nat_tests)

at_apart : (a b : ℕ) → is_at (nat_cmp a) b ≡ false → (b == a) ≡ false
at_apart a b at = grind (arith, nat_tests)

far : (a k b : ℕ) → a ≡ k → nat_cmp k b ≡ Less → (b == a) ≡ false
far a k b same after = grind (arith, nat_tests)

-- either a test holds, or it does not
by_test : (b : Bool) → (b ≡ true) ⊎ (b ≡ false)
by_test true = inl refl
by_test false = inr refl

-- WHERE THE NEXT OF A NUMBER WAITS

module _ (numbers : BTreeSet (Reverse ℕ × ℕ)) (number from : ℕ) (start : Bound (Reverse ℕ × ℕ))
    (within : (rank : ℕ) → from ≤ rank → IsFromStart pair_cmp start (numbered_rank number rank))
    (reaches : (pair : Reverse ℕ × ℕ) → IsFromStart pair_cmp start pair → (pair.0.0 ≤ number) × (pair.0.0 ≡ number → from ≤ pair.1))
    (range : List (Reverse ℕ × ℕ)) (is : IsKeyRangeOf pair_cmp start Unbounded numbers range) where
  pub next_none : range ≡ [] → IsNextRank numbers number from None
  next_none none rank low = is.5 none (numbered_rank number rank) (within rank low, tt)

  -- what lies in the range is not before its first
  least : (k : Reverse ℕ × ℕ) (rest : List (Reverse ℕ × ℕ)) → range ≡ k ∷ rest → (rank : ℕ) → from ≤ rank → is_rank_of numbers number rank ≡ true → is_gt (pair_cmp k (numbered_rank number rank)) ≡ false
  least k rest at rank low has = (subst (λ (l : List (Reverse ℕ × ℕ)). IsKeyRangeOf pair_cmp start Unbounded numbers l) at is).2 (numbered_rank number rank) (within rank low, tt) has

  first_in : (k : Reverse ℕ × ℕ) (rest : List (Reverse ℕ × ℕ)) → range ≡ k ∷ rest → IsFromStart pair_cmp start k × (contains pair_cmp numbers k ≡ true)
  first_in k rest at = let it = (subst (λ (l : List (Reverse ℕ × ℕ)). IsKeyRangeOf pair_cmp start Unbounded numbers l) at is).1 in (it.0.0, it.1)

  pub next_some : (k : Reverse ℕ × ℕ) (rest : List (Reverse ℕ × ℕ)) → range ≡ k ∷ rest → k.0.0 ≡ number → IsNextRank numbers number from (Some k.1)
  next_some k rest at same = (
    (reaches k (first_in k rest at).0).1 same,
    subst (λ (n : ℕ). is_rank_of numbers n k.1 ≡ true) same (first_in k rest at).1,
    λ rank low short. elim (by_test (is_rank_of numbers number rank)) [
      | inl has ↦ let last = least k rest at rank low has in absurd (before_not k number rank same short last)
      | inr none ↦ none
    ],
  )
    where
      before_not : (k : Reverse ℕ × ℕ) (number rank : ℕ) → k.0.0 ≡ number → rank < k.1 → is_gt (pair_cmp k (numbered_rank number rank)) ≡ false → ⊥
      before_not k number rank same short last = grind (arith, nat_tests)

  pub next_other : (k : Reverse ℕ × ℕ) (rest : List (Reverse ℕ × ℕ)) → range ≡ k ∷ rest → k.0.0 ≢ number → IsNextRank numbers number from None
  next_other k rest at apart rank low = elim (by_test (is_rank_of numbers number rank)) [
    | inl has ↦ absurd (behind_not k number rank ((reaches k (first_in k rest at).0).0) apart (least k rest at rank low has))
    | inr none ↦ none
  ]
    where
      behind_not : (k : Reverse ℕ × ℕ) (number rank : ℕ) → k.0.0 ≤ number → k.0.0 ≢ number → is_gt (pair_cmp k (numbered_rank number rank)) ≡ false → ⊥
      behind_not k number rank above apart last = grind (arith, nat_tests)

pub within_included : (number rank : ℕ) → 0 ≤ rank → IsFromStart pair_cmp (Included (numbered_rank number 0)) (numbered_rank number rank)
within_included number rank low = grind (arith, nat_tests)

pub reaches_included : (number : ℕ) (pair : Reverse ℕ × ℕ) → IsFromStart pair_cmp (Included (numbered_rank number 0)) pair → (pair.0.0 ≤ number) × (pair.0.0 ≡ number → 0 ≤ pair.1)
reaches_included number pair h = (grind (arith, nat_tests), λ same. omega arith)

pub within_excluded : (number at rank : ℕ) → at + 1 ≤ rank → IsFromStart pair_cmp (Excluded (numbered_rank number at)) (numbered_rank number rank)
within_excluded number at rank low = grind (arith, nat_tests)

pub reaches_excluded : (number at : ℕ) (pair : Reverse ℕ × ℕ) → IsFromStart pair_cmp (Excluded (numbered_rank number at)) pair → (pair.0.0 ≤ number) × (pair.0.0 ≡ number → at + 1 ≤ pair.1)
reaches_excluded number at pair h = (grind (arith, nat_tests), λ same. grind (arith, nat_tests))

-- WHAT IS PUT AND TAKEN AWAY

-- A rank is above all, or below all.
module _ {X : Type 0} where
  pub values_above : (es : List (ℕ × X)) (rank : ℕ) (x : X) → AllByRecursion (λ q. q < rank) (keys_of es) → values_of (insert_entry nat_cmp es rank x) ≡ values_of es ++ x ∷ []
  values_above [] rank x above = refl
  values_above (e ∷ es) rank x above =
      ap (λ (o : Ordering). values_of (match_ordering o ((rank, x) ∷ e ∷ es) ((e.0, x) ∷ es) (e ∷ insert_entry nat_cmp es rank x))) (greater rank e.0 above.0)
      ∙ ap (λ (l : List X). e.1 ∷ l) (values_above es rank x above.1)

  pub values_below : (es : List (ℕ × X)) (rank : ℕ) (x : X) → AllByRecursion (λ q. rank < q) (keys_of es) → values_of (insert_entry nat_cmp es rank x) ≡ x ∷ values_of es
  values_below [] rank x below = refl
  values_below (e ∷ es) rank x below = ap (λ (o : Ordering). values_of (match_ordering o ((rank, x) ∷ e ∷ es) ((e.0, x) ∷ es) (e ∷ insert_entry nat_cmp es rank x))) (less rank e.0 below.0)

  pub free_above : (es : List (ℕ × X)) (rank : ℕ) → AllByRecursion (λ q. q < rank) (keys_of es) → lookup (is_at (nat_cmp rank)) es ≡ None
  free_above [] rank above = refl
  free_above (e ∷ es) rank above = ap (λ (o : Ordering). cond (is_eq o) (Some e.1) (lookup (is_at (nat_cmp rank)) es)) (greater rank e.0 above.0) ∙ free_above es rank above.1

  pub free_below : (es : List (ℕ × X)) (rank : ℕ) → AllByRecursion (λ q. rank < q) (keys_of es) → lookup (is_at (nat_cmp rank)) es ≡ None
  free_below [] rank below = refl
  free_below (e ∷ es) rank below = ap (λ (o : Ordering). cond (is_eq o) (Some e.1) (lookup (is_at (nat_cmp rank)) es)) (less rank e.0 below.0) ∙ free_below es rank below.1

  -- What lies the newest first comes the oldest first.
  pub reverse_cons : (x : X) (xs : List X) → reverse (x ∷ xs) ≡ reverse xs ++ x ∷ []
  reverse_cons x xs = reverse-append (x ∷ []) xs

  pub reverse_map : {Y : Type 0} (f : X → Y) (xs : List X) → reverse (map f xs) ≡ map f (reverse xs)
  reverse_map {Y} f [] = refl
  reverse_map {Y} f (x ∷ xs) =
      reverse-append (f x ∷ []) (map f xs)
      ∙ ap (λ (l : List Y). l ++ f x ∷ []) (reverse_map f xs)
      ∙ sym (ap (map f) (reverse_cons x xs) ∙ map-append f (reverse xs) (x ∷ []))

  pub reverse_filter : (p : X → Bool) (xs : List X) → reverse (filter p xs) ≡ filter p (reverse xs)
  reverse_filter p [] = refl
  reverse_filter p (x ∷ xs) =
      one (p x) (filter p xs)
      ∙ ap (λ (l : List X). l ++ cond (p x) (x ∷ []) []) (reverse_filter p xs)
      ∙ sym (ap (filter p) (reverse_cons x xs) ∙ filter-append p (reverse xs) (x ∷ []))
    where
      one : (b : Bool) (l : List X) → reverse (cond b (x ∷ l) l) ≡ reverse l ++ cond b (x ∷ []) []
      one true l = reverse_cons x l
      one false l = sym (append-nil (reverse l))

-- a set that has one pair more, or one less
abbrev pub Adds : BTreeSet (Reverse ℕ × ℕ) → (number rank : ℕ) → (has : Bool) → BTreeSet (Reverse ℕ × ℕ) → Type 0
Adds old number rank has new = (pair : Reverse ℕ × ℕ) → contains pair_cmp new pair ≡ cond (is_at (pair_cmp (numbered_rank number rank)) pair) has (contains pair_cmp old pair)

-- whether a walk that has come as far as to `next` has yet to come by this rank
abbrev pub is_left : (next : Option ℕ) → (rank : ℕ) → Bool
is_left None rank = false
is_left (Some next) rank = nat_le next rank

passed : (numbers : BTreeSet (Reverse ℕ × ℕ)) (number from : ℕ) (next : Option ℕ) (rank : ℕ) → IsNextRank numbers number from next → from ≤ rank → is_left next rank ≡ false
    → is_rank_of numbers number rank ≡ false
passed numbers number from None rank is low gone = is rank low
passed numbers number from (Some next) rank is low gone = is.2 rank low (under next rank gone)
  where
    under : (next rank : ℕ) → nat_le next rank ≡ false → rank < next
    under next rank gone = grind (arith, nat_tests)

before_next : (numbers : BTreeSet (Reverse ℕ × ℕ)) (number from : ℕ) (next : Option ℕ) (rank : ℕ) → IsNextRank numbers number from next → rank < from → is_left next rank ≡ false
before_next numbers number from None rank is short = refl
before_next numbers number from (Some next) rank is short = over from next rank is.0 short
  where
    over : (from next rank : ℕ) → from ≤ next → rank < from → nat_le next rank ≡ false
    over from next rank at short = grind (arith, nat_tests)

module _ {Dir : Type 0} where
  -- requests that have one more, or one less
  abbrev pub Puts : BTreeMap ℕ (WaitingRequest Dir) → (rank : ℕ) → Option (WaitingRequest Dir) → BTreeMap ℕ (WaitingRequest Dir) → Type 0
  Puts old rank o new = (q : ℕ) → get nat_cmp new q ≡ cond (is_at (nat_cmp rank) q) o (get nat_cmp old q)

  of_other : (n m : ℕ) (o : Option (WaitingRequest Dir)) → is_of n o ≡ true → (n == m) ≡ false → is_of m o ≡ false
  of_other n m None is apart = refl
  of_other n m (Some r) is apart = ap (λ (k : ℕ). k == m) (same_true r.number n is) ∙ apart

  module _ (numbers : BTreeSet (Reverse ℕ × ℕ)) (waiting : BTreeMap ℕ (WaitingRequest Dir)) (known : AreKnown numbers waiting) where
    at_rank : (rank n q : ℕ) → (rank == q) ≡ true → is_rank_of numbers n q ≡ is_of n (get nat_cmp waiting rank)
    at_rank rank n q same = known.1 n q ∙ ap (λ (p : ℕ). is_of n (get nat_cmp waiting p)) (sym (same_true rank q same))

    pub known_put : (ns : BTreeSet (Reverse ℕ × ℕ)) (ws : BTreeMap ℕ (WaitingRequest Dir)) (number rank : ℕ) (r : WaitingRequest Dir) → number ≡ r.number → get nat_cmp waiting rank ≡ None
        → Adds numbers number rank true ns → Puts waiting rank (Some r) ws → IsOrdered nat_cmp ws → AreKnown ns ws
    known_put ns ws number rank r same free adds puts ordered = (
      ordered,
      λ n q.
          adds (numbered_rank n q)
          ∙ ap (λ (b : Bool). cond b true (is_rank_of numbers n q)) (pair_same number rank n q)
          ∙ by_tests n q (number == n) (rank == q) (ap (λ (k : ℕ). k == n) (sym same)) refl
          ∙ ap (λ (b : Bool). is_of n (cond b (Some r) (get nat_cmp waiting q))) (sym (one_same rank q))
          ∙ ap (is_of n) (sym (puts q)),
    )
      where
        by_tests : (n q : ℕ) (a b : Bool) → (r.number == n) ≡ a → (rank == q) ≡ b → cond (a && b) true (is_rank_of numbers n q) ≡ is_of n (cond b (Some r) (get nat_cmp waiting q))
        by_tests n q true true of_n here = sym of_n
        by_tests n q false true of_n here = at_rank rank n q here ∙ ap (is_of n) free ∙ sym of_n
        by_tests n q true false of_n here = known.1 n q
        by_tests n q false false of_n here = known.1 n q

    pub known_taken : (ns : BTreeSet (Reverse ℕ × ℕ)) (ws : BTreeMap ℕ (WaitingRequest Dir)) (number rank : ℕ) → is_of number (get nat_cmp waiting rank) ≡ true
        → Adds numbers number rank false ns → Puts waiting rank None ws → IsOrdered nat_cmp ws → AreKnown ns ws
    known_taken ns ws number rank of_number adds puts ordered = (
      ordered,
      λ n q.
          adds (numbered_rank n q)
          ∙ ap (λ (b : Bool). cond b false (is_rank_of numbers n q)) (pair_same number rank n q)
          ∙ by_tests n q (number == n) (rank == q) refl refl
          ∙ ap (λ (b : Bool). is_of n (cond b None (get nat_cmp waiting q))) (sym (one_same rank q))
          ∙ ap (is_of n) (sym (puts q)),
    )
      where
        by_tests : (n q : ℕ) (a b : Bool) → (number == n) ≡ a → (rank == q) ≡ b → cond (a && b) false (is_rank_of numbers n q) ≡ is_of n (cond b None (get nat_cmp waiting q))
        by_tests n q true true of_n here = refl
        by_tests n q false true of_n here = at_rank rank n q here ∙ of_other number n (get nat_cmp waiting rank) of_number of_n
        by_tests n q true false of_n here = known.1 n q
        by_tests n q false false of_n here = known.1 n q

    -- a pair that was put in and taken out again
    pub known_undone : (ms ns : BTreeSet (Reverse ℕ × ℕ)) (ws : BTreeMap ℕ (WaitingRequest Dir)) (number rank : ℕ) → get nat_cmp waiting rank ≡ None
        → Adds numbers number rank true ms → Adds ms number rank false ns → ws.entries ≡ waiting.entries → AreKnown ns ws
    known_undone ms ns ws number rank free adds removes same = (
      subst (λ (es : List (ℕ × WaitingRequest Dir)). IsStrictlySortedBy nat_cmp (keys_of es)) (sym same) known.0,
      λ n q.
          removes (numbered_rank n q)
          ∙ ap (λ (b : Bool). cond b false (is_rank_of ms n q)) (pair_same number rank n q)
          ∙ ap (λ (b : Bool). cond ((number == n) && (rank == q)) false b) (adds (numbered_rank n q) ∙ ap (λ (b : Bool). cond b true (is_rank_of numbers n q)) (pair_same number rank n q))
          ∙ by_tests n q (number == n) (rank == q) refl
          ∙ ap (λ (es : List (ℕ × WaitingRequest Dir)). is_of n (lookup (is_at (nat_cmp q)) es)) (sym same),
    )
      where
        by_tests : (n q : ℕ) (a b : Bool) → (rank == q) ≡ b → cond (a && b) false (cond (a && b) true (is_rank_of numbers n q)) ≡ is_of n (get nat_cmp waiting q)
        by_tests n q true true here = sym (sym (known.1 n q) ∙ at_rank rank n q here ∙ ap (is_of n) free)
        by_tests n q false true here = known.1 n q
        by_tests n q true false here = known.1 n q
        by_tests n q false false here = known.1 n q

    pub known_kept : (ws : BTreeMap ℕ (WaitingRequest Dir)) → IsOrdered nat_cmp ws → KeepsNumbers waiting ws → AreKnown numbers ws
    known_kept ws ordered keeps = (ordered, λ n q. known.1 n q ∙ sym (keeps n q))

    -- each request is known by its number and rank
    pub all_known : AllByRecursion (λ e. is_rank_of numbers e.1.number e.0 ≡ true) waiting.entries
    all_known =
        recursion_from_All (λ e. is_rank_of numbers e.1.number e.0 ≡ true) waiting.entries
        (All-weaker (λ e. get nat_cmp waiting e.0 ≡ Some e.1) (λ e. is_rank_of numbers e.1.number e.0 ≡ true) (λ e found. known.1 e.1.number e.0 ∙ ap (is_of e.1.number) {y = Some e.1} found ∙ same_self e.1.number) waiting.entries
        (All-found nat_cmp_total waiting known.0))

  -- WHAT BECOMES OF THE REQUESTS OF A NUMBER

  -- the requests, once the walk has changed all that are left
  abbrev pub changed_from : (next : Option ℕ) → (WaitingRequest Dir → WaitingRequest Dir) → List (ℕ × WaitingRequest Dir) → List (WaitingRequest Dir)
  changed_from next f es = map (λ e. if is_left next e.0 then f e.1 else e.1) es

  abbrev pub HaveRanks : BTreeSet (Reverse ℕ × ℕ) → List (ℕ × WaitingRequest Dir) → Type 0
  HaveRanks numbers es = AllByRecursion (λ e. is_rank_of numbers e.1.number e.0 ≡ true) es

  module _ (numbers : BTreeSet (Reverse ℕ × ℕ)) (number : ℕ) where
    other_there : (rank : ℕ) (r : WaitingRequest Dir) → is_rank_of numbers r.number rank ≡ true → is_rank_of numbers number rank ≡ false → is_other number r ≡ true
    other_there rank r has none = by_number (r.number == number) refl
      where
        by_number : (b : Bool) → (r.number == number) ≡ b → not b ≡ true
        by_number true same = never (sym has ∙ ap (λ (n : ℕ). is_rank_of numbers n rank) (same_true r.number number same) ∙ none)
        by_number false same = refl

    pub none_left : (es : List (ℕ × WaitingRequest Dir)) → HaveRanks numbers es → IsNextRank numbers number 0 None → filter (is_other number) (values_of es) ≡ values_of es
    none_left [] have none = refl
    none_left (e ∷ es) have none =
        ap (λ (b : Bool). cond b (e.1 ∷ filter (is_other number) (values_of es)) (filter (is_other number) (values_of es))) (other_there e.0 e.1 have.0 (none e.0 (omega arith)))
        ∙ ap (λ (l : List (WaitingRequest Dir)). e.1 ∷ l) (none_left es have.1 none)

    -- a change that leaves other numbers alone
    module _ (f : WaitingRequest Dir → WaitingRequest Dir) (alone : (r : WaitingRequest Dir) → is_other number r ≡ true → f r ≡ r) where
      one_begun : (next : Option ℕ) (rank : ℕ) (r : WaitingRequest Dir) → IsNextRank numbers number 0 next → is_rank_of numbers r.number rank ≡ true → (if is_left next rank then f r else r) ≡ f r
      one_begun next rank r is has = by_left (is_left next rank) refl
        where
          by_left : (b : Bool) → is_left next rank ≡ b → (if b then f r else r) ≡ f r
          by_left true left = refl
          by_left false left = sym (alone r (other_there rank r has (passed numbers number 0 next rank is (omega arith) left)))

      -- at the walk's beginning
      pub begun : (es : List (ℕ × WaitingRequest Dir)) (next : Option ℕ) → HaveRanks numbers es → IsNextRank numbers number 0 next → changed_from next f es ≡ map f (values_of es)
      begun [] next have is = refl
      begun (e ∷ es) next have is = λ i. one_begun next e.0 e.1 is have.0 i ∷ begun es next have.1 is i

      short_of : (at rank : ℕ) → nat_le at rank ≡ false → (rank == at) ≡ true → ⊥
      short_of at rank short here = grind (arith, nat_tests)

      under : (at rank : ℕ) → nat_le at rank ≡ false → rank < at + 1
      under at rank short = grind (arith, nat_tests)

      here_under : (at rank : ℕ) → (rank == at) ≡ true → rank < at + 1
      here_under at rank here = grind (arith, nat_tests)

      above : (at rank : ℕ) → nat_le at rank ≡ true → (rank == at) ≡ false → at + 1 ≤ rank
      above at rank reached apart = grind (arith, nat_tests)

      one_stepped : (at : ℕ) (next : Option ℕ) (rank : ℕ) (r : WaitingRequest Dir) → IsNextRank numbers number (at + 1) next → is_rank_of numbers r.number rank ≡ true
          → (if is_left next rank then f (if rank == at then f r else r) else (if rank == at then f r else r)) ≡ (if nat_le at rank then f r else r)
      one_stepped at next rank r is has = by_rank (nat_le at rank) (rank == at) (is_left next rank) refl refl refl
        where
          by_rank : (reached here left : Bool) → nat_le at rank ≡ reached → (rank == at) ≡ here → is_left next rank ≡ left
              → (if left then f (if here then f r else r) else (if here then f r else r)) ≡ (if reached then f r else r)
          by_rank true true true reached here left = never (sym left ∙ before_next numbers number (at + 1) next rank is (here_under at rank here))
          by_rank true true false reached here left = refl
          by_rank true false true reached here left = refl
          by_rank true false false reached here left = sym (alone r (other_there rank r has (passed numbers number (at + 1) next rank is (above at rank reached here) left)))
          by_rank false true left reached here is = absurd (short_of at rank reached here)
          by_rank false false true reached here left = never (sym left ∙ before_next numbers number (at + 1) next rank is (under at rank reached))
          by_rank false false false reached here left = refl

      -- .. where it has changed the request at a rank, and goes on to the next
      pub stepped : (es : List (ℕ × WaitingRequest Dir)) (at : ℕ) (next : Option ℕ) → HaveRanks numbers es → IsNextRank numbers number (at + 1) next
          → changed_from next f (changed_at at f es) ≡ changed_from (Some at) f es
      stepped [] at next have is = refl
      stepped (e ∷ es) at next have is = λ i. one_stepped at next e.0 e.1 is have.0 i ∷ stepped es at next have.1 is i

  -- what is written to the request at a rank
  module _ (rank : ℕ) (f : WaitingRequest Dir → WaitingRequest Dir) where
    apart_after : (k : ℕ) (es : List (ℕ × WaitingRequest Dir)) → rank ≡ k → AllByRecursion (λ q. nat_cmp k q ≡ Less) (keys_of es) → es ≡ changed_at rank f es
    apart_after k [] same after = refl
    apart_after k (e ∷ es) same after =
        λ i. (e.0, sym (ap (λ (b : Bool). if b then f e.1 else e.1) (apart e.0 after.0)) i) ∷ apart_after k es same after.1 i
      where
        apart : (q : ℕ) → nat_cmp k q ≡ Less → (q == rank) ≡ false
        apart q after = far rank k q same after

    pub changed_written : (es : List (ℕ × WaitingRequest Dir)) (r : WaitingRequest Dir) → IsStrictlySortedBy nat_cmp (keys_of es) → Some r ≡ lookup (is_at (nat_cmp rank)) es
        → set_value (is_at (nat_cmp rank)) es (f r) ≡ changed_at rank f es
    unfolding IsStrictlySortedBy
    changed_written [] r sorted found = refl
    changed_written (e ∷ es) r sorted found = by_key (is_at (nat_cmp rank) e.0) refl (λ at. changed_written es r sorted.1 (found ∙ ap (λ (b : Bool). cond b (Some e.1) (lookup (is_at (nat_cmp rank)) es)) at))
      where
        by_key : (b : Bool) → is_at (nat_cmp rank) e.0 ≡ b → (is_at (nat_cmp rank) e.0 ≡ false → set_value (is_at (nat_cmp rank)) es (f r) ≡ changed_at rank f es)
            → cond b ((e.0, f r) ∷ es) (e ∷ set_value (is_at (nat_cmp rank)) es (f r)) ≡ (e.0, if e.0 == rank then f e.1 else e.1) ∷ changed_at rank f es
        by_key true at rest =
            let same : r ≡ e.1 = ap (λ (o : Option (WaitingRequest Dir)). unwrap_or o r) (found ∙ ap (λ (b : Bool). cond b (Some e.1) (lookup (is_at (nat_cmp rank)) es)) at) in
            λ i. (e.0, (ap f same ∙ sym (ap (λ (b : Bool). if b then f e.1 else e.1) (at_here rank e.0 at))) i) ∷ apart_after e.0 es (sym (same_true e.0 rank (at_here rank e.0 at))) sorted.0 i
        by_key false at rest = λ i. (e.0, sym (ap (λ (b : Bool). if b then f e.1 else e.1) (at_apart rank e.0 at)) i) ∷ rest at i

    pub changed_none : (es : List (ℕ × WaitingRequest Dir)) → None ≡ lookup (is_at (nat_cmp rank)) es → es ≡ changed_at rank f es
    changed_none [] none = refl
    changed_none (e ∷ es) none = by_key (is_at (nat_cmp rank) e.0) refl (λ at. changed_none es (none ∙ ap (λ (b : Bool). cond b (Some e.1) (lookup (is_at (nat_cmp rank)) es)) at))
      where
        by_key : (b : Bool) → is_at (nat_cmp rank) e.0 ≡ b → (is_at (nat_cmp rank) e.0 ≡ false → es ≡ changed_at rank f es) → e ∷ es ≡ (e.0, if e.0 == rank then f e.1 else e.1) ∷ changed_at rank f es
        by_key true at rest = never (sym (ap is_some (none ∙ ap (λ (b : Bool). cond b (Some e.1) (lookup (is_at (nat_cmp rank)) es)) at)))
        by_key false at rest = λ i. (e.0, sym (ap (λ (b : Bool). if b then f e.1 else e.1) (at_apart rank e.0 at)) i) ∷ rest at i

  -- a request written in the place of one of the same number
  pub same_number : (test : ℕ → Bool) (es : List (ℕ × WaitingRequest Dir)) (r now : WaitingRequest Dir) → Some r ≡ lookup test es → now.number ≡ r.number
      → map (λ (q : WaitingRequest Dir). q.number) (values_of (set_value test es now)) ≡ map (λ (q : WaitingRequest Dir). q.number) (values_of es)
  same_number test [] r now found same = refl
  same_number test (e ∷ es) r now found same = by_key (test e.0) refl (λ at. same_number test es r now (found ∙ ap (λ (b : Bool). cond b (Some e.1) (lookup test es)) at) same)
    where
      by_key : (b : Bool) → test e.0 ≡ b → (test e.0 ≡ false → map (λ (q : WaitingRequest Dir). q.number) (values_of (set_value test es now)) ≡ map (λ (q : WaitingRequest Dir). q.number) (values_of es))
          → map (λ (q : WaitingRequest Dir). q.number) (values_of (cond b ((e.0, now) ∷ es) (e ∷ set_value test es now))) ≡ e.1.number ∷ map (λ (q : WaitingRequest Dir). q.number) (values_of es)
      by_key true at rest =
          let is : r ≡ e.1 = ap (λ (o : Option (WaitingRequest Dir)). unwrap_or o r) (found ∙ ap (λ (b : Bool). cond b (Some e.1) (lookup test es)) at) in
          λ i. (same ∙ ap (λ (q : WaitingRequest Dir). q.number) is) i ∷ map (λ (q : WaitingRequest Dir). q.number) (values_of es)
      by_key false at rest = λ i. e.1.number ∷ rest at i

  -- a request of the number taken away
  pub fewer : (test : ℕ → Bool) (number : ℕ) (es : List (ℕ × WaitingRequest Dir)) → is_of number (lookup test es) ≡ true
      → filter (is_other number) (values_of (remove_entry test es)) ≡ filter (is_other number) (values_of es)
  fewer test number [] is = never (sym is)
  fewer test number (e ∷ es) is = by_key (test e.0) refl (λ at. fewer test number es (ap (λ (b : Bool). is_of number (cond b (Some e.1) (lookup test es))) (sym at) ∙ is))
    where
      by_key : (b : Bool) → test e.0 ≡ b → (test e.0 ≡ false → filter (is_other number) (values_of (remove_entry test es)) ≡ filter (is_other number) (values_of es))
          → filter (is_other number) (values_of (cond b es (e ∷ remove_entry test es))) ≡ filter (is_other number) (e.1 ∷ values_of es)
      by_key true at rest =
          sym (ap (λ (b : Bool). cond (not b) (e.1 ∷ filter (is_other number) (values_of es)) (filter (is_other number) (values_of es)))
          (ap (λ (b : Bool). is_of number (cond b (Some e.1) (lookup test es))) (sym at) ∙ is))
      by_key false at rest = ap (λ (l : List (WaitingRequest Dir)). cond (is_other number e.1) (e.1 ∷ l) l) (rest at)

  pub fed_alone : (number : ℕ) (b : Block Dir) (r : WaitingRequest Dir) → is_other number r ≡ true → fed_for number b r ≡ r
  fed_alone number b r apart = by_same (r.number == number) apart
    where
      by_same : (same : Bool) → not same ≡ true → (if same && not r.ended then record r { blocks = r.blocks ++ b ∷ [] } else r) ≡ r
      by_same true apart = never (sym apart)
      by_same false apart = refl

  pub ended_alone : (number : ℕ) (r : WaitingRequest Dir) → is_other number r ≡ true → ended_for number r ≡ r
  ended_alone number r apart = by_same (r.number == number) apart
    where
      by_same : (same : Bool) → not same ≡ true → (if same then record r { ended = true } else r) ≡ r
      by_same true apart = never (sym apart)
      by_same false apart = refl

pub on_ok_as : {T E : Type 0} {P Q : Type 0} (r : Result T E) → (P → Q) → OnOk r P → OnOk r Q
on_ok_as (Ok x) by so = by so
on_ok_as (Err e) by so = so

-- how far a walk is from the last rank of all
abbrev pub to_go : (next : Option ℕ) → ℕ
to_go None = 0
to_go (Some next) = 2 ^ 64 - next

pub goes_on : (numbers : BTreeSet (Reverse ℕ × ℕ)) (number at : ℕ) (next before : Option ℕ) → at < 2 ^ 64 → IsNextRank numbers number (at + 1) next → before ≡ Some at → to_go next < to_go before
goes_on numbers number at next before fits is at_it = subst (λ (o : Option ℕ). to_go next < to_go o) (sym at_it) (on next is)
  where
    on : (next : Option ℕ) → IsNextRank numbers number (at + 1) next → to_go next < 2 ^ 64 - at
    on None is = omega (arith, fits)
    on (Some next) is = let low : at + 1 ≤ next = is.0 in omega (arith, fits, low)
