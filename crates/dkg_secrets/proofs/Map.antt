-- A tree map, seen as a finite map.
use Rattle.std.proofs.Common.{◌≡◌, ◌≢◌, ◌⊎◌, inl, inr, ℕ, ◌<◌, ◌≤◌, ◌-◌, nat_le, arith, Bool, true, false, cond, List, [], ◌∷◌, map, length, Option, Some, None, is_some, IsSome, refl, sym, ◌∙◌, ap, subst}
use Rattle.std.specs.Prelude.{T, ◌&&◌}
use Rattle.std.specs.List.{AllByRecursion}
use Rattle.std.specs.List.Sorted.{IsStrictlySortedBy}
use Rattle.std.specs.FinMap.Entries.{is_sorted, below_all}
use Rattle.std.specs.FinMap.{entries, from_sorted, entries-from_sorted, get-from_sorted, FinMap, IsAntisymmetric, nat_cmp-IsAntisymmetric, find, get, insert, remove, empty, from_entries, get-from_entries, get-insert, get-remove, retain_keys, get-retain_keys, same_map, len, len-remove, empty_of_len, get-empty}
use Rattle.std.specs.Map.{lookup}
use Rattle.std.specs.BTreeMap as tree
use Rattle.std.specs.Ordering.{is_eq, is_lt, is_gt, eq_by_cmp, nat_cmp, ordering_then}
use Rattle.dkg_secrets.specs.Keys.{key_cmp}
use Rattle.std.specs.Cmp.{IsTotalOrder, nat_cmp_total}
use Rattle.std.specs.declared.cmp.Ordering.{Ordering}
use Rattle.std.specs.declared.cmp.Ordering.TheVariants.{Less, Equal, Greater}
use Rattle.std.proofs.lemmas.Cmp.{tied_itself, on_total, then_total}
use Rattle.std.proofs.lemmas.Bool.Decides.{nat_tests}
use Rattle.dkg_secrets.specs.Keys.{StaysOrGoes}

none_or : {A : Type 0} (o : Option A) → (o ≡ None) ⊎ IsSome o
none_or None = inl refl
none_or (Some x) = inr refl

pub number_orders : (k q : ℕ) → is_gt (nat_cmp k q) ≡ false → k ≤ q
number_orders k q e = grind (arith, nat_tests)

pub pair_orders : (k q : ℕ × ℕ) → is_gt (key_cmp k q) ≡ false → k.0 ≤ q.0
pair_orders k q e = grind (arith, nat_tests)

pub below_or : (min n : ℕ) → ((n < min) × (nat_le min n ≡ false)) ⊎ ((min ≤ n) × (nat_le min n ≡ true))
below_or min n = elim (nat_le min n) as (λ b. nat_le min n ≡ b → ((n < min) × (b ≡ false)) ⊎ ((min ≤ n) × (b ≡ true))) [
  | true ↦ λ e. inr (grind (arith, nat_tests), refl)
  | false ↦ λ e. inl (grind (arith, nat_tests), refl)
] refl

pub keys_total : IsTotalOrder key_cmp
keys_total = then_total (on_total (λ (p : ℕ × ℕ). p.0) nat_cmp_total) (on_total (λ (p : ℕ × ℕ). p.1) nat_cmp_total)

both_equal : (r s : Ordering) → ordering_then r s ≡ Equal → (r ≡ Equal) × (s ≡ Equal)
both_equal Less s e = (e, absurd (let h : ◌≡◌ {A = Ordering} Less Equal = e in cc))
both_equal Equal s e = (refl, e)
both_equal Greater s e = (e, absurd (let h : ◌≡◌ {A = Ordering} Greater Equal = e in cc))

pub exact_keys : IsAntisymmetric key_cmp
exact_keys a b tied =
    let parts = both_equal (nat_cmp a.0 b.0) (nat_cmp a.1 b.1) tied in
    λ i. (nat_cmp-IsAntisymmetric a.0 b.0 parts.0 i, nat_cmp-IsAntisymmetric a.1 b.1 parts.1 i)

module _ {K : Type 0} {R : K → K → Ordering} (total : IsTotalOrder R) (exact : IsAntisymmetric R) where
  pub apart_tie : (q k : K) → q ≢ k → eq_by_cmp R q k ≡ false
  apart_tie q k apart = elim (R q k) as (λ r. R q k ≡ r → is_eq r ≡ false) [
    | Less ↦ λ p. refl
    | Equal ↦ λ p. absurd (apart (exact q k p))
    | Greater ↦ λ p. refl
  ] refl

  pub same_key : (q k : K) → (q ≡ k) ⊎ (q ≢ k)
  same_key q k = elim (R q k) as (λ r. R q k ≡ r → (q ≡ k) ⊎ (q ≢ k)) [
    | Less ↦ λ p. inr (λ e. let tied : R q k ≡ Equal = subst (λ x. R q x ≡ Equal) e (tied_itself total q) in cc)
    | Equal ↦ λ p. inl (exact q k p)
    | Greater ↦ λ p. inr (λ e. let tied : R q k ≡ Equal = subst (λ x. R q x ≡ Equal) e (tied_itself total q) in cc)
  ] refl

  pub get_here : {X : Type 0} (m : FinMap R X) (k : K) (v : X) → get (insert m k v) k ≡ Some v
  get_here m k v = get-insert total m k v k ∙ ap (λ r. cond (is_eq r) (Some v) (get m k)) (tied_itself total k)

  pub get_at : {X : Type 0} (m : FinMap R X) (k q : K) (v : X) → q ≡ k → get (insert m k v) q ≡ Some v
  get_at m k q v same = ap (get (insert m k v)) same ∙ get_here m k v

  pub get_other : {X : Type 0} (m : FinMap R X) (k q : K) (v : X) → q ≢ k → get (insert m k v) q ≡ get m q
  get_other m k q v apart = get-insert total m k v q ∙ ap (λ b. cond b (Some v) (get m q)) (apart_tie q k apart)

  remove_at : {X : Type 0} (m : FinMap R X) (k q : K) → q ≡ k → get (remove m k) q ≡ None
  remove_at m k q is = get-remove total m k q ∙ ap (λ r. cond (is_eq r) None (get m q)) (subst (λ x. R x k ≡ Equal) (sym is) (tied_itself total k))

  remove_other : {X : Type 0} (m : FinMap R X) (k q : K) → q ≢ k → get (remove m k) q ≡ get m q
  remove_other m k q apart = get-remove total m k q ∙ ap (λ b. cond b None (get m q)) (apart_tie q k apart)

  pub find_lookup : {X : Type 0} (q : K) (es : List ((K) × X)) → find R q es ≡ lookup (tree.is_at (R q)) es
  find_lookup q [] = refl
  find_lookup q (e ∷ es) = ap (λ o. cond (is_eq (R q e.0)) (Some e.1) o) (find_lookup q es)

  pub get_view : {X : Type 0} (es : List ((K) × X)) (q : K) → get (from_entries {R = R} es) q ≡ lookup (tree.is_at (R q)) es
  get_view es q = get-from_entries total es q ∙ find_lookup q es

  -- a new entry in the tree
  pub view_insert : {X : Type 0} (es fs : List ((K) × X)) (k : K) (v : X)
      → ((q : K) → lookup (tree.is_at (R q)) fs ≡ cond (tree.is_at (R k) q) (Some v) (lookup (tree.is_at (R q)) es))
      → from_entries {R = R} fs ≡ insert (from_entries {R = R} es) k v
  view_insert es fs k v updates = same_map total exact _ _ (λ q. get_view fs q ∙ updates q ∙ elim (same_key q k) as (λ w. cond (tree.is_at (R k) q) (Some v) (lookup (tree.is_at (R q)) es) ≡ get (insert (from_entries {R = R} es) k v) q) [
    | inl is ↦ ap (λ r. cond (is_eq r) (Some v) (lookup (tree.is_at (R q)) es)) (subst (λ x. R k x ≡ Equal) (sym is) (tied_itself total k)) ∙ sym (get_at (from_entries {R = R} es) k q v is)
    | inr apart ↦ ap (λ b. cond b (Some v) (lookup (tree.is_at (R q)) es)) (apart_tie k q (λ e. apart (sym e))) ∙ sym (get_view es q) ∙ sym (get_other (from_entries {R = R} es) k q v apart)
  ])

  -- an entry that is not there any more
  pub view_remove : {X : Type 0} (es fs : List ((K) × X)) (k : K)
      → ((q : K) → lookup (tree.is_at (R q)) fs ≡ cond (tree.is_at (R k) q) None (lookup (tree.is_at (R q)) es))
      → from_entries {R = R} fs ≡ remove (from_entries {R = R} es) k
  view_remove es fs k updates = same_map total exact _ _ (λ q. get_view fs q ∙ updates q ∙ elim (same_key q k) as (λ w. cond (tree.is_at (R k) q) None (lookup (tree.is_at (R q)) es) ≡ get (remove (from_entries {R = R} es) k) q) [
    | inl is ↦ ap (λ r. cond (is_eq r) None (lookup (tree.is_at (R q)) es)) (subst (λ x. R k x ≡ Equal) (sym is) (tied_itself total k)) ∙ sym (remove_at (from_entries {R = R} es) k q is)
    | inr apart ↦ ap (λ b. cond b None (lookup (tree.is_at (R q)) es)) (apart_tie k q (λ e. apart (sym e))) ∙ sym (get_view es q) ∙ sym (remove_other (from_entries {R = R} es) k q apart)
  ])

  -- to take back what was new
  pub remove_insert : {X : Type 0} (m : FinMap R X) (k : K) (v : X) → get m k ≡ None → remove (insert m k v) k ≡ m
  remove_insert m k v none = same_map total exact _ _ (λ q. elim (same_key q k) as (λ w. get (remove (insert m k v) k) q ≡ get m q) [
    | inl is ↦ remove_at (insert m k v) k q is ∙ sym none ∙ ap (get m) (sym is)
    | inr apart ↦ remove_other (insert m k v) k q apart ∙ get_other m k q v apart
  ])

  -- Keys that are below a minimum may go, one by one.
  module _ (epoch_of : K → ℕ) (min : ℕ) where
    pub gone_at : {X : Type 0} (old m : FinMap R X) (k : K) → epoch_of k < min → ((q : K) → StaysOrGoes min (epoch_of q) (get old q) (get m q)) → (q : K) → StaysOrGoes min (epoch_of q) (get old q) (get (remove m k) q)
    gone_at old m k below stays q = elim (same_key q k) as (λ w. StaysOrGoes min (epoch_of q) (get old q) (get (remove m k) q)) [
      | inl is ↦ inr (subst (λ (x : K). epoch_of x < min) (sym is) below, remove_at m k q is)
      | inr apart ↦ subst (λ o. StaysOrGoes min (epoch_of q) (get old q) o) (sym (remove_other m k q apart)) (stays q)
    ]

    -- all of them are gone
    pub all_gone : {X : Type 0} (old m : FinMap R X) → ((q : K) → StaysOrGoes min (epoch_of q) (get old q) (get m q)) → ((q : K) → epoch_of q < min → get m q ≡ None) → m ≡ retain_keys old (λ k. nat_le min (epoch_of k))
    all_gone {X} old m stays none = same_map total exact _ _ (λ q.
        let kept : get (retain_keys old (λ k. nat_le min (epoch_of k))) q ≡ cond (nat_le min (epoch_of q)) (get old q) None =
        get-retain_keys old (λ k. nat_le min (epoch_of k)) q (λ x tied. ap (λ (y : K). nat_le min (epoch_of y)) (sym (exact q x tied))) in
        elim (below_or min (epoch_of q)) [
          | inl below ↦ none q below.0 ∙ sym (kept ∙ ap (λ b. cond b (get old q) None) below.1)
          | inr above ↦ elim (stays q) [
            | inl is ↦ is ∙ sym (kept ∙ ap (λ b. cond b (get old q) None) above.1)
            | inr gone ↦ absurd (let lt : epoch_of q < min = gone.0 in let le : min ≤ epoch_of q = above.0 in omega arith)
          ]
        ])

  pub view_get : {X : Type 0} (m : FinMap R X) (es : List (K × X)) (q : K) → from_entries {R = R} es ≡ m → get m q ≡ lookup (tree.is_at (R q)) es
  view_get {X} m es q is = ap (λ (n : FinMap R X). get n q) (sym is) ∙ get_view es q

  -- nothing is below the least key, and in an empty tree there is nothing
  module _ (epoch_of : K → ℕ) (orders : (k q : K) → is_gt (R k q) ≡ false → epoch_of k ≤ epoch_of q) where
    pub none_below : {X : Type 0} (m : FinMap R X) (es : List (K × X)) (k : K) (min : ℕ) → from_entries {R = R} es ≡ m → min ≤ epoch_of k
        → ((q : K) → IsSome (lookup (tree.is_at (R q)) es) → is_gt (R k q) ≡ false) → (q : K) → epoch_of q < min → get m q ≡ None
    none_below m es k min is above least q below = elim (none_or (lookup (tree.is_at (R q)) es)) [
      | inl none ↦ view_get m es q is ∙ none
      | inr some ↦ absurd (let le : epoch_of k ≤ epoch_of q = orders k q (least q some) in omega arith)
    ]

  pub none_there : {X : Type 0} (m : FinMap R X) (es : List (K × X)) → from_entries {R = R} es ≡ m → (0 < length es → ⊥) → (q : K) → get m q ≡ None
  none_there m [] is not_full q = view_get m [] q is
  none_there m (e ∷ es) is not_full q = absurd (not_full (omega arith))

  some_of_empty : {X : Type 0} (m : FinMap R X) (k : K) → IsSome (get m k) → m ≡ empty → ⊥
  some_of_empty {X} m k some is =
      let none : get m k ≡ None = ap (λ (n : FinMap R X). get n k) is ∙ get-empty R k in
      let h : ◌≡◌ {A = Bool} false true = subst IsSome none some in cc

  pub one_less : {X : Type 0} (m n : FinMap R X) (k : K) → IsSome (get m k) → n ≡ remove m k → len n < len m
  one_less {X} m n k some is =
      let shorter : len (remove m k) ≡ cond (is_some (get m k)) (len m - 1) (len m) = len-remove total m k in
      let at : len n ≡ len m - 1 = ap (len {X = X} {R = R}) is ∙ shorter ∙ ap (λ b. cond b (len m - 1) (len m)) some in
      let full : len m ≢ 0 = λ none. some_of_empty m k some (empty_of_len m none) in
      omega arith

  below_all_true : {X : Type 0} (k : K) (es : List (K × X)) → AllByRecursion (λ y. R k y ≡ Less) (map (λ e. e.0) es) → below_all R k es ≡ true
  below_all_true k [] all = refl
  below_all_true k (e ∷ es) all = ap (λ r. is_lt r && below_all R k es) all.0 ∙ below_all_true k es all.1

  pub is_sorted_true : {X : Type 0} (es : List (K × X)) → IsStrictlySortedBy R (map (λ e. e.0) es) → is_sorted R es ≡ true
  unfolding IsStrictlySortedBy
  is_sorted_true [] rising = refl
  is_sorted_true (e ∷ es) rising = ap (λ b. b && is_sorted R es) (below_all_true e.0 es rising.0) ∙ is_sorted_true es rising.1

  -- the entries of a tree, whose keys ascend
  pub view_entries : {X : Type 0} (es : List (K × X)) → IsStrictlySortedBy R (map (λ e. e.0) es) → entries (from_entries {R = R} es) ≡ es
  view_entries {X} es rising =
      let sorted : T (is_sorted R es) = subst T (sym (is_sorted_true es rising)) tt in
      let same : from_entries {R = R} es ≡ from_sorted {R = R} es = same_map total exact _ _ (λ q. get-from_entries total es q ∙ sym (get-from_sorted R es q sorted)) in
      ap (entries {K = K} {X = X} {R = R}) same ∙ entries-from_sorted R es sorted
