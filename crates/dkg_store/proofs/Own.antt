-- A player's own dealings beside those that are recorded.
use Rattle.std.proofs.Common.{◌≡◌, ◌≢◌, inl, inr, ℕ, ◌<◌, ◌^◌, ◌==◌, nat_lt, arith, Bool, true, false, cond, List, [], ◌∷◌, ◌++◌, length, map, filter, Option, Some, None, is_some, Result, Ok, refl, sym, ◌∙◌, ap, subst}
use Rattle.std.specs.Prelude.{◌&&◌, not, IfSome, if◌then◌else◌}
use Rattle.std.specs.Ordering.{nat_cmp, is_lt, eq_by_cmp}
use Rattle.std.specs.Cmp.{nat_cmp_total}
use Rattle.std.specs.declared.cmp.Ordering.{Ordering}
use Rattle.std.specs.declared.cmp.Ordering.TheVariants.{Greater}
use Rattle.std.specs.FinMap.{FinMap, find, get, insert, remove, contains_key, entries, entries-insert, from_entries, same_map, empty, len-empty, len-entries, get-entries, nat_cmp-IsAntisymmetric}
use Rattle.std.specs.FinMap.Entries.{put, by_order, is_sorted, below_all}
use Rattle.std.proofs.lemmas.Bool.Decides.{nat_tests}
use Rattle.dkg_values.specs.Rising.{lookup}
use Rattle.dkg_secrets.specs.Keys.{key_cmp}
use Rattle.dkg_store.specs.Noted.{Notes}
use Rattle.dkg_store.specs.Pairs.{Pairs}
use Rattle.dkg_store.specs.Recorded.{AreChecked, at_epoch, of_epoch, first_refused, with_first}
use Rattle.dkg_store.proofs.Epochs.{sorted_epoch}
use Rattle.dkg_secrets.proofs.Map.{keys_total, exact_keys, same_key, get_at, get_other, remove_insert, view_entries, is_sorted_true}
use Rattle.dkg_store.proofs.Passing.{passes_at}

both_true : (a b : Bool) → (a && b) ≡ true → (a ≡ true) × (b ≡ true)
both_true true b e = (refl, e)
both_true false b e = absurd cc

greater : (j k : ℕ) → is_lt (nat_cmp j k) ≡ true → nat_cmp k j ≡ Greater
greater j k e = grind (arith, nat_tests)

here : (epoch q : ℕ) (k : ℕ × ℕ) → ((k.0 == epoch) && nat_lt k.1 (2 ^ 32)) ≡ true → eq_by_cmp nat_cmp q k.1 ≡ eq_by_cmp key_cmp (epoch, q) k
here epoch q k e = grind (arith, nat_tests)

elsewhere : (epoch q : ℕ) (k : ℕ × ℕ) → q < 2 ^ 32 → ((k.0 == epoch) && nat_lt k.1 (2 ^ 32)) ≡ false → eq_by_cmp key_cmp (epoch, q) k ≡ false
elsewhere epoch q k below e = grind (arith, nat_tests)

too_great : (q k : ℕ) (b : Bool) → nat_lt q (2 ^ 32) ≡ false → (b && nat_lt k (2 ^ 32)) ≡ true → eq_by_cmp nat_cmp q k ≡ false
too_great q k b above e =
    let small : nat_lt k (2 ^ 32) ≡ true = (both_true b (nat_lt k (2 ^ 32)) e).1 in
    grind (arith, nat_tests)

is_below : (q n : ℕ) → nat_lt q n ≡ true → q < n
is_below q n e = grind (arith, nat_tests)

below_is : (q n : ℕ) → q < n → nat_lt q n ≡ true
below_is q n below = grind (arith, nat_tests)

other_pair : (epoch q k : ℕ) → q ≢ k → ◌≢◌ {A = ℕ × ℕ} (epoch, q) (epoch, k)
other_pair epoch q k apart e = apart (ap (λ (p : ℕ × ℕ). p.1) e)

equal_alike : (q k : ℕ) → eq_by_cmp nat_cmp q k ≡ (k == q)
equal_alike q k = grind (arith, nat_tests)

nothing_in : {A : Type 0} (es : List A) → length es ≡ 0 → es ≡ []
nothing_in [] e = refl
nothing_in (x ∷ es) e = absurd (omega (arith, e))

module _ {V : Type 0} where
  pub none_yet : entries (empty {K = ℕ} {X = V} {R = nat_cmp}) ≡ []
  none_yet = nothing_in (entries (empty {K = ℕ} {X = V} {R = nat_cmp})) (sym (len-entries empty) ∙ len-empty nat_cmp V)

  last_is_above : (j k : ℕ) (v : V) (es rest : List (ℕ × V)) → below_all nat_cmp j (es ++ (k, v) ∷ rest) ≡ true → is_lt (nat_cmp j k) ≡ true
  last_is_above j k v [] rest e = (both_true (is_lt (nat_cmp j k)) (below_all nat_cmp j rest) e).0
  last_is_above j k v (x ∷ es) rest e = last_is_above j k v es rest (both_true (is_lt (nat_cmp j x.0)) (below_all nat_cmp j (es ++ (k, v) ∷ rest)) e).1

  -- a key above all goes to the end
  pub put_last : (k : ℕ) (v : V) (es rest : List (ℕ × V)) → is_sorted nat_cmp (es ++ (k, v) ∷ rest) ≡ true → put nat_cmp k v es ≡ es ++ (k, v) ∷ []
  put_last k v [] rest e = refl
  put_last k v (x ∷ es) rest e =
      let parts = both_true (below_all nat_cmp x.0 (es ++ (k, v) ∷ rest)) (is_sorted nat_cmp (es ++ (k, v) ∷ rest)) e in
      ap (λ (o : Ordering). by_order o ((k, v) ∷ x ∷ es) ((x.0, v) ∷ es) (x ∷ put nat_cmp k v es)) (greater x.0 k (last_is_above x.0 k v es rest parts.0))
      ∙ ap (λ (l : List (ℕ × V)). x ∷ l) (put_last k v es rest parts.1)

  pub one_by_one : (es rest : List (ℕ × V)) (x : ℕ × V) → (es ++ x ∷ []) ++ rest ≡ es ++ x ∷ rest
  one_by_one [] rest x = refl
  one_by_one (e ∷ es) rest x = ap (λ (l : List (ℕ × V)). e ∷ l) (one_by_one es rest x)

  pub next_entry : (epoch : ℕ) (pairs : Notes V) (m : FinMap nat_cmp V) (k : ℕ) (v : V) (rest : List (ℕ × V)) → entries m ++ (k, v) ∷ rest ≡ at_epoch epoch pairs → entries (insert m k v) ++ rest ≡ at_epoch epoch pairs
  next_entry epoch pairs m k v rest e =
      let sorted : is_sorted nat_cmp (entries m ++ (k, v) ∷ rest) ≡ true = ap (is_sorted nat_cmp) e ∙ is_sorted_true nat_cmp_total nat_cmp-IsAntisymmetric (at_epoch epoch pairs) (sorted_epoch epoch pairs) in
      ap (λ (l : List (ℕ × V)). l ++ rest) (entries-insert nat_cmp_total m k v ∙ put_last k v (entries m) rest sorted)
      ∙ one_by_one (entries m) rest (k, v) ∙ e

  abbrev keyed : (ℕ × ℕ) × V → ℕ × V
  keyed e = (e.0.1, e.1)

  abbrev within : ℕ → (ℕ × ℕ) × V → Bool
  within epoch e = (e.0.0 == epoch) && nat_lt e.0.1 (2 ^ 32)

  find_at : (epoch q : ℕ) (es : List ((ℕ × ℕ) × V)) → q < 2 ^ 32 → find nat_cmp q (map keyed (filter (within epoch) es)) ≡ find key_cmp (epoch, q) es
  find_at epoch q [] below = refl
  find_at epoch q (e ∷ es) below =
      elim (within epoch e) as (λ b. within epoch e ≡ b → find nat_cmp q (map keyed (cond b (e ∷ filter (within epoch) es) (filter (within epoch) es))) ≡ cond (eq_by_cmp key_cmp (epoch, q) e.0) (Some e.1) (find key_cmp (epoch, q) es)) [
        | true ↦ λ is. ap (λ (b : Bool). cond b (Some e.1) (find nat_cmp q (map keyed (filter (within epoch) es)))) (here epoch q e.0 is)
            ∙ ap (λ (o : Option V). cond (eq_by_cmp key_cmp (epoch, q) e.0) (Some e.1) o) (find_at epoch q es below)
        | false ↦ λ is. find_at epoch q es below ∙ sym (ap (λ (b : Bool). cond b (Some e.1) (find key_cmp (epoch, q) es)) (elsewhere epoch q e.0 below is))
      ] refl

  find_none : (epoch q : ℕ) (es : List ((ℕ × ℕ) × V)) → nat_lt q (2 ^ 32) ≡ false → find nat_cmp q (map keyed (filter (within epoch) es)) ≡ None
  find_none epoch q [] above = refl
  find_none epoch q (e ∷ es) above =
      elim (within epoch e) as (λ b. within epoch e ≡ b → find nat_cmp q (map keyed (cond b (e ∷ filter (within epoch) es) (filter (within epoch) es))) ≡ None) [
        | true ↦ λ is. ap (λ (b : Bool). cond b (Some e.1) (find nat_cmp q (map keyed (filter (within epoch) es)))) (too_great q e.0.1 (e.0.0 == epoch) above is) ∙ find_none epoch q es above
        | false ↦ λ is. find_none epoch q es above
      ] refl

  -- what a copy of what is recorded of an epoch has at a key
  copy_has : (epoch : ℕ) (pairs : Notes V) (m : FinMap nat_cmp V) → entries m ≡ at_epoch epoch pairs → (q : ℕ) → get m q ≡ cond (nat_lt q (2 ^ 32)) (get pairs (epoch, q)) None
  copy_has epoch pairs m e q =
      get-entries m q ∙ ap (find nat_cmp q) e
      ∙ elim (nat_lt q (2 ^ 32)) as (λ b. nat_lt q (2 ^ 32) ≡ b → find nat_cmp q (at_epoch epoch pairs) ≡ cond b (get pairs (epoch, q)) None) [
        | true ↦ λ is. find_at epoch q (entries pairs) (is_below q (2 ^ 32) is) ∙ sym (get-entries pairs (epoch, q))
        | false ↦ λ is. find_none epoch q (entries pairs) is
      ] refl

  -- a dealer's dealing is looked up among those of its epoch
  find_is_lookup : (q : ℕ) (es : List (ℕ × V)) → find nat_cmp q es ≡ lookup q es
  find_is_lookup q [] = refl
  find_is_lookup q (e ∷ es) =
      ap (λ (b : Bool). cond b (Some e.1) (find nat_cmp q es)) (equal_alike q e.0)
      ∙ ap (λ (o : Option V). cond (e.0 == q) (Some e.1) o) (find_is_lookup q es)

  pub lookup_at : (epoch q : ℕ) (m : Notes V) → q < 2 ^ 32 → lookup q (at_epoch epoch m) ≡ get m (epoch, q)
  lookup_at epoch q m below = sym (find_is_lookup q (at_epoch epoch m)) ∙ find_at epoch q (entries m) below ∙ sym (get-entries m (epoch, q))

  -- One more is recorded, and kept beside.
  pub one_more_kept : (epoch : ℕ) (pairs : Notes V) (m : FinMap nat_cmp V) (k : ℕ) (v : V) → k < 2 ^ 32 → entries m ≡ at_epoch epoch pairs → entries (insert m k v) ≡ at_epoch epoch (insert pairs (epoch, k) v)
  one_more_kept epoch pairs m k v below e =
      let all : Notes V = insert pairs (epoch, k) v in
      let listed : entries (from_entries {R = nat_cmp} (at_epoch epoch all)) ≡ at_epoch epoch all = view_entries nat_cmp_total nat_cmp-IsAntisymmetric (at_epoch epoch all) (sorted_epoch epoch all) in
      let same : insert m k v ≡ from_entries {R = nat_cmp} (at_epoch epoch all) =
      same_map nat_cmp_total nat_cmp-IsAntisymmetric (insert m k v) (from_entries {R = nat_cmp} (at_epoch epoch all)) (λ q.
      elim (same_key nat_cmp_total nat_cmp-IsAntisymmetric q k) as (λ w. get (insert m k v) q ≡ cond (nat_lt q (2 ^ 32)) (get all (epoch, q)) None) [
        | inl is ↦ get_at nat_cmp_total nat_cmp-IsAntisymmetric m k q v is
            ∙ sym (ap (λ (b : Bool). cond b (get all (epoch, q)) None) (below_is q (2 ^ 32) (subst (λ (x : ℕ). x < 2 ^ 32) (sym is) below))
            ∙ get_at keys_total exact_keys pairs (epoch, k) (epoch, q) v (ap (λ (x : ℕ). (epoch, x)) is))
        | inr apart ↦ get_other nat_cmp_total nat_cmp-IsAntisymmetric m k q v apart ∙ copy_has epoch pairs m e q
            ∙ sym (ap (λ (o : Option V). cond (nat_lt q (2 ^ 32)) o None) (get_other keys_total exact_keys pairs (epoch, k) (epoch, q) v (other_pair epoch q k apart)))
      ] ∙ sym (copy_has epoch all (from_entries {R = nat_cmp} (at_epoch epoch all)) listed q)) in
      ap (entries {K = ℕ} {X = V} {R = nat_cmp}) same ∙ listed

  -- .. where it is new
  pub new_kept : (epoch : ℕ) (pairs : Notes V) (m : FinMap nat_cmp V) (k : ℕ) (v : V) → k < 2 ^ 32 → get pairs (epoch, k) ≡ None → entries m ≡ at_epoch epoch pairs → entries (with_first m k v) ≡ at_epoch epoch (insert pairs (epoch, k) v)
  new_kept epoch pairs m k v below none e =
      let not_there : get m k ≡ None = copy_has epoch pairs m e k ∙ ap (λ (b : Bool). cond b (get pairs (epoch, k)) None) (below_is k (2 ^ 32) below) ∙ none in
      ap (λ (o : Option V). entries (if is_some o then m else insert m k v)) not_there ∙ one_more_kept epoch pairs m k v below e

  -- to take back what was new
  taken_back : (m : FinMap nat_cmp V) (k : ℕ) (v : V) → (if not (contains_key m k) then remove (with_first m k v) k else with_first m k v) ≡ m
  taken_back m k v = elim (get m k) as (λ o. get m k ≡ o → (if not (is_some o) then remove (if is_some o then m else insert m k v) k else if is_some o then m else insert m k v) ≡ m) [
    | None ↦ λ none. remove_insert nat_cmp_total nat_cmp-IsAntisymmetric m k v none
    | Some x ↦ λ some. refl
  ] refl

  pub took_back : (m mid last : FinMap nat_cmp V) (k : ℕ) (v : V) (new : Bool) → new ≡ not (contains_key m k) → mid ≡ with_first m k v → last ≡ (if new then remove mid k else mid) → last ≡ m
  took_back m mid last k v new is_new was is =
      is ∙ ap (λ (n : FinMap nat_cmp V). if new then remove n k else n) was
      ∙ ap (λ (b : Bool). if b then remove (with_first m k v) k else with_first m k v) is_new ∙ taken_back m k v

  get_is_lookup : (m : FinMap nat_cmp V) (q : ℕ) → get m q ≡ lookup q (entries m)
  get_is_lookup m q = get-entries m q ∙ find_is_lookup q (entries m)

module _ {E : Type 0} (check : ℕ → List ℕ → ℕ → Result (Unit {0}) E) where
  abbrev Passes : ℕ → Option (List ℕ × ℕ) → Type 0
  Passes dealer o = IfSome o (λ d. check dealer d.0 d.1 ≡ Ok tt)

  pub copy_checked : (epoch : ℕ) (pairs : Pairs) (m : FinMap nat_cmp (List ℕ × ℕ)) → entries m ≡ at_epoch epoch pairs → first_refused check (of_epoch epoch pairs) ≡ None → AreChecked check m
  copy_checked epoch pairs m e none = record {
    each = λ dealer.
        subst (Passes dealer) (sym (get_is_lookup m dealer ∙ ap (λ (l : List (ℕ × (List ℕ × ℕ))). lookup dealer l) e)) (passes_at check epoch pairs none dealer);
  }

  pub checked_in_list : (m : FinMap nat_cmp (List ℕ × ℕ)) → AreChecked check m → (dealer : ℕ) → IfSome (lookup dealer (entries m)) (λ d. check dealer d.0 d.1 ≡ Ok tt)
  checked_in_list m all dealer = subst (Passes dealer) (get_is_lookup m dealer) (all.each dealer)

  one_more_checked : (m : FinMap nat_cmp (List ℕ × ℕ)) (k : ℕ) (d : List ℕ × ℕ) → check k d.0 d.1 ≡ Ok tt → AreChecked check m → AreChecked check (insert m k d)
  one_more_checked m k d passes all = record {
    each = λ dealer.
        elim (same_key nat_cmp_total nat_cmp-IsAntisymmetric dealer k) as (λ w. Passes dealer (get (insert m k d) dealer)) [
          | inl is ↦ subst (Passes dealer) (sym (get_at nat_cmp_total nat_cmp-IsAntisymmetric m k dealer d is)) (subst (λ (x : ℕ). check x d.0 d.1 ≡ Ok tt) (sym is) passes)
          | inr apart ↦ subst (Passes dealer) (sym (get_other nat_cmp_total nat_cmp-IsAntisymmetric m k dealer d apart)) (all.each dealer)
        ];
  }

  pub first_checked : (m : FinMap nat_cmp (List ℕ × ℕ)) (k : ℕ) (d : List ℕ × ℕ) → check k d.0 d.1 ≡ Ok tt → AreChecked check m → AreChecked check (with_first m k d)
  first_checked m k d passes all = elim (contains_key m k) as (λ b. AreChecked check (if b then m else insert m k d)) [
    | true ↦ all
    | false ↦ one_more_checked m k d passes all
  ]
