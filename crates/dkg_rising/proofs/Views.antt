-- A list of entries and a tree, seen as one finite map.
use Rattle.std.proofs.Common.{◌≡◌, ℕ, cond, List, [], ◌∷◌, ◌++◌, get_or, set, Option, Some, nat_cmp, sym, ap, ◌∙◌}
use Rattle.std.specs.BTreeMap.{is_at}
use Rattle.std.specs.FinMap.{find, get, insert, from_entries, get-from_entries, get-insert, same_map, nat_cmp-IsAntisymmetric}
use Rattle.std.specs.List.Sorted.{IsStrictlyIncreasing}
use Rattle.std.specs.Map.{keys_of, lookup}
use Rattle.std.specs.Option.{option_or}
use Rattle.std.proofs.lemmas.Cmp.{nat_cmp_total}
use Rattle.dkg_rising.specs.Indexes.{IsAt, IsGap}
use Rattle.dkg_rising.proofs.Finding.{Puts, same, find_at, find_joined, find_lookup, puts_at, puts_behind, puts_first, puts_second, puts_tree}
use Rattle.dkg_rising.proofs.Indexes.{find_gap, none_before}

module _ {X : Type 0} where
  view_puts : (es fs : List (ℕ × X)) (n : ℕ) (v : X) → Puts es fs n v → from_entries {R = nat_cmp} fs ≡ insert (from_entries {R = nat_cmp} es) n v
  view_puts es fs n v puts = same_map nat_cmp_total nat_cmp-IsAntisymmetric _ _ (λ q.
      get-from_entries nat_cmp_total fs q ∙ puts q
      ∙ sym (get-insert nat_cmp_total (from_entries {R = nat_cmp} es) n v q ∙ ap (cond (same q n) (Some v)) (get-from_entries nat_cmp_total es q)))

  get_view : (es ts : List (ℕ × X)) (n : ℕ) → get (from_entries {R = nat_cmp} (es ++ ts)) n ≡ option_or (find nat_cmp n es) (find nat_cmp n ts)
  get_view es ts n = get-from_entries nat_cmp_total (es ++ ts) n ∙ find_joined es ts n

  -- ---- what is got

  pub got_there : (es ts : List (ℕ × X)) → IsStrictlyIncreasing (keys_of es) → (n k : ℕ) (item : ℕ × X) → IsAt n es k → item ≡ get_or es k item → get (from_entries {R = nat_cmp} (es ++ ts)) n ≡ Some item.1
  got_there es ts rises n k item there is =
      get_view es ts n ∙ ap (λ (o : Option X). option_or o (find nat_cmp n ts)) (find_at es k n item there.in_range there.has_number (none_before es rises n k there) is)

  pub got_elsewhere : (es ts : List (ℕ × X)) (n k : ℕ) → IsGap n es k → get (from_entries {R = nat_cmp} (es ++ ts)) n ≡ lookup (is_at (nat_cmp n)) ts
  got_elsewhere es ts n k gap = get_view es ts n ∙ ap (λ (o : Option X). option_or o (find nat_cmp n ts)) (find_gap es n k gap) ∙ find_lookup ts n

  -- ---- what is put

  pub put_there : (es ts : List (ℕ × X)) → IsStrictlyIncreasing (keys_of es) → (n k : ℕ) (v : X) → IsAt n es k
      → from_entries {R = nat_cmp} (set es k (n, v) ++ ts) ≡ insert (from_entries {R = nat_cmp} (es ++ ts)) n v
  put_there es ts rises n k v there =
      view_puts (es ++ ts) (set es k (n, v) ++ ts) n v (puts_first es (set es k (n, v)) ts n v (puts_at es k n v there.in_range there.has_number (none_before es rises n k there)))

  pub put_behind : (es ts : List (ℕ × X)) (n k : ℕ) (v : X) → IsGap n es k
      → from_entries {R = nat_cmp} ((es ++ (n, v) ∷ []) ++ ts) ≡ insert (from_entries {R = nat_cmp} (es ++ ts)) n v
  put_behind es ts n k v gap = view_puts (es ++ ts) ((es ++ (n, v) ∷ []) ++ ts) n v (puts_first es (es ++ (n, v) ∷ []) ts n v (puts_behind es n v (find_gap es n k gap)))

  pub put_elsewhere : (es ts us : List (ℕ × X)) (n k : ℕ) (v : X) → IsGap n es k
      → ((q : ℕ) → lookup (is_at (nat_cmp q)) us ≡ cond (is_at (nat_cmp n) q) (Some v) (lookup (is_at (nat_cmp q)) ts))
      → from_entries {R = nat_cmp} (es ++ us) ≡ insert (from_entries {R = nat_cmp} (es ++ ts)) n v
  put_elsewhere es ts us n k v gap updates = view_puts (es ++ ts) (es ++ us) n v (puts_second es ts us n v (find_gap es n k gap) (puts_tree ts us n v updates))
