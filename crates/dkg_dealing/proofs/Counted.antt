-- Acknowledgements that a dealer counts and a store records, as the relation lists them.
use Rattle.std.proofs.Common.{◌≡◌, ℕ, Bool, true, false, cond, List, [], ◌∷◌, refl, ◌∙◌, ap, arith}
use Rattle.std.specs.Prelude.{◌==◌, nat_lt, if◌then◌else◌}
use Rattle.std.specs.FinMap as maps
use Rattle.std.specs.FinMap.{FinMap, entries-insert, insert, put}
use Rattle.std.specs.FinMap.Entries.{by_order}
use Rattle.std.specs.Ordering.{nat_cmp}
use Rattle.std.specs.Cmp.{nat_cmp_total}
use Rattle.std.specs.declared.cmp.Ordering.TheVariants.{Less, Equal, Greater}
use Rattle.std.proofs.lemmas.Bool.Decides.{nat_tests}
use Rattle.dkg_secrets.specs.Keys.{key_cmp}
use Rattle.dkg_secrets.proofs.Map.{keys_total}
use Rattle.dkg_values.specs.Rising.{with_pair}

same_key : (a b : ℕ) → (a == b) ≡ true → b ≡ a
same_key a b is = grind (arith, nat_tests)

module _ {V : Type 0} (k : ℕ) (v : V) where
  put_here : (e : ℕ × V) (es : List (ℕ × V)) → put nat_cmp k v es ≡ with_pair (k, v) es → (low same : Bool) → (k == e.0) ≡ same
      → by_order (cond low Less (cond same Equal Greater)) ((k, v) ∷ e ∷ es) ((e.0, v) ∷ es) (e ∷ put nat_cmp k v es)
      ≡ (if low then (k, v) ∷ e ∷ es else if same then (k, v) ∷ es else e ∷ with_pair (k, v) es)
  put_here e es more true same is = refl
  put_here e es more false true is = ap (λ (n : ℕ). (n, v) ∷ es) (same_key k e.0 is)
  put_here e es more false false is = ap (λ (l : List (ℕ × V)). e ∷ l) more

  put_pair : (es : List (ℕ × V)) → put nat_cmp k v es ≡ with_pair (k, v) es
  put_pair [] = refl
  put_pair (e ∷ es) = put_here e es (put_pair es) (nat_lt k e.0) (k == e.0) refl

  -- by player
  pub counts_one : (m : FinMap nat_cmp V) → maps.entries (insert m k v) ≡ with_pair (k, v) (maps.entries m)
  counts_one m = entries-insert nat_cmp_total m k v ∙ put_pair (maps.entries m)

-- by epoch and player
pub records_one : {V : Type 0} (key : ℕ × ℕ) (v : V) (m : FinMap key_cmp V) → maps.entries (insert m key v) ≡ put key_cmp key v (maps.entries m)
records_one key v m = entries-insert keys_total m key v
