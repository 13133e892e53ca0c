-- Keys taken away by the bits of a pick.
use Rattle.std.proofs.Common.{◌≡◌, inl, ℕ, ◌+◌, ◌/◌, ◌%◌, ◌^◌, ◌<◌, ◌==◌, nat_lt, cond, Bool, true, false, List, [], ◌∷◌, map, filter, length, drop, get_or, refl, sym, ◌∙◌, ap, subst, arith}
use Rattle.std.proofs.lemmas.List.{drop_more}
use Rattle.std.proofs.lemmas.Bool.Decides.{nat_tests}
use Rattle.std.specs.Ordering.{nat_cmp}
use Rattle.std.specs.Cmp.{IsTotalOrder, nat_cmp_total}
use Rattle.std.specs.List.{AllByRecursion}
use Rattle.std.specs.FinMap.{FinMap, IsAntisymmetric, nat_cmp-IsAntisymmetric, entries, get, remove}
use Rattle.std.specs.declared.cmp.Ordering.{Ordering}
use Rattle.dkg_secrets.specs.Cuts.{is_clear, cleared, keys_below, pruned_by}
use Rattle.dkg_secrets.specs.Keys.{key_cmp, StaysOrGoes}
use Rattle.dkg_secrets.specs.Secrets.{Secrets, IsTornPrune}
use Rattle.dkg_secrets.proofs.Map.{gone_at, keys_total, exact_keys}

same_bit : (pick n : ℕ) → is_clear pick (n % 64) ≡ is_clear pick n
same_bit pick n = ap (λ (k : ℕ). (pick / 2 ^ k) % 2 == 0) (omega arith)

bit_at : (pick index : ℕ) → index < 64 → is_clear pick index ≡ ((pick / 2 ^ index) % 2 == 0)
bit_at pick index below = ap (λ (k : ℕ). (pick / 2 ^ k) % 2 == 0) (omega arith)

is_zero : (n : ℕ) → n ≡ 0 → (n == 0) ≡ true
is_zero n is = grind (arith, nat_tests)

is_not : (n : ℕ) → (n ≡ 0 → ⊥) → (n == 0) ≡ false
is_not n is = grind (arith, nat_tests)

clear_at : (pick index : ℕ) → index < 64 → (pick / 2 ^ index) % 2 ≡ 0 → is_clear pick index ≡ true
clear_at pick index below is = bit_at pick index below ∙ is_zero _ is

set_at : (pick index : ℕ) → index < 64 → ((pick / 2 ^ index) % 2 ≡ 0 → ⊥) → is_clear pick index ≡ false
set_at pick index below is = bit_at pick index below ∙ is_not _ is

module _ {K X : Type 0} {R : K → K → Ordering} where
  -- indexes turn at 64
  cleared_turn : (pick n : ℕ) (ks : List K) (m : FinMap R X) → cleared pick (n % 64) ks m ≡ cleared pick n ks m
  cleared_turn pick n [] m = refl
  cleared_turn pick n (k ∷ ks) m =
      ap (λ (b : Bool). cleared pick (n % 64 + 1) ks (cond b (remove m k) m)) (same_bit pick n)
      ∙ sym (cleared_turn pick (n % 64 + 1) ks (cond (is_clear pick n) (remove m k) m))
      ∙ ap (λ (i : ℕ). cleared pick i ks (cond (is_clear pick n) (remove m k) m)) (omega arith)
      ∙ cleared_turn pick (n + 1) ks (cond (is_clear pick n) (remove m k) m)

  -- the key at an index, and then those behind it
  cleared_more : (pick index i : ℕ) (ks : List K) (d : K) (m n : FinMap R X) → i < length ks → n ≡ cond (is_clear pick index) (remove m (get_or ks i d)) m → cleared pick ((index + 1) % 64) (drop (i + 1) ks) n ≡ cleared pick index (drop i ks) m
  cleared_more pick index i ks d m n below next =
      ap (cleared pick ((index + 1) % 64) (drop (i + 1) ks)) next
      ∙ cleared_turn pick (index + 1) (drop (i + 1) ks) (cond (is_clear pick index) (remove m (get_or ks i d)) m)
      ∙ ap (λ (l : List K). cleared pick index l m) (sym (drop_more ks i d below))

  pub cleared_gone : (pick index i : ℕ) (ks : List K) (d : K) (m n : FinMap R X) → i < length ks → index < 64 → (pick / 2 ^ index) % 2 ≡ 0 → n ≡ remove m (get_or ks i d) → cleared pick ((index + 1) % 64) (drop (i + 1) ks) n ≡ cleared pick index (drop i ks) m
  cleared_gone pick index i ks d m n below turns clear next =
      cleared_more pick index i ks d m n below (next ∙ sym (ap (λ (b : Bool). cond b (remove m (get_or ks i d)) m) (clear_at pick index turns clear)))

  pub cleared_kept : (pick index i : ℕ) (ks : List K) (d : K) (m n : FinMap R X) → i < length ks → index < 64 → ((pick / 2 ^ index) % 2 ≡ 0 → ⊥) → n ≡ m → cleared pick ((index + 1) % 64) (drop (i + 1) ks) n ≡ cleared pick index (drop i ks) m
  cleared_kept pick index i ks d m n below turns is_set next =
      cleared_more pick index i ks d m n below (next ∙ sym (ap (λ (b : Bool). cond b (remove m (get_or ks i d)) m) (set_at pick index turns is_set)))

  module _ (total : IsTotalOrder R) (exact : IsAntisymmetric R) (epoch_of : K → ℕ) (min : ℕ) where
    stays_or_goes : (pick index : ℕ) (ks : List K) (old m : FinMap R X) → AllByRecursion (λ k. epoch_of k < min) ks → ((q : K) → StaysOrGoes min (epoch_of q) (get old q) (get m q)) → (q : K) → StaysOrGoes min (epoch_of q) (get old q) (get (cleared pick index ks m) q)
    stays_or_goes pick index [] old m below stays q = stays q
    stays_or_goes pick index (k ∷ ks) old m below stays q = stays_or_goes pick (index + 1) ks old (cond (is_clear pick index) (remove m k) m) below.1
        (λ p. elim (is_clear pick index) as (λ b. StaysOrGoes min (epoch_of p) (get old p) (get (cond b (remove m k) m) p)) [
          | true ↦ gone_at total exact epoch_of min old m k below.0 stays p
          | false ↦ stays p
        ]) q

    all_below : (es : List (K × X)) → AllByRecursion (λ k. epoch_of k < min) (map (λ (e : K × X). e.0) (filter (λ (e : K × X). nat_lt (epoch_of e.0) min) es))
    all_below [] = tt
    all_below (e ∷ es) = elim (nat_lt (epoch_of e.0) min) as (λ b. nat_lt (epoch_of e.0) min ≡ b → AllByRecursion (λ k. epoch_of k < min) (map (λ (x : K × X). x.0) (cond b (e ∷ filter (λ (x : K × X). nat_lt (epoch_of x.0) min) es) (filter (λ (x : K × X). nat_lt (epoch_of x.0) min) es)))) [
      | true ↦ λ t. (under (epoch_of e.0) t, all_below es)
      | false ↦ λ t. all_below es
    ] refl
      where
        under : (n : ℕ) → nat_lt n min ≡ true → n < min
        under n t = grind (arith, nat_tests)

    cleared_torn : (pick index : ℕ) (m : FinMap R X) (q : K) → StaysOrGoes min (epoch_of q) (get m q) (get (cleared pick index (keys_below epoch_of min m) m) q)
    cleared_torn pick index m q = stays_or_goes pick index (keys_below epoch_of min m) m m (all_below (entries m)) (λ p. inl refl) q

-- what goes was below the minimum
pub pruned_torn : (min pick : ℕ) (s t : Secrets) → t ≡ pruned_by min pick s → IsTornPrune min s t
pruned_torn min pick s t is = subst (IsTornPrune min s) (sym is) (record {
  shares = λ q. cleared_torn nat_cmp_total nat_cmp-IsAntisymmetric (λ (k : ℕ). k) min pick 0 s.shares q;
  seeds = λ q. cleared_torn nat_cmp_total nat_cmp-IsAntisymmetric (λ (k : ℕ). k) min pick (length (keys_below (λ (k : ℕ). k) min s.shares)) s.seeds q;
  privates = λ q. cleared_torn keys_total exact_keys (λ (k : ℕ × ℕ). k.0) min pick (length (keys_below (λ (k : ℕ). k) min s.shares) + length (keys_below (λ (k : ℕ). k) min s.seeds)) s.privates q;
})

-- the three kinds of keys, one behind another
pub pruned_is : (min pick : ℕ) (s : Secrets) (shares seeds : List ℕ) (privates : List (ℕ × ℕ)) (of_shares : FinMap nat_cmp ℕ) (of_seeds : FinMap nat_cmp (List ℕ)) (of_privates : FinMap key_cmp ℕ) (second third : ℕ)
    → shares ≡ keys_below (λ (k : ℕ). k) min s.shares → seeds ≡ keys_below (λ (k : ℕ). k) min s.seeds → privates ≡ keys_below (λ (k : ℕ × ℕ). k.0) min s.privates
    → of_shares ≡ cleared pick 0 shares s.shares → second ≡ (0 + length shares) % 64 → of_seeds ≡ cleared pick second seeds s.seeds → third ≡ (second + length seeds) % 64 → of_privates ≡ cleared pick third privates s.privates
    → record { shares = of_shares; seeds = of_seeds; privates = of_privates } ≡ pruned_by min pick s
pruned_is min pick s shares seeds privates of_shares of_seeds of_privates second third one two three is_shares at_second is_seeds at_third is_privates =
    let first_row : of_shares ≡ cleared pick 0 (keys_below (λ (k : ℕ). k) min s.shares) s.shares = is_shares ∙ ap (λ (l : List ℕ). cleared pick 0 l s.shares) one in
    let from_second : second ≡ length shares % 64 = omega (arith, at_second) in
    let from_third : third ≡ (length shares + length seeds) % 64 = omega (arith, at_second, at_third) in
    let second_row : of_seeds ≡ cleared pick (length (keys_below (λ (k : ℕ). k) min s.shares)) (keys_below (λ (k : ℕ). k) min s.seeds) s.seeds =
    is_seeds ∙ ap (λ (n : ℕ). cleared pick n seeds s.seeds) from_second ∙ cleared_turn pick (length shares) seeds s.seeds ∙ (λ i. cleared pick (length (one i)) (two i) s.seeds) in
    let third_row : of_privates ≡ cleared pick (length (keys_below (λ (k : ℕ). k) min s.shares) + length (keys_below (λ (k : ℕ). k) min s.seeds)) (keys_below (λ (k : ℕ × ℕ). k.0) min s.privates) s.privates =
    is_privates ∙ ap (λ (n : ℕ). cleared pick n privates s.privates) from_third ∙ cleared_turn pick (length shares + length seeds) privates s.privates ∙ (λ i. cleared pick (length (one i) + length (two i)) (three i) s.privates) in
    λ i. record { shares = first_row i; seeds = second_row i; privates = third_row i }
