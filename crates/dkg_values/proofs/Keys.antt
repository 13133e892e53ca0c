-- The keys of pairs, by index.
use Rattle.std.proofs.Common.{◌≡◌, ℕ, ◌<◌, List, [], ◌∷◌, length, get_or, zero, suc, refl, arith, ◌-◌, ◌+◌, ◌≤◌, true, is_ge, nat_cmp, subst}
use Rattle.std.specs.List.Sorted.{IsStrictlyIncreasing}
use Rattle.std.proofs.lemmas.List.{length-map}
use Rattle.std.proofs.lemmas.Bool.Decides.{nat_tests}
use Rattle.dkg_values.specs.Rising.{keys_of}

pub key_at : {V : Type 0} (pairs : List (ℕ × V)) (k : ℕ) (d : ℕ × V) → k < length pairs → get_or (keys_of pairs) k 0 ≡ (get_or pairs k d).0
key_at [] k d h = absurd (omega arith)
key_at (p ∷ ps) zero d h = refl
key_at (p ∷ ps) (suc k) d h = key_at ps k d (omega arith)

falls : (a b : ℕ) → true ≡ is_ge (nat_cmp a b) → b ≤ a
falls a b h = grind (arith, nat_tests)

-- two neighbours that don't rise
pub not_rising : {V : Type 0} (pairs : List (ℕ × V)) (i : ℕ) (p q : ℕ × V) → 1 ≤ i → i < length pairs → true ≡ is_ge (nat_cmp (get_or pairs (i - 1) p).0 (get_or pairs i q).0) → IsStrictlyIncreasing (keys_of pairs) → ⊥
not_rising {V} pairs i p q one lt ge up =
    let a = key_at pairs (i - 1) p (omega arith) in
    let b = key_at pairs i q lt in
    let next : i - 1 + 1 ≡ i = omega arith in
    let u : get_or (keys_of pairs) (i - 1) 0 < get_or (keys_of pairs) (i - 1 + 1) 0 = up (i - 1) (omega (arith, length-map pairs (λ (p : ℕ × V). p.0))) in
    let f = falls (get_or pairs (i - 1) p).0 (get_or pairs i q).0 ge in
    let w : get_or (keys_of pairs) (i - 1) 0 < get_or (keys_of pairs) i 0 = subst (λ (k : ℕ). get_or (keys_of pairs) (i - 1) 0 < get_or (keys_of pairs) k 0) next u in
    omega (arith, f, a, b, w)
