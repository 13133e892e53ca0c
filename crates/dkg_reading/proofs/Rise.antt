-- Lists that rise, by their test.
use Rattle.std.proofs.Common.{◌≡◌, ℕ, suc, ◌+◌, ◌-◌, ◌<◌, ◌^◌, ◌&&◌, true, false, Bool, cond, List, [], ◌∷◌, ◌++◌, length, Some, None, refl, sym, ap, subst, ◌∙◌, arith, nat_lt}
use Rattle.std.specs.Prelude.{IsTrue, ◌↔◌}
use Rattle.std.specs.List.Sorted.{IsStrictlyIncreasing}
use Rattle.std.proofs.lemmas.Bool.{and_parts, lt-ltb, ltb-true}
use Rattle.std.specs.Option.{option_map_or}
use Rattle.std.specs.Prelude.{slice_get}
use Rattle.dkg_values.specs.Rising.{Rises, keys_of, rises, rises_after}
use Rattle.dkg_reading.specs.Grammar.{is_above}
use Rattle.dkg_reading.specs.Rows.{as_set}
use Rattle.dkg_values.specs.RisingLaws.{rises_from, rises_to}

after_to : (x : ℕ) (xs : List ℕ) → rises_after x xs ≡ true → Rises (x + 1) xs
after_to x [] is = tt
after_to x (y ∷ ys) is =
    let parts = and_parts (nat_lt x y) (rises_after y ys) is in
    let below : x < y = ltb-true x y parts.0 in
    (omega (arith, below), after_to y ys parts.1)

after_from : (x : ℕ) (xs : List ℕ) → Rises (x + 1) xs → rises_after x xs ≡ true
after_from x [] r = refl
after_from x (y ∷ ys) r =
    let below : x < y = omega (arith, r.0) in
    rw (lt-ltb x y below, after_from y ys r.1) refl

pub is_rising : (xs : List ℕ) → rises xs ≡ true → IsStrictlyIncreasing xs
is_rising [] is = rises_to 0 [] tt
is_rising (x ∷ xs) is = rises_to 0 (x ∷ xs) (omega arith, after_to x xs is)

pub rising_is : (xs : List ℕ) → IsStrictlyIncreasing xs → rises xs ≡ true
rising_is [] is = refl
rising_is (x ∷ xs) is = after_from x xs (rises_from (x ∷ xs) is).1

pub not_rising : (xs : List ℕ) → (IsStrictlyIncreasing xs → ⊥) → rises xs ≡ false
not_rising xs not_so = by_case (rises xs) refl
  where
    by_case : (b : Bool) → rises xs ≡ b → b ≡ false
    by_case true is = absurd (not_so (is_rising xs is))
    by_case false is = refl

-- a set of some keys
pub set_value : (keys set : List ℕ) → set ≡ keys → length keys < 2 ^ 32 → (true ≡ true ↔ IsStrictlyIncreasing keys) → Some set ≡ as_set keys
set_value keys set is few rising = ap Some is ∙ sym (rw (lt-ltb (length keys) (2 ^ 32) few, rising_is keys (rising.0 refl)) refl)

pub no_set : (keys : List ℕ) → (false ≡ true ↔ IsStrictlyIncreasing keys) → None ≡ as_set keys
no_set keys rising =
    let apart : rises keys ≡ false = not_rising keys (λ up. let yes = rising.1 up in cc) in
    rw apart (by_case (nat_lt (length keys) (2 ^ 32)))
  where
    by_case : (b : Bool) → None ≡ cond (b && false) (Some keys) None
    by_case true = refl
    by_case false = refl

-- the last one is that of the others
above_more : (x z : ℕ) (zs : List ℕ) (y : ℕ) → is_above (x ∷ z ∷ zs) y ≡ is_above (z ∷ zs) y
above_more x z zs y =
    let last_index : length (x ∷ z ∷ zs) - 1 ≡ suc (length (z ∷ zs) - 1) = omega arith in
    ap (λ (k : ℕ). option_map_or (λ (last : ℕ). nat_lt last y) (slice_get (x ∷ z ∷ zs) k) true) last_index

-- a key above the last one
push_rises : (least x : ℕ) (xs : List ℕ) (y : ℕ) → Rises least (x ∷ xs) → is_above (x ∷ xs) y ≡ true → Rises least (x ∷ (xs ++ y ∷ []))
push_rises least x [] y r above =
    let below : x < y = ltb-true x y above in
    (r.0, (omega (arith, below), tt))
push_rises least x (z ∷ zs) y r above = (r.0, push_rises (x + 1) z zs y r.1 (sym (above_more x z zs y) ∙ above))

one_above : (xs : List ℕ) (y : ℕ) → IsStrictlyIncreasing xs → is_above xs y ≡ true → IsStrictlyIncreasing (xs ++ y ∷ [])
one_above [] y up above = rises_to 0 (y ∷ []) (omega arith, tt)
one_above (x ∷ xs) y up above = rises_to 0 (x ∷ (xs ++ y ∷ [])) (push_rises 0 x xs y (rises_from (x ∷ xs) up) above)

keys_more : {V : Type 0} (pairs : List (ℕ × V)) (p : ℕ × V) → keys_of (pairs ++ p ∷ []) ≡ keys_of pairs ++ p.0 ∷ []
keys_more [] p = refl
keys_more (q ∷ qs) p = ap (λ (ks : List ℕ). q.0 ∷ ks) (keys_more qs p)

-- a pair whose key is above the last one
pub pair_above : {V : Type 0} (pairs : List (ℕ × V)) (p : ℕ × V) → IsStrictlyIncreasing (keys_of pairs) → is_above (keys_of pairs) p.0 ≡ true → IsStrictlyIncreasing (keys_of (pairs ++ p ∷ []))
pair_above {V} pairs p up above = subst IsStrictlyIncreasing (sym (keys_more pairs p)) (one_above (keys_of pairs) p.0 up above)

pub rises_value : (b : Bool) (xs : List ℕ) → (IsTrue b ↔ IsStrictlyIncreasing xs) → b ≡ rises xs
rises_value true xs is = sym (rising_is xs (is.0 refl))
rises_value false xs is = sym (not_rising xs (λ up. let h : false ≡ true = is.1 up in cc))
