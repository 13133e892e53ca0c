-- Keys that rise and are all among other keys that rise are no more than these.
use Rattle.std.proofs.Common.{◌≡◌, ℕ, zero, suc, ◌+◌, ◌<◌, ◌≤◌, List, [], ◌∷◌, length, inl, inr, refl, sym, arith, ◌⊎◌}
use Rattle.std.specs.Prelude.{Contains}
use Rattle.std.specs.List.Sorted.{IsStrictlyIncreasing}
use Rattle.dkg_values.specs.Rising.{Rises}
use Rattle.dkg_values.specs.RisingLaws.{rises_from}

-- a key of a list is its first one or one of the others
pub first_or_later : (y : ℕ) (ys : List ℕ) (x : ℕ) → Contains (y ∷ ys) x → (x ≡ y) ⊎ Contains ys x
first_or_later y ys x (zero, lt, is) = inl (sym is)
first_or_later y ys x (suc k, lt, is) = inr (k, omega arith, is)

-- each key that rises from `least` is at least that
no_less : (least : ℕ) (xs : List ℕ) (x : ℕ) → Rises least xs → Contains xs x → least ≤ x
no_less least [] x up (k, lt, is) = absurd (omega arith)
no_less least (z ∷ zs) x up c =
    elim (first_or_later z zs x c) [
      | inl e ↦ omega (arith, e, up.0)
      | inr later ↦ omega (arith, up.0, no_less (z + 1) zs x up.1 later)
    ]

later_from : (y : ℕ) (ys : List ℕ) (x : ℕ) → y < x → Contains (y ∷ ys) x → Contains ys x
later_from y ys x lt c = elim (first_or_later y ys x c) [ inl e ↦ absurd (omega (arith, e)) | inr later ↦ later ]

later : (z : ℕ) (zs : List ℕ) (x : ℕ) → Contains zs x → Contains (z ∷ zs) x
later z zs x (k, lt, is) = (suc k, omega arith, is)

few_from : (a b : ℕ) (ys xs : List ℕ) → Rises a xs → Rises b ys → ((x : ℕ) → Contains xs x → Contains ys x) → length xs ≤ length ys
few_from a b ys [] up above among = omega arith
few_from a b [] (x ∷ xs) up above among = let c = among x (0, omega arith, refl) in absurd (omega (arith, c.1))
few_from a b (y ∷ ys) (x ∷ xs) up above among =
    elim (first_or_later y ys x (among x (0, omega arith, refl))) [
      | inl e ↦ omega (arith, few_from (x + 1) (y + 1) ys xs up.1 above.1 (λ z c. later_from y ys z (omega (arith, e, no_less (x + 1) xs z up.1 c)) (among z (later x xs z c))))
      | inr there ↦
          let past = no_less (y + 1) ys x above.1 there in
          let all = few_from x (y + 1) ys (x ∷ xs) (omega arith, up.1) above.1 (λ z c. later_from y ys z (omega (arith, past, no_less x (x ∷ xs) z (omega arith, up.1) c)) (among z c)) in
          omega (arith, all)
    ]

pub few_among : (xs ys : List ℕ) → IsStrictlyIncreasing xs → IsStrictlyIncreasing ys → ((x : ℕ) → Contains xs x → Contains ys x) → length xs ≤ length ys
few_among xs ys up above among = few_from 0 0 ys xs (rises_from xs up) (rises_from ys above) among
