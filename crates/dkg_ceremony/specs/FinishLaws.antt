-- How a player's share is gathered, dealer by dealer.
use Rattle.std.proofs.Common.{◌≡◌, ℕ, zero, suc, ◌+◌, ◌*◌, ◌%◌, ◌<◌, ◌++◌, Bool, true, false, cond, eqb, inl, inr, subst, List, [], ◌∷◌, length, get_or, take, drop, map, Option, Some, None, is_some, refl, sym, ap, ◌∙◌, add-one, arith}
use Rattle.std.specs.Prelude.{◌↔◌, IfSome, IsTrue, not, unwrap_or}
use Rattle.std.proofs.lemmas.List.{take_more, map-append}
use Rattle.std.specs.List.{AllByRecursion, zip}
use Rattle.std.proofs.lemmas.Bool.{cases_Bool, eqb-true}
use Rattle.dkg_values.specs.Rising.{lookup}
use Rattle.dkg_ceremony.specs.Polynomials.{prime}
use Rattle.dkg_ceremony.specs.Finishes.{first_missing, known_privates, weighted_total}

total_turn : (weights privates : List ℕ) (i d e : ℕ) → i < length privates → length weights ≡ length privates
    → weighted_total (zip (drop i weights) (drop i privates)) ≡ ((get_or weights i d * get_or privates i e) % prime + weighted_total (zip (drop (suc i) weights) (drop (suc i) privates))) % prime
total_turn [] privates i d e lt same = absurd (omega arith)
total_turn (w ∷ ws) [] i d e lt same = absurd (omega arith)
total_turn (w ∷ ws) (p ∷ ps) zero d e lt same = refl
total_turn (w ∷ ws) (p ∷ ps) (suc i) d e lt same = total_turn ws ps i d e (omega arith) (omega arith)

pub total_more : (weights privates : List ℕ) (i d e : ℕ) → i < length privates → length weights ≡ length privates
    → weighted_total (zip (drop i weights) (drop i privates)) ≡ ((get_or weights i d * get_or privates i e) % prime + weighted_total (zip (drop (i + 1) weights) (drop (i + 1) privates))) % prime
total_more weights privates i d e lt same = rw add-one (total_turn weights privates i d e lt same)

pub total_none : (weights privates : List ℕ) → weighted_total (zip (drop (length privates) weights) (drop (length privates) privates)) ≡ 0
total_none [] [] = refl
total_none [] (p ∷ ps) = refl
total_none (w ∷ ws) [] = refl
total_none (w ∷ ws) (p ∷ ps) = total_none ws ps

-- two tests of one fact
pub same_tests : (a b : Bool) (P : Type 0) → IsTrue a ↔ P → IsTrue b ↔ P → a ≡ b
same_tests true true P f g = refl
same_tests true false P f g = sym (g.1 (f.0 refl))
same_tests false true P f g = f.1 (g.0 refl)
same_tests false false P f g = refl

-- ---- the loop that gathers private halves

missing_turn : (f : ℕ → Option ℕ) (dealers : List ℕ) (i d : ℕ) → i < length dealers → first_missing f (drop i dealers) ≡ cond (not (is_some (f (get_or dealers i d)))) (Some (get_or dealers i d)) (first_missing f (drop (suc i) dealers))
missing_turn f [] i d lt = absurd (omega arith)
missing_turn f (x ∷ xs) zero d lt = refl
missing_turn f (x ∷ xs) (suc i) d lt = missing_turn f xs i d (omega arith)

pub missing_here : (f : ℕ → Option ℕ) (dealers : List ℕ) (i dealer : ℕ) → i < length dealers → dealer ≡ get_or dealers i dealer → f dealer ≡ None → first_missing f (drop i dealers) ≡ Some dealer
missing_here f dealers i dealer lt is none =
    let here : f (get_or dealers i dealer) ≡ None = ap f (sym is) ∙ none in
    missing_turn f dealers i dealer lt ∙ rw here (ap (λ (k : ℕ). Some k) (sym is))

pub known_here : (f : ℕ → Option ℕ) (dealers : List ℕ) (i dealer value : ℕ) → i < length dealers → dealer ≡ get_or dealers i dealer → f dealer ≡ Some value → first_missing f (drop i dealers) ≡ first_missing f (drop (i + 1) dealers)
known_here f dealers i dealer value lt is known =
    let here : f (get_or dealers i dealer) ≡ Some value = ap f (sym is) ∙ known in
    rw add-one (missing_turn f dealers i dealer lt ∙ rw here refl)

pub known_more : (f : ℕ → Option ℕ) (dealers : List ℕ) (i dealer value : ℕ) → i < length dealers → dealer ≡ get_or dealers i dealer → f dealer ≡ Some value → known_privates f (take (i + 1) dealers) ≡ known_privates f (take i dealers) ++ value ∷ []
known_more f dealers i dealer value lt is known =
    let here : unwrap_or (f (get_or dealers i dealer)) 0 ≡ value = ap (λ (x : ℕ). unwrap_or (f x) 0) (sym is) ∙ ap (λ (o : Option ℕ). unwrap_or o 0) known in
    ap (map (λ (d : ℕ). unwrap_or (f d) 0)) (take_more dealers i dealer lt) ∙ map-append (λ (d : ℕ). unwrap_or (f d) 0) (take i dealers) (get_or dealers i dealer ∷ []) ∙ ap (λ (x : ℕ). known_privates f (take i dealers) ++ x ∷ []) here

-- what holds of each pair holds of what is found at a key
pub found_passes : {V : Type 0} (P : ℕ → V → Type 0) (pairs : List (ℕ × V)) → AllByRecursion (λ p. P p.0 p.1) pairs → (key : ℕ) → IfSome (lookup key pairs) (P key)
found_passes P [] h key = tt
found_passes {V} P (p ∷ ps) h key =
    elim (cases_Bool (eqb p.0 key)) [
      | inl here ↦ rw here (subst (λ (k : ℕ). P k p.1) (eqb-true p.0 key here) h.0)
      | inr other ↦ rw other (found_passes P ps h.1 key)
    ]
