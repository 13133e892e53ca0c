-- How a weighted sum of polynomials is made, term by term.
use Rattle.std.proofs.Common.{◌≡◌, ℕ, zero, suc, ◌+◌, ◌*◌, ◌%◌, ◌<◌, ◌≤◌, List, [], ◌∷◌, length, get_or, drop, map, replicate, refl, sym, ◌∙◌, add-one, arith}
use Rattle.std.specs.List.{AllByRecursion, zip}
use Rattle.std.proofs.lemmas.List.{ext_get_or, length-map}
use Rattle.dkg_ceremony.specs.Polynomials.{prime}
use Rattle.dkg_ceremony.specs.PolynomialLaws.{poly_sum, poly_times, weighted_sum, length-poly_sum, length-weighted_sum}

-- ---- one term more

pub term_at : (weight : ℕ) (xs ys : List ℕ) (i d e : ℕ) → i < length xs → length xs ≡ length ys → get_or (poly_sum (poly_times weight xs) ys) i 0 ≡ ((weight * get_or xs i d) % prime + get_or ys i e) % prime
term_at weight [] ys i d e lt same = absurd (omega arith)
term_at weight (x ∷ xs) [] i d e lt same = absurd (omega arith)
term_at weight (x ∷ xs) (y ∷ ys) zero d e lt same = refl
term_at weight (x ∷ xs) (y ∷ ys) (suc i) d e lt same = term_at weight xs ys i d e (omega arith) (omega arith)

length_term : (weight : ℕ) (xs ys : List ℕ) → length xs ≡ length ys → length (poly_sum (poly_times weight xs) ys) ≡ length ys
length_term weight xs ys same =
    let t : length (poly_times weight xs) ≡ length xs = length-map xs (λ (x : ℕ). (weight * x) % prime) in
    length-poly_sum (poly_times weight xs) ys (t ∙ same) ∙ t ∙ same

-- a list that has each number of the sum
pub term_added : (weight : ℕ) (xs ys made : List ℕ) (n : ℕ) → length xs ≡ length ys → length made ≡ length ys → length ys ≤ n → ((k : ℕ) → k < n → get_or made k 0 ≡ get_or (poly_sum (poly_times weight xs) ys) k 0) → made ≡ poly_sum (poly_times weight xs) ys
term_added weight xs ys made n same long le each = ext_get_or 0 made (poly_sum (poly_times weight xs) ys) (long ∙ sym (length_term weight xs ys same)) (λ k lt. each k (omega (arith, long)))

-- ---- a sum, from the last term on

sum_turn : (n : ℕ) (f : ℕ → List ℕ) (weights selected : List ℕ) (i d e : ℕ) → i < length selected → length weights ≡ length selected
    → weighted_sum n (zip (drop i weights) (map f (drop i selected))) ≡ poly_sum (poly_times (get_or weights i d) (f (get_or selected i e))) (weighted_sum n (zip (drop (suc i) weights) (map f (drop (suc i) selected))))
sum_turn n f [] selected i d e lt same = absurd (omega arith)
sum_turn n f (w ∷ ws) [] i d e lt same = absurd (omega arith)
sum_turn n f (w ∷ ws) (s ∷ ss) zero d e lt same = refl
sum_turn n f (w ∷ ws) (s ∷ ss) (suc i) d e lt same = sum_turn n f ws ss i d e (omega arith) (omega arith)

pub sum_more : (n : ℕ) (f : ℕ → List ℕ) (weights selected : List ℕ) (i d e : ℕ) → i < length selected → length weights ≡ length selected
    → weighted_sum n (zip (drop i weights) (map f (drop i selected))) ≡ poly_sum (poly_times (get_or weights i d) (f (get_or selected i e))) (weighted_sum n (zip (drop (i + 1) weights) (map f (drop (i + 1) selected))))
sum_more n f weights selected i d e lt same = rw add-one (sum_turn n f weights selected i d e lt same)

pub sum_none : (n : ℕ) (f : ℕ → List ℕ) (weights selected : List ℕ) → weighted_sum n (zip (drop (length selected) weights) (map f (drop (length selected) selected))) ≡ replicate n 0
sum_none n f [] [] = refl
sum_none n f [] (s ∷ ss) = refl
sum_none n f (w ∷ ws) [] = refl
sum_none n f (w ∷ ws) (s ∷ ss) = sum_none n f ws ss

pub all_long : (n : ℕ) (f : ℕ → List ℕ) (weights selected : List ℕ) → AllByRecursion (λ s. length (f s) ≡ n) selected → AllByRecursion (λ p. length p.1 ≡ n) (zip weights (map f selected))
all_long n f [] selected h = tt
all_long n f (w ∷ ws) [] h = tt
all_long n f (w ∷ ws) (s ∷ ss) h = (h.0, all_long n f ws ss h.1)

pub length_sum : (n : ℕ) (f : ℕ → List ℕ) (weights selected : List ℕ) → AllByRecursion (λ s. length (f s) ≡ n) selected → length (weighted_sum n (zip weights (map f selected))) ≡ n
length_sum n f weights selected h = length-weighted_sum n (zip weights (map f selected)) (all_long n f weights selected h)
