-- What this node deals in a round of a valid info fits a record.
use Rattle.std.proofs.Common.{◌≡◌, ℕ, ◌+◌, ◌^◌, ◌<◌, ◌≤◌, Bool, true, false, cond, List, [], ◌∷◌, map, length, Option, Some, None, Ok, Err, refl, subst, arith}
use Rattle.std.specs.Prelude.{◌==◌, IfOk, Result, max, not}
use Rattle.std.specs.List.{AllByRecursion, range_with_len}
use Rattle.std.proofs.lemmas.Bool.Decides.{nat_tests}
use Rattle.std.proofs.lemmas.List.FromFn.{length-map-range_with_len}
use Rattle.dkg_values.specs.Lists.{PublicFits}
use Rattle.dkg_values.specs.Rising.{index_of}
use Rattle.dkg_ceremony.specs.Deals.{again_of, both_halves, coefficient_of, deal_of, dealt_at, dealt_length, dealt_poly, is_share_of}
use Rattle.dkg_ceremony.specs.Dealings.{fits_at}
use Rattle.dkg_ceremony.specs.Polynomials.{value_at}
use Rattle.dkg_ceremony.specs.Thresholds.{quorum_of}
use Rattle.dkg_ceremony.specs.declared.deal.DealError.{DealError}
use Rattle.dkg_ceremony.specs.declared.deal.DealError.TheVariants.{ShareRefused}
use Rattle.dkg_ceremony.specs.declared.output.Output.{Output}
use Rattle.dkg_ceremony.specs.declared.round.RoundParts.{RoundParts as Round}
use Rattle.dkg_store.specs.Events.{no_limit}

-- ITS COEFFICIENTS are below the prime

low_value : (poly : List ℕ) (x : ℕ) → value_at poly x < 65521
unfolding value_at
low_value [] x = omega arith
low_value (c ∷ cs) x = omega arith

low_coefficient : (seed : List ℕ) (index : ℕ) → coefficient_of seed index < 65521
unfolding coefficient_of
low_coefficient seed index = omega arith

low_fit : (index : Option ℕ) (poly : List ℕ) (value : ℕ) → fits_at index poly value ≡ true → value < 65521
low_fit None poly value fits = absurd (let no : ◌≡◌ {A = Bool} false true = fits in cc)
low_fit (Some index) poly value fits = let low : value_at poly (index + 1) < 65521 = low_value poly (index + 1) in let same : value ≡ value_at poly (index + 1) = is value (value_at poly (index + 1)) fits in omega (arith, low, same)
  where
    is : (a b : ℕ) → (a == b) ≡ true → a ≡ b
    is a b e = grind (arith, nat_tests)

low_dealt : (share : Option ℕ) (seed : List ℕ) → ((its : ℕ) → share ≡ Some its → its < 65521) → (index : ℕ) → dealt_at share seed index < 65521
low_dealt None seed low index = low_coefficient seed index
low_dealt (Some its) seed low index = by_index (index == 0)
  where
    by_index : (t : Bool) → cond t its (coefficient_of seed index) < 65521
    by_index true = low its refl
    by_index false = low_coefficient seed index

all_mapped : (f : ℕ → ℕ) → ((n : ℕ) → f n < 65521) → (xs : List ℕ) → AllByRecursion (λ e. e < 65521) (map f xs)
all_mapped f low [] = tt
all_mapped f low (x ∷ xs) = (low x, all_mapped f low xs)

-- a share that is dealt again is one of the previous output's
low_again : (previous : Option Output) (dealer : ℕ) (share : Option ℕ) → is_share_of previous dealer share ≡ true → (its : ℕ) → again_of previous share ≡ Some its → its < 65521
low_again None dealer share is its again = absurd (let no : ◌≡◌ {A = Option ℕ} None (Some its) = again in cc)
low_again (Some o) dealer None is its again = absurd (let no : ◌≡◌ {A = Option ℕ} None (Some its) = again in cc)
low_again (Some o) dealer (Some share) is its again = let same : share ≡ its = cc in subst (λ (n : ℕ). n < 65521) same (low_fit (index_of dealer o.players) o.sharing.poly share is)

-- ITS LENGTH

fits_where : (round : Round) (signer : ℕ) (share : Option ℕ) (seed : List ℕ) → length round.players ≤ 2 ^ 30 → (t : Bool) → is_share_of round.previous signer share ≡ t
    → IfOk (cond (not t) (Err ShareRefused) (Ok (both_halves (dealt_poly (again_of round.previous share) seed (dealt_length (length round.players))) round.players))) (λ d. PublicFits no_limit d.0)
fits_where round signer share seed few false is = tt
fits_where round signer share seed few true is =
    let count : ℕ = dealt_length (length round.players) in
    let long : length (dealt_poly (again_of round.previous share) seed count) ≡ count = length-map-range_with_len (dealt_at (again_of round.previous share) seed) 0 count in
    made (dealt_poly (again_of round.previous share) seed count) count (length round.players) few long (least (quorum_of (length round.players))) (most (length round.players))
    (all_mapped (dealt_at (again_of round.previous share) seed) (low_dealt (again_of round.previous share) seed (low_again round.previous signer share is)) (range_with_len 0 count))
  where
    least : (q : ℕ) → 1 ≤ max q 1
    least q = omega arith

    most : (n : ℕ) → dealt_length n ≤ n + 1
    most n = omega arith

    made : (xs : List ℕ) (count n : ℕ) → n ≤ 2 ^ 30 → length xs ≡ count → 1 ≤ count → count ≤ n + 1 → AllByRecursion (λ e. e < 65521) xs → PublicFits no_limit xs
    made xs count n few long some high all = record { some = omega (arith, long, some); in_bound = omega (arith, long, high, few); small = omega (arith, long, high, few); elements = all }

all_fit : (round : Round) (signer : ℕ) (share : Option ℕ) (seed : List ℕ) → length round.players ≤ 2 ^ 30 → IfOk (deal_of round signer share seed) (λ d. PublicFits no_limit d.0)
unfolding deal_of
all_fit round signer share seed few = fits_where round signer share seed few (is_share_of round.previous signer share) refl

-- A PUBLIC HALF that is dealt fits
pub dealt_fits : (round : Round) (signer : ℕ) (share : Option ℕ) (seed public : List ℕ) (privates : List (ℕ × ℕ)) → length round.players ≤ 2 ^ 30 → deal_of round signer share seed ≡ Ok (public, privates) → PublicFits no_limit public
dealt_fits round signer share seed public privates few is = of_answer (deal_of round signer share seed) (all_fit round signer share seed few) is
  where
    of_answer : (r : Result (List ℕ × List (ℕ × ℕ)) DealError) → IfOk r (λ d. PublicFits no_limit d.0) → r ≡ Ok (public, privates) → PublicFits no_limit public
    of_answer (Ok d) so is = subst (λ (x : List ℕ × List (ℕ × ℕ)). PublicFits no_limit x.0) (let same : d ≡ (public, privates) = cc in same) so
    of_answer (Err e) so is = absurd (let no : ◌≡◌ {A = Result (List ℕ × List (ℕ × ℕ)) DealError} (Err e) (Ok (public, privates)) = is in cc)
