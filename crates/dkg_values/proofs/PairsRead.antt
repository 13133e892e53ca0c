-- Reading a value for each key, as a loop does.
use Rattle.std.proofs.Common.{◌≡◌, ℕ, suc, ◌+◌, ◌≤◌, ◌<◌, ◌^◌, List, [], ◌∷◌, ◌++◌, length, get_or, drop, Ok, refl, sym, ap, subst, ◌∙◌, add-one, arith, drop-cons}
use Rattle.std.specs.Prelude.{slice_index}
use Rattle.std.specs.List.Sorted.{IsStrictlyIncreasing}
use Rattle.std.proofs.lemmas.List.{append-nil, length-map}
use Rattle.std.proofs.Math.ListN.{drop_of_length-le}
use Rattle.dkg_values.specs.declared.codec.CodecError.{CodecError}
use Rattle.dkg_values.specs.Codec.{Reading, Fails}
use Rattle.dkg_values.specs.Rising.{keys_of, IsMap}
use Rattle.dkg_values.specs.Lists.{pairs_at}
use Rattle.dkg_values.specs.Grammar.{with_front, regroup, fails_with}

opens : (keys : List ℕ) (i key : ℕ) → i < length keys → key ≡ get_or keys i key → drop i keys ≡ key ∷ drop (i + 1) keys
opens keys i key lt is = rw add-one (drop-cons keys i key lt ∙ ap (λ (k : ℕ). k ∷ drop (suc i) keys) (sym is))

pub pairs_goes_on : {V : Type 0} (read : List ℕ → Reading V) (front : List (ℕ × V)) (keys : List ℕ) (i key : ℕ) (bytes : List ℕ) (value : V) (after : List ℕ) (total : Reading (List (ℕ × V))) → i < length keys → key ≡ get_or keys i key → read bytes ≡ Ok (value, after)
    → with_front front (pairs_at read (drop i keys) bytes) ≡ total → with_front (front ++ (key, value) ∷ []) (pairs_at read (drop (i + 1) keys) after) ≡ total
unfolding pairs_at
pairs_goes_on {V} read front keys i key bytes value after total lt is h so_far =
    let step : with_front front (pairs_at read (drop i keys) bytes) ≡ with_front (front ++ (key, value) ∷ []) (pairs_at read (drop (i + 1) keys) after) = rw (opens keys i key lt is, h) (regroup front (key, value) (pairs_at read (drop (i + 1) keys) after)) in
    sym step ∙ so_far

pub pairs_ends : {V : Type 0} (read : List ℕ → Reading V) (e : CodecError) (front : List (ℕ × V)) (keys : List ℕ) (i key : ℕ) (bytes : List ℕ) (total : Reading (List (ℕ × V))) → i < length keys → key ≡ get_or keys i key → Fails e (read bytes)
    → with_front front (pairs_at read (drop i keys) bytes) ≡ total → Fails e total
unfolding pairs_at
pairs_ends {V} read e front keys i key bytes total lt is h so_far =
    fails_with e (read bytes) total h (λ f err. sym so_far ∙ rw (opens keys i key lt is, err) refl)

pub pairs_done : {V : Type 0} (read : List ℕ → Reading V) (front : List (ℕ × V)) (keys : List ℕ) (i : ℕ) (bytes : List ℕ) (total : Reading (List (ℕ × V))) → length keys ≤ i → with_front front (pairs_at read (drop i keys) bytes) ≡ total → total ≡ Ok (front, bytes)
unfolding pairs_at
pairs_done {V} read front keys i bytes total le so_far =
    let one : with_front front (pairs_at read (drop i keys) bytes) ≡ Ok (front, bytes) = rw (drop_of_length-le keys le) (ap (λ (xs : List (ℕ × V)). Ok (xs, bytes)) (append-nil front)) in
    sym so_far ∙ one

pub is_map : {V : Type 0} (keys : List ℕ) (pairs : List (ℕ × V)) (count : ℕ) → keys_of pairs ≡ keys → length keys ≡ count → count < 2 ^ 32 → IsStrictlyIncreasing keys → ((i : ℕ) → slice_index (keys_of pairs) i < 2 ^ 32) → IsMap pairs
is_map {V} keys pairs count are long small rising each = record { rising = subst IsStrictlyIncreasing (sym are) rising; in_bound = omega (arith, length-map pairs (λ (p : ℕ × V). p.0), ap length are, long); small = each }
