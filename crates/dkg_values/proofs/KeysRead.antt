-- Reading keys that rise one after another, as a loop does.
use Rattle.std.proofs.Common.{◌≡◌, ℕ, suc, ◌-◌, ◌+◌, ◌≤◌, ◌<◌, List, [], ◌∷◌, ◌++◌, Ok, Err, refl, sym, ap, ◌∙◌, arith}
use Rattle.std.specs.Int.{w32}
use Rattle.std.proofs.lemmas.List.{append-nil}
use Rattle.std.proofs.lemmas.Bool.{lt-ltb, le-ltb}
use Rattle.dkg_values.specs.declared.codec.CodecError.{CodecError}
use Rattle.dkg_values.specs.declared.codec.CodecError.TheVariants.{Invalid}
use Rattle.dkg_values.specs.declared.codec.What.TheVariants as what
use Rattle.dkg_values.specs.Codec.{Reading, Fails, number_at}
use Rattle.dkg_values.specs.Lists.{keys_at}
use Rattle.dkg_values.specs.Grammar.{with_front, regroup, fails_with}

pub keys_goes_on : (front : List ℕ) (count i least : ℕ) (bytes : List ℕ) (key : ℕ) (after : List ℕ) (total : Reading (List ℕ)) → i < count → number_at w32 bytes ≡ Ok (key, after) → least ≤ key
    → with_front front (keys_at (count - i) least bytes) ≡ total → with_front (front ++ key ∷ []) (keys_at (count - (i + 1)) (key + 1) after) ≡ total
unfolding keys_at
keys_goes_on front count i least bytes key after total lt h le so_far =
    let k : count - i ≡ suc (count - (i + 1)) = omega arith in
    let step : with_front front (keys_at (count - i) least bytes) ≡ with_front (front ++ key ∷ []) (keys_at (count - (i + 1)) (key + 1) after) = rw (k, h, le-ltb key least le) (regroup front key (keys_at (count - (i + 1)) (key + 1) after)) in
    sym step ∙ so_far

pub keys_refuses : (front : List ℕ) (count i least : ℕ) (bytes : List ℕ) (key : ℕ) (after : List ℕ) (total : Reading (List ℕ)) → i < count → number_at w32 bytes ≡ Ok (key, after) → key < least
    → with_front front (keys_at (count - i) least bytes) ≡ total → total ≡ Err (Invalid what.Set)
unfolding keys_at
keys_refuses front count i least bytes key after total lt h below so_far =
    let k : count - i ≡ suc (count - (i + 1)) = omega arith in
    sym so_far ∙ rw (k, h, lt-ltb key least below) refl

pub keys_ends : (e : CodecError) (front : List ℕ) (count i least : ℕ) (bytes : List ℕ) (total : Reading (List ℕ)) → i < count → Fails e (number_at w32 bytes)
    → with_front front (keys_at (count - i) least bytes) ≡ total → Fails e total
unfolding keys_at
keys_ends e front count i least bytes total lt h so_far =
    let k : count - i ≡ suc (count - (i + 1)) = omega arith in
    fails_with e (number_at w32 bytes) total h (λ f is. sym so_far ∙ rw (k, is) refl)

pub keys_done : (front : List ℕ) (count i least : ℕ) (bytes : List ℕ) (total : Reading (List ℕ)) → count ≤ i → with_front front (keys_at (count - i) least bytes) ≡ total → total ≡ Ok (front, bytes)
unfolding keys_at
keys_done front count i least bytes total le so_far =
    let k : count - i ≡ 0 = omega arith in
    let one : with_front front (keys_at (count - i) least bytes) ≡ Ok (front, bytes) = rw k (ap (λ (xs : List ℕ). Ok (xs, bytes)) (append-nil front)) in
    sym so_far ∙ one
