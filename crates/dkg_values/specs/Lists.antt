-- Spellings and readings of keys, sets, elements, lists of elements and maps.
use Rattle.std.specs.Prelude.{ℕ, zero, suc, ◌+◌, ◌-◌, ◌<◌, ◌≤◌, ◌^◌, nat_lt, nat_le, ◌&&◌, ◌==◌, List, [], ◌∷◌, ◌++◌, length, map, Ok, Err, if◌then◌else◌}
use Rattle.std.specs.List.{flat_map, AllByRecursion}
use Rattle.std.specs.Int.{w16, w32, to_be_bytes}
use Rattle.dkg_values.specs.declared.codec.CodecError.TheVariants.{InvalidLength, Invalid}
use Rattle.dkg_values.specs.declared.codec.What.TheVariants as what
use Rattle.dkg_values.specs.Codec.{Reading, ◌>>=◌, number_at, many_at}
use Rattle.dkg_values.specs.Uint.{uint, uint_at}
use Rattle.dkg_values.specs.Rising.{keys_of}

-- a count within its range
abbrev pub count_at : ℕ → ℕ → List ℕ → Reading ℕ
count_at least most bytes = uint_at (2 ^ 32 - 1) bytes >>= λ n. if nat_le least n.0 && nat_le n.0 most then Ok n else Err (InvalidLength n.0 most)

-- keys that rise, each at least `least`
unfoldable pub keys_at : ℕ → ℕ → List ℕ → Reading (List ℕ)
keys_at zero least bytes = Ok ([], bytes)
keys_at (suc n) least bytes = number_at w32 bytes >>= λ key. if nat_lt key.0 least then Err (Invalid what.Set) else (keys_at n (key.0 + 1) key.1 >>= λ keys. Ok (key.0 ∷ keys.0, keys.1))

abbrev pub keys_spelling : List ℕ → List ℕ
keys_spelling keys = flat_map (to_be_bytes w32) keys

abbrev pub set_at : ℕ → List ℕ → Reading (List ℕ)
set_at most bytes = count_at 0 most bytes >>= λ n. keys_at n.0 0 n.1

abbrev pub set_spelling : List ℕ → List ℕ
set_spelling keys = uint (length keys) ++ keys_spelling keys

-- keys that rise, each at least `least` and of 32 bits
abbrev pub RiseFrom : ℕ → List ℕ → Type 0
RiseFrom least [] = Unit {0}
RiseFrom least (key ∷ keys) = (least ≤ key) × (key < 2 ^ 32) × RiseFrom (key + 1) keys

pub record SetFits (most : ℕ) (keys : List ℕ) : Type 0 where
  pub in_bound : length keys ≤ most
  pub small : length keys < 2 ^ 32
  pub rising : RiseFrom 0 keys

abbrev pub element_at : List ℕ → Reading ℕ
element_at bytes = number_at w16 bytes >>= λ n. if nat_lt n.0 65521 then Ok n else Err (Invalid what.Element)

-- elements, at least one
abbrev pub public_at : ℕ → List ℕ → Reading (List ℕ)
public_at most bytes = count_at 1 most bytes >>= λ n. many_at element_at n.0 n.1

abbrev pub public_spelling : List ℕ → List ℕ
public_spelling elements = uint (length elements) ++ flat_map (to_be_bytes w16) elements

pub record PublicFits (most : ℕ) (xs : List ℕ) : Type 0 where
  pub some : 1 ≤ length xs
  pub in_bound : length xs ≤ most
  pub small : length xs < 2 ^ 32
  pub elements : AllByRecursion (λ e. e < 65521) xs

abbrev pub values_of : {V : Type 0} → List (ℕ × V) → List V
values_of pairs = map (λ p. p.1) pairs

-- the keys as a set, then their count again, then the values
abbrev pub map_spelling : {V : Type 0} → (V → List ℕ) → List (ℕ × V) → List ℕ
map_spelling spelling pairs = (set_spelling (keys_of pairs) ++ uint (length pairs)) ++ flat_map spelling (values_of pairs)

-- a value for each key
unfoldable pub pairs_at : {V : Type 0} → (List ℕ → Reading V) → List ℕ → List ℕ → Reading (List (ℕ × V))
pairs_at read [] bytes = Ok ([], bytes)
pairs_at read (key ∷ keys) bytes = read bytes >>= λ value. pairs_at read keys value.1 >>= λ pairs. Ok ((key, value.0) ∷ pairs.0, pairs.1)

abbrev pub map_at : {V : Type 0} → (List ℕ → Reading V) → ℕ → ℕ → List ℕ → Reading (List (ℕ × V))
map_at read least most bytes =
    count_at least most bytes >>= λ n. keys_at n.0 0 n.1 >>= λ keys. uint_at (2 ^ 32 - 1) keys.1 >>= λ m.
    if m.0 == length keys.0 then pairs_at read keys.0 m.1 else Err (InvalidLength m.0 (length keys.0))

pub record MapFits {V : Type 0} (fits : V → Type 0) (least most : ℕ) (pairs : List (ℕ × V)) : Type 0 where
  pub many : least ≤ length pairs
  pub in_bound : length pairs ≤ most
  pub small : length pairs < 2 ^ 32
  pub rising : RiseFrom 0 (keys_of pairs)
  pub values : AllByRecursion fits (values_of pairs)
