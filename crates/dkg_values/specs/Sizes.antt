-- The size of a map's spelling, value by value.
use Rattle.std.proofs.Common.{◌≡◌, ℕ, zero, suc, ◌+◌, ◌*◌, ◌^◌, ◌<◌, ◌≤◌, List, [], ◌∷◌, length, get_or, take, refl, sym, ap, subst, ◌∙◌, add-one, arith, length-append}
use Rattle.std.specs.List.{flat_map, AllByRecursion}
use Rattle.std.proofs.lemmas.List.Concat.{flat_map-cons}
use Rattle.dkg_values.specs.Lists.{values_of, map_spelling, keys_spelling}
use Rattle.dkg_values.specs.Uint.{uint}
use Rattle.dkg_values.specs.Rising.{keys_of}
use Rattle.dkg_values.specs.ListGrammar.{length-keys_spelling}
use Rattle.dkg_values.specs.UintGrammar.{uint_narrow}
use Rattle.std.proofs.lemmas.List.{length-map}
use Rattle.std.proofs.lemmas.Nat.{mul-le}
use Rattle.std.proofs.Math.Nat.{suc-mul}

-- where the size of a map fits
pub record MapSizes {V : Type 0} (spelling : V → List ℕ) (can_size : V → Type 0) (pairs : List (ℕ × V)) : Type 0 where
  pub total : length (map_spelling spelling pairs) < 2 ^ 64
  pub each : AllByRecursion can_size (values_of pairs)

-- the size of the values
abbrev pub values_size : {V : Type 0} → (V → List ℕ) → List (ℕ × V) → ℕ
values_size spelling [] = 0
values_size spelling (p ∷ ps) = length (spelling p.1) + values_size spelling ps

pub record SizeStep {V : Type 0} (spelling : V → List ℕ) (can_size : V → Type 0) (pairs : List (ℕ × V)) (i : ℕ) (p : ℕ × V) : Type 0 where
  pub can : can_size p.1
  pub more : values_size spelling (take (suc i) pairs) ≡ values_size spelling (take i pairs) + length (spelling p.1)
  pub within : values_size spelling (take (suc i) pairs) ≤ values_size spelling pairs

pub size_step : {V : Type 0} (spelling : V → List ℕ) (can_size : V → Type 0) (pairs : List (ℕ × V)) (i : ℕ) (d : ℕ × V) → i < length pairs → AllByRecursion can_size (values_of pairs) → SizeStep spelling can_size pairs i (get_or pairs i d)
size_step spelling can_size [] i d lt h = absurd (omega arith)
size_step spelling can_size (p ∷ ps) zero d lt h = record { can = h.0; more = omega arith; within = omega arith }
size_step spelling can_size (p ∷ ps) (suc i) d lt h =
    let s = size_step spelling can_size ps i d (omega arith) h.1 in
    record { can = s.can; more = omega (arith, s.more); within = omega (arith, s.within) }

pub values_size-is : {V : Type 0} (spelling : V → List ℕ) (pairs : List (ℕ × V)) → length (flat_map spelling (values_of pairs)) ≡ values_size spelling pairs
values_size-is spelling [] = refl
values_size-is spelling (p ∷ ps) = omega (arith, values_size-is spelling ps, ap length (flat_map-cons spelling p.1 (values_of ps)), length-append (spelling p.1) (flat_map spelling (values_of ps)))

-- a turn of a loop over the pairs
pub record Turn {V : Type 0} (spelling : V → List ℕ) (can_size : V → Type 0) (pairs : List (ℕ × V)) (i : ℕ) (item : ℕ × V) : Type 0 where
  pub can : can_size item.1
  pub more : values_size spelling (take (i + 1) pairs) ≡ values_size spelling (take i pairs) + length (spelling item.1)
  pub within : values_size spelling (take i pairs) + length (spelling item.1) ≤ values_size spelling pairs

pub turn : {V : Type 0} (spelling : V → List ℕ) (can_size : V → Type 0) (pairs items : List (ℕ × V)) (i : ℕ) (item : ℕ × V) → items ≡ pairs → i < length items → item ≡ get_or items i item → AllByRecursion can_size (values_of pairs) → Turn spelling can_size pairs i item
turn {V} spelling can_size pairs items i item same lt is each =
    let there : get_or pairs i item ≡ item = ap (λ (xs : List (ℕ × V)). get_or xs i item) (sym same) ∙ sym is in
    let s = subst (λ (p : ℕ × V). SizeStep spelling can_size pairs i p) there (size_step spelling can_size pairs i item (omega (arith, ap length same)) each) in
    record { can = s.can; more = rw add-one s.more; within = omega (arith, s.more, s.within) }

pub map_size : {V : Type 0} (spelling : V → List ℕ) (pairs : List (ℕ × V)) → length (map_spelling spelling pairs) ≡ 2 * length (uint (length pairs)) + 4 * length pairs + values_size spelling pairs
map_size {V} spelling pairs =
    let keys = keys_of pairs in
    let lk : length keys ≡ length pairs = length-map pairs (λ (p : ℕ × V). p.0) in
    let parts : length (map_spelling spelling pairs) ≡ length (uint (length keys)) + length (keys_spelling keys) + length (uint (length pairs)) + length (flat_map spelling (values_of pairs)) = simp length-append refl in
    omega (arith, parts, ap (λ (n : ℕ). length (uint n)) lk, lk, length-keys_spelling keys, values_size-is spelling pairs)

pub done_size : {V : Type 0} (spelling : V → List ℕ) (pairs : List (ℕ × V)) (i : ℕ) → length pairs ≤ i → values_size spelling (take i pairs) ≡ values_size spelling pairs
done_size spelling [] zero le = refl
done_size spelling [] (suc i) le = refl
done_size spelling (p ∷ ps) zero le = absurd (omega arith)
done_size spelling (p ∷ ps) (suc i) le = omega (arith, done_size spelling ps i (omega arith))

values_limit : {V : Type 0} (spelling : V → List ℕ) (pairs : List (ℕ × V)) (each : ℕ) → AllByRecursion (λ v. length (spelling v) ≤ each) (values_of pairs) → values_size spelling pairs ≤ length pairs * each
values_limit spelling [] each h = omega arith
values_limit spelling (p ∷ ps) each h = simp suc-mul (omega (arith, h.0, values_limit spelling ps each h.1))

-- how large a map is at most, whose values have a limit each
pub map_limit : {V : Type 0} (spelling : V → List ℕ) (pairs : List (ℕ × V)) (most each : ℕ) → length pairs ≤ most → length pairs < 2 ^ 32 → AllByRecursion (λ v. length (spelling v) ≤ each) (values_of pairs)
    → length (map_spelling spelling pairs) ≤ 10 + 4 * most + most * each
map_limit spelling pairs most each few small h =
    let more = mul-le (length pairs) each most each few (omega arith) in
    omega (arith, map_size spelling pairs, values_limit spelling pairs each h, more, uint_narrow (length pairs) small)

-- where values take at most `each` bytes, whose sizes are all known, the size of a map fits
pub map_sizes : {V : Type 0} (spelling : V → List ℕ) (can_size : V → Type 0) (pairs : List (ℕ × V)) (each : ℕ) → length pairs < 2 ^ 32 → each ≤ 2 ^ 30 → AllByRecursion (λ v. length (spelling v) ≤ each) (values_of pairs) → AllByRecursion can_size (values_of pairs)
    → MapSizes spelling can_size pairs
map_sizes spelling can_size pairs each few small short can =
    let most = mul-le (2 ^ 32) each (2 ^ 32) (2 ^ 30) (omega arith) small in
    record { total = omega (arith, map_limit spelling pairs (2 ^ 32) each (omega arith) few short, most); each = can }

-- what holds of each value holds of all in a list
pub all_hold : {A : Type 0} (P : A → Type 0) → ((a : A) → P a) → (xs : List A) → AllByRecursion P xs
all_hold P h [] = tt
all_hold P h (x ∷ xs) = (h x, all_hold P h xs)
