-- The line of an epoch among lines whose epochs rise.
use Rattle.std.proofs.Common.{◌≡◌, ◌<◌, ◌≤◌, ℕ, zero, suc, Bool, true, false, List, [], ◌∷◌, length, ◌⊎◌, inl, inr, Option, Some, None, refl, sym, ◌∙◌, ap, subst, arith, ltb, lt-ltb, ltb-true}
use Rattle.std.specs.Prelude.{◌==◌, ◌&&◌, find, nat_lt, slice_get, slice_index_or, if◌then◌else◌}
use Rattle.std.specs.List.Sorted.{IsPartitionPoint, IsPartitionedBy}
use Rattle.std.proofs.lemmas.Bool.Decides.{nat_tests}
use Rattle.std.proofs.lemmas.Option.{slice_get_cases}
use Rattle.dkg_values.specs.Rising.{rises, rises_after}
use Rattle.dkg_text.specs.declared.script.PlayerLine.{PlayerLine}
use Rattle.dkg_script.specs.Players.{epochs_of}

apart_bools : (t : Bool) → t ≡ true → t ≡ false → ⊥
apart_bools t e f = let wrong : true ≡ false = sym e ∙ f in cc

both : (a b : Bool) → (a && b) ≡ true → (a ≡ true) × (b ≡ true)
both true true e = (refl, refl)
both true false e = absurd (apart_bools false e refl)
both false b e = absurd (apart_bools false e refl)

is_below : (n m : ℕ) → nat_lt n m ≡ true → n < m
is_below n m e = grind (arith, nat_tests)

not_same : (n m : ℕ) → n < m → (n == m) ≡ false
not_same n m low = grind (arith, nat_tests, low)

not_above : (n m : ℕ) → m < n → (n == m) ≡ false
not_above n m low = grind (arith, nat_tests, low)

not_equal : (n m : ℕ) → (n ≡ m → ⊥) → (n == m) ≡ false
not_equal n m other = by_test (n == m) refl
  where
    same : (n == m) ≡ true → n ≡ m
    same e = grind (arith, nat_tests)

    by_test : (t : Bool) → (n == m) ≡ t → t ≡ false
    by_test true e = absurd (other (same e))
    by_test false e = refl

are_equal : (n m : ℕ) → n ≡ m → (n == m) ≡ true
are_equal n m same = grind (arith, nat_tests, same)

from_test : (n m : ℕ) → ltb n m ≡ false → m ≤ n
from_test n m e = by_le n m e
  where
    by_le : (n m : ℕ) → ltb n m ≡ false → m ≤ n
    by_le n m e = grind (arith, nat_tests)

pub same_epoch : (n m : ℕ) → (n == m) ≡ true → n ≡ m
same_epoch n m e = grind (arith, nat_tests)

-- the epochs behind one lie above it
later_up : (x : ℕ) (ys : List PlayerLine) → rises_after x (epochs_of ys) ≡ true → (j : ℕ) (d : PlayerLine) → j < length ys → x < (slice_index_or ys j d).epoch
later_up x [] up j d low = absurd (no j low)
  where
    no : (j : ℕ) → j < 0 → ⊥
    no j low = omega (arith, low)
later_up x (y ∷ ys) up zero d low = is_below x y.epoch (both (nat_lt x y.epoch) (rises_after y.epoch (epochs_of ys)) up).0
later_up x (y ∷ ys) up (suc j) d low =
    let parts = both (nat_lt x y.epoch) (rises_after y.epoch (epochs_of ys)) up in
    through x y.epoch (slice_index_or ys j d).epoch (is_below x y.epoch parts.0) (later_up y.epoch ys parts.1 j d (less j (length ys) low))
  where
    through : (a b c : ℕ) → a < b → b < c → a < c
    through a b c one two = omega (arith, one, two)

    less : (j n : ℕ) → suc j < suc n → j < n
    less j n low = omega (arith, low)

tail_up : (x : PlayerLine) (xs : List PlayerLine) → rises (epochs_of (x ∷ xs)) ≡ true → rises (epochs_of xs) ≡ true
tail_up x [] up = refl
tail_up x (y ∷ ys) up = (both (nat_lt x.epoch y.epoch) (rises_after y.epoch (epochs_of ys)) up).1

-- those below an epoch come first
pub parted : (epoch : ℕ) (xs : List PlayerLine) → rises (epochs_of xs) ≡ true → IsPartitionedBy (λ y. ltb y.epoch epoch) xs
parted epoch [] up i j d le low e = absurd (no j low)
  where
    no : (j : ℕ) → j < 0 → ⊥
    no j low = omega (arith, low)
parted epoch (x ∷ xs) up zero zero d le low e = e
parted epoch (x ∷ xs) up zero (suc j) d le low e =
    lt-ltb x.epoch epoch (through x.epoch (slice_index_or xs j d).epoch epoch (later_up x.epoch xs up j d (less j (length xs) low)) (ltb-true (slice_index_or xs j d).epoch epoch e))
  where
    through : (a b c : ℕ) → a < b → b < c → a < c
    through a b c one two = omega (arith, one, two)

    less : (j n : ℕ) → suc j < suc n → j < n
    less j n low = omega (arith, low)
parted epoch (x ∷ xs) up (suc i) zero d le low e = absurd (no i le)
  where
    no : (i : ℕ) → suc i ≤ 0 → ⊥
    no i le = omega (arith, le)
parted epoch (x ∷ xs) up (suc i) (suc j) d le low e = parted epoch xs (tail_up x xs up) i j d (omega (arith, le)) (omega (arith, low)) e

-- none behind one above is of the epoch
none_later : (epoch x : ℕ) (ys : List PlayerLine) → rises_after x (epochs_of ys) ≡ true → epoch ≤ x → find (λ line. line.epoch == epoch) ys ≡ None
none_later epoch x [] up low = refl
none_later epoch x (y ∷ ys) up low =
    let parts = both (nat_lt x y.epoch) (rises_after y.epoch (epochs_of ys)) up in
    let high : epoch < y.epoch = through epoch x y.epoch low (is_below x y.epoch parts.0) in
    ap (λ (t : Bool). if t then Some y else find (λ line. line.epoch == epoch) ys) (not_above y.epoch epoch high) ∙ none_later epoch y.epoch ys parts.1 (below epoch y.epoch high)
  where
    through : (a b c : ℕ) → a ≤ b → b < c → a < c
    through a b c one two = omega (arith, one, two)

    below : (a b : ℕ) → a < b → a ≤ b
    below a b low = omega (arith, low)

-- where they are parted at an index
abbrev IsSplit : (epoch : ℕ) → List PlayerLine → ℕ → Type 0
IsSplit epoch xs i = IsPartitionPoint (λ y. ltb y.epoch epoch ≡ true) (λ y. ltb y.epoch epoch ≡ false) xs i

tail_split : (epoch : ℕ) (x : PlayerLine) (xs : List PlayerLine) (i : ℕ) → IsSplit epoch (x ∷ xs) (suc i) → IsSplit epoch xs i
tail_split epoch x xs i split = (
  λ k d from to. split.0 (suc k) d (omega arith) (omega (arith, to)),
  λ k d from to. split.1 (suc k) d (omega (arith, from)) (omega (arith, to)),
)

head_low : (epoch : ℕ) (x : PlayerLine) (xs : List PlayerLine) (i : ℕ) → IsSplit epoch (x ∷ xs) (suc i) → (x.epoch == epoch) ≡ false
head_low epoch x xs i split = not_same x.epoch epoch (ltb-true x.epoch epoch (split.0 0 x (omega arith) (omega arith)))

-- the line that stands there, where it is the epoch's
pub found_at : (epoch : ℕ) (xs : List PlayerLine) (i : ℕ) → IsSplit epoch xs i → (line : PlayerLine) → slice_get xs i ≡ Some line → line.epoch ≡ epoch → find (λ line. line.epoch == epoch) xs ≡ Some line
found_at epoch [] i split line is same = absurd (let wrong : ◌≡◌ {A = Option PlayerLine} None (Some line) = is in cc)
found_at epoch (x ∷ xs) zero split line is same =
    ap (λ (t : Bool). if t then Some x else find (λ line. line.epoch == epoch) xs) (are_equal x.epoch epoch (ap (λ (l : PlayerLine). l.epoch) (the_line x line is) ∙ same)) ∙ is
  where
    the_line : (a b : PlayerLine) → ◌≡◌ {A = Option PlayerLine} (Some a) (Some b) → a ≡ b
    the_line a b e = cc
found_at epoch (x ∷ xs) (suc i) split line is same =
    ap (λ (t : Bool). if t then Some x else find (λ line. line.epoch == epoch) xs) (head_low epoch x xs i split) ∙ found_at epoch xs i (tail_split epoch x xs i split) line is same

-- .. and there is none else
pub none_at : (epoch : ℕ) (xs : List PlayerLine) → rises (epochs_of xs) ≡ true → (i : ℕ) → IsSplit epoch xs i → ((line : PlayerLine) → slice_get xs i ≡ Some line → line.epoch ≡ epoch → ⊥)
    → find (λ line. line.epoch == epoch) xs ≡ None
none_at epoch [] up i split other = refl
none_at epoch (x ∷ xs) up zero split other =
    ap (λ (t : Bool). if t then Some x else find (λ line. line.epoch == epoch) xs) (not_equal x.epoch epoch (other x refl))
    ∙ none_later epoch x.epoch xs up (from_test x.epoch epoch (split.1 0 x (omega arith) (omega arith)))
none_at epoch (x ∷ xs) up (suc i) split other =
    ap (λ (t : Bool). if t then Some x else find (λ line. line.epoch == epoch) xs) (head_low epoch x xs i split) ∙ none_at epoch xs (tail_up x xs up) i (tail_split epoch x xs i split) other

-- WHAT IS NO LINE of an epoch

pub none_other : (epoch : ℕ) (xs : List PlayerLine) (i : ℕ) (line : PlayerLine) → slice_get xs i ≡ Some line → (line.epoch == epoch) ≡ false → (own : PlayerLine) → slice_get xs i ≡ Some own → own.epoch ≡ epoch → ⊥
none_other epoch xs i line is other own its same =
    apart_bools (line.epoch == epoch) (are_equal line.epoch epoch (ap (λ (l : PlayerLine). l.epoch) (the_line line own (sym is ∙ its)) ∙ same)) other
  where
    the_line : (a b : PlayerLine) → ◌≡◌ {A = Option PlayerLine} (Some a) (Some b) → a ≡ b
    the_line a b e = cc

pub none_past : (epoch : ℕ) (xs : List PlayerLine) (i : ℕ) → nat_lt i (length xs) ≡ false → (own : PlayerLine) → slice_get xs i ≡ Some own → own.epoch ≡ epoch → ⊥
none_past epoch xs i past own its same = either (slice_get_cases xs i).1
  where
    is_past : (n m : ℕ) → n < m → nat_lt n m ≡ true
    is_past n m low = grind (arith, nat_tests, low)

    either : ((x : PlayerLine) × (i < length xs) × (slice_get xs i ≡ Some x) × (slice_index_or xs i x ≡ x)) ⊎ ((length xs ≤ i) × (slice_get xs i ≡ None)) → ⊥
    either (inl at) = apart_bools (nat_lt i (length xs)) (is_past i (length xs) at.1) past
    either (inr none) = let wrong : ◌≡◌ {A = Option PlayerLine} None (Some own) = sym none.1 ∙ its in cc
