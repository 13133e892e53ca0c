-- Heights and their epochs.
use Rattle.std.proofs.Common.{◌≡◌, ◌≤◌, ◌<◌, ℕ, true, ◌∙◌, ap, subst, add-one, arith, lit<}
use Rattle.std.specs.Prelude.{◌+◌, ◌-◌, ◌*◌, ◌/◌, ◌==◌}
use Rattle.std.proofs.Math.Nat.{div-lt_self, div-mul-le_self, lt-div-mul-add, suc-mul}
use Rattle.std.proofs.lemmas.Bool.Decides.{nat_tests}
use Rattle.std.proofs.lemmas.Nat.{div-mul-add}
use Rattle.dkg_ceremony.specs.Schedule.{epoch_of, midpoint, last}

parted : (m h : ℕ) → m ≤ h → h ≡ m + (h - m)
parted m h low = omega (arith, low)

rest_below : (m h n : ℕ) → m ≤ h → h < m + n → h - m < n
rest_below m h n low high = omega (arith, low, high)

-- the epoch of a height between two
pub epoch_is : (n epoch h : ℕ) → epoch * n ≤ h → h < epoch * n + n → epoch_of n h ≡ epoch
epoch_is n epoch h low high = ap (λ (x : ℕ). x / n) (parted (epoch * n) h low) ∙ div-mul-add epoch n (h - epoch * n) (rest_below (epoch * n) h n low high)

pub epoch_from : (n h : ℕ) → epoch_of n h * n ≤ h
epoch_from n h = div-mul-le_self h n

pub epoch_to : (n h : ℕ) → 1 ≤ n → h < epoch_of n h * n + n
epoch_to n h some = lt-div-mul-add {a = h} {b = n} (omega (arith, some))

half_below : (n : ℕ) → 1 ≤ n → n / 2 < n
half_below n some = div-lt_self {n = n} {k = 2} (omega (arith, some)) (lit< tt)

above_half : (m half n h : ℕ) → half < n → h < m + half → h + 1 < m + n
above_half m half n h small low = omega (arith, small, low)

-- the height above one below an epoch's midpoint
pub next_below : (n epoch h : ℕ) → 1 ≤ n → epoch_of n h ≡ epoch → h < midpoint n epoch → epoch_of n (h + 1) ≡ epoch
next_below n epoch h some is low =
    epoch_is n epoch (h + 1) (above (epoch * n) h (subst (λ (e : ℕ). e * n ≤ h) is (epoch_from n h))) (above_half (epoch * n) (n / 2) n h (half_below n some) low)
  where
    above : (m h : ℕ) → m ≤ h → m ≤ h + 1
    above m h le = omega (arith, le)

-- .. and above an epoch's last one
pub next_last : (n h : ℕ) → 1 ≤ n → (h == last n (epoch_of n h)) ≡ true → epoch_of n (h + 1) ≡ epoch_of n h + 1
next_last n h some is =
    let epoch = epoch_of n h in
    let product : (epoch + 1) * n ≡ epoch * n + n = ap (λ (x : ℕ). x * n) (add-one epoch) ∙ suc-mul epoch n in
    let at = same h (last n epoch) is in
    epoch_is n (epoch + 1) (h + 1) (from ((epoch + 1) * n) (epoch * n) n h product at some) (to ((epoch + 1) * n) (epoch * n) n h product at some)
  where
    same : (a b : ℕ) → (a == b) ≡ true → a ≡ b
    same a b e = grind (arith, nat_tests)

    from : (q m n h : ℕ) → q ≡ m + n → h ≡ m + n - 1 → 1 ≤ n → q ≤ h + 1
    from q m n h product at some = omega (arith, product, at, some)

    to : (q m n h : ℕ) → q ≡ m + n → h ≡ m + n - 1 → 1 ≤ n → h + 1 < q + n
    to q m n h product at some = omega (arith, product, at, some)

-- a height below an epoch's midpoint lies below its last
pub below_middle : (n epoch h : ℕ) → 1 ≤ n → h < midpoint n epoch → h < last n epoch
below_middle n epoch h some low = under (epoch * n) (n / 2) n h (half_below n some) low
  where
    under : (m half n h : ℕ) → half < n → h < m + half → h < m + n - 1
    under m half n h small low = omega (arith, small, low)

-- .. and so does one at or below the tip, where the next is of that epoch
pub below_tip : (n epoch tip h : ℕ) → 1 ≤ n → epoch_of n (tip + 1) ≡ epoch → h ≤ tip → h < last n epoch
below_tip n epoch tip h some is low = under (epoch * n) n tip h (subst (λ (e : ℕ). tip + 1 < e * n + n) is (epoch_to n (tip + 1) some)) low
  where
    under : (m n tip h : ℕ) → tip + 1 < m + n → h ≤ tip → h < m + n - 1
    under m n tip h top low = omega (arith, top, low)
