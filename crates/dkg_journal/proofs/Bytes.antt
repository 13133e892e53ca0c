-- Records as bytes.
use Rattle.std.proofs.Common.{Bool, cond, ◌≡◌, ◌≢◌, ℕ, zero, suc, ◌+◌, ◌<◌, ◌≤◌, ◌^◌, List, [], ◌∷◌, ◌++◌, length, take, drop, refl, sym, ◌∙◌, ap, arith, append_assoc, length-append}
use Rattle.std.proofs.lemmas.List.{take_at, drop_at, append-nil, drop-drop}
use Rattle.std.proofs.lemmas.Bool.Decides.{nat_tests}
use Rattle.std.proofs.lemmas.Nat.{from_be_bytes-to_be_bytes_4, from_be_bytes-to_be_bytes_8}
use Rattle.dkg_journal.specs.Records.{number32, number64, read32, read64, bodies, left_over, IsBody, HasNoWholeRecord, record_of, spelled, AreBodies}

pub length-number32 : (n : ℕ) → length (number32 n) ≡ 4
unfolding number32
length-number32 n = refl

pub length-number64 : (n : ℕ) → length (number64 n) ≡ 8
unfolding number64
length-number64 n = refl

pub read32-number32 : (n : ℕ) (rest : List ℕ) → n < 2 ^ 32 → read32 (number32 n ++ rest) ≡ n
unfolding number32 read32
read32-number32 n rest h = from_be_bytes-to_be_bytes_4 n h

pub read64-number64 : (n : ℕ) (rest : List ℕ) → n < 2 ^ 64 → read64 (number64 n ++ rest) ≡ n
unfolding number64 read64
read64-number64 n rest h = from_be_bytes-to_be_bytes_8 n h

-- a whole record is read, whatever stands behind it
one_body : (least m : ℕ) (rest : List ℕ) → least ≤ read32 rest → 4 + read32 rest ≤ length rest → (bodies least (suc m) (1 ∷ rest) ≡ take (read32 rest) (drop 4 rest) ∷ bodies least m (drop (4 + read32 rest) rest)) × (left_over least (suc m) (1 ∷ rest) ≡ left_over least m (drop (4 + read32 rest) rest))
one_body least m rest long fits = (grind (arith, nat_tests), grind (arith, nat_tests))

pub next_body : (least m : ℕ) (b more : List ℕ) → IsBody least b → (bodies least (suc m) (1 ∷ (number32 (length b) ++ (b ++ more))) ≡ b ∷ bodies least m more) × (left_over least (suc m) (1 ∷ (number32 (length b) ++ (b ++ more))) ≡ left_over least m more)
next_body least m b more short =
    let rest = number32 (length b) ++ (b ++ more) in
    let counts : read32 rest ≡ length b = read32-number32 (length b) (b ++ more) short.1 in
    let long : length rest ≡ 4 + (length b + length more) = length-append (number32 (length b)) (b ++ more) ∙ (λ i. length-number32 (length b) i + length-append b more i) in
    let body : take (read32 rest) (drop 4 rest) ≡ b =
    (λ i. take (counts i) (drop_at (number32 (length b)) (b ++ more) 4 (length-number32 (length b)) i)) ∙ take_at b more (length b) refl in
    let left : drop (4 + read32 rest) rest ≡ more =
    (λ i. drop (4 + counts i) rest) ∙ sym (drop-drop (length b) 4 rest) ∙ ap (drop (length b)) (drop_at (number32 (length b)) (b ++ more) 4 (length-number32 (length b))) ∙ drop_at b more (length b) refl in
    let one = one_body least m rest (omega (arith, counts, short.0)) (omega (arith, counts, long)) in
    (one.0 ∙ (λ i. body i ∷ bodies least m (left i)), one.1 ∙ ap (left_over least m) left)

-- where no whole record stands in front, none is read
no_body : (least n : ℕ) (rest : List ℕ) → HasNoWholeRecord least rest → (bodies least n rest ≡ []) × (left_over least n rest ≡ rest)
no_body least zero rest stops = (refl, refl)
no_body least (suc n) [] stops = (refl, refl)
no_body least (suc n) (gate ∷ rest) stops = (
  ap (λ (b : Bool). cond b (take (read32 rest) (drop 4 rest) ∷ bodies least n (drop (4 + read32 rest) rest)) []) stops,
  ap (λ (b : Bool). cond b (left_over least n (drop (4 + read32 rest) rest)) (gate ∷ rest)) stops,
)

-- the records in front, and what stands behind them
pub read_spelled : (least : ℕ) (bs : List (List ℕ)) (n : ℕ) (rest : List ℕ) → AreBodies least bs → HasNoWholeRecord least rest → length (spelled bs) ≤ n → (bodies least n (spelled bs ++ rest) ≡ bs) × (left_over least n (spelled bs ++ rest) ≡ rest)
read_spelled least [] n rest short stops fits = no_body least n rest stops
read_spelled least (b ∷ bs) zero rest short stops fits = absurd (omega arith)
read_spelled least (b ∷ bs) (suc n) rest short stops fits =
    let apart : spelled (b ∷ bs) ++ rest ≡ 1 ∷ (number32 (length b) ++ (b ++ (spelled bs ++ rest))) = simp append_assoc in
    let next = next_body least n b (spelled bs ++ rest) short.0 in
    let more = read_spelled least bs n rest short.1 stops (omega (arith, length-append (record_of b) (spelled bs))) in (
      ap (bodies least (suc n)) apart ∙ next.0 ∙ ap (λ (l : List (List ℕ)). b ∷ l) more.0,
      ap (left_over least (suc n)) apart ∙ next.1 ∙ more.1,
    )

-- a gate that isn't open
pub shut_stops : (least gate : ℕ) (rest : List ℕ) → gate ≢ 1 → HasNoWholeRecord least (gate ∷ rest)
shut_stops least gate rest shut = grind (arith, nat_tests)

pub spelled-push : (bs : List (List ℕ)) (b : List ℕ) → spelled (bs ++ b ∷ []) ≡ spelled bs ++ record_of b
spelled-push [] b = append-nil (record_of b)
spelled-push (x ∷ bs) b = ap (λ (l : List ℕ). record_of x ++ l) (spelled-push bs b) ∙ sym (append_assoc (record_of x) (spelled bs) (record_of b))

pub short-push : (least : ℕ) (bs : List (List ℕ)) (b : List ℕ) → AreBodies least bs → IsBody least b → AreBodies least (bs ++ b ∷ [])
short-push least [] b short h = (h, tt)
short-push least (x ∷ bs) b short h = (short.0, short-push least bs b short.1 h)
