-- A number in a text is counted on from its last digit: nines become zeros, up to a digit that is none.
use Rattle.std.proofs.Common.{◌≡◌, ℕ, suc, ◌+◌, ◌-◌, ◌^◌, ◌<◌, ◌≤◌, ◌⊎◌, List, [], ◌∷◌, ◌++◌, length, get_or, set, replicate, decimal, sym, ap, subst, inl, inr, ◌∙◌, append_assoc, append-nil, length-append, arith}
use Rattle.std.proofs.lemmas.List.{get_or_at, get_or_default, length-replicate, set_at}
use Rattle.dkg_words.specs.Turns.{IsCountedOn}
use Rattle.dkg_words.proofs.Counted.{counted_on, last_of}

-- so many nines at the end of the digits are zeros now
abbrev pub AreBack : (a b ds : List ℕ) (back : ℕ) (words : List ℕ) → Type 0
AreBack a b ds back words = (pre : List ℕ) × (ds ≡ pre ++ replicate back 57) × (words ≡ a ++ 32 ∷ (pre ++ (replicate back 48 ++ b)))

pub none_back : (a b ds words : List ℕ) → words ≡ a ++ 32 ∷ (ds ++ b) → AreBack a b ds 0 words
none_back a b ds words is = (ds, sym (append-nil ds), is)

module _ (a b ds words : List ℕ) (last back : ℕ) (ends : last + 1 ≡ length (a ++ 32 ∷ ds)) where
  -- the byte before the digits that are zeros now
  abbrev place : ℕ
  place = last - back

  abbrev zeros : List ℕ
  zeros = replicate back 48 ++ b

  -- it is a space where no digit is left
  space_at : (pre : List ℕ) → ds ≡ pre ++ replicate back 57 → words ≡ a ++ 32 ∷ (pre ++ zeros) → pre ≡ [] → get_or words place 0 ≡ 32
  space_at pre nines are none =
      let all : length ds ≡ back = omega (arith, ap length nines, ap length none, length-append pre (replicate back 57), length-replicate {A = ℕ} back 57) in
      let at : length a ≡ place = omega (arith, all, ends, length-append a (32 ∷ ds)) in
      ap (λ (l : List ℕ). get_or l place 0) are ∙ get_or_at a 32 (pre ++ zeros) 0 place at

  module _ (pre ys : List ℕ) (y : ℕ) (nines : ds ≡ pre ++ replicate back 57) (are : words ≡ a ++ 32 ∷ (pre ++ zeros)) (is : pre ≡ ys ++ y ∷ []) where
    at_digit : length (a ++ 32 ∷ ys) ≡ place
    at_digit =
        omega (
          arith,
          ends,
          ap length nines,
          ap length is,
          length-append a (32 ∷ ds),
          length-append pre (replicate back 57),
          length-replicate {A = ℕ} back 57,
          length-append ys (y ∷ []),
          length-append a (32 ∷ ys),
        )

    parted : words ≡ (a ++ 32 ∷ ys) ++ y ∷ zeros
    parted =
        are
        ∙ (ap (λ (p : List ℕ). a ++ 32 ∷ (p ++ zeros)) is
        ∙ (ap (λ (l : List ℕ). a ++ 32 ∷ l) (append_assoc ys (y ∷ []) zeros) ∙ sym (append_assoc a (32 ∷ ys) (y ∷ zeros))))

    digit_is : get_or words place 0 ≡ y
    digit_is = ap (λ (l : List ℕ). get_or l place 0) parted ∙ get_or_at (a ++ 32 ∷ ys) y zeros 0 place at_digit

    digits_are : ds ≡ ys ++ y ∷ replicate back 57
    digits_are = nines ∙ (ap (λ (p : List ℕ). p ++ replicate back 57) is ∙ append_assoc ys (y ∷ []) (replicate back 57))

    written : (v : ℕ) → set words place v ≡ a ++ 32 ∷ (ys ++ v ∷ zeros)
    written v =
        ap (λ (l : List ℕ). set l place v) parted ∙ (set_at (a ++ 32 ∷ ys) y zeros v place at_digit ∙ append_assoc a (32 ∷ ys) (v ∷ zeros))

    nine_back : y ≡ 57 → AreBack a b ds (back + 1) (set words place 48)
    nine_back nine =
        let more : ds ≡ ys ++ replicate (suc back) 57 = digits_are ∙ ap (λ (d : ℕ). ys ++ d ∷ replicate back 57) nine in
        let one : suc back ≡ back + 1 = omega arith in
        subst (λ (k : ℕ). AreBack a b ds k (set words place 48)) one (ys, more, written 48)

    counted : (n : ℕ) → n + 1 < 2 ^ 64 → ds ≡ decimal n → y ≤ 56 → IsCountedOn a b n (set words place (y + 1))
    counted n small same high =
        let on : decimal (n + 1) ≡ ys ++ (y + 1) ∷ replicate back 48 = counted_on back n y ys small (sym same ∙ digits_are) high in
        record {
          words_are = written (y + 1) ∙ ap (λ (l : List ℕ). a ++ 32 ∷ l) (sym (ap (λ (l : List ℕ). l ++ b) on ∙ append_assoc ys ((y + 1) ∷ replicate back 48) b));
          digits =
              omega (
                arith,
                ap length on,
                ap length (sym same ∙ digits_are),
                length-append ys ((y + 1) ∷ replicate back 48),
                length-append ys (y ∷ replicate back 57),
                length-replicate {A = ℕ} back 48,
                length-replicate {A = ℕ} back 57,
              );
        }

  -- a nine becomes a zero
  pub nine_on : AreBack a b ds back words → get_or words place 0 ≡ 57 → AreBack a b ds (back + 1) (set words place 48)
  nine_on (pre, nines, are) nine = by_case (last_of pre)
    where
      by_case : (pre ≡ []) ⊎ ((ys : List ℕ) × (y : ℕ) × (pre ≡ ys ++ y ∷ [])) → AreBack a b ds (back + 1) (set words place 48)
      by_case (inl none) = let space = space_at pre nines are none in absurd (omega (arith, space, nine))
      by_case (inr (ys, y, is)) = nine_back pre ys y nines are is (sym (digit_is pre ys y nines are is) ∙ nine)

  -- another digit is counted on
  pub digit_on : AreBack a b ds back words → (n : ℕ) → n + 1 < 2 ^ 64 → ds ≡ decimal n → 48 ≤ get_or words place 0 → get_or words place 0 ≤ 56
      → IsCountedOn a b n (set words place (get_or words place 0 + 1))
  digit_on (pre, nines, are) n small same low high = by_case (last_of pre)
    where
      by_case : (pre ≡ []) ⊎ ((ys : List ℕ) × (y : ℕ) × (pre ≡ ys ++ y ∷ [])) → IsCountedOn a b n (set words place (get_or words place 0 + 1))
      by_case (inl none) = let space = space_at pre nines are none in absurd (omega (arith, space, low))
      by_case (inr (ys, y, is)) =
          let digit : get_or words place 0 ≡ y = digit_is pre ys y nines are is in
          subst (λ (d : ℕ). IsCountedOn a b n (set words place (d + 1))) (sym digit) (counted pre ys y nines are is n small same (omega (arith, digit, high)))

-- .. as the code reads it
pub counted_now : (a b ds words : List ℕ) (last back : ℕ) (ends : last + 1 ≡ length (a ++ 32 ∷ ds)) → AreBack a b ds back words → (n : ℕ) → n + 1 < 2 ^ 64 → ds ≡ decimal n
    → (digit : ℕ) → digit ≡ get_or words (last - back) digit → last - back < length words → (digit ≡ 57 → ⊥) → 48 ≤ digit → digit ≤ 57
    → IsCountedOn a b n (set words (last - back) (digit + 1))
counted_now a b ds words last back ends are n small same digit is inside other low high =
    let read : get_or words (last - back) 0 ≡ digit = get_or_default words (last - back) 0 digit inside ∙ sym is in
    let below : digit ≤ 56 = omega (arith, other, high) in
    subst (λ (d : ℕ). IsCountedOn a b n (set words (last - back) (d + 1))) read
    (digit_on a b ds words last back ends are n small same (omega (arith, read, low)) (omega (arith, read, below)))
