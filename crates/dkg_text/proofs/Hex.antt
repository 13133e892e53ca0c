-- Bytes and their pairs of lower-case digits.
use Rattle.std.proofs.Common.{◌≡◌, ℕ, zero, suc, ◌+◌, ◌*◌, ◌/◌, ◌%◌, ◌<◌, ◌==◌, Bool, true, false, ◌&&◌, inl, inr, List, [], ◌∷◌, length, take, ◌++◌, slice_index, Option, Some, None, Result, Ok, Err, refl, sym, ap, subst, ◌∙◌, arith, nat_lt}
use Rattle.std.specs.Prelude.{IfOk, IfSome, MatchOption, IsErr, All, if◌then◌else◌}
use Rattle.std.specs.Result.{result_unwrap_or}
use Rattle.std.proofs.lemmas.Bool.{and_parts, cases_lt, eqb-true}
use Rattle.std.proofs.lemmas.List.{append_assoc, take_more}
use Rattle.std.proofs.lemmas.List.Elements.{All-cons, All-head, All-nil, All-tail}
use Rattle.hex.specs.Hex.{decode_of, decode_pairs, digit_or_error, hex_digit_value, encode_lower, encode_with, lower_digits, pair_value, value_at, ◌>>=◌, IsBytes}
use Rattle.hex.specs.declared.error.FromHexError.{FromHexError}
use Rattle.dkg_text.specs.Fields.{IsLowerDigit, IsLower, hex_text}
use Rattle.hex.proofs.HexLemmas.{decode_of-encode_lower, decode_of-even, decode_of-ok, length-encode_with}

abbrev digit_text : ℕ → ℕ
digit_text k = if nat_lt k 10 then 48 + k else 87 + k

abbrev stand : ℕ → Bool
stand zero = true
stand (suc n) = slice_index lower_digits n == digit_text n && stand n

stand-at : (n k : ℕ) → stand n ≡ true → k < n → slice_index lower_digits k ≡ digit_text k
stand-at zero k h lt = absurd (omega arith)
stand-at (suc n) k h lt =
    let parts = and_parts (slice_index lower_digits n == digit_text n) (stand n) h in
    elim (cases_lt k n) [
      | inl below ↦ stand-at n k parts.1 below
      | inr top ↦
          let e : k ≡ n = omega arith in
          rw e (eqb-true (slice_index lower_digits n) (digit_text n) parts.0)
    ]

-- the value of a lower-case digit, and its index in the table
digit_back : (c v : ℕ) → IsLowerDigit c → hex_digit_value c ≡ Some v → (v < 16) × (digit_text v ≡ c)
digit_back c v lower is = grind arith

table_back : (c v : ℕ) → IsLowerDigit c → hex_digit_value c ≡ Some v → (v < 16) × (slice_index lower_digits v ≡ c)
table_back c v lower is =
    let parts = digit_back c v lower is in
    (parts.0, stand-at 16 v refl parts.0 ∙ parts.1)

bind_ok : {A B : Type 0} (r : Result A FromHexError) (f : A → Result B FromHexError) (y : B)
    → (r >>= f) ≡ Ok y → (x : A) × (r ≡ Ok x) × (f x ≡ Ok y)
bind_ok (Ok x) f y h = (x, refl, h)
bind_ok (Err e) f y h = cc h

digit_read : (c i : ℕ) (o : Option ℕ) (v : ℕ) → digit_or_error c i o ≡ Ok v → o ≡ Some v
digit_read c i (Some w) v h = ap Some (ap (λ (r : Result ℕ FromHexError). result_unwrap_or r 0) h)
digit_read c i None v h = cc h

-- what lower-case digits decode to is written as they are
pub pairs_back : (i : ℕ) (text bytes : List ℕ) → All IsLowerDigit text → decode_pairs i text ≡ Ok bytes → encode_lower bytes ≡ text
unfolding decode_pairs encode_with
pairs_back i [] bytes lower h =
    let e : [] ≡ bytes = ap (λ (r : Result (List ℕ) FromHexError). result_unwrap_or r []) h in
    rw (← e) refl
pairs_back i (a ∷ []) bytes lower h = cc h
pairs_back i (a ∷ b ∷ rest) bytes lower h =
    let p0 = bind_ok (pair_value a b i) _ bytes h in
    let p1 = bind_ok (value_at a i) _ p0.0 p0.1 in
    let p2 = bind_ok (value_at b (i + 1)) _ p0.0 p1.2 in
    let p3 = bind_ok (decode_pairs (i + 2) rest) _ bytes p0.2 in
    let tail = All-tail IsLowerDigit a (b ∷ rest) lower in
    let others = pairs_back (i + 2) rest p3.0 (All-tail IsLowerDigit b rest tail) p3.1 in
    let e : p0.0 ∷ p3.0 ≡ bytes = ap (λ (r : Result (List ℕ) FromHexError). result_unwrap_or r []) p3.2 in
    let byte : p1.0 * 16 + p2.0 ≡ p0.0 = ap (λ (r : Result ℕ FromHexError). result_unwrap_or r 0) p2.2 in
    let high = table_back a p1.0 (All-head IsLowerDigit a (b ∷ rest) lower) (digit_read a i (hex_digit_value a) p1.0 p1.1) in
    let low = table_back b p2.0 (All-head IsLowerDigit b rest tail) (digit_read b (i + 1) (hex_digit_value b) p2.0 p2.1) in
    let quotient : p0.0 / 16 ≡ p1.0 = omega (arith, byte, high.0, low.0) in
    let remainder : p0.0 % 16 ≡ p2.0 = omega (arith, byte, high.0, low.0) in
    rw (← e, quotient, remainder, high.1, low.1, others) refl

pub lower_text : (k : ℕ) → k < 16 → IsLowerDigit (slice_index lower_digits k)
lower_text k below =
    let is = stand-at 16 k refl below in
    rw is (grind arith)

pub encode-lower : (bytes : List ℕ) → IsBytes bytes → IsLower (encode_lower bytes)
unfolding encode_with
encode-lower [] fit = All-nil IsLowerDigit
encode-lower (b ∷ bs) fit =
    let small : b < 256 = fit 0 in
    All-cons IsLowerDigit (slice_index lower_digits (b / 16)) (slice_index lower_digits (b % 16) ∷ encode_lower bs) (lower_text (b / 16) (omega arith))
    (All-cons IsLowerDigit (slice_index lower_digits (b % 16)) (encode_lower bs) (lower_text (b % 16) (omega arith)) (encode-lower bs (λ k. fit (suc k))))

-- a dash spells no bytes alone
pub dash : (text bytes : List ℕ) → text ≡ 45 ∷ [] → text ≡ hex_text bytes → bytes ≡ []
unfolding encode_with
dash text [] is spelled = refl
dash text (b ∷ bs) is spelled = absurd (cc (sym is ∙ spelled))

pub digits_of : (b : ℕ) (bs : List ℕ) → IsBytes (b ∷ bs) → (0 < length (hex_text (b ∷ bs))) × IsLower (hex_text (b ∷ bs)) × (decode_of (hex_text (b ∷ bs)) ≡ Ok (b ∷ bs))
digits_of b bs fit =
    let len = length-encode_with lower_digits (b ∷ bs) in
    let some : 0 < length (hex_text (b ∷ bs)) = omega (arith, len) in
    (some, encode-lower (b ∷ bs) fit, decode_of-encode_lower (b ∷ bs) fit)

pub digits : (text bytes : List ℕ) → IsBytes bytes → (text ≡ 45 ∷ [] → ⊥) → text ≡ hex_text bytes → (0 < length text) × IsLower text × (decode_of text ≡ Ok bytes)
digits text [] fit other spelled = absurd (other spelled)
digits text (b ∷ bs) fit other spelled =
    let P : List ℕ → Type 0 = λ t. (0 < length t) × IsLower t × (decode_of t ≡ Ok (b ∷ bs)) in
    subst P (sym spelled) (digits_of b bs fit)

abbrev pub Decoded : List ℕ → Option (List ℕ) → Type 0
Decoded text made = MatchOption made (IsErr (decode_of text)) (λ bytes. decode_of text ≡ Ok bytes)

pub text_back : (text bytes : List ℕ) → 0 < length text → IsLower text → decode_of text ≡ Ok bytes → text ≡ hex_text bytes
text_back text [] some lower h =
    let parts = decode_of-ok text [] h in
    absurd (omega (arith, some, parts.2))
text_back text (b ∷ bs) some lower h =
    let parts = decode_of-ok text (b ∷ bs) h in
    sym (pairs_back 0 text (b ∷ bs) lower (sym (decode_of-even text parts.0) ∙ h))

found : (text : List ℕ) (made : Option (List ℕ)) → 0 < length text → IsLower text → Decoded text made → IfSome made (λ bytes. text ≡ hex_text bytes)
found text None some lower is = tt
found text (Some bytes) some lower is = text_back text bytes some lower is

not_both : (r : Result (List ℕ) FromHexError) (bytes : List ℕ) → IsErr r → r ≡ Ok bytes → ⊥
not_both (Ok x) bytes is same = cc is
not_both (Err e) bytes is same = cc same

only : (text : List ℕ) (made : Option (List ℕ)) (bytes : List ℕ) → Decoded text made → decode_of text ≡ Ok bytes → made ≡ Some bytes
only text None bytes is same = absurd (not_both (decode_of text) bytes is same)
only text (Some other) bytes is same = ap Some (ap (λ (r : Result (List ℕ) FromHexError). result_unwrap_or r []) (sym is ∙ same))

pub found_in : {E : Type 0} (text : List ℕ) (r : Result (Option (List ℕ)) E) → (0 < length text) × IsLower text → IfOk r (Decoded text) → IfOk r (λ made. IfSome made (λ bytes. text ≡ hex_text bytes))
found_in text (Ok made) is decoded = found text made is.0 is.1 decoded
found_in text (Err e) is decoded = tt

pub only_in : {E : Type 0} (text : List ℕ) (r : Result (Option (List ℕ)) E) (bytes : List ℕ) → IfOk r (Decoded text) → decode_of text ≡ Ok bytes → IfOk r (λ made. made ≡ Some bytes)
only_in text (Ok made) bytes decoded same = only text made bytes decoded same
only_in text (Err e) bytes decoded same = tt

-- no test comes out both ways
pub never : (b : Bool) → b ≡ true → b ≡ false → ⊥
never true is other = cc other
never false is other = cc is

encode-append : (xs ys : List ℕ) → encode_lower (xs ++ ys) ≡ encode_lower xs ++ encode_lower ys
unfolding encode_with
encode-append [] ys = refl
encode-append (x ∷ xs) ys = rw (encode-append xs ys) refl

-- one byte more
encode_more : (xs : List ℕ) (i : ℕ) → i < length xs → encode_lower (take (i + 1) xs) ≡ encode_lower (take i xs) ++ slice_index lower_digits (slice_index xs i / 16) ∷ slice_index lower_digits (slice_index xs i % 16) ∷ []
unfolding encode_with
encode_more xs i below =
    rw (take_more xs i 0 below) (encode-append (take i xs) (slice_index xs i ∷ []))

-- one byte more, after what was there
pub written_more : (before xs now after : List ℕ) (i : ℕ) → i < length xs → now ≡ before ++ encode_lower (take i xs) → after ≡ now ++ slice_index lower_digits (slice_index xs i / 16) ∷ slice_index lower_digits (slice_index xs i % 16) ∷ [] → after ≡ before ++ encode_lower (take (i + 1) xs)
written_more before xs now after i below so_far pair =
    let more = encode_more xs i below in
    pair ∙ (rw (so_far, more, append_assoc) refl)
