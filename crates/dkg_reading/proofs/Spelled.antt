-- What fields spell, from what is known of them.
use Rattle.std.proofs.Common.{◌≡◌, ℕ, ◌<◌, ◌^◌, ◌&&◌, Bool, true, false, List, [], ◌∷◌, ◌++◌, length, decimal, Option, Some, None, Result, Ok, Err, Bor, refl, sym, subst, arith, nat_lt, length-append}
use Rattle.std.specs.Prelude.{IfSome, IfOk, All, MatchOption, IsErr, if◌then◌else◌}
use Rattle.std.specs.Bool.{Decides}
use Rattle.std.specs.Result.{result_ok}
use Rattle.std.specs.Str.{bytes_eq}
use Rattle.std.specs.Str.Parse.{digits_value}
use Rattle.std.proofs.lemmas.Bool.{and_parts, lt-ltb, ltb-true, eq-eqb, ne_eqb}
use Rattle.std.proofs.lemmas.List.Elements.{All-head, All-tail}
use Rattle.std.proofs.lemmas.Slice.Eq.{bytes_eq-Decides}
use Rattle.hex.specs.declared.error.FromHexError.{FromHexError}
use Rattle.hex.specs.Hex.{decode_of}
use Rattle.hex.proofs.HexLemmas.{decode_of-ok}
use Rattle.dkg_text.specs.Fields.{IsCutAt, IsLower, IsLowerDigit, hex_text}
use Rattle.dkg_reading.specs.Rows.{bytes_of, cut_at_byte, decimal_of, ◌>>=◌}
use Rattle.dkg_text.proofs.Hex.{Decoded, digits, text_back}
use Rattle.dkg_reading.proofs.Numbers.{Parses, spells}

pub is_false : {P : Type 0} (b : Bool) → Decides b P → (P → ⊥) → b ≡ false
is_false true d not_so = absurd (not_so (d.0 refl))
is_false false d not_so = refl

pub same_text : (xs ys : List ℕ) → xs ≡ ys → bytes_eq xs ys ≡ true
same_text xs ys is = (bytes_eq-Decides xs ys).1 is

pub other_text : (xs ys : List ℕ) → (xs ≡ ys → ⊥) → bytes_eq xs ys ≡ false
other_text xs ys not_so = is_false (bytes_eq xs ys) (bytes_eq-Decides xs ys) not_so

-- NUMBERS

pub number_is : (text : List ℕ) (n : ℕ) → n < 2 ^ 64 → text ≡ decimal n → decimal_of text ≡ Some n
unfolding decimal_of
number_is text n small is =
    let value = (spells text n small is).1 in
    rw (value, same_text text (decimal n) is, lt-ltb n (2 ^ 64) small) refl

none_where : (b : Bool) (n : ℕ) → (b ≡ true → ⊥) → (if b then Some n else None) ≡ None
none_where true n not_so = absurd (not_so refl)
none_where false n not_so = refl

pub no_number : (text : List ℕ) → ((n : ℕ) → n < 2 ^ 64 → text ≡ decimal n → ⊥) → decimal_of text ≡ None
unfolding decimal_of
no_number text not_so =
    let n = digits_value 10 text in
    none_where (bytes_eq text (decimal n) && nat_lt n (2 ^ 64)) n (λ is.
    let parts = and_parts (bytes_eq text (decimal n)) (nat_lt n (2 ^ 64)) is in
    not_so n (ltb-true n (2 ^ 64) parts.1) ((bytes_eq-Decides text (decimal n)).0 parts.0))

pub number_value : (text : List ℕ) (r : Option ℕ) → Parses text r → IfSome r (λ n. text ≡ decimal n) → ((n : ℕ) → n < 2 ^ 64 → text ≡ decimal n → r ≡ Some n) → r ≡ decimal_of text
number_value text (Some n) parses is only = sym (number_is text n (rw parses.1 parses.0.1) is)
number_value text None parses is only = sym (no_number text (λ n small same. cc (only n small same)))

-- CUTS

first_cut : (at : ℕ) (before after : List ℕ) → All (λ b. b ≡ at → ⊥) before → cut_at_byte at (before ++ at ∷ after) ≡ Some (before, after)
unfolding cut_at_byte
first_cut at [] after all = rw (eq-eqb at at refl) refl
first_cut at (b ∷ bs) after all =
    let other = ne_eqb b at (All-head (λ b. b ≡ at → ⊥) b bs all) in
    let rest = first_cut at bs after (All-tail (λ b. b ≡ at → ⊥) b bs all) in
    rw (other, rest) refl

pub no_cut : (at : ℕ) (text : List ℕ) → All (λ b. b ≡ at → ⊥) text → cut_at_byte at text ≡ None
unfolding cut_at_byte
no_cut at [] all = refl
no_cut at (b ∷ bs) all =
    let other = ne_eqb b at (All-head (λ b. b ≡ at → ⊥) b bs all) in
    let rest = no_cut at bs (All-tail (λ b. b ≡ at → ⊥) b bs all) in
    rw (other, rest) refl

pub cut_value : (at : ℕ) (text : List ℕ) (r : Option (Bor (List ℕ) × Bor (List ℕ))) → MatchOption r (All (λ b. b ≡ at → ⊥) text) (λ parts. IsCutAt at text parts.0.now parts.1.now)
    → MatchOption r (cut_at_byte at text ≡ None) (λ parts. cut_at_byte at text ≡ Some (parts.0.now, parts.1.now))
cut_value at text None all = no_cut at text all
cut_value at text (Some parts) is = rw is.whole (first_cut at parts.0.now parts.1.now is.first)

pub cut_shorter : (at : ℕ) (text : List ℕ) (r : Option (Bor (List ℕ) × Bor (List ℕ))) → MatchOption r (All (λ b. b ≡ at → ⊥) text) (λ parts. IsCutAt at text parts.0.now parts.1.now)
    → IfSome r (λ parts. length parts.1.now < length text)
cut_shorter at text None all = tt
cut_shorter at text (Some parts) is = rw is.whole (let long = length-append parts.0.now (at ∷ parts.1.now) in omega (arith, long))

-- BYTES

-- lower-case digits alone are no dash
pub no_dash : (text : List ℕ) → IsLower text → text ≡ 45 ∷ [] → ⊥
no_dash text lower is =
    let all : IsLower (45 ∷ []) = subst (λ (t : List ℕ). IsLower t) is lower in
    let first : IsLowerDigit 45 = All-head IsLowerDigit 45 [] all in
    absurd (grind (arith, first))

pub spelled_bytes : (text bytes : List ℕ) → (text ≡ 45 ∷ [] → ⊥) → decode_of text ≡ Ok bytes → text ≡ hex_text bytes → bytes_of text ≡ Some bytes
unfolding bytes_of
spelled_bytes text bytes not_so is same = rw (other_text text (45 ∷ []) not_so, is, same_text text (hex_text bytes) same) refl

pub dash_bytes : (text : List ℕ) → text ≡ 45 ∷ [] → bytes_of text ≡ Some []
unfolding bytes_of
dash_bytes text is = rw (same_text text (45 ∷ []) is) refl

undecoded : (text : List ℕ) (r : Result (List ℕ) FromHexError) → IsErr r → (result_ok r >>= λ bytes. if bytes_eq text (hex_text bytes) then Some bytes else None) ≡ None
undecoded text (Ok x) is = cc is
undecoded text (Err e) is = refl

unspelled : (text : List ℕ) (r : Result (List ℕ) FromHexError) → ((bytes : List ℕ) → r ≡ Ok bytes → text ≡ hex_text bytes → ⊥) → (result_ok r >>= λ bytes. if bytes_eq text (hex_text bytes) then Some bytes else None) ≡ None
unspelled text (Ok bytes) not_so = rw (other_text text (hex_text bytes) (λ is. not_so bytes refl is)) refl
unspelled text (Err e) not_so = refl

decoded_bytes : (text : List ℕ) (made : Option (List ℕ)) → (0 < length text) × IsLower text → Decoded text made → made ≡ bytes_of text
unfolding bytes_of
decoded_bytes text None is decoded = sym (rw (other_text text (45 ∷ []) (no_dash text is.1)) (undecoded text (decode_of text) decoded))
decoded_bytes text (Some bytes) is decoded = sym (spelled_bytes text bytes (no_dash text is.1) decoded (text_back text bytes is.0 is.1 decoded))

pub decoded_bytes_in : {E : Type 0} (text : List ℕ) (r : Result (Option (List ℕ)) E) → (0 < length text) × IsLower text → IfOk r (Decoded text) → IfOk r (λ made. made ≡ bytes_of text)
decoded_bytes_in text (Ok made) is decoded = decoded_bytes text made is decoded
decoded_bytes_in text (Err e) is decoded = tt

-- neither a dash nor some lower-case digits
pub no_bytes : (text : List ℕ) → (text ≡ 45 ∷ [] → ⊥) → ((0 < length text) × IsLower text → ⊥) → bytes_of text ≡ None
unfolding bytes_of
no_bytes text not_so none =
    rw (other_text text (45 ∷ []) not_so) (unspelled text (decode_of text) (λ bytes is same.
    let parts = digits text bytes (decode_of-ok text bytes is).3 not_so same in
    none (parts.0, parts.1)))
