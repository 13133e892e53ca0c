-- Each kind of field has one spelling for each value.
use Rattle.std.proofs.Common.{◌≡◌, ℕ, zero, suc, ◌<◌, ◌≤◌, ◌^◌, ◌&&◌, Bool, true, false, cond, inl, inr, List, [], ◌∷◌, decimal, Option, Some, None, Result, Ok, Err, refl, subst, ◌∙◌, arith, nat_lt}
use Rattle.std.specs.Prelude.{IfSome, codes, slice_index}
use Rattle.std.specs.Result.{result_ok}
use Rattle.std.specs.Str.{bytes_eq}
use Rattle.std.specs.Str.Parse.{AllDigits, digits_value}
use Rattle.std.specs.Char.{digit_value}
use Rattle.std.proofs.lemmas.Bool.{and_parts, lt-ltb, ltb-true}
use Rattle.std.proofs.lemmas.Fmt.{decimal_is_IsNumeral}
use Rattle.std.proofs.lemmas.List.Elements.{All-head, All-tail}
use Rattle.std.proofs.lemmas.Slice.Eq.{bytes_eq-Decides}
use Rattle.hex.specs.declared.error.FromHexError.{FromHexError}
use Rattle.hex.specs.Hex.{IsBytes, decode_of}
use Rattle.hex.proofs.HexLemmas.{decode_of-ok}
use Rattle.dkg_ceremony.specs.declared.mode.Mode.{Mode}
use Rattle.dkg_ceremony.specs.declared.mode.Mode.TheVariants.{NonZeroCounter, RootsOfUnity}
use Rattle.dkg_ceremony.specs.declared.mode.ModeVersion.{ModeVersion}
use Rattle.dkg_reading.specs.Allowed.{AreSomeBytes}
use Rattle.dkg_text.specs.Fields.{IsLower, IsLowerDigit, hex_text}
use Rattle.dkg_reading.specs.Rows.{bytes_of, dash_or, mode_from, mode_of, number_below, decimal_of, version_of, ◌>>=◌}
use Rattle.dkg_reading.specs.Spells.{IsField, IsFieldText, IsInField}
use Rattle.dkg_text.specs.Writing.{mode_number, or_dash}
use Rattle.dkg_reading.proofs.Guards.{bind_some, if_some, some_is}
use Rattle.dkg_text.proofs.Hex.{digits_of}
use Rattle.dkg_reading.proofs.Spelled.{dash_bytes, no_dash, number_is, other_text, spelled_bytes}

-- NUMBERS

not_digit : (c d : ℕ) → digit_value c < 10 → 10 ≤ digit_value d → c ≡ d → ⊥
not_digit c d small large is = let bad : digit_value d < 10 = subst (λ x. digit_value x < 10) is small in omega (arith, bad, large)

digits_plain : (text : List ℕ) → AllDigits 10 text → IsFieldText text
digits_plain [] all = tt
digits_plain (c ∷ cs) all = ((not_digit c 32 all.0 (omega arith), not_digit c 10 all.0 (omega arith)), digits_plain cs all.1)

decimal_plain : (n : ℕ) → n < 2 ^ 64 → IsFieldText (decimal n)
decimal_plain n small = digits_plain (decimal n) (decimal_is_IsNumeral n small).0.1

number_found : (text : List ℕ) (v : ℕ) → decimal_of text ≡ Some v → (v < 2 ^ 64) × (text ≡ decimal v)
unfolding decimal_of
number_found text v e =
    let n = digits_value 10 text in
    let g = if_some (bytes_eq text (decimal n) && nat_lt n (2 ^ 64)) (Some n) v e in
    let parts = and_parts (bytes_eq text (decimal n)) (nat_lt n (2 ^ 64)) g.0 in
    let same : n ≡ v = some_is n v g.1 in
    let small : n < 2 ^ 64 = ltb-true n (2 ^ 64) parts.1 in
    let is : text ≡ decimal n = (bytes_eq-Decides text (decimal n)).0 parts.0 in
    subst (λ m. (m < 2 ^ 64) × (text ≡ decimal m)) same (small, is)

pub number_law : IsField (λ n. n < 2 ^ 64) decimal decimal_of
number_law = record {
  found = number_found;
  again = λ v fit. number_is (decimal v) v fit refl;
  plain = decimal_plain;
}

below_found : (limit : ℕ) (text : List ℕ) (v : ℕ) → number_below limit text ≡ Some v → (v < limit) × (text ≡ decimal v)
unfolding number_below
below_found limit text v e =
    let b = bind_some (decimal_of text) (λ n. cond (nat_lt n limit) (Some n) None) v e in
    let f = number_found text b.0 b.1 in
    let g = if_some (nat_lt b.0 limit) (Some b.0) v b.2 in
    let below : b.0 < limit = ltb-true b.0 limit g.0 in
    subst (λ m. (m < limit) × (text ≡ decimal m)) (some_is b.0 v g.1) (below, f.1)

below_again : (limit : ℕ) → limit ≤ 2 ^ 64 → (v : ℕ) → v < limit → number_below limit (decimal v) ≡ Some v
unfolding number_below
below_again limit small v fit =
    let is : decimal_of (decimal v) ≡ Some v = number_is (decimal v) v (omega (arith, small, fit)) refl in
    rw (is, lt-ltb v limit fit) refl

pub below_law : (limit : ℕ) → limit ≤ 2 ^ 64 → IsField (λ n. n < limit) decimal (number_below limit)
below_law limit small = record {
  found = below_found limit;
  again = below_again limit small;
  plain = λ v fit. decimal_plain v (omega (arith, small, fit));
}

-- BYTES

in_lower : (c : ℕ) → IsLowerDigit c → IsInField c
in_lower c (inl digit) = (λ e. omega (arith, digit.0, digit.1, e), λ e. omega (arith, digit.0, digit.1, e))
in_lower c (inr letter) = (λ e. omega (arith, letter.0, letter.1, e), λ e. omega (arith, letter.0, letter.1, e))

lower_plain : (text : List ℕ) → IsLower text → IsFieldText text
lower_plain [] all = tt
lower_plain (c ∷ cs) all = (in_lower c (All-head IsLowerDigit c cs all), lower_plain cs (All-tail IsLowerDigit c cs all))

hex_plain : (bytes : List ℕ) → IsBytes bytes → IsFieldText (hex_text bytes)
hex_plain [] fit = ((λ e. omega (arith, e), λ e. omega (arith, e)), tt)
hex_plain (b ∷ bs) fit = lower_plain (hex_text (b ∷ bs)) (digits_of b bs fit).1

no_byte : (i : ℕ) → slice_index [] i < 256
no_byte zero = omega arith
no_byte (suc i) = omega arith

decoded_found : (text : List ℕ) (r : Result (List ℕ) FromHexError) (v : List ℕ) → decode_of text ≡ r → (result_ok r >>= λ bytes. cond (bytes_eq text (hex_text bytes)) (Some bytes) None) ≡ Some v → IsBytes v × (text ≡ hex_text v)
decoded_found text (Ok bytes) v is e =
    let g = if_some (bytes_eq text (hex_text bytes)) (Some bytes) v e in
    let same : text ≡ hex_text bytes = (bytes_eq-Decides text (hex_text bytes)).0 g.0 in
    subst (λ (b : List ℕ). IsBytes b × (text ≡ hex_text b)) (some_is bytes v g.1) ((decode_of-ok text bytes is).3, same)
decoded_found text (Err x) v is e = cc e

bytes_found : (text v : List ℕ) → bytes_of text ≡ Some v → IsBytes v × (text ≡ hex_text v)
unfolding bytes_of
bytes_found text v e = by_case (bytes_eq text (codes "-")) refl e
  where
    by_case : (b : Bool) → bytes_eq text (codes "-") ≡ b → cond b (Some []) (result_ok (decode_of text) >>= λ bytes. cond (bytes_eq text (hex_text bytes)) (Some bytes) None) ≡ Some v → IsBytes v × (text ≡ hex_text v)
    by_case true dash e =
        let is : text ≡ codes "-" = (bytes_eq-Decides text (codes "-")).0 dash in
        subst (λ (b : List ℕ). IsBytes b × (text ≡ hex_text b)) (some_is [] v e) (no_byte, is)
    by_case false dash e = decoded_found text (decode_of text) v refl e

bytes_again : (v : List ℕ) → IsBytes v → bytes_of (hex_text v) ≡ Some v
bytes_again [] fit = dash_bytes (hex_text []) refl
bytes_again (b ∷ bs) fit =
    let d = digits_of b bs fit in
    spelled_bytes (hex_text (b ∷ bs)) (b ∷ bs) (no_dash (hex_text (b ∷ bs)) d.1) d.2 refl

pub bytes_law : IsField IsBytes hex_text bytes_of
bytes_law = record { found = bytes_found; again = bytes_again; plain = hex_plain }

-- A DASH FOR NOTHING

module _ {A : Type 0} (fits good : A → Type 0) (text : A → List ℕ) (of : List ℕ → Option A) (law : IsField fits text of)
    (to : (x : A) → fits x → (text x ≡ codes "-" → ⊥) → good x) (from : (x : A) → good x → fits x × (text x ≡ codes "-" → ⊥)) where
  dash_found : (field : List ℕ) (v : Option A) → dash_or of field ≡ Some v → IfSome v good × (field ≡ or_dash text v)
  unfolding dash_or
  dash_found field v e = by_case (bytes_eq field (codes "-")) refl e
    where
      by_case : (b : Bool) → bytes_eq field (codes "-") ≡ b → cond b (Some None) (of field >>= λ x. Some (Some x)) ≡ Some v → IfSome v good × (field ≡ or_dash text v)
      by_case true dash e =
          let is : field ≡ codes "-" = (bytes_eq-Decides field (codes "-")).0 dash in
          subst (λ (o : Option A). IfSome o good × (field ≡ or_dash text o)) (some_is None v e) (tt, is)
      by_case false dash e =
          let b = bind_some (of field) (λ x. Some (Some x)) v e in
          let f = law.found field b.0 b.1 in
          let other : text b.0 ≡ codes "-" → ⊥ = λ same. (let yes = (bytes_eq-Decides field (codes "-")).1 (f.1 ∙ same) in cc) in
          subst (λ (o : Option A). IfSome o good × (field ≡ or_dash text o)) (some_is (Some b.0) v b.2) (to b.0 f.0 other, f.1)

  dash_again : (v : Option A) → IfSome v good → dash_or of (or_dash text v) ≡ Some v
  unfolding dash_or
  dash_again None fit = refl
  dash_again (Some x) fit =
      let f = from x fit in
      rw (other_text (text x) (codes "-") f.1, law.again x f.0) refl

  dash_plain : (v : Option A) → IfSome v good → IsFieldText (or_dash text v)
  dash_plain None fit = ((λ e. omega (arith, e), λ e. omega (arith, e)), tt)
  dash_plain (Some x) fit = law.plain x (from x fit).0

  pub dash_law : IsField (λ v. IfSome v good) (or_dash text) (dash_or of)
  dash_law = record { found = dash_found; again = dash_again; plain = dash_plain }

digit_no_dash : (text : List ℕ) → AllDigits 10 text → text ≡ codes "-" → ⊥
digit_no_dash [] all is = cc
digit_no_dash (c ∷ cs) all is =
    let first : c ≡ 45 = cc in
    not_digit c 45 all.0 (omega arith) first

decimal_no_dash : (n : ℕ) → n < 2 ^ 64 → decimal n ≡ codes "-" → ⊥
decimal_no_dash n small is = digit_no_dash (decimal n) (decimal_is_IsNumeral n small).0.1 is

pub number_or_dash_law : IsField (λ v. IfSome v (λ n. n < 2 ^ 64)) (or_dash decimal) (dash_or decimal_of)
number_or_dash_law = dash_law (λ n. n < 2 ^ 64) (λ n. n < 2 ^ 64) decimal decimal_of number_law (λ n fit other. fit) (λ n fit. (fit, decimal_no_dash n fit))

pub below_or_dash_law : (limit : ℕ) → limit ≤ 2 ^ 64 → IsField (λ v. IfSome v (λ n. n < limit)) (or_dash decimal) (dash_or (number_below limit))
below_or_dash_law limit small =
    dash_law (λ n. n < limit) (λ n. n < limit) decimal (number_below limit) (below_law limit small) (λ n fit other. fit) (λ n fit. (fit, decimal_no_dash n (omega (arith, small, fit))))

some_bytes : (bytes : List ℕ) → IsBytes bytes → (hex_text bytes ≡ codes "-" → ⊥) → AreSomeBytes bytes
some_bytes [] fit other = absurd (other refl)
some_bytes (b ∷ bs) fit other = (fit, omega arith)

bytes_no_dash : (bytes : List ℕ) → AreSomeBytes bytes → IsBytes bytes × (hex_text bytes ≡ codes "-" → ⊥)
bytes_no_dash [] fit = absurd (omega (arith, fit.1))
bytes_no_dash (b ∷ bs) fit = (fit.0, no_dash (hex_text (b ∷ bs)) (digits_of b bs fit.0).1)

pub bytes_or_dash_law : IsField (λ v. IfSome v AreSomeBytes) (or_dash hex_text) (dash_or bytes_of)
bytes_or_dash_law = dash_law IsBytes AreSomeBytes hex_text bytes_of bytes_law some_bytes bytes_no_dash

-- MODES

mode_found : (text : List ℕ) (v : Mode) → mode_of text ≡ Some v → Unit {0} × (text ≡ decimal (mode_number v))
unfolding mode_of
mode_found text v e =
    let b = bind_some (decimal_of text) mode_from v e in
    by_case b.0 (number_found text b.0 b.1).1 b.2
  where
    by_case : (n : ℕ) → text ≡ decimal n → mode_from n ≡ Some v → Unit {0} × (text ≡ decimal (mode_number v))
    by_case zero is e = subst (λ (m : Mode). Unit {0} × (text ≡ decimal (mode_number m))) (some_is NonZeroCounter v e) (tt, is)
    by_case (suc zero) is e = subst (λ (m : Mode). Unit {0} × (text ≡ decimal (mode_number m))) (some_is RootsOfUnity v e) (tt, is)
    by_case (suc (suc n)) is e = cc e

mode_again : (v : Mode) → Unit {0} → mode_of (decimal (mode_number v)) ≡ Some v
unfolding mode_of
mode_again NonZeroCounter fit = rw (number_is (decimal 0) 0 (omega arith) refl) refl
mode_again RootsOfUnity fit = rw (number_is (decimal 1) 1 (omega arith) refl) refl

mode_small : (v : Mode) → mode_number v < 2 ^ 64
mode_small NonZeroCounter = omega arith
mode_small RootsOfUnity = omega arith

pub mode_law : IsField (λ (v : Mode). Unit {0}) (λ v. decimal (mode_number v)) mode_of
mode_law = record { found = mode_found; again = mode_again; plain = λ v fit. decimal_plain (mode_number v) (mode_small v) }

version_found : (text : List ℕ) (v : ModeVersion) → version_of text ≡ Some v → (v.0 < 2) × (text ≡ decimal v.0)
unfolding version_of
version_found text v e =
    let b = bind_some (number_below 2 text) (λ n. let m : ModeVersion = record { 0 = n } in Some m) v e in
    let f = below_found 2 text b.0 b.1 in
    subst (λ (m : ModeVersion). (m.0 < 2) × (text ≡ decimal m.0)) (some_is (record { 0 = b.0 }) v b.2) f

version_again : (v : ModeVersion) → v.0 < 2 → version_of (decimal v.0) ≡ Some v
unfolding version_of
version_again v fit = rw (below_again 2 (omega arith) v.0 fit) refl

pub version_law : IsField (λ (v : ModeVersion). v.0 < 2) (λ v. decimal v.0) version_of
version_law = record { found = version_found; again = version_again; plain = λ v fit. decimal_plain v.0 (omega (arith, fit)) }
