-- What a line says that begins as a block in turn.
use Rattle.std.proofs.Common.{◌≡◌, ℕ, ◌+◌, ◌<◌, ◌^◌, true, List, [], ◌∷◌, ◌++◌, length, take, drop, decimal, Option, Some, refl, sym, ap, subst, ◌-◌, ◌∙◌, append_assoc, take-append-drop, ne_eqb, length-append, arith}
use Rattle.std.specs.Prelude.{codes, nat_eq, unwrap_or}
use Rattle.std.specs.List.{starts_with}
use Rattle.std.proofs.lemmas.Slice.Eq.{bytes_eq-Decides}
use Rattle.dkg_reading.specs.Rows.{decimal_of}
use Rattle.dkg_reading.specs.Spells.{IsFieldText}
use Rattle.dkg_reading.proofs.FieldLaws.{number_law}
use Rattle.dkg_reading.proofs.Spelled.{number_is}
use Rattle.dkg_words.specs.declared.chain.Front.{Front}
use Rattle.dkg_words.specs.Chain.{block_line_from, block_lines, number_behind, parent_behind, parent_number, place_behind}
use Rattle.dkg_words.specs.Lines.{behind_byte, first_number, leading_number, until}
use Rattle.dkg_words.specs.Turns.{AreFrontWords, AreTurned, IsCountedOn, IsLineFront, front_words}
use Rattle.dkg_words.proofs.BlockLines.{turned_on}

begins : (line words : List ℕ) → starts_with nat_eq line words ≡ true → line ≡ words ++ drop (length words) line
begins line words is =
    let same : words ≡ take (length words) line = (bytes_eq-Decides words (take (length words) line)).0 is in
    sym (take-append-drop (length words) line) ∙ ap (λ (l : List ℕ). l ++ drop (length words) line) (sym same)

until_field : (text rest : List ℕ) → IsFieldText text → until 32 (text ++ 32 ∷ rest) ≡ text
until_field [] rest plain = refl
until_field (b ∷ bs) rest plain = let other = ne_eqb b 32 plain.0.0 in let more = until_field bs rest plain.1 in rw (other, more) refl

behind_field : (text rest : List ℕ) → IsFieldText text → behind_byte 32 (text ++ 32 ∷ rest) ≡ Some rest
behind_field [] rest plain = refl
behind_field (b ∷ bs) rest plain = let other = ne_eqb b 32 plain.0.0 in let more = behind_field bs rest plain.1 in rw (other, more) refl

-- a number in front of a line's fields
number_first : (n : ℕ) (rest : List ℕ) → n < 2 ^ 64 → decimal_of (until 32 (decimal n ++ 32 ∷ rest)) ≡ Some n
number_first n rest small = number_is (until 32 (decimal n ++ 32 ∷ rest)) n small (until_field (decimal n) rest (number_law.plain n small))

module _ (h p : ℕ) (tail : List ℕ) (high : h < 2 ^ 64) (parent : p < 2 ^ 64) where
  abbrev behind_height : List ℕ
  behind_height = decimal p ++ 32 ∷ tail

  abbrev fields : List ℕ
  fields = decimal h ++ 32 ∷ behind_height

  whole : (decimal h ++ (32 ∷ (decimal p ++ 32 ∷ []))) ++ tail ≡ fields
  whole = append_assoc (decimal h) (32 ∷ (decimal p ++ 32 ∷ [])) tail ∙ ap (λ (l : List ℕ). decimal h ++ 32 ∷ l) (append_assoc (decimal p) (32 ∷ []) tail)

  behind_name : behind_byte 32 (front_words h p ++ tail) ≡ Some fields
  behind_name = ap Some whole

  pub says : (line : List ℕ) → line ≡ front_words h p ++ tail → (first_number line ≡ h) × (parent_number line ≡ Some p)
  says line is =
      let named : behind_byte 32 line ≡ Some fields = ap (behind_byte 32) is ∙ behind_name in (
        ap leading_number named ∙ ap (λ (o : Option ℕ). unwrap_or o 0) (number_first h behind_height high),
        ap parent_behind named ∙ (ap number_behind (behind_field (decimal h) behind_height (number_law.plain h high)) ∙ number_first p tail parent),
      )

pub line_in_turn : (line : List ℕ) (h p : ℕ) → h < 2 ^ 64 → p < 2 ^ 64 → starts_with nat_eq line (front_words h p) ≡ true → (first_number line ≡ h) × (parent_number line ≡ Some p)
line_in_turn line h p high parent is = says h p (drop (length (front_words h p)) line) high parent line (begins line (front_words h p) is)

-- a front's numbers are its own
pub front_itself : (h p : ℕ) (front : Front) → IsLineFront h p front → IsLineFront front.height front.parent front
front_itself h p front is = record {
  height_is = refl;
  parent_is = refl;
  words_are =
      subst (λ (x : ℕ). AreFrontWords x front.parent front.words.items front.height_end front.parent_end) (sym is.height_is)
      (subst (λ (y : ℕ). AreFrontWords h y front.words.items front.height_end front.parent_end) (sym is.parent_is) is.words_are);
}

-- one line on
pub turned_line : (text : List ℕ) (n i place next : ℕ) (line : List ℕ) (front after : Front) → IsLineFront front.height front.parent front → front.height < 2 ^ 64 → front.parent < 2 ^ 64
    → i < n → block_line_from text place ≡ Some line → starts_with nat_eq line front.words.items ≡ true → IsLineFront (front.height + 1) (front.parent + 1) after
    → next ≡ place_behind place line → AreTurned after.height after.parent (block_lines text (n - (i + 1)) next) → AreTurned front.height front.parent (block_lines text (n - i) place)
turned_line text n i place next line front after is high parent below found begun on behind more =
    let words : starts_with nat_eq line (front_words front.height front.parent) ≡ true = subst (λ (w : List ℕ). starts_with nat_eq line w ≡ true) is.words_are.words_are begun in
    let says = line_in_turn line front.height front.parent high parent words in
    let one : AreTurned after.height after.parent (block_lines text (n - (i + 1)) (place_behind place line)) =
    subst (λ (q : ℕ). AreTurned after.height after.parent (block_lines text (n - (i + 1)) q)) behind more in
    let two : AreTurned (front.height + 1) after.parent (block_lines text (n - (i + 1)) (place_behind place line)) =
    subst (λ (h : ℕ). AreTurned h after.parent (block_lines text (n - (i + 1)) (place_behind place line))) on.height_is one in
    let three : AreTurned (front.height + 1) (front.parent + 1) (block_lines text (n - (i + 1)) (place_behind place line)) =
    subst (λ (p : ℕ). AreTurned (front.height + 1) p (block_lines text (n - (i + 1)) (place_behind place line))) on.parent_is two in
    turned_on text n i place front.height front.parent line below found says.0 says.1 three

-- BOTH NUMBERS COUNTED ON

pub second_words : (h p : ℕ) (words : List ℕ) → words ≡ codes "block" ++ 32 ∷ (decimal (h + 1) ++ (32 ∷ (decimal p ++ 32 ∷ [])))
    → words ≡ (codes "block " ++ decimal (h + 1)) ++ 32 ∷ (decimal p ++ 32 ∷ [])
second_words h p words is = is ∙ sym (append_assoc (codes "block ") (decimal (h + 1)) (32 ∷ (decimal p ++ 32 ∷ [])))

pub second_ends : (h p last : ℕ) → length (decimal (h + 1)) ≡ length (decimal h) → last + 1 ≡ length (codes "block " ++ (decimal h ++ (32 ∷ decimal p)))
    → last + 1 ≡ length ((codes "block " ++ decimal (h + 1)) ++ 32 ∷ decimal p)
second_ends h p last same ends =
    omega (
      arith,
      same,
      ends,
      length-append (codes "block ") (decimal h ++ (32 ∷ decimal p)),
      length-append (decimal h) (32 ∷ decimal p),
      length-append (codes "block " ++ decimal (h + 1)) (32 ∷ decimal p),
      length-append (codes "block ") (decimal (h + 1)),
    )

pub both_counted : (h p : ℕ) (before one two : List ℕ) (height_end parent_end : ℕ) → AreFrontWords h p before height_end parent_end
    → IsCountedOn (codes "block") (32 ∷ (decimal p ++ 32 ∷ [])) h one → IsCountedOn (codes "block " ++ decimal (h + 1)) (32 ∷ []) p two
    → AreFrontWords (h + 1) (p + 1) two height_end parent_end
both_counted h p before one two height_end parent_end are first second = record {
  words_are = second.words_are ∙ append_assoc (codes "block ") (decimal (h + 1)) (32 ∷ (decimal (p + 1) ++ 32 ∷ []));
  height_ends =
      omega (arith, are.height_ends, first.digits, length-append (codes "block ") (decimal h), length-append (codes "block ") (decimal (h + 1)));
  parent_ends =
      omega (
        arith,
        are.parent_ends,
        first.digits,
        second.digits,
        length-append (codes "block ") (decimal h ++ (32 ∷ decimal p)),
        length-append (decimal h) (32 ∷ decimal p),
        length-append (codes "block ") (decimal (h + 1) ++ (32 ∷ decimal (p + 1))),
        length-append (decimal (h + 1)) (32 ∷ decimal (p + 1)),
      );
}
