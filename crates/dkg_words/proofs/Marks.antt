-- Marks say which blocks are used, and change nothing else.
use Rattle.std.proofs.Common.{◌≡◌, ℕ, zero, suc, ◌<◌, ◌≤◌, ◌==◌, Bool, true, false, List, [], ◌∷◌, ◌++◌, map, length, get_or, set, Option, Some, None, Bor, refl, sym, ap, subst, ◌∙◌, arith}
use Rattle.std.specs.Prelude.{MatchOption, if◌then◌else◌}
use Rattle.std.proofs.lemmas.List.{get_or-map, length-map}
use Rattle.dkg_reading.specs.Rows.{byte_before, fields_in, fields_left}
use Rattle.dkg_words.specs.declared.chain.Block.{Block}
use Rattle.dkg_words.specs.Chain.{is_using, lives_in, mark_all, mark_at, mark_behind, mark_by, marked_blocks}
use Rattle.dkg_words.specs.Lines.{behind_byte, name_in, number_or_zero, over_lines, until}

-- a block without its mark
abbrev pub unmarked : Block → Block
unmarked b = record b { used = false }

unmarked_at : (bs : List Block) (n : ℕ) → map unmarked (mark_at bs n) ≡ map unmarked bs
unmarked_at [] n = refl
unmarked_at (b ∷ bs) zero = refl
unmarked_at (b ∷ bs) (suc n) = ap (λ (l : List Block). unmarked b ∷ l) (unmarked_at bs n)

unmarked_all : (bs : List Block) (fields : List (List ℕ)) → map unmarked (mark_all bs fields) ≡ map unmarked bs
unmarked_all bs [] = refl
unmarked_all bs (f ∷ fs) = unmarked_all (mark_at bs (number_or_zero f)) fs ∙ unmarked_at bs (number_or_zero f)

unmarked_behind : (bs : List Block) (o : Option (List ℕ)) → map unmarked (mark_behind bs o) ≡ map unmarked bs
unmarked_behind bs (Some fields) = unmarked_all bs (fields_in fields)
unmarked_behind bs None = refl

either_one : (t : Bool) (xs ys bs : List Block) → map unmarked xs ≡ map unmarked bs → map unmarked ys ≡ map unmarked bs → map unmarked (if t then xs else ys) ≡ map unmarked bs
either_one true xs ys bs one other = one
either_one false xs ys bs one other = other

unmarked_by : (bs : List Block) (line : List ℕ) → map unmarked (mark_by bs line) ≡ map unmarked bs
unmarked_by bs line = either_one (is_using (name_in line)) (mark_behind bs (behind_byte 32 line)) bs bs (unmarked_behind bs (behind_byte 32 line)) refl

unmarked_over : (bs : List Block) (line text : List ℕ) → map unmarked (over_lines mark_by bs line text) ≡ map unmarked bs
unfolding over_lines
unmarked_over bs line [] = refl
unmarked_over bs line (b ∷ text) =
    either_one (b == 10) (over_lines mark_by (mark_by bs line) [] text) (over_lines mark_by bs (line ++ b ∷ []) text) bs (unmarked_over (mark_by bs line) [] text ∙ unmarked_by bs line)
    (unmarked_over bs (line ++ b ∷ []) text)

pub unmarked_blocks : (text : List ℕ) (bs : List Block) → map unmarked (marked_blocks text bs) ≡ map unmarked bs
unmarked_blocks text bs = unmarked_over bs [] (lives_in text)

-- LISTS THAT ARE THE SAME WITHOUT THEIR MARKS

pub same_length : (xs ys : List Block) → map unmarked xs ≡ map unmarked ys → length xs ≡ length ys
same_length xs ys is = sym (length-map xs unmarked) ∙ (ap length is ∙ length-map ys unmarked)

pub same_at : (xs ys : List Block) → map unmarked xs ≡ map unmarked ys → (k : ℕ) (d : Block) → k < length xs → unmarked (get_or xs k d) ≡ unmarked (get_or ys k d)
same_at xs ys is k d below =
    let long = same_length xs ys is in
    sym (get_or-map unmarked xs k d (unmarked d) below)
    ∙ (ap (λ (l : List Block). get_or l k (unmarked d)) is ∙ get_or-map unmarked ys k d (unmarked d) (omega (arith, below, long)))

-- THE CODE'S STEPS

abbrev pub with_mark : Block → Block
with_mark b = record b { used = true }

pub mark_is : (bs : List Block) (n : ℕ) (d : Block) → n < length bs → set bs n (with_mark (get_or bs n d)) ≡ mark_at bs n
mark_is [] n d below = absurd (omega (arith, below))
mark_is (b ∷ bs) zero d below = refl
mark_is (b ∷ bs) (suc n) d below = ap (λ (l : List Block). b ∷ l) (mark_is bs n d (omega (arith, below)))

pub mark_past : (bs : List Block) (n : ℕ) → length bs ≤ n → bs ≡ mark_at bs n
mark_past [] n past = refl
mark_past (b ∷ bs) zero past = absurd (omega (arith, past))
mark_past (b ∷ bs) (suc n) past = ap (λ (l : List Block). b ∷ l) (mark_past bs n (omega (arith, past)))

-- a line's fields, one field on

one_field : (t : Bool) (b : ℕ) (bs rest : List ℕ) → (behind_byte 32 bs ≡ Some rest → fields_in bs ≡ until 32 bs ∷ fields_in rest) → (if t then Some bs else behind_byte 32 bs) ≡ Some rest
    → (if t then [] ∷ fields_in bs else byte_before b (fields_in bs)) ≡ (if t then [] else b ∷ until 32 bs) ∷ fields_in rest
one_field true b bs rest more is = let same : bs ≡ rest = cc is in ap (λ (l : List ℕ). [] ∷ fields_in l) same
one_field false b bs rest more is = ap (byte_before b) (more is)

field_more : (text rest : List ℕ) → behind_byte 32 text ≡ Some rest → fields_in text ≡ until 32 text ∷ fields_in rest
unfolding fields_in
field_more [] rest is = cc is
field_more (b ∷ bs) rest is = one_field (b == 32) b bs rest (λ e. field_more bs rest e) is

last_field : (t : Bool) (b : ℕ) (bs : List ℕ) → (behind_byte 32 bs ≡ None → fields_in bs ≡ until 32 bs ∷ []) → (if t then Some bs else behind_byte 32 bs) ≡ None
    → (if t then [] ∷ fields_in bs else byte_before b (fields_in bs)) ≡ (if t then [] else b ∷ until 32 bs) ∷ []
last_field true b bs more is = cc is
last_field false b bs more is = ap (byte_before b) (more is)

field_last : (text : List ℕ) → behind_byte 32 text ≡ None → fields_in text ≡ until 32 text ∷ []
unfolding fields_in
field_last [] is = refl
field_last (b ∷ bs) is = last_field (b == 32) b bs (λ e. field_last bs e) is

pub field_on : (text : List ℕ) (r : Option (Bor (List ℕ))) → MatchOption r (behind_byte 32 text ≡ None) (λ rest. behind_byte 32 text ≡ Some rest.now)
    → fields_in text ≡ until 32 text ∷ fields_left r
field_on text None is = field_last text is
field_on text (Some rest) is = field_more text rest.now is

-- what is left of a line, and one more where something is
abbrev pub left_of : Option (Bor (List ℕ)) → ℕ
left_of None = 0
left_of (Some text) = suc (length text.now)

behind_shorter : (text rest : List ℕ) → behind_byte 32 text ≡ Some rest → length rest < length text
behind_shorter [] rest is = cc is
behind_shorter (b ∷ bs) rest is = by_case (b == 32) (λ e. behind_shorter bs rest e) is
  where
    by_case : (t : Bool) → (behind_byte 32 bs ≡ Some rest → length rest < length bs) → (if t then Some bs else behind_byte 32 bs) ≡ Some rest → length rest < length (b ∷ bs)
    by_case true more is = let same : bs ≡ rest = cc is in omega (arith, ap length same)
    by_case false more is = let less = more is in omega (arith, less)

pub left_less : (text : List ℕ) (r : Option (Bor (List ℕ))) → MatchOption r (behind_byte 32 text ≡ None) (λ rest. behind_byte 32 text ≡ Some rest.now) → left_of r < suc (length text)
left_less text None is = omega arith
left_less text (Some rest) is = let less = behind_shorter text rest.now is in omega (arith, less)

pub left_smaller : (o r : Option (Bor (List ℕ))) (more : Bor (List ℕ)) → o ≡ Some more → MatchOption r (behind_byte 32 more.now ≡ None) (λ rest. behind_byte 32 more.now ≡ Some rest.now)
    → left_of r < left_of o
left_smaller o r more is behind = subst (λ (q : Option (Bor (List ℕ))). left_of r < left_of q) (sym is) (left_less more.now r behind)

pub mark_all_on : (blocks after : List Block) (o r : Option (Bor (List ℕ))) (more : Bor (List ℕ)) (field : List ℕ) (number : ℕ) → o ≡ Some more → field ≡ until 32 more.now
    → number ≡ number_or_zero field → after ≡ mark_at blocks number → MatchOption r (behind_byte 32 more.now ≡ None) (λ rest. behind_byte 32 more.now ≡ Some rest.now)
    → mark_all blocks (fields_left o) ≡ mark_all after (fields_left r)
mark_all_on blocks after o r more field number is first value marked behind =
    let same : after ≡ mark_at blocks (number_or_zero (until 32 more.now)) = marked ∙ ap (mark_at blocks) (value ∙ ap number_or_zero first) in
    ap (λ (q : Option (Bor (List ℕ))). mark_all blocks (fields_left q)) is
    ∙ (ap (mark_all blocks) (field_on more.now r behind) ∙ ap (λ (bs : List Block). mark_all bs (fields_left r)) (sym same))

pub marked_now : (blocks : List Block) (n : ℕ) (d : Block) → n < length blocks → d ≡ get_or blocks n d → set blocks n (with_mark d) ≡ mark_at blocks n
marked_now blocks n d below is = ap (λ (b : Block). set blocks n (with_mark b)) is ∙ mark_is blocks n d below
