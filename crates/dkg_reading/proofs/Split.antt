-- The fields of a line, and the line of some fields.
use Rattle.std.proofs.Common.{◌≡◌, ℕ, ◌==◌, Bool, Bor, true, false, cond, List, [], ◌∷◌, ◌++◌, Option, Some, None, is_some, not, refl, sym, ap, subst, ◌∙◌, append-nil, arith}
use Rattle.std.proofs.lemmas.Bool.{eqb-true, ne_eqb}
use Rattle.dkg_text.specs.Fields.{word_field}
use Rattle.dkg_reading.specs.Lines.{LineFront, front_of, named}
use Rattle.dkg_reading.specs.Spells.{AreFieldTexts, IsFieldText, spaced}
use Rattle.dkg_reading.proofs.Guards.{bind_some, some_is}
use Rattle.dkg_reading.specs.Rows.{byte_before, cut_at_byte, fields_in, fields_left, is_over_of, ◌>>=◌}

-- a line has one field at least
some_field : (text : List ℕ) → (first : List ℕ) × (rest : List (List ℕ)) × (fields_in text ≡ first ∷ rest)
unfolding fields_in
some_field [] = ([], [], refl)
some_field (b ∷ bs) = by_case (b == 32)
  where
    before : (fields : List (List ℕ)) → (first : List ℕ) × (rest : List (List ℕ)) × (byte_before b fields ≡ first ∷ rest)
    before [] = (b ∷ [], [], refl)
    before (f ∷ fs) = (b ∷ f, fs, refl)

    by_case : (t : Bool) → (first : List ℕ) × (rest : List (List ℕ)) × (cond t ([] ∷ fields_in bs) (byte_before b (fields_in bs)) ≡ first ∷ rest)
    by_case true = ([], fields_in bs, refl)
    by_case false = before (fields_in bs)

not_over : (b : Bool) (fields : List (List ℕ)) (first : List ℕ) (rest : List (List ℕ)) → fields ≡ first ∷ rest → true ≡ not b → b ≡ is_over_of fields
not_over true fields first rest is e = cc e
not_over false fields first rest is e = ap is_over_of (sym is)

pub over : (rest : Option (Bor (List ℕ))) (b : Bool) → is_some rest ≡ not b → b ≡ is_over_of (fields_left rest)
over None true e = refl
over None false e = cc e
over (Some text) b e = let some = some_field text.now in not_over b (fields_in text.now) some.0 some.1 some.2 e

-- a byte before the first of two parts
abbrev more_before : ℕ → List ℕ × List ℕ → Option (List ℕ × List ℕ)
more_before b parts = Some (b ∷ parts.0, parts.1)

abbrev IsPair : Option (List ℕ × List ℕ) → List ℕ → List ℕ → Type 0
IsPair o one other = o ≡ Some (one, other)

-- a text up to its first space, and what follows
later_space : (b : ℕ) (bs first rest : List ℕ) (o : Option (List ℕ × List ℕ)) → ((one other : List ℕ) → IsPair o one other → fields_in bs ≡ one ∷ fields_in other) → IsPair (o >>= more_before b) first rest
    → byte_before b (fields_in bs) ≡ first ∷ fields_in rest
later_space b bs first rest None more is = cc is
later_space b bs first rest (Some parts) more is =
    let same = some_is (b ∷ parts.0, parts.1) (first, rest) is in
    let split : fields_in bs ≡ parts.0 ∷ fields_in parts.1 = more parts.0 parts.1 refl in
    ap (byte_before b) split ∙ ap (λ (p : List ℕ × List ℕ). p.0 ∷ fields_in p.1) same

pub at_space : (text first rest : List ℕ) → cut_at_byte 32 text ≡ Some (first, rest) → fields_in text ≡ first ∷ fields_in rest
unfolding cut_at_byte fields_in
at_space [] first rest is = cc is
at_space (b ∷ bs) first rest is = by_case (b == 32) (later_space b bs first rest (cut_at_byte 32 bs) (λ one other e. at_space bs one other e)) is
  where
    by_case : (t : Bool) → (IsPair (cut_at_byte 32 bs >>= more_before b) first rest → byte_before b (fields_in bs) ≡ first ∷ fields_in rest)
        → IsPair (cond t (Some ([], bs)) (cut_at_byte 32 bs >>= more_before b)) first rest → cond t ([] ∷ fields_in bs) (byte_before b (fields_in bs)) ≡ first ∷ fields_in rest
    by_case true more is = ap (λ (p : List ℕ × List ℕ). p.0 ∷ fields_in p.1) (some_is ([], bs) (first, rest) is)
    by_case false more is = more is

later_none : (b : ℕ) (bs : List ℕ) (o : Option (List ℕ × List ℕ)) → (o ≡ None → fields_in bs ≡ bs ∷ []) → (o >>= more_before b) ≡ None → byte_before b (fields_in bs) ≡ (b ∷ bs) ∷ []
later_none b bs None more is = ap (byte_before b) (more refl)
later_none b bs (Some parts) more is = cc is

pub no_space : (text : List ℕ) → cut_at_byte 32 text ≡ None → fields_in text ≡ text ∷ []
unfolding cut_at_byte fields_in
no_space [] is = refl
no_space (b ∷ bs) is = by_case (b == 32) (later_none b bs (cut_at_byte 32 bs) (λ e. no_space bs e)) is
  where
    by_case : (t : Bool) → ((cut_at_byte 32 bs >>= more_before b) ≡ None → byte_before b (fields_in bs) ≡ (b ∷ bs) ∷ [])
        → cond t (Some ([], bs)) (cut_at_byte 32 bs >>= more_before b) ≡ None → cond t ([] ∷ fields_in bs) (byte_before b (fields_in bs)) ≡ (b ∷ bs) ∷ []
    by_case true more is = cc is
    by_case false more is = more is

-- THE LINE OF SOME FIELDS

-- fields, one behind the other, are the line that was split
later_byte : (b : ℕ) (bs name : List ℕ) (fields more : List (List ℕ)) → ((first : List ℕ) (rest : List (List ℕ)) → more ≡ first ∷ rest → bs ≡ first ++ spaced rest) → fields_in bs ≡ more → byte_before b more ≡ name ∷ fields → b ∷ bs ≡ name ++ spaced fields
later_byte b bs name fields [] whole e is = absurd (let some = some_field bs in cc (sym some.2 ∙ e))
later_byte b bs name fields (first ∷ rest) whole e is =
    let one : b ∷ first ≡ name = cc in
    let two : rest ≡ fields = cc in
    ap (λ (t : List ℕ). b ∷ t) (whole first rest refl) ∙ (ap (λ (n : List ℕ). n ++ spaced rest) one ∙ ap (λ (fs : List (List ℕ)). name ++ spaced fs) two)

at_byte : (b : ℕ) (bs name : List ℕ) (fields more : List (List ℕ)) → b ≡ 32 → ((first : List ℕ) (rest : List (List ℕ)) → more ≡ first ∷ rest → bs ≡ first ++ spaced rest) → fields_in bs ≡ more → [] ∷ more ≡ name ∷ fields → b ∷ bs ≡ name ++ spaced fields
at_byte b bs name fields [] space whole e is = absurd (let some = some_field bs in cc (sym some.2 ∙ e))
at_byte b bs name fields (first ∷ rest) space whole e is =
    let one : [] ≡ name = cc in
    let two : first ∷ rest ≡ fields = cc in
    ap (λ (c : ℕ). c ∷ bs) space ∙ (ap (λ (t : List ℕ). 32 ∷ t) (whole first rest refl) ∙ (ap (λ (fs : List (List ℕ)). spaced fs) two ∙ ap (λ (n : List ℕ). n ++ spaced fields) one))

pub rejoined : (line name : List ℕ) (fields : List (List ℕ)) → fields_in line ≡ name ∷ fields → line ≡ name ++ spaced fields
unfolding fields_in
rejoined [] name fields is =
    let one : [] ≡ name = cc in
    let none : [] ≡ fields = cc in
    ap (λ (n : List ℕ). n ++ spaced []) one ∙ ap (λ (fs : List (List ℕ)). name ++ spaced fs) none
rejoined (b ∷ bs) name fields is = by_case (b == 32) refl (λ first rest e. rejoined bs first rest e) is
  where
    by_case : (t : Bool) → (b == 32) ≡ t → ((first : List ℕ) (rest : List (List ℕ)) → fields_in bs ≡ first ∷ rest → bs ≡ first ++ spaced rest) → cond t ([] ∷ fields_in bs) (byte_before b (fields_in bs)) ≡ name ∷ fields → b ∷ bs ≡ name ++ spaced fields
    by_case true e whole is = at_byte b bs name fields (fields_in bs) (eqb-true b 32 e) whole refl is
    by_case false e whole is = later_byte b bs name fields (fields_in bs) whole refl is

one_field : (text : List ℕ) → IsFieldText text → fields_in text ≡ text ∷ []
unfolding fields_in
one_field [] plain = refl
one_field (b ∷ bs) plain = rw (ne_eqb b 32 plain.0.0, one_field bs plain.1) refl

first_field : (text rest : List ℕ) → IsFieldText text → fields_in (text ++ 32 ∷ rest) ≡ text ∷ fields_in rest
unfolding fields_in
first_field [] rest plain = refl
first_field (b ∷ bs) rest plain = rw (ne_eqb b 32 plain.0.0, first_field bs rest plain.1) refl

-- the fields of a line are those that it was made of
pub resplit : (name : List ℕ) (fields : List (List ℕ)) → IsFieldText name → AreFieldTexts fields → fields_in (name ++ spaced fields) ≡ name ∷ fields
resplit name [] plain all = ap fields_in (append-nil name) ∙ one_field name plain
resplit name (f ∷ fs) plain all = first_field name (f ++ spaced fs) plain ∙ ap (λ (r : List (List ℕ)). name ∷ r) (resplit f fs all.0 all.1)

-- LINES OF A TEXT

later_feed : (b : ℕ) (bs line rest : List ℕ) (o : Option (List ℕ × List ℕ)) → ((one other : List ℕ) → IsPair o one other → bs ≡ one ++ 10 ∷ other) → IsPair (o >>= more_before b) line rest → b ∷ bs ≡ line ++ 10 ∷ rest
later_feed b bs line rest None more is = cc is
later_feed b bs line rest (Some parts) more is =
    ap (λ (t : List ℕ). b ∷ t) (more parts.0 parts.1 refl) ∙ ap (λ (p : List ℕ × List ℕ). p.0 ++ 10 ∷ p.1) (some_is (b ∷ parts.0, parts.1) (line, rest) is)

pub cut_found : (text line rest : List ℕ) → cut_at_byte 10 text ≡ Some (line, rest) → text ≡ line ++ 10 ∷ rest
unfolding cut_at_byte
cut_found [] line rest is = cc is
cut_found (b ∷ bs) line rest is = by_case (b == 10) refl (later_feed b bs line rest (cut_at_byte 10 bs) (λ one other e. cut_found bs one other e)) is
  where
    by_case : (t : Bool) → (b == 10) ≡ t → (IsPair (cut_at_byte 10 bs >>= more_before b) line rest → b ∷ bs ≡ line ++ 10 ∷ rest)
        → IsPair (cond t (Some ([], bs)) (cut_at_byte 10 bs >>= more_before b)) line rest → b ∷ bs ≡ line ++ 10 ∷ rest
    by_case true e more is =
        ap (λ (c : ℕ). c ∷ bs) (eqb-true b 10 e) ∙ ap (λ (p : List ℕ × List ℕ). p.0 ++ 10 ∷ p.1) (some_is ([], bs) (line, rest) is)
    by_case false e more is = more is

-- no line feed
abbrev pub HasNoFeed : List ℕ → Type 0
HasNoFeed [] = Unit {0}
HasNoFeed (b ∷ bs) = (b ≡ 10 → ⊥) × HasNoFeed bs

field_has_no_feed : (text : List ℕ) → IsFieldText text → HasNoFeed text
field_has_no_feed [] plain = tt
field_has_no_feed (b ∷ bs) plain = (plain.0.1, field_has_no_feed bs plain.1)

both_no_feed : (one other : List ℕ) → HasNoFeed one → HasNoFeed other → HasNoFeed (one ++ other)
both_no_feed [] other p q = q
both_no_feed (b ∷ bs) other p q = (p.0, both_no_feed bs other p.1 q)

spaced_no_feed : (fields : List (List ℕ)) → AreFieldTexts fields → HasNoFeed (spaced fields)
spaced_no_feed [] all = tt
spaced_no_feed (f ∷ fs) all = both_no_feed (word_field f) (spaced fs) ((λ e. omega (arith, e)), field_has_no_feed f all.0) (spaced_no_feed fs all.1)

cut_again : (line rest : List ℕ) → HasNoFeed line → cut_at_byte 10 (line ++ 10 ∷ rest) ≡ Some (line, rest)
unfolding cut_at_byte
cut_again [] rest none = refl
cut_again (b ∷ bs) rest none = rw (ne_eqb b 10 none.0, cut_again bs rest none.1) refl

pub front_found : (text : List ℕ) (line : LineFront) → front_of text ≡ Some line → text ≡ (line.0 ++ spaced line.1.0) ++ 10 ∷ line.1.1
unfolding front_of
front_found text line is =
    let c = bind_some (cut_at_byte 10 text) (λ parts. named (fields_in parts.0) parts.1) line is in
    let whole = cut_found text c.0.0 c.0.1 c.1 in
    by_case (fields_in c.0.0) c.0.0 c.0.1 refl whole c.2
  where
    by_case : (fields : List (List ℕ)) (one behind : List ℕ) → fields_in one ≡ fields → text ≡ one ++ 10 ∷ behind → named fields behind ≡ Some line → text ≡ (line.0 ++ spaced line.1.0) ++ 10 ∷ line.1.1
    by_case [] one behind e whole is = cc is
    by_case (name ∷ fields) one behind e whole is =
        let same : one ≡ name ++ spaced fields = rejoined one name fields e in
        let there : text ≡ (name ++ spaced fields) ++ 10 ∷ behind = whole ∙ ap (λ (t : List ℕ). t ++ 10 ∷ behind) same in
        subst (λ (l : LineFront). text ≡ (l.0 ++ spaced l.1.0) ++ 10 ∷ l.1.1) (some_is (name, (fields, behind)) line is) there

pub front_again : (name : List ℕ) (fields : List (List ℕ)) (rest : List ℕ) → IsFieldText name → AreFieldTexts fields → front_of ((name ++ spaced fields) ++ 10 ∷ rest) ≡ Some (name, (fields, rest))
unfolding front_of
front_again name fields rest plain all =
    let cut = cut_again (name ++ spaced fields) rest (both_no_feed name (spaced fields) (field_has_no_feed name plain) (spaced_no_feed fields all)) in
    rw (cut, resplit name fields plain all) refl
