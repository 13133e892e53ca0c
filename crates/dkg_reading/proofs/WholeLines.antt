-- Every reading goes over whole lines, and looks no further than the line in front of what it leaves.
use Rattle.std.proofs.Common.{◌≡◌, ℕ, zero, suc, ◌<◌, ◌==◌, Bool, true, false, List, [], ◌∷◌, ◌++◌, length, Option, Some, None, Result, Ok, Err, refl, sym, ap, subst, ◌∙◌, ◌⊎◌, inl, inr, append_assoc, length-append, arith}
use Rattle.std.specs.Prelude.{if◌then◌else◌}
use Rattle.std.specs.Option.{option_map_or}
use Rattle.std.specs.Str.{bytes_eq}
use Rattle.std.proofs.lemmas.Bool.{cases_Bool, eq-eqb}
use Rattle.dkg_reading.specs.Lines.{TextReading, allowed, begins, front_of, many_lines_at, many_from, named, ◌>=>◌}
use Rattle.dkg_reading.specs.Rows.{cut_at_byte, fields_in, ◌>>=◌}
use Rattle.dkg_reading.proofs.Guards.{allowed_ok, bind_ok, ok_is, some_is}
use Rattle.dkg_reading.proofs.Split.{cut_found}

-- WHOLE LINES

-- nothing, or lines that are ended
abbrev pub Ends : List ℕ → Type 0
Ends [] = Unit {0}
Ends (b ∷ []) = b ≡ 10
Ends (b ∷ c ∷ bs) = Ends (c ∷ bs)

pub ends_both : (one other : List ℕ) → Ends one → Ends other → Ends (one ++ other)
ends_both [] other p q = q
ends_both (b ∷ []) [] p q = p
ends_both (b ∷ []) (c ∷ cs) p q = q
ends_both (b ∷ c ∷ bs) other p q = ends_both (c ∷ bs) other p q

pub ends_line : (line : List ℕ) → Ends (line ++ 10 ∷ [])
ends_line [] = refl
ends_line (b ∷ []) = refl
ends_line (b ∷ c ∷ bs) = ends_line (c ∷ bs)

pub last_feed : (front : List ℕ) → Ends front → (front ≡ []) ⊎ ((lines : List ℕ) × (front ≡ lines ++ 10 ∷ []))
last_feed [] p = inl refl
last_feed (b ∷ []) p = inr ([], ap (λ (x : ℕ). x ∷ []) p)
last_feed (b ∷ c ∷ bs) p = elim (last_feed (c ∷ bs) p) [ inl none ↦ absurd cc | inr some ↦ inr (b ∷ some.0, ap (λ (xs : List ℕ). b ∷ xs) some.1) ]

-- TEXTS THAT BEGIN WITH ONE LINE

pub record Alike (one other : List ℕ) : Type 0 where
  pub line : List ℕ
  pub behind : List ℕ
  pub others : List ℕ
  pub one_is : cut_at_byte 10 one ≡ Some (line, behind)
  pub other_is : cut_at_byte 10 other ≡ Some (line, others)

pub alike_feed : (b : ℕ) (one other : List ℕ) → b ≡ 10 → Alike (b ∷ one) (b ∷ other)
unfolding cut_at_byte
alike_feed b one other e =
    let is : (b == 10) ≡ true = eq-eqb b 10 e in
    record { line = []; behind = one; others = other; one_is = rw is refl; other_is = rw is refl }

pub alike_more : (b : ℕ) (one other : List ℕ) → Alike one other → Alike (b ∷ one) (b ∷ other)
unfolding cut_at_byte
alike_more b one other a =
    elim (cases_Bool (b == 10)) [
      | inl is ↦ record { line = []; behind = one; others = other; one_is = rw is refl; other_is = rw is refl }
      | inr off ↦
          let one_is = a.one_is in
          let other_is = a.other_is in
          record { line = b ∷ a.line; behind = a.behind; others = a.others; one_is = rw (off, one_is) refl; other_is = rw (off, other_is) refl }
    ]

pub alike_front : (front one other : List ℕ) → Ends front → Alike one other → Alike (front ++ one) (front ++ other)
alike_front [] one other p a = a
alike_front (b ∷ []) one other p a = alike_feed b one other p
alike_front (b ∷ c ∷ bs) one other p a = alike_more b ((c ∷ bs) ++ one) ((c ∷ bs) ++ other) (alike_front (c ∷ bs) one other p a)

-- parts with a byte more in front
abbrev with_byte : ℕ → Option (List ℕ × List ℕ) → Option (List ℕ × List ℕ)
with_byte b o = o >>= λ parts. Some (b ∷ parts.0, parts.1)

-- a line's end is found again, whatever follows
found_deeper : (b : ℕ) (bs line behind others : List ℕ) → (b == 10) ≡ false → ((l after : List ℕ) → cut_at_byte 10 bs ≡ Some (l, after) → cut_at_byte 10 (l ++ 10 ∷ others) ≡ Some (l, others))
    → (o : Option (List ℕ × List ℕ)) → cut_at_byte 10 bs ≡ o → with_byte b o ≡ Some (line, behind) → cut_at_byte 10 (line ++ 10 ∷ others) ≡ Some (line, others)
unfolding cut_at_byte
found_deeper b bs line behind others off again None is e = absurd cc
found_deeper b bs line behind others off again (Some parts) is e =
    let same : b ∷ parts.0 ≡ line = ap (λ (p : List ℕ × List ℕ). p.0) (some_is (b ∷ parts.0, parts.1) (line, behind) e) in
    let inner = again parts.0 parts.1 is in
    subst (λ (l : List ℕ). cut_at_byte 10 (l ++ 10 ∷ others) ≡ Some (l, others)) same (rw (off, inner) refl)

cut_again : (text line behind : List ℕ) → cut_at_byte 10 text ≡ Some (line, behind) → (others : List ℕ) → cut_at_byte 10 (line ++ 10 ∷ others) ≡ Some (line, others)
unfolding cut_at_byte
cut_again [] line behind e others = absurd cc
cut_again (b ∷ bs) line behind e others =
    elim (cases_Bool (b == 10)) [
      | inl is ↦
          let found : Some ([], bs) ≡ Some (line, behind) = rw is at e in
          let empty : [] ≡ line = ap (λ (p : List ℕ × List ℕ). p.0) (some_is ([], bs) (line, behind) found) in
          subst (λ (l : List ℕ). cut_at_byte 10 (l ++ 10 ∷ others) ≡ Some (l, others)) empty refl
      | inr off ↦
          let found : with_byte b (cut_at_byte 10 bs) ≡ Some (line, behind) = rw off at e in
          found_deeper b bs line behind others off (λ l after is. cut_again bs l after is others) (cut_at_byte 10 bs) refl found
    ]

-- what is refused, and how much was left
refused_none : {A : Type 0} (text : List ℕ) (o : Option A) (left : ℕ) → allowed text o ≡ Err left → o ≡ None
refused_none text None left e = refl
refused_none text (Some x) left e = absurd cc

pub refused_at : {A : Type 0} (text : List ℕ) (o : Option A) (left : ℕ) → allowed text o ≡ Err left → length text ≡ left
refused_at text None left e = cc
refused_at text (Some x) left e = absurd cc

-- READINGS

-- A reading went over whole lines, and does so with any text that goes on alike.
pub record Went {A : Type 0} (read : List ℕ → TextReading A) (text : List ℕ) (x : A) (rest : List ℕ) : Type 0 where
  pub front : List ℕ
  pub ends : Ends front
  pub is : text ≡ front ++ rest
  pub again : (other : List ℕ) → Alike rest other → read (front ++ other) ≡ Ok (x, other)

-- It stopped at the begin of a line, and does so with any text that goes on with that line.
pub record Stopped {A : Type 0} (read : List ℕ → Result A ℕ) (text : List ℕ) (left : ℕ) : Type 0 where
  pub front : List ℕ
  pub rest : List ℕ
  pub ends : Ends front
  pub is : text ≡ front ++ rest
  pub size : length rest ≡ left
  pub again : (other : List ℕ) → Alike rest other → read (front ++ other) ≡ Err (length other)

abbrev pub Stops : {A : Type 0} → (List ℕ → Result A ℕ) → Type 0
Stops read = (text : List ℕ) (left : ℕ) → read text ≡ Err left → Stopped read text left

pub record IsLined {A : Type 0} (read : List ℕ → TextReading A) : Type 0 where
  pub went : (text : List ℕ) (x : A) (rest : List ℕ) → read text ≡ Ok (x, rest) → Went read text x rest
  pub stopped : Stops read

-- nothing is read
pub lined_done : {A : Type 0} (x : A) → IsLined (λ text. Ok (x, text))
lined_done {A} x = record {
  went = λ text y rest e.
      let same = ok_is (x, text) (y, rest) e in
      let value : x ≡ y = ap (λ (p : A × List ℕ). p.0) same in
      record { front = []; ends = tt; is = ap (λ (p : A × List ℕ). p.1) same; again = λ other a. ap (λ (v : A). Ok (v, other)) value };
  stopped = λ text left e. absurd cc;
}

-- the line in front isn't allowed
pub lined_refused : {A : Type 0} → IsLined {A = A} (λ text. Err (length text))
lined_refused {A} = record {
  went = λ text x rest e. absurd cc;
  stopped = λ text left e. record {
    front = [];
    rest = text;
    ends = tt;
    is = refl;
    size = err_is {A = A × List ℕ} (length text) left e;
    again = λ other a. refl;
  };
}
  where
    err_is : {A : Type 0} (one other : ℕ) → ◌≡◌ {A = Result A ℕ} (Err one) (Err other) → one ≡ other
    err_is one other e = cc

-- ONE AFTER THE OTHER

pub bind_err : {A B : Type 0} (r : Result A ℕ) (f : A → Result B ℕ) (left : ℕ) → (r >=> f) ≡ Err left → (r ≡ Err left) ⊎ ((x : A) × (r ≡ Ok x) × (f x ≡ Err left))
bind_err (Ok x) f left e = inr (x, refl, e)
bind_err {A} (Err n) f left e = inl (let same : n ≡ left = cc in ap (λ (m : ℕ). let r : Result A ℕ = Err m in r) same)

bind_of : {A B : Type 0} (r : Result A ℕ) (f : A → Result B ℕ) (x : A) (y : Result B ℕ) → r ≡ Ok x → f x ≡ y → (r >=> f) ≡ y
bind_of {A} r f x y is then_is = ap (λ (q : Result A ℕ). q >=> f) is ∙ then_is

stopped_first : {A B : Type 0} (one : List ℕ → TextReading A) (two : A × List ℕ → Result B ℕ) (text : List ℕ) (left : ℕ) → Stopped one text left → Stopped (λ t. one t >=> two) text left
stopped_first {A} {B} one two text left s = record {
  front = s.front;
  rest = s.rest;
  ends = s.ends;
  is = s.is;
  size = s.size;
  again = λ other a. ap (λ (r : TextReading A). r >=> two) (s.again other a);
}

stopped_second : {A B : Type 0} (one : List ℕ → TextReading A) (two : A × List ℕ → Result B ℕ) (text : List ℕ) (x : A) (rest : List ℕ) (left : ℕ) → Went one text x rest → Stopped (λ t. two (x, t)) rest left → Stopped (λ t. one t >=> two) text left
stopped_second {A} {B} one two text x rest left w s = record {
  front = w.front ++ s.front;
  rest = s.rest;
  ends = ends_both w.front s.front w.ends s.ends;
  is = w.is ∙ ap (λ (r : List ℕ). w.front ++ r) s.is ∙ sym (append_assoc w.front s.front s.rest);
  size = s.size;
  again = λ other a.
      let on : Alike rest (s.front ++ other) = subst (λ (r : List ℕ). Alike r (s.front ++ other)) (sym s.is) (alike_front s.front s.rest other s.ends a) in
      ap (λ (t : List ℕ). one t >=> two) (append_assoc w.front s.front other)
      ∙ bind_of (one (w.front ++ (s.front ++ other))) two (x, s.front ++ other) (Err (length other)) (w.again (s.front ++ other) on) (s.again other a);
}

pub stops_then : {A B : Type 0} (one : List ℕ → TextReading A) (two : A × List ℕ → Result B ℕ) → IsLined one → ((x : A) → Stops (λ t. two (x, t))) → Stops (λ t. one t >=> two)
stops_then one two first second text left e =
    elim (bind_err (one text) two left e) [
      | inl stopped ↦ stopped_first one two text left (first.stopped text left stopped)
      | inr more ↦ stopped_second one two text more.0.0 more.0.1 left (first.went text more.0.0 more.0.1 more.1) (second more.0.0 more.0.1 left more.2)
    ]

went_both : {A B : Type 0} (one : List ℕ → TextReading A) (two : A × List ℕ → TextReading B) (text : List ℕ) (x : A) (middle : List ℕ) (y : B) (rest : List ℕ) → Went one text x middle → Went (λ t. two (x, t)) middle y rest → Went (λ t. one t >=> two) text y rest
went_both {A} {B} one two text x middle y rest w v = record {
  front = w.front ++ v.front;
  ends = ends_both w.front v.front w.ends v.ends;
  is = w.is ∙ ap (λ (r : List ℕ). w.front ++ r) v.is ∙ sym (append_assoc w.front v.front rest);
  again = λ other a.
      let on : Alike middle (v.front ++ other) = subst (λ (r : List ℕ). Alike r (v.front ++ other)) (sym v.is) (alike_front v.front rest other v.ends a) in
      ap (λ (t : List ℕ). one t >=> two) (append_assoc w.front v.front other)
      ∙ bind_of (one (w.front ++ (v.front ++ other))) two (x, v.front ++ other) (Ok (y, other)) (w.again (v.front ++ other) on) (v.again other a);
}

pub lined_then : {A B : Type 0} (one : List ℕ → TextReading A) (two : A × List ℕ → TextReading B) → IsLined one → ((x : A) → IsLined (λ t. two (x, t))) → IsLined (λ t. one t >=> two)
lined_then one two first second = record {
  went = λ text y rest e.
      let more = bind_ok (one text) two (y, rest) e in
      went_both one two text more.0.0 more.0.1 y rest (first.went text more.0.0 more.0.1 more.1) ((second more.0.0).went more.0.1 y rest more.2);
  stopped = stops_then one two first (λ x. (second x).stopped);
}

-- BY THE NAME OF THE LINE IN FRONT

-- a test that sees no more than the line in front
abbrev pub IsOfFront : (List ℕ → Bool) → Type 0
IsOfFront test = (one other : List ℕ) → Alike one other → test one ≡ test other

same_name : (name line behind others : List ℕ) (fields : List (List ℕ)) → option_map_or (λ l. bytes_eq l.0 name) (named fields behind) false ≡ option_map_or (λ l. bytes_eq l.0 name) (named fields others) false
same_name name line behind others [] = refl
same_name name line behind others (n ∷ ns) = refl

pub begins_of_front : (name : List ℕ) → IsOfFront (begins name)
unfolding begins front_of
begins_of_front name one other a =
    let one_is = a.one_is in
    let other_is = a.other_is in
    rw (one_is, other_is) (same_name name a.line a.behind a.others (fields_in a.line))

-- the same test of a text that goes on alike
along : (test : List ℕ → Bool) → IsOfFront test → (text front rest other : List ℕ) → Ends front → text ≡ front ++ rest → Alike rest other → test text ≡ test (front ++ other)
along test law text front rest other ends is a = ap test is ∙ law (front ++ rest) (front ++ other) (alike_front front rest other ends a)

pub lined_if : {A : Type 0} (test : List ℕ → Bool) (then_read else_read : List ℕ → TextReading A) → IsOfFront test → IsLined then_read → IsLined else_read → IsLined (λ t. if test t then then_read t else else_read t)
lined_if {A} test then_read else_read law is_yes is_no = record {
  went = λ text x rest e.
      elim (cases_Bool (test text)) [
        | inl is ↦
            let w = is_yes.went text x rest (rw is at e) in
            record { front = w.front; ends = w.ends; is = w.is; again = λ other a. let there : test (w.front ++ other) ≡ true = sym (along test law text w.front rest other w.ends w.is a) ∙ is in rw there (w.again other a) }
        | inr is ↦
            let w = is_no.went text x rest (rw is at e) in
            record { front = w.front; ends = w.ends; is = w.is; again = λ other a. let there : test (w.front ++ other) ≡ false = sym (along test law text w.front rest other w.ends w.is a) ∙ is in rw there (w.again other a) }
      ];
  stopped = λ text left e.
      elim (cases_Bool (test text)) [
        | inl is ↦
            let s = is_yes.stopped text left (rw is at e) in
            record { front = s.front; rest = s.rest; ends = s.ends; is = s.is; size = s.size; again = λ other a. let there : test (s.front ++ other) ≡ true = sym (along test law text s.front s.rest other s.ends s.is a) ∙ is in rw there (s.again other a) }
        | inr is ↦
            let s = is_no.stopped text left (rw is at e) in
            record { front = s.front; rest = s.rest; ends = s.ends; is = s.is; size = s.size; again = λ other a. let there : test (s.front ++ other) ≡ false = sym (along test law text s.front s.rest other s.ends s.is a) ∙ is in rw there (s.again other a) }
      ];
}

-- A LINE

-- what a line's name and other fields make
abbrev pub by_front : {A : Type 0} → (List ℕ → List (List ℕ) → Option A) → List ℕ → TextReading A
by_front make text = allowed text (front_of text >>= λ line. make line.0 line.1.0 >>= λ x. Some (x, line.1.1))

abbrev tried : {A : Type 0} → (List ℕ → List (List ℕ) → Option A) → List (List ℕ) → List ℕ → Option (A × List ℕ)
tried make fields behind = named fields behind >>= λ line. make line.0 line.1.0 >>= λ x. Some (x, line.1.1)

-- what was made, and what is left
abbrev pub beside_rest : {A : Type 0} → Option A → List ℕ → Option (A × List ℕ)
beside_rest o rest = o >>= λ x. Some (x, rest)

none_made : {A : Type 0} (o : Option A) (behind others : List ℕ) → beside_rest o behind ≡ None → beside_rest o others ≡ None
none_made None behind others e = refl
none_made (Some x) behind others e = absurd cc

not_tried : {A : Type 0} (make : List ℕ → List (List ℕ) → Option A) (fields : List (List ℕ)) (behind others : List ℕ) → tried make fields behind ≡ None → tried make fields others ≡ None
not_tried make [] behind others e = refl
not_tried make (name ∷ fields) behind others e = none_made (make name fields) behind others e

some_made : {A : Type 0} (o : Option A) (behind : List ℕ) (x : A) (rest : List ℕ) → beside_rest o behind ≡ Some (x, rest) → (behind ≡ rest) × ((others : List ℕ) → beside_rest o others ≡ Some (x, others))
some_made None behind x rest e = absurd cc
some_made {A} (Some y) behind x rest e =
    let same = some_is (y, behind) (x, rest) e in
    let value : y ≡ x = ap (λ (p : A × List ℕ). p.0) same in
    (ap (λ (p : A × List ℕ). p.1) same, λ others. ap (λ (v : A). Some (v, others)) value)

was_tried : {A : Type 0} (make : List ℕ → List (List ℕ) → Option A) (fields : List (List ℕ)) (behind : List ℕ) (x : A) (rest : List ℕ) → tried make fields behind ≡ Some (x, rest)
    → (behind ≡ rest) × ((others : List ℕ) → tried make fields others ≡ Some (x, others))
was_tried make [] behind x rest e = absurd cc
was_tried make (name ∷ fields) behind x rest e = some_made (make name fields) behind x rest e

-- the line in front by the cut behind it
by_cut : {A : Type 0} (make : List ℕ → List (List ℕ) → Option A) (c : Option (List ℕ × List ℕ))
    → ((c >>= λ parts. named (fields_in parts.0) parts.1) >>= λ line. beside_rest (make line.0 line.1.0) line.1.1) ≡ (c >>= λ parts. tried make (fields_in parts.0) parts.1)
by_cut make None = refl
by_cut make (Some parts) = refl

front_is : {A : Type 0} (make : List ℕ → List (List ℕ) → Option A) (text : List ℕ) → by_front make text ≡ allowed text (cut_at_byte 10 text >>= λ parts. tried make (fields_in parts.0) parts.1)
unfolding front_of
front_is make text = ap (allowed text) (by_cut make (cut_at_byte 10 text))

front_went : {A : Type 0} (make : List ℕ → List (List ℕ) → Option A) (text : List ℕ) (x : A) (rest : List ℕ) (c : Option (List ℕ × List ℕ)) → cut_at_byte 10 text ≡ c → allowed text (c >>= λ parts. tried make (fields_in parts.0) parts.1) ≡ Ok (x, rest)
    → Went (by_front make) text x rest
unfolding front_of
front_went make text x rest None is e = absurd cc
front_went {A} make text x rest (Some parts) is e =
    let t = was_tried make (fields_in parts.0) parts.1 x rest (allowed_ok text (tried make (fields_in parts.0) parts.1) (x, rest) e) in
    record {
      front = parts.0 ++ 10 ∷ [];
      ends = ends_line parts.0;
      is = cut_found text parts.0 parts.1 is ∙ ap (λ (r : List ℕ). parts.0 ++ 10 ∷ r) t.0 ∙ sym (append_assoc parts.0 (10 ∷ []) rest);
      again = λ other a.
          let cut : cut_at_byte 10 ((parts.0 ++ 10 ∷ []) ++ other) ≡ Some (parts.0, other) = ap (cut_at_byte 10) (append_assoc parts.0 (10 ∷ []) other) ∙ cut_again text parts.0 parts.1 is other in
          let made = t.1 other in
          rw (cut, made) refl;
    }

front_stopped : {A : Type 0} (make : List ℕ → List (List ℕ) → Option A) (text : List ℕ) (left : ℕ) (c : Option (List ℕ × List ℕ)) → cut_at_byte 10 text ≡ c → allowed text (c >>= λ parts. tried make (fields_in parts.0) parts.1) ≡ Err left → Stopped (by_front make) text left
unfolding front_of
front_stopped {A} make text left None is e = record {
  front = [];
  rest = text;
  ends = tt;
  is = refl;
  size = refused_at text None left e;
  again = λ other a. absurd (let one_is = a.one_is in let none : None ≡ Some (a.line, a.behind) = sym is ∙ one_is in cc);
}
front_stopped {A} make text left (Some parts) is e =
    record {
      front = [];
      rest = text;
      ends = tt;
      is = refl;
      size = refused_at text (tried make (fields_in parts.0) parts.1) left e;
      again = λ other a.
          let other_is = a.other_is in
          let line : parts.0 ≡ a.line = ap (λ (p : List ℕ × List ℕ). p.0) (some_is parts (a.line, a.behind) (sym is ∙ a.one_is)) in
          let none : tried make (fields_in parts.0) a.others ≡ None = not_tried make (fields_in parts.0) parts.1 a.others (refused_none text (tried make (fields_in parts.0) parts.1) left e) in
          let there : tried make (fields_in a.line) a.others ≡ None = subst (λ (l : List ℕ). tried make (fields_in l) a.others ≡ None) line none in
          rw (other_is, there) refl;
    }

pub lined_front : {A : Type 0} (make : List ℕ → List (List ℕ) → Option A) → IsLined (by_front make)
lined_front make = record {
  went = λ text x rest e. front_went make text x rest (cut_at_byte 10 text) refl (sym (front_is make text) ∙ e);
  stopped = λ text left e. front_stopped make text left (cut_at_byte 10 text) refl (sym (front_is make text) ∙ e);
}

-- a reading that equals another
pub lined_as : {A : Type 0} (one other : List ℕ → TextReading A) → ((text : List ℕ) → one text ≡ other text) → IsLined one → IsLined other
lined_as one other same law = record {
  went = λ text x rest e. let w = law.went text x rest (same text ∙ e) in record { front = w.front; ends = w.ends; is = w.is; again = λ more a. sym (same (w.front ++ more)) ∙ w.again more a };
  stopped = λ text left e. let s = law.stopped text left (same text ∙ e) in record { front = s.front; rest = s.rest; ends = s.ends; is = s.is; size = s.size; again = λ more a. sym (same (s.front ++ more)) ∙ s.again more a };
}

-- LINES ONE AFTER ANOTHER

-- a reading takes a byte at least
abbrev pub Moves : {A : Type 0} → (List ℕ → TextReading A) → Type 0
Moves {A} read = (text : List ℕ) (x : A) (rest : List ℕ) → read text ≡ Ok (x, rest) → length rest < length text

-- .. as one of a line does
cut_moves : {A : Type 0} (make : List ℕ → List (List ℕ) → Option A) (text : List ℕ) (x : A) (rest : List ℕ) (c : Option (List ℕ × List ℕ)) → cut_at_byte 10 text ≡ c → allowed text (c >>= λ parts. tried make (fields_in parts.0) parts.1) ≡ Ok (x, rest) → length rest < length text
cut_moves make text x rest None is e = absurd cc
cut_moves make text x rest (Some parts) is e =
    let t = was_tried make (fields_in parts.0) parts.1 x rest (allowed_ok text (tried make (fields_in parts.0) parts.1) (x, rest) e) in
    omega (arith, ap length (cut_found text parts.0 parts.1 is), length-append parts.0 (10 ∷ parts.1), ap length t.0)

pub moves_front : {A : Type 0} (make : List ℕ → List (List ℕ) → Option A) → Moves (by_front make)
moves_front make text x rest e = cut_moves make text x rest (cut_at_byte 10 text) refl (sym (front_is make text) ∙ e)

pub moves_as : {A : Type 0} (one other : List ℕ → TextReading A) → ((text : List ℕ) → one text ≡ other text) → Moves one → Moves other
moves_as one other same moves text x rest e = moves text x rest (same text ∙ e)

-- .. and then what goes over whole lines
pub moves_then : {A B : Type 0} (one : List ℕ → TextReading A) (two : A × List ℕ → TextReading B) → Moves one → ((x : A) → IsLined (λ t. two (x, t))) → Moves (λ t. one t >=> two)
moves_then one two moves second text y rest e =
    let m = bind_ok (one text) two (y, rest) e in
    let w = (second m.0.0).went m.0.1 y rest m.2 in
    omega (arith, moves text m.0.0 m.0.1 m.1, ap length w.is, length-append w.front rest)

module _ {A : Type 0} (goes_on : List ℕ → Bool) (read : List A → List ℕ → TextReading A) (law : IsOfFront goes_on) (lined : (done : List A) → IsLined (read done)) (moves : (done : List A) → Moves (read done)) where
  pub record WentMany (done : List A) (text : List ℕ) (xs : List A) (rest : List ℕ) : Type 0 where
    pub front : List ℕ
    pub ends : Ends front
    pub is : text ≡ front ++ rest
    pub again : (other : List ℕ) → Alike rest other → (most : ℕ) → length (front ++ other) < most → many_from goes_on read most done (front ++ other) ≡ Ok (xs, other)

  pub record StoppedMany (done : List A) (text : List ℕ) (left : ℕ) : Type 0 where
    pub front : List ℕ
    pub rest : List ℕ
    pub ends : Ends front
    pub is : text ≡ front ++ rest
    pub size : length rest ≡ left
    pub again : (other : List ℕ) → Alike rest other → (most : ℕ) → length (front ++ other) < most → many_from goes_on read most done (front ++ other) ≡ Err (length other)

  -- one more, and then the others
  goes_further : (done : List A) (text : List ℕ) (x : A) (behind : List ℕ) (answer : TextReading (List A)) (most : ℕ) → length text < most → length behind < length text → goes_on text ≡ true → read done text ≡ Ok (x, behind)
      → ((m : ℕ) → length behind < m → many_from goes_on read m (done ++ x ∷ []) behind ≡ answer) → many_from goes_on read most done text ≡ answer
  unfolding many_from
  goes_further done text x behind answer zero few shorter on is more = absurd (omega arith)
  goes_further done text x behind answer (suc m) few shorter on is more = rw (on, is) (more m (omega arith))

  ends_here : (done : List A) (text : List ℕ) (most : ℕ) → length text < most → goes_on text ≡ false → many_from goes_on read most done text ≡ Ok (done, text)
  unfolding many_from
  ends_here done text zero few off = absurd (omega arith)
  ends_here done text (suc m) few off = rw off refl

  stops_here : (done : List A) (text : List ℕ) (left : ℕ) (most : ℕ) → length text < most → goes_on text ≡ true → read done text ≡ Err left → many_from goes_on read most done text ≡ Err left
  unfolding many_from
  stops_here done text left zero few on is = absurd (omega arith)
  stops_here done text left (suc m) few on is = rw (on, is) refl

  longer : (front behind text other : List ℕ) → text ≡ front ++ behind → length behind < length text → length other < length (front ++ other)
  longer front behind text other is shorter = omega (arith, ap length is, length-append front behind, length-append front other)

  many_went : (most : ℕ) (done : List A) (text : List ℕ) (xs : List A) (rest : List ℕ) → length text < most → many_from goes_on read most done text ≡ Ok (xs, rest) → WentMany done text xs rest
  unfolding many_from
  many_went zero done text xs rest few e = absurd (omega arith)
  many_went (suc most) done text xs rest few e =
      elim (cases_Bool (goes_on text)) [
        | inl on ↦
            let m = bind_ok (read done text) (λ x. many_from goes_on read most (done ++ x.0 ∷ []) x.1) (xs, rest) (rw on at e) in
            let shorter = moves done text m.0.0 m.0.1 m.1 in
            let w = (lined done).went text m.0.0 m.0.1 m.1 in
            let v = many_went most (done ++ m.0.0 ∷ []) m.0.1 xs rest (omega arith) m.2 in
            record {
              front = w.front ++ v.front;
              ends = ends_both w.front v.front w.ends v.ends;
              is = w.is ∙ ap (λ (r : List ℕ). w.front ++ r) v.is ∙ sym (append_assoc w.front v.front rest);
              again = λ other a size lt.
                  let both : (w.front ++ v.front) ++ other ≡ w.front ++ (v.front ++ other) = append_assoc w.front v.front other in
                  let alike : Alike m.0.1 (v.front ++ other) = subst (λ (r : List ℕ). Alike r (v.front ++ other)) (sym v.is) (alike_front v.front rest other v.ends a) in
                  let there : goes_on (w.front ++ (v.front ++ other)) ≡ true = sym (along goes_on law text w.front m.0.1 (v.front ++ other) w.ends w.is alike) ∙ on in
                  let made = goes_further done (w.front ++ (v.front ++ other)) m.0.0 (v.front ++ other) (Ok (xs, other)) size (subst (λ (t : List ℕ). length t < size) both lt)
                  (longer w.front m.0.1 text (v.front ++ other) w.is shorter) there (w.again (v.front ++ other) alike) (v.again other a) in
                  ap (many_from goes_on read size done) both ∙ made;
            }
        | inr off ↦
            let same = ok_is (done, text) (xs, rest) (rw off at e) in
            let all : done ≡ xs = ap (λ (p : List A × List ℕ). p.0) same in
            record {
              front = [];
              ends = tt;
              is = ap (λ (p : List A × List ℕ). p.1) same;
              again = λ other a size lt.
                  let alike : Alike text other = subst (λ (r : List ℕ). Alike r other) (sym (ap (λ (p : List A × List ℕ). p.1) same)) a in
                  let there : goes_on other ≡ false = sym (law text other alike) ∙ off in
                  ends_here done other size lt there ∙ ap (λ (ys : List A). Ok (ys, other)) all;
            }
      ]

  many_stopped : (most : ℕ) (done : List A) (text : List ℕ) (left : ℕ) → length text < most → many_from goes_on read most done text ≡ Err left → StoppedMany done text left
  unfolding many_from
  many_stopped zero done text left few e = absurd (omega arith)
  many_stopped (suc most) done text left few e =
      elim (cases_Bool (goes_on text)) [
        | inl on ↦
            elim (bind_err (read done text) (λ x. many_from goes_on read most (done ++ x.0 ∷ []) x.1) left (rw on at e)) [
              | inl stopped ↦
                  let s = (lined done).stopped text left stopped in
                  record {
                    front = s.front;
                    rest = s.rest;
                    ends = s.ends;
                    is = s.is;
                    size = s.size;
                    again = λ other a size lt.
                        let there : goes_on (s.front ++ other) ≡ true = sym (along goes_on law text s.front s.rest other s.ends s.is a) ∙ on in
                        stops_here done (s.front ++ other) (length other) size lt there (s.again other a);
                  }
              | inr m ↦
                  let shorter = moves done text m.0.0 m.0.1 m.1 in
                  let w = (lined done).went text m.0.0 m.0.1 m.1 in
                  let s = many_stopped most (done ++ m.0.0 ∷ []) m.0.1 left (omega arith) m.2 in
                  record {
                    front = w.front ++ s.front;
                    rest = s.rest;
                    ends = ends_both w.front s.front w.ends s.ends;
                    is = w.is ∙ ap (λ (r : List ℕ). w.front ++ r) s.is ∙ sym (append_assoc w.front s.front s.rest);
                    size = s.size;
                    again = λ other a size lt.
                        let both : (w.front ++ s.front) ++ other ≡ w.front ++ (s.front ++ other) = append_assoc w.front s.front other in
                        let alike : Alike m.0.1 (s.front ++ other) = subst (λ (r : List ℕ). Alike r (s.front ++ other)) (sym s.is) (alike_front s.front s.rest other s.ends a) in
                        let there : goes_on (w.front ++ (s.front ++ other)) ≡ true = sym (along goes_on law text w.front m.0.1 (s.front ++ other) w.ends w.is alike) ∙ on in
                        let made = goes_further done (w.front ++ (s.front ++ other)) m.0.0 (s.front ++ other) (Err (length other)) size (subst (λ (t : List ℕ). length t < size) both lt)
                        (longer w.front m.0.1 text (s.front ++ other) w.is shorter) there (w.again (s.front ++ other) alike) (s.again other a) in
                        ap (many_from goes_on read size done) both ∙ made;
                  }
            ]
        | inr off ↦ absurd (let there : Ok (done, text) ≡ Err left = rw off at e in cc)
      ]

  pub lined_many : IsLined (many_lines_at goes_on read)
  lined_many = record {
    went = λ text xs rest e.
        let w = many_went (suc (length text)) [] text xs rest (omega arith) e in
        record { front = w.front; ends = w.ends; is = w.is; again = λ other a. w.again other a (suc (length (w.front ++ other))) (omega arith) };
    stopped = λ text left e.
        let s = many_stopped (suc (length text)) [] text left (omega arith) e in
        record { front = s.front; rest = s.rest; ends = s.ends; is = s.is; size = s.size; again = λ other a. s.again other a (suc (length (s.front ++ other))) (omega arith) };
  }
