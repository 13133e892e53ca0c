-- Lines have one spelling for each value: a line alone, one that is checked, one that may be missing, and lines one after another.
use Rattle.std.proofs.Common.{◌≡◌, ℕ, zero, suc, ◌<◌, ◌||◌, Bool, true, false, cond, List, [], ◌∷◌, ◌++◌, length, Option, Some, None, Ok, Err, refl, sym, ap, subst, ◌∙◌, append_assoc, append-nil, length-append, arith}
use Rattle.std.specs.Prelude.{IfSome}
use Rattle.std.specs.List.{flat_map, list_any}
use Rattle.std.specs.Str.{bytes_eq}
use Rattle.std.proofs.lemmas.Slice.Eq.{bytes_eq-Decides}
use Rattle.dkg_reading.specs.Lines.{TextReading, begins, checked_line, front_of, line_at, many_lines_at, many_from, maybe_at, row_of, some_read, ◌>=>◌}
use Rattle.dkg_reading.specs.Rows.{Row, whole_row, ◌>>=◌}
use Rattle.dkg_reading.specs.Spells.{FitAfter, IsFieldText, IsLastRow, IsLine, IsSpeltLast, spaced}
use Rattle.dkg_text.specs.Writing.{with_line_feed, text_or_none}
use Rattle.dkg_reading.proofs.Guards.{allowed_ok, bind_ok, bind_some, if_some, ok_is, some_is}
use Rattle.dkg_reading.proofs.Spelled.{same_text}
use Rattle.dkg_reading.proofs.Split.{front_again, front_found}

-- what two things are, from what was read
pub read_is : {A : Type 0} (P : A → List ℕ → Type 0) (a c : A) (b d : List ℕ) → ◌≡◌ {A = TextReading A} (Ok (a, b)) (Ok (c, d)) → P a b → P c d
read_is {A} P a c b d e p = subst (λ (x : A × List ℕ). P x.0 x.1) (ok_is (a, b) (c, d) e) p

pub ended_before : (line rest : List ℕ) → with_line_feed line ++ rest ≡ line ++ 10 ∷ rest
ended_before line rest = append_assoc line (10 ∷ []) rest

-- A LINE

pub whole_found : {A : Type 0} (o : Option (A × List (List ℕ))) (x : A) → whole_row o ≡ Some x → o ≡ Some (x, [])
whole_found {A} None x e = cc e
whole_found {A} (Some (y, [])) x e = ap (λ (z : A). Some (z, [])) (some_is y x e)
whole_found {A} (Some (y, f ∷ fs)) x e = cc e

-- the line in front has this name
pub record HasName (name text : List ℕ) : Type 0 where
  pub fields : List (List ℕ)
  pub behind : List ℕ
  pub front : front_of text ≡ Some (name, (fields, behind))

module _ {A : Type 0} (name : List ℕ) (plain : IsFieldText name) (fits : A → Type 0) (text : A → List ℕ) (row : Row A) (law : IsLastRow fits text row) where
  line_found : (t : List ℕ) (x : A) (rest : List ℕ) → line_at name row t ≡ Ok (x, rest) → fits x × (t ≡ with_line_feed (name ++ text x) ++ rest)
  unfolding line_at
  line_found t x rest e =
      let o = allowed_ok t (front_of t >>= row_of name row) (x, rest) e in
      let l = bind_some (front_of t) (row_of name row) (x, rest) o in
      let g = if_some (bytes_eq l.0.0 name) (whole_row (row l.0.1.0) >>= λ y. Some (y, l.0.1.1)) (x, rest) l.2 in
      let w = bind_some (whole_row (row l.0.1.0)) (λ y. Some (y, l.0.1.1)) (x, rest) g.1 in
      let named : l.0.0 ≡ name = (bytes_eq-Decides l.0.0 name).0 g.0 in
      let f = law.found l.0.1.0 w.0 [] (whole_found (row l.0.1.0) w.0 w.1) in
      let fields : spaced l.0.1.0 ≡ text w.0 = f.1 ∙ append-nil (text w.0) in
      let line : l.0.0 ++ spaced l.0.1.0 ≡ name ++ text w.0 = ap (λ (n : List ℕ). n ++ spaced l.0.1.0) named ∙ ap (λ (r : List ℕ). name ++ r) fields in
      let there : t ≡ with_line_feed (name ++ text w.0) ++ l.0.1.1 = front_found t l.0 l.1 ∙ (ap (λ (u : List ℕ). u ++ 10 ∷ l.0.1.1) line ∙ sym (ended_before (name ++ text w.0) l.0.1.1)) in
      subst (λ (z : A × List ℕ). fits z.0 × (t ≡ with_line_feed (name ++ text z.0) ++ z.1)) (some_is (w.0, l.0.1.1) (x, rest) w.2) (f.0, there)

  front_is : (x : A) (rest : List ℕ) (s : IsSpeltLast row (text x) x) → front_of (with_line_feed (name ++ text x) ++ rest) ≡ Some (name, (s.fields, rest))
  front_is x rest s =
      let line : with_line_feed (name ++ text x) ++ rest ≡ (name ++ spaced s.fields) ++ 10 ∷ rest = ended_before (name ++ text x) rest ∙ ap (λ (u : List ℕ). (name ++ u) ++ 10 ∷ rest) (sym s.text_is) in
      ap front_of line ∙ front_again name s.fields rest plain s.plain

  read_front : (t : List ℕ) (fields : List (List ℕ)) (x : A) (rest : List ℕ) → front_of t ≡ Some (name, (fields, rest)) → row fields ≡ Some (x, []) → line_at name row t ≡ Ok (x, rest)
  unfolding line_at
  read_front t fields x rest front reads = rw (front, same_text name name refl, reads) refl

  pub line_law : IsLine fits (λ x. with_line_feed (name ++ text x)) (line_at name row)
  line_law = record {
    found = line_found;
    again = λ x rest fit. let s = law.again x fit in read_front (with_line_feed (name ++ text x) ++ rest) s.fields x rest (front_is x rest s) s.reads;
  }

  pub line_named : (x : A) (rest : List ℕ) → fits x → HasName name (with_line_feed (name ++ text x) ++ rest)
  line_named x rest fit = let s = law.again x fit in record { fields = s.fields; behind = rest; front = front_is x rest s }

-- THE NAME OF THE LINE IN FRONT

pub begins_as : (name other text : List ℕ) → HasName name text → begins other text ≡ bytes_eq name other
unfolding begins
begins_as name other text has = rw has.front refl

pub begins_so : (name text : List ℕ) → HasName name text → begins name text ≡ true
begins_so name text has = begins_as name name text has ∙ same_text name name refl

-- the name is one of these
pub record IsAmong (names : List (List ℕ)) (text : List ℕ) : Type 0 where
  pub name : List ℕ
  pub has : HasName name text
  pub one_of : list_any (bytes_eq name) names ≡ true

pub here : (name : List ℕ) (names : List (List ℕ)) (text : List ℕ) → HasName name text → IsAmong (name ∷ names) text
here name names text has = record { name = name; has = has; one_of = rw (same_text name name refl) refl }

or_later : (a b : Bool) → b ≡ true → (a || b) ≡ true
or_later true b is = refl
or_later false b is = is

pub later : (name : List ℕ) (names : List (List ℕ)) (text : List ℕ) → IsAmong names text → IsAmong (name ∷ names) text
later name names text among = record { name = among.name; has = among.has; one_of = or_later (bytes_eq among.name name) (list_any (bytes_eq among.name) names) among.one_of }

pub neither : (a b : Bool) → (a || b) ≡ false → (a ≡ false) × (b ≡ false)
neither true b is = cc is
neither false b is = (refl, is)

no_other_here : (name other n : List ℕ) (ns : List (List ℕ)) → (list_any (bytes_eq name) ns ≡ true → bytes_eq name other ≡ false) → (b : Bool) → bytes_eq name n ≡ b → (b || list_any (bytes_eq name) ns) ≡ true → bytes_eq n other ≡ false → bytes_eq name other ≡ false
no_other_here name other n ns more true e is apart = let same : name ≡ n = (bytes_eq-Decides name n).0 e in ap (λ (m : List ℕ). bytes_eq m other) same ∙ apart
no_other_here name other n ns more false e is apart = more is

no_other : (name other : List ℕ) (names : List (List ℕ)) → list_any (bytes_eq name) names ≡ true → list_any (λ n. bytes_eq n other) names ≡ false → bytes_eq name other ≡ false
no_other name other [] one none = cc one
no_other name other (n ∷ ns) one none =
    let parts = neither (bytes_eq n other) (list_any (λ m. bytes_eq m other) ns) none in
    no_other_here name other n ns (λ is. no_other name other ns is parts.1) (bytes_eq name n) refl one parts.0

pub not_begun : (other : List ℕ) (names : List (List ℕ)) (text : List ℕ) → IsAmong names text → list_any (λ n. bytes_eq n other) names ≡ false → begins other text ≡ false
not_begun other names text among none = begins_as among.name other text among.has ∙ no_other among.name other names among.one_of none

-- A LINE THAT IS CHECKED

module _ {A B : Type 0} (fits : A → Type 0) (line : A → List ℕ) (read : List ℕ → TextReading A) (law : IsLine fits line read) (check : A → Option B) (good : B → Type 0) (back : B → A)
    (to : (a : A) (b : B) → fits a → check a ≡ Some b → good b × (back b ≡ a)) (from : (b : B) → good b → fits (back b) × (check (back b) ≡ Some b)) where
  checked_found : (text : List ℕ) (b : B) (rest : List ℕ) → checked_line text check (read text) ≡ Ok (b, rest) → good b × (text ≡ line (back b) ++ rest)
  checked_found text b rest e = by_case (read text) refl e
    where
      by_case : (r : TextReading A) → read text ≡ r → checked_line text check r ≡ Ok (b, rest) → good b × (text ≡ line (back b) ++ rest)
      by_case (Ok (a, behind)) is e =
          let c = bind_some (check a) (λ y. Some (y, behind)) (b, rest) (allowed_ok text (check a >>= λ y. Some (y, behind)) (b, rest) e) in
          let f = law.found text a behind is in
          let t = to a c.0 f.0 c.1 in
          let there : text ≡ line (back c.0) ++ behind = f.1 ∙ ap (λ (x : A). line x ++ behind) (sym t.1) in
          subst (λ (z : B × List ℕ). good z.0 × (text ≡ line (back z.0) ++ z.1)) (some_is (c.0, behind) (b, rest) c.2) (t.0, there)
      by_case (Err n) is e = cc e

  checked_again : (b : B) (rest : List ℕ) → good b → checked_line (line (back b) ++ rest) check (read (line (back b) ++ rest)) ≡ Ok (b, rest)
  checked_again b rest fit =
      let f = from b fit in
      let read_back : read (line (back b) ++ rest) ≡ Ok (back b, rest) = law.again (back b) rest f.0 in
      let is : check (back b) ≡ Some b = f.1 in
      rw (read_back, is) refl

  pub checked_law : IsLine good (λ b. line (back b)) (λ text. checked_line text check (read text))
  checked_law = record { found = checked_found; again = checked_again }

-- A LINE THAT MAY BE MISSING

module _ {A : Type 0} (name : List ℕ) (fits : A → Type 0) (line : A → List ℕ) (read : List ℕ → TextReading A) (law : IsLine fits line read) where
  pub some_found : (text : List ℕ) (o : Option A) (rest : List ℕ) → some_read (read text) ≡ Ok (o, rest) → IfSome o fits × (text ≡ text_or_none line o ++ rest)
  some_found text o rest e =
      let b = bind_ok (read text) (λ x. Ok (Some x.0, x.1)) (o, rest) e in
      let f = law.found text b.0.0 b.0.1 b.1 in
      read_is (λ (p : Option A) (r : List ℕ). IfSome p fits × (text ≡ text_or_none line p ++ r)) (Some b.0.0) o b.0.1 rest b.2 f

  pub some_again : (x : A) (rest : List ℕ) → fits x → some_read (read (line x ++ rest)) ≡ Ok (Some x, rest)
  some_again x rest fit = rw (law.again x rest fit) refl

  pub none_found : (text : List ℕ) (o : Option A) (rest : List ℕ) → ◌≡◌ {A = TextReading (Option A)} (Ok (None, text)) (Ok (o, rest)) → IfSome o fits × (text ≡ text_or_none line o ++ rest)
  none_found text o rest e = read_is (λ (p : Option A) (r : List ℕ). IfSome p fits × (text ≡ text_or_none line p ++ r)) None o text rest e (tt, refl)

  pub maybe_found : (text : List ℕ) (o : Option A) (rest : List ℕ) → maybe_at name read text ≡ Ok (o, rest) → IfSome o fits × (text ≡ text_or_none line o ++ rest)
  maybe_found text o rest e = by_case (begins name text) e
    where
      by_case : (b : Bool) → cond b (some_read (read text)) (Ok (None, text)) ≡ Ok (o, rest) → IfSome o fits × (text ≡ text_or_none line o ++ rest)
      by_case true e = some_found text o rest e
      by_case false e = none_found text o rest e

  pub maybe_again : ((x : A) (rest : List ℕ) → fits x → HasName name (line x ++ rest)) → (o : Option A) (rest : List ℕ) → IfSome o fits → begins name rest ≡ false → maybe_at name read (text_or_none line o ++ rest) ≡ Ok (o, rest)
  maybe_again named None rest fit over = rw over refl
  maybe_again named (Some x) rest fit over = rw (begins_so name (line x ++ rest) (named x rest fit)) (some_again x rest fit)

  pub maybe_among : (names : List (List ℕ)) → ((x : A) (rest : List ℕ) → fits x → HasName name (line x ++ rest)) → (o : Option A) (rest : List ℕ) → IfSome o fits → IsAmong names rest → IsAmong (name ∷ names) (text_or_none line o ++ rest)
  maybe_among names named None rest fit among = later name names rest among
  maybe_among names named (Some x) rest fit among = here name names (line x ++ rest) (named x rest fit)

  pub maybe_keeps : ((x : A) (rest : List ℕ) → fits x → HasName name (line x ++ rest)) → (other : List ℕ) → bytes_eq name other ≡ false → (o : Option A) (rest : List ℕ) → IfSome o fits → begins other rest ≡ false → begins other (text_or_none line o ++ rest) ≡ false
  maybe_keeps named other apart None rest fit over = over
  maybe_keeps named other apart (Some x) rest fit over = begins_as name other (line x ++ rest) (named x rest fit) ∙ apart

-- LINES ONE AFTER ANOTHER

module _ {A : Type 0} (goes_on : List ℕ → Bool) (fits : List A → A → Type 0) (line : A → List ℕ) (read : List A → List ℕ → TextReading A) (law : (done : List A) → IsLine (fits done) line (read done)) where
  record FoundMany (done : List A) (text : List ℕ) (all : List A) (rest : List ℕ) : Type 0 where
    xs : List A
    all_is : all ≡ done ++ xs
    fit : FitAfter fits done xs
    text_is : text ≡ flat_map line xs ++ rest

  none_more : (done : List A) (text : List ℕ) (all : List A) (rest : List ℕ) → ◌≡◌ {A = TextReading (List A)} (Ok (done, text)) (Ok (all, rest)) → FoundMany done text all rest
  none_more done text all rest e =
      read_is (λ (ys : List A) (r : List ℕ). FoundMany done text ys r) done all text rest e (record { xs = []; all_is = sym (append-nil done); fit = tt; text_is = refl })

  one_more : (done : List A) (text : List ℕ) (x : A) (left : List ℕ) (all : List A) (rest : List ℕ) → fits done x × (text ≡ line x ++ left) → FoundMany (done ++ x ∷ []) left all rest → FoundMany done text all rest
  one_more done text x left all rest f r = record {
    xs = x ∷ r.xs;
    all_is = r.all_is ∙ append_assoc done (x ∷ []) r.xs;
    fit = (f.0, r.fit);
    text_is = f.1 ∙ (ap (λ (t : List ℕ). line x ++ t) r.text_is ∙ sym (append_assoc (line x) (flat_map line r.xs) rest));
  }

  from_found : (most : ℕ) (done : List A) (text : List ℕ) (all : List A) (rest : List ℕ) → many_from goes_on read most done text ≡ Ok (all, rest) → FoundMany done text all rest
  unfolding many_from
  from_found zero done text all rest e = none_more done text all rest e
  from_found (suc most) done text all rest e = by_case (goes_on text) (λ x left is. from_found most (done ++ x ∷ []) left all rest is) e
    where
      by_case : (b : Bool) → ((x : A) (left : List ℕ) → many_from goes_on read most (done ++ x ∷ []) left ≡ Ok (all, rest) → FoundMany (done ++ x ∷ []) left all rest)
          → cond b (read done text >=> λ x. many_from goes_on read most (done ++ x.0 ∷ []) x.1) (Ok (done, text)) ≡ Ok (all, rest) → FoundMany done text all rest
      by_case true later e =
          let b = bind_ok (read done text) (λ x. many_from goes_on read most (done ++ x.0 ∷ []) x.1) (all, rest) e in
          one_more done text b.0.0 b.0.1 all rest ((law done).found text b.0.0 b.0.1 b.1) (later b.0.0 b.0.1 b.2)
      by_case false later e = none_more done text all rest e

  pub many_found : (text : List ℕ) (all : List A) (rest : List ℕ) → many_lines_at goes_on read text ≡ Ok (all, rest) → FitAfter fits [] all × (text ≡ flat_map line all ++ rest)
  many_found text all rest e =
      let f = from_found (suc (length text)) [] text all rest e in
      subst (λ (xs : List A). FitAfter fits [] xs × (text ≡ flat_map line xs ++ rest)) (sym f.all_is) (f.fit, f.text_is)

  module _ (starts : (done : List A) (x : A) (rest : List ℕ) → fits done x → goes_on (line x ++ rest) ≡ true) (long : (x : A) → 0 < length (line x)) where
    from_again : (most : ℕ) (done xs : List A) (rest : List ℕ) → FitAfter fits done xs → goes_on rest ≡ false → length (flat_map line xs ++ rest) < most → many_from goes_on read most done (flat_map line xs ++ rest) ≡ Ok (done ++ xs, rest)
    unfolding many_from
    from_again zero done xs rest fit over fuel = absurd (omega (arith, fuel))
    from_again (suc most) done [] rest fit over fuel = rw over (ap (λ (ys : List A). Ok (ys, rest)) (sym (append-nil done)))
    from_again (suc most) done (x ∷ xs) rest fit over fuel =
        let tail = flat_map line xs ++ rest in
        let text_is : flat_map line (x ∷ xs) ++ rest ≡ line x ++ tail = append_assoc (line x) (flat_map line xs) rest in
        let size = length-append (line x) tail in
        let fuel_there : length (line x ++ tail) < suc most = subst (λ (t : List ℕ). length t < suc most) text_is fuel in
        let enough : length tail < most = omega (arith, size, long x, fuel_there) in
        let on : goes_on (line x ++ tail) ≡ true = starts done x tail fit.0 in
        let is : read done (line x ++ tail) ≡ Ok (x, tail) = (law done).again x tail fit.0 in
        let rest_is : many_from goes_on read most (done ++ x ∷ []) tail ≡ Ok ((done ++ x ∷ []) ++ xs, rest) = from_again most (done ++ x ∷ []) xs rest fit.1 over enough in
        let step : many_from goes_on read (suc most) done (line x ++ tail) ≡ Ok ((done ++ x ∷ []) ++ xs, rest) = rw (on, is) rest_is in
        ap (many_from goes_on read (suc most) done) text_is ∙ (step ∙ ap (λ (ys : List A). Ok (ys, rest)) (append_assoc done (x ∷ []) xs))

    pub many_again : (xs : List A) (rest : List ℕ) → FitAfter fits [] xs → goes_on rest ≡ false → many_lines_at goes_on read (flat_map line xs ++ rest) ≡ Ok (xs, rest)
    many_again xs rest fit over = from_again (suc (length (flat_map line xs ++ rest))) [] xs rest fit over (omega arith)

  pub many_among : (names : List (List ℕ)) → ((done : List A) (x : A) (rest : List ℕ) → fits done x → IsAmong names (line x ++ rest)) → (done xs : List A) (rest : List ℕ) → FitAfter fits done xs → IsAmong names rest → IsAmong names (flat_map line xs ++ rest)
  many_among names each done [] rest fit among = among
  many_among names each done (x ∷ xs) rest fit among =
      subst (IsAmong names) (sym (append_assoc (line x) (flat_map line xs) rest)) (each done x (flat_map line xs ++ rest) fit.0)
