-- Each row of fields has one spelling for each value.
use Rattle.std.proofs.Common.{◌≡◌, ℕ, ◌<◌, ◌^◌, ◌&&◌, List, [], ◌∷◌, ◌++◌, length, decimal, Option, Some, refl, sym, ap, subst, ◌∙◌, append_assoc, append-nil, arith, nat_lt}
use Rattle.std.specs.List.{flat_map, AllByRecursion}
use Rattle.std.proofs.lemmas.Bool.{and_parts, lt-ltb, ltb-true}
use Rattle.std.proofs.lemmas.Grind.{flat_map-append}
use Rattle.dkg_types.specs.declared.addresses.Address.{Address}
use Rattle.dkg_types.specs.declared.addresses.Address.TheVariants.{Symmetric, Asymmetric}
use Rattle.dkg_types.specs.declared.addresses.Socket.{Socket}
use Rattle.dkg_values.specs.Rising.{rises}
use Rattle.dkg_reading.specs.Allowed.{Is16, Is32, IsAddress, IsKeys, IsSocket}
use Rattle.dkg_text.specs.Fields.{number_field, word_field}
use Rattle.dkg_reading.specs.Rows.{Row, address_row, all, all_of, as_set, beside, field, four, no_fields, number_below, second_socket, set_row, socket_row, three, two, ◌>>=◌}
use Rattle.dkg_reading.specs.Spells.{AreFieldTexts, IsField, IsLastRow, IsRow, IsSpeltLast, spaced}
use Rattle.dkg_text.specs.Writing.{address_fields, numbers_fields, socket_fields}
use Rattle.dkg_reading.proofs.FieldLaws.{below_law}
use Rattle.dkg_reading.proofs.Guards.{bind_some, if_some, some_is}

-- what two things are, from what a pair is
pair_is : {A B : Type 0} (P : A → B → Type 0) (a c : A) (b d : B) → ◌≡◌ {A = Option (A × B)} (Some (a, b)) (Some (c, d)) → P a b → P c d
pair_is {A} {B} P a c b d e p = subst (λ (x : A × B). P x.0 x.1) (some_is (a, b) (c, d) e) p

all_plain : (one other : List (List ℕ)) → AreFieldTexts one → AreFieldTexts other → AreFieldTexts (one ++ other)
all_plain [] other p q = q
all_plain (f ∷ fs) other p q = (p.0, all_plain fs other p.1 q)

-- nothing at all
pub nothing_law : IsLastRow (λ (x : Unit {0}). Unit {0}) (λ x. []) no_fields
nothing_law = record {
  found = λ fields x rest e. pair_is (λ (y : Unit {0}) (r : List (List ℕ)). Unit {0} × (spaced fields ≡ spaced r)) tt x fields rest e (tt, refl);
  again = λ x fit. record { fields = []; plain = tt; text_is = refl; reads = refl };
}

pub last : {A : Type 0} (fits : A → Type 0) (text : A → List ℕ) (row : Row A) → IsRow fits text row → IsLastRow fits text row
last {A} fits text row law = record {
  found = law.found;
  again = λ x fit.
      let s = law.again x fit in
      record { fields = s.fields; plain = s.plain; text_is = s.text_is; reads = subst (λ (f : List (List ℕ)). row f ≡ Some (x, [])) (append-nil s.fields) (s.reads []) };
}

module _ {A : Type 0} (fits : A → Type 0) (text : A → List ℕ) (of : List ℕ → Option A) (law : IsField fits text of) where
  one_found : (fields : List (List ℕ)) (x : A) (rest : List (List ℕ)) → field of fields ≡ Some (x, rest) → fits x × (spaced fields ≡ word_field (text x) ++ spaced rest)
  unfolding field
  one_found [] x rest e = cc e
  one_found (t ∷ ts) x rest e =
      let b = bind_some (of t) (λ v. Some (v, ts)) (x, rest) e in
      let f = law.found t b.0 b.1 in
      pair_is (λ (v : A) (r : List (List ℕ)). fits v × (spaced (t ∷ ts) ≡ word_field (text v) ++ spaced r)) b.0 x ts rest b.2 (f.0, ap (λ (u : List ℕ). word_field u ++ spaced ts) f.1)

  one_reads : (x : A) → fits x → (rest : List (List ℕ)) → field of (text x ∷ rest) ≡ Some (x, rest)
  unfolding field
  one_reads x fit rest = rw (law.again x fit) refl

  pub field_law : IsRow fits (λ x. word_field (text x)) (field of)
  field_law = record {
    found = one_found;
    again = λ x fit. record { fields = text x ∷ []; plain = (law.plain x fit, tt); text_is = append-nil (word_field (text x)); reads = one_reads x fit };
  }

  -- each of the fields
  pub fields_text : List A → List ℕ
  fields_text xs = flat_map (λ x. word_field (text x)) xs

  each_found : (fields : List (List ℕ)) (xs : List A) → all_of of fields ≡ Some xs → AllByRecursion fits xs × (spaced fields ≡ flat_map (λ x. word_field (text x)) xs)
  unfolding all_of
  each_found [] xs e = subst (λ (ys : List A). AllByRecursion fits ys × ([] ≡ flat_map (λ x. word_field (text x)) ys)) (some_is [] xs e) (tt, refl)
  each_found (t ∷ ts) xs e =
      let b = bind_some (of t) (λ x. all_of of ts >>= λ more. Some (x ∷ more)) xs e in
      let m = bind_some (all_of of ts) (λ more. Some (b.0 ∷ more)) xs b.2 in
      let f = law.found t b.0 b.1 in
      let r = each_found ts m.0 m.1 in
      let is : spaced (t ∷ ts) ≡ word_field (text b.0) ++ flat_map (λ x. word_field (text x)) m.0 = ap (λ (u : List ℕ). word_field u ++ spaced ts) f.1 ∙ ap (λ (u : List ℕ). word_field (text b.0) ++ u) r.1 in
      subst (λ (ys : List A). AllByRecursion fits ys × (spaced (t ∷ ts) ≡ flat_map (λ x. word_field (text x)) ys)) (some_is (b.0 ∷ m.0) xs m.2) ((f.0, r.0), is)

  abbrev texts : List A → List (List ℕ)
  texts [] = []
  texts (x ∷ xs) = text x ∷ texts xs

  texts_plain : (xs : List A) → AllByRecursion fits xs → AreFieldTexts (texts xs)
  texts_plain [] fit = tt
  texts_plain (x ∷ xs) fit = (law.plain x fit.0, texts_plain xs fit.1)

  texts_spaced : (xs : List A) → spaced (texts xs) ≡ flat_map (λ x. word_field (text x)) xs
  texts_spaced [] = refl
  texts_spaced (x ∷ xs) = ap (λ (r : List ℕ). word_field (text x) ++ r) (texts_spaced xs)

  texts_read : (xs : List A) → AllByRecursion fits xs → all_of of (texts xs) ≡ Some xs
  unfolding all_of
  texts_read [] fit = refl
  texts_read (x ∷ xs) fit = rw (law.again x fit.0, texts_read xs fit.1) refl

  pub all_law : IsLastRow (AllByRecursion fits) (λ xs. flat_map (λ x. word_field (text x)) xs) (all of)
  all_law = record {
    found = λ fields xs rest e.
        let b = bind_some (all_of of fields) (λ ys. Some (ys, [])) (xs, rest) e in
        let f = each_found fields b.0 b.1 in
        pair_is (λ (ys : List A) (r : List (List ℕ)). AllByRecursion fits ys × (spaced fields ≡ flat_map (λ x. word_field (text x)) ys ++ spaced r)) b.0 xs [] rest b.2 (f.0, f.1 ∙ sym (append-nil (flat_map (λ x. word_field (text x)) b.0)));
    again = λ xs fit. record { fields = texts xs; plain = texts_plain xs fit; text_is = texts_spaced xs; reads = rw (texts_read xs fit) refl };
  }

-- ONE ROW AND THEN ANOTHER

module _ {A B : Type 0} (fits : A → Type 0) (text : A → List ℕ) (row : Row A) (law : IsRow fits text row) (next_fits : B → Type 0) (next_text : B → List ℕ) (next : Row B) where
  beside_found : ((fields : List (List ℕ)) (y : B) (rest : List (List ℕ)) → next fields ≡ Some (y, rest) → next_fits y × (spaced fields ≡ next_text y ++ spaced rest))
      → (fields : List (List ℕ)) (p : A × B) (rest : List (List ℕ)) → beside row next fields ≡ Some (p, rest) → (fits p.0 × next_fits p.1) × (spaced fields ≡ (text p.0 ++ next_text p.1) ++ spaced rest)
  beside_found found fields p rest e =
      let a = bind_some (row fields) (λ x. next x.1 >>= λ y. Some ((x.0, y.0), y.1)) (p, rest) e in
      let b = bind_some (next a.0.1) (λ y. Some ((a.0.0, y.0), y.1)) (p, rest) a.2 in
      let f = law.found fields a.0.0 a.0.1 a.1 in
      let g = found a.0.1 b.0.0 b.0.1 b.1 in
      let is : spaced fields ≡ (text a.0.0 ++ next_text b.0.0) ++ spaced b.0.1 = f.1 ∙ (ap (λ (u : List ℕ). text a.0.0 ++ u) g.1 ∙ sym (append_assoc (text a.0.0) (next_text b.0.0) (spaced b.0.1))) in
      pair_is (λ (q : A × B) (r : List (List ℕ)). (fits q.0 × next_fits q.1) × (spaced fields ≡ (text q.0 ++ next_text q.1) ++ spaced r)) (a.0.0, b.0.0) p b.0.1 rest b.2 ((f.0, g.0), is)

  pub beside_law : IsLastRow next_fits next_text next → IsLastRow (λ (p : A × B). fits p.0 × next_fits p.1) (λ p. text p.0 ++ next_text p.1) (beside row next)
  beside_law next_law = record {
    found = beside_found next_law.found;
    again = λ p fit.
        let s = law.again p.0 fit.0 in
        let t = next_law.again p.1 fit.1 in
        record {
          fields = s.fields ++ t.fields;
          plain = all_plain s.fields t.fields s.plain t.plain;
          text_is = rw (flat_map-append word_field s.fields t.fields, s.text_is, t.text_is) refl;
          reads = rw (s.reads t.fields, t.reads) refl;
        };
  }

  pub beside_open_law : IsRow next_fits next_text next → IsRow (λ (p : A × B). fits p.0 × next_fits p.1) (λ p. text p.0 ++ next_text p.1) (beside row next)
  beside_open_law next_law = record {
    found = beside_found next_law.found;
    again = λ p fit.
        let s = law.again p.0 fit.0 in
        let t = next_law.again p.1 fit.1 in
        record {
          fields = s.fields ++ t.fields;
          plain = all_plain s.fields t.fields s.plain t.plain;
          text_is = rw (flat_map-append word_field s.fields t.fields, s.text_is, t.text_is) refl;
          reads = λ rest. rw (append_assoc s.fields t.fields rest, s.reads (t.fields ++ rest), t.reads rest) refl;
        };
  }

-- THE SAME UNDER ANOTHER SHAPE

module _ {A B : Type 0} (make : A → B) (back : B → A) (there : (a : A) → back (make a) ≡ a) (again : (b : B) → make (back b) ≡ b) (fits : A → Type 0) (text : A → List ℕ) (row : Row A) where
  abbrev pub seen : Row B
  seen fields = row fields >>= λ x. Some (make x.0, x.1)

  seen_found : ((fields : List (List ℕ)) (x : A) (rest : List (List ℕ)) → row fields ≡ Some (x, rest) → fits x × (spaced fields ≡ text x ++ spaced rest))
      → (fields : List (List ℕ)) (y : B) (rest : List (List ℕ)) → seen fields ≡ Some (y, rest) → fits (back y) × (spaced fields ≡ text (back y) ++ spaced rest)
  seen_found found fields y rest e =
      let b = bind_some (row fields) (λ x. Some (make x.0, x.1)) (y, rest) e in
      let f = found fields b.0.0 b.0.1 b.1 in
      let is : fits (back (make b.0.0)) × (spaced fields ≡ text (back (make b.0.0)) ++ spaced b.0.1) = rw (there b.0.0) f in
      pair_is (λ (z : B) (r : List (List ℕ)). fits (back z) × (spaced fields ≡ text (back z) ++ spaced r)) (make b.0.0) y b.0.1 rest b.2 is

  pub seen_law : IsLastRow fits text row → IsLastRow (λ y. fits (back y)) (λ y. text (back y)) seen
  seen_law law = record {
    found = seen_found law.found;
    again = λ y fit.
        let s = law.again (back y) fit in
        record { fields = s.fields; plain = s.plain; text_is = s.text_is; reads = rw s.reads (ap (λ (z : B). Some (z, [])) (again y)) };
  }

  pub seen_open_law : IsRow fits text row → IsRow (λ y. fits (back y)) (λ y. text (back y)) seen
  seen_open_law law = record {
    found = seen_found law.found;
    again = λ y fit.
        let s = law.again (back y) fit in
        record { fields = s.fields; plain = s.plain; text_is = s.text_is; reads = λ rest. rw (s.reads rest) (ap (λ (z : B). Some (z, rest)) (again y)) };
  }

-- FIELDS SIDE BY SIDE

module _ {A B : Type 0} (fa : A → Type 0) (ta : A → List ℕ) (a : List ℕ → Option A) (la : IsField fa ta a) (fb : B → Type 0) (tb : B → List ℕ) (b : List ℕ → Option B) (lb : IsField fb tb b) where
  pub two_law : IsLastRow (λ (p : A × B). fa p.0 × fb p.1) (λ p. word_field (ta p.0) ++ word_field (tb p.1)) (two a b)
  two_law = beside_law fa (λ x. word_field (ta x)) (field a) (field_law fa ta a la) fb (λ x. word_field (tb x)) (field b) (last fb (λ x. word_field (tb x)) (field b) (field_law fb tb b lb))

  pub two_open_law : IsRow (λ (p : A × B). fa p.0 × fb p.1) (λ p. word_field (ta p.0) ++ word_field (tb p.1)) (two a b)
  two_open_law = beside_open_law fa (λ x. word_field (ta x)) (field a) (field_law fa ta a la) fb (λ x. word_field (tb x)) (field b) (field_law fb tb b lb)

module _ {A B C : Type 0} (fa : A → Type 0) (ta : A → List ℕ) (a : List ℕ → Option A) (la : IsField fa ta a) (fb : B → Type 0) (tb : B → List ℕ) (b : List ℕ → Option B) (lb : IsField fb tb b) (fc : C → Type 0) (tc : C → List ℕ) (c : List ℕ → Option C) (lc : IsField fc tc c) where
  pub three_law : IsLastRow (λ (p : A × B × C). fa p.0 × (fb p.1 × fc p.2)) (λ p. word_field (ta p.0) ++ (word_field (tb p.1) ++ word_field (tc p.2))) (three a b c)
  three_law =
      let F : A × (B × C) → Type 0 = λ p. fa p.0 × (fb p.1.0 × fc p.1.1) in
      let T : A × (B × C) → List ℕ = λ p. word_field (ta p.0) ++ (word_field (tb p.1.0) ++ word_field (tc p.1.1)) in
      let make : A × (B × C) → A × B × C = λ p. (p.0, p.1.0, p.1.1) in
      let back : A × B × C → A × (B × C) = λ p. (p.0, (p.1, p.2)) in
      seen_law make back (λ p. refl) (λ p. refl) F T (beside (field a) (two b c))
      (beside_law fa (λ x. word_field (ta x)) (field a) (field_law fa ta a la) (λ (p : B × C). fb p.0 × fc p.1) (λ p. word_field (tb p.0) ++ word_field (tc p.1)) (two b c) (two_law fb tb b lb fc tc c lc))

module _ {A B C D : Type 0} (fa : A → Type 0) (ta : A → List ℕ) (a : List ℕ → Option A) (la : IsField fa ta a) (fb : B → Type 0) (tb : B → List ℕ) (b : List ℕ → Option B) (lb : IsField fb tb b) (fc : C → Type 0) (tc : C → List ℕ) (c : List ℕ → Option C) (lc : IsField fc tc c) (fd : D → Type 0) (td : D → List ℕ) (d : List ℕ → Option D) (ld : IsField fd td d) where
  pub four_law : IsLastRow (λ (p : A × B × C × D). fa p.0 × (fb p.1 × (fc p.2 × fd p.3))) (λ p. word_field (ta p.0) ++ (word_field (tb p.1) ++ (word_field (tc p.2) ++ word_field (td p.3)))) (four a b c d)
  four_law =
      let F : A × (B × (C × D)) → Type 0 = λ p. fa p.0 × (fb p.1.0 × (fc p.1.1.0 × fd p.1.1.1)) in
      let T : A × (B × (C × D)) → List ℕ = λ p. word_field (ta p.0) ++ (word_field (tb p.1.0) ++ (word_field (tc p.1.1.0) ++ word_field (td p.1.1.1))) in
      let make : A × (B × (C × D)) → A × B × C × D = λ p. (p.0, p.1.0, p.1.1.0, p.1.1.1) in
      let back : A × B × C × D → A × (B × (C × D)) = λ p. (p.0, (p.1, (p.2, p.3))) in
      seen_law make back (λ p. refl) (λ p. refl) F T (beside (field a) (beside (field b) (two c d)))
      (beside_law fa (λ x. word_field (ta x)) (field a) (field_law fa ta a la)
      (λ (p : B × (C × D)). fb p.0 × (fc p.1.0 × fd p.1.1)) (λ p. word_field (tb p.0) ++ (word_field (tc p.1.0) ++ word_field (td p.1.1))) (beside (field b) (two c d))
      (beside_law fb (λ x. word_field (tb x)) (field b) (field_law fb tb b lb) (λ (p : C × D). fc p.0 × fd p.1) (λ p. word_field (tc p.0) ++ word_field (td p.1)) (two c d) (two_law fc tc c lc fd td d ld)))

-- SETS AND ADDRESSES

pub key_law : IsField Is32 decimal (number_below (2 ^ 32))
key_law = below_law (2 ^ 32) (omega arith)

set_found : (fields : List (List ℕ)) (keys : List ℕ) (rest : List (List ℕ)) → set_row fields ≡ Some (keys, rest) → IsKeys keys × (spaced fields ≡ numbers_fields keys ++ spaced rest)
unfolding set_row
set_found fields keys rest e =
    let b = bind_some (all_of (number_below (2 ^ 32)) fields) (λ ks. as_set ks >>= λ set. Some (set, [])) (keys, rest) e in
    let s = bind_some (as_set b.0) (λ set. Some (set, [])) (keys, rest) b.2 in
    let g = if_some (nat_lt (length b.0) (2 ^ 32) && rises b.0) (Some b.0) s.0 s.1 in
    let parts = and_parts (nat_lt (length b.0) (2 ^ 32)) (rises b.0) g.0 in
    let few : length b.0 < 2 ^ 32 = ltb-true (length b.0) (2 ^ 32) parts.0 in
    let same : b.0 ≡ s.0 = some_is b.0 s.0 g.1 in
    let f = each_found Is32 decimal (number_below (2 ^ 32)) key_law fields b.0 b.1 in
    let is : IsKeys b.0 × (spaced fields ≡ numbers_fields b.0 ++ spaced []) = (record { small = f.0; rising = parts.1; in_bound = few }, f.1 ∙ sym (append-nil (numbers_fields b.0))) in
    pair_is (λ (ks : List ℕ) (r : List (List ℕ)). IsKeys ks × (spaced fields ≡ numbers_fields ks ++ spaced r)) s.0 keys [] rest s.2
    (subst (λ (ks : List ℕ). IsKeys ks × (spaced fields ≡ numbers_fields ks ++ spaced [])) same is)

set_reads : (keys : List ℕ) → IsKeys keys → set_row (texts Is32 decimal (number_below (2 ^ 32)) key_law keys) ≡ Some (keys, [])
unfolding set_row
set_reads keys fit =
    rw (texts_read Is32 decimal (number_below (2 ^ 32)) key_law keys fit.small, lt-ltb (length keys) (2 ^ 32) fit.in_bound, fit.rising) refl

pub set_law : IsLastRow IsKeys numbers_fields set_row
set_law = record {
  found = set_found;
  again = λ keys fit. record {
    fields = texts Is32 decimal (number_below (2 ^ 32)) key_law keys;
    plain = texts_plain Is32 decimal (number_below (2 ^ 32)) key_law keys fit.small;
    text_is = texts_spaced Is32 decimal (number_below (2 ^ 32)) key_law keys;
    reads = set_reads keys fit;
  };
}

pub socket_law : IsRow IsSocket socket_fields socket_row
unfolding socket_row
socket_law =
    let make : ℕ × ℕ → Socket = λ p. record { ip = p.0; port = p.1 } in
    let back : Socket → ℕ × ℕ = λ s. (s.ip, s.port) in
    let fits : ℕ × ℕ → Type 0 = λ p. (p.0 < 2 ^ 32) × (p.1 < 2 ^ 16) in
    let text : ℕ × ℕ → List ℕ = λ p. number_field p.0 ++ number_field p.1 in
    seen_open_law make back (λ p. refl) (λ s. refl) fits text (two (number_below (2 ^ 32)) (number_below (2 ^ 16)))
    (two_open_law Is32 decimal (number_below (2 ^ 32)) key_law Is16 decimal (number_below (2 ^ 16)) (below_law (2 ^ 16) (omega arith)))

address_found : (fields : List (List ℕ)) (a : Address) (rest : List (List ℕ)) → address_row fields ≡ Some (a, rest) → IsAddress a × (spaced fields ≡ address_fields a ++ spaced rest)
unfolding address_row
address_found fields a rest e =
    let b = bind_some (socket_row fields) (λ ingress. second_socket ingress.0 ingress.1) (a, rest) e in
    let f = socket_law.found fields b.0.0 b.0.1 b.1 in
    by_case b.0.0 b.0.1 f b.2
  where
    by_case : (ingress : Socket) (left : List (List ℕ)) → IsSocket ingress × (spaced fields ≡ socket_fields ingress ++ spaced left) → second_socket ingress left ≡ Some (a, rest) → IsAddress a × (spaced fields ≡ address_fields a ++ spaced rest)
    by_case ingress [] f e = pair_is (λ (x : Address) (r : List (List ℕ)). IsAddress x × (spaced fields ≡ address_fields x ++ spaced r)) (Symmetric ingress) a [] rest e f
    by_case ingress (t ∷ ts) f e =
        let c = bind_some (socket_row (t ∷ ts)) (λ egress. Some (Asymmetric ingress egress.0, egress.1)) (a, rest) e in
        let g = socket_law.found (t ∷ ts) c.0.0 c.0.1 c.1 in
        let is : spaced fields ≡ (socket_fields ingress ++ socket_fields c.0.0) ++ spaced c.0.1 = f.1 ∙ (ap (λ (u : List ℕ). socket_fields ingress ++ u) g.1 ∙ sym (append_assoc (socket_fields ingress) (socket_fields c.0.0) (spaced c.0.1))) in
        pair_is (λ (x : Address) (r : List (List ℕ)). IsAddress x × (spaced fields ≡ address_fields x ++ spaced r)) (Asymmetric ingress c.0.0) a c.0.1 rest c.2 ((f.0, g.0), is)

one_reads_whole : (socket : Socket) (fields : List (List ℕ)) → socket_row (fields ++ []) ≡ Some (socket, []) → address_row fields ≡ Some (Symmetric socket, [])
unfolding address_row
one_reads_whole socket fields is =
    let same : socket_row fields ≡ Some (socket, []) = subst (λ (f : List (List ℕ)). socket_row f ≡ Some (socket, [])) (append-nil fields) is in
    rw same refl

-- what begins with some text begins with a field
second_is : (ingress egress : Socket) (fields : List (List ℕ)) → spaced fields ≡ socket_fields egress → socket_row (fields ++ []) ≡ Some (egress, []) → second_socket ingress fields ≡ Some (Asymmetric ingress egress, [])
second_is ingress egress [] spelt is = absurd (cc spelt)
second_is ingress egress (t ∷ ts) spelt is =
    let same : socket_row (t ∷ ts) ≡ Some (egress, []) = subst (λ (f : List (List ℕ)). socket_row f ≡ Some (egress, [])) (append-nil (t ∷ ts)) is in
    rw same refl

two_read : (ingress egress : Socket) (one other : List (List ℕ)) → socket_row (one ++ other) ≡ Some (ingress, other) → second_socket ingress other ≡ Some (Asymmetric ingress egress, []) → address_row (one ++ other) ≡ Some (Asymmetric ingress egress, [])
unfolding address_row
two_read ingress egress one other is then_is = rw (is, then_is) refl

address_again : (a : Address) → IsAddress a → IsSpeltLast address_row (address_fields a) a
address_again (Symmetric socket) fit =
    let s = socket_law.again socket fit in
    record { fields = s.fields; plain = s.plain; text_is = s.text_is; reads = one_reads_whole socket s.fields (s.reads []) }
address_again (Asymmetric ingress egress) fit =
    let s = socket_law.again ingress fit.0 in
    let t = socket_law.again egress fit.1 in
    record {
      fields = s.fields ++ t.fields;
      plain = all_plain s.fields t.fields s.plain t.plain;
      text_is = rw (flat_map-append word_field s.fields t.fields, s.text_is, t.text_is) refl;
      reads = two_read ingress egress s.fields t.fields (s.reads t.fields) (second_is ingress egress t.fields t.text_is (t.reads []));
    }

pub address_law : IsLastRow IsAddress address_fields address_row
address_law = record { found = address_found; again = address_again }
